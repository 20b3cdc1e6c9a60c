-- The frames judge each node as the two readings do, so the queue holds the held nodes.
--
--   certain_sure, alive_open      a node is certain, is alive, exactly if it is selected in the sure, in the open reading
--   inside                        so what is certain is alive
--   queue_held                    the queue's numbers are the held nodes
--   front_listed                  of all the nodes, those that go out at the front are the listed ones
--
-- Assumes nothing.
use Rattle.std.specs.Prelude.{ℕ, suc, ◌≡◌, Bool}
use Rattle.std.proofs.Math.Path.{refl, ap, ap₂}
use Rattle.std.proofs.Common.{◌∙◌}
use Rattle.std.proofs.Math.Bool.{true, false}
use mathlib.Core.List.{List, [], ◌∷◌, map}
use Rattle.meaning.specs.Logic.{Imp, Both, b_cons}
use Rattle.meaning.specs.Query.{Query}
use Rattle.meaning.specs.Document.{Doc}
use Rattle.meaning.specs.Selection.{sure-reading, open-reading, start, selections}
use Rattle.meaning.proofs.Selection.Laws.{sure_possible}
use Rattle.meaning.specs.Standing.{Standing, standing, standings_of, standings, listed_from, alive_from, held_from, listed, held}
use Rattle.engine.specs.Need.{Need}
use Rattle.engine.specs.Engine.{Place, Waiting, keep_if, keep, front_if, front, past_if, past, sures, possibles, stands, certain, alive}
use Rattle.engine.specs.StateOf.{ops, frames_of, places, number, number_of, frames_at, nodes, state_of}
use Rattle.engine.proofs.StateOf.Frames.{sures_readies, possibles_readies}
use Rattle.engine.proofs.StateOf.Places.{stands_marks}

map_number : (s : Place Need → Bool) (i : ℕ) (xs : List (Place Need)) → map (λ (w : Waiting Need). s w.place) (number i xs) ≡ map s xs
unfolding number
map_number s i [] = refl
map_number s i (x ∷ xs) = ap (◌∷◌ (s x)) (map_number s (suc i) xs)

pub certain_sure : (q : Query) (d : Doc) → map (certain (ops q) (frames_at q d)) (nodes q d) ≡ selections q sure-reading d
unfolding certain nodes sures frames_at selections
certain_sure q d =
    map_number (stands (ops q) (sures (ops q) (frames_of q d start start))) 1 (places q d)
    ∙ ap (λ rs. map (stands (ops q) rs) (places q d)) (sures_readies q d start start)
    ∙ stands_marks q sure-reading d start

pub alive_open : (q : Query) (d : Doc) → map (alive (ops q) (frames_at q d)) (nodes q d) ≡ selections q open-reading d
unfolding alive nodes possibles frames_at selections
alive_open q d =
    map_number (stands (ops q) (possibles (ops q) (frames_of q d start start))) 1 (places q d)
    ∙ ap (λ rs. map (stands (ops q) rs) (places q d)) (possibles_readies q d start start)
    ∙ stands_marks q open-reading d start

-- what goes out and what stays, as numbers

module _ (c p : Waiting Need → Bool) where
  abbrev pub Inside : List (Waiting Need) → Type 0
  Inside ws = Both Imp (map c ws) (map p ws)

  abbrev Standings : List (Waiting Need) → List Standing
  Standings ws = standings_of (map c ws) (map p ws)

  -- the first node of a list, as the two tests make it
  alive_step :
      (a b : Bool) (w : Waiting Need) (ks : List (Waiting Need)) (ss : List Standing) → Imp a b →
      map number_of ks ≡ alive_from (suc w.number) ss →
      map number_of (keep_if b w ks) ≡ alive_from w.number (standing a b ∷ ss)
  unfolding keep_if standing alive_from
  alive_step true true w ks ss f e = ap (◌∷◌ w.number) e
  alive_step true false w ks ss f e = absurd (f.to tt)
  alive_step false true w ks ss f e = ap (◌∷◌ w.number) e
  alive_step false false w ks ss f e = e

  front_step :
      (a b : Bool) (w : Waiting Need) (ks : List (Waiting Need)) (ss : List Standing) → c w ≡ a → Imp a b →
      map number_of (front c ks) ≡ listed_from (suc w.number) ss →
      map number_of (front c (keep_if b w ks)) ≡ listed_from w.number (standing a b ∷ ss)
  unfolding keep_if standing listed_from front front_if
  front_step true true w ks ss k f e = ap (λ x. map number_of (front_if x w (front c ks))) k ∙ ap (◌∷◌ w.number) e
  front_step true false w ks ss k f e = absurd (f.to tt)
  front_step false true w ks ss k f e = ap (λ x. map number_of (front_if x w (front c ks))) k
  front_step false false w ks ss k f e = e

  past_step :
      (a b : Bool) (w : Waiting Need) (ks : List (Waiting Need)) (ss : List Standing) → c w ≡ a → Imp a b →
      map number_of ks ≡ alive_from (suc w.number) ss → map number_of (past c ks) ≡ held_from (suc w.number) ss →
      map number_of (past c (keep_if b w ks)) ≡ held_from w.number (standing a b ∷ ss)
  unfolding keep_if standing held_from alive_from past past_if
  past_step true true w ks ss k f l e = ap (λ x. map number_of (past_if x (w ∷ ks) (past c ks))) k ∙ e
  past_step true false w ks ss k f l e = absurd (f.to tt)
  past_step false true w ks ss k f l e = ap (λ x. map number_of (past_if x (w ∷ ks) (past c ks))) k ∙ ap (◌∷◌ w.number) l
  past_step false false w ks ss k f l e = e

  head_in : {a b : Bool} {as' bs : List Bool} → Both Imp (a ∷ as') (b ∷ bs) → Imp a b
  head_in (b_cons r t) = r

  tail_in : {a b : Bool} {as' bs : List Bool} → Both Imp (a ∷ as') (b ∷ bs) → Both Imp as' bs
  tail_in (b_cons r t) = t

  alive_numbers :
      (i : ℕ) (xs : List (Place Need)) → Inside (number i xs) →
      map number_of (keep p (number i xs)) ≡ alive_from i (Standings (number i xs))
  unfolding number keep standings_of alive_from
  alive_numbers i [] t = refl
  alive_numbers i (x ∷ xs) t = alive_step (c w) (p w) w _ (Standings (number (suc i) xs)) (head_in t) (alive_numbers (suc i) xs (tail_in t))
    where
      w : Waiting Need
      w = record { number = i; place = x }

  front_numbers :
      (i : ℕ) (xs : List (Place Need)) → Inside (number i xs) →
      map number_of (front c (keep p (number i xs))) ≡ listed_from i (Standings (number i xs))
  unfolding number keep standings_of listed_from front
  front_numbers i [] t = refl
  front_numbers i (x ∷ xs) t =
      front_step (c w) (p w) w _ (Standings (number (suc i) xs)) refl (head_in t) (front_numbers (suc i) xs (tail_in t))
    where
      w : Waiting Need
      w = record { number = i; place = x }

  past_numbers :
      (i : ℕ) (xs : List (Place Need)) → Inside (number i xs) →
      map number_of (past c (keep p (number i xs))) ≡ held_from i (Standings (number i xs))
  unfolding number keep standings_of held_from past
  past_numbers i [] t = refl
  past_numbers i (x ∷ xs) t =
      past_step (c w) (p w) w _ (Standings (number (suc i) xs)) refl (head_in t) (alive_numbers (suc i) xs (tail_in t))
      (past_numbers (suc i) xs (tail_in t))
    where
      w : Waiting Need
      w = record { number = i; place = x }

pub inside : (q : Query) (d : Doc) → Inside (certain (ops q) (frames_at q d)) (alive (ops q) (frames_at q d)) (nodes q d)
inside q d = rw (certain_sure q d, alive_open q d) (sure_possible q d)

pub queue_held : (q : Query) (d : Doc) → map (λ w. w.number) (state_of q d).queue ≡ held q d
unfolding state_of nodes held standings
queue_held q d =
    past_numbers (certain (ops q) (frames_at q d)) (alive (ops q) (frames_at q d)) 1 (places q d) (unfold nodes in inside q d)
    ∙ ap₂ (λ cs ps. held_from 1 (standings_of cs ps)) (certain_sure q d) (alive_open q d)

pub front_listed :
    (q : Query) (d : Doc) →
    map (λ w. w.number) (front (certain (ops q) (frames_at q d)) (keep (alive (ops q) (frames_at q d)) (nodes q d))) ≡ listed q d
unfolding nodes listed standings
front_listed q d =
    front_numbers (certain (ops q) (frames_at q d)) (alive (ops q) (frames_at q d)) 1 (places q d) (unfold nodes in inside q d)
    ∙ ap₂ (λ cs ps. listed_from 1 (standings_of cs ps)) (certain_sure q d) (alive_open q d)
