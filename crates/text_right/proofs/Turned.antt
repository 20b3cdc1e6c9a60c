-- A turn, the bytes that a loop goes over and the one after them, and where a text begins.
--
--   begin_sound, begin_state       at the start of a text the reader is sound, and stands for the machine's start
--   Turns k T at t       from the state k on the machine reads the bytes of t from `at` on up to where the turn T ends, with its events and to its state; and
--                        where T is refused, it refuses the byte there
--   turn_right           a turn of the code is so for the machine
--
-- Assumes nothing.
use Rattle.std.specs.Prelude.{ℕ, suc, ◌+◌, ◌<◌, ◌≡◌, List, [], ◌∷◌, ◌++◌, eqb, leb}
use Rattle.std.proofs.Common.{arith, ◌∙◌, subst, append_assoc, append-nil, length-drop, drop-drop, get_or-drop}
use Rattle.std.proofs.Math.Numerals.{add-one}
use Rattle.std.proofs.Math.Path.{refl, sym, ap}
use Rattle.std.proofs.Math.ListN.{length, get_or, drop}
use Rattle.std.proofs.Math.Seq.{drop-cons, drop-append_seam}
use borrow.Author.Tests.{eq-eqb, ne_eqb, leb-false}
use Rattle.choice.specs.When.{when_known, when_true, when_false}
use Rattle.xml.specs.Machine.{State, step, stopped, stands, given, next, run}
use Rattle.xml.specs.Limited.{bounds}
use Rattle.modes.specs.declared.Mode.TheVariants as mode
use Rattle.modes.specs.declared.Prolog.TheVariants as prolog
use Rattle.modes.specs.declared.Reader.{Reader}
use Rattle.modes.specs.Moves.{open_at}
use Rattle.tags.specs.Markup.{Ticked}
use Rattle.tick.specs.Tick.{tick}
use Rattle.walk.specs.Walk.{walked}
use Rattle.walk.specs.Turn.{Turned, ticked_at, here_after, turned_from, turned}
use Rattle.text_right.specs.Marked.{marks_table}
use Rattle.text_right.specs.Stands.{prolog_state, state_in, state_of, evs_in, evs_of}
use Rattle.text_right.specs.Sound.{FitsIn, Fits, Sound}
use Rattle.text_right.proofs.Matched.{Matches, Ticks}
use Rattle.text_right.proofs.Frames.{open_is}
use Rattle.text_right.proofs.Right.{tick_right}
use Rattle.text_right.proofs.Quiet.{Bytes}
use Rattle.text_right.proofs.Walked.{walked_quiet, walk_run, walk_sound}

module _ (r : Reader) (R : List ℕ) (e : r.mode ≡ mode.Prolog prolog.Start) (at : r.place ≡ 0) where
  pub begin_sound : length R ≡ 18_496 → Sound r R
  begin_sound l =
      record {
        kept = record { long = l; filled = λ s m. absurd (none s (subst (λ p. s < open_at p) at m)) };
        fits = subst (Fits R r) (sym e) (Fits.prolog' at FitsIn.start);
      }
    where
      none : (s : ℕ) → s < open_at 0 → ⊥
      none s m = omega (arith, open_is 0 (omega arith))

  pub begin_state : state_of r R ≡ State.start
  unfolding state_in prolog_state
  begin_state = ap (state_in R r.back r.place r.count r.row r.n) e

-- v are the bytes that are taken, and b is a refused one
pub data Turns (k : State) (T : Turned) (at : ℕ) (t : List ℕ) : Type 0 where
  on :
      (v : List ℕ)
      → T.reader.refusal ≡ 0
      → drop at t ≡ v ++ drop T.at t
      → run bounds v k ≡ stands (evs_of T.reader T.room) (state_of T.reader T.room)
      → Sound T.reader T.room
      → Turns k T at t
  stops :
      (v w : List ℕ) (b : ℕ)
      → 0 < T.reader.refusal
      → drop at t ≡ v ++ drop T.at t
      → drop T.at t ≡ b ∷ w
      → run bounds (v ++ (b ∷ [])) k ≡ stopped [] T.reader.refusal (b ∷ [])
      → Turns k T at t

-- one byte, at the place n of the text, behind the bytes v, after which the machine is in the state j
module _ (k j : State) (t v : List ℕ) (at n : ℕ) (e : drop at t ≡ v ++ drop n t) (f : (u : List ℕ) → run bounds (v ++ u) k ≡ run bounds u j) where
  ticked_right : (x : Ticked) → n < length t → Ticks (step bounds j (get_or t n 0)) x → Turns k (ticked_at x n) at t
  unfolding run next ticked_at given
  ticked_right x l (Matches.moves z g h) =
      let b = get_or t n 0 in
      let one = when_true (eqb x.reader.refusal 0) (n + 1) n (eq-eqb _ 0 z) in
      Turns.on (v ++ (b ∷ [])) z
      (e
      ∙ ap (λ u. v ++ u) (drop-cons t n 0 l)
      ∙ sym (append_assoc v (b ∷ []) (drop (suc n) t))
      ∙ ap (λ i. (v ++ (b ∷ [])) ++ drop i t) (sym (one ∙ add-one n)))
      (f (b ∷ [])
      ∙ ap (λ o. next o (run bounds []) (b ∷ [])) g
      ∙ ap (λ es. stands es (state_of x.reader x.room)) (append-nil (evs_of x.reader x.room)))
      h
  ticked_right x l (Matches.stops z g) =
      let b = get_or t n 0 in
      let none = when_false (eqb x.reader.refusal 0) (n + 1) n (ne_eqb x.reader.refusal 0 (λ q. omega arith)) in
      Turns.stops v (drop (suc n) t) b z (e ∙ ap (λ i. v ++ drop i t) (sym none)) (ap (λ i. drop i t) none ∙ drop-cons t n 0 l)
      (f (b ∷ []) ∙ ap (λ o. next o (run bounds []) (b ∷ [])) g)

module _ (r : Reader) (R t : List ℕ) (at : ℕ) (s : Sound r R) (bytes : Bytes t) where
  pub part : Bytes (drop at t)
  part =
      record {
        each =
            λ i h.
            let k : i < length (drop at t) = h in
            subst (λ x. x < 256) (sym (get_or-drop at t i 0)) (bytes.each (at + i) (omega (arith, length-drop at t)));
      }

  -- what the loop left of the text
  left : drop at t ≡ (walked_quiet r R (drop at t) at s).over ++ drop (walked marks_table r at (drop at t) R).at t
  left =
      let q = walked_quiet r R (drop at t) at s in
      q.split
      ∙ ap (λ u. q.over ++ u)
      (sym (ap (drop (length q.over)) q.split ∙ drop-append_seam q.over q.rest)
      ∙ drop-drop (length q.over) at t
      ∙ ap (λ n. drop n t) (sym q.far))

  pub turn_right : Turns (state_of r R) (turned marks_table r t at R) at t
  unfolding turned turned_from evs_in run
  turn_right =
      let w = walked marks_table r at (drop at t) R in
      let q = walked_quiet r R (drop at t) at s in
      let ok = walk_sound r R (drop at t) at s part in
      let over = walk_run r R (drop at t) at s part in
      when_known (λ T. Turns (state_of r R) T at t) (leb (length t) w.at) _ _
      (λ e. Turns.on q.over refl left (ap (λ u. run bounds u (state_of r R)) (sym (append-nil q.over)) ∙ over []) ok)
      (λ e.
      let k : (walked marks_table r at (drop at t) R).at < length t = leb-false _ _ e in
      ticked_right (state_of r R) (state_of (here_after r w) w.room) t q.over at w.at left over
      (tick marks_table (here_after r w) (get_or t w.at 0) w.room) k
      (tick_right (here_after r w) w.room (get_or t w.at 0) ok (bytes.each w.at k)))
