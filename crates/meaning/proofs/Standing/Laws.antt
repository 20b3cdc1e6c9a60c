-- What is listed and what is held, node by node; order, growth and counts.
--
--   StandAt ss i n s       node n has the standing s, in a list of standings whose first is for node i
--   listed_is, is_listed   listed exactly if certain with no undecided node before
--   held_is, is_held       held exactly if not ruled out and it or an earlier node undecided
--   ruled_is, is_ruled     in ruled_from exactly if ruled out
--   placed                 an opened node is listed, or held, or ruled out
--   Rising i xs            xs rises, from i on: document order, each node once
--   listed_rising          the list does; held_rising, ruled_rising: and so do the nodes held and those ruled out
--   listed_within          no number in the list is past the last node's
--   listed_grows           the list only ever grows at its end
--   stand_intro, stand_elim, stand_get     a node's standing by the two tests for it
--   standings_add_up       opened = handed out + ruled out + held
--
-- Assumes nothing. These are facts of lists; the words of continuations are in Demands.
use Rattle.std.specs.Prelude.{ℕ, zero, suc, ◌+◌, ◌≤◌, ◌<◌, ◌⊎◌, ◌≡◌, refl, Bool, true, false, not, T, length, get_or}
use Rattle.std.proofs.Common.{zero-le, suc-le-suc, add-zero, add-suc, suc-add, le_of_suc-le-suc, not-suc-le-zero, arith, inl, inr, sym, ap, ◌∙◌, subst}
use mathlib.Core.List.Memᴰ
use mathlib.Core.List.{List, [], ◌∷◌, ◌++◌, Memᴰ}
use Rattle.meaning.specs.Logic.{Imp, Pmi, Pre, p_cons, Both, b_nil, b_cons}
use Rattle.meaning.specs.Standing.{Standing, certain, undecided, ruled_out, standing, standings_of, listed_from, alive_from, held_from, ruled_from}

pub data StandAt : List Standing → ℕ → ℕ → Standing → Type 0 where
  at_here : {s : Standing} {ss : List Standing} {i : ℕ} → StandAt (s ∷ ss) i i s
  at_there : {s t : Standing} {ss : List Standing} {i n : ℕ} → StandAt ss (suc i) n s → StandAt (t ∷ ss) i n s

pub stand_from : {ss : List Standing} {i n : ℕ} {s : Standing} → StandAt ss i n s → i ≤ n
stand_from (at_here {i}) = omega arith
stand_from (at_there {i} {n} a) = let h : suc i ≤ n = stand_from a in omega arith

-- a node not ruled out
pub data Alive : Standing → Type 0 where
  certain_alive : Alive certain
  undecided_alive : Alive undecided

pub record Listing (ss : List Standing) (i n : ℕ) : Type 0 where
  pub certain_at : StandAt ss i n certain
  pub clear : (m : ℕ) → StandAt ss i m undecided → n < m

-- a standing that is not undecided
pub data Decided : Standing → Type 0 where
  certain_decided : Decided certain
  ruled_out_decided : Decided ruled_out

past_decided : {t : Standing} {ss : List Standing} {i m : ℕ} → Decided t → StandAt (t ∷ ss) i m undecided → StandAt ss (suc i) m undecided
past_decided certain_decided (at_there a) = a
past_decided ruled_out_decided (at_there a) = a

listing_next : {t : Standing} {ss : List Standing} {i n : ℕ} → Decided t → Listing ss (suc i) n → Listing (t ∷ ss) i n
listing_next d l = record { certain_at = at_there l.certain_at; clear = λ m a. l.clear m (past_decided d a) }

listing_here : (ss : List Standing) (i : ℕ) → Listing (certain ∷ ss) i i
listing_here ss i = record { certain_at = at_here; clear = λ m a. stand_from (past_decided certain_decided a) }

pub listed_is : (ss : List Standing) (i : ℕ) {n : ℕ} → Memᴰ n (listed_from i ss) → Listing ss i n
unfolding listed_from
listed_is [] i m = absurd (Memᴰ.not-nil m)
listed_is (certain ∷ ss) i {n} m = go (Memᴰ.cases_cons m) (listed_is ss (suc i))
  where
    go : (n ≡ i) ⊎ Memᴰ n (listed_from (suc i) ss) → (Memᴰ n (listed_from (suc i) ss) → Listing ss (suc i) n) → Listing (certain ∷ ss) i n
    go (inl e) f = subst (Listing (certain ∷ ss) i) (sym e) (listing_here ss i)
    go (inr t) f = listing_next certain_decided (f t)
listed_is (undecided ∷ ss) i m = absurd (Memᴰ.not-nil m)
listed_is (ruled_out ∷ ss) i m = listing_next ruled_out_decided (listed_is ss (suc i) m)

pub is_listed : {ss : List Standing} {i n : ℕ} → StandAt ss i n certain → ((m : ℕ) → StandAt ss i m undecided → n < m) → Memᴰ n (listed_from i ss)
unfolding listed_from
is_listed at_here f = Memᴰ.head refl
is_listed (at_there {t = certain} a) f = Memᴰ.tail (is_listed a (λ m b. f m (at_there b)))
is_listed (at_there {t = undecided} {i} {n} a) f =
    let h : n < i = f i at_here in
    let l : suc i ≤ n = stand_from a in
    absurd (omega arith)
is_listed (at_there {t = ruled_out} a) f = is_listed a (λ m b. f m (at_there b))

-- held
pub record Living (ss : List Standing) (i n : ℕ) : Type 0 where
  pub standing : Standing
  pub alive : Alive standing
  pub at : StandAt ss i n standing

pub record Holding (ss : List Standing) (i n : ℕ) : Type 0 where
  pub living : Living ss i n
  pub cause : ℕ
  pub before : cause ≤ n
  pub undecided_at : StandAt ss i cause undecided

living_next : {t : Standing} {ss : List Standing} {i n : ℕ} → Living ss (suc i) n → Living (t ∷ ss) i n
living_next l = record { standing = l.standing; alive = l.alive; at = at_there l.at }

living_here : {t : Standing} (ss : List Standing) {i n : ℕ} → Alive t → n ≡ i → Living (t ∷ ss) i n
living_here {t} ss {i} a e = subst (Living (t ∷ ss) i) (sym e) (record { standing = t; alive = a; at = at_here })

living_cons :
    {t : Standing} {ss : List Standing} {i n : ℕ} (ns : List ℕ) → Alive t → (Memᴰ n ns → Living ss (suc i) n) →
    Memᴰ n (i ∷ ns) → Living (t ∷ ss) i n
living_cons {t} {ss} {i} {n} ns a f m = go (Memᴰ.cases_cons m)
  where
    go : (n ≡ i) ⊎ Memᴰ n ns → Living (t ∷ ss) i n
    go (inl e) = living_here ss a e
    go (inr u) = living_next (f u)

alive_is : (ss : List Standing) (i : ℕ) {n : ℕ} → Memᴰ n (alive_from i ss) → Living ss i n
unfolding alive_from
alive_is [] i m = absurd (Memᴰ.not-nil m)
alive_is (certain ∷ ss) i m = living_cons (alive_from (suc i) ss) certain_alive (alive_is ss (suc i)) m
alive_is (undecided ∷ ss) i m = living_cons (alive_from (suc i) ss) undecided_alive (alive_is ss (suc i)) m
alive_is (ruled_out ∷ ss) i m = living_next (alive_is ss (suc i) m)

is_alive : {ss : List Standing} {i n : ℕ} {s : Standing} → Alive s → StandAt ss i n s → Memᴰ n (alive_from i ss)
unfolding alive_from
is_alive certain_alive at_here = Memᴰ.head refl
is_alive undecided_alive at_here = Memᴰ.head refl
is_alive v (at_there {t = certain} a) = Memᴰ.tail (is_alive v a)
is_alive v (at_there {t = undecided} a) = Memᴰ.tail (is_alive v a)
is_alive v (at_there {t = ruled_out} a) = is_alive v a

holding_next : {t : Standing} {ss : List Standing} {i n : ℕ} → Holding ss (suc i) n → Holding (t ∷ ss) i n
holding_next h =
    record { living = living_next h.living; cause = h.cause; before = h.before; undecided_at = at_there h.undecided_at }

pub held_is : (ss : List Standing) (i : ℕ) {n : ℕ} → Memᴰ n (held_from i ss) → Holding ss i n
unfolding held_from
held_is [] i m = absurd (Memᴰ.not-nil m)
held_is (certain ∷ ss) i m = holding_next (held_is ss (suc i) m)
held_is (undecided ∷ ss) i m =
    let l = alive_is (undecided ∷ ss) i m in
    record { living = l; cause = i; before = stand_from l.at; undecided_at = at_here }
held_is (ruled_out ∷ ss) i m = holding_next (held_is ss (suc i) m)

-- a node not before one of the tail is in the tail
past : {s t u : Standing} {ss : List Standing} {i m n : ℕ} → m ≤ n → StandAt ss (suc i) m u → StandAt (t ∷ ss) i n s → StandAt ss (suc i) n s
past {m} h b (at_here {i}) = let l : suc i ≤ m = stand_from b in absurd (omega arith)
past h b (at_there a) = a

pub is_held :
    (ss : List Standing) (i n m : ℕ) {s : Standing} → Alive s → StandAt ss i n s → m ≤ n → StandAt ss i m undecided → Memᴰ n (held_from i ss)
unfolding held_from
is_held [] i n m v a h u = elim a [ ]
is_held (certain ∷ ss) i n m v a h u =
    let w = past_decided certain_decided u in is_held ss (suc i) n m v (past h w a) h w
is_held (undecided ∷ ss) i n m v a h u = is_alive v a
is_held (ruled_out ∷ ss) i n m v a h u =
    let w = past_decided ruled_out_decided u in is_held ss (suc i) n m v (past h w a) h w

-- every opened node is listed, held or ruled out
pub data Place (ss : List Standing) (i n : ℕ) : Standing → Type 0 where
  is_in_list : {s : Standing} → Memᴰ n (listed_from i ss) → Place ss i n s
  is_in_hold : {s : Standing} → Memᴰ n (held_from i ss) → Place ss i n s
  is_out : Place ss i n ruled_out

pub placed : (ss : List Standing) (i : ℕ) {n : ℕ} {s : Standing} → StandAt ss i n s → Place ss i n s
unfolding listed_from held_from
placed [] i a = elim a [ ]
placed (certain ∷ ss) i at_here = is_in_list (Memᴰ.head refl)
placed (certain ∷ ss) i {n} {s} (at_there a) = go (placed ss (suc i) a)
  where
    go : {s : Standing} → Place ss (suc i) n s → Place (certain ∷ ss) i n s
    go (is_in_list m) = is_in_list (Memᴰ.tail m)
    go (is_in_hold m) = is_in_hold m
    go is_out = is_out
placed (undecided ∷ ss) i {n} {s} a = go s a
  where
    go : (s : Standing) → StandAt (undecided ∷ ss) i n s → Place (undecided ∷ ss) i n s
    go certain b = is_in_hold (is_alive certain_alive b)
    go undecided b = is_in_hold (is_alive undecided_alive b)
    go ruled_out b = is_out
placed (ruled_out ∷ ss) i at_here = is_out
placed (ruled_out ∷ ss) i {n} {s} (at_there a) = go (placed ss (suc i) a)
  where
    go : {s : Standing} → Place ss (suc i) n s → Place (ruled_out ∷ ss) i n s
    go (is_in_list m) = is_in_list m
    go (is_in_hold m) = is_in_hold m
    go is_out = is_out

-- ruled out
pub ruled_is : (ss : List Standing) (i : ℕ) {n : ℕ} → Memᴰ n (ruled_from i ss) → StandAt ss i n ruled_out
unfolding ruled_from
ruled_is [] i m = absurd (Memᴰ.not-nil m)
ruled_is (certain ∷ ss) i m = at_there (ruled_is ss (suc i) m)
ruled_is (undecided ∷ ss) i m = at_there (ruled_is ss (suc i) m)
ruled_is (ruled_out ∷ ss) i {n} m = go (Memᴰ.cases_cons m) (ruled_is ss (suc i))
  where
    go :
        (n ≡ i) ⊎ Memᴰ n (ruled_from (suc i) ss) → (Memᴰ n (ruled_from (suc i) ss) → StandAt ss (suc i) n ruled_out) →
        StandAt (ruled_out ∷ ss) i n ruled_out
    go (inl e) f = subst (λ k. StandAt (ruled_out ∷ ss) i k ruled_out) (sym e) at_here
    go (inr u) f = at_there (f u)

pub is_ruled : {ss : List Standing} {i n : ℕ} → StandAt ss i n ruled_out → Memᴰ n (ruled_from i ss)
unfolding ruled_from
is_ruled at_here = Memᴰ.head refl
is_ruled (at_there {t = certain} a) = is_ruled a
is_ruled (at_there {t = undecided} a) = is_ruled a
is_ruled (at_there {t = ruled_out} a) = Memᴰ.tail (is_ruled a)

-- order
pub data Rising : ℕ → List ℕ → Type 0 where
  r_nil : {i : ℕ} → Rising i []
  r_cons : {i x : ℕ} {xs : List ℕ} → i ≤ x → Rising (suc x) xs → Rising i (x ∷ xs)

rising_lower : {i j : ℕ} {xs : List ℕ} → i ≤ j → Rising j xs → Rising i xs
rising_lower h r_nil = r_nil
rising_lower {i} h (r_cons {x} l r) = r_cons {i = i} {x = x} (omega arith) r

pub listed_rising : (i : ℕ) (ss : List Standing) → Rising i (listed_from i ss)
unfolding listed_from
listed_rising i [] = r_nil
listed_rising i (certain ∷ ss) = r_cons {i = i} {x = i} (omega arith) (listed_rising (suc i) ss)
listed_rising i (undecided ∷ ss) = r_nil
listed_rising i (ruled_out ∷ ss) = rising_lower {i = i} {j = suc i} (omega arith) (listed_rising (suc i) ss)

alive_rising : (i : ℕ) (ss : List Standing) → Rising i (alive_from i ss)
unfolding alive_from
alive_rising i [] = r_nil
alive_rising i (certain ∷ ss) = r_cons {i = i} {x = i} (omega arith) (alive_rising (suc i) ss)
alive_rising i (undecided ∷ ss) = r_cons {i = i} {x = i} (omega arith) (alive_rising (suc i) ss)
alive_rising i (ruled_out ∷ ss) = rising_lower {i = i} {j = suc i} (omega arith) (alive_rising (suc i) ss)

pub held_rising : (i : ℕ) (ss : List Standing) → Rising i (held_from i ss)
unfolding held_from
held_rising i [] = r_nil
held_rising i (certain ∷ ss) = rising_lower {i = i} {j = suc i} (omega arith) (held_rising (suc i) ss)
held_rising i (undecided ∷ ss) = alive_rising i (undecided ∷ ss)
held_rising i (ruled_out ∷ ss) = rising_lower {i = i} {j = suc i} (omega arith) (held_rising (suc i) ss)

pub ruled_rising : (i : ℕ) (ss : List Standing) → Rising i (ruled_from i ss)
unfolding ruled_from
ruled_rising i [] = r_nil
ruled_rising i (certain ∷ ss) = rising_lower {i = i} {j = suc i} (omega arith) (ruled_rising (suc i) ss)
ruled_rising i (undecided ∷ ss) = rising_lower {i = i} {j = suc i} (omega arith) (ruled_rising (suc i) ss)
ruled_rising i (ruled_out ∷ ss) = r_cons {i = i} {x = i} (omega arith) (ruled_rising (suc i) ss)

pub listed_within : (i : ℕ) (ss : List Standing) (j : ℕ) → get_or (listed_from i ss) j 0 ≤ i + length ss
unfolding listed_from
listed_within i [] j = omega arith
listed_within i (certain ∷ ss) zero = omega arith
listed_within i (certain ∷ ss) (suc j) = omega (arith, listed_within (suc i) ss j)
listed_within i (undecided ∷ ss) j = omega arith
listed_within i (ruled_out ∷ ss) j = omega (arith, listed_within (suc i) ss j)

-- growth: certain stays certain and ruled out stays ruled out, so the list keeps what it has
pub data Settles : Standing → Standing → Type 0 where
  stays_certain : Settles certain certain
  stays_out : Settles ruled_out ruled_out
  may_settle : {t : Standing} → Settles undecided t

pub data Settling : List Standing → List Standing → Type 0 where
  t_nil : {ts : List Standing} → Settling [] ts
  t_cons : {s t : Standing} {ss ts : List Standing} → Settles s t → Settling ss ts → Settling (s ∷ ss) (t ∷ ts)

pub listed_grows : {ss ts : List Standing} (i : ℕ) → Settling ss ts → (more : List ℕ) × (listed_from i ts ≡ listed_from i ss ++ more)
unfolding listed_from
listed_grows i (t_nil {ts}) = (listed_from i ts, refl)
listed_grows i (t_cons stays_certain x) = let r = listed_grows (suc i) x in (r.0, ap (◌∷◌ i) r.1)
listed_grows i (t_cons stays_out x) = listed_grows (suc i) x
listed_grows i (t_cons {t} {ts} may_settle x) = (listed_from i (t ∷ ts), refl)

settles : (a a' b b' : Bool) → Imp a a' → Pmi b b' → Imp a' b' → Settles (standing a b) (standing a' b')
unfolding standing
settles true true b b' f g h = stays_certain
settles true false b b' f g h = absurd (f.to tt)
settles false a' true b' f g h = may_settle
settles false true false b' f g h = absurd (g.back (h.to tt))
settles false false false true f g h = absurd (g.back tt)
settles false false false false f g h = stays_out

pub standings_settle :
    {as' bs cs ds : List Bool} → Both Imp as' bs → Pre Imp as' cs → Pre Pmi bs ds → Both Imp cs ds → Settling (standings_of as' bs) (standings_of cs ds)
unfolding standings_of
standings_settle b_nil p q b = t_nil
standings_settle (b_cons x y) (p_cons f p) (p_cons g q) (b_cons h b) = t_cons (settles _ _ _ _ f g h) (standings_settle y p q b)

-- counts
alive_count : (i : ℕ) (ss : List Standing) → length (ruled_from i ss) + length (alive_from i ss) ≡ length ss
unfolding ruled_from alive_from
alive_count i [] = refl
alive_count i (certain ∷ ss) = let e : length (ruled_from (suc i) ss) + length (alive_from (suc i) ss) ≡ length ss = alive_count (suc i) ss in omega arith
alive_count i (undecided ∷ ss) = let e : length (ruled_from (suc i) ss) + length (alive_from (suc i) ss) ≡ length ss = alive_count (suc i) ss in omega arith
alive_count i (ruled_out ∷ ss) = let e : length (ruled_from (suc i) ss) + length (alive_from (suc i) ss) ≡ length ss = alive_count (suc i) ss in omega arith

pub standings_add_up : (i : ℕ) (ss : List Standing) → length (listed_from i ss) + length (ruled_from i ss) + length (held_from i ss) ≡ length ss
unfolding listed_from ruled_from held_from
standings_add_up i [] = refl
standings_add_up i (certain ∷ ss) =
    let e : length (listed_from (suc i) ss) + length (ruled_from (suc i) ss) + length (held_from (suc i) ss) ≡ length ss = standings_add_up (suc i) ss in
    omega arith
standings_add_up i (undecided ∷ ss) = omega (arith, alive_count i (undecided ∷ ss))
standings_add_up i (ruled_out ∷ ss) =
    let e : length (listed_from (suc i) ss) + length (ruled_from (suc i) ss) + length (held_from (suc i) ss) ≡ length ss = standings_add_up (suc i) ss in
    omega arith

-- a node's standing, by the two tests for it
pub stand_intro :
    {as' bs : List Bool} → Both Imp as' bs → (i k : ℕ) → k < length as' →
    StandAt (standings_of as' bs) i (i + k) (standing (get_or as' k false) (get_or bs k false))
unfolding standings_of
stand_intro b_nil i k h = absurd (not-suc-le-zero h)
stand_intro (b_cons {a} {b} {as'} {bs} f x) i zero h =
    subst (λ n. StandAt (standing a b ∷ standings_of as' bs) i n (standing a b)) (sym (add-zero i)) at_here
stand_intro (b_cons {a} {b} {as'} {bs} f x) i (suc k) h =
    subst (λ n. StandAt (standing a b ∷ standings_of as' bs) i n (standing (get_or as' k false) (get_or bs k false))) (suc-add i k ∙ sym (add-suc i k))
    (at_there (stand_intro x (suc i) k (le_of_suc-le-suc h)))

pub record Tested (as' bs : List Bool) (i n : ℕ) (s : Standing) : Type 0 where
  pub place : ℕ
  pub number : n ≡ i + place
  pub within : place < length as'
  pub standing_is : s ≡ standing (get_or as' place false) (get_or bs place false)

tested_next : {a b : Bool} {as' bs : List Bool} {i n : ℕ} {s : Standing} → Tested as' bs (suc i) n s → Tested (a ∷ as') (b ∷ bs) i n s
tested_next {i} t =
    record {
      place = suc t.place;
      number = t.number ∙ suc-add i t.place ∙ sym (add-suc i t.place);
      within = suc-le-suc t.within;
      standing_is = t.standing_is;
    }

pub stand_elim : (as' bs : List Bool) {i n : ℕ} {s : Standing} → StandAt (standings_of as' bs) i n s → Tested as' bs i n s
unfolding standings_of
stand_elim [] bs x = elim x [ ]
stand_elim (a ∷ as') [] x = elim x [ ]
stand_elim (a ∷ as') (b ∷ bs) (at_here {i}) =
    record { place = 0; number = sym (add-zero i); within = suc-le-suc zero-le; standing_is = refl }
stand_elim (a ∷ as') (b ∷ bs) (at_there x) = tested_next (stand_elim as' bs x)

pub stand_get :
    {as' bs : List Bool} → Both Imp as' bs → (k : ℕ) → get_or (standings_of as' bs) k ruled_out ≡ standing (get_or as' k false) (get_or bs k false)
unfolding standings_of standing
stand_get b_nil k = refl
stand_get (b_cons f x) zero = refl
stand_get (b_cons f x) (suc k) = stand_get x k

pub certain_test : (a b : Bool) → certain ≡ standing a b → T a
unfolding standing
certain_test true b e = tt
certain_test false true e = let z : ◌≡◌ {A = ℕ} 0 1 = cc in absurd (omega arith)
certain_test false false e = let z : ◌≡◌ {A = ℕ} 0 1 = cc in absurd (omega arith)

pub undecided_test : (a b : Bool) → undecided ≡ standing a b → T (not a) × T b
unfolding standing
undecided_test true b e = let z : ◌≡◌ {A = ℕ} 0 1 = cc in absurd (omega arith)
undecided_test false true e = (tt, tt)
undecided_test false false e = let z : ◌≡◌ {A = ℕ} 0 1 = cc in absurd (omega arith)

pub ruled_out_test : (a b : Bool) → ruled_out ≡ standing a b → T (not b)
unfolding standing
ruled_out_test true b e = let z : ◌≡◌ {A = ℕ} 0 1 = cc in absurd (omega arith)
ruled_out_test false true e = let z : ◌≡◌ {A = ℕ} 0 1 = cc in absurd (omega arith)
ruled_out_test false false e = tt

pub alive_test : (a b : Bool) → Imp a b → {s : Standing} → Alive s → s ≡ standing a b → T b
alive_test a b f certain_alive e = f.to (certain_test a b e)
alive_test a b f undecided_alive e = (undecided_test a b e).1

pub test_alive : (a b : Bool) → T b → Alive (standing a b)
unfolding standing
test_alive true b t = certain_alive
test_alive false true t = undecided_alive
test_alive false false t = absurd t

pub test_certain : (a b : Bool) → T a → standing a b ≡ certain
unfolding standing
test_certain true b t = refl
test_certain false b t = absurd t

pub test_undecided : (a b : Bool) → T (not a) → T b → standing a b ≡ undecided
unfolding standing
test_undecided true b t u = absurd t
test_undecided false true t u = refl
test_undecided false false t u = absurd u

pub test_ruled_out : (a b : Bool) → Imp a b → T (not b) → standing a b ≡ ruled_out
unfolding standing
test_ruled_out a true f t = absurd t
test_ruled_out true false f t = absurd (f.to tt)
test_ruled_out false false f t = refl

pub length_standings_of : {as' bs : List Bool} → Both Imp as' bs → length (standings_of as' bs) ≡ length as'
unfolding standings_of
length_standings_of b_nil = refl
length_standings_of (b_cons f x) = ap suc (length_standings_of x)
