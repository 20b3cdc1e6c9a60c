-- What is left of some rows after some bytes of them.
--
--   left w rs            what is left of the rows that can begin with w
--   left_back, left_on   what the rest spells, w and it are spelled by the rows, and the other way round
--   left_snoc            one byte more
--   left_sound, left_waiting    rows that are sound stay so, and what is left waits where something is to come
--   waiting_back         if what is left waits, so do the rows
--   none_left            sound rows that spell nothing are none;  filled_none: rows of which none is empty do not spell the empty text
--
-- Assumes nothing. NOT here: rows and one byte (crate xml, Class.Laws).
use Rattle.std.specs.Prelude.{ℕ, ◌≡◌, refl, false, ◌&&◌, T}
use mathlib.Core.List.{List, [], ◌∷◌, ◌++◌, cons≢nil}
use Rattle.xml.specs.Class.{Rows, OneOf, this, that, Spells, derive, apart, apart_from, all_apart, all_spelled, filled, some_row, sound, waiting}
use Rattle.xml.proofs.Class.Laws.{and_l, derive_back, derive_on, derive_sound, some_spelling, sound_waiting}

unfoldable pub left : List ℕ → Rows → Rows
left [] rs = rs
left (b ∷ w) rs = left w (derive b rs)

pub left_snoc : (w : List ℕ) (b : ℕ) (rs : Rows) → left (w ++ (b ∷ [])) rs ≡ derive b (left w rs)
unfolding left
left_snoc [] b rs = refl
left_snoc (c ∷ w) b rs = left_snoc w b (derive c rs)

pub left_back : (w : List ℕ) (rs : Rows) {v : List ℕ} → OneOf (left w rs) v → OneOf rs (w ++ v)
unfolding left
left_back [] rs h = h
left_back (b ∷ w) rs h = derive_back b rs (left_back w (derive b rs) h)

pub left_on : (w : List ℕ) (rs : Rows) (v : List ℕ) → OneOf rs (w ++ v) → OneOf (left w rs) v
unfolding left
left_on [] rs v h = h
left_on (b ∷ w) rs v h = left_on w (derive b rs) v (derive_on h)

pub left_sound : (w : List ℕ) (rs : Rows) → T (sound rs) → T (sound (left w rs))
unfolding left
left_sound [] rs t = t
left_sound (b ∷ w) rs t = left_sound w (derive b rs) (derive_sound b rs t)

pub none_of : {w : List ℕ} → OneOf [] w → ⊥
none_of h = go h refl
  where
    go : {rs : Rows} {w : List ℕ} → OneOf rs w → rs ≡ [] → ⊥
    go (this h) e = cons≢nil e
    go (that h) e = cons≢nil e

pub filled_none : (rs : Rows) → T (filled rs) → OneOf rs [] → ⊥
unfolding filled
filled_none ([] ∷ rs) t h = t
filled_none ((c ∷ r) ∷ rs) t (that h) = filled_none rs t h
filled_none [] t h = elim h [ ]
filled_none ((c ∷ r) ∷ rs) t (this x10) = elim x10 [ ]

-- what is spelled by nothing has no row
pub none_left : (rs : Rows) → T (sound rs) → ((v : List ℕ) → OneOf rs v → ⊥) → rs ≡ []
unfolding all_spelled all_apart some_row filled
none_left [] t f = refl
none_left ([] ∷ rs) t f = absurd (f [] (this Spells.end))
none_left ((c ∷ r) ∷ rs) t f = let (w, h) = some_spelling ((c ∷ r) ∷ rs) (sound_waiting c r rs t) in absurd (f w h)

-- something is to come, if a spelling is longer
pub left_waiting : (rs : Rows) (b : ℕ) (v : List ℕ) → T (sound rs) → OneOf rs (b ∷ v) → T (waiting rs)
unfolding all_apart apart_from apart
left_waiting [] b v t h = absurd (none_of h)
left_waiting ([] ∷ []) b v t (that h) = absurd (none_of h)
left_waiting ([] ∷ (r ∷ rs)) b v t h = absurd (and_l (false && all_apart (r ∷ rs)) (all_spelled ([] ∷ (r ∷ rs))) t)
left_waiting ((c ∷ r) ∷ rs) b v t h = sound_waiting c r rs t
left_waiting ([] ∷ []) b v t (this x6) = elim x6 [ ]

derived_waiting : (b : ℕ) (rs : Rows) → T (sound rs) → T (waiting (derive b rs)) → T (waiting rs)
derived_waiting b rs t u = let (v, h) = some_spelling (derive b rs) u in left_waiting rs b v t (derive_back b rs h)

pub waiting_back : (w : List ℕ) (rs : Rows) → T (sound rs) → T (waiting (left w rs)) → T (waiting rs)
unfolding left
waiting_back [] rs t u = u
waiting_back (b ∷ w) rs t u = derived_waiting b rs t (waiting_back w (derive b rs) (derive_sound b rs t) u)
