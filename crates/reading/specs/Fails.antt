-- Where a spelling breaks off: a byte with which what has come goes on as none of the rows.
--
--   left_fails, first_fails, fails_left     what is left of the rows after that byte is nothing
--   fails_character            a form of UTF-8 that breaks off behind its first byte breaks off as a Char
--   unlike_character           so does a byte that begins no form of UTF-8 and fails a test that all of ASCII passes
--   data_unlike, note_unlike, value_unlike    in character data, in a comment and in a value the cases before the last one are such a test
--
-- Assumes nothing.
use Rattle.std.specs.Prelude.{ℕ, ◌<◌, ◌≡◌, refl, Bool, true, false, not, ◌||◌, T, eqb}
use Rattle.std.proofs.Common.{arith, sym, ap, ◌∙◌, subst}
use mathlib.Core.List.{List, [], ◌∷◌, ◌++◌, cons≢nil, tail}
use Rattle.xml.specs.Class.{Rows, in_class, In, OneOf, this, that, Spells, end, place, derive, sound, waiting}
use Rattle.xml.proofs.Class.Laws.{derive_back, derive_on, derive_sound, some_spelling, waiting_filled}
use Rattle.xml.specs.Chars.{utf8, no_dash, plain, unquoted, quote}
use Rattle.xml.specs.Sentences.{Fails}
use Rattle.xml.specs.Table.{ascii, character}
use Rattle.reading.specs.Left.{left, left_back, left_on, left_sound, none_of, filled_none, none_left, left_waiting}
use Rattle.reading.specs.Within.{Within, here, there, in_within, all_below, all_below_lem}

some_longer : (rs : Rows) (w : List ℕ) → T (waiting (left w rs)) → (c : ℕ) × (v : List ℕ) × OneOf rs (w ++ (c ∷ v))
some_longer rs w u = let (v, o) = some_spelling (left w rs) u in go v o
  where
    go : (v : List ℕ) → OneOf (left w rs) v → (c : ℕ) × (v : List ℕ) × OneOf rs (w ++ (c ∷ v))
    go [] o = absurd (filled_none (left w rs) (waiting_filled (left w rs) u) o)
    go (c ∷ v) o = (c, v, left_back w rs o)

pub left_fails : (rs : Rows) (w : List ℕ) (b : ℕ) → T (waiting (left w rs)) → derive b (left w rs) ≡ [] → Fails rs w b
left_fails rs w b u e =
    record {
      begins = some_longer rs w u;
      stuck = λ v o. none_of (subst (λ z. OneOf z v) e (derive_on (left_on w rs (b ∷ v) o)));
    }

-- at its first byte
pub first_fails : (rs : Rows) (b : ℕ) → T (waiting rs) → derive b rs ≡ [] → Fails rs [] b
unfolding left
first_fails rs b u e = left_fails rs [] b u e

pub fails_waiting : (rs : Rows) (w : List ℕ) (b : ℕ) → T (sound rs) → Fails rs w b → T (waiting (left w rs))
fails_waiting rs w b t f = let (c, v, o) = f.begins in left_waiting (left w rs) c v (left_sound w rs t) (left_on w rs (c ∷ v) o)

pub fails_left : (rs : Rows) (w : List ℕ) (b : ℕ) → T (sound rs) → Fails rs w b → derive b (left w rs) ≡ []
fails_left rs w b t f =
    none_left (derive b (left w rs)) (derive_sound b (left w rs) (left_sound w rs t))
    (λ v o. f.stuck v (left_back w rs (derive_back b (left w rs) o)))

space_character : OneOf character (32 ∷ [])
unfolding in_class
space_character = this (place (record { holds = tt }) end)

-- an ASCII Char is one byte
ascii_one : {b c : ℕ} {v : List ℕ} → Spells (ascii ∷ []) (b ∷ c ∷ v) → ⊥
ascii_one h = go h refl
  where
    go : {w : List ℕ} {b c : ℕ} {v : List ℕ} → Spells (ascii ∷ []) w → w ≡ b ∷ c ∷ v → ⊥
    go (place h end) e = cons≢nil (sym (ap tail e))

wide_form : {b c : ℕ} {v : List ℕ} → OneOf character (b ∷ c ∷ v) → OneOf utf8 (b ∷ c ∷ v)
wide_form (this h) = absurd (ascii_one h)
wide_form (that h) = h

snoc_longer : (b : ℕ) (w : List ℕ) (c : ℕ) (v : List ℕ) → OneOf character (b ∷ (w ++ (c ∷ v))) → OneOf utf8 (b ∷ (w ++ (c ∷ v)))
snoc_longer b [] c v h = wide_form h
snoc_longer b (d ∷ w) c v h = wide_form h

pub fails_character : (b : ℕ) (w : List ℕ) (c : ℕ) → Fails utf8 (b ∷ w) c → Fails character (b ∷ w) c
fails_character b w c f =
    record { begins = (f.begins.0, f.begins.1, that f.begins.2); stuck = λ v h. f.stuck v (snoc_longer b w c v h) }

pub character_fails : (b : ℕ) (w : List ℕ) (c : ℕ) → Fails character (b ∷ w) c → Fails utf8 (b ∷ w) c
character_fails b w c f =
    record { begins = (f.begins.0, f.begins.1, snoc_longer b w _ _ f.begins.2); stuck = λ v h. f.stuck v (that h) }

implies : (x y : Bool) → T (not x || y) → T x → T y
implies true y t u = t
implies false y t u = absurd u

ascii_below : {b : ℕ} → Within ascii b → b < 128
ascii_below (here l h) = omega arith
ascii_below (there (here l h)) = omega arith
ascii_below (there (there (here l h))) = omega arith
ascii_below {b = b} (there (there (there x12))) = elim x12 [ ]

pub ascii_passes : (p : ℕ → Bool) → T (all_below 128 (λ b. not (in_class ascii b) || p b)) → (b : ℕ) → In ascii b → T (p b)
ascii_passes p t b h = implies (in_class ascii b) (p b) (all_below_lem 128 (λ b. not (in_class ascii b) || p b) t b (ascii_below (in_within h))) h.holds

unlike_character :
    (p : ℕ → Bool) → T (all_below 128 (λ b. not (in_class ascii b) || p b)) → (b : ℕ) → p b ≡ false → derive b utf8 ≡ [] → Fails character [] b
unlike_character p t b e f =
    record {
      begins = (32, [], space_character);
      stuck = λ v h. none v h;
    }
  where
    none : (v : List ℕ) → OneOf character (b ∷ v) → ⊥
    none v (this (place h end)) = subst T e (ascii_passes p t b h)
    none v (that h) = none_of (subst (λ z. OneOf z v) f (derive_on h))

or_false : {x y : Bool} → x ≡ false → y ≡ false → (x || y) ≡ false
or_false {x} {y} e f = ap (λ z. z || y) e ∙ f

-- what the cases before the last one of a state of characters meet
abbrev pub in_data : ℕ → Bool
in_data b = in_class plain b || (eqb b 93 || (eqb b 62 || (eqb b 60 || eqb b 38)))

abbrev pub in_note : ℕ → Bool
in_note b = in_class no_dash b || eqb b 45

abbrev in_value : Bool → ℕ → Bool
in_value q b = in_class (unquoted q) b || (eqb b (quote q) || (eqb b 38 || eqb b 60))

pub data_all : T (all_below 128 (λ b. not (in_class ascii b) || in_data b))
unfolding all_below in_class
data_all = tt

pub note_all : T (all_below 128 (λ b. not (in_class ascii b) || in_note b))
unfolding all_below in_class
note_all = tt

value_all : (q : Bool) → T (all_below 128 (λ b. not (in_class ascii b) || in_value q b))
unfolding all_below in_class
value_all true = tt
value_all false = tt

pub data_unlike :
    (b : ℕ)
    → (in_class plain b ≡ false) × (eqb b 93 ≡ false) × (eqb b 62 ≡ false) × (eqb b 60 ≡ false) × (eqb b 38 ≡ false)
    → derive b utf8 ≡ []
    → Fails character [] b
data_unlike b x e = unlike_character in_data data_all b (or_false x.0 (or_false x.1 (or_false x.2 (or_false x.3 x.4)))) e

pub note_unlike : (b : ℕ) → (in_class no_dash b ≡ false) × (eqb b 45 ≡ false) → derive b utf8 ≡ [] → Fails character [] b
note_unlike b x e = unlike_character in_note note_all b (or_false x.0 x.1) e

pub value_unlike :
    (q : Bool) (b : ℕ)
    → (in_class (unquoted q) b ≡ false) × (eqb b (quote q) ≡ false) × (eqb b 38 ≡ false) × (eqb b 60 ≡ false)
    → derive b utf8 ≡ []
    → Fails character [] b
value_unlike q b x e = unlike_character (in_value q) (value_all q) b (or_false x.0 (or_false x.1 (or_false x.2 x.3))) e
