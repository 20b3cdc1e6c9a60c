-- What a byte did in the machine and in the code, side by side.
--
--   Matches o x R          the outcome o is that of the reader x and the room R;  Ticks o x: of both together
--   lift, turn             an outcome, or a reader, that equals one that matches
--   both, both_ticks       where the two ask the same
--   by_test, by_ticks      where the code alone asks
--   place_before, place_after, place_inner      the places by their numbers
--   only_is                the class of one byte
--   tuned r k row n        the reader with a count, a row and a number of bytes
--   word_on, word_step      a byte of one spelling
--
-- Assumes nothing.
use Rattle.std.specs.Prelude.{ℕ, ◌-◌, ◌≤◌, ◌<◌, ◌≡◌, refl, Bool, true, false, ◌&&◌, ◌||◌, List, [], ◌∷◌, eqb, leb}
use Rattle.std.proofs.Common.{arith, sym, ap, ◌∙◌, subst, eq-eqb, ne_eqb, eqb-true, le-leb, leb-true}
use Rattle.std.proofs.lemmas.Bool.{eqb-false, lt-leb}
use Rattle.choice.specs.When.{when, when_true, when_false, never}
use Rattle.xml.specs.Class.{only, in_class, keep, derive, word}
use Rattle.xml.specs.Grammar.{Ev}
use Rattle.xml.specs.Machine.{Place, State, Outcome, refused, goes, settle}
use Rattle.slots.specs.Slots.{name_in}
use Rattle.modes.specs.declared.Reader.{Reader}
use Rattle.modes.specs.Moves.{after_place}
use Rattle.tags.specs.Markup.{Ticked}
use Rattle.text_right.specs.Stands.{names, place_of, state_of, evs_of}
use Rattle.text_right.specs.Sound.{Inner, Sound}

pub data Matches (o : Outcome) (x : Reader) (R : List ℕ) : Type 0 where
  moves : x.refusal ≡ 0 → o ≡ goes (evs_of x R) (state_of x R) → Sound x R → Matches o x R
  stops : 0 < x.refusal → o ≡ refused x.refusal → Matches o x R

abbrev pub Ticks : Outcome → Ticked → Type 0
Ticks o x = Matches o x.reader x.room

pub lift : {o p : Outcome} {x : Reader} {R : List ℕ} → o ≡ p → Matches p x R → Matches o x R
lift {x = x} {R = R} e h = subst (λ z. Matches z x R) (sym e) h

pub turn : {o : Outcome} {x y : Reader} {R : List ℕ} → x ≡ y → Matches o y R → Matches o x R
turn {o} {R = R} e h = subst (λ z. Matches o z R) (sym e) h

pub both :
    {R : List ℕ} {o p : Outcome} {x y : Reader} (t u : Bool)
    → u ≡ t
    → (u ≡ true → Matches o x R)
    → (u ≡ false → Matches p y R)
    → Matches (when t o p) (when u x y) R
unfolding when
both true true e f g = f refl
both true false e f g = never e
both false true e f g = never (sym e)
both false false e f g = g refl

pub both_ticks :
    {o p : Outcome} {x y : Ticked} (t u : Bool) → u ≡ t → (u ≡ true → Ticks o x) → (u ≡ false → Ticks p y) → Ticks (when t o p) (when u x y)
unfolding when
both_ticks true true e f g = f refl
both_ticks true false e f g = never e
both_ticks false true e f g = never (sym e)
both_ticks false false e f g = g refl

pub by_test :
    {R : List ℕ} {o : Outcome} {x y : Reader} (u : Bool) → (u ≡ true → Matches o x R) → (u ≡ false → Matches o y R) → Matches o (when u x y) R
unfolding when
by_test true f g = f refl
by_test false f g = g refl

pub by_ticks : {o : Outcome} {x y : Ticked} (u : Bool) → (u ≡ true → Ticks o x) → (u ≡ false → Ticks o y) → Ticks o (when u x y)
unfolding when
by_ticks true f g = f refl
by_ticks false f g = g refl

module _ (R : List ℕ) (p : ℕ) where
  pub place_before : p ≡ 0 → place_of R p ≡ Place.before
  unfolding place_of
  place_before e = when_true _ _ _ (eq-eqb p 0 e)

  pub place_after : p ≡ after_place → place_of R p ≡ Place.after
  unfolding place_of
  place_after e = when_false _ _ _ (ne_eqb p 0 (λ z. omega arith)) ∙ when_true _ _ _ (eq-eqb p after_place e)

  pub place_inner : Inner p → place_of R p ≡ Place.inside (name_in R (p - 1)) (names R (p - 1))
  unfolding place_of
  place_inner h =
      let l = h.low in
      let g = h.high in
      when_false _ _ _ (ne_eqb p 0 (λ z. omega arith)) ∙ when_false _ _ _ (ne_eqb p after_place (λ z. omega arith))

abbrev pub tuned : Reader → ℕ → ℕ → ℕ → Reader
tuned r k row n =
    record { mode = r.mode; back = r.back; n = n; row = row; count = k; gives = r.gives; refusal = r.refusal; place = r.place }

pub only_is : (c b : ℕ) → in_class (only c ∷ []) b ≡ eqb b c
unfolding in_class
only_is c b = go (eqb b c) refl
  where
    and_false : (x : Bool) → ((x && false) || false) ≡ false
    and_false true = refl
    and_false false = refl

    less : (x : Bool) → leb c b ≡ x → (b ≡ c → ⊥) → ((leb c b && leb b c) || false) ≡ false
    less true e f =
        let l : c ≤ b = leb-true c b e in
        ap (λ y. (leb c b && y) || false) (lt-leb b c (more l f)) ∙ and_false (leb c b)
      where
        more : c ≤ b → (b ≡ c → ⊥) → c < b
        more l f = omega arith
    less false e f = ap (λ y. (y && leb b c) || false) e

    go : (x : Bool) → eqb b c ≡ x → ((leb c b && leb b c) || false) ≡ x
    go true e =
        let q : b ≡ c = eqb-true b c e in
        ap (λ y. (y && leb b c) || false) (le-leb c b (omega arith)) ∙ ap (λ y. y || false) (le-leb b c (omega arith))
    go false e = less (leb c b) refl (eqb-false b c e)

-- what comes after a byte of a word: the rest of it, or what the word leads to
unfoldable pub word_on : List ℕ → ℕ → List Ev → State → Outcome
word_on [] r es k = goes es k
word_on (c ∷ w) r es k = goes [] (State.rows (word (c ∷ w) ∷ []) r es k)

keep_word : (x : Bool) (v : List ℕ) (r : ℕ) (es : List Ev) (k : State) → settle (keep x (word v) []) r es k ≡ when x (word_on v r es k) (refused r)
unfolding keep word word_on when
keep_word true [] r es k = refl
keep_word true (d ∷ v) r es k = refl
keep_word false v r es k = refl

pub word_step :
    (c : ℕ) (w : List ℕ) (r : ℕ) (es : List Ev) (k : State) (b : ℕ)
    → settle (derive b (word (c ∷ w) ∷ [])) r es k ≡ when (eqb b c) (word_on w r es k) (refused r)
unfolding derive word
word_step c w r es k b = ap (λ x. settle (keep x (word w) []) r es k) (only_is c b) ∙ keep_word (eqb b c) w r es k
