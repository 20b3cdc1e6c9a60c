-- The laws of records (crate words, Records) for those of the open elements.
--
--   whole             the shape is one that the laws of records speak of
--   room_is           the records take just the room that is needed (crate meaning, Limits)
--   place_within      a field is among the first 6 numbers
--   get_is, put_is    a number read is a field read, a number written a field written
--   raise_parts, refresh_part, open_parts      the writes of one call together
--   frames_length     how many records there are
--   elements_same     bytes with the same records are the same
--
-- Assumes nothing.
use Rattle.std.specs.Prelude.{ℕ, zero, suc, ◌+◌, ◌*◌, ◌<◌, ◌≡◌, refl, List, length, get_or, set}
use Rattle.std.proofs.Common.{arith, sym, ◌∙◌}
use Rattle.std.proofs.Math.Path.{ap}
use Rattle.choice.specs.When.{when}
use Rattle.meaning.specs.Limits.{depth_limit, element_record, elements_needed}
use Rattle.engine.specs.Quick.{Frame}
use Rattle.words.specs.Words.{words, Bytes}
use Rattle.words.specs.Records.{set_at, room, with_field, put_at, laid}
use Rattle.words.specs.Records.Laws as records
use Rattle.words.specs.Records.Laws.{Whole}
use Rattle.element.specs.declared.Field.{Field}
use Rattle.element.specs.declared.Field.TheVariants.{Name, Pass, Below, Met, Sure, Possible}
use Rattle.element.specs.Element.{frame_of, place, field_of, shape, Elements, elements_in, frame_at, raised_in, refreshed_in, opened_in}

same_frame :
    (r s : ℕ → ℕ) → r 0 ≡ s 0 → r 1 ≡ s 1 → r 2 ≡ s 2 → r 3 ≡ s 3 → r 4 ≡ s 4 → r 5 ≡ s 5 → frame_of r ≡ frame_of s
same_frame r s e₀ e₁ e₂ e₃ e₄ e₅ = cc

read : (r : ℕ → ℕ) (g : ℕ) → g < 6 → field_of g (frame_of r) ≡ r g
read r zero h = refl
read r (suc zero) h = refl
read r (suc (suc zero)) h = refl
read r (suc (suc (suc zero))) h = refl
read r (suc (suc (suc (suc zero)))) h = refl
read r (suc (suc (suc (suc (suc zero))))) h = refl
read r (suc (suc (suc (suc (suc (suc g)))))) h = absurd (omega arith)

pub whole : Whole shape
whole =
    record {
      some = omega arith;
      fits = omega arith;
      made = λ r s e.
          same_frame r s (e 0 (omega arith)) (e 1 (omega arith)) (e 2 (omega arith)) (e 3 (omega arith)) (e 4 (omega arith)) (e 5 (omega arith));
      read = read;
    }

room_is : room shape ≡ elements_needed
unfolding elements_needed element_record room
room_is = omega arith

pub frames_length : (bs : List ℕ) → length (elements_in bs).list ≡ depth_limit
unfolding elements_in
frames_length bs = records.list_length shape whole bs

pub place_within : (g : Field) → place g < 6
place_within Name = omega arith
place_within Pass = omega arith
place_within Below = omega arith
place_within Met = omega arith
place_within Sure = omega arith
place_within Possible = omega arith

pub get_is :
    (bs : List ℕ) (i g r : ℕ) → i < depth_limit → g < 6 → r ≡ get_or (words bs) (16 * i + g) 0 → r ≡ field_of g (frame_at (elements_in bs) i)
unfolding elements_in
get_is bs i g r hi hg e = records.get_is shape whole bs i g r hi hg e

pub put_is :
    (bs bs' : List ℕ) (i g v : ℕ) → length bs ≡ elements_needed → i < depth_limit → g < 6 → words bs' ≡ set (words bs) (16 * i + g) v →
    elements_in bs' ≡ put_at shape i g v (elements_in bs)
unfolding elements_in
put_is bs bs' i g v long hi hg e = records.put_is shape whole bs bs' i g v (long ∙ sym room_is) hi hg e

module _ (bs : List ℕ) (i : ℕ) (h : i < depth_limit) where
  abbrev E : Elements
  E = elements_in bs

  has : i < length E.list
  has = omega (arith, frames_length bs)

  again : (f : Frame) (g : Frame → Frame) (E₁ E₂ : Elements) → E₁ ≡ set_at i f E → E₂ ≡ set_at i (g (frame_at E₁ i)) E₁ → E₂ ≡ set_at i (g f) E
  again = records.again shape whole i E has

  pub raise_parts : (b m : ℕ) (E₁ E₂ : Elements) → E₁ ≡ put_at shape i 2 b E → E₂ ≡ put_at shape i 3 m E₁ → E₂ ≡ raised_in i b m E
  unfolding put_at raised_in
  raise_parts b m E₁ E₂ e₁ e₂ = again _ (with_field shape 3 m) E₁ E₂ e₁ e₂ ∙ ap (λ f. set_at i f E) (unfold when in refl)

  pub refresh_part : (s : ℕ) (E₁ : Elements) → E₁ ≡ put_at shape i 4 s E → E₁ ≡ refreshed_in i s E
  unfolding when put_at refreshed_in
  refresh_part s E₁ e = e

  pub open_parts :
      (name pass met possible : ℕ) (E₁ E₂ E₃ E₄ E₅ : Elements) → E₁ ≡ put_at shape i 0 name E → E₂ ≡ put_at shape i 1 pass E₁ →
      E₃ ≡ raised_in i 0 met E₂ → E₄ ≡ put_at shape i 4 0 E₃ → E₅ ≡ put_at shape i 5 possible E₄ → E₅ ≡ opened_in i name pass met possible E
  unfolding put_at raised_in opened_in
  open_parts name pass met possible E₁ E₂ E₃ E₄ E₅ e₁ e₂ e₃ e₄ e₅ =
      let s₂ = again _ (with_field shape 1 pass) E₁ E₂ e₁ e₂ in
      let s₃ = again _ (λ f. with_field shape 3 met (with_field shape 2 0 f)) E₂ E₃ s₂ (e₃ ∙ ap (λ f. set_at i f E₂) (unfold when in refl)) in
      let s₄ = again _ (with_field shape 4 0) E₃ E₄ s₃ e₄ in
      again _ (with_field shape 5 possible) E₄ E₅ s₄ e₅ ∙ ap (λ f. set_at i f E) (unfold when in refl)

pub elements_long : (R : Elements) → length (laid shape R) ≡ elements_needed
elements_long R = records.laid_length shape whole R ∙ room_is

pub elements_laid : (bs : List ℕ) → length bs ≡ elements_needed → Bytes bs → laid shape (elements_in bs) ≡ bs
unfolding elements_in
elements_laid bs e h = records.records_laid shape whole bs (e ∙ sym room_is) h

pub elements_same :
    (bs cs : List ℕ) → length bs ≡ elements_needed → length cs ≡ elements_needed → Bytes bs → Bytes cs → elements_in bs ≡ elements_in cs → bs ≡ cs
unfolding elements_in
elements_same bs cs e f = records.records_same shape whole bs cs (e ∙ sym room_is) (f ∙ sym room_is)
