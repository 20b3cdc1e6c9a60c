-- Two lists of one length, four bytes at a time.
--
--   Agree a b k       the first k bytes of a and b are the same
--   agree_none        none of them;  agree_four: four bytes more of them, where their numbers are the same
--   same_stops        where the numbers of four bytes differ, a and b do
--   same_ends         the last four bytes decide, where the others are the same;  same_few: those of under four bytes at once
--
-- Assumes nothing.
use Rattle.std.specs.Prelude.{ℕ, zero, suc, ◌+◌, ◌-◌, ◌/◌, ◌%◌, ◌≤◌, ◌<◌, ◌≡◌, refl, Bool, true, false, List, eqb, ltb, length, get_or}
use Rattle.std.proofs.Common.{arith, sym, ap, ◌∙◌, ext_get_or, eqb-true, ltb-true, ltb-false}
use Rattle.std.proofs.lemmas.Bool.{eqb-false}
use Rattle.words.specs.Words.{Bytes}
use Rattle.words.specs.Words.Laws.{first_byte, second_byte, third_byte, fourth_byte}
use Rattle.xml.specs.Grammar.{same_name}
use Rattle.spelling.specs.Bucket.{four_at}
use Rattle.spelling.specs.Same.{same_exactly, same_not}

-- a byte before k, or from k on
on_a_side : {P : Type 0} (j k : ℕ) → (j < k → P) → (k ≤ j → P) → P
on_a_side {P} j k before after = go (ltb j k) refl
  where
    go : (t : Bool) → ltb j k ≡ t → P
    go true e = before (ltb-true j k e)
    go false e = after (ltb-false j k e)

module _ (a b : List ℕ) where
  pub record Agree (k : ℕ) : Type 0 where
    pub each : (j : ℕ) → j < k → get_or a j 0 ≡ get_or b j 0

  pub agree_none : Agree 0
  agree_none = record { each = λ j l. absurd (omega arith) }

  pub same_stops : (k : ℕ) → (four_at a k ≡ four_at b k → ⊥) → same_name a b ≡ false
  same_stops k differ = same_not a b (λ e. differ (ap (λ w. four_at w k) e))

  module _ (bytes-a : Bytes a) (bytes-b : Bytes b) where
    -- the bytes of equal numbers
    module _ (k : ℕ) (e : four_at a k ≡ four_at b k) where
      byte_0 : get_or a k 0 ≡ get_or b k 0
      byte_0 = sym (first_byte _ _ _ _ (bytes-a k)) ∙ ap (λ v. v % 256) e ∙ first_byte _ _ _ _ (bytes-b k)

      byte_1 : get_or a (k + 1) 0 ≡ get_or b (k + 1) 0
      byte_1 =
          sym (second_byte _ _ _ _ (bytes-a k) (bytes-a (k + 1))) ∙ ap (λ v. v / 256 % 256) e
          ∙ second_byte _ _ _ _ (bytes-b k) (bytes-b (k + 1))

      byte_2 : get_or a (k + 2) 0 ≡ get_or b (k + 2) 0
      byte_2 =
          sym (third_byte _ _ _ _ (bytes-a k) (bytes-a (k + 1)) (bytes-a (k + 2))) ∙ ap (λ v. v / 256 / 256 % 256) e
          ∙ third_byte _ _ _ _ (bytes-b k) (bytes-b (k + 1)) (bytes-b (k + 2))

      byte_3 : get_or a (k + 3) 0 ≡ get_or b (k + 3) 0
      byte_3 =
          sym (fourth_byte _ _ _ _ (bytes-a k) (bytes-a (k + 1)) (bytes-a (k + 2)) (bytes-a (k + 3))) ∙ ap (λ v. v / 256 / 256 / 256 % 256) e
          ∙ fourth_byte _ _ _ _ (bytes-b k) (bytes-b (k + 1)) (bytes-b (k + 2)) (bytes-b (k + 3))

      at_four : (j i : ℕ) → j ≡ k + i → i < 4 → get_or a j 0 ≡ get_or b j 0
      at_four j zero is l = let same : j ≡ k = omega arith in rw same byte_0
      at_four j (suc zero) is l = rw is byte_1
      at_four j (suc (suc zero)) is l = rw is byte_2
      at_four j (suc (suc (suc zero))) is l = rw is byte_3
      at_four j (suc (suc (suc (suc i)))) is l = absurd (omega arith)

      four_each : (j : ℕ) → k ≤ j → j < k + 4 → get_or a j 0 ≡ get_or b j 0
      four_each j l h = at_four j (j - k) (omega arith) (omega arith)

    pub agree_four : (k : ℕ) → four_at a k ≡ four_at b k → Agree k → Agree (k + 4)
    agree_four k e f = record { each = λ j l. on_a_side j k (λ h. f.each j h) (λ h. four_each k e j h l) }

    pub same_ends :
        (k x y : ℕ) → length a ≡ length b → length b ≤ k + 4 → Agree k → x ≡ four_at a (length b - 4) → y ≡ four_at b (length b - 4) →
        eqb x y ≡ same_name a b
    same_ends k x y long near f is_x is_y = go (eqb x y) refl
      where
        whole : four_at a (length b - 4) ≡ four_at b (length b - 4) → a ≡ b
        whole e =
            ext_get_or 0 a b long
            (λ j l. on_a_side j k (λ h. f.each j h) (λ h. four_each (length b - 4) e j (omega arith) (omega arith)))

        go : (t : Bool) → eqb x y ≡ t → t ≡ same_name a b
        go true e = sym ((same_exactly a b).1 (whole (sym is_x ∙ eqb-true x y e ∙ is_y)))
        go false e = sym (same_stops (length b - 4) (λ z. eqb-false x y e (is_x ∙ z ∙ sym is_y)))

    pub same_few : (x y : ℕ) → length a ≡ length b → length b < 4 → x ≡ four_at a 0 → y ≡ four_at b 0 → eqb x y ≡ same_name a b
    same_few x y long short is_x is_y =
        let first : 0 ≡ length b - 4 = omega arith in
        same_ends 0 x y long (omega arith) agree_none (is_x ∙ ap (four_at a) first) (is_y ∙ ap (four_at b) first)
