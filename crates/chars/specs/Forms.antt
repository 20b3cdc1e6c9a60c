-- Characters of several bytes, by what is left of them. The forms, as ranges of the bytes to come:
--
--   1, 2, 3       one, two or three of 80 to BF
--   4             A0 to BF, then form 1: after E0;  5: 80 to 9F, then form 1: after ED
--   6             80 to BE, then form 1, or BF, then form 7: after EF;  7: 80 to BD: after EF BF
--   8             90 to BF, then form 2: after F0;  9: 80 to 8F, then form 2: after F4
--
--   lead_form b                  the form after the first byte b, or 0 where no character begins so
--   lowest_in f, highest_in f     the least and the greatest byte that the form f goes on with
--   follows f b                 what is left after the byte b: a form, `whole`, or 0 where f does not go on so
--
-- The numbers as the code has them:
--
--   form_in n       the form n, or none where n is 0
--   left_of n       nothing where n is `whole`, else the form n;  left_in n: the same, or none where n is 0
--
-- Assumes nothing. NOT here: that these are the rows of Unicode's table (crate text_right, Forms).
pub mod Laws
use Rattle.std.specs.Prelude.{ℕ, Option, Some, None, eqb, leb, ltb}
use Rattle.choice.specs.When.{when}
use Rattle.chars.specs.declared.Left.{Left}
use Rattle.chars.specs.declared.Left.TheVariants.{Nothing, Form}

abbrev pub whole : ℕ
whole = 10

unfoldable pub lead_form : ℕ → ℕ
lead_form b =
    when (ltb b 194) 0
    (when (ltb b 224) 1
    (when (eqb b 224) 4
    (when (eqb b 237) 5 (when (eqb b 239) 6 (when (ltb b 240) 2 (when (eqb b 240) 8 (when (ltb b 244) 3 (when (eqb b 244) 9 0))))))))

unfoldable pub lowest_in : ℕ → ℕ
lowest_in f = when (eqb f 4) 160 (when (eqb f 8) 144 128)

unfoldable pub highest_in : ℕ → ℕ
highest_in f = when (eqb f 5) 159 (when (eqb f 7) 189 (when (eqb f 9) 143 191))

unfoldable pub rest_of : ℕ → ℕ → ℕ
rest_of f b =
    when (eqb f 1) whole
    (when (eqb f 7) whole (when (eqb f 3) 2 (when (leb 8 f) 2 (when (eqb f 6) (when (eqb b 191) 7 1) 1))))

unfoldable pub follows : ℕ → ℕ → ℕ
follows f b = when (ltb b (lowest_in f)) 0 (when (ltb (highest_in f) b) 0 (rest_of f b))

abbrev pub form_in : ℕ → Option ℕ
form_in n = when (eqb n 0) None (Some n)

abbrev pub left_of : ℕ → Left
left_of n = when (eqb n whole) Nothing (Form n)

abbrev pub left_in : ℕ → Option Left
left_in n = when (eqb n 0) None (Some (left_of n))
