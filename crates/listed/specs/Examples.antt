-- Lists with and without a fault, as bytes, with their answers.
--
--   rows          the table: a list, and the answer to it
--   rows_right    each row's answer is the one given
--
-- Assumes nothing.
use Rattle.std.specs.Prelude.{ℕ, ◌≡◌, refl, List, [], ◌∷◌, ◌++◌, map, replicate}
use Rattle.choice.specs.When.{when}
use Rattle.xml.specs.Class.{in_class}
use Rattle.xml.specs.Bounds.{name_limit, list_limit}
use Rattle.xml.specs.Refused.{long_listed, not_name}
use Rattle.listed.specs.Lines.{lines_of, onto}
use Rattle.listed.specs.Listed.{Listing, all_in, is_name, fault_of, fine, refused, answer_from, list_answer}

pub record ListRow : Type 0 where
  pub bytes : List ℕ
  pub answer : Listing

infix 3 ◌gets◌
abbrev pub ◌gets◌ : List ℕ → Listing → ListRow
names gets a = record { bytes = names; answer = a }

abbrev pub rows : List ListRow
rows =
    ([] gets fine)
    -- "which may be missing after the last": a, and a with a line feed
    ∷ (97 ∷ [] gets fine)
    ∷ (97 ∷ 10 ∷ [] gets fine)
    -- an empty line: alone, at the end, in between
    ∷ (10 ∷ [] gets refused not_name 1)
    ∷ (97 ∷ 10 ∷ 10 ∷ [] gets refused not_name 2)
    ∷ (97 ∷ 10 ∷ 10 ∷ 98 ∷ [] gets refused not_name 2)
    -- "A name may stand there twice"
    ∷ (97 ∷ 10 ∷ 97 ∷ 10 ∷ [] gets fine)
    -- x:1-.  and -x, 1x, x with a blank, with a carriage return, with a byte beyond ASCII
    ∷ (120 ∷ 58 ∷ 49 ∷ 45 ∷ 46 ∷ [] gets fine)
    ∷ (45 ∷ 120 ∷ [] gets refused not_name 1)
    ∷ (49 ∷ 120 ∷ [] gets refused not_name 1)
    ∷ (120 ∷ 32 ∷ [] gets refused not_name 1)
    ∷ (120 ∷ 13 ∷ 10 ∷ [] gets refused not_name 1)
    ∷ (120 ∷ 195 ∷ 164 ∷ [] gets refused not_name 1)
    -- 64 and 65 bytes; 65 of which the last is none of a name; the first of two lines at fault
    ∷ (replicate 64 97 gets fine)
    ∷ (replicate 65 97 gets refused long_listed 1)
    ∷ (replicate 64 97 ++ 33 ∷ [] gets refused not_name 1)
    ∷ (97 ∷ 10 ∷ replicate 65 97 ++ 10 ∷ 10 ∷ [] gets refused long_listed 2)
    ∷ []

pub rows_right : map (λ (r : ListRow). list_answer r.bytes) rows ≡ map (λ (r : ListRow). r.answer) rows
unfolding when in_class name_limit list_limit lines_of onto all_in is_name fault_of answer_from list_answer
rows_right = refl
