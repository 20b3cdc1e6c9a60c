-- Which lines a list of names may have, and the answer to a list.
--
--   all_in c t            every byte of t is in the class c
--   is_name line          the line is a Name, of any length
--   fault_of n line       the refusal that line number n gets, 0 where it is fine
--   Listing              the answer: a refusal and the number of a line;  fine, refused r n: its two kinds
--   answer_from n ls      the answer to the lines ls, of which the first is number n: the first line at fault decides
--   list_answer names     THE ANSWER to a list
--
-- Assumes nothing. NOT here: how the code says the answer (Answer), the same in words (Words).
pub mod Laws
use Rattle.std.specs.Prelude.{ℕ, suc, Bool, false, not, ◌&&◌, List, [], ◌∷◌, eqb, ltb, length}
use Rattle.std.specs.List.{list_all}
use Rattle.choice.specs.When.{when}
use Rattle.xml.specs.Class.{Class, in_class}
use Rattle.xml.specs.Chars.{name_start, name_char}
use Rattle.xml.specs.Bounds.{name_limit, list_limit}
use Rattle.xml.specs.Refused.{many_names, long_listed, not_name}
use Rattle.listed.specs.Lines.{lines_of}

unfoldable pub all_in : Class → List ℕ → Bool
all_in c t = list_all (in_class c) t

-- "Name ::= NameStartChar (NameChar)*"
unfoldable pub is_name : List ℕ → Bool
is_name [] = false
is_name (b ∷ t) = in_class name_start b && all_in name_char t

-- "of a line that is both over the 65,533 and at fault otherwise, 47"
unfoldable pub fault_of : ℕ → List ℕ → ℕ
fault_of n line =
    when (ltb list_limit n) many_names
    (when (not (is_name line)) not_name
    (when (ltb name_limit (length line)) long_listed
    0))

pub record Listing : Type 0 where
  pub refusal : ℕ
  pub line : ℕ

abbrev pub fine : Listing
fine = record { refusal = 0; line = 0 }

abbrev pub refused : ℕ → ℕ → Listing
refused r n = record { refusal = r; line = n }

-- "A refused list gets the refusal of its first line at fault"
unfoldable pub answer_from : ℕ → List (List ℕ) → Listing
answer_from n [] = fine
answer_from n (line ∷ ls) = when (eqb (fault_of n line) 0) (answer_from (suc n) ls) (refused (fault_of n line) n)

unfoldable pub list_answer : List ℕ → Listing
list_answer names = answer_from 1 (lines_of names)
