-- Lent bytes as records of one shape: so many numbers each, of which the first are fields and the others spare.
--
--   Shape A             how many records there are, how many numbers each has, how many of them are fields, the record of A that a row of numbers is,
--                       and its fields
--   room S              how many bytes the records take
--   blank S             the record of zeros, read where there is none
--   with_field S g v a   a with v in field g
--   Records A           all records: as A, used or not, and their spare numbers
--   records_of S ws, records_in S bs      those of numbers, and of bytes
--   at S R i            record i;  set_at i a R: record i is a;  put_at S i g v R: field g of record i is v
--   laid_numbers S R, laid S R       the numbers of the records R, and their bytes
--
-- Assumes nothing. NOT here: what writing a number does to records, and that laid undoes records_in (Records.Laws).
pub mod Laws
pub mod Used
use Rattle.std.specs.Prelude.{ℕ, ◌+◌, ◌-◌, ◌*◌, ◌/◌, ◌%◌, List, [], eqb, ltb, get_or, set}
use Rattle.choice.specs.When.{when}
use Rattle.words.specs.Words.{words, bytes_of}
use Rattle.words.specs.Rows.{rows, field}

pub record Shape (A : Type 0) : Type 0 where
  pub count : ℕ
  pub wide : ℕ
  pub fields : ℕ
  pub make : (ℕ → ℕ) → A
  pub field : ℕ → A → ℕ

pub record Records (A : Type 0) : Type 0 where
  pub list : List A
  pub spare : List (List ℕ)

module _ {A : Type 0} where
  abbrev pub set_at : ℕ → A → Records A → Records A
  set_at i a R = record { list = set R.list i a; spare = R.spare }

  module _ (S : Shape A) where
    unfoldable pub room : ℕ
    room = 4 * (S.wide * S.count)

    abbrev pub blank : A
    blank = S.make (λ g. 0)

    abbrev pub with_field : ℕ → ℕ → A → A
    with_field g v a = S.make (λ h. when (eqb h g) v (S.field h a))

    abbrev pub spare_of : (ℕ → ℕ) → List ℕ
    spare_of r = rows (S.wide - S.fields) (λ j. r (S.fields + j))

    abbrev pub records_of : List ℕ → Records A
    records_of ws =
        record { list = rows S.count (λ i. S.make (field S.wide ws i)); spare = rows S.count (λ i. spare_of (field S.wide ws i)) }

    unfoldable pub records_in : List ℕ → Records A
    records_in bs = records_of (words bs)

    abbrev pub at : Records A → ℕ → A
    at R i = get_or R.list i blank

    unfoldable pub put_at : ℕ → ℕ → ℕ → Records A → Records A
    put_at i g v R = set_at i (with_field g v (at R i)) R

    unfoldable pub number_at : Records A → ℕ → ℕ → ℕ
    number_at R i g = when (ltb g S.fields) (S.field g (at R i)) (get_or (get_or R.spare i []) (g - S.fields) 0)

    unfoldable pub laid_numbers : Records A → List ℕ
    laid_numbers R = rows (S.wide * S.count) (λ j. number_at R (j / S.wide) (j % S.wide))

    unfoldable pub laid : Records A → List ℕ
    laid R = bytes_of (laid_numbers R)
