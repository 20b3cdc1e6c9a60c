-- The records of events, one after the other.
--
--   record_of e           the record of an event;  records_of es: of some
--   records_in f es       the records of the events of a text, with numbers for names by f
--   records_more         those of some events and more;  same_records: by the same numbers the same
--
-- Assumes nothing. NOT here: what is read of a record (crate meaning, Record).
use Rattle.std.specs.Prelude.{ℕ, ◌≡◌}
use Rattle.std.proofs.Math.Path.{refl, ap}
use Rattle.std.proofs.Common.{ap₂}
use mathlib.Core.List.{List, [], ◌∷◌, ◌++◌}
use Rattle.meaning.specs.Stream as stream
use Rattle.meaning.specs.Stream.{Event}
use Rattle.records.specs.Event.{event_bytes}
use Rattle.xml.specs.Bounds.{remark_name}
use Rattle.xml.specs.Grammar.{Ev, opens, closes, remark}
use Rattle.xml.specs.Numbered.{numbered}

abbrev pub record_of : Event → List ℕ
record_of (stream.opens n) = event_bytes 1 n
record_of (stream.closes n) = event_bytes 2 n

unfoldable pub records_of : List Event → List ℕ
records_of [] = []
records_of (e ∷ es) = record_of e ++ records_of es

abbrev pub records_in : (List ℕ → ℕ) → List Ev → List ℕ
records_in f es = records_of (numbered f es)

module _ (f : List ℕ → ℕ) where
  pub records_more : (es fs : List Ev) → records_in f (es ++ fs) ≡ records_in f es ++ records_in f fs
  unfolding records_of numbered
  records_more [] fs = refl
  records_more (opens n ∷ es) fs = ap (λ z. event_bytes 1 (f n) ++ z) (records_more es fs)
  records_more (closes n ∷ es) fs = ap (λ z. event_bytes 2 (f n) ++ z) (records_more es fs)
  records_more (remark ∷ es) fs = ap (λ z. event_bytes 1 remark_name ++ (event_bytes 2 remark_name ++ z)) (records_more es fs)

-- by the same numbers the same records
pub same_records : (f g : List ℕ → ℕ) → ((n : List ℕ) → f n ≡ g n) → (es : List Ev) → records_in f es ≡ records_in g es
unfolding records_of numbered
same_records f g h [] = refl
same_records f g h (opens n ∷ es) = ap₂ (λ x z. event_bytes 1 x ++ z) (h n) (same_records f g h es)
same_records f g h (closes n ∷ es) = ap₂ (λ x z. event_bytes 2 x ++ z) (h n) (same_records f g h es)
same_records f g h (remark ∷ es) = ap (λ z. event_bytes 1 remark_name ++ (event_bytes 2 remark_name ++ z)) (same_records f g h es)
