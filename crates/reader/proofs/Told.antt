-- A feed is refused with a refusal of text and with no other number.
--
--   Told r                  the number in r is that of a refusal of text, or 0
--   read_told               so it is after reading on from a reader that is not stopped
--
-- Assumes nothing.
use Rattle.std.specs.Prelude.{ℕ, zero, suc, ◌≡◌, List, length}
use Rattle.std.proofs.Common.{ap, ◌∙◌}
use Rattle.std.proofs.Math.Path.{sym}
use Rattle.choice.specs.When.{when_either}
use Rattle.limits.specs.Number.{text_of}
use Rattle.limits.specs.Number.Laws.{text_at}
use Rattle.chars.specs.Table.{marks_table}
use Rattle.modes.specs.declared.Reader.{Reader}
use Rattle.walk.proofs.Within.{turned_told}
use Rattle.reader.specs.Fed.{Going, advanced, advanced_by, goes_on, read_for, read_on}

abbrev pub Told : Reader → Type 0
Told r = text_of (text_at r.refusal) ≡ r.refusal

module _ (names x t : List ℕ) where
  for_told : (k : ℕ) (g : Going) → Told g.reader → Told (read_for k names x marks_table t g).reader
  unfolding read_for advanced advanced_by
  for_told zero g p = p
  for_told (suc k) g p =
      when_either (λ (z : Going). Told z.reader) (goes_on t g) _ _
      (for_told k (advanced names x marks_table t g) (turned_told marks_table g.reader t g.at g.room)) p

  pub read_told : (r : Reader) (R out : List ℕ) → r.refusal ≡ 0 → Told (read_on names x t r R out).reader
  unfolding read_on text_at
  read_told r R out e = for_told (suc (length t)) _ (ap (λ n. text_of (text_at n)) e ∙ sym e)
