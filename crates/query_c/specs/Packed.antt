-- The query check's answer as one number.
--
--   packed a          0 for admitted; else the refusal's number, and where a step is at fault 256 times its number and 65,536 times the reason
--   ExportGives q r   THE PROMISE of `compassflare_check`: r is the packed answer to the bytes q
--
-- Assumes nothing. What is shown of them is in proofs/Packed.
use Rattle.std.specs.Prelude.{ℕ, ◌+◌, ◌*◌, ◌≡◌, List}
use Rattle.query.specs.Answer.{Answer, admitted, refused, refused_at, answer_to}

unfoldable pub packed : Answer → ℕ
packed admitted = 0
packed (refused number) = number
packed (refused_at number step reason) = number + 256 * step + 65536 * reason

abbrev pub ExportGives : List ℕ → ℕ → Type 0
ExportGives q r = r ≡ packed (answer_to q)
