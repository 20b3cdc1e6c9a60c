-- Bytes copied over the first of others, as proofs/Laid.Copied says it. Assumes nothing.
use Rattle.std.specs.Prelude.{◌≡◌, List, ℕ, ◌++◌, length, take, drop}
use Rattle.std.proofs.Common.{sym, ap, ◌∙◌}
use Rattle.std.proofs.Math.Seq.{take-length}

pub copied : (xs k kept : List ℕ) → kept ≡ xs ++ drop (length xs) k → kept ≡ take (length xs) xs ++ drop (length xs) k
copied xs k kept e = e ∙ ap (λ (x : List ℕ). x ++ drop (length xs) k) (sym (take-length xs))
