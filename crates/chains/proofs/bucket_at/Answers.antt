-- `bucket_at` takes the name's part of the list. Assumes nothing.
use Prim.Native.Nat.{◌+◌, ◌-◌, ◌/◌}
use native.Mathlib.Omega.{arith}
use mathlib.Core.Path.{◌≡◌, ap, ◌∙◌}
use lib.ListN.{get_or, take, drop}
use Rattle.spelling.specs.Bucket.{bucket_of}
use Rattle.chains.specs.Index.{spelling_at}
use Rattle.chains.proofs.bucket_at.Goals as goal

pub returns : goal.returns
unfolding spelling_at
returns c =
    let a = c.args in
    let from = get_or a.index.now a.entry 0 in
    let bytes = get_or a.index.now (a.entry + 1) 0 / 65536 in
    let part : (from + bytes) - from ≡ bytes = omega arith in
    c.bucket.ensures ∙ ap (λ n. bucket_of (take n (drop from a.names.now))) part
