-- `clear` fills the heads with 0. Assumes nothing.
use Prim.Native.Nat.{ℕ, ◌≤◌}
use native.Mathlib.Omega.{arith}
use mathlib.Core.Path.{◌≡◌, sym, ap, ◌∙◌}
use mathlib.Core.List.{List, ◌++◌}
use lib.ListN.{length, take, drop, replicate}
use lib.Seq.{length-take-le}
use Rattle.spelling.specs.Bucket.{buckets}
use Rattle.spelling.specs.Bucket.Laws.{buckets_is}
use Rattle.chains.specs.Index.{cleared}
use Rattle.chains.proofs.Index.Room.{index_words_is}
use Rattle.chains.proofs.clear.Goals as goal

-- n words at the front filled with 0, where so many are the heads
filled : (x y : List ℕ) (n : ℕ) → n ≡ buckets → n ≤ length x → y ≡ replicate (length (take n x)) 0 → y ++ drop n x ≡ cleared x
unfolding cleared
filled x y n all enough made =
    ap (λ t. t ++ drop n x) (made ∙ ap (λ k. replicate k 0) (length-take-le n x enough)) ∙ ap (λ k. replicate k 0 ++ drop k x) all

pub slice_bounds-fill-end-2 : goal.slice_bounds-fill-end-2
slice_bounds-fill-end-2 c = sym (length-take-le _ c.args.index.now (omega (arith, index_words_is)))

pub returns : goal.returns
returns c = filled c.args.index.now _ 65536 (sym buckets_is) (omega (arith, index_words_is)) (c.fill.ensures.after (λ y e. e))
