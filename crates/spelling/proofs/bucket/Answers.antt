-- `bucket` takes four bytes a turn. The invariant: what is still to be mixed gives the whole.
-- Assumes nothing.
use Rattle.std.proofs.Common.{rules}
use Prim.Native.Nat.{◌+◌, ◌-◌, ◌/◌}
use native.Mathlib.Nat.{sub-zero}
use native.Mathlib.Omega.{arith}
use mathlib.Core.Path.{sym, ap, ◌∙◌}
use Prim.Native.Nat.{ℕ, ◌<◌}
use mathlib.Core.Path.{◌≡◌}
use mathlib.Core.List.{List}
use lib.ListN.{length}
use Rattle.spelling.specs.Bucket.{four_at, mixed, mixed_from, mix_limit}
use Rattle.spelling.specs.Bucket.Laws.{mixed_below, mix_goes_on, bucket_few, bucket_whole}
use Rattle.spelling.proofs.bucket.Goals as goal
use Rattle.spelling.proofs.bucket.Goals.{else-loop-i-test, then-loop-i-test+else-i-end-i-gt4}

pub returns-then-n-lt-FOUR : goal.returns-then-n-lt-FOUR
returns-then-n-lt-FOUR c =
    bucket_few c.args.word.now _ _ _ (omega arith) c.few.ensures c.mix.ensures c.settle.ensures

pub loop-i-init : goal.loop-i-init
loop-i-init c = ((search rules, search rules), ap (λ k. mixed_from c.args.word.now (k / 4) 0 0) (sub-zero _))

-- one turn keeps what is still to be mixed
turned :
    (word : List ℕ) (i h x m : ℕ) → i + 4 < length word → mixed_from word ((length word - 1 - i) / 4) i h ≡ mixed_from word ((length word - 1) / 4) 0 0 →
    x ≡ four_at word i → m ≡ mixed h x → mixed_from word ((length word - 1 - (i + 4)) / 4) (i + 4) m ≡ mixed_from word ((length word - 1) / 4) 0 0
turned word i h x m more all is_x is_m =
    ap (mixed_from word ((length word - 1 - (i + 4)) / 4) (i + 4)) (is_m ∙ ap (mixed h) is_x) ∙ sym (mix_goes_on word (length word) i h more) ∙ all

small : (h x m : ℕ) → m ≡ mixed h x → m < mix_limit
small h x m is = rw is (mixed_below h x)

pub loop-i-preserved : goal.loop-i-preserved
loop-i-preserved c =
    let w = c.args.word.now in
    ((omega arith, small _ _ _ c.mix-h.ensures), turned w c.loop-i.i _ _ _ (omega arith) c.loop-i.invariant.1 c.four.ensures c.mix-h.ensures)

pub mix-requires-2 : goal.mix-requires-2
mix-requires-2 c =
    elim c.loop-i-test.branch [
      | else-loop-i-test w ↦ omega (arith, w.h-is, c.loop-i.invariant.0.1)
      | then-loop-i-test+else-i-end-i-gt4 w ↦ small _ _ _ (w.h-is ∙ w.mix-h.ensures)
    ]

pub returns : goal.returns
returns c =
    let word = c.args.word.now in
    elim c.loop-i-test.branch [
      | else-loop-i-test w ↦
          bucket_whole word c.loop-i.i _ _ _ _ (omega arith)
          (ap (mixed_from word ((length word - 1 - c.loop-i.i) / 4) c.loop-i.i) w.h-is ∙ c.loop-i.invariant.1)
          c.four-2.ensures c.mix-2.ensures c.settle-2.ensures
      | then-loop-i-test+else-i-end-i-gt4 w ↦
          bucket_whole word (c.loop-i.i + 4) _ _ _ _ (omega arith)
          (turned word c.loop-i.i _ _ _ (omega arith) c.loop-i.invariant.1 w.four.ensures (w.h-is ∙ w.mix-h.ensures))
          c.four-2.ensures c.mix-2.ensures c.settle-2.ensures
    ]
