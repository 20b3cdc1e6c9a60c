-- `number` walks along a chain. The invariant: what is found from here on is the number.
-- Assumes nothing.
use Prim.Native.Nat.{◌-◌, ◌+◌, ◌*◌, ◌%◌}
use native.Mathlib.Omega.{arith}
use mathlib.Core.Path.{◌≡◌, sym, ap, ◌∙◌}
use lib.ListN.{get_or}
use Rattle.xml.specs.Bounds.{list_limit, unknown_name}
use Rattle.xml.proofs.Bounds.Laws.{list_limit_is}
use Rattle.spelling.specs.Bucket.{buckets}
use Rattle.names.specs.Number.{fits_at, next_of, walked, number_of}
use Rattle.names.specs.Number.Laws.{walk_none, walk_over, walk_here, walk_on, walk_end}
use Rattle.names.proofs.number.Goals as goal
use Rattle.names.proofs.number.Goals.{then-place-eq0-via-then-place-eq0, then-place-eq0-via-else-place-eq0+then-place-gt-NAMES}

pub loop-init : goal.loop-init
unfolding number_of list_limit
loop-init c =
    let a = c.args in
    ap (λ b. walked a.names.now a.index.now a.word.now list_limit (get_or a.index.now b 0)) c.bucket-bucket.ensures

pub returns-then-place-eq0 : goal.returns-then-place-eq0
unfolding unknown_name
returns-then-place-eq0 c =
    elim c.then-place-eq0.branch [
      | then-place-eq0-via-then-place-eq0 w ↦ sym (walk_none _ _ _ (list_limit - c.loop.counter) c.loop.place w.if-place-eq0.true) ∙ c.loop.invariant
      | then-place-eq0-via-else-place-eq0+then-place-gt-NAMES w ↦
          sym (walk_over _ _ _ (list_limit - c.loop.counter) c.loop.place (omega arith) (omega (arith, list_limit_is))) ∙ c.loop.invariant
    ]

pub returns-then-spelled : goal.returns-then-spelled
unfolding buckets fits_at
returns-then-spelled c =
    let fits = sym c.spelled.ensures ∙ c.if-spelled.true in
    sym (walk_here _ _ _ (list_limit - c.loop.counter) c.loop.place (omega (arith, list_limit_is)) (omega arith) (omega (arith, list_limit_is)) fits)
    ∙ c.loop.invariant

pub loop-preserved : goal.loop-preserved
unfolding buckets fits_at next_of
loop-preserved c =
    let other = sym c.spelled.ensures ∙ c.if-spelled.false in
    let less : list_limit - (c.loop.counter + 1) ≡ list_limit - c.loop.counter - 1 = omega arith in
    let a = c.args in
    ap (λ n. walked a.names.now a.index.now a.word.now n (get_or a.index.now (65536 + 2 * (c.loop.place - 1) + 1) 0 % 65536)) less
    ∙ sym (walk_on _ _ _ (list_limit - c.loop.counter) c.loop.place (omega (arith, list_limit_is)) (omega arith) (omega (arith, list_limit_is)) other)
    ∙ c.loop.invariant

pub returns : goal.returns
unfolding unknown_name
returns c = sym (walk_end _ _ _ _ _ (omega (arith, list_limit_is))) ∙ c.loop.invariant
