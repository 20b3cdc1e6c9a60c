-- The two cases; in 32 bits a shifted need loses only what m has not. Assumes nothing.
use Prim.Native.Nat.{◌*◌, ◌%◌, ◌^◌}
use mathlib.Core.Path.{ap, ap₂, sym, ◌∙◌}
use lib.Bits.{bit_and, bit_or}
use borrow.Author.Tests.{eq-eqb, ne_eqb}
use Rattle.plan.specs.Plan.{up_if, up}
use Rattle.plan.proofs.Masks.{up_narrow}
use Rattle.plan_bytes.specs.Kept.{kept_in}
use Rattle.nodes.proofs.up.Goals as goal

pub returns-then-need-eq0 : goal.returns-then-need-eq0
unfolding up up_if
returns-then-need-eq0 c = let args = c.args in
    ap (λ b. up_if b (kept_in args.kept.now) args.m args.need) (sym (eq-eqb _ _ c.if-need-eq0.true))

pub returns : goal.returns
unfolding up
returns c = let n = c.args.need in
    let m = c.args.m in
    ap₂ (λ a d. bit_or (bit_and (bit_and ((n * 2 ^ 1) % 2 ^ 32) m) a) (bit_and n d)) c.steps-main.ensures c.steps-deep.ensures
    ∙ up_narrow 32 (kept_in c.args.kept.now) m n c.ranges.m.fits
    ∙ ap (λ b. up_if b (kept_in c.args.kept.now) m n) (sym (ne_eqb _ _ c.if-need-eq0.false))
