-- The stars, and what the bucket of the name tells; by how many steps are compared. Assumes nothing.
use native.Mathlib.Omega.{arith}
use mathlib.Core.Path.{refl}
use Rattle.plan_bytes.specs.Kept.Asked.{told_none, told_few, told_one, told_all}
use Rattle.elements.proofs.named.Goals as goal

pub returns-then-x-eq0 : goal.returns-then-x-eq0
returns-then-x-eq0 c = told_none _ _ (omega arith) _ _ _ c.size-size.ensures.0 c.stars-stars.ensures refl c.if-x-eq0.true

pub returns-then-size-lt-FEW : goal.returns-then-size-lt-FEW
returns-then-size-lt-FEW c =
    told_few _ _ (omega arith) _ _ _ c.size-size.ensures.0 c.stars-stars.ensures refl _ c.if-x-eq0.false c.if-size-lt-FEW.true
    c.all_asking.ensures

pub returns-then-said-size : goal.returns-then-said-size
returns-then-said-size c =
    told_one _ _ (omega arith) _ _ _ c.size-size.ensures.0 c.stars-stars.ensures c.said-said.ensures _ c.if-x-eq0.false
    c.if-size-lt-FEW.false c.if-said-size.true c.one_asking.ensures

pub returns : goal.returns
returns c =
    told_all _ _ (omega arith) _ _ _ c.size-size.ensures.0 c.stars-stars.ensures c.said-said.ensures _ c.if-x-eq0.false
    c.if-size-lt-FEW.false c.if-said-size.false c.all_asking-2.ensures
