-- `same` compares four bytes a turn. The invariant: the bytes before are the same.
-- Assumes nothing.
use Rattle.std.proofs.Common.{rules}
use native.Mathlib.Omega.{arith}
use Prim.Native.Nat.{ℕ, ◌+◌}
use mathlib.Core.Path.{sym, ◌∙◌}
use Rattle.spelling.specs.Same.Laws.{agree_none, agree_four, same_stops, same_ends, same_few}
use Rattle.spelling.proofs.same.Goals as goal
use Rattle.spelling.proofs.same.Goals.{else-loop-k-test, then-loop-k-test+else-four+else-k-end-k-gt4}

pub returns-then-n-lt-FOUR : goal.returns-then-n-lt-FOUR
returns-then-n-lt-FOUR c =
    same_few _ _ (λ i. (c.type_inv.a i).fits) (λ i. (c.type_inv.b i).fits) _ _
    c.requires (omega arith) c.few.ensures c.few-then-n-lt-FOUR.ensures

pub loop-k-init : goal.loop-k-init
loop-k-init c = (search rules, agree_none _ _)

pub returns-then-four : goal.returns-then-four
returns-then-four c =
    sym (same_stops _ _ c.loop-k.k (λ e. c.if-four.true (c.four.ensures ∙ e ∙ sym c.four-in-loop-k.ensures)))

pub loop-k-preserved : goal.loop-k-preserved
loop-k-preserved c =
    let here = sym c.four.ensures ∙ c.if-four.false ∙ c.four-in-loop-k.ensures in (
      omega arith,
      agree_four _ _ (λ i. (c.type_inv.a i).fits) (λ i. (c.type_inv.b i).fits)
          c.loop-k.k here c.loop-k.invariant.1,
    )

pub returns : goal.returns
returns c =
    let in-a = λ (i : ℕ). (c.type_inv.a i).fits in
    let in-b = λ (i : ℕ). (c.type_inv.b i).fits in
    elim c.loop-k-test.branch [
      | else-loop-k-test w ↦ same_ends _ _ in-a in-b c.loop-k.k _ _ c.requires (omega arith) c.loop-k.invariant.1 c.four-2.ensures c.four-3.ensures
      | then-loop-k-test+else-four+else-k-end-k-gt4 w ↦
          same_ends _ _ in-a in-b (c.loop-k.k + 4) _ _ c.requires (omega arith)
          (agree_four _ _ in-a in-b c.loop-k.k (sym w.four.ensures ∙ w.if-four.false ∙ w.four-in-loop-k.ensures) c.loop-k.invariant.1)
          c.four-2.ensures c.four-3.ensures
    ]
