-- The stop alone, or the whole session. Assumes nothing.
use Rattle.std.proofs.Common.{rules, ap, ap₂, ℕ, List}
use Rattle.std.specs.Prelude.{Option}
use borrow.Author.Tests.{eq-eqb, ne_eqb}
use native.Mathlib.Omega.{arith}
use mathlib.Core.Path.{sym, ◌∙◌}
use Rattle.choice.specs.When.{when_true, when_false}
use Rattle.limits.specs.declared.Refusal.{Refusal}
use Rattle.limits.specs.Number.{number, fault_of}
use Rattle.stop.specs.Stop.{marked_by}
use Rattle.numbers.specs.Numbers.{numbers_in}
use Rattle.numbers.specs.Numbers.Laws as numbers
use Rattle.session_c.specs.Exported.{moved_by}
use Rattle.session_c.proofs.Laid.Laws.{room_is, marked_none, marked_parts}
use Rattle.session_c.proofs.put_moved.Goals as goal

pub returns-then-taken-ne0 : goal.returns-then-taken-ne0
unfolding moved_by
returns-then-taken-ne0 c = c.put_session.ensures ∙ sym (when_false _ _ _ (ne_eqb _ _ c.if-taken-ne0.true))

pub split_at_mut-numbers-requires : goal.split_at_mut-numbers-requires
split_at_mut-numbers-requires c = omega (arith, room_is)

pub unwrap-requires : goal.unwrap-requires
unwrap-requires c = c.as_mut_array.ensures.variant.1 (omega (arith, room_is, c.split_at_mut-numbers.ensures.back_len))

pub returns-in-Some : goal.returns-in-Some
unfolding moved_by
returns-in-Some c = let split = c.split_at_mut-numbers.ensures in
    marked_parts c.args.room.now c.requires (search rules) (number c.in-Some.refusal) c.split_at_mut-numbers.result.0.now
    c.split_at_mut-numbers.result.1.now c.mark.new.numbers split.front split.back (omega (arith, room_is, numbers.room_is, split.back_len))
    (λ i. (c.type_inv.room i).fits)
    (c.mark.ensures
    ∙ ap₂ (λ (k : ℕ) (ns : List ℕ). marked_by k (numbers_in ns)) (search rules) (search (rules, c.as_mut_array.ensures.cases, c.unwrap.ensures)))
    ∙ sym (when_true _ _ _ (eq-eqb _ _ c.if-taken-ne0.false))
    ∙ ap (λ (o : Option Refusal). moved_by c.args.taken (fault_of o) c.args.next c.args.room.now) (sym c.in-Some.is)

pub returns-in_default : goal.returns-in_default
unfolding moved_by
returns-in_default c = sym (marked_none c.args.room.now)
    ∙ sym (when_true _ _ _ (eq-eqb _ _ c.if-taken-ne0.false))
    ∙ ap (λ (o : Option Refusal). moved_by c.args.taken (fault_of o) c.args.next c.args.room.now) (sym c.in_default.is)
