-- `xml_events::write_events` meets its contract and ends. The invariant: what the turns have come to so far. Assumes nothing.
use Rattle.std.specs.Prelude.{◌≡◌, Bool, true, false, refl, Option, IfSome, IfNone}
use Rattle.std.specs.Bool.{then_some}
use Rattle.std.proofs.Common.{rules}
use native.Mathlib.Omega.{arith}
use mathlib.Core.Path.{sym, ◌∙◌}
use lib.Seq.{length-take-le}
use Rattle.slots.specs.Slots.Laws.{room_is}
use Rattle.system.specs.Marks.{Failed}
use Rattle.xml_events.specs.Program.{ReadAll}
use Rattle.xml_events.specs.Program.Laws.{begun_so_far, turn_less, turn_written, turn_room, turn_so_far, so_far_few, so_far_written}
use Rattle.xml_events.proofs.write_events.Goals as goal

pub turns-init : goal.turns-init
turns-init c =
    let a = c.args in (
      (search rules, (search rules, search rules)),
      begun_so_far a.names.now a.index.now a.file.now _ _ _ c.begin-intake.ensures (omega (arith, room_is)),
    )

pub advance-intake-requires : goal.advance-intake-requires
advance-intake-requires c =
    let inv = c.turns.invariant in
    record { within_text = inv.1.in_text.within; input_len_bound = (omega arith, so_far_few inv.1) }

pub slice_bounds-events-end : goal.slice_bounds-events-end
slice_bounds-events-end c =
    let l = c.turns in
    let more = sym c.more_to_do.ensures ∙ c.turns-test.true in
    let most =
    turn_written l.invariant.1 more l.events c.requires l.invariant.0.1.0 l.invariant.0.1.1 l.invariant.0.0 _ _ _ _ (search rules)
    c.advance-intake.ensures in
    omega (arith, most)

pub slice_bounds-write-end : goal.slice_bounds-write-end
slice_bounds-write-end c =
    let l = c.turns in
    let more = sym c.more_to_do.ensures ∙ c.turns-test.true in
    let most =
    turn_written l.invariant.1 more l.events c.requires l.invariant.0.1.0 l.invariant.0.1.1 l.invariant.0.0 _ _ _ _ (search rules)
    c.advance-intake.ensures in
    sym (length-take-le _ _ (omega (arith, most)))

pub turns-smaller : goal.turns-smaller
turns-smaller c =
    let l = c.turns in
    let more = sym c.more_to_do.ensures ∙ c.turns-test.true in
    turn_less l.invariant.1 more l.events c.requires l.invariant.0.1.0 l.invariant.0.1.1 l.invariant.0.0 _ _ _ _ (search rules)
    c.advance-intake.ensures

pub turns-preserved : goal.turns-preserved
turns-preserved c =
    let l = c.turns in
    let more = sym c.more_to_do.ensures ∙ c.turns-test.true in
    let room =
    turn_room l.invariant.1 more l.events c.requires l.invariant.0.1.0 l.invariant.0.1.1 l.invariant.0.0 _ _ _ _ (search rules)
    c.advance-intake.ensures in (
      (search rules, (room, search rules)),
      turn_so_far l.invariant.1 more l.events c.requires l.invariant.0.1.0 l.invariant.0.1.1 l.invariant.0.0 _ _ _ _ (search rules)
          c.advance-intake.ensures _ c.write-written.ensures,
    )

taken :
    {A : Type 0} (P : A → Type 0) (Q : Type 0) (w : Bool) (x : A) (r : Option A) → r ≡ then_some w x → (w ≡ true → P x) → (w ≡ false → Q) →
    IfSome r P × IfNone r Q
taken P Q true x r e p q = rw e (p refl, tt)
taken P Q false x r e p q = rw e (tt, q refl)

pub returns : goal.returns
returns c =
    let s = c.turns.invariant.1 in
    let stop = sym c.more_to_do.ensures ∙ c.turns-test.false in
    let both = taken (ReadAll c.args.names.now c.args.index.now c.args.file.now) Failed c.turns.written c.turns.intake c.then_some.result c.then_some.ensures
    (λ t. so_far_written s stop t) (λ t. s.failed t) in
    record { read = both.0; failed = both.1 }
