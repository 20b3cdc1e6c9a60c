-- `xml_events::answer` meets its contract. Assumes nothing.
use native.Mathlib.Omega.{arith}
use mathlib.Core.Logic.{inl}
use Prim.Native.Nat.{ℕ}
use mathlib.Core.Path.{refl, ap}
use Rattle.limits.specs.Number.Laws.{some_text}
use Rattle.chains.proofs.Index.Room.{index_words_is}
use Rattle.names.proofs.Built.{build_length}
use Rattle.intake.specs.Owed.{refused_at}
use Rattle.intake.proofs.Names.{names_read}
use Rattle.xml_events.specs.Program.Laws.{list_lined, names_lined, answered_by}
use Rattle.xml_events.proofs.answer.Goals as goal

pub returns-in-Err : goal.returns-in-Err
returns-in-Err c =
    let build = c.in-Err.ensures in
    let read = c.read_names-n.ensures in
    let some = some_text c.in-Err.fault.refusal in
    inl
    (list_lined _ _ _ _ build (omega (arith, index_words_is)) (names_read _ _ read.names_given (omega arith)) (λ z. omega (arith, some, z)) _
    (ap (λ (n : ℕ). refused_at n c.in-Err.fault.line) c.number.ensures))

pub answer_text-requires : goal.answer_text-requires
answer_text-requires c =
    let build = c.build.ensures in
    omega (arith, index_words_is, build_length _ _ _ _ build)

pub returns : goal.returns
returns c =
    let build = c.in_default.ensures in
    let read = c.read_names-n.ensures in
    answered_by
    (names_lined _ _ _ _ build (omega (arith, index_words_is)) (names_read _ _ read.names_given (omega arith)) refl _)
    c.answer_text.ensures
