-- `intake::feed_text` meets its contract. Assumes nothing.
use Prim.Native.Nat.{ℕ, ◌-◌, ◌≤◌}
use native.Mathlib.Omega.{arith}
use mathlib.Core.Path.{◌≡◌, ap}
use mathlib.Core.List.{List}
use lib.ListN.{take, drop, length-take}
use Rattle.modes.specs.declared.Reader.{Reader}
use Rattle.reader.specs.Feed.{Came, feed_answer}
use Rattle.intake.specs.Intake.Laws.{taken_within}
use Rattle.intake.proofs.Steps.{part_bytes, fed_so}
use Rattle.intake.proofs.feed_text.Goals as goal

-- a feed of a part takes no more than the part has
most : (N X input : List ℕ) (r : Reader) (R out : List ℕ) (a e : ℕ) (z : Came) → z ≡ feed_answer N X (take (e - a) (drop a input)) r R out → z.taken ≤ e - a
most N X input r R out a e z so =
    omega (arith, taken_within N X (take (e - a) (drop a input)) r R out, ap (λ (c : Came). c.taken) so, length-take (e - a) (drop a input))

pub overflow_add-result : goal.overflow_add-result
overflow_add-result c =
    let a = c.args in
    let few = most _ _ a.input.now _ _ _ a.intake.from a.intake.end _ c.feed-fed.ensures in
    omega (arith, few, c.requires.within_text.forward, c.requires.within_text.inside, c.requires.input_len_bound.0)

pub overflow_add-result-2 : goal.overflow_add-result-2
overflow_add-result-2 c =
    let a = c.args in
    let few = most _ _ a.input.now _ _ _ a.intake.from a.intake.end _ c.feed-fed.ensures in
    let within = c.requires.within_text in
    omega (arith, few, within.forward, within.inside, c.requires.input_len_bound.0, c.requires.input_len_bound.1)

pub returns : goal.returns
returns c =
    let a = c.args in
    fed_so a.names.now a.index.now a.intake _ a.room.now a.events.now _ _
    (part_bytes a.input.now a.intake.from (a.intake.end - a.intake.from) (λ i. (c.type_inv.input i).fits)) c.feed-fed.ensures c.number_of.ensures
