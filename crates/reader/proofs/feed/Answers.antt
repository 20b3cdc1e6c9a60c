-- The needed part of the room. Assumes nothing.
use Rattle.std.proofs.Common.{arith, ◌++◌, drop, ap, ap₂, ◌∙◌, ℕ, List}
use Rattle.std.proofs.lemmas.List.{take-append-drop}
use Rattle.slots.specs.Slots.Laws.{room_is}
use Rattle.reader.specs.declared.Fed.{Fed}
use Rattle.reader.specs.Fed.{read_on}
use Rattle.reader.specs.Feed.{Came, all_lent, feed_stopped, feed_came}
use Rattle.reader.proofs.feed.Goals as goal

pub returns-then-reader-ne0 : goal.returns-then-reader-ne0
returns-then-reader-ne0 c =
    let a = c.args in
    let R = a.room.now in
    let came : Fed → List ℕ → Came =
    λ f z. record { reader = f.reader; taken = f.taken; room = z; out = a.out.now; written = f.written; refusal = f.refusal }
    in
    ap₂ came c.untouched-then-reader-ne0.ensures (ap (λ z. z ++ drop 18_496 R) c.in-Some.ensures.cases.same ∙ take-append-drop 18_496 R)
    ∙ feed_stopped _ _ _ _ _ _ (all_lent _ _ _ c.in-Some.ensures.cases.enough (omega arith) (omega arith)) c.if-reader-ne0.true

pub returns : goal.returns
returns c =
    let a = c.args in
    feed_came a.names.now a.index.now a.text.now a.reader a.room.now a.out.now
    (all_lent _ _ _ c.in-Some.ensures.cases.enough (omega arith) (omega arith))
    c.if-reader-ne0.false room_is
    (c.read_on.ensures.0 ∙ ap (λ z. read_on a.names.now a.index.now a.text.now a.reader z a.out.now) c.in-Some.ensures.cases.same)
    c.read_on.ensures.1
