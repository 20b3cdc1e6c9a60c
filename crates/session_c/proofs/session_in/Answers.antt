-- What is kept of the query, and the numbers. Assumes nothing.
use Rattle.std.proofs.Common.{rules, arith, ap, ◌∙◌, ℕ, List}
use Rattle.std.proofs.lemmas.Option.{MatchOption-at_some}
use Rattle.numbers.specs.Numbers.{numbers_in}
use Rattle.session.specs.Event.{session_of}
use Rattle.session_c.proofs.Laid.Laws.{room_is, read_parts}
use Rattle.session_c.proofs.session_in.Goals as goal

pub unwrap-requires : goal.unwrap-requires
unwrap-requires c = c.split_first_chunk.ensures.variant.1 (omega (arith, room_is))

pub unwrap-requires-2 : goal.unwrap-requires-2
unwrap-requires-2 c = let split = MatchOption-at_some _ _ _ c.unwrap.ensures c.split_first_chunk.ensures.cases in
    c.as_array.ensures.variant.1 (omega (arith, room_is, split.2))

pub returns : goal.returns
returns c = let split = MatchOption-at_some _ _ _ c.unwrap.ensures c.split_first_chunk.ensures.cases in
    read_parts c.args.room.now _ _ _ split.0 split.1
    (c.numbered.ensures
    ∙ ap (λ (ns : List ℕ). session_of c.unwrap.result.0.now (numbers_in ns)) (search (rules, c.as_array.ensures.cases, c.unwrap-2.ensures)))
