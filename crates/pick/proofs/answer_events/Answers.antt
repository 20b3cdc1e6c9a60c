-- `pick::answer_events` meets its contract. Assumes nothing.
use Rattle.std.specs.Prelude.{ℕ, Result}
use Rattle.std.proofs.Common.{refl, inl, inr, ap, ◌∙◌, arith}
use borrow.Author.Rules.{rules}
use Rattle.std.proofs.lemmas.Bool.{not-true, not-false}
use Rattle.meaning.proofs.Limits.Laws.{node_limit_is, output_is}
use Rattle.session.specs.Event.Laws.{finish_is}
use Rattle.lines.proofs.Put.Laws.{put_taken}
use Rattle.session.specs.declared.Counts.{Counts}
use Rattle.closing.specs.Line.{last_line}
use Rattle.turns.specs.Owed.{by_number_told}
use Rattle.pick.specs.Program.Laws.{streamed_lined}
use Rattle.pick.proofs.answer_events.Goals as goal

pub work_all-state-requires : goal.work_all-state-requires
work_all-state-requires c =
    record {
      in_bounds = ((search rules, search rules), search rules);
      elements_needed_in_bounds = c.requires.elements_needed_in_bounds;
      output_needed_in_bounds = (omega (arith, output_is), c.requires.in_bounds.1);
    }

pub last_line-requires : goal.last_line-requires
last_line-requires c = (omega (arith, c.requires.in_bounds.0), omega (arith, c.work_all-state.ensures.few, node_limit_is))

pub returns-then-not-state : goal.returns-then-not-state
returns-then-not-state c =
    record { events_answered = inr (c.work_all-state.ensures.failed (not-true _ c.if-not-state.true), refl); prefix_len = (omega arith, refl) }

pub returns : goal.returns
returns c =
    let work = c.work_all-state.ensures in
    let line = c.last_line.ensures in
    let ended = finish_is _ c.finish.result c.finish.ensures in
    let numbers = by_number_told c.finish.result _ c.map_err-finish.ensures.cases in
    let streamed = work.streamed (not-false _ c.if-not-state.false) in
    let s = c.work_all-state.result in
    record {
      events_answered =
          inl (λ b o. streamed_lined c.open-file.ensures c.close.ensures (streamed b o) _ ended _ _
          (put_taken line.put (search rules)
          ∙ ap (λ (n : ℕ). last_line c.map_err-finish.result s.taken n) (omega arith)
          ∙ ap (λ (f : Result Counts ℕ). last_line f s.taken s.refusal) numbers));
      prefix_len = line.prefix_len;
    }
