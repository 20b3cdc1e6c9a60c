-- `pick_xml::last_line` meets its contract. Assumes nothing.
use Rattle.std.specs.Prelude.{Result}
use Rattle.std.proofs.Common.{◌≡◌, ℕ, ap, arith, ◌∙◌, sym}
use Rattle.meaning.proofs.Limits.Laws.{node_limit_is}
use Rattle.session.specs.declared.Counts.{Counts}
use Rattle.session.specs.Event.Laws.{finish_is}
use Rattle.closing.specs.Line.{last_line, line_of_end}
use Rattle.turns.specs.Owed.{by_number_told}
use Rattle.intake.specs.Owed.{judged}
use Rattle.pick_xml.specs.Program.{line_of}
use Rattle.pick_xml.specs.Program.Laws.{put_line, line_refused, line_text, line_finish}
use Rattle.pick_xml.proofs.last_line.Goals.{then-state-eq0+in_default, else-state-eq0}
use Rattle.pick_xml.proofs.last_line.Goals as goal

pub returns-in-Some-clause-put : goal.returns-in-Some-clause-put
returns-in-Some-clause-put c =
    let st = c.args.stand in
    put_line
    (line_text st (omega (arith, c.if-state-eq0.true)) _ (sym (ap judged c.in-Some.is) ∙ c.judge.ensures.verdict))
    c.put_refused_at.ensures.put

pub last_line-requires : goal.last_line-requires
last_line-requires c = (c.requires.0, omega (arith, c.requires.1.0, node_limit_is))

pub returns-clause-put : goal.returns-clause-put
returns-clause-put c =
    let st = c.args.stand in
    let f = finish_is _ c.finish.result c.finish.ensures in
    let numbers = by_number_told c.finish.result _ c.map_err-finish.ensures.cases in
    let so : line_of_end c.finish.result st.state.taken st.state.refusal ≡ line_of st =
    elim c.if-state-eq0.branch [
      | then-state-eq0+in_default w ↦
          line_finish st (omega (arith, w.if-state-eq0.true)) c.finish.result f (sym (ap judged w.in_default.is) ∙ w.judge.ensures.verdict)
      | else-state-eq0 w ↦ line_refused st c.finish.result f (λ z. w.if-state-eq0.false (omega (arith, z)))
    ] in
    put_line (ap (λ (g : Result Counts ℕ). last_line g st.state.taken st.state.refusal) numbers ∙ so) c.last_line.ensures.put
