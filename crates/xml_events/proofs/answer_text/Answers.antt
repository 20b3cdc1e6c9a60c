-- `xml_events::answer_text` meets its contract. Assumes nothing.
use Rattle.std.proofs.Common.{rules, inl, inr}
use Rattle.xml_events.specs.Program.Laws.{text_lined}
use Rattle.xml_events.proofs.answer_text.Goals as goal

pub returns : goal.returns
returns c = inl (text_lined c.open-file.ensures c.close.ensures c.in_ok-read.ensures.read _ c.judge.ensures.verdict)

pub returns-in_err-read : goal.returns-in_err-read
returns-in_err-read c = inr (c.in_err-read.ensures.failed, search rules)
