-- `pick_xml::answer_names` meets its contract. Assumes nothing.
use Rattle.std.proofs.Common.{ℕ, refl, ap, inl, arith}
use borrow.Author.Rules.{rules}
use Rattle.limits.specs.Number.Laws.{some_text}
use Rattle.chains.proofs.Index.Room.{index_words_is}
use Rattle.names.proofs.Built.{build_length}
use Rattle.lines.specs.Text.{refused_at_line}
use Rattle.lines.proofs.Put.Laws.{put_taken}
use Rattle.turns.specs.Owed.{answered_by}
use Rattle.intake.proofs.Names.{names_read}
use Rattle.pick_xml.specs.Program.Laws.{put_line, list_lined, names_lined}
use Rattle.pick_xml.proofs.answer_names.Goals as goal

pub answer_text-requires : goal.answer_text-requires
answer_text-requires c =
    let room = c.requires.in_bounds in
    record {
      elements_needed_in_bounds = c.requires.elements_needed_in_bounds;
      in_bounds = (room.0, (omega (arith, index_words_is, build_length _ _ _ _ c.build.ensures), room.1));
    }

pub returns-in-Ok : goal.returns-in-Ok
returns-in-Ok c =
    let read = names_read _ _ c.read_names-n.ensures.names_given (omega arith) in
    let text = c.answer_text.ensures in
    record {
      names_answered =
          answered_by (λ h b o. names_lined _ _ _ _ c.in-Ok.ensures (omega (arith, index_words_is)) read b refl _ _ (h b o))
          text.text_answered;
      prefix_len = text.prefix_len;
    }

pub returns-in-Err : goal.returns-in-Err
returns-in-Err c =
    let line = c.put_refused_at.ensures in
    let fault = c.in-Err.fault in
    let read = names_read _ _ c.read_names-n.ensures.names_given (omega arith) in
    record {
      names_answered =
          inl
          (λ b o. list_lined _ _ _ _ c.in-Err.ensures (omega (arith, index_words_is)) read b (λ z. omega (arith, z, some_text fault.refusal)) _ _
          (put_taken (put_line (ap (λ (n : ℕ). refused_at_line n fault.line) c.number.ensures) line.put) (search rules)));
      prefix_len = line.prefix_len;
    }
