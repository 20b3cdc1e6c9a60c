-- `pick_xml::answer_text` meets its contract. Assumes nothing.
use Rattle.std.proofs.Common.{refl, inl, inr, arith}
use borrow.Author.Rules.{rules}
use Rattle.lines.proofs.Put.Laws.{put_taken}
use Rattle.pick_xml.specs.Program.Laws.{picked_lined}
use Rattle.pick_xml.proofs.answer_text.Goals as goal

pub last_line-requires : goal.last_line-requires
last_line-requires c = (omega (arith, c.requires.in_bounds.0), (c.work_text-stand.ensures.few, c.work_text-stand.ensures.short))

pub returns-then-stand : goal.returns-then-stand
returns-then-stand c =
    let line = c.last_line.ensures in
    record {
      text_answered =
          inl
          (λ b o. picked_lined (c.work_text-stand.ensures.picked c.if-stand.true b o) c.open-file.ensures c.close.ensures _ _
          (put_taken line.put (search rules)));
      prefix_len = line.prefix_len;
    }

pub returns-else-stand : goal.returns-else-stand
returns-else-stand c = record { text_answered = inr (c.work_text-stand.ensures.failed c.if-stand.false, refl); prefix_len = (omega arith, refl) }
