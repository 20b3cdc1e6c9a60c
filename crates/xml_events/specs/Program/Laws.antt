-- What is owed, by what the calls answered.
--
--   SoFar N X file i input R written      what the turns have come to;  begun_so_far: before the first
--   turn_onward, turn_less, turn_written, turn_room, turn_so_far      one turn more;  so_far_few: how many bytes are read at most
--   so_far_written        after the last turn
--   text_lined            the verdict on the text
--   list_lined, names_lined      for a list that is refused, and one that is taken
--   outcome_said, outcome_silent      the refusal is handed to standard error, or there is none
--
-- Assumes nothing.
use Rattle.std.specs.Prelude.{ℕ, ◌+◌, ◌≤◌, ◌<◌, ◌⊎◌, ◌≡◌, Bool, Option, None, Some, length, take}
use Rattle.std.proofs.Common.{arith, inl, inr, ◌∙◌}
use Rattle.std.proofs.Math.Path.{sym, ap, subst}
use Rattle.std.proofs.Math.Bool.{true, false}
use mathlib.Core.List.{List, [], ◌++◌}
use Rattle.std.proofs.Math.Dec.{eqb}
use borrow.Author.Tests.{eqb-true, eqb-false, eq-eqb, ne_eqb}
use Rattle.choice.specs.When.{when_true, when_false, when_known, never}
use Rattle.xml.specs.Grammar.{Ev}
use Rattle.xml.specs.Numbered.{numbered}
use Rattle.listed.specs.Listed.{Listing, list_answer}
use Rattle.names.specs.Answer.{BuildGives}
use Rattle.names.proofs.Built.{build_finds, list_refused}
use Rattle.names.specs.Number.{number_of}
use Rattle.chains.specs.Index.{index_words}
use Rattle.slots.specs.Slots.{room_needed}
use Rattle.slots.specs.Slots.Laws.{room_is}
use Rattle.reader.specs.Feed.{too_scant}
use Rattle.reader_right.specs.Records.{records_of, records_in, records_more, same_records}
use Rattle.reader_right.specs.Wrote.{wrote_first}
use Rattle.lines.specs.Text.{refused_at_line}
use Rattle.system.specs.declared.File.{File}
use Rattle.system.specs.Marks.{FileOpened, FileClosed, WriteTold, ErrorTold, Delivered, delivered, none_yet, Failed}
use Rattle.intake.specs.declared.Intake.{Intake}
use Rattle.intake.specs.Owed.{Judged, refused_at, text_events, text_verdict, number_in}
use Rattle.intake.specs.Names.{NamesRead}
use Rattle.intake.specs.Intake.{longest, begun, Advanced, verdict_for}
use Rattle.intake.specs.Intake.Laws.{lent_enough}
use Rattle.intake.specs.InText.{InText, begun_text, Onward, advance_text}
use Rattle.intake.specs.Less.{text_left, advance_less}
use Rattle.intake.specs.Catalogue.{catalogue_name, text_told}
use Rattle.xml_events.specs.Program.{verdict_on, owed_records, Complained, silent, said, more_to_do, ReadAll, TextLined, Lined, Answered, Outcome}

pub record SoFar (N X : List ℕ) (file : File) (i : Intake) (input R : List ℕ) (written : Bool) : Type 0 where
  pub events : List Ev
  pub in_text : InText N X file i input R events
  pub delivered_so : written ≡ true → Delivered (records_in (number_of N X) events)
  pub failed : written ≡ false → Failed

pub begun_so_far : (N X : List ℕ) (file : File) (i : Intake) (input R : List ℕ) → i ≡ begun → room_needed ≤ length R → SoFar N X file i input R true
unfolding records_of numbered
begun_so_far N X file i input R e room =
    record {
      events = [];
      in_text = subst (λ (z : Intake). InText N X file z input R []) (sym e) (begun_text N X file input R room);
      delivered_so = λ z. none_yet;
      failed = λ z. never (sym z);
    }

-- what is known while there is more to do
record Going (refusal : ℕ) (ended written : Bool) : Type 0 where
  unrefused : refusal ≡ 0
  not_ended : ended ≡ false
  taking : written ≡ true

going : (refusal : ℕ) (ended written : Bool) → more_to_do refusal ended written ≡ true → Going refusal ended written
unfolding more_to_do
going refusal ended written =
    when_known (λ (b : Bool). b ≡ true → Going refusal ended written) _ _ _
    (λ z.
    when_known (λ (b : Bool). b ≡ true → Going refusal ended written) _ _ _ (λ e h. never h)
    (λ e h. record { unrefused = eqb-true _ _ z; not_ended = e; taking = h }))
    (λ z h. never h)

-- one turn more

module _ {N X : List ℕ} {file : File} {i : Intake} {input R : List ℕ} {w : Bool} (s : SoFar N X file i input R w)
    (go : more_to_do i.refusal i.ended w ≡ true) (out : List ℕ) (indexed : index_words ≤ length X) (long-room : length R ≡ 18496)
    (long-out : length out ≡ 32768) (long : length input ≡ 65536) (i' : Intake) (input' R' out' : List ℕ) (long' : length input' ≡ 65536)
    (a : Advanced N X file i input R out i' input' R' out') where
  abbrev g : Going i.refusal i.ended w
  g = going i.refusal i.ended w go

  lent : too_scant (length R) (length X) (length out) ≡ false
  lent = lent_enough (length R) (length X) (length out) (omega (arith, room_is, long-room)) indexed (omega arith)

  pub turn_onward : Onward N X file s.events R out i' input' R' out'
  turn_onward =
      advance_text N X file i input R s.events s.in_text g.unrefused out lent i' input' R' out' (omega (arith, long')) (omega (arith, long)) a

  pub turn_less : text_left i' < text_left i
  turn_less =
      advance_less N X file i input R s.events s.in_text g.unrefused g.not_ended out lent i' input' R' out' (omega (arith, long'))
      (omega (arith, long)) a

  pub turn_written : i'.written ≤ 32768
  turn_written = omega (arith, turn_onward.wrote.fits, long-out)

  pub turn_room : length R' ≡ 18496
  turn_room = turn_onward.same_room ∙ long-room

  pub turn_so_far : (w' : Bool) → WriteTold (take i'.written out') w' → SoFar N X file i' input' R' w'
  turn_so_far w' told =
      let o = turn_onward in
      let bytes : take i'.written out' ≡ records_in (number_of N X) o.more = wrote_first o.wrote in
      record {
        events = s.events ++ o.more;
        in_text = o.so_far;
        delivered_so =
            λ z.
            subst Delivered (sym (records_more (number_of N X) s.events o.more))
            (subst (λ (l : List ℕ). Delivered (records_in (number_of N X) s.events ++ l)) bytes
            (delivered (s.delivered_so g.taking) (take i'.written out') (subst (WriteTold (take i'.written out')) z told)));
        failed = λ z. record { bytes = take i'.written out'; handed = subst (WriteTold (take i'.written out')) z told };
      }

pub so_far_few : {N X : List ℕ} {file : File} {i : Intake} {input R : List ℕ} {w : Bool} → SoFar N X file i input R w → i.taken ≤ longest + 65536
so_far_few s = omega (arith, s.in_text.few)

-- after the last turn
over_by : (refusal : ℕ) (ended written : Bool) → more_to_do refusal ended written ≡ false → written ≡ true → (refusal ≡ 0 → ⊥) ⊎ (ended ≡ true)
unfolding more_to_do
over_by refusal ended written h t =
    when_known (λ (b : Bool). b ≡ false → (refusal ≡ 0 → ⊥) ⊎ (ended ≡ true)) (eqb refusal 0) _ _
    (λ z. when_known (λ (b : Bool). b ≡ false → (refusal ≡ 0 → ⊥) ⊎ (ended ≡ true)) ended _ _ (λ e k. inr e) (λ e k. never (sym k ∙ t)))
    (λ z k. inl (eqb-false _ _ z)) h

pub so_far_written :
    {N X : List ℕ} {file : File} {i : Intake} {input R : List ℕ} {w : Bool} → SoFar N X file i input R w → more_to_do i.refusal i.ended w ≡ false →
    w ≡ true → ReadAll N X file i
so_far_written {i = i} {w = w} s stop t =
    record {
      few = so_far_few s;
      events = s.events;
      told = text_told s.in_text (over_by i.refusal i.ended w stop t);
      delivered = s.delivered_so t;
    }

pub text_lined :
    {N X : List ℕ} {file : File} {i : Intake} → FileOpened catalogue_name file → FileClosed file → ReadAll N X file i → (v : Option Judged) →
    v ≡ verdict_for i → TextLined N X v
text_lined {N} {X} {file} op cl w v e =
    record {
      text = w.told.text;
      text_read = record { file = file; opened = op; received = w.told.received; closed = cl; to_end = w.told.to_end };
      verdict_so = e ∙ w.told.verdict_so;
      delivered = subst (λ (es : List Ev). Delivered (records_in (number_of N X) es)) w.told.events_so w.delivered;
    }

-- the list of names

module _ (names x y : List ℕ) (r : Listing) (gives : BuildGives names x y r) (enough : index_words ≤ length x) (read : NamesRead names) where
  same : r ≡ list_answer names
  same = list_refused names x y r gives enough

  pub list_lined : (r.refusal ≡ 0 → ⊥) → (v : Option Judged) → v ≡ refused_at r.refusal r.line → Lined v
  unfolding verdict_on owed_records
  list_lined z v e =
      let q : eqb (list_answer names).refusal 0 ≡ false = ne_eqb _ _ (λ y. z (ap (λ (a : Listing). a.refusal) same ∙ y)) in
      record {
        names = names;
        text = [];
        names_read = read;
        text_read = λ y. absurd (z (ap (λ (a : Listing). a.refusal) same ∙ y));
        verdict_so =
            e ∙ ap (λ (a : Listing). refused_at a.refusal a.line) same
            ∙ sym (when_false _ (text_verdict []) (refused_at (list_answer names).refusal (list_answer names).line) q);
        delivered = subst Delivered (sym (when_false _ (records_in (number_in names) (text_events [])) [] q)) none_yet;
      }

  pub names_lined : r.refusal ≡ 0 → (v : Option Judged) → TextLined names y v → Lined v
  unfolding verdict_on owed_records number_in
  names_lined z v l =
      let q : eqb (list_answer names).refusal 0 ≡ true = eq-eqb _ _ (sym (ap (λ (a : Listing). a.refusal) same) ∙ z) in
      record {
        names = names;
        text = l.text;
        names_read = read;
        text_read = λ e. l.text_read;
        verdict_so = l.verdict_so ∙ sym (when_true _ _ _ q);
        delivered =
            subst Delivered
            (same_records (number_of names y) (number_in names) (build_finds names x y r gives z) (text_events l.text) ∙ sym (when_true _ _ [] q))
            l.delivered;
      }

pub answered_by : {A B C : Type 0} → (A → B) → A ⊎ C → B ⊎ C
answered_by f (inl x) = inl (f x)
answered_by f (inr y) = inr y

-- the end

completed : (v : Option Judged) → Lined v → Complained v → Outcome
completed v l c =
    inl
    (record {
      names = l.names;
      text = l.text;
      names_read = l.names_read;
      text_read = l.text_read;
      delivered = l.delivered;
      complained = subst Complained l.verdict_so c;
    })

pub outcome_silent : Answered None → Outcome
outcome_silent (inl l) = completed None l silent
outcome_silent (inr f) = inr f.0

pub outcome_said :
    (v : Judged) → Answered (Some v) → (bytes : List ℕ) (taken : Bool) → bytes ≡ refused_at_line v.refusal v.at → ErrorTold bytes taken → Outcome
outcome_said v (inl l) bytes taken e t = completed (Some v) l (said taken (subst (λ (z : List ℕ). ErrorTold z taken) e t))
outcome_said v (inr f) bytes taken e t = inr f.0
