-- What is owed, by what the calls answered.
--
--   line_refused, line_text, line_finish     the last line by its three cases
--   picked_lined        it is put for a text that was worked on
--   fault_none, fault_some      whether a refusal is none, and its number
--   list_lined, names_lined      what the list's answer leaves to be written
--   refused_lined, admitted_lined      what the query's answer leaves to be written
--   silent_admitted     only an admitted query is answered by no line
--   outcome_written     the rest is written
--
-- Assumes nothing.
use Rattle.std.specs.Prelude.{ℕ, ◌≤◌, ◌<◌, ◌⊎◌, Bool, true, false, Option as Perhaps, None, Some, is_some, ltb, take, Result, Ok, Err}
use native.Mathlib.Omega.{arith}
use Rattle.std.proofs.Math.Decide.{ℕ_discrete}
use Rattle.std.proofs.Math.Logic.{inl, inr}
use Rattle.std.proofs.Math.Path.{◌≡◌, refl, sym, ap}
use Rattle.std.proofs.Common.{ap₂, ◌∙◌, subst, length-append, eq-eqb, ne_eqb, ltb-true, ltb-false}
use mathlib.Core.List.{List, [], ◌++◌}
use Rattle.std.proofs.Math.Option.{Option, none, some}
use Rattle.std.proofs.Math.ListN.{length}
use Rattle.limits.specs.Number.{fault_of}
use Rattle.limits.specs.Number.Laws.{some_number}
use Rattle.choice.specs.When.{never, when_true, when_false}
use Rattle.meaning.specs.Stream.{document}
use Rattle.meaning.specs.Standing.{listed}
use Rattle.meaning.specs.Offering.{Offering, offering_all}
use Rattle.query.specs.Answer.{Answer, admitted, answer_to}
use Rattle.query.specs.Decode.{decode}
use Rattle.listed.specs.Listed.{Listing, list_answer}
use Rattle.chains.specs.Index.{index_words}
use Rattle.names.specs.Answer.{BuildGives}
use Rattle.names.proofs.Built.{list_refused, build_finds}
use Rattle.names.specs.Number.{number_of}
use Rattle.query.specs.Answer as query
use Rattle.query.specs.declared.QueryFault.TheVariants.{Length, Step}
use Rattle.session.specs.declared.StartFault.{StartFault}
use Rattle.session.specs.declared.StartFault.TheVariants as started
use Rattle.limits.specs.declared.Refusal.{Refusal}
use Rattle.session.specs.declared.Counts.{Counts}
use Rattle.session.specs.Begin.{said}
use Rattle.session.specs.Event.{finish}
use Rattle.lines.specs.Put.{Put}
use Rattle.lines.specs.Text.{lines_of, refused_at_line}
use Rattle.system.specs.declared.File.{File}
use Rattle.system.specs.Marks.{FileOpened, FileClosed, ReadOver, WriteTold, ReadFull, FileGiven, received, nothing_yet, Delivered, delivered, none_yet}
use Rattle.closing.specs.Line.{query_line, line_of_end}
use Rattle.turns.specs.Turns.{refusal_of}
use Rattle.turns.specs.Owed.{last_line_by, last_line_owed, query_silent, not_admitted, Declined, long_refused}
use Rattle.intake.specs.Owed.{Judged, text_events, text_verdict, number_in}
use Rattle.intake.specs.Names.{NamesRead}
use Rattle.intake.specs.Intake.{longest, verdict_for}
use Rattle.reader_right.specs.Records.{same_records}
use Rattle.intake.specs.Catalogue.{catalogue_name}
use Rattle.text_turns.specs.declared.Stand.{Stand}
use Rattle.text_turns.specs.Picked.{offered_text, SamePicked, Picked}
use Rattle.pick_xml.specs.Program.{text_line, last_line_for, line_of, written_for, picked_for, owed_for, owed_output_by, owed_output}
use Rattle.pick_xml.specs.Program.{query_name, picked_by, TextLined, NamesLined, Lined, Replied, Outcome}

pub put_line : {a b l m : List ℕ} {r : ℕ} → l ≡ m → Put a 0 l b r → Put a 0 m b r
put_line {a} {b} {r = r} e p = subst (λ (z : List ℕ). Put a 0 z b r) e p

-- a refusal that is none, and one that is some
pub fault_none : (o : Perhaps Refusal) → is_some o ≡ false → fault_of o ≡ 0
fault_none None e = refl
fault_none (Some r) e = never (sym e)

pub fault_some : (o : Perhaps Refusal) → is_some o ≡ true → fault_of o ≡ 0 → ⊥
fault_some None e z = never e
fault_some (Some r) e z = omega (arith, some_number r)

-- the last line by its cases
module _ (st : Stand) where
  pub line_refused :
      (f : Result Counts Refusal) → f ≡ finish st.state.session → (st.state.refusal ≡ 0 → ⊥) →
      line_of_end f st.state.taken st.state.refusal ≡ line_of st
  unfolding line_of
  line_refused f e z =
      ap (λ (g : Result Counts Refusal). line_of_end g st.state.taken st.state.refusal) e
      ∙ sym (when_false _ _ _ (ne_eqb st.state.refusal 0 z))

  module _ (z : st.state.refusal ≡ 0) where
    pub line_text :
        (v : Judged) → Some v ≡ verdict_for st.intake → refused_at_line v.refusal v.at ≡ line_of st
    unfolding line_of
    line_text v e =
        ap (text_line (line_of_end (finish st.state.session) st.state.taken st.state.refusal)) e
        ∙ sym (when_true _ _ _ (eq-eqb st.state.refusal 0 z))

    pub line_finish :
        (f : Result Counts Refusal) → f ≡ finish st.state.session → None ≡ verdict_for st.intake →
        line_of_end f st.state.taken st.state.refusal ≡ line_of st
    unfolding line_of
    line_finish f h e =
        ap (λ (g : Result Counts Refusal). line_of_end g st.state.taken st.state.refusal) h
        ∙ ap (text_line (line_of_end (finish st.state.session) st.state.taken st.state.refusal)) e
        ∙ sym (when_true _ _ _ (eq-eqb st.state.refusal 0 z))

module _ {b N X : List ℕ} {file : File} {st : Stand} {E M : List ℕ} (p : Picked b N X file st E M) where
  abbrev w : Offering
  w = offered_text b (number_of N X) p.text

  finish_line_lem : line_of_end (finish st.state.session) st.state.taken st.state.refusal ≡ last_line_by w.refusal (decode b) w.events
  finish_line_lem =
      last_line_owed p.reached (finish st.state.session) refl st.state.taken st.state.refusal p.going_on p.counted
      ∙ ap (λ (x : Option ℕ). last_line_by x (decode b) w.events) p.refusal_so

  by_refusal : (v : Perhaps Judged) (o : Option ℕ) → (o ≡ none → ⊥) → last_line_by o (decode b) w.events ≡ last_line_for o (decode b) w.events v
  unfolding last_line_by last_line_for
  by_refusal v none f = absurd (f refl)
  by_refusal v (some r) f = refl

  refused_some : (st.state.refusal ≡ 0 → ⊥) → w.refusal ≡ none → ⊥
  unfolding refusal_of
  refused_some z e = go st.state.refusal z (p.refusal_so ∙ e)
    where
      go : (r : ℕ) → (r ≡ 0 → ⊥) → refusal_of r ≡ none → ⊥
      go ℕ.zero f e = f refl
      go (ℕ.suc r) f e = let y : ◌≡◌ {A = ℕ} 0 1 = cc in omega arith

  none_refused : st.state.refusal ≡ 0 → w.refusal ≡ none
  unfolding refusal_of
  none_refused z = sym p.refusal_so ∙ ap refusal_of {x = st.state.refusal} {y = 0} z

  last_owed : line_of st ≡ last_line_for w.refusal (decode b) w.events (text_verdict p.text)
  unfolding last_line_for last_line_by
  last_owed = go (ℕ_discrete st.state.refusal 0)
    where
      by_text :
          (z : st.state.refusal ≡ 0) (v : Perhaps Judged) → v ≡ verdict_for st.intake → line_of st ≡ last_line_for none (decode b) w.events v
      by_text z None e =
          sym (line_finish st z (finish st.state.session) refl e)
          ∙ finish_line_lem
          ∙ ap (λ (x : Option ℕ). last_line_by x (decode b) w.events) (none_refused z)
      by_text z (Some v) e = sym (line_text st z v e)

      go : Dec (st.state.refusal ≡ 0) → line_of st ≡ last_line_for w.refusal (decode b) w.events (text_verdict p.text)
      go (yes z) =
          by_text z (verdict_for st.intake) refl
          ∙ ap₂ (λ (o : Option ℕ) (v : Perhaps Judged). last_line_for o (decode b) w.events v) (sym (none_refused z)) (p.verdict_so z)
      go (no z) = sym (line_refused st (finish st.state.session) refl z) ∙ finish_line_lem ∙ by_refusal (text_verdict p.text) w.refusal (refused_some z)

  -- where an event was refused the text's verdict does not matter
  any_verdict : (st.state.refusal ≡ 0 → ⊥) → (u v : Perhaps Judged) → written_for (decode b) w u ≡ written_for (decode b) w v
  any_verdict z u v =
      ap (λ (l : List ℕ). lines_of (listed (decode b) (document w.events)) ++ l)
      (sym (by_refusal u w.refusal (refused_some z)) ∙ by_refusal v w.refusal (refused_some z))

  same_owed :
      (longer : List ℕ) → SamePicked b (number_of N X) p.text longer st.state.refusal
      → picked_by b (number_of N X) longer ≡ picked_by b (number_of N X) p.text
  same_owed longer s = ap (λ (o : Offering). written_for (decode b) o (text_verdict longer)) s.same_offered ∙ go (ℕ_discrete st.state.refusal 0)
    where
      go : Dec (st.state.refusal ≡ 0) → written_for (decode b) w (text_verdict longer) ≡ written_for (decode b) w (text_verdict p.text)
      go (yes z) = ap (written_for (decode b) w) (s.same_verdict z)
      go (no z) = any_verdict z (text_verdict longer) (text_verdict p.text)

  pub picked_lined :
      FileOpened catalogue_name file → FileClosed file → (lines : List ℕ) (r : ℕ) → take r lines ≡ line_of st → TextLined b N X lines r
  picked_lined op cl lines r e =
      record {
        text = p.text;
        text_read = record { file = file; opened = op; received = p.received; closed = cl; to_end = by_end p.to_end };
        before = lines_of (listed (decode b) (document w.events));
        delivered = p.delivered;
        owed_so = ap (λ (l : List ℕ). lines_of (listed (decode b) (document w.events)) ++ l) (e ∙ last_owed);
      }
    where
      by_end :
          ReadOver file ⊎ ((longest ≤ length p.text) ⊎ ((more : List ℕ) → SamePicked b (number_of N X) p.text (p.text ++ more) st.state.refusal))
          → ReadOver file
          ⊎ ((longest ≤ length p.text) ⊎ ((more : List ℕ) → picked_by b (number_of N X) (p.text ++ more) ≡ picked_by b (number_of N X) p.text))
      by_end (inl x) = inl x
      by_end (inr (inl x)) = inr (inl x)
      by_end (inr (inr x)) = inr (inr (λ more. same_owed (p.text ++ more) (x more)))

-- the list of names

module _ (names x y : List ℕ) (a : Listing) (gives : BuildGives names x y a) (enough : index_words ≤ length x) (read : NamesRead names) (b : List ℕ) where
  same : a ≡ list_answer names
  same = list_refused names x y a gives enough

  pub list_lined : (a.refusal ≡ 0 → ⊥) → (lines : List ℕ) (r : ℕ) → take r lines ≡ refused_at_line a.refusal a.line → NamesLined b lines r
  unfolding owed_for
  list_lined z lines r e =
      let wrong : (list_answer names).refusal ≡ 0 → ⊥ = λ y. z (ap (λ (l : Listing). l.refusal) same ∙ y) in
      record {
        names = names;
        text = [];
        names_read = read;
        text_read = λ y. absurd (wrong y);
        before = [];
        delivered = none_yet;
        owed_so =
            e ∙ ap (λ (l : Listing). refused_at_line l.refusal l.line) same ∙ sym (when_false _ _ _ (ne_eqb (list_answer names).refusal 0 wrong));
      }

  module _ (z : a.refusal ≡ 0) where
    -- by an index that was built the numbers are the list's
    same_picked : (text : List ℕ) → picked_by b (number_of names y) text ≡ picked_for (decode b) names text
    unfolding number_in
    same_picked text =
        ap (λ (l : List ℕ). written_for (decode b) (offering_all (decode b) l) (text_verdict text))
        (same_records (number_of names y) (number_in names) (build_finds names x y a gives z) (text_events text))

    pub names_lined : (lines : List ℕ) (r : ℕ) → TextLined b names y lines r → NamesLined b lines r
    unfolding owed_for
    names_lined lines r l =
        record {
          names = names;
          text = l.text;
          names_read = read;
          text_read =
              λ e.
              record {
                file = l.text_read.file;
                opened = l.text_read.opened;
                received = l.text_read.received;
                closed = l.text_read.closed;
                to_end = by_end l.text_read.to_end;
              };
          before = l.before;
          delivered = l.delivered;
          owed_so =
              l.owed_so ∙ same_picked l.text
              ∙ sym (when_true _ _ _ (eq-eqb (list_answer names).refusal 0 (sym (ap (λ (q : Listing). q.refusal) same) ∙ z)));
        }
      where
        by_end :
            ReadOver l.text_read.file
            ⊎ ((longest ≤ length l.text) ⊎ ((more : List ℕ) → picked_by b (number_of names y) (l.text ++ more) ≡ picked_by b (number_of names y) l.text))
            → ReadOver l.text_read.file
            ⊎ ((longest ≤ length l.text) ⊎ ((more : List ℕ) → picked_for (decode b) names (l.text ++ more) ≡ picked_for (decode b) names l.text))
        by_end (inl q) = inl q
        by_end (inr (inl q)) = inr (inl q)
        by_end (inr (inr q)) = inr (inr (λ more. sym (same_picked (l.text ++ more)) ∙ q more ∙ same_picked l.text))

-- the query's answer

query_owed : (f : StartFault) (qs names text : List ℕ) → query_line (Err f) ≡ owed_output_by (said (Err f)) qs names text
unfolding owed_output_by said query.said
query_owed started.ShortRoom qs names text = refl
query_owed (started.Query Length) qs names text = refl
query_owed (started.Query (Step k r)) qs names text = refl

-- a refused query: its line is all that is owed
pub refused_lined : {query lines : List ℕ} {r : ℕ} → Declined query lines r → Lined query lines r
refused_lined {query} d =
    record {
      names = [];
      text = [];
      names_read = λ e. absurd (not_admitted d.fault (d.checked ∙ e));
      text_read = λ e z. absurd (not_admitted d.fault (d.checked ∙ e));
      before = [];
      delivered = none_yet;
      owed_so = d.line ∙ query_owed d.fault query [] [] ∙ ap (λ (x : Answer). owed_output_by x query [] []) d.checked;
    }

-- only an admitted query is answered by no line
module _ (query : List ℕ) (a : Result (Unit {0}) StartFault) (checked : said a ≡ answer_to query) where
  module _ (text text' : List ℕ) (r : ℕ) (p : Put text 0 (query_line a) text' r) (none-put : r ≤ 0) where
    pub silent_admitted : a ≡ Ok tt
    silent_admitted = query_silent a (omega (arith, p.end))

-- an admitted query: what the list of names and the text leave
pub admitted_lined : {query lines : List ℕ} {r : ℕ} → answer_to query ≡ admitted → NamesLined query lines r → Lined query lines r
unfolding owed_output_by
admitted_lined {query} ok l =
    record {
      names = l.names;
      text = l.text;
      names_read = λ e. l.names_read;
      text_read = λ e z. l.text_read z;
      before = l.before;
      delivered = l.delivered;
      owed_so = l.owed_so ∙ ap (λ (x : Answer). owed_output_by x query l.names l.text) (sym ok);
    }

-- a query that fills the room for one is too long, whatever follows

long_same : (qs more names text : List ℕ) → 256 < length qs → owed_output (qs ++ more) names text ≡ owed_output qs names text
unfolding owed_output_by
long_same qs more names text h =
    ap (λ (x : Answer). owed_output_by x (qs ++ more) names text) (long_refused (qs ++ more) (omega (arith, length-append qs more)))
    ∙ ap (λ (x : Answer). owed_output_by x qs names text) (sym (long_refused qs h))

query_end :
    (l : List ℕ) (n : ℕ) (file : File) → ReadFull file l n → 256 < length l →
    ReadOver file ⊎ ((more names text : List ℕ) → owed_output (take n l ++ more) names text ≡ owed_output (take n l) names text)
query_end l n file g room = by (ltb n (length l)) refl
  where
    by :
        (x : Bool) → ltb n (length l) ≡ x →
        ReadOver file ⊎ ((more names text : List ℕ) → owed_output (take n l ++ more) names text ≡ owed_output (take n l) names text)
    by true e = inl (g.over (ltb-true n (length l) e))
    by false e = inr (λ more names text. long_same (take n l) more names text (omega (arith, room, ltb-false n (length l) e, g.counts.1)))

pub outcome_written :
    (l text : List ℕ) (n r : ℕ) → FileGiven query_name l n → 256 < length l → (taken : Bool) →
    WriteTold (take r text) taken → Replied (take n l) text r → Outcome
outcome_written l text n r g room true h (inl x) =
    inl
    (record {
      query = take n l;
      names = x.names;
      text = x.text;
      query_read =
          record {
            file = g.file;
            opened = g.opened;
            received = received nothing_yet (take n l) g.full.given;
            closed = g.closed;
            to_end = query_end l n g.file g.full room;
          };
      names_read = x.names_read;
      text_read = x.text_read;
      delivered = subst Delivered x.owed_so (delivered x.delivered (take r text) h);
    })
outcome_written l text n r g room false h (inl x) = inr (record { bytes = take r text; handed = h })
outcome_written l text n r g room taken h (inr f) = inr f.0
