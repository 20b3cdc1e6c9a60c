-- The last turn was taken: what all of them come to.
--
--   events_begin         the events of all that has come begin with those of what was read
--   over_picked          after the last turn the text is worked on, and all that it lists is delivered
--
-- N and X are the list of names and its index, E and M the room. Assumes nothing.
use Rattle.std.specs.Prelude.{ℕ, zero, suc, ◌*◌, ◌≤◌, ◌⊎◌, ◌≡◌, refl, true, length}
use Rattle.std.proofs.Common.{arith, inl, inr, ◌∙◌, subst, length-drop, take-append-drop}
use Rattle.std.proofs.Math.Decide.{ℕ_discrete}
use Rattle.std.proofs.Math.Path.{sym, ap}
use mathlib.Core.List.{List, [], ◌++◌, append-nil, append_assoc}
use Rattle.std.proofs.Math.Option.{none, some}
use Rattle.std.proofs.Math.ListN.{take, drop}
use Rattle.meaning.specs.Stream.{Event, document}
use Rattle.meaning.specs.Standing.{listed}
use Rattle.meaning.specs.Offering.{Offering, offering_all}
use Rattle.query.specs.Decode.{decode}
use Rattle.xml.specs.Grammar.{Ev}
use Rattle.xml.specs.Machine.{State, Result, stopped, stands, given, run}
use Rattle.xml.specs.Numbered.{events}
use Rattle.xml.specs.Limited.{bounds}
use Rattle.reading.specs.Cut.{cut_anywhere, onward}
use Rattle.names.specs.Number.{number_of}
use Rattle.reader_right.specs.Records.{records_in, records_more}
use Rattle.session.specs.declared.Session.{Session}
use Rattle.session.specs.Run.{housed}
use Rattle.promise.specs.Promise.{Of}
use Rattle.lines.specs.Text.{lines_of}
use Rattle.system.specs.declared.File.{File}
use Rattle.system.specs.Marks.{ReadOver, Received, Delivered}
use Rattle.turns.specs.Progress.Laws.{progress_all, progress_refused, progress_same, progress_count}
use Rattle.turns.specs.Turns.{refusal_of, BegunFor, EventsSoFar}
use Rattle.turns.specs.Turns.Laws.{listed_none, unread_length}
use Rattle.intake.specs.declared.Intake.{Intake}
use Rattle.intake.specs.Owed.{read_text, text_events, text_verdict, SameText, refused_later}
use Rattle.intake.specs.Intake.{longest, verdict_for}
use Rattle.intake.specs.InText.{InText}
use Rattle.intake.specs.Catalogue.{Enough, Told, text_told}
use Rattle.text_turns.specs.declared.Stand.{Stand}
use Rattle.text_turns.specs.Stand.{Done, event_refused, text_over}
use Rattle.text_turns.specs.SoFar.{TextSoFar}
use Rattle.text_turns.specs.Picked.{offered_text, SamePicked, Picked}

-- the events of a result with events before it
given_events : (es : List Ev) (r : Result) → events (given es r) ≡ es ++ events r
unfolding given
given_events es (stopped fs q t) = refl
given_events es (stands fs k) = refl

module _ {N X : List ℕ} {file : File} {i : Intake} {input R : List ℕ} {es : List Ev} (h : InText N X file i input R es) where
  -- whatever follows
  events_begin : (more : List ℕ) → (gs : List Ev) × (text_events (h.bytes ++ more) ≡ es ++ gs)
  unfolding text_events
  events_begin more = go (ℕ_discrete i.refusal 0)
    where
      go : Dec (i.refusal ≡ 0) → (gs : List Ev) × (events (read_text (h.bytes ++ more)) ≡ es ++ gs)
      go (yes z) =
          let t = take i.taken h.bytes in
          let v = drop i.taken h.bytes ++ more in
          let s = (h.read z).reads in
          let whole : h.bytes ++ more ≡ t ++ v =
          ap (λ (l : List ℕ). l ++ more) (sym (take-append-drop i.taken h.bytes)) ∙ append_assoc t (drop i.taken h.bytes) more in (
            _,
            ap (λ l. events (read_text l)) whole ∙ ap events (cut_anywhere bounds t v State.start ∙ ap (λ z. onward bounds z (run bounds v) v) s)
                ∙ given_events es _,
          )
      go (no z) =
          ([], ap events (refused_later h.bytes es i.refusal (drop i.taken h.bytes) (h.refused_so z) more) ∙ sym (append-nil es))

refusal_some : (r : ℕ) → (r ≡ 0 → ⊥) → refusal_of r ≡ some r
unfolding refusal_of
refusal_some zero f = absurd (f refl)
refusal_some (suc r) f = refl

refusal_none : (r : ℕ) → r ≡ 0 → refusal_of r ≡ none
unfolding refusal_of
refusal_none r z = ap refusal_of {x = r} {y = 0} z

module _ (N X : List ℕ) (file : File) (session : Session) (st : Stand) (input R ev E M : List ℕ) (u : TextSoFar N X file session st input R ev E M)
    (b : List ℕ) (o : BegunFor b session) (taking : st.state.written ≡ true) where
  abbrev f : List ℕ → ℕ
  f = number_of N X

  v : EventsSoFar b (records_in f u.es) st.state ev E M
  v = u.worked b o

  -- by what offering the events of the text comes to
  picked_as :
      (text : List ℕ) (w : Offering) → Received file text → offered_text b f text ≡ w → w.events ≡ v.offered.events
      → refusal_of st.state.refusal ≡ w.refusal
      → (st.state.refusal ≡ 0 → verdict_for st.intake ≡ text_verdict text)
      → ReadOver file ⊎ ((longest ≤ length text) ⊎ ((more : List ℕ) → SamePicked b f text (text ++ more) st.state.refusal))
      → Picked b N X file st E M
  picked_as text w got e ev-so r verdict end =
      let es : (offered_text b f text).events ≡ v.offered.events = ap (λ (x : Offering). x.events) e ∙ ev-so in
      record {
        text = text;
        received = got;
        stop = v.offered.stop;
        reached =
            subst (λ (fs : List Event). Of b (record { events = fs; stopped = v.offered.stop }) (housed st.state.session E M)) (sym es)
            v.offered.reached;
        going_on = v.offered.going_on;
        counted = sym (ap length es ∙ progress_count v.offered);
        refusal_so = r ∙ sym (ap (λ (x : Offering). x.refusal) e);
        verdict_so = verdict;
        to_end = end;
        delivered =
            subst Delivered (ap lines_of (v.offered.listing ∙ ap (λ (fs : List Event). listed (decode b) (document fs)) (sym es)))
            (subst (λ (l : List ℕ). Delivered (lines_of (l ++ v.nodes))) (sym (listed_none (decode b))) (v.delivered taking));
      }

  -- an event was refused: whatever text follows changes nothing
  module _ (z : st.state.refusal ≡ 0 → ⊥) where
    same_offered : (more : List ℕ) → offered_text b f (u.in_text.bytes ++ more) ≡ record { events = v.offered.events; refusal = some st.state.refusal }
    same_offered more =
        let (gs, e) = events_begin u.in_text more in
        ap (λ (es : List Ev). offering_all (decode b) (records_in f es)) e
        ∙ ap (offering_all (decode b)) (records_more f u.es gs)
        ∙ progress_same v.offered z (u.whole z) (records_in f gs)
        ∙ progress_refused v.offered z

    here : offered_text b f u.in_text.bytes ≡ record { events = v.offered.events; refusal = some st.state.refusal }
    here = ap (offered_text b f) (sym (append-nil u.in_text.bytes)) ∙ same_offered []

    refused_picked : Picked b N X file st E M
    refused_picked =
        picked_as u.in_text.bytes _ u.in_text.received here refl (refusal_some st.state.refusal z) (λ y. absurd (z y))
        (inr (inr (λ more. record { same_offered = same_offered more ∙ sym here; same_verdict = λ y. absurd (z y) })))

  -- all events are worked on, and the text is over
  ended_picked : st.state.refusal ≡ 0 → st.state.end ≤ st.state.from → Told file st.intake u.es → Picked b N X file st E M
  ended_picked z none_left t =
      picked_as t.text _ t.received
      (ap (λ (es : List Ev). offering_all (decode b) (records_in f es)) (sym t.events_so) ∙ progress_all v.offered z all) refl
      (refusal_none st.state.refusal z) (λ y. t.verdict_so) (by_end t.to_end)
    where
      all : length (records_in f u.es) ≤ 8 * st.state.taken
      all =
          omega
          (arith, none_left, ap length v.rest, length-drop (8 * st.state.taken) (records_in f u.es), unread_length st.state ev u.within)

      same : (more : List ℕ) → SameText t.text (t.text ++ more) → SamePicked b f t.text (t.text ++ more) st.state.refusal
      same more s =
          record {
            same_offered = ap (λ (es : List Ev). offering_all (decode b) (records_in f es)) s.same_events;
            same_verdict = λ y. s.same_verdict;
          }

      by_end :
          ReadOver file ⊎ Enough t.text
          → ReadOver file ⊎ ((longest ≤ length t.text) ⊎ ((more : List ℕ) → SamePicked b f t.text (t.text ++ more) st.state.refusal))
      by_end (inl x) = inl x
      by_end (inr (inl x)) = inr (inl x)
      by_end (inr (inr x)) = inr (inr (λ more. same more (x more)))

  pub over_picked : Done st.intake st.state → Picked b N X file st E M
  over_picked (event_refused z) = refused_picked z
  over_picked (text_over z l h) = ended_picked z l (text_told u.in_text h)
