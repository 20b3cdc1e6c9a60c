-- What the turns have come to, and one turn more.
--
--   records_eight        records are 8 bytes each
--   TextSoFar N X file session st input R ev E M      how much of the text is read, with which events, and what working on them has come to, for the query that
--                        the session was begun with
--   begun_so_far         before the first turn
--   refill_so_far        more events, where all that have come are worked on;  work_so_far: a block of events
--   left_of st ev         how much is still to come at most;  refill-less, work_less: each turn leaves less
--
-- N and X are the list of names and its index, E and M the room, ev the records of events. Assumes nothing.
use Rattle.std.specs.Prelude.{ℕ, suc, ◌+◌, ◌-◌, ◌*◌, ◌≤◌, ◌<◌, ◌⊎◌, ◌≡◌, refl, Bool, true, false, List, [], ◌∷◌, ◌++◌, eqb, length, take}
use native.Mathlib.Omega.{arith}
use Rattle.std.proofs.Common.{inl, inr, sym, ap, ap₂, ◌∙◌, subst, length-append, length-drop, drop_at, eq-eqb, eqb-true}
use mir.Val.{bool_byte}
use Rattle.choice.specs.When.{never}
use Rattle.choice.specs.Count.{bool_byte_le}
use Rattle.meaning.specs.Limits.{output_needed}
use Rattle.meaning.specs.Stream.{Event}
use Rattle.xml.specs.Grammar.{Ev}
use Rattle.xml.specs.Numbered.{numbered}
use Rattle.names.specs.Number.{number_of}
use Rattle.slots.specs.Slots.{room_needed}
use Rattle.reader.specs.Feed.{too_scant}
use Rattle.reader_right.specs.Records.{record_of, records_of, records_in, records_more}
use Rattle.reader_right.specs.Wrote.{wrote_first, wrote_long}
use Rattle.session.specs.declared.Session.{Session}
use Rattle.session.specs.Run.{housed}
use Rattle.system.specs.declared.File.{File}
use Rattle.reads.specs.declared.State.{State}
use Rattle.reads.specs.State.{unread, UnreadWithin}
use Rattle.block.specs.Worked.{block_of, Worked}
use Rattle.turns.specs.Progress.Laws.{progress_more}
use Rattle.turns.specs.Progress.Block.{Enough}
use Rattle.turns.specs.Turns.{BegunFor, Started, EventsSoFar}
use Rattle.turns.specs.Turns.Laws.{begun_events, unread_length, offered_so_far, work_events, work_whole, work_left, work_within, work_some}
use Rattle.intake.specs.InText.{InText, begun_text, Onward, advance_text}
use Rattle.intake.specs.Intake.{Advanced}
use Rattle.intake.specs.Less.{text_left, advance_less}
use Rattle.text_turns.specs.declared.Stand.{Stand}
use Rattle.text_turns.specs.Stand.{begun_with, refilled, More, Refilled, kept, filled}

pub records_eight : (es : List Event) → (k : ℕ) × (length (records_of es) ≡ 8 * k)
unfolding records_of
records_eight [] = (0, refl)
records_eight (e ∷ es) =
    let (k, h) = records_eight es in
    (suc k, length-append (record_of e) (records_of es) ∙ (let z : length (record_of e) + length (records_of es) ≡ 8 * suc k = omega (arith, h, eight e) in z))
  where
    eight : (e : Event) → length (record_of e) ≡ 8
    eight (Event.opens n) = refl
    eight (Event.closes n) = refl

-- text that was read weighs more than the events of it
text_less : (a b n f m g : ℕ) → a < b → n ≤ 32768 → f ≤ 1 → 40000 * a + (n + f) < 40000 * b + (m + g)
text_less a b n f m g less few flag = omega arith

module _ (N X : List ℕ) (file : File) (session : Session) where
  pub record TextSoFar (st : Stand) (input R ev E M : List ℕ) : Type 0 where
    pub es : List Ev
    pub in_text : InText N X file st.intake input R es
    pub within : UnreadWithin st.state (length ev)
    pub worked : (b : List ℕ) → BegunFor b session → EventsSoFar b (records_in (number_of N X) es) st.state ev E M
    -- only a whole record is refused
    pub whole : (st.state.refusal ≡ 0 → ⊥) → 8 * st.state.taken + 8 ≤ length (records_in (number_of N X) es)

  pub begun_so_far : (input R ev E M : List ℕ) → room_needed ≤ length R → Enough (housed session E M) → TextSoFar (begun_with session) input R ev E M
  unfolding records_of numbered
  begun_so_far input R ev E M room enough =
      record {
        es = [];
        in_text = begun_text N X file input R room;
        within = record { forward = omega arith; inside = omega arith };
        worked = λ b o. begun_events session ev E M enough (o E M);
        whole = λ z. absurd (z refl);
      }

  module _ (st : Stand) (input R ev E M : List ℕ) (u : TextSoFar st input R ev E M) (more : More st.intake st.state) where
    -- so many bytes are unread
    pub unread_is : (b : List ℕ) → BegunFor b session
        → length (unread st.state ev) ≡ length (records_in (number_of N X) u.es) - 8 * st.state.taken
    unread_is b o = ap length (u.worked b o).rest ∙ length-drop (8 * st.state.taken) (records_in (number_of N X) u.es)

    module _ (st' : Stand) (input' R' ev' : List ℕ) (lent : too_scant (length R) (length X) (length ev) ≡ false) (short : length input' ≤ 65536)
        (some : 0 < length input) (none_left : st.state.end ≤ st.state.from) (is : st' ≡ refilled st st'.intake)
        (a : Advanced N X file st.intake input R ev st'.intake input' R' ev') where
      reading : (st.intake.refusal ≡ 0) × (st.intake.ended ≡ false)
      reading = go more.some
        where
          go : (st.state.from < st.state.end) ⊎ ((st.intake.refusal ≡ 0) × (st.intake.ended ≡ false))
              → (st.intake.refusal ≡ 0) × (st.intake.ended ≡ false)
          go (inl l) = absurd (omega (arith, l, none_left))
          go (inr h) = h

      onward : Onward N X file u.es R ev st'.intake input' R' ev'
      onward = advance_text N X file st.intake input R u.es u.in_text reading.0 ev lent st'.intake input' R' ev' short some a

      -- the records that have come stand at the start, and all before them are worked on
      events_filled :
          (b : List ℕ) → BegunFor b session
          → EventsSoFar b (records_in (number_of N X) (u.es ++ onward.more)) (refilled st st'.intake).state ev' E M
      events_filled b o =
          let v = u.worked b o in
          let recs = records_in (number_of N X) u.es in
          let news = records_in (number_of N X) onward.more in
          let so_far = offered_so_far st.state ev E M v more.unrefused more.taking u.within in
          let all : length recs ≡ 8 * st.state.taken =
          omega (arith, unread_is b o, unread_length st.state ev u.within, none_left, so_far.within) in
          let from-0 : st'.intake.written - 0 ≡ st'.intake.written = omega arith in
          subst (λ (l : List ℕ). EventsSoFar b l (refilled st st'.intake).state ev' E M) (sym (records_more (number_of N X) u.es onward.more))
          (record {
            nodes = v.nodes;
            offered = progress_more so_far news;
            enough = v.enough;
            rest = ap (λ (n : ℕ). take n ev') from-0 ∙ wrote_first onward.wrote ∙ sym (drop_at recs news (8 * st.state.taken) all);
            delivered = λ e. v.delivered more.taking;
            failed = λ e. never (sym e);
          })

      filled_so_far : TextSoFar st' input' R' ev' E M
      filled_so_far =
          subst (λ (s : Stand). TextSoFar s input' R' ev' E M) (sym is)
          (record {
            es = u.es ++ onward.more;
            in_text = onward.so_far;
            within = record { forward = omega arith; inside = omega (arith, onward.wrote.fits, wrote_long onward.wrote) };
            worked = events_filled;
            whole = λ z. absurd (z refl);
          })

      filled_more : (st'.state.refusal ≡ 0) × (st'.state.written ≡ true)
      filled_more = (ap (λ (s : Stand). s.state.refusal) is, ap (λ (s : Stand). s.state.written) is)

      filled_left : text_left st'.intake < text_left st.intake
      filled_left =
          advance_less N X file st.intake input R u.es u.in_text reading.0 reading.1 ev lent st'.intake input' R' ev' short some a

    -- before a block: nothing is refused, all was taken, and events are unread or text was read
    pub record Refills (st' : Stand) (input' R' ev' : List ℕ) : Type 0 where
      pub so_far : TextSoFar st' input' R' ev' E M
      pub unrefused : st'.state.refusal ≡ 0
      pub taking : st'.state.written ≡ true
      pub left : ((st' ≡ st) × ((ev' ≡ ev) × (st.state.from < st.state.end))) ⊎ (text_left st'.intake < text_left st.intake)

    pub refill_so_far :
        (st' : Stand) (input' R' ev' : List ℕ) → too_scant (length R) (length X) (length ev) ≡ false → length input' ≤ 65536 → 0 < length input
        → Refilled N X file st input R ev st' input' R' ev'
        → Refills st' input' R' ev'
    refill_so_far st' input' R' ev' lent short some (kept l is a b c) =
        record {
          so_far = rw (is, a, b, c) u;
          unrefused = ap (λ (s : Stand). s.state.refusal) is ∙ more.unrefused;
          taking = ap (λ (s : Stand). s.state.written) is ∙ more.taking;
          left = inl (is, (c, l));
        }
    refill_so_far st' input' R' ev' lent short some (filled l is a) =
        record {
          so_far = filled_so_far st' input' R' ev' lent short some l is a;
          unrefused = (filled_more st' input' R' ev' lent short some l is a).0;
          taking = (filled_more st' input' R' ev' lent short some l is a).1;
          left = inr (filled_left st' input' R' ev' lent short some l is a);
        }

  -- how much is still to come at most: text, events that are unread, a refusal
  abbrev pub left_of : Stand → List ℕ → ℕ
  left_of st ev = 40000 * text_left st.intake + (length (unread st.state ev) + bool_byte (eqb st.state.refusal 0))

  module _ (st : Stand) (input R ev E M : List ℕ) (u : TextSoFar st input R ev E M) (unrefused : st.state.refusal ≡ 0) (taking : st.state.written ≡ true)
      (b : List ℕ) (o : BegunFor b session) (out : List ℕ) (s' : State) (E' M' : List ℕ) (x : Worked st.state ev E M out s' E' M') where
    abbrev worked_on : Stand
    worked_on = record { intake = st.intake; state = s' }

    pub work_so_far : TextSoFar worked_on input R ev E' M'
    work_so_far =
        record {
          es = u.es;
          in_text = u.in_text;
          within = x.within;
          worked = λ c p. work_events st.state ev E M (u.worked c p) unrefused taking u.within out s' E' M' x;
          whole = work_whole st.state ev E M (u.worked b o) unrefused taking u.within out s' E' M' x;
        }

    abbrev k : ℕ
    k = (block_of st.state ev E M out).taken

    left_after : length (unread s' ev) ≡ length (unread st.state ev) - 8 * k
    left_after = work_left st.state ev E M (u.worked b o) unrefused taking u.within out s' E' M' x

    -- the block leaves no more than there was
    pub work_no_more : length (unread s' ev) ≤ length (unread st.state ev)
    work_no_more = omega (arith, left_after)

    flag : bool_byte (eqb st.state.refusal 0) ≡ 1
    flag = ap bool_byte (eq-eqb st.state.refusal 0 unrefused)

    -- of events that are unread one is taken, or one is refused
    pub work_less : output_needed ≤ length out → st.state.from < st.state.end → left_of worked_on ev < left_of st ev
    work_less wide l = by (eqb s'.refusal 0) refl
      where
        eight : 8 ≤ st.state.end - st.state.from
        eight =
            let (n, e) = records_eight (numbered (number_of N X) u.es) in
            let rest = ap length (u.worked b o).rest ∙ length-drop (8 * st.state.taken) (records_in (number_of N X) u.es) in
            omega (arith, e, rest, unread_length st.state ev u.within, l)

        by : (c : Bool) → eqb s'.refusal 0 ≡ c → left_of worked_on ev < left_of st ev
        by true e =
            let some = work_some st.state ev E M (u.worked b o) unrefused taking u.within out s' E' M' x eight wide (eqb-true _ _ e) in
            omega (
              arith,
              some,
              left_after,
              work_within st.state ev E M (u.worked b o) unrefused taking u.within out s' E' M' x,
              flag,
              bool_byte_le (eqb s'.refusal 0),
            )
        by false e = let last : bool_byte (eqb s'.refusal 0) ≡ 0 = ap bool_byte e in omega (arith, left_after, flag, last)

  -- a whole turn
  module _ (st : Stand) (input R ev E M : List ℕ) (u : TextSoFar st input R ev E M) (more : More st.intake st.state)
      (st' : Stand) (input' R' ev' : List ℕ) (y : Refills st input R ev E M u more st' input' R' ev') (b : List ℕ) (o : BegunFor b session)
      (out : List ℕ) (s' : State) (E' M' : List ℕ) (x : Worked st'.state ev' E M out s' E' M') where
    pub turn_so_far : TextSoFar (record { intake = st'.intake; state = s' }) input' R' ev' E' M'
    turn_so_far = work_so_far st' input' R' ev' E M y.so_far y.unrefused y.taking b o out s' E' M' x

    pub turn_less :
        length ev' ≤ 32768 → output_needed ≤ length out → left_of (record { intake = st'.intake; state = s' }) ev' < left_of st ev
    turn_less short wide = go y.left
      where
        most : length (unread s' ev') ≤ length (unread st'.state ev') → length (unread s' ev') ≤ 32768
        most no_more =
            let inside = y.so_far.within.inside in
            let few : length (unread st'.state ev') ≤ 32768 = omega (arith, unread_length st'.state ev' y.so_far.within, inside, short) in
            omega (arith, no_more, few)

        go : ((st' ≡ st) × ((ev' ≡ ev) × (st.state.from < st.state.end))) ⊎ (text_left st'.intake < text_left st.intake)
            → left_of (record { intake = st'.intake; state = s' }) ev' < left_of st ev
        go (inl (is, (same, l))) =
            subst (λ (n : ℕ). left_of (record { intake = st'.intake; state = s' }) ev' < n) (ap₂ left_of is same)
            (work_less st' input' R' ev' E M y.so_far y.unrefused y.taking b o out s' E' M' x wide
            (subst (λ (z : Stand). z.state.from < z.state.end) (sym is) l))
        go (inr less) =
            text_less (text_left st'.intake) (text_left st.intake) (length (unread s' ev')) _ _ _ less
            (most (work_no_more st' input' R' ev' E M y.so_far y.unrefused y.taking b o out s' E' M' x)) (bool_byte_le (eqb s'.refusal 0))

-- as the loop has it
pub begun_as :
    (N X : List ℕ) (file : File) (session : Session) (st : Stand) → st ≡ begun_with session → (input R ev E M : List ℕ) → room_needed ≤ length R
    → Enough (housed session E M)
    → TextSoFar N X file st.state.session st input R ev E M
begun_as N X file session st e input R ev E M room enough =
    subst (λ (s : Stand). TextSoFar N X file s.state.session s input R ev E M) (sym e) (begun_so_far N X file session input R ev E M room enough)

pub begun_for_as : (session : Session) (st : Stand) (b : List ℕ) → st ≡ begun_with session → BegunFor b session → BegunFor b st.state.session
begun_for_as session st b e o = subst (λ (s : Stand). BegunFor b s.state.session) (sym e) o

pub started_as : (session : Session) (st : Stand) → st ≡ begun_with session → Started session → Started st.state.session
started_as session st e h = record { query = h.query; begun = begun_for_as session st h.query e h.begun }
