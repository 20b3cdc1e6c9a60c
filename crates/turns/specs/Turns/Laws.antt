-- The turns together: what has been read, taken, listed and handed to standard output by then.
--
--   begun_so_far          before the first turn
--   turn_so_far           one turn more
--   measure L s input       how much is still to come at most, in an input of L bytes
--   turn_less               each turn leaves less
--   so_far_few            no more than two events for each node that may be opened are ever taken
--   so_far_streamed       after the last turn the whole stream is offered, and all that it lists is delivered
--
-- Assumes nothing.
use Prim.Native.Nat.{ℕ, zero, suc, ◌+◌, ◌-◌, ◌*◌, ◌/◌, ◌≤◌, ◌<◌}
use Rattle.std.proofs.Common.{arith, inl, inr, ap₂, ◌∙◌, subst₂, length-append, length-drop, length-take-le, eqb-true}
use Rattle.std.specs.Prelude.{◌⊎◌, ◌≡◌, Bool, not, eqb, length}
use Rattle.std.proofs.Math.Path.{refl, sym, ap, subst}
use Rattle.std.proofs.Math.Bool.{true, false}
use mathlib.Core.List.{List, [], ◌++◌}
use Rattle.std.proofs.Math.Option.{none, some}
use mir.Val.{bool_byte}
use Rattle.std.proofs.Math.ListN.{drop}
use Rattle.std.proofs.Math.Seq.{drop-drop}
use Rattle.std.proofs.lemmas.List.{drop-append-le}
use Rattle.std.proofs.lemmas.Bool.{eqb-false}
use Rattle.choice.specs.When.{when, when_true, when_false, when_known, never}
use Rattle.choice.specs.Count.{positive, bool_byte_le}
use Rattle.meaning.specs.Limits.{node_limit, output_needed}
use Rattle.meaning.specs.Refusals.{bad_record}
use Rattle.meaning.specs.Query.{Query}
use Rattle.meaning.specs.Stream.{Event, run, document}
use Rattle.meaning.specs.Selection.{marks_row, marks, selections}
use Rattle.meaning.specs.Standing.{standings_of, standings, listed_from, listed}
use Rattle.meaning.specs.Answer as meaning
use Rattle.meaning.specs.Offering.{Offering, offering_all}
use Rattle.query.specs.Decode.{decode}
use Rattle.session.specs.declared.Session.{Session}
use Rattle.session.specs.Run.{Housed, housed}
use Rattle.promise.specs.Promise.{Of}
use Rattle.lines.specs.Text.{lines_of, nodes_in}
use Rattle.lines.proofs.Text.Laws.{lines_of_append}
use Rattle.system.specs.declared.File.{File}
use Rattle.system.specs.Marks.{ReadOver, WriteTold, received, nothing_yet, Delivered, delivered, none_yet}
use Rattle.reads.specs.declared.State.{State}
use Rattle.reads.specs.State.{unread, UnreadWithin, leftover_of, ReadMore}
use Rattle.block.specs.Worked.{block_of, Worked}
use Rattle.turns.specs.Progress.{Progress}
use Rattle.turns.specs.Progress.Laws.{progress_none, progress_more, progress_short, progress_all, progress_refused, progress_same}
use Rattle.turns.specs.Progress.Laws.{progress_going, progress_count, progress_few}
use Rattle.turns.specs.Progress.Block.{Enough, BlockProgress, fed_progress, then_fed}
use Rattle.turns.specs.Turns.{refusal_of, more_to_do, TurnTaken, worked, read, EventsSoFar, TurnsSoFar, Streamed}

-- nothing is listed before the first event
pub listed_none : (q : Query) → listed q (document []) ≡ []
unfolding listed standings standings_of selections marks marks_row document run listed_from
listed_none q = refl

-- a turn that reads gives a byte or is the last; one that works takes an event, with its 8 bytes, or is the last
abbrev pub measure : ℕ → State → List ℕ → ℕ
measure L s input = 9 * (2 * node_limit - s.taken) + (L - length (unread s input)) + (bool_byte (eqb s.refusal 0) + bool_byte (not s.ended))

-- what is known while there is more to do
record Going (refusal : ℕ) (ended written : Bool) : Type 0 where
  unrefused : refusal ≡ 0
  not_ended : ended ≡ false
  taking : written ≡ true

going : (refusal : ℕ) (ended written : Bool) → more_to_do refusal ended written ≡ true → Going refusal ended written
unfolding more_to_do
going refusal ended written =
    when_known (λ (b : Bool). b ≡ true → Going refusal ended written) _ _ _
    (λ z.
    when_known (λ (b : Bool). b ≡ true → Going refusal ended written) _ _ _ (λ e h. never h)
    (λ e h. record { unrefused = eqb-true _ _ z; not_ended = e; taking = h }))
    (λ z h. never h)

-- leftover bytes

leftover_none : (left : ℕ) → leftover_of left ≡ 0 → left ≡ 0
unfolding leftover_of
leftover_none left = when_known (λ (n : ℕ). n ≡ 0 → left ≡ 0) _ _ _ (λ z e. eqb-true left 0 z) (λ z e. absurd (omega arith))

module _ {b bs : List ℕ} {l : Housed} {t left : ℕ} {ns : List ℕ} (o : Progress b [] bs l t 0 ns) (few : left < 8) (all : 8 * t + left ≡ length bs) where
  progress_leftover : Progress b [] bs l t (leftover_of left) ns
  unfolding leftover_of
  progress_leftover =
      when_known (λ (r : ℕ). Progress b [] bs l t r ns) (eqb left 0) 0 bad_record (λ z. o)
      (λ z. progress_short o (omega (arith, positive left (eqb-false left 0 z))) (omega arith))

  progress_at_end : (ended : Bool) → Progress b [] bs l t (when ended (leftover_of left) 0) ns
  unfolding when
  progress_at_end true = progress_leftover
  progress_at_end false = o

progress_as :
    {b : List ℕ} {es : List Event} {bs : List ℕ} {l l' : Housed} {t t' r r' : ℕ} {ns : List ℕ} → l' ≡ l → t' ≡ t → r' ≡ r → Progress b es bs l t r ns →
    Progress b es bs l' t' r' ns
progress_as e f g o = rw (e, f, g) o

-- before the first turn

pub begun_events :
    {b : List ℕ} (session : Session) (input E N : List ℕ) → Enough (housed session E N) → Of b (meaning.going []) (housed session E N) →
    EventsSoFar b [] (record { session = session; from = 0; end = 0; taken = 0; refusal = 0; ended = false; written = true }) input E N
unfolding lines_of
begun_events session input E N enough o =
    record {
      nodes = [];
      offered = progress_none [] o;
      enough = enough;
      rest = refl;
      delivered = λ e. none_yet;
      failed = λ e. never (sym e);
    }

pub begun_so_far :
    {b : List ℕ} (file : File) (session : Session) (input E N : List ℕ) → Enough (housed session E N) → Of b (meaning.going []) (housed session E N) →
    TurnsSoFar b file (record { session = session; from = 0; end = 0; taken = 0; refusal = 0; ended = false; written = true }) input E N
begun_so_far file session input E N enough o =
    record {
      bytes = [];
      received = nothing_yet;
      events = begun_events session input E N enough o;
      at_end = λ e. never e;
      over = λ e z. never e;
      whole = λ e z. absurd (z refl);
    }

-- how many bytes are unread

pub unread_length : (s : State) (input : List ℕ) → UnreadWithin s (length input) → length (unread s input) ≡ s.end - s.from
unread_length s input w = length-take-le (s.end - s.from) (drop s.from input) (omega (arith, length-drop s.from input, w.inside))

-- a block of the records that are unread

module _ {b bytes : List ℕ} (s : State) (input E N : List ℕ) (u : EventsSoFar b bytes s input E N) (unrefused : s.refusal ≡ 0) (taking : s.written ≡ true)
    (w : UnreadWithin s (length input)) where
  pub offered_so_far : Progress b [] bytes (housed s.session E N) s.taken 0 u.nodes
  offered_so_far = subst (λ (r : ℕ). Progress b [] bytes (housed s.session E N) s.taken r u.nodes) unrefused u.offered

  module _ (out : List ℕ) (s' : State) (E' N' : List ℕ) (b' : Worked s input E N out s' E' N') where
    told : BlockProgress b offered_so_far.events (unread s input) (length (unread s input) / 8) out (block_of s input E N out)
    told = fed_progress (length (unread s input) / 8) (unread s input) out (progress_going offered_so_far) u.enough (omega arith)

    more_nodes : List ℕ
    more_nodes = nodes_in (block_of s input E N out).listed (block_of s input E N out).out

    pub work_events : EventsSoFar b bytes s' input E' N'
    unfolding more_nodes
    work_events =
        let k : ℕ = (block_of s input E N out).taken in
        let at : 8 * s.taken + 8 * k ≡ 8 * s'.taken = omega (arith, b'.taken_so) in
        record {
          nodes = u.nodes ++ more_nodes;
          offered =
              progress_as b'.seat_so b'.taken_so b'.refusal_so (then_fed offered_so_far u.enough (unread s input) out u.rest);
          enough = subst Enough (sym b'.seat_so) told.enough;
          rest =
              b'.left
              ∙ ap (drop (8 * k)) u.rest
              ∙ drop-drop (8 * k) (8 * s.taken) bytes
              ∙ ap (λ (n : ℕ). drop n bytes) at;
          delivered =
              λ e.
              subst Delivered (sym (lines_of_append u.nodes more_nodes))
              (delivered (u.delivered taking) (lines_of more_nodes) (subst (WriteTold (lines_of more_nodes)) e b'.handed));
          failed = λ e. record { bytes = lines_of more_nodes; handed = subst (WriteTold (lines_of more_nodes)) e b'.handed };
        }

    -- only a whole record is refused
    pub work_whole : (s'.refusal ≡ 0 → ⊥) → 8 * s'.taken + 8 ≤ length bytes
    work_whole z =
        omega
        (arith, told.whole (λ x. z (b'.refusal_so ∙ x)), ap length u.rest, length-drop (8 * s.taken) bytes, offered_so_far.within, b'.taken_so)

    -- so many bytes are unread then
    pub work_left : length (unread s' input) ≡ length (unread s input) - 8 * (block_of s input E N out).taken
    work_left = ap length b'.left ∙ length-drop (8 * (block_of s input E N out).taken) (unread s input)

    pub work_within : 8 * (block_of s input E N out).taken ≤ length (unread s input)
    work_within = told.offered.within

    -- with room enough an event is taken or refused
    pub work_some : 8 ≤ s.end - s.from → output_needed ≤ length out → s'.refusal ≡ 0 → 0 < (block_of s input E N out).taken
    work_some many room z = told.some (omega (arith, unread_length s input w)) room (sym b'.refusal_so ∙ z)

module _ {b : List ℕ} {file : File} (s : State) (input E N : List ℕ) (u : TurnsSoFar b file s input E N)
    (go : more_to_do s.refusal s.ended s.written ≡ true) (w : UnreadWithin s (length input)) where
  g : Going s.refusal s.ended s.written
  g = going s.refusal s.ended s.written go

  so_far : Progress b [] u.bytes (housed s.session E N) s.taken 0 u.events.nodes
  so_far = offered_so_far s input E N u.events g.unrefused g.taking w

  all_read : 8 * s.taken + (s.end - s.from) ≡ length u.bytes
  all_read = omega (arith, ap length u.events.rest, unread_length s input w, length-drop (8 * s.taken) u.bytes, so_far.within)

  -- a read

  module _ (s' : State) (input' : List ℕ) (few : s.end - s.from < 8) (m : ReadMore file s input s' input') where
    read_all : 8 * s.taken + (s.end - s.from) + length m.bytes ≡ length (u.bytes ++ m.bytes)
    read_all = omega (arith, all_read, length-append u.bytes m.bytes)

    ended_none : s'.ended ≡ true → length m.bytes ≡ 0
    ended_none e = eqb-true _ _ (sym m.ended_so ∙ e)

    read_progress :
        (e : Bool) → s'.ended ≡ e →
        Progress b [] (u.bytes ++ m.bytes) (housed s.session E N) s.taken (when e (leftover_of (s.end - s.from)) 0) u.events.nodes
    read_progress true e = progress_at_end (progress_more so_far m.bytes) few (omega (arith, read_all, ended_none e)) true
    read_progress false e = unfold when in progress_more so_far m.bytes

    read_events : EventsSoFar b (u.bytes ++ m.bytes) s' input' E N
    read_events =
        record {
          nodes = u.events.nodes;
          offered = progress_as (ap (λ (x : Session). housed x E N) m.session_same) m.taken_same m.refused_so (read_progress s'.ended refl);
          enough = u.events.enough;
          rest =
              m.behind
              ∙ ap (λ (x : List ℕ). x ++ m.bytes) u.events.rest
              ∙ sym (drop-append-le (8 * s.taken) u.bytes m.bytes so_far.within)
              ∙ ap (λ (t : ℕ). drop (8 * t) (u.bytes ++ m.bytes)) (sym m.taken_same);
          delivered = λ e. u.events.delivered (sym m.written_same ∙ e);
          failed = λ e. u.events.failed (sym m.written_same ∙ e);
        }

    read_so_far : TurnsSoFar b file s' input' E N
    read_so_far =
        record {
          bytes = u.bytes ++ m.bytes;
          received = received u.received m.bytes m.given;
          events = read_events;
          at_end = m.over;
          whole = λ e z. absurd (z (m.refused_so ∙ when_false s'.ended (leftover_of (s.end - s.from)) 0 e));
          over =
              λ e z.
              let none_left : s.end - s.from ≡ 0 =
              leftover_none (s.end - s.from) (sym (m.refused_so ∙ when_true s'.ended (leftover_of (s.end - s.from)) 0 e) ∙ z) in
              omega (arith, read_all, ended_none e, m.taken_same);
        }

  -- a block

  module _ (out : List ℕ) (s' : State) (E' N' : List ℕ) (b' : Worked s input E N out s' E' N') where
    work_so_far : TurnsSoFar b file s' input E' N'
    work_so_far =
        record {
          bytes = u.bytes;
          received = u.received;
          events = work_events s input E N u.events g.unrefused g.taking w out s' E' N' b';
          at_end = λ e. never (sym b'.not_ended ∙ e);
          over = λ e z. never (sym b'.not_ended ∙ e);
          whole = λ e z. work_whole s input E N u.events g.unrefused g.taking w out s' E' N' b' z;
        }

  pub turn_so_far :
      (out : List ℕ) (s' : State) (input' E' N' : List ℕ) → TurnTaken file s input E N out s' input' E' N' → TurnsSoFar b file s' input' E' N'
  turn_so_far out s' input' E' N' (worked many same x) = subst (λ (i : List ℕ). TurnsSoFar b file s' i E' N') (sym same) (work_so_far out s' E' N' x)
  turn_so_far out s' input' E' N' (read few eE eN m) =
      subst₂ (λ (A B : List ℕ). TurnsSoFar b file s' input' A B) (sym eE) (sym eN) (read_so_far s' input' few m)

  -- how much is still to come

  flags : bool_byte (eqb s.refusal 0) + bool_byte (not s.ended) ≡ 2
  flags = ap₂ (λ (x : ℕ) (y : Bool). bool_byte (eqb x 0) + bool_byte (not y)) g.unrefused g.not_ended

  read_less :
      (L : ℕ) (s' : State) (input' : List ℕ) → L ≡ length input' → s.end - s.from < 8 → ReadMore file s input s' input' →
      measure L s' input' < measure L s input
  read_less L s' input' long few m = by s'.ended refl
    where
      more : length (unread s' input') ≡ length (unread s input) + length m.bytes
      more = ap length m.behind ∙ length-append (unread s input) m.bytes

      within : length (unread s' input') ≤ L
      within = omega (arith, long, unread_length s' input' m.within, m.within.inside)

      by : (e : Bool) → s'.ended ≡ e → measure L s' input' < measure L s input
      by true e =
          let last : bool_byte (not s'.ended) ≡ 0 = ap (λ (x : Bool). bool_byte (not x)) e in
          omega (arith, flags, last, more, within, m.taken_same, bool_byte_le (eqb s'.refusal 0))
      by false e =
          let some : 0 < length m.bytes = positive (length m.bytes) (eqb-false _ _ (sym m.ended_so ∙ e)) in
          omega (arith, flags, some, more, within, m.taken_same, bool_byte_le (eqb s'.refusal 0), bool_byte_le (not s'.ended))

  work_less :
      (L : ℕ) (out : List ℕ) (s' : State) (E' N' : List ℕ) → L ≡ length input → 8 ≤ s.end - s.from → output_needed ≤ length out →
      Worked s input E N out s' E' N' → measure L s' input < measure L s input
  work_less L out s' E' N' long many room x = by (eqb s'.refusal 0) refl
    where
      left : length (unread s' input) ≡ length (unread s input) - 8 * (block_of s input E N out).taken
      left = work_left s input E N u.events g.unrefused g.taking w out s' E' N' x

      few : s.taken + (block_of s input E N out).taken ≤ 2 * node_limit
      few = omega (arith, progress_few (work_so_far out s' E' N' x).events.offered, x.taken_so)

      room_for : (8 * (block_of s input E N out).taken ≤ length (unread s input)) × (length (unread s input) ≤ L)
      room_for = (
        work_within s input E N u.events g.unrefused g.taking w out s' E' N' x,
        omega (arith, long, unread_length s input w, w.inside),
      )

      by : (e : Bool) → eqb s'.refusal 0 ≡ e → measure L s' input < measure L s input
      by true e =
          let some : 0 < (block_of s input E N out).taken =
          work_some s input E N u.events g.unrefused g.taking w out s' E' N' x many room (eqb-true _ _ e) in
          omega (arith, flags, some, left, few, room_for.0, room_for.1, x.taken_so, bool_byte_le (eqb s'.refusal 0), bool_byte_le (not s'.ended))
      by false e =
          let refused : bool_byte (eqb s'.refusal 0) ≡ 0 = ap bool_byte e in
          omega (arith, flags, refused, left, few, room_for.0, room_for.1, x.taken_so, bool_byte_le (not s'.ended))

  pub turn_less :
      (L : ℕ) (out : List ℕ) (s' : State) (input' E' N' : List ℕ) → L ≡ length input → L ≡ length input' → output_needed ≤ length out →
      TurnTaken file s input E N out s' input' E' N' → measure L s' input' < measure L s input
  turn_less L out s' input' E' N' long long' room (worked many same x) =
      subst (λ (i : List ℕ). measure L s' i < measure L s input) (sym same) (work_less L out s' E' N' long many room x)
  turn_less L out s' input' E' N' long long' room (read few eE eN m) = read_less L s' input' long' few m

-- after the last turn

pub turn_within :
    {file : File} (s : State) (input E N out : List ℕ) (s' : State) (input' E' N' : List ℕ) → TurnTaken file s input E N out s' input' E' N' →
    UnreadWithin s' (length input')
turn_within s input E N out s' input' E' N' (worked many same x) = subst (λ (i : List ℕ). UnreadWithin s' (length i)) (sym same) x.within
turn_within s input E N out s' input' E' N' (read few eE eN m) = m.within

module _ {b : List ℕ} {file : File} {s : State} {input E N : List ℕ} (u : TurnsSoFar b file s input E N) where
  pub so_far_few : s.taken ≤ 2 * node_limit
  so_far_few = progress_few u.events.offered

  -- the whole stream, by what offering it comes to
  streamed_as :
      (w : Offering) → offering_all (decode b) u.bytes ≡ w → w.events ≡ u.events.offered.events → w.refusal ≡ refusal_of s.refusal →
      ReadOver file ⊎ ((more : List ℕ) → offering_all (decode b) (u.bytes ++ more) ≡ offering_all (decode b) u.bytes) → s.written ≡ true →
      Streamed b file s E N
  streamed_as w e ev r end t =
      let es : (offering_all (decode b) u.bytes).events ≡ u.events.offered.events = ap (λ (x : Offering). x.events) e ∙ ev in
      record {
        bytes = u.bytes;
        received = u.received;
        stop = u.events.offered.stop;
        reached =
            subst (λ (fs : List Event). Of b (record { events = fs; stopped = u.events.offered.stop }) (housed s.session E N)) (sym es)
            u.events.offered.reached;
        going_on = u.events.offered.going_on;
        counted = sym (ap length es ∙ progress_count u.events.offered);
        refusal_so = sym (ap (λ (x : Offering). x.refusal) e ∙ r);
        to_end = end;
        delivered =
            subst Delivered (ap lines_of (u.events.offered.listing ∙ ap (λ (fs : List Event). listed (decode b) (document fs)) (sym es)))
            (subst (λ (l : List ℕ). Delivered (lines_of (l ++ u.events.nodes))) (sym (listed_none (decode b))) (u.events.delivered t));
      }

  refused_end :
      (ended : Bool) → s.ended ≡ ended → (s.refusal ≡ 0 → ⊥) →
      ReadOver file ⊎ ((more : List ℕ) → offering_all (decode b) (u.bytes ++ more) ≡ offering_all (decode b) u.bytes)
  refused_end true e z = inl (u.at_end e)
  refused_end false e z = inr (progress_same u.events.offered z (u.whole e z))

  pub so_far_streamed : more_to_do s.refusal s.ended s.written ≡ false → s.written ≡ true → Streamed b file s E N
  unfolding more_to_do refusal_of
  so_far_streamed stop t =
      when_known (λ (x : Bool). x ≡ false → Streamed b file s E N) (eqb s.refusal 0) _ _
      (λ z.
      when_known (λ (x : Bool). x ≡ false → Streamed b file s E N) s.ended _ _
      (λ e h.
      streamed_as _ (progress_all u.events.offered (eqb-true _ _ z) (u.over e (eqb-true _ _ z))) refl
      (refusal_none s.refusal (eqb-true _ _ z)) (inl (u.at_end e)) t)
      (λ e h. never (sym h ∙ t)))
      (λ z h.
      streamed_as _ (progress_refused u.events.offered (eqb-false _ _ z)) refl (refusal_some s.refusal (eqb-false _ _ z))
      (refused_end s.ended refl (eqb-false _ _ z)) t)
      stop
    where
      refusal_none : (r : ℕ) → r ≡ 0 → none ≡ refusal_of r
      refusal_none r z = sym (ap refusal_of {x = r} {y = 0} z)

      refusal_some : (r : ℕ) → (r ≡ 0 → ⊥) → some r ≡ refusal_of r
      refusal_some zero f = absurd (f refl)
      refusal_some (suc r) f = refl
