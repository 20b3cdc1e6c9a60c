-- THE STEP IS RIGHT: on rooms that stand for a document an event comes to what the meaning owes, and the rooms then stand for the next document.
--
--   Stands q d n E N     the numbers n and the records E and N stand for the query q and the document d
--   InLimits q d           the document keeps the limits: so does every one that accepted events lead to
--   newly q d d'         the nodes that d' lists and d does not
--   Taken q d d' out a   what an event comes to that leads from d to d'
--   StepOwed q d e n E N out o a     what the event e comes to, o being the first refusal that applies: a refusal leaves all as it was (refuses), an
--                        event that none refuses is taken (takes)
--   stands_begun         numbers that are all 0 stand for the blank document, whatever is in the records
--   stands_still         a stop changes nothing of what they stand for
--   ended_read, opened_read, handed_read, depth_read, held_read      what the numbers of rooms are that stand for a document
--   waiting_read         and the waiting nodes' numbers
--   step_right           THE STEP
--
-- Assumes that enough is lent and that the session is not stopped: refusals 1, 15 and 11 are the callers' (crates offer and stop). NOT here: that accepted
-- events stay within the limits.
use Prim.Native.Nat.{ℕ, ◌-◌, ◌≤◌, ◌<◌}
use Rattle.std.proofs.Common.{arith, ◌∙◌, subst₂, get_or-take, length-take-le, leb-false, le-ltb}
use Rattle.std.specs.Prelude.{◌≡◌, not, ◌&&◌, T, leb, ltb, take, drop}
use Rattle.std.proofs.Math.Path.{refl, sym, ap, ap₂, subst}
use Rattle.std.proofs.Math.Bool.{Bool, true, false}
use mathlib.Core.List.{List, ◌∷◌, ◌++◌, map}
use Rattle.std.proofs.Math.Option.{Option, none, some}
use Rattle.std.proofs.Math.Dec.{eqb}
use Rattle.std.proofs.Math.ListN.{length, get_or, get_or-map}
use Rattle.std.proofs.Math.Seq.{drop-append_seam}
use Rattle.std.proofs.lemmas.Bool.{eqb-false}
use Rattle.choice.specs.When.{when}
use Rattle.choice.specs.Count.{down, positive}
use Rattle.meaning.specs.Query.{Query, admits}
use Rattle.meaning.specs.Document.{Doc, done as done-row, within, blank, opened, closed, count, depth, is_open, finished, ends_at}
use Rattle.meaning.specs.Standing.{listed, held}
use Rattle.meaning.specs.Stream as Stream
use Rattle.meaning.specs.Answer.{Lent, too_small, event_refusals, is_bad, is_opening, closes_wrong, act_if, first_or, first}
use Rattle.meaning.specs.Refusals.{short_output, short_room, already_stopped, bad_record, after_end, wrong_close, too_deep, too_many_nodes, too_many_held}
use Rattle.meaning.specs.Limits.{depth_limit, held_limit, node_limit, output_needed}
use Rattle.plan.specs.Plan.{Plan, plan}
use Rattle.engine.specs.Quick.{State, Result, begun, opening, over, name_at, quick_open, quick_close}
use Rattle.engine.specs.Quick.Of.{quick_state}
use Rattle.engine.proofs.Quick.Reads.{quick_begun, quick_held, quick_waiting, quick_depth, quick_ends}
use Rattle.engine.proofs.Quick.Theorem.{quick_open_lem, quick_open_out, quick_over, quick_close_lem, quick_close_out}
use Rattle.records.specs.Read.{shown}
use Rattle.records.specs.Write.{buffer}
use Rattle.element.specs.Element.{Elements, no_frame, frame_at}
use Rattle.node.specs.Node.{Queue}
use Rattle.nodes.specs.Nodes.{numbers}
use Rattle.numbers.specs.Numbers.{Numbers, numbers_of, with_stop}
use Rattle.tally.specs.Tally.{OpenFits, CloseFits, refuse_open, refuse_close}
use Rattle.opening.specs.Opening.{over_in}
use Rattle.step.specs.Step.{After, refused_with, open_taken, on_open, close_taken, on_close, step}
use Rattle.right.specs.Used.{state_in, Roomy, Takes, over_used}
use Rattle.right.specs.Opens.{open_takes}
use Rattle.right.specs.Closes.{close_takes}

pub record Stands (q : Query) (d : Doc) (n : Numbers) (E : Elements) (N : Queue) : Type 0 where
  pub state : state_in n E N ≡ quick_state q d
  pub roomy : Roomy E N
  pub deep : n.depth ≤ depth_limit
  pub few : n.held ≤ held_limit

pub record InLimits (q : Query) (d : Doc) : Type 0 where
  pub admitted : T (admits q)
  pub steps : length q ≤ 32
  pub deep : depth d ≤ depth_limit
  pub few : length (held q d) ≤ held_limit
  pub listing : length (listed q d) ≤ node_limit

abbrev pub newly : Query → Doc → Doc → List ℕ
newly q d d' = drop (length (listed q d)) (listed q d')

pub record Taken (q : Query) (d d' : Doc) (out : List ℕ) (a : After) : Type 0 where
  pub refusal : a.refusal ≡ 0
  pub stands : Stands q d' a.numbers a.elements a.nodes
  pub listed : a.listed ≡ length (newly q d d')
  pub written : a.out ≡ buffer (newly q d d') out

pub data StepOwed (q : Query) (d : Doc) (e : Option Stream.Event) (n : Numbers) (E : Elements) (N : Queue) (out : List ℕ) : Option ℕ → After → Type 0 where
  refuses : {r : ℕ} {a : After} → 0 < r → a ≡ refused_with r n E N out → StepOwed q d e n E N out (some r) a
  takes : {a : After} → Taken q d (act_if e d) out a → StepOwed q d e n E N out none a

pub stands_begun : (q : Query) (E : Elements) (N : Queue) → Roomy E N → Stands q blank (numbers_of 0 0 0 0 0 0) E N
unfolding state_in begun
stands_begun q E N room = record { state = sym (quick_begun q); roomy = room; deep = omega arith; few = omega arith }

pub stands_still : (q : Query) (d : Doc) (n : Numbers) (E : Elements) (N : Queue) (v : ℕ) → Stands q d n E N → Stands q d (with_stop v n) E N
unfolding state_in
stands_still q d n E N v st = record { state = st.state; roomy = st.roomy; deep = st.deep; few = st.few }

-- what is read of rooms that stand for a document

module _ (q : Query) (d : Doc) (n : Numbers) (E : Elements) (N : Queue) (st : Stands q d n E N) where
  pub ended_read : not (eqb n.ended 0) ≡ finished d
  unfolding state_in quick_state
  ended_read = ap (λ (s : State). s.ended) st.state

  pub opened_read : n.opened ≡ count d
  unfolding state_in quick_state
  opened_read = ap (λ (s : State). s.opened) st.state

  pub handed_read : n.handed ≡ length (listed q d)
  unfolding state_in quick_state
  handed_read = ap (λ (s : State). s.handed) st.state

  pub depth_read : n.depth ≡ depth d
  unfolding state_in
  depth_read =
      sym (length-take-le n.depth E.list (omega (arith, st.deep, st.roomy.elements)))
      ∙ ap (λ (s : State). length s.frames) st.state
      ∙ quick_depth q d

  pub waiting_read : numbers (take n.held N.list) ≡ held q d
  unfolding state_in
  waiting_read = ap (λ (s : State). numbers s.queue) st.state ∙ quick_held q d

  pub held_read : n.held ≡ length (held q d)
  unfolding state_in
  held_read =
      sym (length-take-le n.held N.list (omega (arith, st.few, st.roomy.nodes)))
      ∙ ap (λ (s : State). length s.queue) st.state
      ∙ quick_waiting q d

  -- the innermost name
  name_read_lem : 0 < n.depth → (frame_at E (n.depth - 1)).name ≡ name_at (quick_state q d).frames (depth d)
  unfolding name_at state_in
  name_read_lem h =
      ap (λ f. f.name) (sym (get_or-take n.depth E.list (n.depth - 1) no_frame (omega arith)))
      ∙ sym (get_or-map (λ f. f.name) (take n.depth E.list) (n.depth - 1) no_frame)
      ∙ ap (λ k. get_or (0 ∷ map (λ f. f.name) (take n.depth E.list)) k 0) (sym (down n.depth h))
      ∙ ap₂ (λ (s : State) k. name_at s.frames k) st.state depth_read

  ends_read : (x : ℕ) → ends_at x d ≡ (not (eqb n.depth 0) && eqb (frame_at E (n.depth - 1)).name x)
  ends_read x =
      quick_ends q x d
      ∙ ap (λ k. not (eqb k 0) && eqb (name_at (quick_state q d).frames (depth d)) x) (sym depth_read)
      ∙ either (eqb n.depth 0) _ _ (λ e. ap (λ m. eqb m x) (sym (name_read_lem (positive n.depth (eqb-false n.depth 0 e)))))
    where
      either : (z a b : Bool) → (z ≡ false → a ≡ b) → (not z && a) ≡ (not z && b)
      either true a b h = refl
      either false a b h = h refl

-- an engine's result that is the meaning's
taken_right :
    (q : Query) (d d' : Doc) (out : List ℕ) (r : Result) (a : After) → Takes r a out → r.state ≡ quick_state q d' → listed q d ++ r.out ≡ listed q d' →
    Taken q d d' out a
taken_right q d d' out r a t es eo =
    let e : r.out ≡ newly q d d' = sym (drop-append_seam (listed q d) r.out) ∙ ap (drop (length (listed q d))) eo in
    record {
      refusal = t.refusal;
      stands = record { state = t.state ∙ es; roomy = t.roomy; deep = t.deep; few = t.few };
      listed = t.listed ∙ ap length e;
      written = t.written ∙ ap (λ ns. buffer ns out) e;
    }

-- the tables, test by test: row 3 applies or not, and so on

abbrev open_rows : Bool → Bool → Bool → ℕ
open_rows b₃ b₅ b₆ = when b₃ after_end (when b₅ too_deep (when b₆ too_many_nodes 0))

abbrev close_rows : Bool → Bool → Bool → ℕ
close_rows b₃ none_open same = when b₃ after_end (when none_open wrong_close (when same 0 wrong_close))

module _ (q : Query) (d : Doc) (e : Option Stream.Event) (n : Numbers) (E : Elements) (N : Queue) (out : List ℕ) where
  abbrev R : ℕ → After
  R r = refused_with r n E N out

  open_table :
      (b₃ b₅ b₆ b₇ : Bool) (a : After) → (b₅ ≡ false → b₆ ≡ false → b₇ ≡ false → Taken q d (act_if e d) out a) →
      StepOwed q d e n E N out
      (first_or false bad_record
      (first_or b₃ after_end (first_or false wrong_close (first_or b₅ too_deep (first_or b₆ too_many_nodes (first_or b₇ too_many_held none))))))
      (when (eqb (open_rows b₃ b₅ b₆) 0) (when b₇ (R too_many_held) a) (R (open_rows b₃ b₅ b₆)))
  unfolding when first_or
  open_table true b₅ b₆ b₇ a h = refuses {r = after_end} (omega arith) refl
  open_table false true b₆ b₇ a h = refuses {r = too_deep} (omega arith) refl
  open_table false false true b₇ a h = refuses {r = too_many_nodes} (omega arith) refl
  open_table false false false true a h = refuses {r = too_many_held} (omega arith) refl
  open_table false false false false a h = takes (h refl refl refl)

  close_table :
      (b₃ none_open same : Bool) (a : After) → (none_open ≡ false → Taken q d (act_if e d) out a) →
      StepOwed q d e n E N out
      (first_or false bad_record
      (first_or b₃ after_end
      (first_or (not (not none_open && same)) wrong_close (first_or false too_deep (first_or false too_many_nodes (first_or false too_many_held none))))))
      (when (eqb (close_rows b₃ none_open same) 0) a (R (close_rows b₃ none_open same)))
  unfolding when first_or
  close_table true none_open same a h = refuses {r = after_end} (omega arith) refl
  close_table false true same a h = refuses {r = wrong_close} (omega arith) refl
  close_table false false true a h = takes (h refl)
  close_table false false false a h = refuses {r = wrong_close} (omega arith) refl

some_open : (e : Doc) → (depth e ≡ 0 → ⊥) → T (is_open e)
unfolding depth is_open
some_open (done-row f) h = absurd (h refl)
some_open (within p x e) h = tt

module _ (q : Query) (d : Doc) (w : InLimits q d) (n : Numbers) (E : Elements) (N : Queue) (st : Stands q d n E N) (out : List ℕ)
    (lent : Lent) (wide : ltb lent.out output_needed ≡ false) (enough : too_small lent.elements lent.nodes ≡ false) where
  abbrev Owed : Option Stream.Event → After → Type 0
  Owed e a = StepOwed q d e n E N out (first (event_refusals q false d e lent)) a

  -- lines 1, 15 and 11 do not apply
  abbrev later : Option ℕ → Option ℕ
  later o =
      first_or (ltb lent.out output_needed) short_output (first_or (too_small lent.elements lent.nodes) short_room (first_or false already_stopped o))

  later_rows : (o : Option ℕ) → later o ≡ o
  unfolding first_or
  later_rows o = ap₂ (λ (a b : Bool). first_or a short_output (first_or b short_room o)) wide enough

  owed_rows : (e : Option Stream.Event) (o : Option ℕ) (a : After) → StepOwed q d e n E N out o a → StepOwed q d e n E N out (later o) a
  owed_rows e o a h = subst (λ p. StepOwed q d e n E N out p a) (sym (later_rows o)) h

  few : ltb held_limit n.held ≡ false
  few = le-ltb held_limit n.held st.few

  before : n.handed ≤ node_limit
  before = omega (arith, handed_read q d n E N st, w.listing)

  -- an open

  over_is : (x : ℕ) → over_in (plan q) x n.depth n.held E N ≡ ltb held_limit (length (held q (opened (record { name = x }) d)))
  over_is x =
      over_used (plan q) x n E N
      ∙ ap (λ s. over held_limit s (opening (plan q) x s)) st.state
      ∙ quick_over q w.admitted (record { name = x }) d held_limit w.few

  open_rows_lem : refuse_open n ≡ open_rows (finished d) (leb depth_limit (depth d)) (leb node_limit (count d))
  unfolding refuse_open when
  open_rows_lem =
      ap₂
      (λ b k.
      when b after_end (when (leb depth_limit k) too_deep (when (leb node_limit n.opened) too_many_nodes (when (ltb held_limit n.held) too_many_held 0))))
      (ended_read q d n E N st) (depth_read q d n E N st)
      ∙ ap₂
      (λ k b. when (finished d) after_end (when (leb depth_limit (depth d)) too_deep (when (leb node_limit k) too_many_nodes (when b too_many_held 0))))
      (opened_read q d n E N st) few

  open_taken_lem :
      (x : ℕ) → leb depth_limit (depth d) ≡ false → leb node_limit (count d) ≡ false →
      ltb held_limit (length (held q (opened (record { name = x }) d))) ≡ false →
      Taken q d (opened (record { name = x }) d) out (open_taken (plan q) x n E N out)
  open_taken_lem x e₅ e₆ e₇ =
      let fits : OpenFits n =
      record {
        deep = omega (arith, leb-false depth_limit (depth d) e₅, depth_read q d n E N st);
        few = omega (arith, leb-false node_limit (count d) e₆, opened_read q d n E N st);
        held = st.few;
      } in
      taken_right q d (opened (record { name = x }) d) out (quick_open (plan q) x (state_in n E N)) (open_taken (plan q) x n E N out)
      (open_takes (plan q) x n E N out st.roomy fits before (over_is x ∙ e₇))
      (ap (λ s. (quick_open (plan q) x s).state) st.state ∙ quick_open_lem q w.admitted (record { name = x }) d)
      (ap (λ s. listed q d ++ (quick_open (plan q) x s).out) st.state ∙ quick_open_out q w.admitted (record { name = x }) d)

  open_right : (x : ℕ) → Owed (some (Stream.opens x)) (on_open (plan q) x n E N out)
  unfolding on_open first event_refusals is_bad is_opening closes_wrong act_if Stream.act
  open_right x =
      subst (Owed (some (Stream.opens x)))
      (sym
      (ap₂ (λ r b. when (eqb r 0) (when b (refused_with too_many_held n E N out) (open_taken (plan q) x n E N out)) (refused_with r n E N out)) open_rows_lem
      (over_is x)))
      (owed_rows (some (Stream.opens x)) _ _
      (open_table q d (some (Stream.opens x)) n E N out (finished d) (leb depth_limit (depth d)) (leb node_limit (count d))
      (ltb held_limit (length (held q (opened (record { name = x }) d)))) (open_taken (plan q) x n E N out) (open_taken_lem x)))

  -- a close

  close_rows_lem : (x : ℕ) → refuse_close n E x ≡ close_rows (finished d) (eqb n.depth 0) (eqb (frame_at E (n.depth - 1)).name x)
  unfolding refuse_close when
  close_rows_lem x =
      let same : Bool = eqb (frame_at E (n.depth - 1)).name x in
      let rows : Bool → Bool → Bool → ℕ =
      λ (a b c : Bool). when a after_end (when (eqb n.depth 0) wrong_close (when b wrong_close (when same (when c too_many_held 0) wrong_close))) in
      ap (λ a. rows a (ltb depth_limit n.depth) (ltb held_limit n.held)) (ended_read q d n E N st)
      ∙ ap₂ (λ b c. rows (finished d) b c) (le-ltb depth_limit n.depth st.deep) few

  close_taken_lem : eqb n.depth 0 ≡ false → Taken q d (closed d) out (close_taken (plan q) n E N out)
  close_taken_lem z =
      let p : n.depth ≡ 0 → ⊥ = eqb-false n.depth 0 z in
      let some_is : T (is_open d) = some_open d (λ e. p (depth_read q d n E N st ∙ e)) in
      let fits : CloseFits n = record { some = positive n.depth p; deep = st.deep; held = st.few } in
      taken_right q d (closed d) out (quick_close (plan q) (state_in n E N)) (close_taken (plan q) n E N out)
      (close_takes (plan q) n E N st.roomy fits out before)
      (ap (λ s. (quick_close (plan q) s).state) st.state ∙ quick_close_lem q w.admitted d some_is)
      (ap (λ s. listed q d ++ (quick_close (plan q) s).out) st.state ∙ quick_close_out q w.admitted d some_is)

  close_right : (x : ℕ) → Owed (some (Stream.closes x)) (on_close (plan q) x n E N out)
  unfolding on_close first event_refusals is_bad is_opening closes_wrong act_if Stream.act
  close_right x =
      owed_rows (some (Stream.closes x)) _ _
      (subst₂
      (λ b a.
      StepOwed q d (some (Stream.closes x)) n E N out
      (first_or false bad_record
      (first_or (finished d) after_end
      (first_or (not b) wrong_close (first_or false too_deep (first_or false too_many_nodes (first_or false too_many_held none)))))) a)
      (sym (ends_read q d n E N st x))
      (sym (ap (λ r. when (eqb r 0) (close_taken (plan q) n E N out) (refused_with r n E N out)) (close_rows_lem x)))
      (close_table q d (some (Stream.closes x)) n E N out (finished d) (eqb n.depth 0) (eqb (frame_at E (n.depth - 1)).name x)
      (close_taken (plan q) n E N out) close_taken_lem))

  bad_right : Owed none (refused_with bad_record n E N out)
  unfolding first first_or event_refusals is_bad
  bad_right = owed_rows none (some bad_record) _ (refuses {r = bad_record} (omega arith) refl)

  any_right : (e : Option Stream.Event) → Owed e (step (plan q) (shown e) n E N out)
  unfolding step
  any_right none = bad_right
  any_right (some (Stream.opens x)) = open_right x
  any_right (some (Stream.closes x)) = close_right x

  -- THE STEP
  pub step_right :
      (P : Plan) → P ≡ plan q → (e : Option Stream.Event) → StepOwed q d e n E N out (first (event_refusals q false d e lent)) (step P (shown e) n E N out)
  step_right P p e = subst (λ K. Owed e (step K (shown e) n E N out)) (sym p) (any_right e)
