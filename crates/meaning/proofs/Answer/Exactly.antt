-- Document 01's table of refusals, line by line, in plain words and numbers.
--
--   TooSmall lent           a buffer of the lent room is too small;  small_exactly: the test for it
--   Due q p c r             refusal r is due to the call c after the past p: a constructor for each line of the table
--   applies_exactly         a refusal applies exactly if it is due
--   refused_exactly         the answer is refusal r exactly if r is due and none that comes before it is
--   short_output_exactly    the answer to an event is refusal 1 exactly if the output buffer is too short
--   short_room_exactly      the answer to an event is refusal 15 exactly if the lent room is too small and the output buffer is not
--   stopped_event_exactly   the answer to an event is refusal 11 exactly if the session is stopped and what is lent is not too small
--   stopped_finish_exactly  the answer to finish is refusal 11 exactly if the session is stopped
--   yielded_exactly         the answer is what the call yields exactly if no refusal is due
--
-- The limits and the refusals stand here as numbers, not by their names in Limits and Refusals: one changed there fails here or in Limits.Laws.
-- Assumes nothing. NOT here: refusals 9 and 10 (crate query).
use Rattle.std.specs.Prelude.{ℕ, zero, suc, ◌≤◌, ◌<◌, ◌↔◌, ◌⊎◌, ◌≡◌, refl, Bool, true, not, ◌&&◌, ◌||◌, leb, ltb}
use Rattle.std.proofs.Common.{arith, inl, inr, sym, ◌∙◌, le→leb, lt→ltb}
use Rattle.std.proofs.Math.Path.{ap, subst}
use mathlib.Core.List.Memᴰ
use mathlib.Core.List.{List, [], ◌∷◌, ◌++◌, Memᴰ}
use Rattle.std.proofs.Math.Option.{Option, none, some}
use Rattle.std.proofs.Math.Dec.{T, T_not, not_T, leb→le, ltb→lt}
use Rattle.std.proofs.Math.ListN.{length}
use Rattle.meaning.specs.Logic.{or_l, or_r, or_case}
use Rattle.meaning.specs.Limits.{depth_limit, held_limit, node_limit, output_needed, elements_needed, nodes_needed}
use Rattle.meaning.proofs.Limits.Laws.{depth_is, held_is, node_limit_is, output_is, elements_is, nodes_is}
use Rattle.meaning.specs.Refusals.{rank}
use Rattle.meaning.proofs.Refusals.Laws.{one_first, after_one, before_others, stopped_after, stopped_before}
use Rattle.meaning.specs.Query.{Query}
use Rattle.meaning.specs.Document.{count, depth, finished, ends_at}
use Rattle.meaning.specs.Document.Laws.{Innermost}
use Rattle.meaning.proofs.Document.Laws.{finished_exactly, ends_exactly}
use Rattle.meaning.specs.Stream.{Event, opens, closes, document}
use Rattle.meaning.specs.Record.{event_of}
use Rattle.meaning.specs.Record.Laws.{Records}
use Rattle.meaning.proofs.Record.Laws.{event_exactly, bad_exactly}
use Rattle.meaning.specs.Standing.{held}
use Rattle.meaning.proofs.Table.Laws.{line_due, due_line}
use Rattle.meaning.specs.Answer.{Lent, Call, event, finish, Answer, refused, Past, Refusal, refusal, is_bad, is_opening, too_small}
use Rattle.meaning.specs.Answer.{closes_wrong, act_if, event_refusals, finish_refusals, refusals, yield, answer, events_of}
use Rattle.meaning.specs.Answer.Laws.{Applies, Gives, refuses, yields}
use Rattle.meaning.proofs.Answer.Laws.{answer_gives, gives_unique, never_refuses, act_document}
use Rattle.meaning.specs.Answer.Exactly.{TooSmall, Due, short_output_lem, short_room_lem, already_stopped_lem, bad_record_lem, document_closed}
use Rattle.meaning.specs.Answer.Exactly.{wrong_close_lem, too_deep_lem, too_many, too_many_held_lem, no_document, still_open}

-- an open, where a line asks for one
opening : (o : Option Event) (b : Bool) → T (is_opening o && b) → (n : ℕ) × (o ≡ some (opens n)) × T b
unfolding is_opening
opening none b t = absurd t
opening (some (opens n)) b t = (n, refl, t)
opening (some (closes n)) b t = absurd t

is_none : (o : Option Event) → T (is_bad o) → o ≡ none
unfolding is_bad
is_none none t = refl
is_none (some e) t = absurd t

pub small_exactly : (lent : Lent) → T (too_small lent.elements lent.nodes) ↔ TooSmall lent
unfolding too_small
small_exactly lent = (λ t. to (or_case (ltb lent.elements elements_needed) _ t), from)
  where
    to : T (ltb lent.elements elements_needed) ⊎ T (ltb lent.nodes nodes_needed) → TooSmall lent
    to (inl t) = inl (omega (arith, elements_is, ltb→lt lent.elements elements_needed t))
    to (inr t) = inr (omega (arith, nodes_is, ltb→lt lent.nodes nodes_needed t))

    from : TooSmall lent → T (ltb lent.elements elements_needed || ltb lent.nodes nodes_needed)
    from (inl h) = or_l (ltb lent.elements elements_needed) _ (lt→ltb lent.elements elements_needed (omega (arith, elements_is)))
    from (inr h) = or_r (ltb lent.elements elements_needed) _ (lt→ltb lent.nodes nodes_needed (omega (arith, nodes_is)))

module _ (q : Query) (p : Past) (bs : List ℕ) (lent : Lent) where
  abbrev Line : ℕ → Type 0
  Line r = Due q p (event bs lent) r

  wrong_due : (o : Option Event) → event_of bs ≡ o → T (closes_wrong o (document p.events)) → Line 4
  unfolding closes_wrong
  wrong_due none is t = absurd t
  wrong_due (some (opens n)) is t = absurd t
  wrong_due (some (closes n)) is t =
      wrong_close_lem ((event_exactly bs (closes n)).0 is) (λ i. T_not (ends_at n (document p.events)) t ((ends_exactly n (document p.events)).1 i))

  opening_due : (r : ℕ) (b : Bool) → ((n : ℕ) → event_of bs ≡ some (opens n) → T b → Line r) → T (is_opening (event_of bs) && b) → Line r
  opening_due r b f t = let w = opening (event_of bs) b t in f w.0 w.1 w.2

  held_after : (n : ℕ) → event_of bs ≡ some (opens n) → held q (act_if (event_of bs) (document p.events)) ≡ held q (document (p.events ++ (opens n ∷ [])))
  unfolding events_of
  held_after n is = ap (held q) (act_document p.events (event_of bs) ∙ ap (λ o. document (p.events ++ events_of o)) is)

  event_due : (r : ℕ) → Applies q p (event bs lent) r → Line r
  unfolding refusals event_refusals
  event_due r =
      line_due Line 1 _ (λ t. short_output_lem (omega (arith, output_is, ltb→lt lent.out output_needed t)))
      (line_due Line 15 _ (λ t. short_room_lem ((small_exactly lent).0 t))
      (line_due Line 11 _ already_stopped_lem
      (line_due Line 2 _ (λ t. bad_record_lem ((bad_exactly bs).0 (is_none (event_of bs) t)))
      (line_due Line 3 _ (λ t. let w = (finished_exactly (document p.events)).0 t in document_closed w.0 w.1)
      (line_due Line 4 _ (wrong_due (event_of bs) refl)
      (line_due Line 5 _ (opening_due 5 _ (λ n is t.
      too_deep_lem ((event_exactly bs (opens n)).0 is) (omega (arith, depth_is, leb→le depth_limit (depth (document p.events)) t))))
      (line_due Line 6 _ (opening_due 6 _ (λ n is t.
      too_many ((event_exactly bs (opens n)).0 is) (omega (arith, node_limit_is, leb→le node_limit (count (document p.events)) t))))
      (line_due Line 7 _ (opening_due 7 _ (λ n is t.
      too_many_held_lem ((event_exactly bs (opens n)).0 is)
      (subst (λ l. 1_024 < length l) (held_after n is)
      (omega (arith, held_is, ltb→lt held_limit (length (held q (act_if (event_of bs) (document p.events)))) t)))))
      (λ m. absurd (Memᴰ.not-nil m))))))))))

  open_line : {n : ℕ} (b : Bool) → Records bs (opens n) → T b → T (is_opening (event_of bs) && b)
  unfolding is_opening
  open_line {n} b k t = subst (λ o. T (is_opening o && b)) (sym ((event_exactly bs (opens n)).1 k)) t

  close_line : {n : ℕ} → Records bs (closes n) → (Innermost (document p.events) n → ⊥) → T (closes_wrong (event_of bs) (document p.events))
  unfolding closes_wrong
  close_line {n} k f =
      subst (λ o. T (closes_wrong o (document p.events))) (sym ((event_exactly bs (closes n)).1 k))
      (not_T (ends_at n (document p.events)) (λ t. f ((ends_exactly n (document p.events)).0 t)))

  bad_line : ((e : Event) → Records bs e → ⊥) → T (is_bad (event_of bs))
  unfolding is_bad
  bad_line f = subst (λ o. T (is_bad o)) (sym ((bad_exactly bs).1 f)) tt

finish_due : (q : Query) (p : Past) (r : ℕ) → Applies q p finish r → Due q p finish r
unfolding refusals finish_refusals
finish_due q p r =
    line_due (Due q p finish) 11 _ already_stopped_lem
    (line_due (Due q p finish) 8 _ (λ t. go (count (document p.events)) (depth (document p.events)) refl refl t)
    (λ m. absurd (Memᴰ.not-nil m)))
  where
    go : (c d : ℕ) → count (document p.events) ≡ c → depth (document p.events) ≡ d → T (not (finished (document p.events))) → Due q p finish 8
    go zero d a b t = no_document a
    go (suc c) (suc d) a b t = still_open (omega arith)
    go (suc c) zero a b t = absurd (T_not (finished (document p.events)) t ((finished_exactly (document p.events)).1 (omega arith, b)))

-- lines 1, 15 and 11 stand before the others
past : {x y z : Refusal} {rs : List Refusal} {r : ℕ} → Memᴰ (refusal r true) rs → Memᴰ (refusal r true) (x ∷ y ∷ z ∷ rs)
past m = Memᴰ.tail (Memᴰ.tail (Memᴰ.tail m))

due_applies : (q : Query) (p : Past) {c : Call} {r : ℕ} → Due q p c r → Applies q p c r
unfolding refusals event_refusals finish_refusals
due_applies q p (short_output_lem {lent} h) = due_line 1 _ (lt→ltb lent.out output_needed (omega (arith, output_is)))
due_applies q p (short_room_lem {lent} h) = Memᴰ.tail (due_line 15 _ ((small_exactly lent).1 h))
due_applies q p (already_stopped_lem {c = event bs lent} t) = Memᴰ.tail (Memᴰ.tail (due_line 11 _ t))
due_applies q p (already_stopped_lem {c = finish} t) = due_line 11 _ t
due_applies q p (bad_record_lem {bs} {lent} f) = past (due_line 2 _ (bad_line q p bs lent f))
due_applies q p (document_closed h k) = past (Memᴰ.tail (due_line 3 _ ((finished_exactly (document p.events)).1 (h, k))))
due_applies q p (wrong_close_lem {bs} {lent} k f) = past (Memᴰ.tail (Memᴰ.tail (due_line 4 _ (close_line q p bs lent k f))))
due_applies q p (too_deep_lem {bs} {lent} k h) =
    let d = document p.events in
    past (Memᴰ.tail (Memᴰ.tail (Memᴰ.tail (due_line 5 _
    (open_line q p bs lent (leb depth_limit (depth d)) k (le→leb depth_limit (depth d) (omega (arith, depth_is))))))))
due_applies q p (too_many {bs} {lent} k h) =
    let d = document p.events in
    past (Memᴰ.tail (Memᴰ.tail (Memᴰ.tail (Memᴰ.tail (due_line 6 _
    (open_line q p bs lent (leb node_limit (count d)) k (le→leb node_limit (count d) (omega (arith, node_limit_is)))))))))
due_applies q p (too_many_held_lem {bs} {lent} {n} k h) =
    let l : 1_024 < length (held q (act_if (event_of bs) (document p.events))) =
    subst (λ l. 1_024 < length l) (sym (held_after q p bs lent n ((event_exactly bs (opens n)).1 k))) h in
    past (Memᴰ.tail (Memᴰ.tail (Memᴰ.tail (Memᴰ.tail (Memᴰ.tail (due_line 7 _
    (open_line q p bs lent (ltb held_limit (length (held q (act_if (event_of bs) (document p.events))))) k (lt→ltb held_limit _ (omega (arith, held_is))))))))))
due_applies q p (no_document e) =
    let d = document p.events in
    Memᴰ.tail (due_line 8 _ (not_T (finished d) (λ t. let w = (finished_exactly d).0 t in omega (arith, w.0))))
due_applies q p (still_open h) =
    let d = document p.events in
    Memᴰ.tail (due_line 8 _ (not_T (finished d) (λ t. let w = (finished_exactly d).0 t in omega (arith, w.1))))

pub applies_exactly : (q : Query) (p : Past) (c : Call) (r : ℕ) → Applies q p c r ↔ Due q p c r
applies_exactly q p (event bs lent) r = (event_due q p bs lent r, due_applies q p)
applies_exactly q p finish r = (finish_due q p r, due_applies q p)

pub refused_exactly :
    (q : Query) (p : Past) (c : Call) (r : ℕ) → (answer q p c ≡ refused r) ↔ (Due q p c r × ((s : ℕ) → Due q p c s → rank r ≤ rank s))
refused_exactly q p c r = (
  λ e. go (answer_gives q p c) e,
  λ w. gives_unique q p c (answer_gives q p c) (refuses (due_applies q p w.0) (λ s a. w.1 s ((applies_exactly q p c s).0 a))),
)
  where
    go : {a : Answer} → Gives q p c a → a ≡ refused r → Due q p c r × ((s : ℕ) → Due q p c s → rank r ≤ rank s)
    go (refuses {r = k} m f) e =
        let z : k ≡ r = cc in
        (subst (Due q p c) z ((applies_exactly q p c k).0 m), λ s w. subst (λ n. rank n ≤ rank s) z (f s (due_applies q p w)))
    go (yields f) e = absurd (never_refuses q (document p.events) c r e)

was_stopped : {q : Query} {p : Past} {c : Call} → Due q p c 11 → T p.stopped
was_stopped (already_stopped_lem t) = t

-- 1, 15 and 11 by themselves: only 1 comes before 15, and only 1 and 15 before 11
module _ (q : Query) (p : Past) (bs : List ℕ) (lent : Lent) where
  short_or_later : {r : ℕ} → Due q p (event bs lent) r → ((r ≡ 1) × (lent.out < 4_100)) ⊎ (1 < r)
  short_or_later (short_output_lem h) = inl (refl, h)
  short_or_later (short_room_lem h) = inr (omega arith)
  short_or_later (already_stopped_lem t) = inr (omega arith)
  short_or_later (bad_record_lem f) = inr (omega arith)
  short_or_later (document_closed h k) = inr (omega arith)
  short_or_later (wrong_close_lem k f) = inr (omega arith)
  short_or_later (too_deep_lem k h) = inr (omega arith)
  short_or_later (too_many k h) = inr (omega arith)
  short_or_later (too_many_held_lem k h) = inr (omega arith)

  pub short_output_exactly : (answer q p (event bs lent) ≡ refused 1) ↔ (lent.out < 4_100)
  short_output_exactly =
      let x = refused_exactly q p (event bs lent) 1 in
      (λ e. short (x.0 e).0, λ h. x.1 (short_output_lem h, λ r d. one_first r (numbered (short_or_later d))))
    where
      short : Due q p (event bs lent) 1 → lent.out < 4_100
      short (short_output_lem h) = h

      numbered : {r : ℕ} → ((r ≡ 1) × (lent.out < 4_100)) ⊎ (1 < r) → 0 < r
      numbered (inl w) = omega (arith, w.0)
      numbered (inr h) = omega arith

  small : Due q p (event bs lent) 15 → TooSmall lent
  small (short_room_lem h) = h

  later : (lent.out < 4_100 → ⊥) → {r : ℕ} → ((r ≡ 1) × (lent.out < 4_100)) ⊎ (1 < r) → 1 < r
  later f (inl w) = absurd (f w.1)
  later f (inr h) = h

  pub short_room_exactly : (answer q p (event bs lent) ≡ refused 15) ↔ (TooSmall lent × (lent.out < 4_100 → ⊥))
  short_room_exactly =
      let x = refused_exactly q p (event bs lent) 15 in (
        λ e. (small (x.0 e).0, λ h. omega (arith, after_one, (x.0 e).1 1 (short_output_lem h))),
        λ w. x.1 (short_room_lem w.0, λ r d. before_others r (later w.1 (short_or_later d))),
      )

  pub stopped_event_exactly :
      (answer q p (event bs lent) ≡ refused 11) ↔ (T p.stopped × (lent.out < 4_100 → ⊥) × (TooSmall lent → ⊥))
  stopped_event_exactly =
      let x = refused_exactly q p (event bs lent) 11 in (
        λ e. (
          was_stopped (x.0 e).0,
          λ h. omega (arith, after_one, stopped_after, (x.0 e).1 1 (short_output_lem h)),
          λ h. omega (arith, stopped_after, (x.0 e).1 15 (short_room_lem h)),
        ),
        λ w. x.1 (already_stopped_lem w.0, λ r d. stopped_before r (later w.1 (short_or_later d)) (λ z. w.2 (small (subst (Due q p (event bs lent)) z d)))),
      )

pub stopped_finish_exactly : (q : Query) (p : Past) → (answer q p finish ≡ refused 11) ↔ T p.stopped
stopped_finish_exactly q p =
    let x = refused_exactly q p finish 11 in
    (λ e. was_stopped (x.0 e).0, λ t. x.1 (already_stopped_lem t, λ r d. least d))
  where
    least : {r : ℕ} → Due q p finish r → rank 11 ≤ rank r
    least (already_stopped_lem t) = omega arith
    least (no_document e) = stopped_before 8 (omega arith) (λ z. omega arith)
    least (still_open h) = stopped_before 8 (omega arith) (λ z. omega arith)

pub yielded_exactly : (q : Query) (p : Past) (c : Call) → (answer q p c ≡ yield q (document p.events) c) ↔ ((s : ℕ) → Due q p c s → ⊥)
yielded_exactly q p c = (
  λ e. go (answer_gives q p c) e,
  λ f. gives_unique q p c (answer_gives q p c) (yields (λ s a. f s ((applies_exactly q p c s).0 a))),
)
  where
    go : {a : Answer} → Gives q p c a → a ≡ yield q (document p.events) c → (s : ℕ) → Due q p c s → ⊥
    go (refuses {r} m f) e = absurd (never_refuses q (document p.events) c r (sym e))
    go (yields f) e = λ s w. f s (due_applies q p w)
