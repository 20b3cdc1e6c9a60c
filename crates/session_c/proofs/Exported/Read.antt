-- That the session's bytes after a refused call hold the session that the session's own call gives.
--
--   marked_read       the bytes of a session after a refusal hold the session after it
--   takes_read        so do those after an event that was refused
--   runs_read         and those after a block of which no event was taken
--
-- Where an event was taken the bytes are those of the session (`session_bytes`), which are read again as it was (Laid.Laws, `session_read`). Assumes that a
-- session's bytes are bytes.
use Prim.Native.Nat.{ℕ, zero, suc, ◌+◌, ◌*◌, ◌/◌, ◌<◌}
use Rattle.std.proofs.Common.{arith, ◌∙◌, take_at, drop_at, eq-eqb}
use Rattle.std.specs.Prelude.{◌≡◌, refl, Bool, ◌||◌, eqb, ltb, get_or, take, drop}
use Rattle.std.proofs.Math.Path.{sym, ap, ap₂}
use Rattle.std.proofs.Math.Bool.{true, false, or-true, or-false}
use mathlib.Core.List.{List, [], ◌∷◌, ◌++◌}
use mir.Val.{bool_byte}
use Rattle.std.proofs.Math.ListN.{length}
use Rattle.std.proofs.Math.Seq.{length-take-le}
use Rattle.choice.specs.When.{when, when_true, when_known, never}
use Rattle.meaning.specs.Limits.{output_needed}
use Rattle.meaning.specs.Refusals.{stops}
use Rattle.words.specs.Words.{words, bytes_of, Bytes}
use Rattle.words.specs.Words.Laws.{words_at, words_bytes, bytes_length}
use Rattle.numbers.specs.Numbers.{Numbers, numbers_in, numbers_of, with_stop}
use Rattle.numbers.specs.Numbers.Laws as numbers
use Rattle.plan_bytes.specs.Kept.{plan_room}
use Rattle.feed.specs.Fed.{Came, Fed, and_then, one, fed}
use Rattle.session.specs.declared.Session.{Session}
use Rattle.session.specs.declared.Answer.{Answer}
use Rattle.session.specs.declared.Answer.TheVariants.{Refused, Taken}
use Rattle.session.specs.Event.{Done, session_of, stopped_by, event}
use Rattle.session.specs.Event.Laws.{stopped_other, event_refused}
use Rattle.session.specs.Run.{Housed, housed, refusal_of, came_as, event_at}
use Rattle.session_c.specs.Laid.{session_room, session_in, marked_bytes, counts_room}
use Rattle.session_c.proofs.Laid.Laws.{plan_room_lem, room_is, six, six_words, rest_long, rest_bytes, marked_is}
use Rattle.session_c.specs.Exported.{Took, laid_by, took_with, took, Blocked, moved_by, blocked_with, blocked}

-- a session with another stop
abbrev stopping : Session → Bool → Session
stopping s b =
    record {
      kept = s.kept;
      depth = s.depth;
      held = s.held;
      opened = s.opened;
      handed = s.handed;
      ended = s.ended;
      stopped = b;
    }

module _ (S : List ℕ) (long : length S ≡ session_room) (bytes-S : Bytes S) where
  abbrev rest : List ℕ
  rest = drop plan_room S

  abbrev n : Numbers
  n = numbers_in rest

  -- what is read from bytes is a number of 4 bytes
  read_small : (i : ℕ) → i < 6 → get_or (six n) i 0 < 4294967296
  read_small i h =
      let b : (j : ℕ) → get_or rest j 0 < 256 = rest_bytes S long bytes-S in
      let at = words_at rest i (omega (arith, rest_long S long bytes-S, numbers.room_is)) in
      let same : get_or (words rest) i 0 ≡ get_or (six n) i 0 = ap (λ (l : List ℕ). get_or l i 0) (six_words rest (rest_long S long bytes-S)) in
      omega (arith, at, same, b (4 * i), b (4 * i + 1), b (4 * i + 2), b (4 * i + 3))

  small : (i : ℕ) → get_or (six (with_stop 1 n)) i 0 < 4294967296
  small zero = read_small 0 (omega arith)
  small (suc zero) = read_small 1 (omega arith)
  small (suc (suc zero)) = read_small 2 (omega arith)
  small (suc (suc (suc zero))) = read_small 3 (omega arith)
  small (suc (suc (suc (suc zero)))) = read_small 4 (omega arith)
  small (suc (suc (suc (suc (suc zero))))) = omega arith
  small (suc (suc (suc (suc (suc (suc i)))))) = omega arith

  numbers_back : numbers_in (bytes_of (six (with_stop 1 n))) ≡ with_stop 1 n
  numbers_back =
      let ws : List ℕ = six (with_stop 1 n) in
      ap (λ (l : List ℕ). numbers_of (get_or l 0 0) (get_or l 1 0) (get_or l 2 0) (get_or l 3 0) (get_or l 4 0) (get_or l 5 0))
      (sym (six_words (bytes_of ws) (bytes_length ws ∙ omega (arith, numbers.room_is))) ∙ words_bytes ws small)

  read_by :
      (b : Bool) → session_in (when b (take (plan_room + 20) S ++ bytes_of (1 ∷ [])) S) ≡ stopping (session_in S) ((session_in S).stopped || b)
  unfolding when session_in
  read_by true =
      let kept_long : length (take plan_room S) ≡ plan_room = length-take-le plan_room S (omega (arith, plan_room_lem, room_is)) in
      let X : List ℕ = bytes_of (six (with_stop 1 n)) in
      ap session_in (sym (marked_is S long bytes-S))
      ∙ ap₂ (λ (x y : List ℕ). session_of x (numbers_in y))
      (take_at (take plan_room S) X plan_room kept_long) (drop_at (take plan_room S) X plan_room kept_long)
      ∙ ap (session_of (take plan_room S)) numbers_back
      ∙ ap (stopping (session_in S)) (sym (or-true (session_in S).stopped))
  read_by false = ap (stopping (session_in S)) (sym (or-false (session_in S).stopped))

  pub marked_read : (r : ℕ) → session_in (marked_bytes r S) ≡ stopped_by r (session_in S)
  unfolding marked_bytes
  marked_read r = read_by (stops r)

  -- an event

  pub takes_read :
      (bytes E N out : List ℕ) (r : ℕ) → (event (session_in S) bytes E N out).answer ≡ Refused r →
      session_in (took S bytes E N out).session ≡ (event (session_in S) bytes E N out).session
  unfolding took laid_by
  takes_read bytes E N out r e =
      let is = event_refused (session_in S) bytes E N out r e in
      ap (λ (t : Took). session_in t.session) (when_true _ (took_with S (event (session_in S) bytes E N out)) _ (eq-eqb _ _ long) ∙ ap (took_with S) is)
      ∙ marked_read r
      ∙ sym (ap (λ (d : Done). d.session) is)

-- a block

Idle : Session → Fed Housed → Type 0
Idle s f = f.taken ≡ 0 → f.seat.session ≡ stopped_by f.refusal s

idle_none : (s : Session) (E N out : List ℕ) → Idle s (record { seat = housed s E N; taken = 0; listed = 0; refusal = 0; out = out })
unfolding Idle
idle_none s E N out z = sym (stopped_other 0 s (unfold stops in refl))

idle_refused :
    (s : Session) (bytes E N out : List ℕ) (a : Answer) → (event s bytes E N out).answer ≡ a → eqb (refusal_of a) 0 ≡ false →
    (event s bytes E N out).session ≡ stopped_by (refusal_of a) s
unfolding refusal_of
idle_refused s bytes E N out (Refused r) e f = ap (λ (d : Done). d.session) (event_refused s bytes E N out r e)
idle_refused s bytes E N out (Taken k) e f = never (sym f ∙ eq-eqb 0 0 refl)

idle_taken : (s : Session) (c : Came Housed) (f : Fed Housed) → eqb c.refusal 0 ≡ true → Idle s (and_then (one c) f)
unfolding Idle and_then
idle_taken s c f t z = let some : bool_byte (eqb c.refusal 0) ≡ 1 = ap bool_byte t in absurd (omega arith)

idle_fed : (k : ℕ) (s : Session) (E N es out : List ℕ) → Idle s (fed event_at k (housed s E N) es out)
unfolding fed event_at Idle
idle_fed zero s E N es out = idle_none s E N out
idle_fed (suc k) s E N es out =
    when_known (Idle s) (ltb (length out) output_needed) _ _ (λ t. idle_none s E N out)
    (λ f.
    when_known (Idle s) (eqb (refusal_of (event s (take 8 es) E N out).answer) 0) _ _
    (λ t. idle_taken s (came_as (event s (take 8 es) E N out)) _ t)
    (λ t z. idle_refused s (take 8 es) E N out (event s (take 8 es) E N out).answer refl t))

pub runs_read :
    (S es E N out C : List ℕ) → length S ≡ session_room → Bytes S → length C ≡ counts_room →
    (fed event_at (length es / 8) (housed (session_in S) E N) es out).taken ≡ 0 →
    session_in (blocked S es E N out C).session ≡ (fed event_at (length es / 8) (housed (session_in S) E N) es out).seat.session
unfolding blocked moved_by Idle
runs_read S es E N out C long bytes-S wide z =
    let f : Fed Housed = fed event_at (length es / 8) (housed (session_in S) E N) es out in
    ap (λ (b : Blocked). session_in b.session) (when_true _ _ _ (eq-eqb _ _ long) ∙ when_true _ (blocked_with S f) _ (eq-eqb _ _ wide))
    ∙ ap session_in (when_true (eqb f.taken 0) (marked_bytes f.refusal S) _ (eq-eqb _ _ z))
    ∙ marked_read S long bytes-S f.refusal
    ∙ sym (idle_fed (length es / 8) (session_in S) E N es out z)
