-- THE QUICK ENGINE IS RIGHT: on the states that the meaning prescribes, an event leads to the prescribed state of the next document and
-- hands out exactly what that document newly lists.
--
--   quick_open_lem, quick_open_out      an open
--   quick_over                      refusal 7, for any limit that is kept before the open
--   quick_close_lem, quick_close_out    a close with some element open
--   quick_act_lem, quick_out            an event that fits
--
-- Assumes T (admits q). NOT here: what a session reads off a state (Quick.Reads).
use Prim.Native.Nat.{ℕ, suc, ◌+◌, ◌-◌, ◌≤◌}
use Rattle.std.proofs.Math.Numerals.{add-one}
use Rattle.std.proofs.Common.{arith, ◌∙◌, length-append, length-drop}
use Rattle.std.specs.Prelude.{◌≡◌, refl, Bool, not, ◌&&◌, T, leb, ltb, take, drop}
use Rattle.std.proofs.Math.Path.{sym, ap}
use Rattle.std.proofs.Math.Bool.{true, false}
use mathlib.Core.List.{List, [], ◌∷◌, ◌++◌, map}
use Rattle.std.proofs.Math.Dec.{eqb, leb-suc-zero, leb-suc-suc, eqb-suc-zero}
use Rattle.std.proofs.Math.ListN.{length}
use Rattle.std.proofs.lemmas.List.{length-map}
use Rattle.std.proofs.Math.Seq.{drop-append_seam}
use borrow.Author.Tests.{le-ltb}
use Rattle.meaning.specs.Query.{Query, admits}
use Rattle.meaning.specs.Document.{Node, Doc, done, within, opened, closed, count, depth, is_open, finished, ends_at}
use Rattle.meaning.proofs.Document.Laws.{count_opened, count_closed}
use Rattle.meaning.specs.Standing.{listed, held}
use Rattle.meaning.specs.Stream.{Event, opens, closes, fits, act}
use Rattle.engine.specs.Engine as Engine
use Rattle.engine.specs.Engine.{open_model, close_model, settle}
use Rattle.engine.specs.StateOf.{state_of}
use Rattle.plan.specs.Plan.{plan}
use Rattle.engine.specs.MaskOps.{mask_ops, mask_state}
use Rattle.engine.proofs.MaskOps.Laws.{mask_open, mask_open_out, mask_close, mask_close_out}
use Rattle.engine.specs.Quick as Quick
use Rattle.engine.specs.Quick.{Frame, Waiting, State, Opening, opening, over, newcomer, queue_after, out_after, quick_open, Closing, quick_close, quick_act}
use Rattle.engine.proofs.Quick.Reads.{quick_waiting, quick_depth}
use Rattle.engine.specs.Quick.Of.{frame_shown, waiting_shown, quick_state}
use Rattle.engine.proofs.Quick.Open as Open
use Rattle.engine.proofs.Quick.Close as Close

-- counters

handed_on :
    (q : Query) (d d' : Doc) (out : List ℕ) (ws : List Waiting) → listed q d ++ out ≡ listed q d' → out ≡ map (λ w. w.node) ws →
    length (listed q d) + length ws ≡ length (listed q d')
handed_on q d d' out ws e k =
    ap (λ n. length (listed q d) + n) (sym (ap length k ∙ length-map ws _)) ∙ sym (length-append (listed q d) out) ∙ ap length e

same_state :
    {fs fs' : List Frame} {ws ws' : List Waiting} {k k' h h' : ℕ} {e e' : Bool} →
    fs ≡ fs' → ws ≡ ws' → k ≡ k' → h ≡ h' → e ≡ e' →
    ◌≡◌ {A = State}
    (record { frames = fs; queue = ws; opened = k; handed = h; ended = e })
    (record { frames = fs'; queue = ws'; opened = k'; handed = h'; ended = e' })
same_state p q r s t = λ i. record { frames = p i; queue = q i; opened = r i; handed = s i; ended = t i }

finished_open : (y : Node) (d : Doc) → false ≡ finished (opened y d)
unfolding opened finished
finished_open y (done f) = refl
finished_open y (within p x d) = refl

finished_close : (d : Doc) → T (is_open d) → eqb (depth (closed d)) 0 ≡ finished (closed d)
unfolding is_open closed depth finished
finished_close (done f) o = absurd o
finished_close (within p x (done k)) o = refl
finished_close (within p x (within p' x' d)) o = eqb-suc-zero (depth (closed (within p' x' d)))

module _ (q : Query) (a : T (admits q)) (y : Node) (d : Doc) where
  new_shown : waiting_shown (Engine.newcomer (mask_ops (plan q)) (mask_state q d)) ≡ newcomer (quick_state q d)
  unfolding Engine.newcomer newcomer quick_state mask_state state_of
  new_shown =
      ap (λ l. record { node = suc (count d); level = suc l; need = 0 }) (sym (length-map (mask_state q d).frames (frame_shown (plan q))))

  abbrev s : State
  s = quick_state q d

  abbrev o : Opening
  o = Open.decided q a y d

  opens_is : quick_open (plan q) y.name s ≡ Quick.opens s o
  unfolding quick_open
  opens_is = ap (Quick.opens s) (Open.opening_is q a y d)

  out_is : (quick_open (plan q) y.name s).out ≡ map (λ w. w.node) (out_after o.all s.queue (newcomer s) o.went)
  out_is = ap (λ r. r.out) opens_is ∙ (unfold Quick.opens in refl)

  out_shown : (open_model (mask_ops (plan q)) y (mask_state q d)).out ≡ (quick_open (plan q) y.name s).out
  unfolding open_model settle quick_state
  out_shown =
      Open.open_front q a y d
      ∙ ap (λ w. map (λ w. w.node) (out_after o.all s.queue w o.went)) new_shown
      ∙ sym out_is

  pub quick_open_out : listed q d ++ (quick_open (plan q) y.name (quick_state q d)).out ≡ listed q (opened y d)
  quick_open_out = ap (λ o. listed q d ++ o) (sym out_shown) ∙ mask_open_out q a y d

  queue_is : queue_after o.all o.joins s.queue (newcomer s) o.went ≡ (quick_state q (opened y d)).queue
  unfolding quick_state open_model settle
  queue_is =
      ap (λ w. queue_after o.all o.joins s.queue w o.went) (sym new_shown)
      ∙ sym (Open.open_queue q a y d)
      ∙ ap (map waiting_shown) (ap (λ s. s.queue) (mask_open q a y d))

  frames_is : o.frames ≡ (quick_state q (opened y d)).frames
  unfolding quick_state open_model settle
  frames_is = ap (map (frame_shown (plan q))) (ap (λ s. s.frames) (mask_open q a y d))

  pub quick_open_lem : (quick_open (plan q) y.name (quick_state q d)).state ≡ quick_state q (opened y d)
  unfolding Quick.opens quick_state
  quick_open_lem =
      ap (λ r. r.state) opens_is
      ∙ same_state frames_is queue_is (sym (count_opened y d))
      (handed_on q d (opened y d) _ (out_after o.all s.queue (newcomer s) o.went) quick_open_out out_is) (finished_open y d)

-- "an open after which more than 1,024 nodes would be held"

module _ {A : Type 0} (limit : ℕ) (ws : List A) (w : A) (went : ℕ) (h : length ws ≤ limit) where
  over_if : (all joins : Bool) → (not all && (joins && leb limit (length ws - went))) ≡ ltb limit (length (queue_after all joins ws w went))
  unfolding queue_after
  over_if true joins = sym (leb-suc-zero limit)
  over_if false true =
      sym (leb-suc-suc limit (length ws - went))
      ∙ ap (leb (suc limit)) (sym (length-append (drop went ws) (w ∷ []) ∙ add-one (length (drop went ws)) ∙ ap suc (length-drop went ws)))
  over_if false false = sym (ap (ltb limit) (length-drop went ws) ∙ le-ltb limit (length ws - went) (omega arith))

pub quick_over :
    (q : Query) → T (admits q) → (y : Node) (d : Doc) (limit : ℕ) → length (held q d) ≤ limit →
    over limit (quick_state q d) (opening (plan q) y.name (quick_state q d)) ≡ ltb limit (length (held q (opened y d)))
unfolding over
quick_over q a y d limit h =
    ap (over limit (quick_state q d)) (Open.opening_is q a y d)
    ∙ over_if limit (quick_state q d).queue (newcomer (quick_state q d)) _ (rw (quick_waiting q d) h) _ _
    ∙ ap (λ ws. ltb limit (length ws)) (queue_is q a y d)
    ∙ ap (ltb limit) (quick_waiting q (opened y d))

-- close

module _ (q : Query) (a : T (admits q)) (d : Doc) (some : T (is_open d)) where
  abbrev t : State
  t = quick_state q d

  abbrev c : Closing
  c = Close.decided q a d some

  closes_is : quick_close (plan q) t ≡ Quick.closes t c
  unfolding quick_close
  closes_is = ap (Quick.closes t) (Close.closing_is q a d some)

  handed_is : (quick_close (plan q) t).out ≡ map (λ w. w.node) (take c.went c.waiting)
  handed_is = ap (λ r. r.out) closes_is ∙ (unfold Quick.closes in refl)

  handed_shown : (close_model (mask_ops (plan q)) (mask_state q d)).out ≡ (quick_close (plan q) t).out
  unfolding close_model settle
  handed_shown = Close.close_front q a d some ∙ sym handed_is

  pub quick_close_out : listed q d ++ (quick_close (plan q) (quick_state q d)).out ≡ listed q (closed d)
  quick_close_out = ap (λ o. listed q d ++ o) (sym handed_shown) ∙ mask_close_out q a d

  waits_is : drop c.went c.waiting ≡ (quick_state q (closed d)).queue
  unfolding quick_state close_model settle
  waits_is = sym (Close.close_queue q a d some) ∙ ap (map waiting_shown) (ap (λ s. s.queue) (mask_close q a d))

  left_is : c.frames ≡ (quick_state q (closed d)).frames
  unfolding quick_state close_model settle
  left_is = ap (map (frame_shown (plan q))) (ap (λ s. s.frames) (mask_close q a d))

  pub quick_close_lem : (quick_close (plan q) (quick_state q d)).state ≡ quick_state q (closed d)
  unfolding Quick.closes quick_state
  quick_close_lem =
      ap (λ r. r.state) closes_is
      ∙ same_state left_is waits_is (sym (count_closed d)) (handed_on q d (closed d) _ (take c.went c.waiting) quick_close_out handed_is)
      (ap (λ n. eqb n 0) (ap length left_is ∙ quick_depth q (closed d)) ∙ finished_close d some)

-- an event that fits

ends_open : (n : ℕ) (d : Doc) → T (ends_at n d) → T (is_open d)
unfolding ends_at is_open
ends_open n (done f) e = e
ends_open n (within p x d) e = tt

pub quick_act_lem :
    (q : Query) → T (admits q) → (e : Event) (d : Doc) → T (fits e d) →
    (quick_act (plan q) e (quick_state q d)).state ≡ quick_state q (act e d)
unfolding quick_act fits act
quick_act_lem q a (opens n) d f = quick_open_lem q a (record { name = n }) d
quick_act_lem q a (closes n) d f = quick_close_lem q a d (ends_open n d f)

act_out :
    (q : Query) → T (admits q) → (e : Event) (d : Doc) → T (fits e d) →
    listed q d ++ (quick_act (plan q) e (quick_state q d)).out ≡ listed q (act e d)
unfolding quick_act fits act
act_out q a (opens n) d f = quick_open_out q a (record { name = n }) d
act_out q a (closes n) d f = quick_close_out q a d (ends_open n d f)

pub quick_out :
    (q : Query) → T (admits q) → (e : Event) (d : Doc) → T (fits e d) →
    (quick_act (plan q) e (quick_state q d)).out ≡ drop (length (listed q d)) (listed q (act e d))
quick_out q a e d f = sym (drop-append_seam (listed q d) _) ∙ ap (drop (length (listed q d))) (act_out q a e d f)
