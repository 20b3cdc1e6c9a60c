-- The quick engine's open is the engine's.
--
--   decided, opening_is      what the quick engine decides: the frames, how many go, whether all do, whether the newcomer waits
--   open_queue, open_front   so the queue and what is handed out are the engine's
--
-- Assumes T (admits q).
use Prim.Native.Nat.{ℕ, suc, pred, ◌≤◌}
use Rattle.std.proofs.Common.{le_refl, ◌∙◌, subst, length-append, ltb-false}
use native.Mathlib.Omega.{arith}
use Rattle.std.specs.Prelude.{◌≡◌, Bool, ◌&&◌, T, ltb}
use Rattle.std.proofs.Math.Path.{refl, sym, ap, ap₂}
use Rattle.std.proofs.Math.Bool.{true, false}
use mathlib.Core.List.{List, [], ◌∷◌, ◌++◌, map, map-map, map-append}
use Rattle.std.proofs.Math.Dec.{eqb}
use Rattle.std.proofs.Math.ListN.{length, get_or, length-map, get_or-append}
use Rattle.std.proofs.lemmas.List.{get_or_at}
use Rattle.meaning.specs.Logic.{Imp, Both, b_cons}
use Rattle.meaning.specs.Query.{Query, admits}
use Rattle.meaning.specs.Document.{Node, Doc, opened}
use Rattle.meaning.specs.Selection.{ReadyOf}
use Rattle.sets.specs.Set.{meet, without, overlaps}
use Rattle.engine.proofs.Every.{Every, e_nil, e_cons, every_head, every_map, every_both, every_append, every_right, every_mapped}
use Rattle.engine.specs.Need.{NeedOf, Need}
use Rattle.engine.specs.Engine as Engine
use Rattle.engine.specs.Engine.{Ops, keep_if, keep, front, past, grow, possibles, stands, alive, settle, open_model}
use Rattle.engine.specs.Hom.{waiting_in}
use Rattle.engine.proofs.Hom.{front_hom, past_hom, certain_hom, alive_hom, newcomer_hom}
use Rattle.engine.specs.StateOf.{ops, frames_at, nodes, state_of}
use Rattle.engine.proofs.StateOf.Standings.{inside}
use Rattle.engine.proofs.StateOf.Theorem.{nodes_open}
use Rattle.plan.specs.Plan.{Plan, plan, named, meets, turn, last_given}
use Rattle.engine.specs.MaskOps.{value, mask_ops, masks, mask_state}
use Rattle.engine.proofs.MaskOps.Laws.{meets_plain, mask_hom, mask_open}
use Rattle.engine.specs.Quick.{Frame, Waiting, met_at, sure_at, possible_at, certain_if, certain, counted}
use Rattle.engine.specs.Quick.{Rise, rise, refreshed, refresh, fresh, frames_after}
use Rattle.engine.specs.Quick.{Opening, went_if, judged, opening_from, opening, queue_after, out_after}
use Rattle.engine.specs.Quick.Of.{frame_shown, waiting_shown, quick_state}
use Rattle.engine.proofs.Quick.Lists.{counted_hom, counted_same, snoc_queue, keep_append, keep_whole}
use Rattle.engine.proofs.Quick.Kept.{fed_masks, Turned, turned_masks}
use Rattle.engine.proofs.Quick.Lookup.{Sound, possible_steps, certain_shown, went_counted}
use Rattle.engine.proofs.Quick.Snoc.{rise_length}
use Rattle.engine.proofs.Quick.Grow.{open_frames, rise_quiet}
use Rattle.engine.proofs.Quick.Waits.{queue_alive, queue_low, queue_sound, queue_first}

-- the grown frames

module _ {S B R N : Type 0} (O : Ops S B R N) (y : Node) where
  length_grow : (rs rp : R) (fs : List (Engine.Frame B R)) → length (grow O y rs rp fs) ≡ suc (length fs)
  unfolding grow
  length_grow rs rp [] = refl
  length_grow rs rp (f ∷ fs) = ap suc (length_grow (O.turn (O.meets f.node (O.join f.below (Engine.rise O y fs))) rs) f.possible fs)

  new_poss : R → R → List (Engine.Frame B R) → R
  new_poss d rp fs = O.turn (O.named y) (get_or (rp ∷ map (λ f. f.possible) fs) (length fs) d)

  -- the elements around the new one are read as before in the open reading
  grow_possible :
      (d rs rp : R) (fs : List (Engine.Frame B R)) →
      map (λ f. f.possible) (grow O y rs rp fs) ≡ map (λ f. f.possible) fs ++ (new_poss d rp fs ∷ [])
  unfolding grow new_poss
  grow_possible d rs rp [] = refl
  grow_possible d rs rp (f ∷ fs) = ap (◌∷◌ f.possible) (grow_possible d (O.turn (O.meets f.node (O.join f.below (Engine.rise O y fs))) rs) f.possible fs)

module _ (P : Plan) (y : Node) where
  grow_met :
      (rs rp : ReadyOf ℕ) (fs : List (Engine.Frame ℕ (ReadyOf ℕ))) →
      met_at (map (frame_shown P) (grow (mask_ops P) y rs rp fs)) (suc (length fs)) ≡ meets P (named P y.name) 0
  unfolding grow met_at
  grow_met rs rp [] = refl
  grow_met rs rp (f ∷ fs) =
      grow_met ((mask_ops P).turn (meets P (named P f.node.name) ((mask_ops P).join f.below (Engine.rise (mask_ops P) y fs))) rs) f.possible fs

-- one more frame changes nothing at the levels before it

module _ (P : Plan) (fs : List Frame) (g : Frame) where
  under : (get : Frame → ℕ) (z l : ℕ) → l ≤ length fs → get_or (z ∷ map get (fs ++ (g ∷ []))) l 0 ≡ get_or (z ∷ map get fs) l 0
  under get z l h =
      ap (λ xs. get_or (z ∷ xs) l 0) (map-append get fs (g ∷ []))
      ∙ get_or-append (z ∷ map get fs) (get g ∷ []) 0 l (let e : length (map get fs) ≡ length fs = length-map fs get in omega arith)

  certain_if_lem : (b : Bool) (l need : ℕ) → l ≤ length fs → certain_if b P (fs ++ (g ∷ [])) l need ≡ certain_if b P fs l need
  unfolding certain_if met_at sure_at
  certain_if_lem true l need h =
      ap₂ last_given (under (λ f. f.met) 0 l h) (under (λ f. f.sure) P.first (pred l) (omega arith))
  certain_if_lem false l need h = ap (overlaps need) (under (λ f. f.sure) P.first l h)

  certain_more : (w : Waiting) → w.level ≤ length fs → certain P (fs ++ (g ∷ [])) w ≡ certain P fs w
  unfolding certain
  certain_more w h = certain_if_lem (eqb w.need 0) w.level w.need h

inside_every : {A : Type 0} (c p : A → Bool) (xs : List A) → Both Imp (map c xs) (map p xs) → Every (λ x. Imp (c x) (p x)) xs
inside_every c p [] t = e_nil
inside_every c p (x ∷ xs) (b_cons i t) = e_cons i (inside_every c p xs t)

imp_false : (a b : Bool) → Imp a b → b ≡ false → a ≡ false
imp_false true b i e = absurd (subst T e (i.to tt))
imp_false false b i e = refl

no_length : (xs : List Frame) → length xs ≡ 0 → xs ≡ []
no_length [] e = refl
no_length (x ∷ xs) e = absurd (omega arith)

module _ (q : Query) (a : T (admits q)) (y : Node) (d : Doc) where
  abbrev P : Plan
  P = plan q

  abbrev O : Ops ℕ ℕ (ReadyOf ℕ) (NeedOf ℕ)
  O = mask_ops P

  abbrev shown : List (Engine.Frame ℕ (ReadyOf ℕ)) → List Frame
  shown fs = map (frame_shown P) fs

  abbrev fs : List (Engine.Frame ℕ (ReadyOf ℕ))
  fs = (mask_state q d).frames

  abbrev ws : List (Engine.Waiting (NeedOf ℕ))
  ws = (mask_state q d).queue

  abbrev new : Engine.Waiting (NeedOf ℕ)
  new = Engine.newcomer O (mask_state q d)

  abbrev G : List (Engine.Frame ℕ (ReadyOf ℕ))
  G = grow O y O.start O.start fs

  abbrev c : Waiting → Bool
  c = certain P (shown G)

  grown : G ≡ (mask_state q (opened y d)).frames
  unfolding open_model settle
  grown = ap (λ s. s.frames) (mask_open q a y d)

  -- who is alive

  alive_more : (w : Engine.Waiting (NeedOf ℕ)) → w.place.level ≤ length fs → alive O G w ≡ alive O fs w
  unfolding alive stands possibles
  alive_more w h =
      ap (λ r. value r w.place.need)
      (ap (λ xs. get_or (O.start ∷ xs) w.place.level O.start) (grow_possible O y O.start O.start O.start fs)
      ∙ get_or-append (O.start ∷ map (λ f. f.possible) fs) _ O.start w.place.level
      (let e : length (map (λ (f : Engine.Frame ℕ (ReadyOf ℕ)). f.possible) fs) ≡ length fs = length-map fs _ in omega arith))

  alive_new : alive O G new ≡ last_given (named P y.name) (possible_at P (shown fs) (length (shown fs)))
  unfolding alive stands possibles value Engine.newcomer new_poss
  alive_new =
      ap (λ xs. (get_or xs (length fs) O.start).end) (grow_possible O y O.start O.start O.start fs)
      ∙ ap (λ r. r.end) (get_or_at (map (λ f. f.possible) fs) _ [] O.start (length fs) (length-map fs _))
      ∙ ap (last_given (named P y.name))
      (possible_steps P fs (length fs) (le_refl (length fs)) ∙ ap (possible_at P (shown fs)) (sym (length-map fs (frame_shown P))))

  -- who is certain

  turns : Turned O O.start G
  turns = subst (Turned O O.start) (sym grown) (turned_masks q a (opened y d))

  sound_more : (w : Engine.Waiting (NeedOf ℕ)) → Sound (length fs) w → Sound (length G) w
  sound_more w s =
      record { low = rw (length_grow O y O.start O.start fs) (let h : w.place.level ≤ length fs = s.low in omega arith); needs = s.needs }

  sound_new : Sound (length G) new
  unfolding Engine.newcomer
  sound_new = record { low = rw (length_grow O y O.start O.start fs) (le_refl (suc (length fs))); needs = omega arith }

  certain_new : c (waiting_shown new) ≡ last_given (meet (named P y.name) P.plain) (sure_at P (shown G) (length (shown fs)))
  unfolding certain certain_if Engine.newcomer
  certain_new =
      ap₂ last_given (grow_met P y O.start O.start fs ∙ meets_plain q y) (ap (sure_at P (shown G)) (sym (length-map fs (frame_shown P))))

  -- what is certain is alive: so it is of the nodes of the next document, of which the newcomer is the last
  abbrev N : Engine.Waiting Need
  N = Engine.newcomer (ops q) (state_of q d)

  last_inside : Imp (Engine.certain (ops q) (frames_at q (opened y d)) N) (alive (ops q) (frames_at q (opened y d)) N)
  last_inside =
      every_head
      (every_right (map (λ w. w) (nodes q d)) (N ∷ [])
      (subst (Every (λ w. Imp (Engine.certain (ops q) (frames_at q (opened y d)) w) (alive (ops q) (frames_at q (opened y d)) w)))
      (nodes_open q y d)
      (inside_every (Engine.certain (ops q) (frames_at q (opened y d))) (alive (ops q) (frames_at q (opened y d))) (nodes q (opened y d))
      (inside q (opened y d)))))

  new_in : waiting_in (masks q) N ≡ new
  unfolding mask_state
  new_in = newcomer_hom (ops q) O (masks q) (mask_hom q a) (state_of q d)

  certain_in : Engine.certain O G new ≡ Engine.certain (ops q) (frames_at q (opened y d)) N
  certain_in =
      ap₂ (Engine.certain O) grown (sym new_in)
      ∙ (unfold mask_state state_of in sym (certain_hom (ops q) O (masks q) (mask_hom q a) (frames_at q (opened y d)) N))

  alive_in : alive O G new ≡ alive (ops q) (frames_at q (opened y d)) N
  alive_in =
      ap₂ (alive O) grown (sym new_in)
      ∙ (unfold mask_state state_of in sym (alive_hom (ops q) O (masks q) (mask_hom q a) (frames_at q (opened y d)) N))

  certain_alive : Imp (Engine.certain O G new) (alive O G new)
  certain_alive = rw (certain_in, alive_in) last_inside

  -- what waits or goes out

  abbrev Q : List Waiting
  Q = map waiting_shown ws

  kept_all : keep (alive O G) (ws ++ (new ∷ [])) ≡ ws ++ keep_if (alive O G new) new []
  kept_all =
      keep_append (alive O G) ws (new ∷ [])
      ∙ ap₂ ◌++◌ (keep_whole (alive O G) (every_both (λ w l e. alive_more w l ∙ e) (queue_low q a d) (queue_alive q a d))) (unfold keep in refl)

  all_shown : (b : Bool) → Every (λ w. Engine.certain O G w ≡ c (waiting_shown w)) (ws ++ keep_if b new [])
  all_shown b = every_append (every_map (λ w s. certain_shown P turns w (sound_more w s)) (queue_sound q a d)) (go b)
    where
      go : (b : Bool) → Every (λ w. Engine.certain O G w ≡ c (waiting_shown w)) (keep_if b new [])
      go true = unfold keep_if in e_cons (certain_shown P turns new sound_new) e_nil
      go false = unfold keep_if in e_nil

  shown_append : (b : Bool) → map waiting_shown (ws ++ keep_if b new []) ≡ Q ++ keep_if b (waiting_shown new) []
  unfolding keep_if
  shown_append true = map-append waiting_shown ws (new ∷ [])
  shown_append false = map-append waiting_shown ws []

  ruled_out : alive O G new ≡ false → c (waiting_shown new) ≡ false
  ruled_out e = sym (certain_shown P turns new sound_new) ∙ imp_false (Engine.certain O G new) (alive O G new) certain_alive e

  abbrev all : Bool
  all = eqb (counted c Q) (length Q) && c (waiting_shown new)

  pub open_queue :
      map waiting_shown (past (Engine.certain O G) (keep (alive O G) (ws ++ (new ∷ [])))) ≡ queue_after all (alive O G new) Q
      (waiting_shown new) (counted c Q)
  open_queue =
      ap (λ x. map waiting_shown (past (Engine.certain O G) x)) kept_all
      ∙ past_hom waiting_shown (Engine.certain O G) c (all_shown (alive O G new))
      ∙ ap (past c) (shown_append (alive O G new))
      ∙ (snoc_queue c (waiting_shown new) all (alive O G new) Q refl ruled_out).0

  pub open_front :
      map (λ w. w.number) (front (Engine.certain O G) (keep (alive O G) (ws ++ (new ∷ []))))
      ≡ map (λ w. w.node) (out_after all Q (waiting_shown new) (counted c Q))
  open_front =
      ap (λ x. map (λ w. w.number) (front (Engine.certain O G) x)) kept_all
      ∙ sym (map-map (λ (w : Waiting). w.node) waiting_shown (front (Engine.certain O G) (ws ++ keep_if (alive O G new) new [])))
      ∙ ap (map (λ w. w.node))
      (front_hom waiting_shown (Engine.certain O G) c (all_shown (alive O G new))
      ∙ ap (front c) (shown_append (alive O G new))
      ∙ (snoc_queue c (waiting_shown new) all (alive O G new) Q refl ruled_out).1)

  -- what the quick engine decides

  abbrev anew : ℕ
  anew = without (meet (named P y.name) P.plain) P.main

  abbrev R : Rise
  R = rise P anew (shown fs)

  frames_shown : frames_after P y.name (shown fs) R ≡ shown G
  frames_shown = open_frames P y (meets_plain q y) (fed_masks q a d) (turned_masks q a d)

  abbrev parent : ℕ
  parent = sure_at P R.kept (length R.kept)

  abbrev newest : Frame
  newest = fresh P y.name (possible_at P (shown fs) (length (shown fs)))

  one_frame : R.risen ≡ [] → shown G ≡ shown fs ++ (refreshed newest (turn P newest.met parent) ∷ [])
  unfolding frames_after refresh
  one_frame e = sym frames_shown ∙ ap₂ (λ k r. k ++ refresh P parent (r ++ (newest ∷ []))) (rise_quiet P _ (shown fs) e) e

  -- where nothing has risen the first waiting node is undecided as before
  quiet : R.risen ≡ [] → counted c Q ≡ 0
  quiet e =
      counted_same c (certain P (shown fs))
      (every_mapped waiting_shown
      (every_map (λ w l. ap (λ F. certain P F (waiting_shown w)) (one_frame e) ∙ certain_more P (shown fs) _ (waiting_shown w)
      (rw (length-map fs (frame_shown P)) l)) (queue_low q a d)))
      ∙ sym (counted_hom waiting_shown (Engine.certain O fs) (certain P (shown fs))
      (every_map (λ w s. certain_shown P (turned_masks q a d) w s) (queue_sound q a d)))
      ∙ queue_first q a d

  none_risen : ltb (length R.kept) (length (shown fs)) ≡ false → R.risen ≡ []
  none_risen e =
      let all = rise_length P anew (shown fs) in
      let h : length (shown fs) ≤ length R.kept = ltb-false (length R.kept) (length (shown fs)) e in
      no_length R.risen (omega (arith, length-append R.kept R.risen))

  abbrev pub decided : Opening
  decided = record { frames = shown G; went = counted c Q; all = all; joins = alive O G new }

  pub opening_is : opening P y.name (quick_state q d) ≡ decided
  unfolding opening opening_from quick_state judged
  opening_is =
      ap (λ F. judged P y.name (quick_state q d) F (went_if (ltb (length R.kept) (length (shown fs))) P F Q)) frames_shown
      ∙ ap (judged P y.name (quick_state q d) (shown G))
      (went_counted (ltb (length R.kept) (length (shown fs))) P (shown G) Q (λ e. quiet (none_risen e)))
      ∙ ap₂ (λ x b. record { frames = shown G; went = counted c Q; all = eqb (counted c Q) (length Q) && x; joins = b }) (sym certain_new) (sym alive_new)
