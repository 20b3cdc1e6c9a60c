-- The quick engine's close is the engine's.
--
--   decided, closing_is      what the quick engine decides: the frames, the nodes that still wait, and how many of them go
--   close_queue, close_front     so the queue and what is handed out are the engine's
--
-- Assumes T (admits q), and that some element is open.
use Rattle.std.specs.Prelude.{ℕ, zero, suc, pred, ◌≤◌, ◌<◌, ◌≡◌, refl, Bool, true, false, T, ltb, length, get_or, take, drop}
use Rattle.std.proofs.Common.{le_refl, le_of_lt, arith, ◌∙◌, subst, ltb-false}
use Rattle.std.proofs.Math.Path.{sym, ap, ap₂}
use mathlib.Core.List.{List, [], ◌∷◌, ◌++◌, map, map-id, map-map, map-append, drop_last}
use Rattle.std.proofs.lemmas.List.{length-map}
use Rattle.meaning.specs.Query.{Query, admits}
use Rattle.meaning.specs.Document.{Doc, done, within, is_open, closed, depth}
use Rattle.meaning.specs.Selection.{ReadyOf}
use Rattle.sets.specs.Set.{overlaps}
use Rattle.engine.proofs.Every.{Every, every_map, every_both, every_append, every_left, every_right, every_keep, every_mapped, every_same}
use Rattle.engine.specs.Need.{NeedOf, itself, one_of}
use Rattle.engine.specs.Engine as Engine
use Rattle.engine.specs.Engine.{Ops, keep, front, past, is_level, possibles, stands, alive, settle, exact, move_if, move, move_waiting, close_model}
use Rattle.engine.proofs.Hom.{keep_hom, front_hom, past_hom, map_drop_last}
use Rattle.plan.specs.Plan.{Plan, plan, up_if}
use Rattle.plan.specs.Plan as Plan
use Rattle.engine.specs.MaskOps.{value, mask_ops, mask_state}
use Rattle.engine.specs.MaskOps as MaskOps
use Rattle.engine.proofs.MaskOps.Laws.{mask_close}
use Rattle.engine.specs.Quick.{Frame, Waiting, possible_at, certain, counted, Cut, cut, moved, stay, Closing, went_if, closing_from, closing_at, closing}
use Rattle.engine.specs.Quick.Of.{frame_shown, need_shown, waiting_shown, quick_state}
use Rattle.engine.proofs.Quick.Lists.{front_take, past_drop, counted_hom, keep_append, keep_whole, keep_length}
use Rattle.engine.proofs.Quick.Lists.{cut_append, cut_from, cut_hom, cut_before}
use Rattle.engine.proofs.Quick.Kept.{Turned, turned_masks}
use Rattle.engine.proofs.Quick.Lookup.{SoundNeed, Sound, possible_steps, certain_shown, went_counted, exact_met}
use Rattle.engine.proofs.Quick.Waits.{Own, kept_every, alive_sound, queue_layers, queue_alive, queue_sound, queue_first, close_certain, length_masks}

-- levels

level_on : (n : ℕ) → is_level n n ≡ true
unfolding is_level
level_on zero = refl
level_on (suc n) = level_on n

level_off : (l n : ℕ) → l < n → is_level l n ≡ false
unfolding is_level
level_off zero zero h = absurd (omega arith)
level_off zero (suc n) h = refl
level_off (suc l) zero h = absurd (omega arith)
level_off (suc l) (suc n) h = level_off l n (omega arith)

-- all but the last, at a place before it
drop_last_at :
    {A B : Type 0} (g : A → B) (xs : List A) (z d : B) (l : ℕ) → l < length xs →
    get_or (z ∷ map g (drop_last xs)) l d ≡ get_or (z ∷ map g xs) l d
drop_last_at g [] z d l h = absurd (omega arith)
drop_last_at g (x ∷ xs) z d zero h = refl
drop_last_at g (x ∷ []) z d (suc l) h = absurd (omega arith)
drop_last_at g (x ∷ (y ∷ xs)) z d (suc l) h = drop_last_at g (y ∷ xs) (g x) d l (omega arith)

length_drop_last : {A : Type 0} (xs : List A) → length (drop_last xs) ≡ pred (length xs)
length_drop_last [] = refl
length_drop_last (x ∷ []) = refl
length_drop_last (x ∷ (y ∷ xs)) = ap suc (length_drop_last (y ∷ xs))

depth_open : (d : Doc) → T (is_open d) → suc (pred (depth d)) ≡ depth d
unfolding is_open depth
depth_open (done f) o = absurd o
depth_open (within p x d) o = refl

-- a need that moves up

up_shown : (P : Plan) (M l : ℕ) (n : NeedOf ℕ) → SoundNeed l n → need_shown (MaskOps.up P M n) ≡ Plan.up P M (need_shown n)
unfolding MaskOps.up Plan.up
up_shown P M l itself s = refl
up_shown P M l (one_of N) s = ap (λ b. up_if b P M N) (sym s)

up_own : (P : Plan) (M l : ℕ) (n : NeedOf ℕ) → Own l (MaskOps.up P M n)
unfolding MaskOps.up
up_own P M l itself = tt
up_own P M l (one_of N) = tt

up_overlaps :
    (P : Plan) (M : ℕ) (r : ReadyOf ℕ) (n : NeedOf ℕ) →
    value r (MaskOps.up P M n) ≡ overlaps (need_shown (MaskOps.up P M n)) r.steps
unfolding MaskOps.up value
up_overlaps P M r itself = refl
up_overlaps P M r (one_of N) = refl

module _ (q : Query) (a : T (admits q)) (d : Doc) (o : T (is_open d)) where
  abbrev P : Plan
  P = plan q

  abbrev O : Ops ℕ ℕ (ReadyOf ℕ) (NeedOf ℕ)
  O = mask_ops P

  abbrev W : Type 0
  W = Engine.Waiting (NeedOf ℕ)

  abbrev shown : List (Engine.Frame ℕ (ReadyOf ℕ)) → List Frame
  shown fs = map (frame_shown P) fs

  abbrev fs : List (Engine.Frame ℕ (ReadyOf ℕ))
  fs = (mask_state q d).frames

  abbrev ws : List W
  ws = (mask_state q d).queue

  abbrev l : ℕ
  l = pred (length fs)

  abbrev M : ℕ
  M = exact O fs

  abbrev h : W → W
  h = move_waiting O l M

  abbrev H : List (Engine.Frame ℕ (ReadyOf ℕ))
  H = drop_last fs

  abbrev c : Waiting → Bool
  c = certain P (shown H)

  shrunk : H ≡ (mask_state q (closed d)).frames
  unfolding close_model settle
  shrunk = ap (λ s. s.frames) (mask_close q a d)

  top : suc l ≡ length fs
  top = ap (λ n. suc (pred n)) (length_masks q d) ∙ depth_open d o ∙ sym (length_masks q d)

  -- the waiting nodes of the closing level, and those before them

  abbrev K : Cut W
  K = cut (λ w. w.place.level) (length fs) ws

  before_low : Every (λ w. w.place.level < length fs) K.before
  before_low =
      subst (λ n. Every (λ w. w.place.level < n) (cut (λ w. w.place.level) n ws).before) (sym (length_masks q d))
      (cut_before (λ w. w.place.level) (depth d) (queue_layers q d))

  from_top_lem : Every (λ w. w.place.level ≡ length fs) K.from
  from_top_lem = cut_from (λ w. w.place.level) (length fs) ws

  before_of : {F : W → Type 0} → Every F ws → Every F K.before
  before_of {F} t = every_left K.before K.from (subst (Every F) (cut_append (λ w. w.place.level) (length fs) ws) t)

  from_of : {F : W → Type 0} → Every F ws → Every F K.from
  from_of {F} t = every_right K.before K.from (subst (Every F) (cut_append (λ w. w.place.level) (length fs) ws) t)

  move_off : (w : W) → w.place.level < length fs → h w ≡ w
  unfolding move_waiting move move_if
  move_off w k = ap (λ b. record { number = w.number; place = move_if O b l M w.place }) (level_off w.place.level (suc l) (rw top k))

  move_on :
      (w : W) → w.place.level ≡ length fs →
      h w ≡ record { number = w.number; place = record { level = l; need = O.up M w.place.need } }
  unfolding move_waiting move move_if
  move_on w k =
      ap (λ b. record { number = w.number; place = move_if O b l M w.place }) (ap (λ n. is_level n (suc l)) (k ∙ sym top) ∙ level_on (suc l))

  map_moved : map h ws ≡ K.before ++ map h K.from
  map_moved =
      ap (map h) (cut_append (λ w. w.place.level) (length fs) ws)
      ∙ map-append h K.before K.from
      ∙ ap (λ x. x ++ map h K.from) (every_same (every_map move_off before_low) ∙ map-id K.before)

  -- who is alive

  alive_before : (w : W) → w.place.level < length fs → alive O H w ≡ alive O fs w
  unfolding alive stands possibles
  alive_before w k = ap (λ r. value r w.place.need) (drop_last_at (λ f. f.possible) fs O.start O.start w.place.level k)

  abbrev possible : ℕ
  possible = possible_at P (shown fs) l

  abbrev lifted : W → W
  lifted w = record { number = w.number; place = record { level = l; need = O.up M w.place.need } }

  under : l < length fs
  under = rw (← top) (le_refl (suc l))

  alive_top : (w : W) → alive O H (lifted w) ≡ overlaps (need_shown (O.up M w.place.need)) possible
  unfolding alive stands possibles
  alive_top w =
      up_overlaps P M _ w.place.need
      ∙ ap (overlaps (need_shown (O.up M w.place.need)))
      (ap (λ r. r.steps) (drop_last_at (λ f. f.possible) fs O.start O.start l under) ∙ (unfold possibles in possible_steps P fs l (le_of_lt under)))

  alive_moved : (w : W) → w.place.level ≡ length fs → alive O H (h w) ≡ overlaps (waiting_shown (h w)).need possible
  alive_moved w k =
      ap (alive O H) (move_on w k) ∙ alive_top w ∙ ap (λ v. overlaps (waiting_shown v).need possible) (sym (move_on w k))

  abbrev ks : List W
  ks = K.before ++ keep (alive O H) (map h K.from)

  kept_all : keep (alive O H) (map h ws) ≡ ks
  kept_all =
      ap (keep (alive O H)) map_moved
      ∙ keep_append (alive O H) K.before (map h K.from)
      ∙ ap (λ x. x ++ keep (alive O H) (map h K.from))
      (keep_whole (alive O H) (every_both (λ w k e. alive_before w k ∙ e) before_low (before_of (queue_alive q a d))))

  -- as the quick engine has them

  moved_shown : (w : W) → w.place.level ≡ length fs → Sound (length fs) w → waiting_shown (h w) ≡ moved P M l (waiting_shown w)
  unfolding moved
  moved_shown w k s =
      ap waiting_shown (move_on w k)
      ∙ ap (λ n. record { node = w.number; level = l; need = n }) (up_shown P M w.place.level w.place.need s.needs)

  stays_shown : map waiting_shown (keep (alive O H) (map h K.from)) ≡ stay P M l possible (map waiting_shown K.from)
  unfolding stay
  stays_shown =
      keep_hom waiting_shown (alive O H) (λ w. overlaps w.need possible) (every_mapped h (every_map alive_moved from_top_lem))
      ∙ ap (keep (λ w. overlaps w.need possible))
      (map-map waiting_shown h K.from
      ∙ every_same (every_both moved_shown from_top_lem (from_of (queue_sound q a d)))
      ∙ sym (map-map (moved P M l) waiting_shown K.from))

  ks_shown : map waiting_shown ks ≡ map waiting_shown K.before ++ stay P M l possible (map waiting_shown K.from)
  ks_shown = map-append waiting_shown K.before _ ∙ ap (λ x. map waiting_shown K.before ++ x) stays_shown

  -- who is certain

  turns : Turned O O.start H
  turns = subst (Turned O O.start) (sym shrunk) (turned_masks q a (closed d))

  under_top : (n : ℕ) → n < length fs → n ≤ length H
  under_top n k = let e : length H ≡ l = length_drop_last fs in omega (arith, top)

  sound_before : (w : W) → w.place.level < length fs → Sound (length fs) w → Sound (length H) w
  sound_before w k s = record { low = under_top w.place.level k; needs = s.needs }

  sound_moved : (w : W) → w.place.level ≡ length fs → alive O H (h w) ≡ true → Sound (length H) (h w)
  sound_moved w k e =
      subst (Sound (length H)) (sym (move_on w k))
      (record { low = under_top l under; needs = alive_sound P H (lifted w) (up_own P M l w.place.need) (ap (alive O H) (sym (move_on w k)) ∙ e) })

  ks_certain : Every (λ w. Engine.certain O H w ≡ c (waiting_shown w)) ks
  ks_certain =
      every_append (every_map (certain_shown P turns) (every_both sound_before before_low (before_of (queue_sound q a d))))
      (every_both {G = λ v. alive O H v ≡ true → Sound (length H) v} (λ v e f. certain_shown P turns v (f e))
      (kept_every (alive O H) (map h K.from))
      (every_keep (alive O H) (every_mapped h (every_map sound_moved from_top_lem))))

  pub close_queue :
      map waiting_shown (past (Engine.certain O H) (keep (alive O H) (map h ws)))
      ≡ drop (counted c (map waiting_shown ks)) (map waiting_shown ks)
  close_queue =
      ap (λ x. map waiting_shown (past (Engine.certain O H) x)) kept_all
      ∙ past_hom waiting_shown (Engine.certain O H) c ks_certain
      ∙ past_drop c (map waiting_shown ks)

  pub close_front :
      map (λ w. w.number) (front (Engine.certain O H) (keep (alive O H) (map h ws)))
      ≡ map (λ w. w.node) (take (counted c (map waiting_shown ks)) (map waiting_shown ks))
  close_front =
      ap (λ x. map (λ w. w.number) (front (Engine.certain O H) x)) kept_all
      ∙ sym (map-map (λ (w : Waiting). w.node) waiting_shown (front (Engine.certain O H) ks))
      ∙ ap (map (λ w. w.node)) (front_hom waiting_shown (Engine.certain O H) c ks_certain ∙ front_take c (map waiting_shown ks))

  -- where none has left the first waiting node is undecided as before

  all_stay : keep (alive O H) (map h K.from) ≡ map h K.from → counted c (map waiting_shown ks) ≡ 0
  all_stay e =
      sym (counted_hom waiting_shown (Engine.certain O H) c ks_certain)
      ∙ ap (counted (Engine.certain O H)) (ap (λ x. K.before ++ x) e ∙ sym map_moved)
      ∙ sym (counted_hom h (Engine.certain O fs) (Engine.certain O H)
      (every_map (λ w e. sym (ap (λ F. Engine.certain O F (h w)) shrunk ∙ e)) (close_certain q a d)))
      ∙ queue_first q a d

  abbrev from : List Waiting
  from = map waiting_shown K.from

  abbrev stays : List Waiting
  stays = stay P M l possible from

  whole : ltb (length stays) (length from) ≡ false → keep (alive O H) (map h K.from) ≡ map h K.from
  whole e =
      let here = length-map (keep (alive O H) (map h K.from)) waiting_shown in
      let stay : length (map waiting_shown (keep (alive O H) (map h K.from))) ≡ length stays = ap length stays_shown in
      let there = length-map K.from waiting_shown in
      let moved = length-map K.from h in
      let all : length from ≤ length stays = ltb-false (length stays) (length from) e in
      keep_length (alive O H) (map h K.from) (omega arith)

  cut_shown : cut (λ w. w.level) (length (shown fs)) (map waiting_shown ws) ≡ record { before = map waiting_shown K.before; from = from }
  cut_shown =
      ap (λ n. cut (λ w. w.level) n (map waiting_shown ws)) (length-map fs (frame_shown P))
      ∙ cut_hom waiting_shown (λ w. w.level) (length fs) ws

  abbrev pub decided : Closing
  decided = record { frames = shown H; waiting = map waiting_shown ks; went = counted c (map waiting_shown ks) }

  pub closing_is : closing P (quick_state q d) ≡ decided
  unfolding closing closing_at closing_from quick_state
  closing_is =
      ap (closing_at P (quick_state q d) (pred (length (shown fs)))) cut_shown
      ∙ ap₂ (λ m k. closing_from P (drop_last (shown fs)) (map waiting_shown K.before) from
      (stay P m (pred k) (possible_at P (shown fs) (pred k)) from))
      (exact_met P fs) (length-map fs (frame_shown P))
      ∙ ap (λ F. closing_from P F (map waiting_shown K.before) from stays) (sym (map_drop_last (frame_shown P) fs))
      ∙ ap (λ x. record { frames = shown H; waiting = x; went = went_if (ltb (length stays) (length from)) P (shown H) x }) (sym ks_shown)
      ∙ ap (λ k. record { frames = shown H; waiting = map waiting_shown ks; went = k })
      (went_counted (ltb (length stays) (length from)) P (shown H) (map waiting_shown ks) (λ e. all_stay (whole e)))
