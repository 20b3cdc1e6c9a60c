-- What is true of the waiting nodes of a document, in masks: the reason why the queue need not be looked through.
--
--   kept_every         what is kept passes the test
--   queue_layers       along the queue levels rise, up to the depth
--   queue_alive        none is ruled out
--   Own l n            a node that waits for itself does not wait at the document;  alive_sound: so what is alive is Sound
--   queue_sound        each is Sound
--   queue_first        the first is not certain
--   close_certain      a close leaves what is certain certain, and makes nothing certain
--
-- Assumes T (admits q).
use Rattle.std.specs.Prelude.{ℕ, suc, pred, ◌≤◌, ◌<◌, ◌≡◌, Bool, T, eqb, length, get_or, drop}
use Rattle.std.proofs.Common.{le_refl, arith, ◌∙◌, subst, true≢false, eqb-true}
use Rattle.std.proofs.Math.Path.{refl, sym, ap}
use Rattle.std.proofs.Math.Bool.{true, false, not}
use mathlib.Core.List.{List, [], ◌∷◌, ◌++◌, map, map-map, append-nil}
use Rattle.std.specs.Int.Bits.{and_zero_l}
use Rattle.std.proofs.lemmas.List.{length-map}
use Rattle.meaning.specs.Query.{Query, Steps, admits}
use Rattle.meaning.specs.Document.{Row, nil, el, Doc, done, within, closed, depth}
use Rattle.meaning.specs.Selection.{sure-reading, granted, meets, met_row, met, Ready, ReadyOf, turn, start, marks_row, marks, selections}
use Rattle.meaning.proofs.Selection.Laws.{met_close}
use Rattle.sets.specs.Set.{overlaps}
use Rattle.engine.proofs.Every.{Every, e_nil, e_cons, every_all, every_map, every_both, every_append, every_keep, every_past, every_mapped}
use Rattle.engine.specs.Need.{NeedOf, Need, itself, one_of, up, needs}
use Rattle.engine.specs.Engine as Engine
use Rattle.engine.specs.Engine.{Ops, Place, keep_if, keep, past_if, past, certain, alive, stands, exact, move_waiting}
use Rattle.engine.specs.StateOf.{ops, frames_of, here, deeper, places, number, frames_at, nodes, state_of}
use Rattle.engine.proofs.StateOf.Frames.{length_frames}
use Rattle.engine.proofs.StateOf.Standings.{certain_sure}
use Rattle.engine.proofs.StateOf.Theorem.{shift, nodes_close}
use Rattle.engine.specs.Hom.{frame_in, waiting_in}
use Rattle.engine.proofs.Hom.{certain_hom, alive_hom, moves_hom}
use Rattle.plan.specs.Plan.{Plan, plan}
use Rattle.engine.specs.MaskOps.{value, mask_ops, need_mask, masks, mask_state}
use Rattle.engine.proofs.MaskOps.Laws.{mask_hom}
use Rattle.engine.specs.Quick.{counted}
use Rattle.engine.proofs.Quick.Lists.{counted_hom, counted_none, Layers, l_nil, l_cons, layers_low, layers_keep, layers_past, layers_map}
use Rattle.engine.proofs.Quick.Lookup.{SoundNeed, Sound}

-- levels

layers_here :
    (hi : ℕ) (ns : List Need) {xs : List (Place Need)} → Layers (λ x. x.level) hi 0 xs →
    Layers (λ x. x.level) hi 0 (map here ns ++ xs)
layers_here hi [] t = t
layers_here hi (n ∷ ns) t = l_cons {x = here n} (le_refl 0) (omega arith) (layers_here hi ns t)

layers_row : (hi : ℕ) (ns : List Need) → Layers (λ x. x.level) hi 0 (map here ns)
layers_row hi ns = subst (Layers (λ x. x.level) hi 0) (append-nil (map here ns)) (layers_here hi ns l_nil)

up_le : {m n : ℕ} → m ≤ n → suc m ≤ suc n
up_le h = omega arith

layers_deeper :
    {hi lo : ℕ} {xs : List (Place Need)} → Layers (λ x. x.level) hi lo xs → Layers (λ x. x.level) (suc hi) (suc lo) (map deeper xs)
layers_deeper l_nil = l_nil
layers_deeper (l_cons {x} a b t) = l_cons {x = deeper x} (up_le a) (up_le b) (layers_deeper t)

zero_le : (n : ℕ) → 0 ≤ n
zero_le n = omega arith

places_layers : (q : Query) (d : Doc) → Layers (λ x. x.level) (depth d) 0 (places q d)
unfolding places depth
places_layers q (done f) = layers_row 0 (needs q f)
places_layers q (within p x d) =
    layers_here _ (needs q p) (l_cons {x = deeper (here itself)} (zero_le 1) (up_le (zero_le (depth d))) (layers_deeper (places_layers q d)))

layers_number :
    {hi lo : ℕ} (i : ℕ) {xs : List (Place Need)} → Layers (λ x. x.level) hi lo xs → Layers (λ w. w.place.level) hi lo (number i xs)
unfolding number
layers_number i l_nil = l_nil
layers_number i (l_cons {x} a b t) = l_cons {x = record { number = i; place = x }} a b (layers_number (suc i) t)

-- only an open element waits for itself

abbrev pub Own : {S : Type 0} → ℕ → NeedOf S → Type 0
Own l itself = 0 < l
Own l (one_of N) = Unit {0}

up_own : (q : Query) (M : Steps) (n : Need) → Own 0 (up q M n)
unfolding up
up_own q M itself = tt
up_own q M (one_of N) = tt

needs_own : (q : Query) (f : Row) → Every (Own 0) (needs q f)
unfolding needs
needs_own q nil = e_nil
needs_own q (el p x k) =
    every_append (needs_own q p) (e_cons (up_own q _ itself)
    (every_mapped (up q (meets q false x (met_row q k))) (every_all (up_own q _) (needs q k))))

own_deeper : (x : Place Need) → Own x.level x.need → Own (suc x.level) x.need
own_deeper x o = go x.level x.need o
  where
    go : (l : ℕ) (n : Need) → Own l n → Own (suc l) n
    go l itself o = omega arith
    go l (one_of N) o = tt

places_own : (q : Query) (d : Doc) → Every (λ x. Own x.level x.need) (places q d)
unfolding places
places_own q (done f) = every_mapped here (needs_own q f)
places_own q (within p x d) =
    every_append (every_mapped here (needs_own q p)) (e_cons (zero_le_one 0) (every_mapped deeper (every_map own_deeper (places_own q d))))
  where
    zero_le_one : (n : ℕ) → n < suc n
    zero_le_one n = le_refl (suc n)

number_every : {F : Place Need → Type 0} (i : ℕ) {xs : List (Place Need)} → Every F xs → Every (λ w. F w.place) (number i xs)
unfolding number
number_every i e_nil = e_nil
number_every i (e_cons {x} a t) = e_cons {x = record { number = i; place = x }} a (number_every (suc i) t)

-- lists

module _ {A : Type 0} (c : A → Bool) where
  kept_if : (b : Bool) (x : A) {xs : List A} → c x ≡ b → Every (λ y. c y ≡ true) xs → Every (λ y. c y ≡ true) (keep_if b x xs)
  unfolding keep_if
  kept_if true x e t = e_cons e t
  kept_if false x e t = t

  pub kept_every : (xs : List A) → Every (λ y. c y ≡ true) (keep c xs)
  unfolding keep
  kept_every [] = e_nil
  kept_every (x ∷ xs) = kept_if (c x) x refl (kept_every xs)

  first_if : (b : Bool) (x : A) (xs r : List A) → c x ≡ b → counted c r ≡ 0 → counted c (past_if b (x ∷ xs) r) ≡ 0
  unfolding past_if
  first_if true x xs r e z = z
  first_if false x xs r e z = counted_none c x xs e

  past_first : (xs : List A) → counted c (past c xs) ≡ 0
  unfolding past
  past_first [] = unfold counted in refl
  past_first (x ∷ xs) = first_if (c x) x xs (past c xs) refl (past_first xs)

same_every : {A : Type 0} (f g : A → Bool) (xs : List A) → map f xs ≡ map g xs → Every (λ x. f x ≡ g x) xs
same_every f g [] e = e_nil
same_every f g (x ∷ xs) e = e_cons (ap (λ l. get_or l 0 false) e) (same_every f g xs (ap (drop 1) e))

-- a close leaves the sure reading as it is

marks_same : (q : Query) (d : Doc) (r : Ready) → marks q sure-reading (closed d) r ≡ marks q sure-reading d r
unfolding marks closed marks_row met granted
marks_same q (done f) r = refl
marks_same q (within p x (done k)) r = refl
marks_same q (within p x (within p' x' d)) r =
    ap (λ K. marks_row q p r ++ ((turn q (meets q false x K) r).end ∷ marks q sure-reading (closed (within p' x' d))
    (turn q (meets q false x K) r))) (met_close q (within p' x' d))
    ∙ ap (λ ms. marks_row q p r ++ ((turn q (meets q false x (met q sure-reading (within p' x' d))) r).end ∷ ms)) (marks_same q (within p' x' d) _)

selections_same : (q : Query) (d : Doc) → selections q sure-reading (closed d) ≡ selections q sure-reading d
unfolding selections
selections_same q d = marks_same q d start

shift_certain :
    (q : Query) (d : Doc) →
    Every (λ w. certain (ops q) (frames_at q (closed d)) (shift q d w) ≡ certain (ops q) (frames_at q d) w) (nodes q d)
shift_certain q d =
    same_every (λ w. certain (ops q) (frames_at q (closed d)) (shift q d w)) (certain (ops q) (frames_at q d)) (nodes q d)
    (sym (map-map (certain (ops q) (frames_at q (closed d))) (shift q d) (nodes q d))
    ∙ ap (map (certain (ops q) (frames_at q (closed d)))) (sym (nodes_close q d))
    ∙ certain_sure q (closed d)
    ∙ selections_same q d
    ∙ sym (certain_sure q d))

-- what is alive has a need

none_met : (N r : ℕ) (b : Bool) → eqb N 0 ≡ b → overlaps N r ≡ true → b ≡ false
none_met N r false z e = refl
none_met N r true z e =
    absurd (true≢false (sym e ∙ ap (λ n. overlaps n r) (eqb-true N 0 z) ∙ (unfold overlaps in ap (λ m. not (eqb m 0)) (and_zero_l r))))

sound_need : (l : ℕ) (n : NeedOf ℕ) (r : ReadyOf ℕ) → Own l n → value r n ≡ true → SoundNeed l n
unfolding value
sound_need l itself r o e = o
sound_need l (one_of N) r o e = none_met N r.steps (eqb N 0) refl e

pub alive_sound :
    (P : Plan) (fs : List (Engine.Frame ℕ (ReadyOf ℕ))) (w : Engine.Waiting (NeedOf ℕ)) → Own w.place.level w.place.need →
    alive (mask_ops P) fs w ≡ true →
    SoundNeed w.place.level w.place.need
unfolding alive stands
alive_sound P fs w o e = sound_need w.place.level w.place.need _ o e

pub length_masks : (q : Query) (d : Doc) → length (mask_state q d).frames ≡ depth d
unfolding mask_state state_of frames_at
length_masks q d = length-map (frames_of q d start start) (frame_in (masks q)) ∙ length_frames q d start start

pub queue_layers : (q : Query) (d : Doc) → Layers (λ w. w.place.level) (depth d) 0 (mask_state q d).queue
unfolding mask_state state_of nodes
queue_layers q d =
    layers_map (waiting_in (masks q)) (λ w. w.place.level) (depth d)
    (layers_past _ _ _ (layers_keep _ _ _ (layers_number 1 (places_layers q d))))

module _ (q : Query) (a : T (admits q)) (d : Doc) where
  abbrev O : Ops ℕ ℕ (ReadyOf ℕ) (NeedOf ℕ)
  O = mask_ops (plan q)

  pub queue_alive : Every (λ w. alive O (mask_state q d).frames w ≡ true) (mask_state q d).queue
  unfolding mask_state state_of
  queue_alive =
      every_mapped (waiting_in (masks q))
      (every_map (λ w e. sym (alive_hom (ops q) O (masks q) (mask_hom q a) (frames_at q d) w) ∙ e)
      (every_past _ (kept_every (alive (ops q) (frames_at q d)) (nodes q d))))

  pub queue_first : counted (certain O (mask_state q d).frames) (mask_state q d).queue ≡ 0
  unfolding mask_state state_of
  queue_first =
      sym (counted_hom (waiting_in (masks q)) _ _ (every_all (certain_hom (ops q) O (masks q) (mask_hom q a) (frames_at q d)) _))
      ∙ past_first (certain (ops q) (frames_at q d)) _

  own_mask : (l : ℕ) (n : Need) → Own l n → Own l (need_mask q n)
  unfolding need_mask
  own_mask l itself o = o
  own_mask l (one_of N) o = tt

  queue_own : Every (λ w. Own w.place.level w.place.need) (mask_state q d).queue
  unfolding mask_state state_of nodes
  queue_own =
      every_mapped (waiting_in (masks q))
      (every_map (λ w o. own_mask w.place.level w.place.need o) (every_past _ (every_keep _ (number_every 1 (places_own q d)))))

  pub queue_low : Every (λ w. w.place.level ≤ length (mask_state q d).frames) (mask_state q d).queue
  queue_low = rw (length_masks q d) (layers_low (λ w. w.place.level) (depth d) (queue_layers q d))

  pub queue_sound : Every (Sound (length (mask_state q d).frames)) (mask_state q d).queue
  queue_sound =
      every_both (λ w l n. record { low = l; needs = n }) queue_low
      (every_both (alive_sound (plan q) (mask_state q d).frames) queue_own queue_alive)

  pub close_certain :
      Every
      (λ w. certain O (mask_state q (closed d)).frames (move_waiting O (pred (length (mask_state q d).frames)) (exact O (mask_state q d).frames) w)
      ≡ certain O (mask_state q d).frames w)
      (mask_state q d).queue
  unfolding mask_state state_of shift
  close_certain =
      every_mapped (waiting_in (masks q))
      (every_map
      (λ w e.
      ap (certain O (map (frame_in (masks q)) (frames_at q (closed d)))) (sym (moves_hom (ops q) O (masks q) (mask_hom q a) (frames_at q d) w))
      ∙ sym (certain_hom (ops q) O (masks q) (mask_hom q a) (frames_at q (closed d)) _)
      ∙ e
      ∙ certain_hom (ops q) O (masks q) (mask_hom q a) (frames_at q d) w)
      (every_past _ (every_keep _ (shift_certain q d))))
