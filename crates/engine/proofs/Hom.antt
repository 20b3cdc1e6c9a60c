-- Sets in another coat: what keeps the operations keeps the engine.
--
--   open_hom, close_hom      a coat that turns each operation of O into that of P turns the engine's events over O into those over P
--   certain_hom, alive_hom   and the standing of a node is the same
--   keep_hom, front_hom, past_hom, map_drop_last      lists along a map, by tests that agree there
--
-- Assumes nothing.
use Prim.Native.Nat.{ℕ, suc, pred}
use Rattle.std.specs.Prelude.{◌≡◌, Bool, length, get_or}
use Rattle.std.proofs.Math.Path.{refl, sym, ap, ap₂, fun_ext}
use Rattle.std.proofs.Common.{◌∙◌}
use Rattle.std.proofs.Math.Bool.{true, false}
use mathlib.Core.List.{List, [], ◌∷◌, ◌++◌, map, map-map, map-append, drop_last}
use Rattle.std.proofs.lemmas.List.{length-map}
use Rattle.std.proofs.Math.ListN.{get_or-map}
use Rattle.meaning.specs.Document.{Node}
use Rattle.engine.proofs.Every.{Every, e_nil, e_cons, every_all}
use Rattle.engine.specs.Engine.{Ops, Frame, Place, Waiting, State, keep_if, keep, front_if, front, past_if, past, is_level}
use Rattle.engine.specs.Engine.{rise, frame_of, grow, sures, possibles, stands, certain, alive, settle, newcomer, open_model}
use Rattle.engine.specs.Hom.{Coat, frame_in, place_in, waiting_in, state_in, result_in, Hom}
use Rattle.engine.specs.Engine.{exact, move_if, move, move_waiting, close_model}

-- lists

module _ {A B : Type 0} (g : A → B) where
  keep_if_lem : (b : Bool) (x : A) (r : List A) → map g (keep_if b x r) ≡ keep_if b (g x) (map g r)
  unfolding keep_if
  keep_if_lem true x r = refl
  keep_if_lem false x r = refl

  pub keep_hom : (p : A → Bool) (p' : B → Bool) {xs : List A} → Every (λ x. p x ≡ p' (g x)) xs → map g (keep p xs) ≡ keep p' (map g xs)
  unfolding keep
  keep_hom p p' e_nil = refl
  keep_hom p p' (e_cons {x} {xs} e t) = keep_if_lem (p x) x (keep p xs) ∙ ap₂ (λ b r. keep_if b (g x) r) e (keep_hom p p' t)

  front_if_lem : (b : Bool) (x : A) (r : List A) → map g (front_if b x r) ≡ front_if b (g x) (map g r)
  unfolding front_if
  front_if_lem true x r = refl
  front_if_lem false x r = refl

  pub front_hom : (c : A → Bool) (c' : B → Bool) {xs : List A} → Every (λ x. c x ≡ c' (g x)) xs → map g (front c xs) ≡ front c' (map g xs)
  unfolding front
  front_hom c c' e_nil = refl
  front_hom c c' (e_cons {x} {xs} e t) = front_if_lem (c x) x (front c xs) ∙ ap₂ (λ b r. front_if b (g x) r) e (front_hom c c' t)

  past_if_lem : (b : Bool) (xs r : List A) → map g (past_if b xs r) ≡ past_if b (map g xs) (map g r)
  unfolding past_if
  past_if_lem true xs r = refl
  past_if_lem false xs r = refl

  pub past_hom : (c : A → Bool) (c' : B → Bool) {xs : List A} → Every (λ x. c x ≡ c' (g x)) xs → map g (past c xs) ≡ past c' (map g xs)
  unfolding past
  past_hom c c' e_nil = refl
  past_hom c c' (e_cons {x} {xs} e t) = past_if_lem (c x) (x ∷ xs) (past c xs) ∙ ap₂ (λ b r. past_if b (g x ∷ map g xs) r) e (past_hom c c' t)

  pub map_drop_last : (xs : List A) → map g (drop_last xs) ≡ drop_last (map g xs)
  map_drop_last [] = refl
  map_drop_last (x ∷ []) = refl
  map_drop_last (x ∷ (y ∷ xs)) = ap (◌∷◌ (g x)) (map_drop_last (y ∷ xs))

module _
    {S B R N S' B' R' N' : Type 0} (O : Ops S B R N) (P : Ops S' B' R' N') (k : Coat S B R N S' B' R' N') (h : Hom O P k) where
  -- what has risen from inside, joined to what was below, and its element
  joined : (f : Frame B R) {x : B} {y : B'} → k.below x ≡ y → k.below (O.join f.below x) ≡ P.join (k.below f.below) y
  joined f e = h.join _ _ ∙ ap (P.join (k.below f.below)) e

  met_hom : (x : Node) {a : B} {b : B'} → k.below a ≡ b → k.set (O.meets x a) ≡ P.meets x b
  met_hom x e = h.meets x _ ∙ ap (P.meets x) e

  turn_hom : {M : S} {M' : S'} (r : R) → k.set M ≡ M' → k.ready (O.turn M r) ≡ P.turn M' (k.ready r)
  turn_hom r e = h.turn _ r ∙ ap (λ x. P.turn x (k.ready r)) e

  rise_hom : (y : Node) (fs : List (Frame B R)) → k.below (rise O y fs) ≡ rise P y (map (frame_in k) fs)
  unfolding rise
  rise_hom y [] = h.lift _ _ ∙ ap₂ P.lift (met_hom y h.empty) h.empty
  rise_hom y (f ∷ fs) = h.lift _ _ ∙ ap₂ P.lift (met_hom f.node (joined f (rise_hom y fs))) (joined f (rise_hom y fs))

  frame_hom :
      (x : Node) {a : B} {b : B'} (rs : R) {r : R} {r' : R'} → k.below a ≡ b → k.ready r ≡ r' →
      frame_in k (frame_of O x a rs r) ≡ frame_of P x b (k.ready rs) r'
  frame_hom x {a} {b} rs {r} {r'} e e' =
      ap₂ (λ c s. record { node = x; below = c; sure = s; possible = k.ready r }) e (turn_hom rs (met_hom x e))
      ∙ ap (λ p. record { node = x; below = b; sure = P.turn (P.meets x b) (k.ready rs); possible = p }) e'

  grow_hom :
      (y : Node) (rs rp : R) (fs : List (Frame B R)) →
      map (frame_in k) (grow O y rs rp fs) ≡ grow P y (k.ready rs) (k.ready rp) (map (frame_in k) fs)
  unfolding grow
  grow_hom y rs rp [] = ap (λ f. f ∷ []) (frame_hom y rs h.empty (turn_hom rp (h.named y)))
  grow_hom y rs rp (f ∷ fs) =
      ap₂ ◌∷◌ (frame_hom f.node rs inside refl)
      (grow_hom y (O.turn (O.meets f.node (O.join f.below (rise O y fs))) rs) f.possible fs
      ∙ ap (λ r. grow P y r (k.ready f.possible) (map (frame_in k) fs)) (turn_hom rs (met_hom f.node inside)))
    where
      inside : k.below (O.join f.below (rise O y fs)) ≡ P.join (k.below f.below) (rise P y (map (frame_in k) fs))
      inside = joined f (rise_hom y fs)

  stands_hom : (rs : List R) (x : Place N) → stands O rs x ≡ stands P (map k.ready rs) (place_in k x)
  unfolding stands
  stands_hom rs x =
      h.value _ _
      ∙ ap (λ r. P.value r (k.need x.need))
      (sym (ap (get_or (map k.ready rs) x.level) (sym h.start) ∙ get_or-map k.ready rs x.level O.start))

  sures_hom : (fs : List (Frame B R)) → map k.ready (sures O fs) ≡ sures P (map (frame_in k) fs)
  unfolding sures
  sures_hom fs =
      ap₂ ◌∷◌ h.start (map-map k.ready (λ (f : Frame B R). f.sure) fs ∙ sym (map-map (λ (f : Frame B' R'). f.sure) (frame_in k) fs))

  possibles_hom : (fs : List (Frame B R)) → map k.ready (possibles O fs) ≡ possibles P (map (frame_in k) fs)
  unfolding possibles
  possibles_hom fs =
      ap₂ ◌∷◌ h.start (map-map k.ready (λ (f : Frame B R). f.possible) fs ∙ sym (map-map (λ (f : Frame B' R'). f.possible) (frame_in k) fs))

  pub certain_hom : (fs : List (Frame B R)) (w : Waiting N) → certain O fs w ≡ certain P (map (frame_in k) fs) (waiting_in k w)
  unfolding certain
  certain_hom fs w = stands_hom (sures O fs) w.place ∙ ap (λ rs. stands P rs (place_in k w.place)) (sures_hom fs)

  pub alive_hom : (fs : List (Frame B R)) (w : Waiting N) → alive O fs w ≡ alive P (map (frame_in k) fs) (waiting_in k w)
  unfolding alive
  alive_hom fs w = stands_hom (possibles O fs) w.place ∙ ap (λ rs. stands P rs (place_in k w.place)) (possibles_hom fs)

  settle_hom :
      (fs : List (Frame B R)) (ws : List (Waiting N)) (n : ℕ) →
      result_in k (settle O fs ws n) ≡ settle P (map (frame_in k) fs) (map (waiting_in k) ws) n
  unfolding settle
  settle_hom fs ws n =
      ap₂ (λ x y. record { state = record { frames = map (frame_in k) fs; queue = x; opened = n }; out = y })
      (past_hom (waiting_in k) _ _ (every_all (certain_hom fs) _) ∙ ap (past (certain P (map (frame_in k) fs))) kept)
      (sym (map-map (λ (w : Waiting N'). w.number) (waiting_in k) (front (certain O fs) (keep (alive O fs) ws)))
      ∙ ap (map (λ (w : Waiting N'). w.number))
      (front_hom (waiting_in k) _ _ (every_all (certain_hom fs) _) ∙ ap (front (certain P (map (frame_in k) fs))) kept))
    where
      kept : map (waiting_in k) (keep (alive O fs) ws) ≡ keep (alive P (map (frame_in k) fs)) (map (waiting_in k) ws)
      kept = keep_hom (waiting_in k) _ _ (every_all (alive_hom fs) ws)

  pub newcomer_hom : (s : State B R N) → waiting_in k (newcomer O s) ≡ newcomer P (state_in k s)
  unfolding newcomer
  newcomer_hom s =
      ap₂ (λ l n. record { number = suc s.opened; place = record { level = suc l; need = n } }) (sym (length-map s.frames (frame_in k))) h.itself

  pub open_hom : (y : Node) (s : State B R N) → result_in k (open_model O y s) ≡ open_model P y (state_in k s)
  unfolding open_model
  open_hom y s =
      settle_hom _ _ _
      ∙ ap₂ (λ fs ws. settle P fs ws (suc s.opened))
      (grow_hom y _ _ s.frames ∙ ap₂ (λ a b. grow P y a b (map (frame_in k) s.frames)) h.start h.start)
      (map-append (waiting_in k) s.queue _ ∙ ap (λ w. map (waiting_in k) s.queue ++ (w ∷ [])) (newcomer_hom s))

  exact_hom : (fs : List (Frame B R)) → k.set (exact O fs) ≡ exact P (map (frame_in k) fs)
  unfolding exact
  exact_hom [] = h.none
  exact_hom (f ∷ []) = h.meets f.node _
  exact_hom (f ∷ (f' ∷ fs)) = exact_hom (f' ∷ fs)

  move_if_lem : (b : Bool) (l : ℕ) (M : S) (x : Place N) → place_in k (move_if O b l M x) ≡ move_if P b l (k.set M) (place_in k x)
  unfolding move_if
  move_if_lem true l M x = ap (λ n. record { level = l; need = n }) (h.up M x.need)
  move_if_lem false l M x = refl

  move_hom : (l : ℕ) (M : S) (w : Waiting N) → waiting_in k (move_waiting O l M w) ≡ move_waiting P l (k.set M) (waiting_in k w)
  unfolding move_waiting move
  move_hom l M w = ap (λ x. record { number = w.number; place = x }) (move_if_lem (is_level w.place.level (suc l)) l M w.place)

  pub moves_hom :
      (fs : List (Frame B R)) (w : Waiting N) →
      waiting_in k (move_waiting O (pred (length fs)) (exact O fs) w)
      ≡ move_waiting P (pred (length (map (frame_in k) fs))) (exact P (map (frame_in k) fs)) (waiting_in k w)
  moves_hom fs w =
      move_hom _ _ w
      ∙ ap₂ (λ l M. move_waiting P (pred l) M (waiting_in k w)) (sym (length-map fs (frame_in k))) (exact_hom fs)

  pub close_hom : (s : State B R N) → result_in k (close_model O s) ≡ close_model P (state_in k s)
  unfolding close_model
  close_hom s =
      settle_hom _ _ _
      ∙ ap₂ (λ fs ws. settle P fs ws s.opened) (map_drop_last (frame_in k) s.frames)
      (map-map (waiting_in k) _ s.queue
      ∙ ap (λ g. map g s.queue) (fun_ext (moves_hom s.frames))
      ∙ sym (map-map (move_waiting P _ _) (waiting_in k) s.queue))
