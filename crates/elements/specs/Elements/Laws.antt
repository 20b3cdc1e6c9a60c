-- One turn of each loop on the open elements, and its end, as equations of its model; and what the calls of a push give together.
--
--   rise_stop, rise_step, rise_done     nothing new; something new, and m is met with it; no element left
--   refresh_step, refresh_done          one element more; none left
--   ready_first, ready_other            what is read at level 0, and at another
--   sure_first, sure_other, possible_first, possible_other     the same of what is sure and of what is possible
--   sure_front, possible_front          what is read at a level is read off the elements up to it
--   push_parts                          from what each call answered, the whole of what the push does
--
-- Assumes nothing.
use Prim.Native.Nat.{ℕ, zero, suc, ◌+◌, ◌-◌, ◌≤◌, ◌<◌}
use Rattle.std.proofs.Math.Numerals.{add-one}
use native.Mathlib.Omega.{arith}
use Rattle.std.proofs.Math.Path.{◌≡◌, refl, sym, ap, ap₂}
use Rattle.std.proofs.Common.{◌∙◌, take-suc, drop-cons, drop-set-lt, length-take-le}
use mathlib.Core.List.{List, [], ◌∷◌, ◌++◌, map, append_assoc, append-nil, map-append}
use Rattle.std.proofs.Math.ListN.{length, get_or, take, drop, length-append, length-map, take-append-drop, get_or-map, get_or-append}
use Rattle.std.specs.Prelude.{set}
use Rattle.std.proofs.lemmas.List.{get_or-replicate, take-set-le, set_split, set_at}
use Rattle.std.proofs.Math.Seq.{take_at, drop_at}
use Rattle.choice.specs.Count.{left, gone, down}
use Rattle.meaning.specs.Limits.{depth_limit}
use Rattle.sets.specs.Set.{join, meet, without}
use Rattle.plan.specs.Plan.{Plan, named, meets, lift, turn}
use Rattle.engine.specs.Quick.{Frame, Rise, raised, rise, refreshed, refresh, fresh, frames_after, sure_at, possible_at}
use Rattle.engine.proofs.Quick.Snoc.{rise_snoc_stop, rise_snoc_on, rise_length}
use Rattle.element.specs.Element.{Elements, elements_in, field_of, no_frame, frame_at, raised_in, refreshed_in, opened_in}
use Rattle.element.specs.Element.Laws.{frames_length}
use Rattle.elements.specs.Elements.{with, ready_at, Risen, risen_by, risen_in, refreshed_from, pushed_in}

-- the first j + 1 are the first j and one more
snoc : (l : List Frame) (at : ℕ) → 0 < at → at ≤ length l → take at l ≡ take (at - 1) l ++ (get_or l (at - 1) no_frame ∷ [])
snoc l at h k = ap (λ n. take n l) (down at h) ∙ take-suc l (at - 1) no_frame (omega arith)

module _ (P : Plan) (news at : ℕ) (E : Elements) (some : 0 < at) (fits : at ≤ length E.list) where
  abbrev f : Frame
  f = frame_at E (at - 1)

  stop_is : join f.below news ≡ f.below → ◌≡◌ {A = Risen} (record { top = at; elements = E }) (risen_in P news at E)
  unfolding risen_in
  stop_is e =
      sym
      (ap (λ fs. risen_by at E (rise P news fs)) (snoc E.list at some fits)
      ∙ ap (risen_by at E) (rise_snoc_stop P news (take (at - 1) E.list) f e)
      ∙ ap (λ fs. risen_by at E (record { kept = fs; risen = []; carry = 0 })) (sym (snoc E.list at some fits))
      ∙ ap₂ (λ (n : ℕ) (fs : List Frame). record { top = n; elements = with fs E })
      (length-take-le at E.list fits)
      (ap (λ fs. fs ++ drop at E.list) (append-nil (take at E.list)) ∙ take-append-drop at E.list))

  step_is :
      (m news' : ℕ) (E' : Elements) → (join f.below news ≡ f.below → ⊥) → m ≡ meets P f.pass (join f.below news) →
      E' ≡ raised_in (at - 1) (join f.below news) m E → news' ≡ lift P m (join f.below news) →
      risen_in P news' (at - 1) E' ≡ risen_in P news at E
  unfolding risen_in raised_in raised
  step_is m news' E' ne em ee en =
      let new : ℕ = join f.below news in
      let i : ℕ = at - 1 in
      let r : Rise = rise P (lift P (meets P f.pass new) new) (take i E.list) in
      ap₂ (λ n X. risen_in P n i X) en ee
      ∙ ap (λ x. risen_in P (lift P x new) i (raised_in i new x E)) em
      ∙ ap₂ (λ fs gs. risen_by' (rise P (lift P (meets P f.pass new) new) fs) gs) (take-set-le i E.list i (raised P f new) (omega arith))
      (ap (drop i) (set_split E.list i (raised P f new) (omega arith)) ∙ drop_at (take i E.list) _ i (length-take-le i E.list (omega arith)))
      ∙ ap₂ (λ (n : ℕ) (fs : List Frame). record { top = n; elements = with fs E }) refl
      (sym (append_assoc (r.kept ++ r.risen) (raised P f new ∷ []) (drop (suc i) E.list))
      ∙ ap₂ (λ a j. a ++ drop j E.list) (append_assoc r.kept r.risen (raised P f new ∷ [])) (sym (down at some)))
      ∙ sym
      (ap (λ fs. risen_by at E (rise P news fs)) (snoc E.list at some fits) ∙ ap (risen_by at E) (rise_snoc_on P news (take i E.list) f ne))
    where
      risen_by' : Rise → List Frame → Risen
      risen_by' r gs = record { top = length r.kept; elements = with ((r.kept ++ r.risen) ++ gs) E }

-- by what is read of the element: old is met in its content, and its name passes `pass`
module _
    (P : Plan) (news at : ℕ) (bs : List ℕ) (old : ℕ) (some : 0 < at) (fits : at ≤ depth_limit) (eo : old ≡ (frame_at (elements_in bs) (at - 1)).below) where
  in_list : at ≤ length (elements_in bs).list
  in_list = omega (arith, frames_length bs)

  pub rise_stop : join old news ≡ old → ◌≡◌ {A = Risen} (record { top = at; elements = elements_in bs }) (risen_in P news at (elements_in bs))
  rise_stop e = stop_is P news at (elements_in bs) some in_list (ap (λ o. join o news) (sym eo) ∙ e ∙ eo)

  pub rise_step :
      (pass m news' : ℕ) (E' : Elements) → pass ≡ (frame_at (elements_in bs) (at - 1)).pass → (join old news ≡ old → ⊥) → m ≡ meets P pass (join old news) →
      E' ≡ raised_in (at - 1) (join old news) m (elements_in bs) → news' ≡ lift P m (join old news) →
      risen_in P news' (at - 1) E' ≡ risen_in P news at (elements_in bs)
  rise_step pass m news' E' ep ne em ee en =
      let j : join old news ≡ join (frame_at (elements_in bs) (at - 1)).below news = ap (λ o. join o news) eo in
      step_is P news at (elements_in bs) some in_list m news' E' (λ e. ne (j ∙ e ∙ sym eo)) (em ∙ ap₂ (meets P) ep j)
      (ee ∙ ap (λ n. raised_in (at - 1) n m (elements_in bs)) j) (en ∙ ap (lift P m) j)

pub rise_done : (P : Plan) (news at : ℕ) (E : Elements) → at ≤ 0 → ◌≡◌ {A = Risen} (record { top = at; elements = E }) (risen_in P news at E)
unfolding risen_in rise
rise_done P news zero E h = refl
rise_done P news (suc i) E h = absurd (omega arith)

-- the elements from `at` on begin with that at `at`
cons : (l : List Frame) (at to : ℕ) → at < to → to ≤ length l → take (to - at) (drop at l) ≡ get_or l at no_frame ∷ take (to - (at + 1)) (drop (at + 1) l)
cons l at to h k = ap₂ take (left to at h) (drop-cons l at no_frame (omega arith) ∙ ap (λ j. get_or l at no_frame ∷ drop j l) (sym (add-one at)))

module _ (P : Plan) (ready at to : ℕ) (E : Elements) where
  pub refresh_step :
      (m next : ℕ) (E' : Elements) → at < to → to ≤ length E.list → m ≡ (frame_at E at).met → next ≡ turn P m ready → E' ≡ refreshed_in at next E →
      refreshed_from P next (at + 1) to E' ≡ refreshed_from P ready at to E
  unfolding refreshed_from refreshed_in refresh refreshed
  refresh_step m next E' h k em en ee =
      let l : List Frame = E.list in
      let f : Frame = frame_at E at in
      let t : ℕ = turn P f.met ready in
      let g : Frame = refreshed f t in
      let tail : List Frame = refresh P t (take (to - (at + 1)) (drop (at + 1) l)) in
      ap (refreshed_from P next (at + 1) to) ee
      ∙ ap (λ n. refreshed_from P n (at + 1) to (refreshed_in at n E)) (en ∙ ap (λ x. turn P x ready) em)
      ∙ ap₂ (λ (a b : List Frame). with (a ++ b) E)
      (ap (λ j. take j (set l at g)) (add-one at) ∙ ap (take (suc at)) (set_split l at g (omega arith))
      ∙ ap (λ xs. take (suc at) xs) (sym (append_assoc (take at l) (g ∷ []) (drop (suc at) l)))
      ∙ take_at (take at l ++ (g ∷ [])) (drop (suc at) l) (suc at)
      (length-append (take at l) (g ∷ []) ∙ ap (λ n. n + 1) (length-take-le at l (omega arith)) ∙ add-one at))
      (ap₂ (λ xs ys. refresh P t (take (to - (at + 1)) xs) ++ ys) (drop-set-lt (at + 1) l at g (omega arith)) (drop-set-lt to l at g h))
      ∙ ap (λ xs. with xs E) (append_assoc (take at l) (g ∷ []) (tail ++ drop to l))
      ∙ sym (ap (λ xs. with (take at l ++ (refresh P ready xs ++ drop to l)) E) (cons l at to h k))

  pub refresh_done : at ≤ to → to ≤ at → E ≡ refreshed_from P ready at to E
  unfolding refreshed_from refresh
  refresh_done h k =
      let e : to ≡ at = omega arith in
      sym
      (ap₂ (λ n j. with (take at E.list ++ (refresh P ready (take n (drop at E.list)) ++ drop j E.list)) E) (gone to at k) e
      ∙ ap (λ xs. with xs E) (take-append-drop at E.list))

-- what is read at a level

module _ (P : Plan) (fs : List Frame) where
  pub sure_first : (level r : ℕ) → level ≡ 0 → r ≡ P.first → r ≡ sure_at P fs level
  unfolding sure_at
  sure_first level r z e = e ∙ ap (λ l. get_or (P.first ∷ map (λ f. f.sure) fs) l 0) (sym z)

  pub possible_first : (level r : ℕ) → level ≡ 0 → r ≡ P.first → r ≡ possible_at P fs level
  unfolding possible_at
  possible_first level r z e = e ∙ ap (λ l. get_or (P.first ∷ map (λ f. f.possible) fs) l 0) (sym z)

  pub sure_other : (level r : ℕ) → 0 < level → r ≡ (get_or fs (level - 1) no_frame).sure → r ≡ sure_at P fs level
  unfolding sure_at
  sure_other level r h e =
      e ∙ sym (get_or-map (λ f. f.sure) fs (level - 1) no_frame) ∙ ap (λ l. get_or (P.first ∷ map (λ f. f.sure) fs) l 0) (sym (down level h))

  pub possible_other : (level r : ℕ) → 0 < level → r ≡ (get_or fs (level - 1) no_frame).possible → r ≡ possible_at P fs level
  unfolding possible_at
  possible_other level r h e =
      e ∙ sym (get_or-map (λ f. f.possible) fs (level - 1) no_frame) ∙ ap (λ l. get_or (P.first ∷ map (λ f. f.possible) fs) l 0) (sym (down level h))

  module _ (g : ℕ) where
    pub ready_first : (level r : ℕ) → level ≡ 0 → r ≡ P.first → r ≡ ready_at g P fs level
    unfolding ready_at
    ready_first level r z e = e ∙ ap (ready_at g P fs) (sym z)

    pub ready_other : (level r : ℕ) → g < 6 → 0 < level → r ≡ field_of g (get_or fs (level - 1) no_frame) → r ≡ ready_at g P fs level
    unfolding ready_at
    ready_other level r few h e =
        e ∙ sym (get_or-map (field_of g) fs (level - 1) no_frame)
        ∙ ap (get_or (map (field_of g) fs) (level - 1)) (get_or-replicate 6 g 0 0 few)
        ∙ ap (λ l. get_or (P.first ∷ map (field_of g) fs) l 0) (sym (down level h))

    -- what is read at a level is read off the elements up to it
    ready_front : (gs : List Frame) (level : ℕ) → level ≤ length fs → ready_at g P (fs ++ gs) level ≡ ready_at g P fs level
    unfolding ready_at
    ready_front gs level h =
        ap (λ xs. get_or (P.first ∷ xs) level 0) (map-append (field_of g) fs gs)
        ∙ get_or-append (P.first ∷ map (field_of g) fs) (map (field_of g) gs) 0 level (omega (arith, length-map fs (field_of g)))

  pub sure_front : (gs : List Frame) (level : ℕ) → level ≤ length fs → sure_at P (fs ++ gs) level ≡ sure_at P fs level
  unfolding sure_at ready_at
  sure_front = ready_front 4

  pub possible_front : (gs : List Frame) (level : ℕ) → level ≤ length fs → possible_at P (fs ++ gs) level ≡ possible_at P fs level
  unfolding possible_at ready_at
  possible_front = ready_front 5

-- the calls of a push

module _ (P : Plan) (x depth : ℕ) (E : Elements) (fits : depth < length E.list) where
  abbrev fs : List Frame
  fs = take depth E.list

  abbrev risen : Rise
  risen = rise P (without (meet (named P x) P.plain) P.main) fs

  abbrev all : List Frame
  all = risen.kept ++ risen.risen

  fs_length : length fs ≡ depth
  fs_length = length-take-le depth E.list (omega arith)

  all_length : length all ≡ depth
  all_length = rise_length P _ fs ∙ fs_length

  -- with the new element
  opened_list :
      (new : Frame) → set (all ++ drop depth E.list) depth new ≡ risen.kept ++ ((risen.risen ++ (new ∷ [])) ++ drop (depth + 1) E.list)
  opened_list new =
      ap (λ l. set (all ++ l) depth new) (drop-cons E.list depth no_frame fits)
      ∙ set_at all _ (drop (suc depth) E.list) new depth all_length
      ∙ ap (λ j. all ++ (new ∷ drop j E.list)) (sym (add-one depth))
      ∙ append_assoc risen.kept risen.risen (new ∷ drop (depth + 1) E.list)
      ∙ ap (λ l. risen.kept ++ l) (sym (append_assoc risen.risen (new ∷ []) (drop (depth + 1) E.list)))

  -- refreshed from the first that has risen
  refreshed_list :
      (s : ℕ) (new : Frame) →
      refreshed_from P s (length risen.kept) (depth + 1) (with (risen.kept ++ ((risen.risen ++ (new ∷ [])) ++ drop (depth + 1) E.list)) E)
      ≡ with ((risen.kept ++ refresh P s (risen.risen ++ (new ∷ []))) ++ drop (depth + 1) E.list) E
  unfolding refreshed_from
  refreshed_list s new =
      let ks : List Frame = risen.kept in
      let rs : List Frame = risen.risen ++ (new ∷ []) in
      let zs : List Frame = drop (depth + 1) E.list in
      let lr : length rs ≡ length risen.risen + 1 = length-append risen.risen (new ∷ []) in
      let la : length ks + length risen.risen ≡ depth = sym (length-append ks risen.risen) ∙ all_length in
      let e : depth + 1 - length ks ≡ length rs = omega arith in
      let both : length (ks ++ rs) ≡ depth + 1 = length-append ks rs ∙ omega arith in
      ap₂ (λ (a b : List Frame). with (a ++ b) E) (take_at ks (rs ++ zs) (length ks) refl)
      (ap₂ (λ (a b : List Frame). refresh P s a ++ b)
      (ap₂ take e (drop_at ks (rs ++ zs) (length ks) refl) ∙ take_at rs zs (length rs) refl)
      (ap (drop (depth + 1)) (sym (append_assoc ks rs zs)) ∙ drop_at (ks ++ rs) zs (depth + 1) both))
      ∙ ap (λ l. with l E) (sym (append_assoc ks (refresh P s rs) zs))

  push_all :
      (p m possible top around : ℕ) (E₁ E₂ E₃ : Elements) → p ≡ named P x → m ≡ meet p P.plain → possible ≡ turn P p (possible_at P E.list depth) →
      ◌≡◌ {A = Risen} (record { top = top; elements = E₁ }) (risen_in P (without m P.main) depth E) → around ≡ sure_at P E₁.list top →
      E₂ ≡ opened_in depth x p m possible E₁ → E₃ ≡ refreshed_from P around top (depth + 1) E₂ →
      ◌≡◌ {A = Risen} (record { top = top; elements = E₃ }) (pushed_in P x depth E)
  unfolding risen_in pushed_in opened_in frames_after fresh
  push_all p m possible top around E₁ E₂ E₃ ep em eo er ea e₂ e₃ =
      let l : List Frame = E.list in
      let pm : m ≡ meet (named P x) P.plain = em ∙ ap (λ q. meet q P.plain) ep in
      let r : ◌≡◌ {A = Risen} (record { top = top; elements = E₁ }) (risen_by depth E risen) = er ∙ ap (λ n. risen_in P (without n P.main) depth E) pm in
      let t : top ≡ length risen.kept = ap (λ (y : Risen). y.top) r in
      let one : E₁ ≡ with (all ++ drop depth l) E = ap (λ (y : Risen). y.elements) r in
      let new : Frame = fresh P x (possible_at P fs (length fs)) in
      let o : possible ≡ turn P (named P x) (possible_at P fs (length fs)) =
      eo
      ∙ ap₂ (λ q k. turn P q k) ep
      (ap (λ k. possible_at P k depth) (sym (take-append-drop depth l)) ∙ possible_front P fs (drop depth l) depth (omega (arith, fs_length))
      ∙ ap (possible_at P fs) (sym fs_length)) in
      let n : record { name = x; pass = p; below = 0; met = m; sure = 0; possible = possible } ≡ new =
      ap₂ (λ (a b : ℕ). record { name = x; pass = a; below = 0; met = b; sure = 0; possible = possible }) ep pm
      ∙ ap (λ (b : ℕ). record { name = x; pass = named P x; below = 0; met = meet (named P x) P.plain; sure = 0; possible = b }) o in
      let s : ℕ = sure_at P risen.kept (length risen.kept) in
      let u : around ≡ s =
      ea ∙ ap₂ (λ k i. sure_at P k i) (ap (λ (y : Elements). y.list) one ∙ append_assoc risen.kept risen.risen (drop depth l)) t
      ∙ sure_front P risen.kept (risen.risen ++ drop depth l) (length risen.kept) (omega arith) in
      let two : E₂ ≡ with (risen.kept ++ ((risen.risen ++ (new ∷ [])) ++ drop (depth + 1) l)) E =
      e₂ ∙ ap (opened_in depth x p m possible) one ∙ ap (λ f. with (set (all ++ drop depth l) depth f) E) n ∙ ap (λ k. with k E) (opened_list new) in
      ap₂ (λ (a : ℕ) (b : Elements). record { top = a; elements = b }) t
      (e₃ ∙ ap₂ (λ a b. refreshed_from P a b (depth + 1) E₂) u t ∙ ap (refreshed_from P s (length risen.kept) (depth + 1)) two ∙ refreshed_list s new)

pub push_parts :
    (P : Plan) (x depth : ℕ) (bs : List ℕ) → depth < depth_limit → (p plain around possible news top sure : ℕ) (E₁ E₂ E₃ : Elements) →
    p ≡ named P x → plain ≡ P.plain → around ≡ possible_at P (elements_in bs).list depth → possible ≡ turn P p around →
    news ≡ without (meet p plain) P.main →
    ◌≡◌ {A = Risen} (record { top = top; elements = E₁ }) (risen_in P news depth (elements_in bs)) → sure ≡ sure_at P E₁.list top →
    E₂ ≡ opened_in depth x p (meet p plain) possible E₁ → E₃ ≡ refreshed_from P sure top (depth + 1) E₂ →
    ◌≡◌ {A = Risen} (record { top = top; elements = E₃ }) (pushed_in P x depth (elements_in bs))
push_parts P x depth bs h p plain around possible news top sure E₁ E₂ E₃ ep el ea eo en er es e₂ e₃ =
    push_all P x depth (elements_in bs) (omega (arith, frames_length bs)) p (meet p plain) possible top sure E₁ E₂ E₃ ep (ap (meet p) el)
    (eo ∙ ap (turn P p) ea) (er ∙ ap (λ n. risen_in P n depth (elements_in bs)) en) es e₂ e₃
