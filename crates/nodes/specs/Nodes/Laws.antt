-- One turn of each loop on the waiting nodes, and its end, as equations of its model; and what the calls of a function give together.
--
--   certain_far, certain_need, certain_none, certain_self      the cases of a node's certainty;  certain_cases: all four
--   front_step, front_stop, front_done          the node at i is certain; it is not; none is left
--   went_yes, went_no                           they are looked for, or not
--   suffix_step, suffix_stop, suffix_done       the node before waits there; it does not; there is none
--   keep_yes, keep_no                           a node stays, or not;  kept_held: where the next one goes
--   move_step, move_done                        the node at i moves; none is left
--   shift_step, shift_done, write_none, write_step, write_done      one record more; none is left
--   hand_none, hand_parts                       no node goes; the first k go
--   join_all, join_alive, join_dead             all go; the new node joins; it is ruled out
--
-- Assumes nothing.
use Prim.Native.Nat.{ℕ, suc, pred, ◌+◌, ◌-◌, ◌*◌, ◌≤◌, ◌<◌}
use Rattle.std.proofs.Common.{add-one, add-zero, ◌∙◌, drop_of_length-le, take-suc, drop-cons, length-take-le, get_or-take, eq-eqb, ne_eqb}
use native.Mathlib.Omega.{arith}
use Rattle.std.specs.Prelude.{◌≡◌, Bool, eqb, set}
use Rattle.std.proofs.Math.Path.{refl, sym, ap, ap₂}
use Rattle.std.proofs.Math.Bool.{true, false, not}
use mathlib.Core.List.{List, [], ◌∷◌, ◌++◌, map, append_assoc, map-append}
use Rattle.std.specs.Int.Bits.{bit_and, and_zero_l, and_zero_r}
use Rattle.std.proofs.Math.ListN.{length, get_or, take, drop, length-map, take-append-drop, get_or-map, get_or-eq_default}
use Rattle.std.proofs.Math.Seq.{sets, take-suc-set, take-set-lt, drop-set-lt}
use Rattle.choice.specs.When.{when, when_yes, when_no}
use Rattle.choice.specs.Count.{down}
use Rattle.meaning.specs.Limits.{depth_limit, held_limit}
use Rattle.sets.specs.Set.{overlaps}
use Rattle.plan.specs.Plan.{Plan, last_given, up}
use Rattle.engine.specs.Engine.{keep_if, keep}
use Rattle.engine.specs.Quick.{Frame, Waiting, met_at, sure_at, certain_if, certain, counted_if, counted, went_if, cut, moved, stay}
use Rattle.engine.proofs.Quick.Snoc.{cut_snoc_on, cut_snoc_stop}
use Rattle.records.specs.Write.{node_bytes, buffer}
use Rattle.records.proofs.Write.Laws.{buffer_none, buffer_snoc}
use Rattle.element.specs.Element.{elements_in, no_frame, frame_at}
use Rattle.element.specs.Element.Laws.{frames_length}
use Rattle.node.specs.Node.{Queue, queue_in, no_node, node_at, wrote_in}
use Rattle.node.specs.Node.Laws.{nodes_length}
use Rattle.elements.specs.Elements.Laws.{sure_front}
use Rattle.nodes.specs.Nodes.{with, level_of, numbers, Moved, kept_if, moved_by, moved_from, shifted, Handed, handed_out, Joined, joined_to, joined}
use Rattle.nodes.specs.declared.Going.{Going}

-- certain

none_given : (r : ℕ) → last_given 0 r ≡ false
unfolding last_given
none_given r = ap (λ x. not (eqb (bit_and x 1) 0)) (and_zero_l r) ∙ ap (λ x. not (eqb x 0)) (and_zero_l 1) ∙ ap not (eq-eqb 0 0 refl)

none_overlap : (n : ℕ) → overlaps n 0 ≡ false
unfolding overlaps
none_overlap n = ap (λ x. not (eqb x 0)) (and_zero_r n) ∙ ap not (eq-eqb 0 0 refl)

-- past the last of the frames nothing stands
module _ (P : Plan) (fs : List Frame) (level : ℕ) (far : length fs < level) where
  met_past : met_at fs level ≡ 0
  unfolding met_at
  met_past = get_or-eq_default (0 ∷ map (λ f. f.met) fs) 0 {n = level} (omega (arith, length-map fs (λ f. f.met)))

  sure_past : sure_at P fs level ≡ 0
  unfolding sure_at
  sure_past = get_or-eq_default (P.first ∷ map (λ f. f.sure) fs) 0 {n = level} (omega (arith, length-map fs (λ f. f.sure)))

  far_if : (b : Bool) (need : ℕ) → certain_if b P fs level need ≡ false
  unfolding certain_if
  far_if true need = ap (λ m. last_given m (sure_at P fs (pred level))) met_past ∙ none_given _
  far_if false need = ap (overlaps need) sure_past ∙ none_overlap need

module _ (P : Plan) (bs : List ℕ) (depth level need : ℕ) (fits : depth ≤ depth_limit) where
  abbrev F : List Frame
  F = (elements_in bs).list

  abbrev fs : List Frame
  fs = take depth F

  fs_length : length fs ≡ depth
  fs_length = length-take-le depth F (omega (arith, frames_length bs))

  -- what is read of all records is read of those in use
  sure_used : (l : ℕ) → l ≤ depth → sure_at P F l ≡ sure_at P fs l
  sure_used l h =
      ap (λ x. sure_at P x l) (sym (take-append-drop depth F)) ∙ sure_front P fs (drop depth F) l (omega (arith, fs_length))

  pub certain_far : depth < level → false ≡ certain_if (eqb need 0) P fs level need
  certain_far h = sym (far_if P fs level (omega (arith, fs_length)) (eqb need 0) need)

  pub certain_need :
      (sure : ℕ) → level ≤ depth → (need ≡ 0 → ⊥) → sure ≡ sure_at P F level →
      not (eqb (bit_and need sure) 0) ≡ certain_if (eqb need 0) P fs level need
  unfolding certain_if overlaps
  certain_need sure h ne e =
      ap (λ s. not (eqb (bit_and need s) 0)) (e ∙ sure_used level h) ∙ ap (λ b. certain_if b P fs level need) (sym (ne_eqb need 0 ne))

  pub certain_none : need ≡ 0 → level ≡ 0 → false ≡ certain_if (eqb need 0) P fs level need
  unfolding certain_if met_at
  certain_none n z =
      sym
      (ap₂ (λ b l. certain_if b P fs l need) (eq-eqb need 0 n) z ∙ none_given (sure_at P fs 0))

  pub certain_self :
      (met sure : ℕ) (r : Bool) → level ≤ depth → need ≡ 0 → 0 < level → met ≡ (frame_at (elements_in bs) (level - 1)).met → sure ≡ sure_at P F (level - 1) →
      r ≡ last_given met sure → r ≡ certain_if (eqb need 0) P fs level need
  unfolding certain_if met_at
  certain_self met sure r h n z em es er =
      let e : level ≡ suc (level - 1) = down level z in
      er
      ∙ ap₂ last_given
      (em ∙ ap (λ (f : Frame). f.met) (sym (get_or-take depth F (level - 1) no_frame (omega arith))) ∙ sym (get_or-map (λ f. f.met) fs (level - 1) no_frame)
      ∙ ap (λ l. get_or (0 ∷ map (λ f. f.met) fs) l 0) (sym e))
      (es ∙ sure_used (level - 1) (omega arith) ∙ ap (sure_at P fs) (ap pred (sym e)))
      ∙ ap (λ b. certain_if b P fs level need) (sym (eq-eqb need 0 n))

pub ruleset certain_cases = (certain_far, certain_need, certain_none, certain_self)

-- the records of bytes

module _ (bs : List ℕ) (held : ℕ) (fits : held ≤ held_limit) where
  abbrev L : List Waiting
  L = (queue_in bs).list

  long : held ≤ length L
  long = omega (arith, nodes_length bs)

  ws_length : length (take held L) ≡ held
  ws_length = length-take-le held L long

  -- the node at i, and those behind it
  here : (i : ℕ) → i < held → drop i (take held L) ≡ node_at (queue_in bs) i ∷ drop (i + 1) (take held L)
  here i h =
      drop-cons (take held L) i no_node (omega (arith, ws_length))
      ∙ ap₂ (λ w j. w ∷ drop j (take held L)) (get_or-take held L i no_node h) (sym (add-one i))

  none : (i : ℕ) → held ≤ i → drop i (take held L) ≡ []
  none i h = drop_of_length-le (take held L) {i = i} (omega (arith, ws_length))

-- the front

module _ (P : Plan) (fs : List Frame) (bs : List ℕ) (held i : ℕ) (fits : held ≤ held_limit) where
  abbrev ws : List Waiting
  ws = take held (queue_in bs).list

  counted_here : i < held → counted (certain P fs) (drop i ws) ≡ counted_if (certain P fs (node_at (queue_in bs) i)) (counted (certain P fs) (drop (i + 1) ws))
  unfolding counted
  counted_here h = ap (counted (certain P fs)) (here bs held fits i h)

  module _ (b : Bool) (level need : ℕ) (h : i < held) (el : level ≡ (node_at (queue_in bs) i).level) (en : need ≡ (node_at (queue_in bs) i).need)
      (e : b ≡ certain_if (eqb need 0) P fs level need) where
    test : certain P fs (node_at (queue_in bs) i) ≡ b
    unfolding certain
    test = sym (e ∙ ap₂ (λ l n. certain_if (eqb n 0) P fs l n) el en)

    pub front_step : b ≡ true → i + 1 + counted (certain P fs) (drop (i + 1) ws) ≡ i + counted (certain P fs) (drop i ws)
    unfolding counted_if
    front_step t =
        omega (arith, counted_here h ∙ ap (λ c. counted_if c (counted (certain P fs) (drop (i + 1) ws))) (test ∙ t))

    pub front_stop : b ≡ false → i ≡ i + counted (certain P fs) (drop i ws)
    unfolding counted_if
    front_stop t = omega (arith, counted_here h ∙ ap (λ c. counted_if c (counted (certain P fs) (drop (i + 1) ws))) (test ∙ t))

  pub front_done : held ≤ i → i ≡ i + counted (certain P fs) (drop i ws)
  unfolding counted
  front_done h = omega (arith, ap (counted (certain P fs)) (none bs held fits i h))

module _ (look : Bool) (P : Plan) (fs : List Frame) (ws : List Waiting) where
  pub went_yes : (k : ℕ) → look ≡ true → k ≡ counted (certain P fs) ws → k ≡ went_if look P fs ws
  unfolding went_if
  went_yes k h e = e ∙ ap (λ b. went_if b P fs ws) (sym h)

  pub went_no : look ≡ false → 0 ≡ went_if look P fs ws
  unfolding went_if
  went_no h = ap (λ b. went_if b P fs ws) (sym h)

-- the nodes of a level

module _ (bs : List ℕ) (from level : ℕ) where
  abbrev before : ℕ → ℕ
  before n = length (cut level_of level (take n (queue_in bs).list)).before

  module _ (read : ℕ) (some : 0 < from) (fits : from ≤ held_limit) (er : read ≡ (node_at (queue_in bs) (from - 1)).level) where
    snoc : take from (queue_in bs).list ≡ take (from - 1) (queue_in bs).list ++ (node_at (queue_in bs) (from - 1) ∷ [])
    snoc = ap (λ n. take n (queue_in bs).list) (down from some) ∙ take-suc (queue_in bs).list (from - 1) no_node (omega (arith, nodes_length bs))

    pub suffix_step : read ≡ level → before (from - 1) ≡ before from
    suffix_step e =
        sym
        (ap (λ l. length (cut level_of level l).before) snoc
        ∙ ap (λ c. length c.before) (cut_snoc_on level_of level (take (from - 1) (queue_in bs).list) (node_at (queue_in bs) (from - 1)) (sym er ∙ e)))

    pub suffix_stop : (read ≡ level → ⊥) → from ≡ before from
    suffix_stop ne =
        sym
        (ap (λ l. length (cut level_of level l).before) snoc
        ∙ ap (λ c. length c.before)
        (cut_snoc_stop level_of level (take (from - 1) (queue_in bs).list) (node_at (queue_in bs) (from - 1)) (λ e. ne (er ∙ e)))
        ∙ ap length (sym snoc)
        ∙ length-take-le from (queue_in bs).list (omega (arith, nodes_length bs)))

  pub suffix_done : from ≤ 0 → from ≡ before from
  suffix_done h = let z : from ≡ 0 = omega arith in z ∙ nothing ∙ ap before (sym z)
    where
      nothing : 0 ≡ length (cut level_of level []).before
      nothing = unfold cut in refl

-- moving up

module _ (stays : Bool) (end x to need : ℕ) (N : Queue) where
  pub keep_yes :
      (N' : Queue) → stays ≡ true → N' ≡ wrote_in end x to need N →
      ◌≡◌ {A = Moved} (record { held = end + 1; queue = N' }) (kept_if stays end x to need N)
  unfolding kept_if
  keep_yes N' h e = when_yes _ _ _ _ h (ap (λ (n : Queue). record { held = end + 1; queue = n }) e)

  pub keep_no : stays ≡ false → ◌≡◌ {A = Moved} (record { held = end; queue = N }) (kept_if stays end x to need N)
  unfolding kept_if
  keep_no h = when_no _ _ _ _ h refl

pub kept_held : (stays : Bool) (end x to need : ℕ) (N : Queue) (r : Moved) → r ≡ kept_if stays end x to need N → (end ≤ r.held) × (r.held ≤ end + 1)
unfolding kept_if when
kept_held true end x to need N r e = let h : r.held ≡ end + 1 = ap (λ (m : Moved). m.held) e in (omega arith, omega arith)
kept_held false end x to need N r e = let h : r.held ≡ end = ap (λ (m : Moved). m.held) e in (omega arith, omega arith)

module _ (P : Plan) (m ready to held i end : ℕ) (bs : List ℕ) (fits : held ≤ held_limit) (ordered : end ≤ i) (h : i < held) where
  abbrev N : Queue
  N = queue_in bs

  abbrev w' : Waiting
  w' = moved P m to (node_at N i)

  abbrev rest : List Waiting
  rest = drop (i + 1) (take held N.list)

  abbrev st : List Waiting
  st = stay P m to ready rest

  stay_here : stay P m to ready (drop i (take held N.list)) ≡ keep_if (overlaps w'.need ready) w' st
  unfolding stay keep
  stay_here = ap (stay P m to ready) (here bs held fits i h)

  behind : drop (i + 1) (take held (set N.list end w')) ≡ rest
  behind =
      ap (drop (i + 1)) (take-set-lt held N.list end w' (omega arith)) ∙ drop-set-lt (i + 1) (take held N.list) end w' (omega arith)

  either :
      (b : Bool) → overlaps w'.need ready ≡ b → (r : Moved) → r ≡ kept_if b end w'.node w'.level w'.need N →
      moved_from P m ready to held (i + 1) r.held r.queue ≡ moved_by end N (keep_if b w' st)
  unfolding kept_if when wrote_in moved_from keep_if
  either true e r er =
      let l : end < length N.list = omega (arith, nodes_length bs) in
      let a : end + 1 + length st ≡ end + suc (length st) = omega arith in
      ap (λ (x : Moved). moved_from P m ready to held (i + 1) x.held x.queue) er
      ∙ ap (λ s. moved_by (end + 1) (with (set N.list end w') N) (stay P m to ready s)) behind
      ∙ ap₂ (λ (n : ℕ) (x : List Waiting). record { held = n; queue = with x N }) a
      (ap₂ (λ x y. x ++ (st ++ y))
      (ap (λ n. take n (set N.list end w')) (add-one end) ∙ take-suc-set N.list end w' l)
      (drop-set-lt (end + 1 + length st) N.list end w' (omega arith) ∙ ap (λ n. drop n N.list) a)
      ∙ append_assoc (take end N.list) (w' ∷ []) (st ++ drop (end + suc (length st)) N.list))
  either false e r er = ap (λ (x : Moved). moved_from P m ready to held (i + 1) x.held x.queue) er

  pub move_step :
      (x old need : ℕ) (r : Moved) → x ≡ (node_at N i).node → old ≡ (node_at N i).need → need ≡ up P m old →
      r ≡ kept_if (not (eqb (bit_and need ready) 0)) end x to need N →
      moved_from P m ready to held (i + 1) r.held r.queue ≡ moved_from P m ready to held i end N
  unfolding overlaps moved
  move_step x old need r ex eo en er =
      let n : need ≡ w'.need = en ∙ ap (up P m) eo in
      either (overlaps w'.need ready) refl r (er ∙ ap₂ (λ y k. kept_if (not (eqb (bit_and k ready) 0)) end y to k N) ex n)
      ∙ (unfold moved_from in ap (moved_by end N) (sym stay_here))

pub move_done :
    (P : Plan) (m ready to held i end : ℕ) (bs : List ℕ) → held ≤ held_limit → held ≤ i → end ≤ held →
    ◌≡◌ {A = Moved} (record { held = end; queue = queue_in bs }) (moved_from P m ready to held i end (queue_in bs))
unfolding moved_from stay keep
move_done P m ready to held i end bs fits h k =
    let N : Queue = queue_in bs in
    sym
    (ap (λ l. moved_by end N (stay P m to ready l)) (none bs held fits i h)
    ∙ ap₂ (λ (n : ℕ) (l : List Waiting). record { held = n; queue = with l N }) (add-zero end)
    (ap (λ n. take end N.list ++ drop n N.list) (add-zero end) ∙ take-append-drop end N.list))

-- to the front

module _ (k held i : ℕ) (bs : List ℕ) (fits : held ≤ held_limit) where
  abbrev Q : Queue
  Q = queue_in bs

  pub shift_step :
      (x level need : ℕ) (N' : Queue) → k ≤ held → i < held - k → x ≡ (node_at Q (i + k)).node → level ≡ (node_at Q (i + k)).level →
      need ≡ (node_at Q (i + k)).need → N' ≡ wrote_in i x level need Q → shifted k held (i + 1) N' ≡ shifted k held i Q
  unfolding shifted wrote_in
  shift_step x level need N' hk h ex el en e =
      let l : List Waiting = Q.list in
      let w : Waiting = node_at Q (i + k) in
      let n : length l ≡ held_limit = nodes_length bs in
      let a : i + 1 + k ≡ i + k + 1 = omega arith in
      ap (shifted k held (i + 1)) e
      ∙ ap₂ (λ (p q : ℕ). shifted k held (i + 1) (with (set l i (record { node = p; level = q; need = need })) Q)) ex el
      ∙ ap (λ (p : ℕ). shifted k held (i + 1) (with (set l i (record { node = w.node; level = w.level; need = p })) Q)) en
      ∙ ap₂ (λ p q. with (p ++ q) Q)
      (ap (λ j. take j (set l i w)) (add-one i) ∙ take-suc-set l i w (omega arith))
      (ap₂ (λ p q. p ++ q)
      (ap (drop (i + 1 + k)) (take-set-lt held l i w (omega arith))
      ∙ drop-set-lt (i + 1 + k) (take held l) i w (omega arith) ∙ ap (λ j. drop j (take held l)) a)
      (drop-set-lt (held - k) l i w h))
      ∙ ap (λ p. with p Q) (append_assoc (take i l) (w ∷ []) (drop (i + k + 1) (take held l) ++ drop (held - k) l))
      ∙ sym (ap (λ p. with (take i l ++ (p ++ drop (held - k) l)) Q) (here bs held fits (i + k) (omega arith)))

  pub shift_done : k ≤ held → held - k ≤ i → i ≤ held - k → Q ≡ shifted k held i Q
  unfolding shifted
  shift_done hk h g =
      let e : i ≡ held - k = omega arith in
      sym
      (ap (λ p. with (take i Q.list ++ (p ++ drop (held - k) Q.list)) Q) (none bs held fits (i + k) (omega arith))
      ∙ ap (λ j. with (take i Q.list ++ drop j Q.list) Q) (sym e)
      ∙ ap (λ p. with p Q) (take-append-drop i Q.list))

-- list records

numbers_length : (bs : List ℕ) (i : ℕ) → i ≤ held_limit → length (numbers (take i (queue_in bs).list)) ≡ i
numbers_length bs i h =
    length-map (take i (queue_in bs).list) (λ w. w.node) ∙ length-take-le i (queue_in bs).list (omega (arith, nodes_length bs))

pub write_none : (bs out : List ℕ) → out ≡ buffer (numbers (take 0 (queue_in bs).list)) out
write_none bs out = sym (buffer_none out)

pub write_step :
    (bs out₀ out out' : List ℕ) (i n : ℕ) → i < held_limit → 4 * i + 4 ≤ length out₀ → out ≡ buffer (numbers (take i (queue_in bs).list)) out₀ →
    n ≡ (node_at (queue_in bs) i).node → out' ≡ sets out (4 * i) (node_bytes n) → out' ≡ buffer (numbers (take (i + 1) (queue_in bs).list)) out₀
write_step bs out₀ out out' i n h room e en eo =
    let l : List Waiting = (queue_in bs).list in
    let k : length (numbers (take i l)) ≡ i = numbers_length bs i (omega arith) in
    eo
    ∙ ap₂ (λ o x. sets o (4 * i) (node_bytes x)) e en
    ∙ ap (λ j. sets (buffer (numbers (take i l)) out₀) (4 * j) (node_bytes (node_at (queue_in bs) i).node)) (sym k)
    ∙ buffer_snoc (numbers (take i l)) (node_at (queue_in bs) i).node out₀ (omega arith)
    ∙ ap (λ ns. buffer ns out₀)
    (sym
    (ap (λ j. numbers (take j l)) (add-one i) ∙ ap numbers (take-suc l i no_node (omega (arith, nodes_length bs)))
    ∙ map-append (λ w. w.node) (take i l) (node_at (queue_in bs) i ∷ [])))

pub write_done :
    (bs out₀ out : List ℕ) (i k : ℕ) → i ≤ k → k ≤ i → out ≡ buffer (numbers (take i (queue_in bs).list)) out₀ →
    out ≡ buffer (numbers (take k (queue_in bs).list)) out₀
write_done bs out₀ out i k h l e = let s : i ≡ k = omega arith in e ∙ ap (λ j. buffer (numbers (take j (queue_in bs).list)) out₀) s

module _ (k held : ℕ) (bs out : List ℕ) where
  pub hand_none : held ≤ held_limit → k ≡ 0 → ◌≡◌ {A = Handed} (record { queue = queue_in bs; out = out }) (handed_out k held (queue_in bs) out)
  unfolding handed_out shifted
  hand_none fits z =
      let e : held - 0 ≡ held = omega arith in
      let zz : 0 + 0 ≡ 0 = omega arith in
      let L : List Waiting = (queue_in bs).list in
      sym
      (ap (λ j. handed_out j held (queue_in bs) out) z
      ∙ ap₂ (λ (a : List Waiting) (b : List ℕ). record { queue = with a (queue_in bs); out = b })
      (ap₂ (λ a b. drop a (take held L) ++ drop b L) zz e ∙ take-append-drop held L) (buffer_none out))

  pub hand_parts :
      (N' : Queue) (out' : List ℕ) → out' ≡ buffer (numbers (take k (queue_in bs).list)) out → N' ≡ shifted k held 0 (queue_in bs) →
      ◌≡◌ {A = Handed} (record { queue = N'; out = out' }) (handed_out k held (queue_in bs) out)
  unfolding handed_out
  hand_parts N' out' eo en = ap₂ (λ (a : Queue) (b : List ℕ). record { queue = a; out = b }) en eo

-- an open's end

module _ (go : Going) (held number level : ℕ) (bs out : List ℕ) where
  pub join_all :
      (out₁ out₂ : List ℕ) → go.all ≡ true → go.went ≤ held_limit → 4 * go.went + 4 ≤ length out →
      out₁ ≡ buffer (numbers (take go.went (queue_in bs).list)) out → out₂ ≡ sets out₁ (4 * go.went) (node_bytes number) →
      ◌≡◌ {A = Joined} (record { held = 0; queue = queue_in bs; out = out₂ }) (joined go held number level (queue_in bs) out)
  unfolding joined
  join_all out₁ out₂ a h room e₁ e₂ =
      let ns : List ℕ = numbers (take go.went (queue_in bs).list) in
      let k : length ns ≡ go.went = numbers_length bs go.went h in
      when_yes go.all _ _ _ a
      (ap (λ (o : List ℕ). record { held = 0; queue = queue_in bs; out = o })
      (e₂ ∙ ap₂ (λ o j. sets o (4 * j) (node_bytes number)) e₁ (sym k) ∙ buffer_snoc ns number out (omega arith)))

  module _ (h : Handed) (not-all : go.all ≡ false) (handed : h ≡ handed_out go.went held (queue_in bs) out) where
    pub join_alive :
        (N' : Queue) → go.joins ≡ true → N' ≡ wrote_in (held - go.went) number level 0 h.queue →
        ◌≡◌ {A = Joined} (record { held = held - go.went + 1; queue = N'; out = h.out }) (joined go held number level (queue_in bs) out)
    unfolding joined
    join_alive N' j e =
        when_no go.all _ _ _ not-all
        (when_yes go.joins _ _ _ j (ap (λ (x : Queue). record { held = held - go.went + 1; queue = x; out = h.out }) e)
        ∙ ap (joined_to go.joins (held - go.went) number level) handed)

    pub join_dead :
        go.joins ≡ false →
        ◌≡◌ {A = Joined} (record { held = held - go.went; queue = h.queue; out = h.out }) (joined go held number level (queue_in bs) out)
    unfolding joined
    join_dead j =
        when_no go.all _ _ _ not-all (when_no go.joins _ _ _ j refl ∙ ap (joined_to go.joins (held - go.went) number level) handed)
