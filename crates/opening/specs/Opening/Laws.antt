-- What the calls of an opening give together, over what each call answered.
--
--   opening_told            which nodes go at an opening, and the open elements
--   over_not, over_dead     below the brim, or where the new node is ruled out, no place is wanting
--   over_told, over_copied  whether a place is wanting, by which nodes go; told on a copy of the open elements
--   has_place               where none is wanting the new node has one
--   copy_step, copy_done    one byte more is copied; all are
--
-- What is large is given explicitly. Assumes nothing.
use Prim.Native.Nat.{ℕ, ◌+◌, ◌-◌, ◌≤◌, ◌<◌}
use Rattle.std.proofs.Common.{add-one, arith, ◌∙◌, take-append-drop, take-suc, take-suc-set, take_all, length-take-le}
use Rattle.std.proofs.Math.Path.{◌≡◌, refl, sym, ap, ap₂}
use Rattle.std.proofs.Math.Bool.{Bool, false, not}
use Rattle.std.specs.Prelude.{true, ◌&&◌, get_or, set}
use mathlib.Core.List.{List, [], ◌∷◌, ◌++◌}
use Rattle.std.proofs.Math.Dec.{eqb, leb, ltb}
use Rattle.std.proofs.Math.ListN.{length, take, drop}
use Rattle.std.proofs.Math.Seq.{take_at}
use borrow.Author.Tests.{lt-leb, leb-false}
use Rattle.choice.specs.When.{when, when_true, when_false, and_when}
use Rattle.meaning.specs.Limits.{depth_limit, held_limit}
use Rattle.sets.specs.Set.{meet, without}
use Rattle.plan.specs.Plan.{Plan, named, last_given}
use Rattle.engine.specs.Quick.{Frame, Rise, rise, frames_after, sure_at, possible_at, Opening, opening, opening_from, judged, over, went_if}
use Rattle.engine.proofs.Quick.Snoc.{frames_after_length}
use Rattle.element.specs.Element.{Elements, elements_in}
use Rattle.element.specs.Element.Laws.{frames_length}
use Rattle.elements.specs.Elements as elements
use Rattle.elements.specs.Elements.{Risen, pushed_in}
use Rattle.elements.specs.Elements.Laws.{sure_front, possible_front}
use Rattle.node.specs.Node.{Queue, queue_in}
use Rattle.node.specs.Node.Laws.{nodes_length}
use Rattle.nodes.specs.declared.Going.{Going}
use Rattle.opening.specs.Opening.{used_in, going_of, Opened, opened_by, opening_in, all_go, no_place, over_in}

picked : (all joins b : Bool) → when all false (when joins b false) ≡ (not all && (joins && b))
unfolding when
picked true joins b = refl
picked false true b = refl
picked false false b = refl

module _ (P : Plan) (x depth held : ℕ) (bs ns : List ℕ) (deep : depth < depth_limit) (few : held ≤ held_limit) where
  abbrev E : Elements
  E = elements_in bs

  abbrev N : Queue
  N = queue_in ns

  abbrev fs : List Frame
  fs = take depth E.list

  fs_length : length fs ≡ depth
  fs_length = length-take-le depth E.list (omega (arith, frames_length bs))

  ws_length : length (take held N.list) ≡ held
  ws_length = length-take-le held N.list (omega (arith, nodes_length ns))

  abbrev anew : ℕ
  anew = without (meet (named P x) P.plain) P.main

  abbrev risen : Rise
  risen = rise P anew fs

  abbrev frames : List Frame
  frames = frames_after P x fs risen

  frames_after_lem : length frames ≡ depth + 1
  frames_after_lem = frames_after_length P x anew fs ∙ ap (λ n. n + 1) fs_length

  -- the opening, by its parts
  abbrev made : ℕ → Opening
  made went =
      record {
        frames = frames;
        went = went;
        all = eqb went (length (take held N.list)) && last_given (meet (named P x) P.plain) (sure_at P frames (length fs));
        joins = last_given (named P x) (possible_at P fs (length fs));
      }

  opening_is : opening P x (used_in depth held E N) ≡ made (went_if (ltb (length risen.kept) (length fs)) P frames (take held N.list))
  unfolding opening opening_from judged used_in
  opening_is = refl

  pub opening_told :
      (p around top went plain sure : ℕ) (joins certain all : Bool) (E₁ : Elements) → p ≡ named P x → around ≡ possible_at P E.list depth →
      joins ≡ last_given p around → ◌≡◌ {A = Risen} (record { top = top; elements = E₁ }) (pushed_in P x depth E) →
      went ≡ went_if (ltb top depth) P (take (depth + 1) E₁.list) (take held N.list) → plain ≡ P.plain → sure ≡ sure_at P E₁.list depth →
      certain ≡ last_given (meet p plain) sure → all ≡ all_go went held certain →
      ◌≡◌ {A = Opened} (record { going = record { went = went; all = all; joins = joins }; elements = E₁ }) (opening_in P x depth held E N)
  unfolding pushed_in all_go opening_in going_of
  opening_told p around top went plain sure joins certain all E₁ ep ea ej er ew el es ec eall =
      let rest : List Frame = drop (depth + 1) E.list in
      let W : ℕ = went_if (ltb (length risen.kept) (length fs)) P frames (take held N.list) in
      let C : Bool = last_given (meet (named P x) P.plain) (sure_at P frames (length fs)) in
      let t : top ≡ length risen.kept = ap (λ (y : Risen). y.top) er in
      let one : E₁ ≡ elements.with (frames ++ rest) E = ap (λ (y : Risen). y.elements) er in
      let took : take (depth + 1) E₁.list ≡ frames =
      ap (λ (X : Elements). take (depth + 1) X.list) one ∙ take_at frames rest (depth + 1) frames_after_lem in
      let w : went ≡ W = ew ∙ ap₂ (λ b g. went_if b P g (take held N.list)) (ap₂ ltb t (sym fs_length)) took in
      let s : sure ≡ sure_at P frames (length fs) =
      es ∙ ap (λ (X : Elements). sure_at P X.list depth) one ∙ sure_front P frames rest depth (omega (arith, frames_after_lem))
      ∙ ap (sure_at P frames) (sym fs_length) in
      let u : around ≡ possible_at P fs (length fs) =
      ea ∙ ap (λ l. possible_at P l depth) (sym (take-append-drop depth E.list))
      ∙ possible_front P fs (drop depth E.list) depth (omega (arith, fs_length))
      ∙ ap (possible_at P fs) (sym fs_length) in
      let c : certain ≡ C = ec ∙ ap₂ last_given (ap₂ meet ep el) s in
      let a : all ≡ (eqb W (length (take held N.list)) && C) =
      eall ∙ ap₂ (λ k b. when b (eqb k held) false) w c ∙ and_when C (eqb W held) ∙ ap (λ h. eqb W h && C) (sym ws_length) in
      let j : joins ≡ last_given (named P x) (possible_at P fs (length fs)) = ej ∙ ap₂ last_given ep u in
      three w a j one ∙ ap (opened_by depth E) (sym opening_is)
    where
      three :
          {k k' : ℕ} {b b' c c' : Bool} {X X' : Elements} → k ≡ k' → b ≡ b' → c ≡ c' → X ≡ X' →
          ◌≡◌ {A = Opened} (record { going = record { went = k; all = b; joins = c }; elements = X })
          (record { going = record { went = k'; all = b'; joins = c' }; elements = X' })
      three e₁ e₂ e₃ e₄ = λ i. record { going = record { went = e₁ i; all = e₂ i; joins = e₃ i }; elements = e₄ i }

  -- no place is wanting

  over_parts : (all joins b : Bool) → b ≡ false → (not all && (joins && b)) ≡ false
  over_parts true joins b e = refl
  over_parts false true b e = e
  over_parts false false b e = refl

  no_joins : (all joins b : Bool) → joins ≡ false → (not all && (joins && b)) ≡ false
  no_joins true joins b e = refl
  no_joins false joins b e = ap (λ j. j && b) e

  pub over_not : held < held_limit → false ≡ over_in P x depth held E N
  unfolding over_in over used_in
  over_not h =
      sym
      (over_parts (opening P x (used_in depth held E N)).all (opening P x (used_in depth held E N)).joins _
      (lt-leb held_limit (length (take held N.list) - (opening P x (used_in depth held E N)).went) (omega (arith, ws_length))))

  pub over_dead :
      (p around : ℕ) → p ≡ named P x → around ≡ possible_at P E.list depth → last_given p around ≡ false → false ≡ over_in P x depth held E N
  unfolding over_in over used_in
  over_dead p around ep ea dead =
      sym
      (no_joins (opening P x (used_in depth held E N)).all (opening P x (used_in depth held E N)).joins
      (leb held_limit (length (take held N.list) - (opening P x (used_in depth held E N)).went))
      (ap (λ (o : Opening). o.joins) opening_is
      ∙ sym
      (ap₂ last_given ep
      (ea ∙ ap (λ l. possible_at P l depth) (sym (take-append-drop depth E.list))
      ∙ possible_front P fs (drop depth E.list) depth (omega (arith, fs_length))
      ∙ ap (possible_at P fs) (sym fs_length)))
      ∙ dead))

  pub over_told :
      (go : Going) (E₁ : Elements) (r : Bool) → ◌≡◌ {A = Opened} (record { going = go; elements = E₁ }) (opening_in P x depth held E N) →
      r ≡ no_place go.all go.joins go.went held → r ≡ over_in P x depth held E N
  unfolding over_in over opening_in going_of used_in no_place
  over_told go E₁ r e er =
      let o : Opening = opening P x (used_in depth held E N) in
      let g : go ≡ going_of o = ap (λ (y : Opened). y.going) e in
      er
      ∙ ap (λ (y : Going). no_place y.all y.joins y.went held) g
      ∙ picked o.all o.joins (leb held_limit (held - o.went))
      ∙ ap (λ n. not o.all && (o.joins && leb held_limit (n - o.went))) (sym ws_length)

  -- where none is wanting
  pub has_place :
      (go : Going) (E₁ : Elements) (b : Bool) → ◌≡◌ {A = Opened} (record { going = go; elements = E₁ }) (opening_in P x depth held E N) →
      b ≡ over_in P x depth held E N → b ≡ false → go.all ≡ false → go.joins ≡ true → held < held_limit + go.went
  unfolding no_place
  has_place go E₁ b e eb f na j =
      let none : leb held_limit (held - go.went) ≡ false =
      sym (when_false go.all false _ na ∙ when_true go.joins (leb held_limit (held - go.went)) false j)
      ∙ over_told go E₁ (no_place go.all go.joins go.went held) e refl ∙ sym eb ∙ f in
      omega (arith, leb-false held_limit (held - go.went) none)

-- told on a copy
pub over_copied :
    (P : Plan) (x depth held : ℕ) (bs trial ns : List ℕ) → depth < depth_limit → held ≤ held_limit → trial ≡ bs → (go : Going) (E₁ : Elements) (r : Bool) →
    ◌≡◌ {A = Opened} (record { going = go; elements = E₁ }) (opening_in P x depth held (elements_in trial) (queue_in ns)) →
    r ≡ no_place go.all go.joins go.went held → r ≡ over_in P x depth held (elements_in bs) (queue_in ns)
over_copied P x depth held bs trial ns deep few c go E₁ r e er =
    over_told P x depth held trial ns deep few go E₁ r e er ∙ ap (λ b. over_in P x depth held (elements_in b) (queue_in ns)) c

-- a copy

module _ (xs ys : List ℕ) (same : length ys ≡ length xs) (i : ℕ) where
  pub copy_step : i < length xs → take i ys ≡ take i xs → take (i + 1) (set ys i (get_or xs i 0)) ≡ take (i + 1) xs
  copy_step h e =
      ap (λ k. take k (set ys i (get_or xs i 0))) (add-one i)
      ∙ take-suc-set ys i (get_or xs i 0) (omega arith)
      ∙ ap (λ l. l ++ (get_or xs i 0 ∷ [])) e
      ∙ sym (take-suc xs i 0 h)
      ∙ ap (λ k. take k xs) (sym (add-one i))

  pub copy_done : length xs ≤ i → take i ys ≡ take i xs → ys ≡ xs
  copy_done h e = sym (take_all i ys (omega arith)) ∙ e ∙ take_all i xs h
