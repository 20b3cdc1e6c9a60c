-- Lent bytes that stand for a document.
--
--   StandsIn q d n E N    the numbers n and the bytes E and N, as far as they are needed, stand for the query q and the document d
--   stands_lent           so do other bytes in which the records in use are the same: the rest is anything
--   stands_laid           records that stand for it still do when they are laid into bytes
--
-- Assumes nothing.
use Rattle.std.specs.Prelude.{ℕ, ◌*◌, ◌≤◌, ◌<◌, ◌≡◌, List, ◌++◌}
use Rattle.std.proofs.Math.Nat.{min-le_right}
use native.Mathlib.Omega.{arith}
use Rattle.std.proofs.Math.Path.{refl, ap, subst}
use Rattle.std.proofs.Common.{sym, ◌∙◌, length-take, take-take, get_or-take}
use Rattle.std.proofs.Math.ListN.{length, take}
use Rattle.std.proofs.Math.Seq.{take_at, length-take-le}
use Rattle.meaning.specs.Limits.{depth_limit, node_limit, element_record, waiting_record, elements_needed, nodes_needed}
use Rattle.meaning.proofs.Limits.Laws.{depth_is, held_is, element_record_is, waiting_record_is, elements_is, nodes_is}
use Rattle.meaning.specs.Query.{Query}
use Rattle.meaning.specs.Document.{Doc, count, depth}
use Rattle.plan.specs.Every.{Every}
use Rattle.engine.specs.Quick.{State}
use Rattle.engine.specs.Quick.Of.{quick_state}
use Rattle.words.specs.Records.{Shape, records_in, at, laid}
use Rattle.words.specs.Records.Laws.{Whole}
use Rattle.words.specs.Records.Used as used
use Rattle.element.specs.Element as element
use Rattle.element.specs.Element.{Elements, elements_in}
use Rattle.element.specs.Element.Laws as element-laws
use Rattle.node.specs.Node as node
use Rattle.node.specs.Node.{Queue, queue_in}
use Rattle.node.specs.Node.Laws as node_laws
use Rattle.numbers.specs.Numbers.{Numbers}
use Rattle.right.specs.Used.{state_in, Roomy, same_state}
use Rattle.right.specs.Small.{Named, every_at, frames_small, queue_small}
use Rattle.right.specs.Right.{Stands}

abbrev pub StandsIn : Query → Doc → Numbers → List ℕ → List ℕ → Type 0
StandsIn q d n E N = Stands q d n (elements_in (take elements_needed E)) (queue_in (take nodes_needed N))

-- a list that has so many at its start is as long

reaches : (m : ℕ) (xs : List ℕ) → length (take m xs) ≡ m → m ≤ length xs
reaches m xs e = subst (λ k. k ≤ length xs) (sym (length-take m xs) ∙ e) (min-le_right m (length xs))

-- the records in use are read from the bytes at the start alone

module _ {A : Type 0} (S : Shape A) (whole : Whole S) (needed d : ℕ) (bs cs : List ℕ) where
  abbrev m : ℕ
  m = 4 * (S.wide * d)

  used_part :
      d ≤ S.count → m ≤ needed → m ≤ length bs → take m bs ≡ take m cs →
      take d (records_in S (take needed bs)).list ≡ take d (records_in S (take needed cs)).list
  used_part few h long e =
      let both : take m (take needed bs) ≡ take m (take needed cs) = take-take m needed bs h ∙ e ∙ sym (take-take m needed cs h) in
      let longB : m ≤ length (take needed bs) = reaches m (take needed bs) (ap length (take-take m needed bs h) ∙ length-take-le m bs long) in
      let longC : m ≤ length (take needed cs) = reaches m (take needed cs) (ap length (sym both) ∙ length-take-le m (take needed bs) longB) in
      used.used_same S whole d (take needed bs) (take needed cs) few longB longC both

module _ (q : Query) (d : Doc) (n : Numbers) where
  -- states with the same records in use are the same
  stands_used :
      (E E₁ : Elements) (N N₁ : Queue) → Roomy E₁ N₁ → take n.depth E₁.list ≡ take n.depth E.list →
      take n.held N₁.list ≡ take n.held N.list → Stands q d n E N → Stands q d n E₁ N₁
  unfolding state_in
  stands_used E E₁ N N₁ room eE eN st = record { state = same_state eE eN refl refl refl ∙ st.state; roomy = room; deep = st.deep; few = st.few }

  roomy_in : (E N : List ℕ) → Roomy (elements_in E) (queue_in N)
  roomy_in E N = record { elements = element-laws.frames_length E; nodes = node_laws.nodes_length N }

  pub stands_lent :
      (E N E₁ N₁ : List ℕ) → elements_needed ≤ length E₁ → nodes_needed ≤ length N₁ →
      take (element_record * n.depth) E₁ ≡ take (element_record * n.depth) E → take (waiting_record * n.held) N₁ ≡ take (waiting_record * n.held) N →
      StandsIn q d n E N → StandsIn q d n E₁ N₁
  unfolding elements_in queue_in
  stands_lent E N E₁ N₁ longE longN eE eN st =
      let wideE : element_record * n.depth ≡ 4 * (16 * n.depth) = ap (◌* n.depth) element_record_is ∙ omega arith in
      let wideN : waiting_record * n.held ≡ 4 * (8 * n.held) = ap (◌* n.held) waiting_record_is ∙ omega arith in
      let fitE : 4 * (16 * n.depth) ≤ elements_needed = omega (arith, st.deep, depth_is, elements_is) in
      let fitN : 4 * (8 * n.held) ≤ nodes_needed = omega (arith, st.few, held_is, nodes_is) in
      stands_used _ _ _ _ (roomy_in (take elements_needed E₁) (take nodes_needed N₁))
      (used_part element.shape element-laws.whole elements_needed n.depth E₁ E st.deep fitE (omega arith)
      (subst (λ k. take k E₁ ≡ take k E) wideE eE))
      (used_part node.shape node_laws.whole nodes_needed n.held N₁ N st.few fitN (omega arith) (subst (λ k. take k N₁ ≡ take k N) wideN eN)) st

  module _ (E : Elements) (N : Queue) (st : Stands q d n E N) (few : length q ≤ 32) (named : Named d) (opened-few : count d ≤ node_limit)
      (deep : depth d ≤ depth_limit) where
    frame_at : (i : ℕ) → i < n.depth → (g : ℕ) → g < 6 → element.field_of g (at element.shape E i) < 4294967296
    unfolding state_in
    frame_at i h g l =
        let frames : take n.depth E.list ≡ (quick_state q d).frames = ap (λ (s : State). s.frames) st.state in
        let long : length (take n.depth E.list) ≡ n.depth = length-take-le n.depth E.list (omega (arith, st.deep, st.roomy.elements)) in
        subst (λ f. element.field_of g f < 4294967296) (get_or-take n.depth E.list i element.no_frame h)
        (every_at (subst (Every _) (sym frames) (frames_small q few d named)) element.no_frame i (omega arith) g)

    waiting_at : (i : ℕ) → i < n.held → (g : ℕ) → g < 3 → node.field_of g (at node.shape N i) < 4294967296
    unfolding state_in
    waiting_at i h g l =
        let queue : take n.held N.list ≡ (quick_state q d).queue = ap (λ (s : State). s.queue) st.state in
        let long : length (take n.held N.list) ≡ n.held = length-take-le n.held N.list (omega (arith, st.few, st.roomy.nodes)) in
        subst (λ f. node.field_of g f < 4294967296) (get_or-take n.held N.list i node.no_node h)
        (every_at (subst (Every _) (sym queue) (queue_small q few d opened-few deep)) node.no_node i (omega arith) g)

    pub stands_laid : (A B : List ℕ) → StandsIn q d n (laid element.shape E ++ A) (laid node.shape N ++ B)
    unfolding elements_in queue_in
    stands_laid A B =
        let eE : take elements_needed (laid element.shape E ++ A) ≡ laid element.shape E =
        take_at (laid element.shape E) A elements_needed (element-laws.elements_long E) in
        let eN : take nodes_needed (laid node.shape N ++ B) ≡ laid node.shape N = take_at (laid node.shape N) B nodes_needed (node_laws.nodes_long N) in
        stands_used E _ N _ (roomy_in (take elements_needed (laid element.shape E ++ A)) (take nodes_needed (laid node.shape N ++ B)))
        (ap (λ bs. take n.depth (elements_in bs).list) eE
        ∙ used.read_back element.shape element-laws.whole E st.roomy.elements (λ f. refl) n.depth st.deep frame_at)
        (ap (λ bs. take n.held (queue_in bs).list) eN
        ∙ used.read_back node.shape node_laws.whole N st.roomy.nodes (λ w. refl) n.held st.few waiting_at) st
