-- Meeting a predicate step, as computed, is meeting it with explicit children and descendants.
--
--   meets_of q v e                  the steps that the element e meets, as computed
--   met_sound                      what is met in a content is met by an explicit child or descendant
--   meets_sound, meets_complete    from the computed test to the explicit fact, and back
--   meets_explicit                 THE THEOREM for predicates: the two are the same
--
-- Assumes nothing, of the query neither.
use Rattle.std.specs.Prelude.{ℕ, ◌↔◌, ◌⊎◌, Bool, true, false, not, ◌&&◌, ◌||◌}
use Rattle.std.proofs.Common.{inl, inr}
use Rattle.std.proofs.Math.Dec.{T}
use Rattle.meaning.specs.Logic.{and_l, and_r, and_i, or_l, or_r, or_case}
use Rattle.meaning.specs.Name.{passes}
use Rattle.meaning.specs.Query.{Axis, child, descendant, Step, Query, At, Steps, hangs, goes_deep}
use Rattle.meaning.proofs.Query.Laws.{all_intro, all_elim}
use Rattle.meaning.specs.Document.{Node, Row, nil, el, Doc, done, within}
use Rattle.meaning.specs.Selection.{Reading, granted, named, meets, join, empty, lift, met_row, met}
use Rattle.meaning.specs.Explicit.{Element, closed_after, open_after, Child, closed_here, closed_before}
use Rattle.meaning.specs.Explicit.{open_here, open_before, OnAxis, near, deep, asked, Meets, meeting}

abbrev pub meets_of : Query → Reading → Element → Steps
meets_of q v e = meets q (e.is_open && granted v) e.node (met q v e.content)

-- what stands in the content of a child stands in the whole, if the axis goes deep
pub stands_below :
    (a : Axis) {d : Doc} {b : ℕ} {e e' : Element} → T (goes_deep a) → Child d b e → OnAxis a e.content e.number e' → OnAxis a d b e'
unfolding goes_deep
stands_below child t c s = absurd t
stands_below descendant t c s = deep c s

-- an element of the earlier siblings stands in the whole content
pub record Keeps (p : Row) (d : Doc) : Type 0 where
  pub keep : {b : ℕ} {e : Element} → Child (done p) b e → Child d b e

pub stands_keep : {p : Row} {d : Doc} {a : Axis} {b : ℕ} {e : Element} → Keeps p d → OnAxis a (done p) b e → OnAxis a d b e
stands_keep k (near c) = near (k.keep c)
stands_keep k (deep c r) = deep (k.keep c) r

pub keeps_el : (p : Row) (x : Node) (k : Row) → Keeps p (done (el p x k))
keeps_el p x k = record { keep = λ c. closed_before c }

pub keeps_within : (p : Row) (x : Node) (d : Doc) → Keeps p (within p x d)
keeps_within p x d = record { keep = λ c. open_before c }

-- predicates: from the test to explicit elements
module _ (q : Query) (v : Reading) where
  pub record Witness (d : Doc) (b : ℕ) (t : Step) (i : ℕ) : Type 0 where
    pub element : Element
    pub stands : OnAxis t.axis d b element
    pub meets : Meets q v element t i

  abbrev pub Sound : Doc → Type 0
  Sound d = (b : ℕ) (t : Step) (i : ℕ) → At q 1 t i → T (met q v d t i) → Witness d b t i

  asked_met : (g a b : Bool) → T (not g) → T (not a || (g || b)) → T a → T b
  asked_met true a b n t u = absurd n
  asked_met false true b n t u = t
  asked_met false false b n t u = absurd u

  pub meets_sound : (e : Element) → Sound e.content → (st : Step) (s : ℕ) → T (meets_of q v e st s) → Meets q v e st s
  unfolding meets named asked
  meets_sound e f st s t =
      meeting (and_l (passes st.name e.node.name) _ t)
      (λ u i a h k. (W u i a h k).element) (λ u i a h k. (W u i a h k).stands) (λ u i a h k. (W u i a h k).meets)
    where
      W : (u : Step) (i : ℕ) → At q 1 u i → T (hangs u s) → T (asked v e) → Witness e.content e.number u i
      W u i a h k =
          f e.number u i a
          (asked_met (e.is_open && granted v) (hangs u s) _ k (all_elim _ (and_r (passes st.name e.node.name) _ t) a) h)

  -- a content whose elements are those of the row p and the element e
  sound_after :
      (p : Row) (e : Element) (b : ℕ) (d : Doc) → Keeps p d → Child d b e → Sound (done p) → Sound e.content →
      (t : Step) (i : ℕ) → At q 1 t i → T (join (met_row q p) (lift (meets_of q v e) (met q v e.content)) t i) → Witness d b t i
  unfolding join lift met
  sound_after p e b d k c f g t i a u = go (or_case (met_row q p t i) _ u)
    where
      deeper : T (meets_of q v e t i) ⊎ T (goes_deep t.axis && met q v e.content t i) → Witness d b t i
      deeper (inl m) = record { element = e; stands = near c; meets = meets_sound e g t i m }
      deeper (inr m) =
          let w = g e.number t i a (and_r (goes_deep t.axis) _ m) in
          record { element = w.element; stands = stands_below t.axis (and_l (goes_deep t.axis) _ m) c w.stands; meets = w.meets }

      go : T (met_row q p t i) ⊎ T (lift (meets_of q v e) (met q v e.content) t i) → Witness d b t i
      go (inl m) = let w = f b t i a m in record { element = w.element; stands = stands_keep k w.stands; meets = w.meets }
      go (inr m) = deeper (or_case (meets_of q v e t i) _ m)

  row_sound : (f : Row) → Sound (done f)
  unfolding met met_row empty
  row_sound nil b t i a u = absurd u
  row_sound (el p x k) b t i a u =
      sound_after p (closed_after b p x k) b (done (el p x k)) (keeps_el p x k) closed_here (row_sound p) (row_sound k) t i a u

  pub met_sound : (d : Doc) → Sound d
  unfolding met
  met_sound (done f) b t i a u = row_sound f b t i a u
  met_sound (within p x d) b t i a u =
      sound_after p (open_after b p x d) b (within p x d) (keeps_within p x d) open_here (row_sound p) (met_sound d) t i a u

  -- and back
  child_met :
      {d : Doc} {b : ℕ} {e : Element} (t : Step) (i : ℕ) → Child d b e → T (lift (meets_of q v e) (met q v e.content) t i) → T (met q v d t i)
  unfolding met met_row join
  child_met t i (closed_here {p}) u = or_r (met_row q p t i) _ u
  child_met t i (closed_before {p} c) u = or_l (met_row q p t i) _ (child_met t i c u)
  child_met t i (open_here {p}) u = or_r (met_row q p t i) _ u
  child_met t i (open_before {p} c) u = or_l (met_row q p t i) _ (child_met t i c u)

  lift_own : (M K : Steps) (t : Step) (i : ℕ) → T (M t i) → T (lift M K t i)
  unfolding lift
  lift_own M K t i u = or_l (M t i) _ u

  lift_deep : (M K : Steps) (t : Step) (i : ℕ) → T (goes_deep t.axis) → T (K t i) → T (lift M K t i)
  unfolding lift
  lift_deep M K t i g u = or_r (M t i) _ (and_i (goes_deep t.axis) _ g u)

  stands_met :
      {a : Axis} {d : Doc} {b : ℕ} {e : Element} (t : Step) (i : ℕ) → (T (goes_deep a) → T (goes_deep t.axis)) →
      OnAxis a d b e → T (meets_of q v e t i) → T (met q v d t i)
  unfolding goes_deep
  stands_met t i g (near {e} c) u = child_met t i c (lift_own _ (met q v e.content) t i u)
  stands_met t i g (deep {e} c s) u = child_met t i c (lift_deep (meets_of q v e) _ t i (g tt) (stands_met t i g s u))

  granted_or : (g a b : Bool) → (T a → T (not g) → T b) → T (not a || (g || b))
  granted_or g false b f = tt
  granted_or true true b f = tt
  granted_or false true b f = f tt tt

  pub meets_complete : {e : Element} {st : Step} {s : ℕ} → Meets q v e st s → T (meets_of q v e st s)
  unfolding meets named asked
  meets_complete (meeting {e} {st} {s} n w near' m) =
      and_i (passes st.name e.node.name) _ n
      (all_intro q 1 _ (λ u i a.
      granted_or (e.is_open && granted v) (hangs u s) _
      (λ h k. stands_met u i (λ g. g) (near' u i a h k) (meets_complete (m u i a h k)))))

-- "meets", explicitly
pub meets_explicit : (q : Query) (v : Reading) (e : Element) (st : Step) (s : ℕ) → T (meets_of q v e st s) ↔ Meets q v e st s
meets_explicit q v e st s = (meets_sound q v e (met_sound q v e.content) st s, meets_complete q v)
