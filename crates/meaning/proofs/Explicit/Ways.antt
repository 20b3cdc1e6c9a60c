-- Selection, as computed, is document 01's sentence with explicit nodes.
--
--   Marked bs i n          the test for node n passes, in a list of tests whose first is for node i
--   way_marked             the end of a way is marked;  marked_way: a marked node is the end of a way
--   selected_explicit      THE THEOREM: selected q v d n exactly if Selected q v d n
--
-- Assumes of the query `T (admits q)`: the query rules.
use Prim.Native.Nat.{ℕ, zero, suc, ◌+◌, ◌≤◌}
use Rattle.std.proofs.Common.{add-zero, add-suc, suc-add, arith, inl, inr, sym, ap, ◌∙◌}
use Rattle.std.proofs.Math.Nat.{zero-add}
use Rattle.std.specs.Prelude.{◌↔◌, ◌⊎◌, ◌≡◌, Bool, false, ◌&&◌, eqb, length, get_or}
use Rattle.std.proofs.Math.Path.{refl, subst}
use mathlib.Core.List.{List, [], ◌∷◌, ◌++◌}
use Rattle.std.proofs.Math.Dec.{T, eqb→eq, eqb_refl}
use Rattle.meaning.specs.Logic.{and_l, and_r, and_i, or_l, or_r, or_case}
use Rattle.meaning.specs.Query.{Axis, Step, Query, At, Steps, goes_deep, Numbered, last_of, last_main, admits}
use Rattle.meaning.proofs.Query.Laws.{FoundStep, any_intro, any_elim, at_unique, at_least, Tail, whole, less, Chain, OnPath, path, path_chain}
use Rattle.meaning.proofs.Query.Laws.{first_parent, tail_on, tail_parent, tail_last, tail_first, Starts, starts, path_some, starts_last}
use Rattle.meaning.specs.Document.{Row, nil, el, Doc, done, within, count_row}
use Rattle.meaning.specs.Selection.{Reading, met, Ready, given, turn, start, marks_row, marks, selections, selected}
use Rattle.meaning.proofs.Selection.Laws.{length_marks_row}
use Rattle.meaning.specs.Explicit.{Element, closed_after, open_after, Child, closed_here, closed_before}
use Rattle.meaning.specs.Explicit.{open_here, open_before, OnAxis, near, deep, Way, arrived, next, Selected}
use Rattle.meaning.proofs.Explicit.Predicates.{meets_of, stands_below, Keeps, stands_keep, keeps_el, keeps_within, met_sound, meets_sound, meets_complete}

-- the tests of a list, by the numbers of their nodes
pub data Marked : List Bool → ℕ → ℕ → Type 0 where
  mark_here : {b : Bool} {bs : List Bool} {i : ℕ} → T b → Marked (b ∷ bs) i i
  mark_there : {b : Bool} {bs : List Bool} {i n : ℕ} → Marked bs (suc i) n → Marked (b ∷ bs) i n

marked_left : {as' : List Bool} {i n : ℕ} (bs : List Bool) → Marked as' i n → Marked (as' ++ bs) i n
marked_left bs (mark_here t) = mark_here t
marked_left bs (mark_there m) = mark_there (marked_left bs m)

marked_right : (as' : List Bool) {bs : List Bool} (i n : ℕ) → Marked bs (i + length as') n → Marked (as' ++ bs) i n
marked_right [] {bs} i n m = subst (λ k. Marked bs k n) (add-zero i) m
marked_right (a ∷ as') {bs} i n m =
    mark_there (marked_right as' (suc i) n (subst (λ k. Marked bs k n) (add-suc i (length as') ∙ sym (suc-add i (length as'))) m))

marked_case : (as' : List Bool) {bs : List Bool} (i n : ℕ) → Marked (as' ++ bs) i n → Marked as' i n ⊎ Marked bs (i + length as') n
marked_case [] {bs} i n m = inr (subst (λ k. Marked bs k n) (sym (add-zero i)) m)
marked_case (a ∷ as') i n (mark_here t) = inl (mark_here t)
marked_case (a ∷ as') {bs} i n (mark_there m) = go (marked_case as' (suc i) n m)
  where
    go : Marked as' (suc i) n ⊎ Marked bs (suc i + length as') n → Marked (a ∷ as') i n ⊎ Marked bs (i + suc (length as')) n
    go (inl u) = inl (mark_there u)
    go (inr u) = inr (subst (λ k. Marked bs k n) (suc-add i (length as') ∙ sym (add-suc i (length as'))) u)

pub marked_at : (bs : List Bool) (i k : ℕ) → T (get_or bs k false) → Marked bs i (i + k)
marked_at [] i k t = absurd t
marked_at (b ∷ bs) i zero t = subst (Marked (b ∷ bs) i) (sym (add-zero i)) (mark_here t)
marked_at (b ∷ bs) i (suc k) t = subst (Marked (b ∷ bs) i) (suc-add i k ∙ sym (add-suc i k)) (mark_there (marked_at bs (suc i) k t))

pub at_marked : {bs : List Bool} {i n : ℕ} → Marked bs i n → (k : ℕ) × (n ≡ i + k) × T (get_or bs k false)
at_marked (mark_here {i} t) = (0, sym (add-zero i), t)
at_marked (mark_there {i} m) = let r = at_marked m in (suc r.0, r.1 ∙ suc-add i r.0 ∙ sym (add-suc i r.0), r.2)

-- the main path: ps is all of it, or a step x of it stands before ps
abbrev WholeOrAfter : Query → List Numbered → Type 0
WholeOrAfter q ps = (path q ≡ ps) ⊎ ((x : Numbered) × Tail (x ∷ ps) (path q))

module _ (q : Query) (v : Reading) where
  -- the tests for an element and its content, where r is whose turn it is around it
  abbrev own : Element → Ready → List Bool
  own e r = (turn q (meets_of q v e) r).end ∷ marks q v e.content (turn q (meets_of q v e) r)

  -- step l is given to e, where r is whose turn it is around it
  abbrev given_to : Element → Ready → ℕ → Bool
  given_to e r l = given q (meets_of q v e) r.steps l

  after : (f : Row) (r : Ready) (b n : ℕ) (bs : List Bool) → Marked bs (suc (b + count_row f)) n → Marked (marks_row q f r ++ bs) (suc b) n
  after f r b n bs m =
      marked_right (marks_row q f r) (suc b) n
      (subst (λ k. Marked bs k n) (sym (suc-add b (length (marks_row q f r)) ∙ ap (λ c. suc (b + c)) (length_marks_row q f r))) m)

  child_marked : {d : Doc} {b : ℕ} {e : Element} (r : Ready) (n : ℕ) → Child d b e → Marked (own e r) e.number n → Marked (marks q v d r) (suc b) n
  unfolding marks marks_row met
  child_marked r n (closed_here {p} {k} {x} {b}) m = after p r b n _ m
  child_marked r n (closed_before c) m = marked_left _ (child_marked r n c m)
  child_marked r n (open_here {p} {x} {d} {b}) m = after p r b n _ m
  child_marked r n (open_before c) m = marked_left _ (child_marked r n c m)

  -- it is the turn of the first of ps, or ps is done
  abbrev Turn : Ready → List Numbered → Type 0
  Turn r [] = T r.end
  Turn r (p ∷ ps) = T (r.steps p.step p.number)

  given_intro : (M r : Steps) {st : Step} {i : ℕ} → At q 1 st i → T st.main → T (M st i) → T (r st i) → T (given q M r i)
  unfolding given
  given_intro M r {st} {i} a m t u =
      any_intro _ a (and_i (eqb i i) _ (eqb_refl i) (and_i st.main _ m (and_i (M st i) (r st i) t u)))

  -- a step of the query, found again by its number
  same_step : (h : Steps) {st st' : Step} {i j : ℕ} → At q 1 st i → At q 1 st' j → i ≡ j → T (h st' j) → T (h st i)
  same_step h {st} {st'} {i} {j} a b e t =
      subst (λ s. T (h s i)) (sym (at_unique a (subst (At q 1 st') (sym e) b))) (subst (λ k. T (h st' k)) (sym e) t)

  module _ (ok : T (admits q)) where
    chain : Chain q 1 0 (path q)
    chain = path_chain q ok

    turn_next :
        (M : Steps) (r : Ready) {p : Numbered} (ps : List Numbered) → Tail (p ∷ ps) (path q) →
        T (M p.step p.number) → T (r.steps p.step p.number) → Turn (turn q M r) ps
    unfolding turn last_main last_of
    turn_next M r {p} [] t m u =
        subst (λ l. T (given q M r.steps l)) (sym (tail_last 0 t)) (given_intro M r.steps on.at on.main m u)
      where
        on : OnPath q 1 p
        on = tail_on chain t
    turn_next M r {p} (p' ∷ ps) t m u =
        or_l (p'.step.main && given q M r.steps p'.step.parent) _
        (and_i p'.step.main _ (tail_on chain (less t)).main
        (subst (λ l. T (given q M r.steps l)) (sym (tail_parent chain t)) (given_intro M r.steps on.at on.main m u)))
      where
        on : OnPath q 1 p
        on = tail_on chain t

    turn_stays : (M : Steps) (r : Ready) (st : Step) (i : ℕ) → T (goes_deep st.axis) → T (r.steps st i) → T ((turn q M r).steps st i)
    unfolding turn
    turn_stays M r st i g u =
        or_r (st.main && given q M r.steps st.parent) _ (and_i (goes_deep st.axis) _ g u)

    stands_marked :
        {a : Axis} {d : Doc} {b : ℕ} {e : Element} (st : Step) (i n : ℕ) → (T (goes_deep a) → T (goes_deep st.axis)) → (r : Ready) →
        OnAxis a d b e → T (r.steps st i) → ((r' : Ready) → T (r'.steps st i) → Marked (own e r') e.number n) →
        Marked (marks q v d r) (suc b) n
    unfolding goes_deep
    stands_marked st i n g r (near c) u k = child_marked r n c (k r u)
    stands_marked st i n g r (deep {e} c s) u k =
        child_marked r n c (mark_there (stands_marked st i n g _ s (turn_stays (meets_of q v e) r st i (g tt) u) k))

    pub way_marked :
        {d : Doc} {b n : ℕ} {ps : List Numbered} (r : Ready) → Tail ps (path q) → Turn r ps → Way q v d b ps n →
        Marked (r.end ∷ marks q v d r) b n
    way_marked r t u arrived = mark_here u
    way_marked {n} r t u (next {e} {p} {ps} s m w) =
        mark_there
        (stands_marked p.step p.number n (λ g. g) r s u
        (λ r' u'. way_marked (turn q (meets_of q v e) r') (less t) (turn_next _ r' ps t (meets_complete q v m) u') w))

    -- and back: a marked node is the end of a way
    pub record Arrives (r : Ready) (d : Doc) (b n : ℕ) : Type 0 where
      pub first : Numbered
      pub rest : List Numbered
      pub tail : Tail (first ∷ rest) (path q)
      pub ready : T (r.steps first.step first.number)
      pub way : Way q v d b (first ∷ rest) n

    -- a given step of the path, by its number, met by a child of the content
    arrive :
        {d : Doc} {b n : ℕ} {e : Element} {p : Numbered} {ps : List Numbered} (r : Ready) → Child d b e → Tail (p ∷ ps) (path q) →
        (g : FoundStep q 1 (λ st i. eqb i p.number && (st.main && (meets_of q v e st i && r.steps st i)))) →
        Way q v e.content e.number ps n → Arrives r d b n
    arrive {e} {p} {ps} r c t g w =
        record {
          first = p;
          rest = ps;
          tail = t;
          ready = same_step r.steps on g.at number (and_r (meets_of q v e g.step g.number) _ both);
          way = next (near c)
              (meets_sound q v e (met_sound q v e.content) p.step p.number
              (same_step (meets_of q v e) on g.at number (and_l (meets_of q v e g.step g.number) _ both))) w;
        }
      where
        on : At q 1 p.step p.number
        on = (tail_on chain t).at

        number : p.number ≡ g.number
        number = sym (eqb→eq g.number p.number (and_l (eqb g.number p.number) _ g.holds))

        both : T (meets_of q v e g.step g.number && r.steps g.step g.number)
        both = and_r g.step.main _ (and_r (eqb g.number p.number) _ g.holds)

    given_elim : (M r : Steps) (l : ℕ) → T (given q M r l) → FoundStep q 1 (λ st i. eqb i l && (st.main && (M st i && r st i)))
    unfolding given
    given_elim M r l t = any_elim q 1 _ t

    not_zero : (M r : Steps) → T (given q M r 0) → ⊥
    not_zero M r t =
        let g = given_elim M r 0 t in
        let h : 1 ≤ g.number = at_least g.at in
        let e : g.number ≡ 0 = eqb→eq g.number 0 (and_l (eqb g.number 0) _ g.holds) in
        omega arith

    -- the last step, given to a child of the content
    arrive_last : {d : Doc} {b : ℕ} {e : Element} (r : Ready) → Child d b e → T (turn q (meets_of q v e) r).end → Arrives r d b e.number
    unfolding turn last_main last_of
    arrive_last {e} r c t =
        let l = starts_last (path_some q ok) in
        let here : T (given_to e r l.0.number) = subst (λ k. T (given_to e r k)) (tail_last 0 l.1) t in
        arrive r c l.1 (given_elim (meets_of q v e) r.steps l.0.number here) arrived

    -- an earlier step, given to a child of the content; or the turn has stayed
    arrive_through :
        {d : Doc} {b n : ℕ} {e : Element} (r : Ready) → Child d b e →
        Arrives (turn q (meets_of q v e) r) e.content e.number n → Arrives r d b n
    unfolding turn
    arrive_through {d} {b} {n} {e} r c a = go (or_case (a.first.step.main && given_to e r a.first.step.parent) _ a.ready)
      where
        before : T (given_to e r a.first.step.parent) → WholeOrAfter q (a.first ∷ a.rest) → Arrives r d b n
        before t (inl whole') = absurd (not_zero (meets_of q v e) r.steps (subst (λ k. T (given_to e r k)) (first_parent chain whole') t))
        before t (inr x) =
            let here : T (given_to e r x.0.number) = subst (λ k. T (given_to e r k)) (tail_parent chain x.1) t in
            arrive r c x.1 (given_elim (meets_of q v e) r.steps x.0.number here) a.way

        stayed :
            Way q v e.content e.number (a.first ∷ a.rest) n →
            T (goes_deep a.first.step.axis) → T (r.steps a.first.step a.first.number) → Arrives r d b n
        stayed (next s m w) g u =
            record { first = a.first; rest = a.rest; tail = a.tail; ready = u; way = next (stands_below a.first.step.axis g c s) m w }

        go :
            T (a.first.step.main && given_to e r a.first.step.parent)
            ⊎ T (goes_deep a.first.step.axis && r.steps a.first.step a.first.number) →
            Arrives r d b n
        go (inl t) = before (and_r a.first.step.main _ t) (tail_first a.tail)
        go (inr t) = stayed a.way (and_l (goes_deep a.first.step.axis) _ t) (and_r (goes_deep a.first.step.axis) _ t)

    -- an element of the earlier siblings, in the whole content
    arrive_before : {p : Row} {d : Doc} {b n : ℕ} (r : Ready) → Keeps p d → Arrives r (done p) b n → Arrives r d b n
    arrive_before {p} {d} {b} {n} r k a = record { first = a.first; rest = a.rest; tail = a.tail; ready = a.ready; way = go a.way }
      where
        go : Way q v (done p) b (a.first ∷ a.rest) n → Way q v d b (a.first ∷ a.rest) n
        go (next s m w) = next (stands_keep k s) m w

    abbrev Arriving : Doc → Type 0
    Arriving d = (r : Ready) (b n : ℕ) → Marked (marks q v d r) (suc b) n → Arrives r d b n

    -- a content whose elements are those of the row p and the element e
    arrive_after :
        (p : Row) (d : Doc) (b n : ℕ) (e : Element) (r : Ready) → e.number ≡ suc (b + count_row p) → Keeps p d → Child d b e →
        Arriving (done p) → Arriving e.content → Marked (marks_row q p r ++ own e r) (suc b) n → Arrives r d b n
    unfolding marks
    arrive_after p d b n e r num k c f g m = go (marked_case (marks_row q p r) (suc b) n m)
      where
        R : Ready
        R = turn q (meets_of q v e) r

        here : suc b + length (marks_row q p r) ≡ e.number
        here = suc-add b (length (marks_row q p r)) ∙ ap (λ l. suc (b + l)) (length_marks_row q p r) ∙ sym num

        inner : {i n' : ℕ} → i ≡ e.number → Marked (own e r) i n' → Arrives r d b n'
        inner num' (mark_here t) = subst (Arrives r d b) (sym num') (arrive_last r c t)
        inner {n'} num' (mark_there u) = arrive_through r c (g R e.number n' (subst (λ i. Marked (marks q v e.content R) (suc i) n') num' u))

        go : Marked (marks_row q p r) (suc b) n ⊎ Marked (own e r) (suc b + length (marks_row q p r)) n → Arrives r d b n
        go (inl u) = arrive_before r k (f r b n u)
        go (inr u) = inner here u

    row_arriving : (f : Row) → Arriving (done f)
    unfolding marks marks_row met
    row_arriving nil r b n m = elim m [ ]
    row_arriving (el p x k) r b n m =
        arrive_after p (done (el p x k)) b n (closed_after b p x k) r refl (keeps_el p x k) closed_here (row_arriving p) (row_arriving k) m

    marked_way : (d : Doc) → Arriving d
    unfolding marks
    marked_way (done f) r b n m = row_arriving f r b n m
    marked_way (within p x d) r b n m =
        arrive_after p (within p x d) b n (open_after b p x d) r refl (keeps_within p x d) open_here (row_arriving p) (marked_way d) m

add_one' : (k : ℕ) → 1 + k ≡ suc k
add_one' k = omega arith

start_turn : (q : Query) (v : Reading) {ps : List Numbered} → Starts q ps → Turn q v start ps
unfolding start
start_turn q v (starts {p} o e) = and_i p.step.main _ o.main (rw e (eqb_refl 0))

-- THE THEOREM
module _ (q : Query) (ok : T (admits q)) (v : Reading) (d : Doc) where
  to_way : (n : ℕ) → T (selected q v d n) → Selected q v d n
  unfolding selected selections start
  to_way zero t = absurd t
  to_way (suc k) t = go (marked_way q v ok d start 0 (1 + k) (marked_at (marks q v d start) 1 k t))
    where
      go : Arrives q v ok start d 0 (1 + k) → Way q v d 0 (path q) (suc k)
      go a = subst (Way q v d 0 (path q)) (add_one' k) (first (tail_first a.tail) a.way)
        where
          hangs_on_0 : a.first.step.parent ≡ 0
          hangs_on_0 = eqb→eq a.first.step.parent 0 (and_r a.first.step.main _ a.ready)

          first : WholeOrAfter q (a.first ∷ a.rest) → Way q v d 0 (a.first ∷ a.rest) (1 + k) → Way q v d 0 (path q) (1 + k)
          first (inl e) w = subst (λ ps. Way q v d 0 ps (1 + k)) (sym e) w
          first (inr x) w =
              let h : 1 ≤ x.0.number = at_least (tail_on (path_chain q ok) x.1).at in
              let e : a.first.step.parent ≡ x.0.number = tail_parent (path_chain q ok) x.1 in
              absurd (omega (arith, hangs_on_0))

  from_way : (n : ℕ) → Selected q v d n → T (selected q v d n)
  unfolding selected selections start
  from_way n w =
      let m = at_marked (way_marked q v ok start whole (start_turn q v (path_some q ok)) w) in
      subst (λ k. T (get_or (false ∷ marks q v d start) k false)) (sym (m.1 ∙ zero-add m.0)) m.2

  pub selected_explicit : (n : ℕ) → T (selected q v d n) ↔ Selected q v d n
  selected_explicit n = (to_way n, from_way n)
