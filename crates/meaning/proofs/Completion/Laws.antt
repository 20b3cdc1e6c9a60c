-- The events of `rest` lead to `complete`, and what the completed document selects.
--
--   rest_leads          rest w d, each event fitting, leads from d to the document `complete w d`
--   complete_finished   that document is finished
--   sure_complete       the sure reading is the selection of `complete nil d`: "close every open element now, and select"
--   possible_complete   what the open reading selects is selected by `complete w d`, if w serves every predicate step
--
-- Assumes nothing.
use Rattle.std.specs.Prelude.{ℕ, ◌≤◌, ◌≡◌, refl, Bool, true, false, not}
use Rattle.std.proofs.Common.{not-suc-le-zero, sym, ◌∙◌, subst}
use Rattle.std.proofs.Math.Path.{ap}
use mathlib.Core.List.{List, [], ◌∷◌, ◌++◌}
use Rattle.std.proofs.Math.Dec.{T, eqb_refl}
use Rattle.meaning.specs.Logic.{and_l, and_r, and_i, or_not, Imp, imp, Pre, p_cons, pre_more, both_pre, pre_append}
use Rattle.meaning.specs.Name.{is_name}
use Rattle.meaning.specs.Query.{Step, Query, At, Steps, hangs}
use Rattle.meaning.proofs.Query.Laws.{all_intro}
use Rattle.meaning.specs.Document.{Node, Row, nil, el, Doc, done, within, opened, closed, count_row, count, finished, ends_at}
use Rattle.meaning.specs.Selection.{sure-reading, open-reading, granted, named, meets, join, empty, lift}
use Rattle.meaning.specs.Selection.{met_row, met, Ready, turn, start, marks_row, marks, selections}
use Rattle.meaning.proofs.Selection.Laws.{Within, Readies, turn_mono, marks_row_mono, readies_same}
use Rattle.meaning.specs.Stream.{Event, opens, closes, fits, act, run, always}
use Rattle.meaning.proofs.Stream.Laws.{Leads, leads_none, leads_one, leads_append}
use Rattle.meaning.specs.Completion.{◌⊕◌, tags, named_row, complete, rest}

-- an event that may come inside an open element with content d, and closes nothing but what is in d
unfoldable inside : Event → Doc → Bool
inside (opens n) d = is_name n
inside (closes n) d = ends_at n d

act_in : (e : Event) (p : Row) (x : Node) (d : Doc) → T (inside e d) → act e (within p x d) ≡ within p x (act e d)
unfolding inside act opened closed ends_at
act_in (opens n) p x d t = refl
act_in (closes n) p x (done f) t = absurd t
act_in (closes n) p x (within p' x' d) t = refl

-- what is inside an open element is carried to the document around it
record Carries (ok : Event → Doc → Bool) : Type 0 where
  inner : (e : Event) (p : Row) (x : Node) (d : Doc) → T (inside e d) → T (ok e (within p x d))
  close : (n : ℕ) (d : Doc) → T (ends_at n d) → T (ok (closes n) d)

ends_in : (n : ℕ) (p : Row) (x : Node) (d : Doc) → T (ends_at n d) → T (ends_at n (within p x d))
unfolding ends_at
ends_in n p x (done f) t = absurd t
ends_in n p x (within p' x' d) t = t

carries_inside : Carries inside
unfolding inside
carries_inside = record { inner = go; close = λ n d t. t }
  where
    go : (e : Event) (p : Row) (x : Node) (d : Doc) → T (inside e d) → T (inside e (within p x d))
    go (opens n) p x d t = t
    go (closes n) p x d t = ends_in n p x d t

carries_fits : Carries fits
unfolding inside fits finished
carries_fits = record { inner = go; close = λ n d t. t }
  where
    go : (e : Event) (p : Row) (x : Node) (d : Doc) → T (inside e d) → T (fits e (within p x d))
    go (opens n) p x d t = and_i (is_name n) true t tt
    go (closes n) p x d t = ends_in n p x d t

ends_here : (p : Row) (x : Node) (k : Row) → T (ends_at x.name (within p x (done k)))
unfolding ends_at
ends_here p x k = eqb_refl x.name

module _ (ok : Event → Doc → Bool) (c : Carries ok) where
  leads_in : (es : List Event) (p : Row) (x : Node) (d d' : Doc) → Leads inside es d d' → Leads ok es (within p x d) (within p x d')
  unfolding always run
  leads_in [] p x d d' l = record { fit = tt; to = ap (within p x) l.to }
  leads_in (e ∷ es) p x d d' l =
      let h : T (inside e d) = and_l (inside e d) _ l.fit in
      let r : Leads ok es (within p x (act e d)) (within p x d') =
      leads_in es p x (act e d) d' (record { fit = and_r (inside e d) _ l.fit; to = l.to })
      in
      record {
        fit = and_i (ok e (within p x d)) _ (c.inner e p x d h) (subst (λ z. T (always ok es z)) (sym (act_in e p x d h)) r.fit);
        to = ap (run es) (act_in e p x d h) ∙ r.to;
      }

  leads_close : (p : Row) (x : Node) (k : Row) → Leads ok (closes x.name ∷ []) (within p x (done k)) (done (el p x k))
  unfolding act closed
  leads_close p x k = leads_one ok (closes x.name) (within p x (done k)) (c.close x.name _ (ends_here p x k))

nil_⊕ : (f : Row) → nil ⊕ f ≡ f
unfolding ◌⊕◌
nil_⊕ nil = refl
nil_⊕ (el p x k) = ap (λ r. el r x k) (nil_⊕ p)

leads_open : (p : Row) (x : Node) → T (is_name x.name) → Leads inside (opens x.name ∷ []) (done p) (within p x (done nil))
unfolding inside act opened
leads_open p x t = leads_one inside (opens x.name) (done p) t

leads_tags : (w : Row) → T (named_row w) → (f : Row) → Leads inside (tags w) (done f) (done (f ⊕ w))
unfolding tags ◌⊕◌ named_row inside
leads_tags nil t f = leads_none inside (done f)
leads_tags (el p x k) t f =
    leads_append inside (tags p) _ (leads_tags p (and_l (named_row p) _ t) f)
    (leads_append inside (opens x.name ∷ []) _ (leads_open (f ⊕ p) x (and_l (is_name x.name) _ (and_r (named_row p) _ t)))
    (leads_append inside (tags k) _
    (leads_in inside carries_inside (tags k) (f ⊕ p) x (done nil) (done k)
    (subst (λ r. Leads inside (tags k) (done nil) (done r)) (nil_⊕ k) (leads_tags k (and_r (is_name x.name) _ (and_r (named_row p) _ t)) nil)))
    (leads_close inside carries_inside (f ⊕ p) x k)))

rest_leads_by : (ok : Event → Doc → Bool) → Carries ok → (w : Row) → T (named_row w) → (d : Doc) → Leads ok (rest w d) d (done (complete w d))
unfolding rest complete
rest_leads_by ok c w t (done f) = leads_none ok (done f)
rest_leads_by ok c w t (within p x d) =
    leads_append ok (rest w d) _ (leads_in ok c (rest w d) p x d (done (complete w d)) (rest_leads_by inside carries_inside w t d))
    (leads_append ok (tags w) _ (leads_in ok c (tags w) p x (done (complete w d)) (done (complete w d ⊕ w)) (leads_tags w t (complete w d)))
    (leads_close ok c p x (complete w d ⊕ w)))

pub rest_leads : (w : Row) → T (named_row w) → (d : Doc) → Leads fits (rest w d) d (done (complete w d))
rest_leads = rest_leads_by fits carries_fits

pub complete_finished : (w : Row) (d : Doc) → 1 ≤ count d → T (finished (done (complete w d)))
unfolding complete finished count count_row
complete_finished w (done nil) h = absurd (not-suc-le-zero h)
complete_finished w (done (el p x k)) h = tt
complete_finished w (within p x d) h = tt

-- the sure reading
met_complete : (q : Query) (d : Doc) → met_row q (complete nil d) ≡ met q sure-reading d
unfolding complete met_row met granted ◌⊕◌
met_complete q (done f) = refl
met_complete q (within p x d) = ap (λ K. join (met_row q p) (lift (meets q false x K) K)) (met_complete q d)

marks_complete : (q : Query) (d : Doc) (r : Ready) → marks_row q (complete nil d) r ≡ marks q sure-reading d r
unfolding complete marks_row marks granted ◌⊕◌
marks_complete q (done f) r = refl
marks_complete q (within p x d) r =
    ap (λ K. marks_row q p r ++ ((turn q (meets q false x K) r).end ∷ marks_row q (complete nil d) (turn q (meets q false x K) r))) (met_complete q d)
    ∙ ap (λ ms. marks_row q p r ++ ((turn q (meets q false x (met q sure-reading d)) r).end ∷ ms)) (marks_complete q d _)

pub sure_complete : (q : Query) (d : Doc) → selections q sure-reading (done (complete nil d)) ≡ selections q sure-reading d
unfolding selections
sure_complete q d = unfold marks in marks_complete q d start

-- the open reading
abbrev pub Serves : Query → Row → Type 0
Serves q w = (t : Step) (i : ℕ) → At q 1 t i → T (not t.main) → T (met_row q w t i)

met_beside : (q : Query) (f w : Row) → Within (met_row q w) (met_row q (f ⊕ w))
unfolding ◌⊕◌ met_row join empty
met_beside q f nil st s = record { to = λ t. absurd t }
met_beside q f (el p x k) st s = imp.either _ _ _ _ (met_beside q f p st s) (imp.same _)

hangs_predicate : (t : Step) (s : ℕ) → T (hangs t s) → T (not t.main)
unfolding hangs
hangs_predicate t s h = and_l (not t.main) _ h

served : (q : Query) (w : Row) → Serves q w → (x : Node) (K : Steps) (f : Row) → Within (meets q true x K) (meets q false x (met_row q (f ⊕ w)))
unfolding meets
served q w sv x K f st s =
    record {
      to = λ t. and_i (named x st s) _ (and_l (named x st s) _ t)
          (all_intro q 1 _ (λ u i a. or_not (hangs u s) _ (λ h. (met_beside q f w u i).to (sv u i a (hangs_predicate u s h)))));
    }

pre_beside : (q : Query) (f w : Row) (r : Ready) {as' : List Bool} → Pre Imp as' (marks_row q f r) → Pre Imp as' (marks_row q (f ⊕ w) r)
unfolding ◌⊕◌ marks_row
pre_beside q f nil r m = m
pre_beside q f (el p x k) r m = pre_more _ (pre_beside q f p r m)

possible_complete_by :
    (q : Query) (w : Row) → Serves q w → (d : Doc) (r r' : Ready) → Readies Imp imp r r' →
    Pre Imp (marks q open-reading d r) (marks_row q (complete w d) r')
unfolding marks complete granted marks_row
possible_complete_by q w sv (done f) r r' g = both_pre (marks_row_mono Imp imp q f r r' g)
possible_complete_by q w sv (within p x d) r r' g =
    pre_append (marks_row_mono Imp imp q p r r' g) (p_cons G.end (pre_beside q (complete w d) w _ (possible_complete_by q w sv d _ _ G)))
  where
    G : Readies Imp imp (turn q (meets q true x (met q open-reading d)) r) (turn q (meets q false x (met_row q (complete w d ⊕ w))) r')
    G = turn_mono Imp imp q _ _ r r' (served q w sv x _ (complete w d)) g

pub possible_complete :
    (q : Query) (w : Row) → Serves q w → (d : Doc) → Pre Imp (selections q open-reading d) (selections q sure-reading (done (complete w d)))
unfolding selections
possible_complete q w sv d = unfold marks in possible_complete_by q w sv d start start (readies_same Imp imp start)
