-- How the readings change with an event, and that the sure one lies within the open one.
--
--   Sets R A B, Readies R r r'      R at each step of two sets, of two Readys
--   meets_mono, lift_mono, join_mono, turn_mono, marks_row_mono    what is computed grows with what it is computed from
--   marks_readings                  two readings of one document
--   marks_open, marks_close         a reading before and after an event
--   length_selections               there is a test for each node
--   sure_open, sure_close, possible_open, possible_close, sure_possible    the facts that certainty and hand-out rest on
--
-- All monotony is proved once, over any relation that && and || keep: it then serves sure/sure, open/open and sure/open.
-- Assumes nothing. Examples is named so that it is checked first: a wrong definition then fails on a small document.
use Rattle.std.specs.Prelude.{ℕ, suc, ◌≡◌, refl, Bool, not, ◌&&◌, ◌||◌, eqb, T, length}
use Rattle.std.proofs.Common.{ap, ◌∙◌, length-append}
use Rattle.std.proofs.Math.Bool.{true, false}
use mathlib.Core.List.{[], ◌∷◌}
use Rattle.meaning.specs.Logic.{Monotone, Imp, Pmi, imp, pmi, imp_or_l, imp_and_l, Pre, p_cons}
use Rattle.meaning.specs.Logic.{pre_more, Both, b_nil, b_cons, both_pre, both_append, pre_append}
use Rattle.meaning.specs.Query.{Step, Query, Steps, any_step, all_step, hangs, goes_deep, last_main}
use Rattle.meaning.specs.Document.{Node, Row, nil, el, Doc, done, within, opened, closed, count_row, count}
use Rattle.meaning.specs.Selection.{Reading, sure-reading, open-reading, granted, named, meets, lift, join}
use Rattle.meaning.specs.Selection.{met_row, met, Ready, given, turn, start, marks_row, marks, selections}

-- what an open element x with content d meets in the reading v
abbrev pub meets_in : Query → Reading → Node → Doc → Steps
meets_in q v x d = meets q (granted v) x (met q v d)

module _ (R : Bool → Bool → Type 0) (mono : Monotone R) where
  abbrev pub Sets : Steps → Steps → Type 0
  Sets A B = (st : Step) (s : ℕ) → R (A st s) (B st s)

  pub record Readies (r r' : Ready) : Type 0 where
    pub steps : Sets r.steps r'.steps
    pub end : R r.end r'.end

  pub any_mono : (q : Query) (i : ℕ) (h h' : Steps) → Sets h h' → R (any_step q i h) (any_step q i h')
  unfolding any_step
  any_mono [] i h h' f = mono.same false
  any_mono (st ∷ q) i h h' f = mono.either _ _ _ _ (f st i) (any_mono q (suc i) h h' f)

  pub all_mono : (q : Query) (i : ℕ) (h h' : Steps) → Sets h h' → R (all_step q i h) (all_step q i h')
  unfolding all_step
  all_mono [] i h h' f = mono.same true
  all_mono (st ∷ q) i h h' f = mono.both _ _ _ _ (f st i) (all_mono q (suc i) h h' f)

  pub meets_mono :
      (q : Query) (g g' : Bool) (x : Node) (K K' : Steps) → R g g' → Sets K K' → Sets (meets q g x K) (meets q g' x K')
  unfolding meets
  meets_mono q g g' x K K' e f st s =
      mono.both _ _ _ _ (mono.same (named x st s))
      (all_mono q 1 _ _ (λ t i. mono.either _ _ _ _ (mono.same (not (hangs t s))) (mono.either _ _ _ _ e (f t i))))

  pub lift_mono : (M M' K K' : Steps) → Sets M M' → Sets K K' → Sets (lift M K) (lift M' K')
  unfolding lift
  lift_mono M M' K K' f g st s =
      mono.either _ _ _ _ (f st s) (mono.both _ _ _ _ (mono.same (goes_deep st.axis)) (g st s))

  pub join_mono : (A A' B B' : Steps) → Sets A A' → Sets B B' → Sets (join A B) (join A' B')
  unfolding join
  join_mono A A' B B' f g st s = mono.either _ _ _ _ (f st s) (g st s)

  given_mono : (q : Query) (M M' r r' : Steps) → Sets M M' → Sets r r' → (s : ℕ) → R (given q M r s) (given q M' r' s)
  unfolding given
  given_mono q M M' r r' f g s =
      any_mono q 1 _ _
      (λ st i. mono.both _ _ _ _ (mono.same (eqb i s))
      (mono.both _ _ _ _ (mono.same st.main) (mono.both _ _ _ _ (f st i) (g st i))))

  pub turn_mono : (q : Query) (M M' : Steps) (r r' : Ready) → Sets M M' → Readies r r' → Readies (turn q M r) (turn q M' r')
  unfolding turn
  turn_mono q M M' r r' f g =
      record {
        steps = λ st i.
            mono.either _ _ _ _ (mono.both _ _ _ _ (mono.same st.main) (given_mono q M M' _ _ f g.steps st.parent))
            (mono.both _ _ _ _ (mono.same (goes_deep st.axis)) (g.steps st i));
        end = given_mono q M M' _ _ f g.steps (last_main q);
      }

  pub sets_same : (A : Steps) → Sets A A
  sets_same A st s = mono.same _

  pub readies_same : (r : Ready) → Readies r r
  readies_same r = record { steps = sets_same r.steps; end = mono.same _ }

  pub marks_row_mono : (q : Query) (f : Row) (r r' : Ready) → Readies r r' → Both R (marks_row q f r) (marks_row q f r')
  unfolding marks_row
  marks_row_mono q nil r r' g = b_nil
  marks_row_mono q (el p x k) r r' g =
      both_append (marks_row_mono q p r r' g) (b_cons G.end (marks_row_mono q k _ _ G))
    where
      G : Readies (turn q (meets q false x (met_row q k)) r) (turn q (meets q false x (met_row q k)) r')
      G = turn_mono q _ _ r r' (sets_same _) g

  pub marks_readings :
      (q : Query) (v v' : Reading) → ((x : Node) (d : Doc) → Sets (meets_in q v x d) (meets_in q v' x d)) →
      (d : Doc) (r r' : Ready) → Readies r r' → Both R (marks q v d r) (marks q v' d r')
  unfolding marks
  marks_readings q v v' f (done k) r r' g = marks_row_mono q k r r' g
  marks_readings q v v' f (within p x d) r r' g =
      both_append (marks_row_mono q p r r' g) (b_cons G.end (marks_readings q v v' f d _ _ G))
    where
      G : Readies (turn q (meets_in q v x d) r) (turn q (meets_in q v' x d) r')
      G = turn_mono q _ _ r r' (f x d) g

  pub marks_open :
      (q : Query) (v : Reading) (y : Node) → ((x : Node) (d : Doc) → Sets (meets_in q v x d) (meets_in q v x (opened y d))) →
      (d : Doc) (r r' : Ready) → Readies r r' → Pre R (marks q v d r) (marks q v (opened y d) r')
  unfolding marks opened
  marks_open q v y f (done k) r r' g = pre_more _ (both_pre (marks_row_mono q k r r' g))
  marks_open q v y f (within p x d) r r' g =
      pre_append (marks_row_mono q p r r' g) (p_cons G.end (marks_open q v y f d _ _ G))
    where
      G : Readies (turn q (meets_in q v x d) r) (turn q (meets_in q v x (opened y d)) r')
      G = turn_mono q _ _ r r' (f x d) g

  pub marks_close :
      (q : Query) (v : Reading) →
      ((x : Node) (d : Doc) → Sets (meets_in q v x d) (meets_in q v x (closed d))) →
      ((x : Node) (k : Row) → Sets (meets_in q v x (done k)) (meets q false x (met_row q k))) →
      (d : Doc) (r r' : Ready) → Readies r r' → Both R (marks q v d r) (marks q v (closed d) r')
  unfolding marks closed marks_row
  marks_close q v f e (done k) r r' g = marks_row_mono q k r r' g
  marks_close q v f e (within p x (done k)) r r' g =
      both_append (marks_row_mono q p r r' g) (b_cons G.end (marks_row_mono q k _ _ G))
    where
      G : Readies (turn q (meets_in q v x (done k)) r) (turn q (meets q false x (met_row q k)) r')
      G = turn_mono q _ _ r r' (e x k) g
  marks_close q v f e (within p x (within p' x' d)) r r' g =
      both_append (marks_row_mono q p r r' g) (b_cons G.end (marks_close q v f e (within p' x' d) _ _ G))
    where
      G : Readies (turn q (meets_in q v x (within p' x' d)) r) (turn q (meets_in q v x (closed (within p' x' d))) r')
      G = turn_mono q _ _ r r' (f x (within p' x' d)) g

abbrev pub Within : Steps → Steps → Type 0
Within A B = Sets Imp imp A B

-- an element whose predicates are granted meets what its name passes, whatever it contains
all_granted : (q : Query) (i : ℕ) (s : ℕ) (K : Steps) → T (all_step q i (λ t j. not (hangs t s) || (true || K t j)))
unfolding all_step
all_granted [] i s K = tt
all_granted (st ∷ q) i s K = both (not (hangs st s)) _ (all_granted q (suc i) s K)
  where
    both : (a b : Bool) → T b → T ((a || true) && b)
    both true b t = t
    both false b t = t

and_true : (a b : Bool) → T b → (a && b) ≡ a
and_true true true t = refl
and_true true false t = absurd t
and_true false b t = refl

pub meets_granted : (q : Query) (x : Node) (K : Steps) (st : Step) (s : ℕ) → meets q true x K st s ≡ named x st s
unfolding meets
meets_granted q x K st s = and_true (named x st s) _ (all_granted q 1 s K)

pub meets_named : (q : Query) (g : Bool) (x : Node) (K : Steps) → Within (meets q g x K) (named x)
unfolding meets
meets_named q g x K st s = imp_and_l (named x st s) _

-- the sure reading: a close leaves what is met, an open takes nothing from it
pub met_close : (q : Query) (d : Doc) → met q sure-reading (closed d) ≡ met q sure-reading d
unfolding met closed met_row granted
met_close q (done f) = refl
met_close q (within p x (done k)) = refl
met_close q (within p x (within p' x' d)) =
    ap (λ K. join (met_row q p) (lift (meets q false x K) K)) (met_close q (within p' x' d))

pub within_join : (A B : Steps) → Within A (join A B)
unfolding join
within_join A B st s = imp_or_l (A st s) _

pub met_open : (q : Query) (y : Node) (d : Doc) → Within (met q sure-reading d) (met q sure-reading (opened y d))
unfolding met opened
met_open q y (done f) = within_join (met_row q f) _
met_open q y (within p x d) =
    join_mono Imp imp _ _ _ _ (sets_same Imp imp _)
    (lift_mono Imp imp _ _ _ _ (meets_mono Imp imp q _ _ x _ _ (imp.same _) (met_open q y d)) (met_open q y d))

sure_meets_open : (q : Query) (y x : Node) (d : Doc) → Within (meets_in q sure-reading x d) (meets_in q sure-reading x (opened y d))
sure_meets_open q y x d = meets_mono Imp imp q _ _ x _ _ (imp.same _) (met_open q y d)

sure_meets_close : (q : Query) (x : Node) (d : Doc) → Within (meets_in q sure-reading x d) (meets_in q sure-reading x (closed d))
sure_meets_close q x d = rw (met_close q d) (sets_same Imp imp _)

sure_meets_done : (q : Query) (x : Node) (k : Row) → Within (meets_in q sure-reading x (done k)) (meets q false x (met_row q k))
unfolding met granted
sure_meets_done q x k = sets_same Imp imp _

-- the open reading: an open element meets all that its name passes
open_meets_any : (q : Query) (g : Bool) (x : Node) (d : Doc) (K : Steps) → Sets Pmi pmi (meets_in q open-reading x d) (meets q g x K)
unfolding granted
open_meets_any q g x d K st s = record { back = λ t. rw (meets_granted q x (met q open-reading d) st s) ((meets_named q g x K st s).to t) }

pub sure_open : (q : Query) (y : Node) (d : Doc) → Pre Imp (selections q sure-reading d) (selections q sure-reading (opened y d))
unfolding selections
sure_open q y d = marks_open Imp imp q sure-reading y (sure_meets_open q y) d _ _ (readies_same Imp imp start)

pub sure_close : (q : Query) (d : Doc) → Both Imp (selections q sure-reading d) (selections q sure-reading (closed d))
unfolding selections
sure_close q d =
    marks_close Imp imp q sure-reading (sure_meets_close q) (sure_meets_done q) d _ _ (readies_same Imp imp start)

pub possible_open : (q : Query) (y : Node) (d : Doc) → Pre Pmi (selections q open-reading d) (selections q open-reading (opened y d))
unfolding selections
possible_open q y d =
    marks_open Pmi pmi q open-reading y (λ x d. open_meets_any q (granted open-reading) x d _) d _ _ (readies_same Pmi pmi start)

pub possible_close : (q : Query) (d : Doc) → Both Pmi (selections q open-reading d) (selections q open-reading (closed d))
unfolding selections
possible_close q d =
    marks_close Pmi pmi q open-reading (λ x d. open_meets_any q (granted open-reading) x d _) (λ x k. open_meets_any q false x (done k) _)
    d _ _ (readies_same Pmi pmi start)

sure_meets_within : (q : Query) (x : Node) (d : Doc) → Within (meets_in q sure-reading x d) (meets_in q open-reading x d)
sure_meets_within q x d st s = record { to = (open_meets_any q (granted sure-reading) x d (met q sure-reading d) st s).back }

pub sure_possible : (q : Query) (d : Doc) → Both Imp (selections q sure-reading d) (selections q open-reading d)
unfolding selections
sure_possible q d =
    marks_readings Imp imp q sure-reading open-reading (sure_meets_within q) d _ _ (readies_same Imp imp start)

-- a test for each node
pub length_marks_row : (q : Query) (f : Row) (r : Ready) → length (marks_row q f r) ≡ count_row f
unfolding marks_row count_row
length_marks_row q nil r = refl
length_marks_row q (el p x k) r = length-append (marks_row q p r) _ ∙ rw (length_marks_row q p r, length_marks_row q k) refl

length_marks : (q : Query) (v : Reading) (d : Doc) (r : Ready) → length (marks q v d r) ≡ count d
unfolding marks count
length_marks q v (done f) r = length_marks_row q f r
length_marks q v (within p x d) r = length-append (marks_row q p r) _ ∙ rw (length_marks_row q p r, length_marks q v d) refl

pub length_selections : (q : Query) (v : Reading) (d : Doc) → length (selections q v d) ≡ count d
unfolding selections
length_selections q v d = length_marks q v d _
