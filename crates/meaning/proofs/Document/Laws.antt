-- Depth and count after an open and a close; an ended document and the innermost open element, in plain words.
--
--   depth_opened, depth_closed    an open is one deeper, a close one less deep
--   count_opened, count_closed    an open is one node more, a close none
--   finished_exactly              the document element has been closed: a node has been opened and none is open
--   Innermost d n                 the innermost open element of d has name n
--   ends_exactly                  ends_at is this
--
-- Assumes nothing.
use Rattle.std.specs.Prelude.{ℕ, suc, pred, ◌+◌, ◌≤◌, ◌↔◌, ◌≡◌, refl, T, eqb}
use Rattle.std.proofs.Common.{arith, ap, subst, eqb→eq}
use Rattle.std.proofs.Math.Dec.{eqb_refl}
use Rattle.meaning.specs.Document.{Node, nil, el, Doc, done, within, opened, closed, count_row, count, depth, finished, ends_at}
use Rattle.meaning.specs.Document.Laws.{Innermost, just_around, further_in}

pub depth_opened : (y : Node) (d : Doc) → depth (opened y d) ≡ suc (depth d)
unfolding opened depth
depth_opened y (done f) = refl
depth_opened y (within p x d) = ap suc (depth_opened y d)

pub depth_closed : (d : Doc) → depth (closed d) ≡ pred (depth d)
unfolding closed depth
depth_closed (done f) = refl
depth_closed (within p x (done k)) = refl
depth_closed (within p x (within p' x' d)) = ap suc (depth_closed (within p' x' d))

pub count_opened : (y : Node) (d : Doc) → count (opened y d) ≡ suc (count d)
unfolding opened count count_row
count_opened y (done f) = omega arith
count_opened y (within p x d) = let e : count (opened y d) ≡ suc (count d) = count_opened y d in omega arith

pub count_closed : (d : Doc) → count (closed d) ≡ count d
unfolding closed count count_row
count_closed (done f) = refl
count_closed (within p x (done k)) = refl
count_closed (within p x (within p' x' d)) = ap (λ c. count_row p + suc c) (count_closed (within p' x' d))

pub finished_exactly : (d : Doc) → T (finished d) ↔ ((1 ≤ count d) × (depth d ≡ 0))
unfolding finished count count_row depth
finished_exactly (done nil) = (λ t. absurd t, λ x. absurd (omega arith))
finished_exactly (done (el p x k)) = (λ t. (omega arith, refl), λ x. tt)
finished_exactly (within p x d) = (λ t. absurd t, λ x. absurd (omega arith))

pub ends_exactly : (n : ℕ) (d : Doc) → T (ends_at n d) ↔ Innermost d n
unfolding ends_at
ends_exactly n (done f) = (λ t. absurd t, λ i. elim i [ ])
ends_exactly n (within p x (done k)) = (
  λ t. subst (Innermost (within p x (done k))) (eqb→eq x.name n t) just_around,
  to,
)
  where
    to : {n : ℕ} → Innermost (within p x (done k)) n → T (eqb x.name n)
    to just_around = eqb_refl x.name
    to (further_in i) = elim i [ ]
ends_exactly n (within p x (within p' x' d)) = (λ t. further_in ((ends_exactly n (within p' x' d)).0 t), λ i. (ends_exactly n (within p' x' d)).1 (inner i))
  where
    inner : {n : ℕ} → Innermost (within p x (within p' x' d)) n → Innermost (within p' x' d) n
    inner (further_in i) = i
