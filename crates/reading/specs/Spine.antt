-- The open elements of a document as a list of names: what an open and a close make of it.
--
--   spine d              the names of the open elements, the innermost first
--   Closes d m ms        the innermost open element is m; once it is closed ms are left
--   Looks d ms b         the open elements of d are ms, and b says whether its document element has been closed
--   opens_fit            an open fits where the document element has not been closed, and adds its name
--   closes_fit           a close fits that names the first, and takes it away
--
-- Assumes nothing. NOT here: what fits, and documents (crate meaning).
use Rattle.std.specs.Prelude.{ℕ, ◌≡◌, refl, Bool, true, false, not, T, eqb}
use Rattle.std.proofs.Common.{sym, ap, ◌∙◌, subst}
use mathlib.Core.List.{List, [], ◌∷◌, ◌++◌, cons≢nil}
use Rattle.std.proofs.Math.Dec.{eqb_refl}
use Rattle.meaning.specs.Name.{is_name}
use Rattle.meaning.specs.Document.{Node, Row, Doc, done, within, blank, opened, closed, finished, ends_at}
use Rattle.meaning.specs.Stream.{opens, closes, fits, act}
use Rattle.meaning.proofs.Stream.Laws.{Leads, leads_one}
use Rattle.xml.proofs.Class.Laws.{and_i}
use Rattle.reading.specs.Last.{snoc_some}

unfoldable pub spine : Doc → List ℕ
spine (done f) = []
spine (within p x d) = spine d ++ (x.name ∷ [])

spine_opened : (y : Node) (d : Doc) → spine (opened y d) ≡ y.name ∷ spine d
unfolding spine opened
spine_opened y (done f) = refl
spine_opened y (within p x d) = ap (λ z. z ++ (x.name ∷ [])) (spine_opened y d)

finished_opened : (y : Node) (d : Doc) → finished (opened y d) ≡ false
unfolding opened finished
finished_opened y (done f) = refl
finished_opened y (within p x d) = refl

abbrev pub none : List ℕ → Bool
none [] = true
none (m ∷ ms) = false

append_some : (s : List ℕ) (b : ℕ) → none (s ++ (b ∷ [])) ≡ false
append_some [] b = refl
append_some (m ∷ s) b = refl

-- what is left when the innermost element is closed
pub record Closes (d : Doc) (m : ℕ) (ms : List ℕ) : Type 0 where
  pub left : spine (closed d) ≡ ms
  pub whole : finished (closed d) ≡ none ms
  pub named : T (ends_at m d)

inner_closes :
    (p : Row) (x : Node) (p' : Row) (x' : Node) (d : Doc) (m : ℕ) (ms s : List ℕ)
    → spine (within p' x' d) ≡ s
    → s ++ (x.name ∷ []) ≡ m ∷ ms
    → ((k : ℕ) (ks : List ℕ) → spine (within p' x' d) ≡ k ∷ ks → Closes (within p' x' d) k ks)
    → Closes (within p x (within p' x' d)) m ms
unfolding spine closed finished ends_at
inner_closes p x p' x' d m ms [] e i f = absurd (snoc_some (spine d) x'.name e)
inner_closes p x p' x' d m ms (k ∷ ks) e i f =
    let c = f k ks e in
    let a : k ≡ m = cc in
    let b : ks ++ (x.name ∷ []) ≡ ms = cc in
    record {
      left = ap (λ z. z ++ (x.name ∷ [])) c.left ∙ b;
      whole = sym (append_some ks x.name) ∙ ap none b;
      named = subst (λ z. T (ends_at z (within p' x' d))) a c.named;
    }

spine_closed : (d : Doc) (m : ℕ) (ms : List ℕ) → spine d ≡ m ∷ ms → Closes d m ms
unfolding spine closed finished ends_at
spine_closed (done f) m ms e = absurd (cons≢nil (sym e))
spine_closed (within p x (done k)) m ms e =
    let a : x.name ≡ m = cc in
    let b : [] ≡ ms = cc in
    record { left = b; whole = ap none b; named = subst (λ z. T (eqb x.name z)) a (eqb_refl x.name) }
spine_closed (within p x (within p' x' d)) m ms e =
    inner_closes p x p' x' d m ms (spine (within p' x' d)) refl e (λ k ks i. spine_closed (within p' x' d) k ks i)

pub record Looks (d : Doc) (ms : List ℕ) (b : Bool) : Type 0 where
  pub inside : spine d ≡ ms
  pub ended : finished d ≡ b

pub blank_looks : Looks blank [] false
unfolding spine finished
blank_looks = record { inside = refl; ended = refl }

pub opens_fit :
    (n : ℕ) (d : Doc) (ms : List ℕ)
    → T (is_name n)
    → Looks d ms false
    → Leads fits (opens n ∷ []) d (act (opens n) d) × Looks (act (opens n) d) (n ∷ ms) false
unfolding fits act
opens_fit n d ms t l = (
  leads_one fits (opens n) d (and_i (is_name n) _ t (subst (λ z. T (not z)) (sym l.ended) tt)),
  record { inside = spine_opened _ d ∙ ap (λ z. n ∷ z) l.inside; ended = finished_opened _ d },
)

pub closes_fit :
    (n : ℕ) (d : Doc) (ms : List ℕ)
    → Looks d (n ∷ ms) false
    → Leads fits (closes n ∷ []) d (act (closes n) d) × Looks (act (closes n) d) ms (none ms)
unfolding fits act
closes_fit n d ms l =
    let c = spine_closed d n ms l.inside in
    (leads_one fits (closes n) d c.named, record { inside = c.left; ended = c.whole })
