-- What is written into an output, from its start on.
--
--   Wrote out bs out' w       the first w bytes of out' are bs, and those after them are as they were in out
--   wrote_none, wrote_more    nothing is written; some bytes more are
--   wrote_first, wrote_rest   what was written, and what was not
--
-- Assumes nothing.
use Rattle.std.specs.Prelude.{ℕ, ◌+◌, ◌≤◌, ◌≡◌, refl, List, [], ◌++◌, length, take, drop}
use Rattle.std.proofs.Common.{arith, sym, ap, ap₂, ◌∙◌, subst, length-append, length-drop, drop-drop}
use Rattle.std.proofs.lemmas.List.Edits.{sets, sets-eq}
use Rattle.std.proofs.Math.Seq.{take-append_seam, drop-append_seam}

pub record Wrote (out bs out' : List ℕ) (w : ℕ) : Type 0 where
  pub size : length bs ≡ w
  pub fits : w ≤ length out
  pub is : out' ≡ bs ++ drop w out

pub wrote_none : (out : List ℕ) → Wrote out [] out 0
wrote_none out = record { size = refl; fits = omega arith; is = refl }

module _ {out bs out' : List ℕ} {w : ℕ} (h : Wrote out bs out' w) where
  pub wrote_first : take w out' ≡ bs
  wrote_first = ap (take w) h.is ∙ subst (λ n. take n (bs ++ drop w out) ≡ bs) h.size (take-append_seam bs (drop w out))

  pub wrote_rest : drop w out' ≡ drop w out
  wrote_rest = ap (drop w) h.is ∙ subst (λ n. drop n (bs ++ drop w out) ≡ drop w out) h.size (drop-append_seam bs (drop w out))

  pub wrote_long : length out' ≡ length out
  wrote_long =
      let a = h.size in
      let b = h.fits in
      let c = length-drop w out in
      ap length h.is ∙ length-append bs (drop w out) ∙ (let z : length bs + length (drop w out) ≡ length out = omega arith in z)

  pub wrote_more : (cs : List ℕ) {k : ℕ} → length cs ≡ k → w + k ≤ length out → Wrote out (bs ++ cs) (sets out' w cs) (w + k)
  wrote_more cs {k} e l =
      let a = h.size in
      let b = wrote_long in
      record {
        size = length-append bs cs ∙ (let z : length bs + length cs ≡ w + k = omega arith in z);
        fits = l;
        is =
            sets-eq cs out' w (omega arith)
            ∙ ap₂ (λ u v. (u ++ cs) ++ v) wrote_first
            (ap (λ n. drop (w + n) out') e ∙ sym (drop-drop k w out') ∙ ap (drop k) wrote_rest ∙ drop-drop k w out);
      }
