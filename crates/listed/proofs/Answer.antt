-- That two results of the code that stand for one answer to a list are equal.
--
--   listing_one     two results that stand for one answer are equal
--   check_one       two results that the promise of `check` allows are equal
--
-- Assumes nothing.
use Rattle.std.specs.Prelude.{ℕ, ◌≡◌, refl, List, Result, Ok, Err}
use Rattle.std.proofs.Common.{arith, ap, ap₂, sym, ◌∙◌}
use Rattle.limits.specs.declared.TextRefusal.{TextRefusal}
use Rattle.limits.specs.Number.{text_number}
use Rattle.limits.specs.Number.Laws.{some_text, text_one}
use Rattle.listed.specs.declared.ListFault.{ListFault}
use Rattle.listed.specs.Listed.{Listing, list_answer}
use Rattle.listed.specs.Answer.{listing}

fault_one : (f g : ListFault) → text_number f.refusal ≡ text_number g.refusal → f.line ≡ g.line → f ≡ g
fault_one f g r l = ap₂ (λ (t : TextRefusal) (n : ℕ). record { refusal = t; line = n }) (text_one f.refusal g.refusal r) l

pub listing_one : (r q : Result (Unit {0}) ListFault) → listing r ≡ listing q → r ≡ q
listing_one (Ok t) (Ok u) e = refl
listing_one (Ok t) (Err g) e = absurd (omega (arith, some_text g.refusal, ap (λ (a : Listing). a.refusal) e))
listing_one (Err f) (Ok u) e = absurd (omega (arith, some_text f.refusal, ap (λ (a : Listing). a.refusal) e))
listing_one (Err f) (Err g) e = ap Err (fault_one f g (ap (λ (a : Listing). a.refusal) e) (ap (λ (a : Listing). a.line) e))

pub check_one : (names : List ℕ) (r q : Result (Unit {0}) ListFault) → listing r ≡ list_answer names → listing q ≡ list_answer names → r ≡ q
check_one names r q d h = listing_one r q (d ∙ sym h)
