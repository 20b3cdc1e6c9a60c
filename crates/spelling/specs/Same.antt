-- Whether two lists of bytes are one, as the grammar's test says (crate xml).
--
--   same_exactly       it says so exactly if they are;  same_not: and not where they are not
--
-- Assumes nothing. NOT here: the same four bytes at a time (Same.Laws).
pub mod Laws
use Rattle.std.specs.Prelude.{ℕ, ◌↔◌, ◌≡◌, refl, Bool, true, false, ◌&&◌, List, [], ◌∷◌, eqb}
use Rattle.std.proofs.Common.{sym, ap, ap₂, ◌∙◌, eq-eqb, eqb-true}
use Rattle.choice.specs.When.{never}
use Rattle.xml.specs.Grammar.{same_name}

same_refl : (a : List ℕ) → same_name a a ≡ true
unfolding same_name
same_refl [] = refl
same_refl (b ∷ t) = ap₂ ◌&&◌ (eq-eqb b b refl) (same_refl t)

same_is : (a b : List ℕ) → same_name a b ≡ true → a ≡ b
unfolding same_name
same_is [] [] e = refl
same_is [] (b ∷ t) e = never e
same_is (a ∷ s) [] e = never e
same_is (a ∷ s) (b ∷ t) e = go (eqb a b) refl (same_is s t) e
  where
    go : (x : Bool) → eqb a b ≡ x → (same_name s t ≡ true → s ≡ t) → (x && same_name s t) ≡ true → ◌≡◌ {A = List ℕ} (a ∷ s) (b ∷ t)
    go true p f z = ap₂ ◌∷◌ (eqb-true _ _ p) (f z)
    go false p f z = never z

pub same_exactly : (a b : List ℕ) → (same_name a b ≡ true) ↔ (a ≡ b)
same_exactly a b = (same_is a b, λ e. ap (same_name a) (sym e) ∙ same_refl a)

pub same_not : (a b : List ℕ) → (a ≡ b → ⊥) → same_name a b ≡ false
same_not a b f = go (same_name a b) refl
  where
    go : (x : Bool) → same_name a b ≡ x → same_name a b ≡ false
    go true e = absurd (f (same_is a b e))
    go false e = e
