-- What the first place of a word among some lines says (specs/First).
--
--   stands_exactly, unlisted_exactly      first_place says so exactly then
--   place_within         it is a number from 1 to 65,534
--
-- Assumes nothing.
use Rattle.std.specs.Prelude.{ℕ, zero, suc, ◌+◌, ◌≤◌, ◌<◌, ◌↔◌, ◌≡◌, refl, List, [], ◌∷◌, length}
use Rattle.std.proofs.Common.{arith, sym, subst, ◌∙◌}
use Rattle.choice.specs.When.{never, when_known}
use Rattle.xml.specs.Bounds.{list_limit, unknown_name}
use Rattle.xml.proofs.Bounds.Laws.{list_limit_is, unknown_is}
use Rattle.xml.specs.Grammar.{same_name}
use Rattle.listed.specs.Lines.{line_at}
use Rattle.spelling.specs.Same.{same_exactly}
use Rattle.names.specs.First.{first_from, first_place, StandsAt, Unlisted}

-- the same of lines of which the first is place n
record FromAt (n : ℕ) (ls : List (List ℕ)) (w : List ℕ) (p : ℕ) : Type 0 where
  before : ℕ
  number : p ≡ n + before
  there : before < length ls
  here : line_at ls before ≡ w
  earlier : (k : ℕ) → k < before → line_at ls k ≡ w → ⊥

module _ (n : ℕ) (l : List ℕ) (ls : List (List ℕ)) (w : List ℕ) where
  at_once : l ≡ w → FromAt n (l ∷ ls) w n
  at_once e = record { before = 0; number = omega arith; there = omega arith; here = e; earlier = λ k h. absurd (omega arith) }

  not_first : (k : ℕ) → (l ≡ w → ⊥) → ((i : ℕ) → i < k → line_at ls i ≡ w → ⊥) → (i : ℕ) → i < suc k → line_at (l ∷ ls) i ≡ w → ⊥
  not_first k other f zero h e = other e
  not_first k other f (suc i) h e = f i (omega arith) e

  later : (p : ℕ) → (l ≡ w → ⊥) → FromAt (suc n) ls w p → FromAt n (l ∷ ls) w p
  later p other f =
      record {
        before = suc f.before;
        number = omega (arith, f.number);
        there = omega (arith, f.there);
        here = f.here;
        earlier = not_first f.before other f.earlier;
      }

-- either it stands somewhere, or nowhere
data Outcome (n : ℕ) (ls : List (List ℕ)) (w : List ℕ) : ℕ → Type 0 where
  found : {p : ℕ} → FromAt n ls w p → Outcome n ls w p
  nowhere : ((k : ℕ) → k < length ls → line_at ls k ≡ w → ⊥) → Outcome n ls w unknown_name

outcome_next : (n : ℕ) (l : List ℕ) (ls : List (List ℕ)) (w : List ℕ) {p : ℕ} → (l ≡ w → ⊥) → Outcome (suc n) ls w p → Outcome n (l ∷ ls) w p
outcome_next n l ls w {p} other (found f) = found (later n l ls w p other f)
outcome_next n l ls w other (nowhere f) = nowhere (not_first n l ls w (length ls) other f)

outcome : (n : ℕ) (ls : List (List ℕ)) (w : List ℕ) → Outcome n ls w (first_from n ls w)
unfolding first_from
outcome n [] w = nowhere (λ k h. absurd (omega arith))
outcome n (l ∷ ls) w =
    when_known (Outcome n (l ∷ ls) w) (same_name l w) _ _ (λ t. found (at_once n l ls w ((same_exactly l w).0 t)))
    (λ t. outcome_next n l ls w (λ e. never (sym t ∙ (same_exactly l w).1 e)) (outcome (suc n) ls w))

-- in words, of a list that is taken

module _ (ls : List (List ℕ)) (w : List ℕ) (few : length ls ≤ list_limit) where
  stands_is : {p : ℕ} → Outcome 1 ls w p → p ≤ list_limit → StandsAt ls w p
  stands_is (found f) low =
      record { before = f.before; number = omega (arith, f.number); there = f.there; here = f.here; earlier = f.earlier }
  stands_is (nowhere f) low = absurd (omega (arith, list_limit_is, unknown_is))

  is_stands : {p q : ℕ} → Outcome 1 ls w q → StandsAt ls w p → q ≡ p
  is_stands (found f) s =
      let not_before : f.before < s.before → ⊥ = λ h. s.earlier f.before h f.here in
      let not_after : s.before < f.before → ⊥ = λ h. f.earlier s.before h s.here in
      omega (arith, f.number, s.number)
  is_stands (nowhere f) s = absurd (f s.before s.there s.here)

  nowhere_is : {p : ℕ} → Outcome 1 ls w p → p ≡ unknown_name → Unlisted ls w
  nowhere_is (found f) e = absurd (omega (arith, f.number, f.there, list_limit_is, unknown_is))
  nowhere_is (nowhere f) e = record { nowhere = f }

  is_nowhere : {p : ℕ} → Outcome 1 ls w p → Unlisted ls w → p ≡ unknown_name
  is_nowhere (found f) u = absurd (u.nowhere f.before f.there f.here)
  is_nowhere (nowhere f) u = refl

  in_range_lem : {p : ℕ} → Outcome 1 ls w p → (1 ≤ p) × (p ≤ unknown_name)
  in_range_lem (found f) = (omega (arith, f.number), omega (arith, f.number, f.there, list_limit_is, unknown_is))
  in_range_lem (nowhere f) = (omega (arith, unknown_is), omega arith)

  pub stands_exactly : (p : ℕ) → ((first_place ls w ≡ p) × (p ≤ list_limit)) ↔ StandsAt ls w p
  unfolding first_place
  stands_exactly p = (
    λ (e, low). stands_is (subst (Outcome 1 ls w) e (outcome 1 ls w)) low,
    λ s. (is_stands (outcome 1 ls w) s, omega (arith, s.number, s.there)),
  )

  pub unlisted_exactly : (first_place ls w ≡ unknown_name) ↔ Unlisted ls w
  unfolding first_place
  unlisted_exactly = (nowhere_is (outcome 1 ls w), is_nowhere (outcome 1 ls w))

  pub place_within : (1 ≤ first_place ls w) × (first_place ls w ≤ unknown_name)
  unfolding first_place
  place_within = in_range_lem (outcome 1 ls w)
