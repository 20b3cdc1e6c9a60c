-- The lines of a list, in words: the list is its lines, each with a line feed behind it, which may be missing after the last; and no line has one in it.
--
--   joined ls        the lines ls, a line feed behind each
--   lines_joined     the lines of a list, joined, are the list, or the list with a line feed behind it
--   no_feed          no byte of a line is a line feed
--
-- Assumes nothing.
use Rattle.std.specs.Prelude.{ℕ, zero, suc, ◌<◌, ◌⊎◌, ◌≡◌, refl, List, [], ◌∷◌, ◌++◌, eqb, length, get_or}
use Rattle.std.proofs.Common.{arith, inl, inr, sym, ap, ap₂, eqb-true}
use Rattle.std.proofs.lemmas.Bool.{eqb-false}
use Rattle.choice.specs.When.{when_known}
use Rattle.listed.specs.Lines.{line_feed, lines_of, onto, line_at}
use Rattle.listed.specs.Lines.Laws.{no_lines}

abbrev pub joined : List (List ℕ) → List ℕ
joined [] = []
joined (l ∷ ls) = l ++ line_feed ∷ joined ls

abbrev Whole : List ℕ → List (List ℕ) → Type 0
Whole t ls = (joined ls ≡ t) ⊎ (joined ls ≡ t ++ line_feed ∷ [])

byte_joined : (b : ℕ) (t : List ℕ) (ls : List (List ℕ)) → lines_of t ≡ ls → Whole t ls → Whole (b ∷ t) (onto b ls)
unfolding onto
byte_joined b t [] e w = inr (ap (λ s. b ∷ s ++ line_feed ∷ []) (sym (no_lines t e)))
byte_joined b t (l ∷ ls) e (inl w) = inl (ap (λ s. b ∷ s) w)
byte_joined b t (l ∷ ls) e (inr w) = inr (ap (λ s. b ∷ s) w)

feed_joined : (b : ℕ) (t : List ℕ) (ls : List (List ℕ)) → b ≡ line_feed → Whole t ls → Whole (b ∷ t) ([] ∷ ls)
feed_joined b t ls e (inl w) = inl (ap₂ ◌∷◌ (sym e) w)
feed_joined b t ls e (inr w) = inr (ap₂ ◌∷◌ (sym e) w)

-- "one name a line, each line ended by a line feed, which may be missing after the last"
pub lines_joined : (t : List ℕ) → (joined (lines_of t) ≡ t) ⊎ (joined (lines_of t) ≡ t ++ line_feed ∷ [])
unfolding lines_of
lines_joined [] = inl refl
lines_joined (b ∷ t) =
    when_known (Whole (b ∷ t)) (eqb b line_feed) _ _
    (λ feed. feed_joined b t (lines_of t) (eqb-true _ _ feed) (lines_joined t))
    (λ byte. byte_joined b t (lines_of t) refl (lines_joined t))

abbrev Unfed : List (List ℕ) → Type 0
Unfed ls = (k i : ℕ) → k < length ls → i < length (line_at ls k) → get_or (line_at ls k) i 0 ≡ line_feed → ⊥

byte_unfed : (b : ℕ) (ls : List (List ℕ)) → (b ≡ line_feed → ⊥) → Unfed ls → Unfed (onto b ls)
unfolding onto
byte_unfed b [] other f zero zero l h e = other e
byte_unfed b [] other f zero (suc i) l h e = omega arith
byte_unfed b [] other f (suc k) i l h e = omega arith
byte_unfed b (line ∷ ls) other f zero zero l h e = other e
byte_unfed b (line ∷ ls) other f zero (suc i) l h e = f zero i (omega arith) (omega arith) e
byte_unfed b (line ∷ ls) other f (suc k) i l h e = f (suc k) i l h e

feed_unfed : (ls : List (List ℕ)) → Unfed ls → Unfed ([] ∷ ls)
feed_unfed ls f zero i l h e = omega arith
feed_unfed ls f (suc k) i l h e = f k i (omega arith) h e

pub no_feed : (t : List ℕ) (k i : ℕ) → k < length (lines_of t) → i < length (line_at (lines_of t) k) → get_or (line_at (lines_of t) k) i 0 ≡ line_feed → ⊥
unfolding lines_of
no_feed [] = λ k i l. absurd (omega arith)
no_feed (b ∷ t) =
    when_known Unfed (eqb b line_feed) _ _ (λ feed. feed_unfed (lines_of t) (no_feed t)) (λ byte. byte_unfed b (lines_of t) (eqb-false _ _ byte) (no_feed t))
