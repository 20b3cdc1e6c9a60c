-- What is shown of the list of names, as it is read from its file (specs/Names).
--
--   few_bytes            a list that is taken has no more than most_bytes;  long_refused: so a longer one is refused, whatever follows
--   names_read           with room for one byte more than a list has, a file of which the bytes are given is read
--
-- Assumes nothing. NOT here: which lists are taken (crate listed).
use Rattle.std.specs.Prelude.{ℕ, suc, ◌*◌, ◌≤◌, ◌<◌, ◌⊎◌, ◌≡◌, refl, Bool, true, false, List, [], ◌∷◌, ◌++◌, ltb, length, take}
use Rattle.std.proofs.Common.{arith, inl, inr, ap, length-append, length-take-le, ltb-true, ltb-false}
use Rattle.xml.proofs.Bounds.Laws.{list_limit_is, name_limit_is}
use Rattle.listed.specs.Lines.{lines_of, line_at}
use Rattle.listed.specs.Lines.Joined.{joined, lines_joined}
use Rattle.listed.specs.Listed.{list_answer}
use Rattle.listed.specs.Words.{Fine}
use Rattle.listed.specs.Words.Laws.{fine_exactly, no_refusal}
use Rattle.system.specs.Marks.{ReadOver, received, nothing_yet}
use Rattle.intake.specs.Names.{most_bytes, NamesRead, NamesGiven}

joined_most : (ls : List (List ℕ)) → ((k : ℕ) → k < length ls → length (line_at ls k) ≤ 64) → length (joined ls) ≤ 65 * length ls
joined_most [] f = omega arith
joined_most (l ∷ ls) f =
    omega (arith, f 0 (omega arith), joined_most ls (λ k h. f (suc k) (omega arith)), length-append l (10 ∷ joined ls))

fine_few : (names : List ℕ) → Fine names → length names ≤ most_bytes
fine_few names f = go (lines_joined names)
  where
    most : length (joined (lines_of names)) ≤ 65 * length (lines_of names)
    most = joined_most (lines_of names) (λ k l. omega (arith, f.short k l, name_limit_is))

    go : (joined (lines_of names) ≡ names) ⊎ (joined (lines_of names) ≡ names ++ 10 ∷ []) → length names ≤ most_bytes
    go (inl e) = omega (arith, most, f.few, list_limit_is, ap length e)
    go (inr e) = omega (arith, most, f.few, list_limit_is, ap length e, length-append names (10 ∷ []))

pub few_bytes : (names : List ℕ) → (list_answer names).refusal ≡ 0 → length names ≤ most_bytes
few_bytes names e = fine_few names ((fine_exactly names).0 (no_refusal names e))

pub long_refused : (names : List ℕ) → most_bytes < length names → (more : List ℕ) → (list_answer (names ++ more)).refusal ≡ 0 → ⊥
long_refused names long more e = omega (arith, few_bytes (names ++ more) e, length-append names more)

pub names_read : (l : List ℕ) (n : ℕ) → NamesGiven l n → most_bytes < length l → NamesRead (take n l)
names_read l n g room =
    record {
      file = g.file;
      opened = g.opened;
      received = received nothing_yet (take n l) g.full.given;
      closed = g.closed;
      to_end = by (ltb n (length l)) refl;
    }
  where
    by : (x : Bool) → ltb n (length l) ≡ x → ReadOver g.file ⊎ ((more : List ℕ) → (list_answer (take n l ++ more)).refusal ≡ 0 → ⊥)
    by true e = inl (g.full.over (ltb-true n (length l) e))
    by false e =
        inr (long_refused (take n l) (omega (arith, room, ltb-false n (length l) e, length-take-le n l g.full.counts.0, g.full.counts.1)))
