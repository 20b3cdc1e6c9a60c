-- The words of an index, place by place.
--
--   first_below         a place in a chain is one of the list's
--   entries_length      two words a place
--   entry_from, entry_link      what the words of a place are;  entry_laid: those of one that is in no chain yet
--   entries_linked      one place more is put in front of its chain
--
-- Assumes nothing.
use Rattle.std.specs.Prelude.{ℕ, zero, suc, ◌+◌, ◌*◌, ◌≤◌, ◌<◌, ◌≡◌, refl, List, [], ◌∷◌, eqb, length, get_or, set, drop}
use Rattle.std.proofs.Common.{arith, ap, ◌∙◌}
use Rattle.choice.specs.When.{when_known}
use Rattle.listed.specs.Lines.{line_at, start_of}
use Rattle.spelling.specs.Bucket.{bucket_of}
use Rattle.chains.specs.Index.{first_in, link_of, entries}

pub first_below : (h n : ℕ) (ls : List (List ℕ)) → 0 < n → first_in h n ls < n + length ls
unfolding first_in
first_below h n [] some = omega arith
first_below h n (l ∷ ls) some =
    when_known (λ p. p < n + suc (length ls)) (eqb (bucket_of l) h) _ _ (λ t. omega arith) (λ t. omega (arith, first_below h (suc n) ls (omega arith)))

pub entries_length : (k from n : ℕ) (ls : List (List ℕ)) → length (entries k from n ls) ≡ 2 * length ls
unfolding entries
entries_length k from n [] = refl
entries_length zero from n (l ∷ ls) = omega (arith, entries_length zero (from + length l + 1) (suc n) ls)
entries_length (suc k) from n (l ∷ ls) = omega (arith, entries_length k (from + length l + 1) (suc n) ls)

-- two places further
two : (i : ℕ) → 2 * suc i ≡ suc (suc (2 * i))
two i = omega arith

two_one : (i : ℕ) → 2 * suc i + 1 ≡ suc (suc (2 * i + 1))
two_one i = omega arith

pub entry_from : (k from n i : ℕ) (ls : List (List ℕ)) → i < length ls → get_or (entries k from n ls) (2 * i) 0 ≡ from + start_of ls i
unfolding entries start_of
entry_from k from n i [] l = absurd (omega arith)
entry_from zero from n zero (l ∷ ls) h = omega arith
entry_from (suc k) from n zero (l ∷ ls) h = omega arith
entry_from zero from n (suc i) (l ∷ ls) h =
    ap (λ j. get_or (entries zero from n (l ∷ ls)) j 0) (two i) ∙ entry_from zero (from + length l + 1) (suc n) i ls (omega arith) ∙ omega arith
entry_from (suc k) from n (suc i) (l ∷ ls) h =
    ap (λ j. get_or (entries (suc k) from n (l ∷ ls)) j 0) (two i) ∙ entry_from k (from + length l + 1) (suc n) i ls (omega arith) ∙ omega arith

-- the next place in the chain of the line that has i lines before it, where the line behind it is place m
abbrev pub next : ℕ → List (List ℕ) → ℕ → ℕ
next m ls i = first_in (bucket_of (line_at ls i)) m (drop (suc i) ls)

pub entry_link :
    (k from n i m : ℕ) (ls : List (List ℕ)) → m ≡ suc (n + i) → k ≤ i → i < length ls →
    get_or (entries k from n ls) (2 * i + 1) 0 ≡ link_of (next m ls i) (length (line_at ls i))
unfolding entries
entry_link k from n i m [] e g h = absurd (omega arith)
entry_link zero from n zero m (l ∷ ls) e g h =
    ap (λ p. link_of (first_in (bucket_of l) p ls) (length l)) (let z : suc n ≡ m = omega arith in z)
entry_link (suc k) from n zero m (l ∷ ls) e g h = absurd (omega arith)
entry_link zero from n (suc i) m (l ∷ ls) e g h =
    ap (λ j. get_or (entries zero from n (l ∷ ls)) j 0) (two_one i)
    ∙ entry_link zero (from + length l + 1) (suc n) i m ls (omega arith) (omega arith) (omega arith)
entry_link (suc k) from n (suc i) m (l ∷ ls) e g h =
    ap (λ j. get_or (entries (suc k) from n (l ∷ ls)) j 0) (two_one i)
    ∙ entry_link k (from + length l + 1) (suc n) i m ls (omega arith) (omega arith) (omega arith)

pub entry_laid :
    (k from n i : ℕ) (ls : List (List ℕ)) → i < k → i < length ls → get_or (entries k from n ls) (2 * i + 1) 0 ≡ link_of 0 (length (line_at ls i))
unfolding entries
entry_laid k from n i [] g h = absurd (omega arith)
entry_laid zero from n i (l ∷ ls) g h = absurd (omega arith)
entry_laid (suc k) from n zero (l ∷ ls) g h = refl
entry_laid (suc k) from n (suc i) (l ∷ ls) g h =
    ap (λ j. get_or (entries (suc k) from n (l ∷ ls)) j 0) (two_one i)
    ∙ entry_laid k (from + length l + 1) (suc n) i ls (omega arith) (omega arith)

pub entries_linked :
    (k from n m : ℕ) (ls : List (List ℕ)) → m ≡ suc (n + k) → k < length ls →
    set (entries (suc k) from n ls) (2 * k + 1) (link_of (next m ls k) (length (line_at ls k))) ≡ entries k from n ls
unfolding entries
entries_linked k from n m [] e h = absurd (omega arith)
entries_linked zero from n m (l ∷ ls) e h =
    ap (λ p. from ∷ link_of (first_in (bucket_of l) p ls) (length l) ∷ entries zero (from + length l + 1) (suc n) ls)
    (let z : m ≡ suc n = omega arith in z)
entries_linked (suc k) from n m (l ∷ ls) e h =
    ap (λ j. set (entries (suc (suc k)) from n (l ∷ ls)) j (link_of (next m ls k) (length (line_at ls k)))) (two_one k)
    ∙ ap (λ t. from ∷ link_of 0 (length l) ∷ t) (entries_linked k (from + length l + 1) (suc n) m ls (omega arith) (omega arith))
