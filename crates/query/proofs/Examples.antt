-- Queries of document 01 and a fault of each kind, as bytes, with their answers.
--
--   step axis role on name   a step's record
--   chain n on               n child steps on the main path, each on the one before, the first on step `on`
--   p1                       the query of P1: //section[author]//table[position]//cell
--   rows                     the table: bytes, and the answer to them
--   rows_right               each row's answer is the one given
--   p1_means                 what the bytes of P1's query mean
--
-- Assumes nothing.
use Rattle.std.specs.Prelude.{ℕ, zero, suc, ◌≡◌, refl, true, false, List, [], ◌∷◌, ◌++◌, map}
use Rattle.meaning.specs.Query.{child, descendant, Query, nearer}
use Rattle.meaning.specs.Refusals.{bad_length, bad_step}
use Rattle.meaning.specs.Table.{first_or, first}
use Rattle.query.specs.Rules.{later_rule, nearest, hang_rule}
use Rattle.query.specs.Reasons.{reasons_by, reasons}
use Rattle.query.specs.Answer.{Answer, admitted, refused, refused_at, if_none, judged_from, judged, if_wrong, answer_to}
use Rattle.query.specs.Decode.{axis_meant, decode_step, decode_from, decode}

abbrev pub step : ℕ → ℕ → ℕ → ℕ → List ℕ
step axis role on name = axis ∷ role ∷ on ∷ 0 ∷ 0 ∷ name ∷ 0 ∷ 0 ∷ []

abbrev pub chain : ℕ → ℕ → List ℕ
chain zero on = []
chain (suc n) on = step 1 1 on 0 ++ chain n (suc on)

abbrev pub p1 : List ℕ
p1 = step 2 1 0 1 ++ step 1 0 1 2 ++ step 2 1 1 3 ++ step 1 0 3 4 ++ step 2 1 3 5

pub record CheckRow : Type 0 where
  pub bytes : List ℕ
  pub answer : Answer

infix 3 ◌gets◌
abbrev pub ◌gets◌ : List ℕ → Answer → CheckRow
q gets a = record { bytes = q; answer = a }

abbrev pub rows : List CheckRow
rows =
    (p1 gets admitted)
    -- "A query of 32 steps is taken, of 33 gets 9."
    ∷ (chain 32 0 gets admitted)
    ∷ (chain 33 0 gets refused bad_length)
    ∷ ([] gets refused bad_length)
    ∷ (1 ∷ 1 ∷ 0 ∷ 0 ∷ 0 ∷ 1 ∷ 0 ∷ [] gets refused bad_length)
    -- axis, role
    ∷ (step 0 1 0 1 gets refused_at bad_step 1 1)
    ∷ (step 3 1 0 1 gets refused_at bad_step 1 1)
    ∷ (step 1 1 0 1 ++ step 1 2 1 2 gets refused_at bad_step 2 2)
    -- "Step 1 in a predicate is a fault of its role, whatever it hangs on"; step 1 not on 0
    ∷ (step 1 0 0 1 gets refused_at bad_step 1 2)
    ∷ (step 1 0 1 1 gets refused_at bad_step 1 2)
    ∷ (step 1 1 1 1 gets refused_at bad_step 1 3)
    -- a main-path step on the step before it, which is a predicate; on an earlier main-path step; on 0
    ∷ (step 1 1 0 1 ++ step 1 0 1 2 ++ step 1 1 2 3 gets refused_at bad_step 3 3)
    ∷ (chain 2 0 ++ step 1 1 1 3 gets refused_at bad_step 3 3)
    ∷ (step 1 1 0 1 ++ step 1 1 0 2 gets refused_at bad_step 2 3)
    -- a predicate on 0, on itself, on a later step; on a predicate
    ∷ (step 1 1 0 1 ++ step 1 0 0 2 gets refused_at bad_step 2 3)
    ∷ (step 1 1 0 1 ++ step 1 0 2 2 gets refused_at bad_step 2 3)
    ∷ (step 1 1 0 1 ++ step 1 0 3 2 ++ step 1 0 1 2 gets refused_at bad_step 2 3)
    ∷ (step 1 1 0 1 ++ step 1 0 1 2 ++ step 2 0 2 3 gets admitted)
    -- bytes 3, 6 and 7
    ∷ (1 ∷ 1 ∷ 0 ∷ 1 ∷ 0 ∷ 1 ∷ 0 ∷ 0 ∷ [] gets refused_at bad_step 1 4)
    ∷ (1 ∷ 1 ∷ 0 ∷ 0 ∷ 0 ∷ 1 ∷ 1 ∷ 0 ∷ [] gets refused_at bad_step 1 4)
    ∷ (1 ∷ 1 ∷ 0 ∷ 0 ∷ 0 ∷ 1 ∷ 0 ∷ 1 ∷ [] gets refused_at bad_step 1 4)
    -- the lowest of the reasons: all four; all but the axis; what it hangs on and a byte that must be 0
    ∷ (9 ∷ 9 ∷ 9 ∷ 9 ∷ 0 ∷ 1 ∷ 0 ∷ 0 ∷ [] gets refused_at bad_step 1 1)
    ∷ (step 1 1 0 1 ++ 1 ∷ 9 ∷ 9 ∷ 9 ∷ 0 ∷ 1 ∷ 0 ∷ 0 ∷ [] gets refused_at bad_step 2 2)
    ∷ (step 1 1 0 1 ++ 1 ∷ 1 ∷ 9 ∷ 9 ∷ 0 ∷ 1 ∷ 0 ∷ 0 ∷ [] gets refused_at bad_step 2 3)
    -- the first of two steps at fault, though the later has a lower reason, and the length before both
    ∷ (step 1 1 0 1 ++ step 1 0 0 2 ++ step 9 1 1 3 gets refused_at bad_step 2 3)
    ∷ (step 9 1 0 1 ++ 1 ∷ [] gets refused bad_length)
    ∷ []

pub rows_right : map (λ (r : CheckRow). answer_to r.bytes) rows ≡ map (λ (r : CheckRow). r.answer) rows
unfolding nearer later_rule nearest hang_rule reasons_by reasons first_or first if_none judged_from judged if_wrong answer_to
rows_right = refl

abbrev pub p1_query : Query
p1_query =
    record { axis = descendant; main = true; parent = 0; name = 1 }
    ∷ record { axis = child; main = false; parent = 1; name = 2 }
    ∷ record { axis = descendant; main = true; parent = 1; name = 3 }
    ∷ record { axis = child; main = false; parent = 3; name = 4 }
    ∷ record { axis = descendant; main = true; parent = 3; name = 5 }
    ∷ []

pub p1_means : decode p1 ≡ p1_query
unfolding axis_meant decode_step decode_from decode
p1_means = refl
