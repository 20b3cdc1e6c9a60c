-- One turn of the loop over the steps, over plain numbers: s steps have passed, and `step` is the next one's record.
--
--   row_is        a record of the query's, as it is cut into records, is that of a step
--   loop_starts   the answer from the first step on is the query's
--   next_near     what the turn makes of the nearest main-path step
--   turn          the answer from here on, by the step's reason
--   turn_stops    a step at fault decides the answer
--   turn_goes_on  a step that keeps every rule leaves it to the steps after it
--   loop_done     at the end the query is admitted
--
-- Assumes nothing.
use Rattle.std.specs.Prelude.{ℕ, zero, suc, ◌+◌, ◌-◌, ◌*◌, ◌≤◌, ◌<◌, ◌≡◌, List, [], get_or, take, drop}
use Rattle.std.specs.Simd.{first_chunks}
use Rattle.std.proofs.Common.{sym, ap, ◌∙◌, arith, add-one, refl, drop-drop}
use Rattle.std.proofs.Math.Nat.{sub-zero}
use Rattle.std.proofs.Math.Option.{Option, none}
use Rattle.meaning.specs.Query.{nearer}
use Rattle.meaning.specs.Refusals.{bad_step}
use Rattle.meaning.specs.Table.{first}
use Rattle.query.specs.Rules.{step_bytes, steps, step_of, is_main, nearest}
use Rattle.query.specs.Reasons.{reasons, reasons_with, lowest}
use Rattle.query.proofs.Reasons.Laws.{reasons_is, lowest_some, lowest_none}
use Rattle.query.specs.Answer.{admitted, refused_at, if_none, judged_from, judged}

row_at : (k : ℕ) (q : List ℕ) (s : ℕ) → s < k → get_or (first_chunks step_bytes k q) s [] ≡ step_of q s
row_at zero q s l = absurd (omega arith)
row_at (suc k) q zero l = refl
row_at (suc k) q (suc s) l =
    let far : step_bytes + step_bytes * s ≡ step_bytes * suc s = omega arith in
    row_at k (drop step_bytes q) s (omega arith) ∙ ap (take step_bytes) (drop-drop (step_bytes * s) step_bytes q ∙ ap (λ n. drop n q) far)

pub row_is : (q : List ℕ) (rows : List (List ℕ)) (s : ℕ) → rows ≡ first_chunks step_bytes (steps q) q → s < steps q → get_or rows s [] ≡ step_of q s
row_is q rows s e l = ap (λ xs. get_or xs s []) e ∙ row_at (steps q) q s l

pub loop_starts : (q : List ℕ) → judged_from q (steps q - 0) 0 ≡ judged q
unfolding judged
loop_starts q = rw (sub-zero (steps q))

pub next_near :
    (q : List ℕ) {step : List ℕ} (s near next : ℕ) → step ≡ step_of q s → near ≡ nearest q s → next ≡ nearer (is_main step) (s + 1) near →
    next ≡ nearest q (s + 1)
unfolding nearest
next_near q s near next row n e = rw (add-one s) (e ∙ rw (row, add-one s, n))

left_is : (n s : ℕ) → s < n → n - s ≡ suc (n - suc s)
left_is n s h = omega arith

turn : (q : List ℕ) (s : ℕ) → s < steps q → judged_from q (steps q - s) s ≡ if_none (first (reasons q s)) (suc s) (judged_from q (steps q - suc s) (suc s))
unfolding judged_from
turn q s h = rw (left_is (steps q) s h)

module _ (q : List ℕ) {step : List ℕ} (s near r : ℕ) (row : step ≡ step_of q s) (nears : near ≡ nearest q s)
    (told : r ≡ lowest (reasons_with step (s + 1) near)) (goes : judged_from q (steps q - s) s ≡ judged q) (there : s < steps q) where
  by_record : r ≡ lowest (reasons q s)
  by_record = told ∙ ap lowest (rw (row, add-one s, nears) (sym (reasons_is q s)))

  turned : (o : Option ℕ) → first (reasons q s) ≡ o → if_none o (suc s) (judged_from q (steps q - suc s) (suc s)) ≡ judged q
  turned o is = sym (turn q s there ∙ ap (λ x. if_none x (suc s) (judged_from q (steps q - suc s) (suc s))) is) ∙ goes

  pub turn_stops : 0 < r → refused_at bad_step (s + 1) r ≡ judged q
  unfolding if_none
  turn_stops broken = rw (add-one s, by_record) (turned _ (lowest_some (reasons q s) (omega (arith, by_record))))

  pub turn_goes_on : r ≡ 0 → judged_from q (steps q - (s + 1)) (s + 1) ≡ judged q
  unfolding if_none
  turn_goes_on kept = rw (add-one s) (turned none (lowest_none q s (sym by_record ∙ kept)))

pub loop_done : (q : List ℕ) (s : ℕ) → steps q ≤ s → judged_from q (steps q - s) s ≡ judged q → admitted ≡ judged q
unfolding judged_from
loop_done q s end goes =
    let none : steps q - s ≡ 0 = omega arith in
    (rw none) ∙ goes
