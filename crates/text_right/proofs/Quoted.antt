-- The values of the XML declaration's parts, byte by byte.
--
--   part_of_lem               the part of a value
--   value_test             what is left of a value after one byte more, as the code says it
--   quoted_right          in a value, in the quotes q;  double_right, single_right: in each mode
--
-- Assumes nothing.
use Rattle.std.specs.Prelude.{ℕ, ◌+◌, ◌<◌, ◌≡◌, Bool, true, false, not, ◌&&◌, ◌||◌, T, eqb, ltb}
use Rattle.std.proofs.Common.{arith, ◌∙◌, eqb→eq, eqb-true, le-ltb}
use Rattle.std.proofs.Math.Path.{refl, sym, ap, ap₂, subst}
use mathlib.Core.List.{List, []}
use Rattle.std.proofs.Math.Dec.{leb, leb→le}
use Rattle.choice.specs.When.{when, when_true, when_false, when_either}
use Rattle.xml.specs.Class.{Rows, in_class, keep, derive, word, words}
use Rattle.xml.proofs.Class.Laws.{and_l, and_r}
use Rattle.xml.specs.Grammar.{part_values}
use Rattle.xml.specs.Machine.{State, refused, goes, part_refusal, settle, pick, step}
use Rattle.xml.specs.Limited.{bounds}
use Rattle.limits.specs.Number.{text_number}
use Rattle.limits.specs.declared.TextRefusal.TheVariants.{OtherEncoding, Misplaced}
use Rattle.modes.specs.declared.Mode.TheVariants as mode
use Rattle.modes.specs.declared.Prolog.{Prolog}
use Rattle.modes.specs.declared.Prolog.TheVariants as prolog
use Rattle.modes.specs.declared.Reader.{Reader}
use Rattle.modes.specs.Moves.{spell_on}
use Rattle.prolog.specs.Told.{value_byte, value_row, part_of, small, value_refusal, quoted_in, quoted_tick}
use Rattle.text_right.specs.Stands.{part_no, value_left, prolog_state, state_in, evs_in}
use Rattle.text_right.specs.Sound.{Kept, value_ok, ValueAt, FitsIn, Fits}
use Rattle.text_right.proofs.Matched.{Matches, turn, by_test}
use Rattle.text_right.proofs.Forms.{same_class, same_row, same_rows, same_rows_lem, up_to, below, waits, settle_waits}
use Rattle.text_right.proofs.Values.{moded}
use Rattle.text_right.proofs.Entities.{spent, settle_spent, chosen_true, chosen_false}

third_again : part_no 3 ≡ part_no 4
unfolding part_no when
third_again = refl

pub part_of_lem : (row : ℕ) → part_no (part_of row) ≡ part_no row
unfolding part_of
part_of_lem row = go (eqb row 4) refl
  where
    go : (x : Bool) → eqb row 4 ≡ x → part_no (when (eqb row 4) 3 row) ≡ part_no row
    go true e = ap part_no (when_true _ _ _ e) ∙ third_again ∙ ap part_no (sym (eqb-true row 4 e))
    go false e = ap part_no (when_false _ _ _ e)

refusal_some : (y : ℕ) → 0 < text_number (value_refusal y)
unfolding value_refusal
refusal_some y = when_either (λ z. 0 < text_number z) (eqb y 2) OtherEncoding Misplaced (omega arith) (omega arith)

-- after the byte b, n bytes having been read, the value is y and d is left
left_test : ℕ → ℕ → ℕ → ℕ → Rows → Bool
left_test q n b y d =
    when (eqb (value_byte y n) 0) (when (eqb b q) (spent d) (same_rows d []))
    (when (eqb (small y b) (value_byte y n)) (same_rows d (value_left y (n + 1) q) && (waits d && value_ok y (n + 1))) (same_rows d []))

value_test : ℕ → ℕ → ℕ → ℕ → Bool
value_test q row n b =
    eqb (part_of (value_row row n b)) (part_of row)
    && ((leb 1 (part_of (value_row row n b)) && leb (part_of (value_row row n b)) 3)
    && (eqb (text_number (value_refusal (value_row row n b))) (part_refusal (part_no row))
    && left_test q n b (value_row row n b) (derive b (value_left row n q))))

double_pass : T (up_to 5 (λ row. up_to 6 (λ n. not (value_ok row n) || up_to 256 (value_test 34 row n))))
unfolding up_to value_ok value_test left_test value_row part_of value_refusal value_byte small part_no spent waits same_rows same_row same_class
    derive keep in_class value_left part_values word words when
double_pass = tt

single_pass : T (up_to 5 (λ row. up_to 6 (λ n. not (value_ok row n) || up_to 256 (value_test 39 row n))))
unfolding up_to value_ok value_test left_test value_row part_of value_refusal value_byte small part_no spent waits same_rows same_row same_class
    derive keep in_class value_left part_values word words when
single_pass = tt

or_other : (a b : Bool) → T a → T (not a || b) → T b
or_other true b t u = u
or_other false b t u = absurd t

row_below : (row n : ℕ) → ValueAt row n → row < 5
unfolding value_ok
row_below row n ok = leb→le _ _ (and_l (ltb row 5) _ ok.holds)

few_below : (row n : ℕ) → ValueAt row n → n < 6
unfolding value_ok
few_below row n ok = leb→le _ _ (and_l (ltb n 6) _ (and_r (ltb row 5) _ ok.holds))

-- the test at one place of the table
at_place :
    (q row n b : ℕ) → T (up_to 5 (λ i. up_to 6 (λ m. not (value_ok i m) || up_to 256 (value_test q i m)))) → ValueAt row n → b < 256 → T (value_test q row n b)
at_place q row n b pass ok l =
    below 256 (value_test q row n)
    (or_other (value_ok row n) _ ok.holds
    (below 6 (λ m. not (value_ok row m) || up_to 256 (value_test q row m))
    (below 5 (λ i. up_to 6 (λ m. not (value_ok i m) || up_to 256 (value_test q i m))) pass row (row_below row n ok)) n (few_below row n ok)))
    b l

module _ (r : Reader) (R : List ℕ) (b : ℕ) (kept : Kept R r.place) (at : r.place ≡ 0) where
  -- the state in a value's quotes
  within : ℕ → ℕ → ℕ → State
  within q row n = State.rows (value_left row n q) (part_refusal (part_no row)) [] (State.told (part_no row))

  -- the value does not go on so
  none_left :
      (row n q y : ℕ)
      → part_refusal (part_no row) ≡ text_number (value_refusal y)
      → T (same_rows (derive b (value_left row n q)) [])
      → settle (derive b (value_left row n q)) (part_refusal (part_no row)) [] (State.told (part_no row)) ≡ refused (text_number (value_refusal y))
  none_left row n q y e h =
      ap (λ z. settle z (part_refusal (part_no row)) [] (State.told (part_no row))) (same_rows_lem (derive b (value_left row n q)) [] h) ∙ ap refused e

  quoted_right :
      (q : ℕ) (m : Prolog)
      → T (value_test q r.row r.n b)
      → r.n < 6
      → ((row n : ℕ) → within q row n ≡ prolog_state R r.back r.place r.count row n m)
      → ((row n : ℕ) → ValueAt row n → FitsIn (spell_on (moded r (mode.Prolog m)) (mode.Prolog m) row n) m)
      → Matches (step bounds (within q r.row r.n) b) (quoted_tick (moded r (mode.Prolog m)) b q) R
  unfolding step pick quoted_tick quoted_in state_in prolog_state evs_in within value_test left_test
  quoted_right q m t few is fit =
      let row = r.row in
      let n = r.n in
      let y = value_row r.row r.n b in
      let d = derive b (value_left r.row r.n q) in
      let k = State.told (part_no r.row) in
      let x = part_refusal (part_no r.row) in
      let more = value_left y (r.n + 1) q in
      let t₁ = and_r (eqb (part_of y) (part_of row))
      ((leb 1 (part_of y) && leb (part_of y) 3) && (eqb (text_number (value_refusal y)) x && left_test q n b y d)) t in
      let t₂ = and_r (leb 1 (part_of y) && leb (part_of y) 3) (eqb (text_number (value_refusal y)) x && left_test q n b y d) t₁ in
      let t₃ = and_r (eqb (text_number (value_refusal y)) x) (left_test q n b y d) t₂ in
      let range = and_l (leb 1 (part_of y) && leb (part_of y) 3) (eqb (text_number (value_refusal y)) x && left_test q n b y d) t₁ in
      let same : part_no r.row ≡ part_no (value_row r.row r.n b) =
      sym (part_of_lem row) ∙ ap part_no (sym (eqb→eq _ _ (and_l (eqb (part_of y) (part_of row)) _ t))) ∙ part_of_lem y in
      let refusal : part_refusal (part_no r.row) ≡ text_number (value_refusal (value_row r.row r.n b)) =
      sym (eqb→eq (text_number (value_refusal y)) x (and_l (eqb (text_number (value_refusal y)) x) (left_test q n b y d) t₂)) in
      let last = when (eqb b q) (spent d) (same_rows d []) in
      let next = when (eqb (small y b) (value_byte y n)) (same_rows d more && (waits d && value_ok y (n + 1))) (same_rows d []) in
      turn (when_false _ _ _ (le-ltb 5 r.n (omega arith)))
      (by_test (eqb (value_byte y n) 0)
      (λ e.
      let u = chosen_true (eqb (value_byte y n) 0) last next e t₃ in
      by_test (eqb b q)
      (λ f.
      Matches.moves refl
      (settle_spent d x [] k (chosen_true (eqb b q) (spent d) (same_rows d []) f u) ∙ ap (λ z. goes [] (State.told z)) (same ∙ sym (part_of_lem y)))
      (record {
        kept = kept;
        fits =
            Fits.prolog' at
            (FitsIn.told
            (record {
              low = leb→le _ _ (and_l (leb 1 (part_of y)) (leb (part_of y) 3) range);
              high = leb→le _ _ (and_r (leb 1 (part_of y)) (leb (part_of y) 3) range);
            }));
      }))
      (λ f. Matches.stops (refusal_some y) (none_left r.row r.n q y refusal (chosen_false (eqb b q) (spent d) (same_rows d []) f u))))
      (λ e.
      let u = chosen_false (eqb (value_byte y n) 0) last next e t₃ in
      let on = same_rows d more && (waits d && value_ok y (n + 1)) in
      by_test (eqb (small y b) (value_byte y n))
      (λ f.
      let v = chosen_true (eqb (small y b) (value_byte y n)) on (same_rows d []) f u in
      let w = and_r (same_rows d more) (waits d && value_ok y (n + 1)) v in
      Matches.moves refl
      (settle_waits d x [] k (and_l (waits d) (value_ok y (n + 1)) w)
      ∙ ap₂ (λ z p. goes [] (State.rows z (part_refusal p) [] (State.told p)))
      (same_rows_lem d more (and_l (same_rows d more) (waits d && value_ok y (n + 1)) v)) same
      ∙ ap (goes []) (is y (n + 1)))
      (record { kept = kept; fits = Fits.prolog' at (fit y (n + 1) (record { holds = and_r (waits d) (value_ok y (n + 1)) w })) }))
      (λ f. Matches.stops (refusal_some y) (none_left r.row r.n q y refusal (chosen_false (eqb (small y b) (value_byte y n)) on (same_rows d []) f u)))))

  pub double_right :
      b < 256 → r.mode ≡ mode.Prolog prolog.PartDouble → ValueAt r.row r.n
      → Matches (step bounds (prolog_state R r.back r.place r.count r.row r.n prolog.PartDouble) b) (quoted_tick r b 34) R
  unfolding prolog_state within
  double_right l e ok =
      subst
      (λ m. Matches (step bounds (prolog_state R r.back r.place r.count r.row r.n prolog.PartDouble) b) (quoted_tick (moded r m) b 34) R)
      (sym e)
      (quoted_right 34 prolog.PartDouble (at_place 34 _ _ b double_pass ok l) (few_below _ _ ok) (λ row n. refl) (λ row n h. FitsIn.part_double h))

  pub single_right :
      b < 256 → r.mode ≡ mode.Prolog prolog.PartSingle → ValueAt r.row r.n
      → Matches (step bounds (prolog_state R r.back r.place r.count r.row r.n prolog.PartSingle) b) (quoted_tick r b 39) R
  unfolding prolog_state within
  single_right l e ok =
      subst
      (λ m. Matches (step bounds (prolog_state R r.back r.place r.count r.row r.n prolog.PartSingle) b) (quoted_tick (moded r m) b 39) R)
      (sym e)
      (quoted_right 39 prolog.PartSingle (at_place 39 _ _ b single_pass ok l) (few_below _ _ ok) (λ row n. refl) (λ row n h. FitsIn.part_single h))
