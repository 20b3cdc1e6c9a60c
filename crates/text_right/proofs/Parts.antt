-- The parts of the XML declaration, byte by byte.
--
--   follow_first, follow_second, follow_third      which part may come after which
--   piece_right                    between two parts
--   part_right                     in a part's name
--   equals_right, value_right      after it, and after its '='
--
-- Assumes nothing. NOT here: a part's value (Quoted).
use Rattle.std.specs.Prelude.{ℕ, suc, ◌+◌, ◌≤◌, ◌<◌, ◌≡◌, Bool, true, false, ◌&&◌, ◌||◌, length, get_or, drop}
use native.Mathlib.Omega.{arith}
use Rattle.std.proofs.Common.{add-one, sym, ◌∙◌, subst, le→leb, drop-cons}
use Rattle.std.proofs.Math.Path.{refl, ap, ap₂}
use Rattle.std.proofs.Math.Bool.{not}
use Rattle.std.proofs.Math.Option.{Option}
use mathlib.Core.List.{List, [], ◌∷◌}
use Rattle.std.proofs.Math.Dec.{T, eqb, leb, ltb, leb→le, eqb→eq}
use borrow.Author.Tests.{eqb-true, eqb-false, lt-leb, le-leb, not-true, not-false}
use Rattle.choice.specs.When.{when, when_true, when_false}
use Rattle.choice.specs.Tests.{other}
use Rattle.xml.specs.Class.{derive, word, words}
use Rattle.xml.proofs.Class.Laws.{and_l, and_r}
use Rattle.xml.specs.Refused.{misplaced}
use Rattle.xml.specs.Grammar.{Part, version, encoding, standalone, part_name, part_values, may_follow}
use Rattle.xml.specs.Machine.{State, Outcome, refused, goes, apiece_end, part_refusal, settle, pick, step}
use Rattle.xml.specs.Limited.{bounds}
use Rattle.modes.specs.declared.Reader.{Reader}
use Rattle.prolog.specs.Told.{part_byte, piece_tick, part_tick, part_equals_tick, part_value_tick}
use Rattle.text_right.specs.Marked.{marks_table, blank_mark, same, same_is}
use Rattle.text_right.specs.Stands.{part_no, said_no, value_left, prolog_state, state_in, evs_in}
use Rattle.text_right.specs.Sound.{Kept, PartAt, SaidAt, name_ok, NameAt, value_ok, ValueAt, FitsIn, Fits}
use Rattle.text_right.proofs.Matched.{Matches, lift, turn, both, by_test, word_on, word_step}
use Rattle.text_right.proofs.Forms.{same_class, same_row, same_rows, same_rows_lem, up_to, below}
use Rattle.text_right.proofs.Ends.{word_at}
use Rattle.text_right.proofs.Markup.{check_yes, check_no}
use Rattle.text_right.proofs.Opening.{none_said, some_said}

follow_test : ℕ → Bool
follow_test k =
    same (may_follow (said_no k) version) (eqb k 0)
    && (same (may_follow (said_no k) encoding) (eqb k 1) && same (may_follow (said_no k) standalone) (leb 1 k && leb k 2))

follow_pass : T (up_to 4 follow_test)
unfolding up_to follow_test same may_follow said_no part_no when
follow_pass = tt

module _ (k : ℕ) (l : k ≤ 3) where
  all_follow : T (follow_test k)
  all_follow = below 4 follow_test follow_pass k (omega arith)

  pub follow_first : may_follow (said_no k) version ≡ eqb k 0
  unfolding follow_test
  follow_first = same_is _ _ (and_l (same (may_follow (said_no k) version) (eqb k 0)) _ all_follow)

  pub follow_second : may_follow (said_no k) encoding ≡ eqb k 1
  unfolding follow_test
  follow_second =
      same_is _ _ (and_l (same (may_follow (said_no k) encoding) (eqb k 1)) _ (and_r (same (may_follow (said_no k) version) (eqb k 0)) _ all_follow))

  pub follow_third : may_follow (said_no k) standalone ≡ (leb 1 k && leb k 2)
  unfolding follow_test
  follow_third =
      same_is _ _ (and_r (same (may_follow (said_no k) encoding) (eqb k 1)) _ (and_r (same (may_follow (said_no k) version) (eqb k 0)) _ all_follow))

-- the same in both cases
same_all_lem : (t : Bool) (a o p : Outcome) → a ≡ o → p ≡ o → when t a p ≡ o
unfolding when
same_all_lem true a o p e f = e
same_all_lem false a o p e f = f

first_part : (o : Option Part) → State.rows (word (101 ∷ 114 ∷ 115 ∷ 105 ∷ 111 ∷ 110 ∷ []) ∷ []) misplaced [] (State.part_eq o version)
    ≡ State.rows (word (drop 1 (part_name (part_no 1))) ∷ []) misplaced [] (State.part_eq o (part_no 1))
unfolding part_name part_no when
first_part o = refl

second_part : (o : Option Part) → State.rows (word (110 ∷ 99 ∷ 111 ∷ 100 ∷ 105 ∷ 110 ∷ 103 ∷ []) ∷ []) misplaced [] (State.part_eq o encoding)
    ≡ State.rows (word (drop 1 (part_name (part_no 2))) ∷ []) misplaced [] (State.part_eq o (part_no 2))
unfolding part_name part_no when
second_part o = refl

third_part :
    (o : Option Part) → State.rows (word (116 ∷ 97 ∷ 110 ∷ 100 ∷ 97 ∷ 108 ∷ 111 ∷ 110 ∷ 101 ∷ []) ∷ []) misplaced [] (State.part_eq o standalone)
    ≡ State.rows (word (drop 1 (part_name (part_no 3))) ∷ []) misplaced [] (State.part_eq o (part_no 3))
unfolding part_name part_no when
third_part o = refl

first_name : NameAt 1 1
unfolding name_ok when
first_name = record { holds = tt }

second_name : NameAt 2 1
unfolding name_ok when
second_name = record { holds = tt }

third_name : NameAt 3 1
unfolding name_ok when
third_name = record { holds = tt }

-- byte n of the name of the part `row`, as the code has it
name_length : ℕ → ℕ
name_length row = length (part_name (part_no row))

name_test : ℕ → ℕ → Bool
name_test row n =
    eqb (get_or (part_name (part_no row)) n 0) (part_byte row n)
    && (not (eqb (part_byte row n) 0)
    && (ltb n (name_length row)
    && (same (eqb (part_byte row (n + 1)) 0) (not (ltb (n + 1) (name_length row)))
    && (leb 1 row && (not (ltb (n + 1) (name_length row)) || name_ok row (n + 1))))))

names_pass : T (up_to 4 (λ row. up_to 10 (λ n. not (name_ok row n) || name_test row n)))
unfolding up_to name_ok name_test name_length same part_name part_no part_byte when
names_pass = tt

record NamedByte (row n : ℕ) : Type 0 where
  few : n < 10
  byte : get_or (part_name (part_no row)) n 0 ≡ part_byte row n
  some : eqb (part_byte row n) 0 ≡ false
  inside : n < length (part_name (part_no row))
  last : eqb (part_byte row (n + 1)) 0 ≡ not (ltb (n + 1) (length (part_name (part_no row))))
  part : PartAt row
  next : ltb (n + 1) (length (part_name (part_no row))) ≡ true → NameAt row (n + 1)

or_other : (a b : Bool) → T a → T (not a || b) → T b
or_other true b t u = u
or_other false b t u = absurd t

T-not-false : (a : Bool) → T (not a) → a ≡ false
T-not-false true t = absurd t
T-not-false false t = refl

module _ (row n : ℕ) (ok : NameAt row n) where
  row_below : row < 4
  unfolding name_ok
  row_below = leb→le _ _ (and_l (ltb row 4) _ ok.holds)

  few_below : n < 10
  unfolding name_ok
  few_below = leb→le _ _ (and_l (ltb n 10) _ (and_r (ltb row 4) _ ok.holds))

  name_passes : T (name_test row n)
  name_passes =
      or_other (name_ok row n) _ ok.holds
      (below 10 (λ m. not (name_ok row m) || name_test row m)
      (below 4 (λ i. up_to 10 (λ m. not (name_ok i m) || name_test i m)) names_pass row row_below) n few_below)

  named_byte : NamedByte row n
  unfolding name_test name_length
  named_byte =
      let a = eqb (get_or (part_name (part_no row)) n 0) (part_byte row n) in
      let t₁ = and_r a _ name_passes in
      let c = not (eqb (part_byte row n) 0) in
      let t₂ = and_r c _ t₁ in
      let d = ltb n (length (part_name (part_no row))) in
      let t₃ = and_r d _ t₂ in
      let e = same (eqb (part_byte row (n + 1)) 0) (not (ltb (n + 1) (length (part_name (part_no row))))) in
      let t₄ = and_r e _ t₃ in
      let low : 1 ≤ row = leb→le 1 row (and_l (leb 1 row) _ t₄) in
      let high = row_below in
      record {
        few = few_below;
        byte = eqb→eq _ _ (and_l a _ name_passes);
        some = T-not-false (eqb (part_byte row n) 0) (and_l c _ t₁);
        inside = leb→le _ _ (and_l d _ t₂);
        last = same_is _ _ (and_l e _ t₃);
        part = record { low = low; high = omega arith };
        next =
            λ q.
            record { holds = or_other (ltb (n + 1) (length (part_name (part_no row)))) (name_ok row (n + 1)) (subst T (sym q) tt) (and_r (leb 1 row) _ t₄) };
      }

-- a value's rows before its first byte
first_test : ℕ → Bool
first_test row =
    same_rows (part_values (part_no row) 34) (value_left row 0 34) && (same_rows (part_values (part_no row) 39) (value_left row 0 39) && value_ok row 0)

firsts_pass : T (up_to 4 (λ row. not (leb 1 row) || first_test row))
unfolding up_to first_test same_rows same_row same_class part_values part_no value_left value_ok when word words
firsts_pass = tt

record ValueFirst (row : ℕ) : Type 0 where
  double : part_values (part_no row) 34 ≡ value_left row 0 34
  single : part_values (part_no row) 39 ≡ value_left row 0 39
  begun : ValueAt row 0

value_first : (row : ℕ) → PartAt row → ValueFirst row
unfolding first_test
value_first row h =
    let high = h.high in
    let u = below 4 (λ i. not (leb 1 i) || first_test i) firsts_pass row (omega arith) in
    let t : T (first_test row) = or_other (leb 1 row) (first_test row) (le→leb 1 row h.low) u in
    let a = same_rows (part_values (part_no row) 34) (value_left row 0 34) in
    let c = same_rows (part_values (part_no row) 39) (value_left row 0 39) in
    record {
      double = same_rows_lem _ _ (and_l a (c && value_ok row 0) t);
      single = same_rows_lem _ _ (and_l c (value_ok row 0) (and_r a (c && value_ok row 0) t));
      begun = record { holds = and_r c (value_ok row 0) (and_r a (c && value_ok row 0) t) };
    }

module _ (r : Reader) (R : List ℕ) (b : ℕ) (kept : Kept R r.place) (at : r.place ≡ 0) where
  pub piece_right : SaidAt r.count → Matches (step bounds (State.apiece (said_no r.count)) b) (piece_tick marks_table r b) R
  unfolding step pick piece_tick state_in prolog_state evs_in
  piece_right h =
      let o = said_no r.count in
      let m = h.most in
      both _ _ (blank_mark b)
      (λ e. Matches.moves refl refl (record { kept = kept; fits = Fits.prolog' at (FitsIn.piece h) }))
      (λ e.
      by_test (eqb r.count 0)
      (λ z.
      let z' : r.count ≡ 0 = eqb-true _ 0 z in
      let none = ap said_no z' ∙ none_said in
      by_test (eqb b 118)
      (λ f.
      Matches.moves refl
      (when_false _ _ _ (other b 118 63 (eqb-true b 118 f) refl)
      ∙ when_true _ _ _ f
      ∙ check_yes _ _ _ (follow_first r.count m ∙ z)
      ∙ ap (goes []) (first_part o))
      (record { kept = kept; fits = Fits.prolog' at (FitsIn.part h first_name) }))
      (λ f.
      Matches.stops (omega arith)
      (same_all_lem _ _ _ _ (ap apiece_end none)
      (when_false _ _ _ f
      ∙ same_all_lem _ _ _ _ (check_no _ _ _ (follow_second r.count m ∙ other r.count 0 1 z' refl))
      (same_all_lem _ _ _ _ (check_no _ _ _ (follow_third r.count m ∙ ap (λ x. leb 1 x && leb x 2) z')) refl)))))
      (λ z.
      let low : 1 ≤ r.count = low_of (eqb-false _ 0 z) in
      both _ _ refl
      (λ f. Matches.moves refl (ap apiece_end (some_said r.count low)) (record { kept = kept; fits = Fits.prolog' at FitsIn.query }))
      (λ f.
      by_test (eqb b 101)
      (λ g.
      lift (when_false _ _ _ (other b 101 118 (eqb-true b 101 g) refl) ∙ when_true _ _ _ g)
      (by_test (eqb r.count 1)
      (λ i.
      Matches.moves refl (check_yes _ _ _ (follow_second r.count m ∙ i) ∙ ap (goes []) (second_part o))
      (record { kept = kept; fits = Fits.prolog' at (FitsIn.part h second_name) }))
      (λ i. Matches.stops (omega arith) (check_no _ _ _ (follow_second r.count m ∙ i)))))
      (λ g.
      by_test (eqb b 115)
      (λ i.
      lift (when_false _ _ _ (other b 115 118 (eqb-true b 115 i) refl) ∙ when_false _ _ _ g ∙ when_true _ _ _ i)
      (by_test (leb r.count 2)
      (λ j.
      Matches.moves refl
      (check_yes _ _ _ (follow_third r.count m ∙ ap₂ (λ x y. x && y) (le-leb 1 r.count low) j) ∙ ap (goes []) (third_part o))
      (record { kept = kept; fits = Fits.prolog' at (FitsIn.part h third_name) }))
      (λ j. Matches.stops (omega arith) (check_no _ _ _ (follow_third r.count m ∙ ap₂ (λ x y. x && y) (le-leb 1 r.count low) j)))))
      (λ i.
      Matches.stops (omega arith)
      (same_all_lem _ _ _ _ (check_no _ _ _ (follow_first r.count m ∙ z)) (when_false _ _ _ g ∙ when_false _ _ _ i)))))))
    where
      low_of : (r.count ≡ 0 → ⊥) → 1 ≤ r.count
      low_of f = omega arith

  pub equals_right :
      SaidAt r.count → PartAt r.row
      → Matches (step bounds (State.part_eq (said_no r.count) (part_no r.row)) b) (part_equals_tick marks_table r b) R
  unfolding step pick part_equals_tick state_in prolog_state evs_in
  equals_right h k =
      both _ _ (blank_mark b)
      (λ e. Matches.moves refl refl (record { kept = kept; fits = Fits.prolog' at (FitsIn.part_equals h k) }))
      (λ e.
      both _ _ refl
      (λ f. Matches.moves refl refl (record { kept = kept; fits = Fits.prolog' at (FitsIn.part_value h k) }))
      (λ f. Matches.stops (omega arith) refl))

  pub part_right :
      SaidAt r.count → NameAt r.row r.n
      → Matches
      (step bounds (State.rows (word (drop r.n (part_name (part_no r.row))) ∷ []) misplaced [] (State.part_eq (said_no r.count) (part_no r.row))) b)
      (part_tick r b) R
  unfolding step pick part_tick state_in prolog_state evs_in
  part_right h ok =
      let w = part_name (part_no r.row) in
      let n = r.n in
      let k = State.part_eq (said_no r.count) (part_no r.row) in
      let t = named_byte r.row r.n ok in
      let few = t.few in
      turn (when_false _ _ _ (lt-leb 10 r.n few))
      (turn (when_false _ _ _ t.some)
      (lift
      (ap (λ v. settle (derive b (word v ∷ [])) misplaced [] k) (drop-cons w n 0 t.inside)
      ∙ word_step (get_or w n 0) (drop (suc n) w) misplaced [] k b
      ∙ ap (λ c. when (eqb b c) (word_on (drop (suc n) w) misplaced [] k) (refused misplaced)) t.byte)
      (both _ _ refl
      (λ f.
      let on = ap (λ m. word_on (drop m w) misplaced [] k) (sym (add-one n)) ∙ word_at w (n + 1) misplaced k (ltb (n + 1) (length w)) refl in
      by_test (eqb (part_byte r.row (r.n + 1)) 0)
      (λ z.
      Matches.moves refl (on ∙ ap (goes []) (when_false _ _ _ (not-true _ (sym t.last ∙ z))))
      (record { kept = kept; fits = Fits.prolog' at (FitsIn.part_equals h t.part) }))
      (λ z.
      let more = not-false _ (sym t.last ∙ z) in
      Matches.moves refl (on ∙ ap (goes []) (when_true _ _ _ more))
      (record { kept = kept; fits = Fits.prolog' at (FitsIn.part h (t.next more)) })))
      (λ f. Matches.stops (omega arith) refl))))

  pub value_right :
      SaidAt r.count → PartAt r.row
      → Matches (step bounds (State.part_val (said_no r.count) (part_no r.row)) b) (part_value_tick marks_table r b) R
  unfolding step pick part_value_tick state_in prolog_state evs_in
  value_right h k =
      let v = value_first r.row k in
      both _ _ (blank_mark b)
      (λ e. Matches.moves refl refl (record { kept = kept; fits = Fits.prolog' at (FitsIn.part_value h k) }))
      (λ e.
      both _ _ refl
      (λ f.
      Matches.moves refl (ap (λ x. goes [] (State.rows x (part_refusal (part_no r.row)) [] (State.told (part_no r.row)))) v.double)
      (record { kept = kept; fits = Fits.prolog' at (FitsIn.part_double v.begun) }))
      (λ f.
      both _ _ refl
      (λ g.
      Matches.moves refl (ap (λ x. goes [] (State.rows x (part_refusal (part_no r.row)) [] (State.told (part_no r.row)))) v.single)
      (record { kept = kept; fits = Fits.prolog' at (FitsIn.part_single v.begun) }))
      (λ g. Matches.stops (omega arith) refl)))
