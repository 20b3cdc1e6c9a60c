-- How a block of events goes on, over any kind of seat and any way to take one event.
--
--   goes_true                by what the code tests
--   counted_less             a refused event is not counted, and ends the loop
--   none_underway            before the first event
--   turn_underway            one event more
--   underway_done            where no event is looked at any more nothing is left
--   unrefused_underway       a part in which none was refused is a part
--   none_unrefused           of events that none refused, before the first
--   underway_short, unrefused_done     where too little of the buffer or no whole record is left, no event follows
--   taken_underway           one event more that is taken
--   underway_refused         a refused event is the last
--   rest_after               the records after the first of them;  rest_wide: the rest is as long as what is left
--
-- What is large is given explicitly. Assumes nothing.
use Prim.Native.Nat.{ℕ, zero, suc, ◌+◌, ◌-◌, ◌*◌, ◌/◌, ◌≤◌, ◌<◌}
use Rattle.std.proofs.Common.{add-zero, zero-add, ◌∙◌, take-append-drop, length-append}
use Rattle.std.proofs.Common.{drop_of_length-le, drop-drop, length-take-le, take_all, take_at, drop_at}
use Rattle.std.proofs.Math.Nat.{sub-zero}
use native.Mathlib.Omega.{arith}
use Rattle.std.specs.Prelude.{◌≡◌, Bool, eqb, leb}
use Rattle.std.proofs.Math.Path.{refl, sym, ap, ap₂}
use Rattle.std.proofs.Math.Bool.{true, false}
use mathlib.Core.List.{List, ◌++◌, append_assoc, append-nil}
use mir.Val.{bool_byte}
use Rattle.std.proofs.Math.ListN.{length, take, drop, length-drop}
use Rattle.std.proofs.Math.Seq.{take-append-add, drop-append-add}
use borrow.Author.Tests.{eqb-true, eqb-false, eq-eqb, ne_eqb, leb-true, leb-false, lt-ltb, le-ltb}
use Rattle.choice.specs.When.{when, when_true, when_false, when_known, never}
use Rattle.choice.specs.Count.{positive, bool_byte_le}
use Rattle.meaning.specs.Limits.{output_needed}
use Rattle.feed.specs.Fed.{Came, Fed, none, one, and_then, fed, resumed, Underway, UnderwayUnrefused, goes_on, Goes, rest_of, record_at, given_back}

-- whether another event is looked at

pub goes_true : (left refusal room : ℕ) (b : Bool) → b ≡ goes_on left refusal room → b ≡ true → Goes left refusal room
unfolding goes_on
goes_true left refusal room b e h =
    when_known (λ (d : Bool). d ≡ true → Goes left refusal room) _ _ _ (λ t k. never k)
    (λ t.
    when_known (λ (d : Bool). d ≡ true → Goes left refusal room) _ _ _
    (λ z k. record { more = positive left (eqb-false _ _ t); unrefused = eqb-true _ _ z; wide = leb-true _ _ k })
    (λ z k. never k)) (sym e ∙ h)

pub counted_less :
    (n t x x' : ℕ) → x ≡ 0 → t < n → n - (t + bool_byte (eqb x' 0)) + bool_byte (eqb x' 0) < n - t + bool_byte (eqb x 0)
counted_less n t x x' z h = let some : bool_byte (eqb x 0) ≡ 1 = ap bool_byte (eq-eqb x 0 z) in omega (arith, bool_byte_le (eqb x' 0))

-- parts of slices

pub rest_after :
    (t : ℕ) (es first rest : List ℕ) → drop (8 * t) es ≡ first ++ rest → length first ≡ 8 → drop (8 * (t + 1)) es ≡ rest
rest_after t es first rest cut eight =
    let k : 8 * (t + 1) ≡ 8 * t + 8 = omega arith in
    ap (λ j. drop j es) k ∙ sym (drop-drop 8 (8 * t) es) ∙ ap (drop 8) cut ∙ drop_at first rest 8 eight

rest_lent : (a : ℕ) (xs : List ℕ) → rest_of a xs ≡ drop a xs
rest_lent a xs = take_all (length xs - a) (drop a xs) (omega (arith, length-drop a xs))

rest_back : (a : ℕ) (xs ys : List ℕ) → given_back a xs ys ≡ take a xs ++ ys
rest_back a xs ys =
    ap (λ (zs : List ℕ). take a xs ++ (ys ++ zs)) (drop_of_length-le (drop a xs) {i = length xs - a} (omega (arith, length-drop a xs)))
    ∙ ap (λ (zs : List ℕ). take a xs ++ zs) (append-nil ys)

pub rest_wide : (a n : ℕ) (xs : List ℕ) → n ≤ length xs - a → n ≤ length (rest_of a xs)
rest_wide a n xs h = omega (arith, ap length (rest_lent a xs), length-drop a xs)

record_lent : (a : ℕ) (es : List ℕ) → record_at a es ≡ take 8 (drop a es)
record_lent a es = let k : a + 8 - a ≡ 8 = omega arith in ap (λ (n : ℕ). take n (drop a es)) k

module _ {S : Type 0} where
  -- two that agree in each part are the same
  same :
      (s s' : S) (t t' l l' x x' : ℕ) (o o' : List ℕ) → s ≡ s' → t ≡ t' → l ≡ l' → x ≡ x' → o ≡ o' →
      ◌≡◌ {A = Fed S}
      (record { seat = s; taken = t; listed = l; refusal = x; out = o })
      (record { seat = s'; taken = t'; listed = l'; refusal = x'; out = o' })
  same s s' t t' l l' x x' o o' es et el ex eo = λ i. record { seat = es i; taken = et i; listed = el i; refusal = ex i; out = eo i }

  none_and_then : (s : S) (out : List ℕ) (f : Fed S) → and_then (none s out) f ≡ f
  unfolding and_then
  none_and_then s out f = same _ _ _ _ _ _ _ _ _ _ refl (zero-add _) (zero-add _) refl refl

  and_then_none : (r : Fed S) → r.refusal ≡ 0 → and_then r (none r.seat (drop (4 * r.listed) r.out)) ≡ r
  unfolding and_then
  and_then_none r e = same _ _ _ _ _ _ _ _ _ _ refl (add-zero _) (add-zero _) (sym e) (take-append-drop (4 * r.listed) r.out)

  -- parts follow each other
  module _ (r f : Fed S) (fits : 4 * r.listed ≤ length r.out) where
    kept : length (take (4 * r.listed) r.out) + 4 * f.listed ≡ 4 * (r.listed + f.listed)
    kept = omega (arith, length-take-le (4 * r.listed) r.out fits)

    take_both :
        take (4 * (r.listed + f.listed)) (take (4 * r.listed) r.out ++ f.out) ≡ take (4 * r.listed) r.out ++ take (4 * f.listed) f.out
    take_both =
        ap (λ (k : ℕ). take k (take (4 * r.listed) r.out ++ f.out)) (sym kept)
        ∙ take-append-add (take (4 * r.listed) r.out) f.out (4 * f.listed)

    drop_both : drop (4 * (r.listed + f.listed)) (take (4 * r.listed) r.out ++ f.out) ≡ drop (4 * f.listed) f.out
    drop_both =
        ap (λ (k : ℕ). drop k (take (4 * r.listed) r.out ++ f.out)) (sym kept)
        ∙ drop-append-add (take (4 * r.listed) r.out) f.out (4 * f.listed)

    and_then_assoc : (g : Fed S) → and_then r (and_then f g) ≡ and_then (and_then r f) g
    unfolding and_then
    and_then_assoc g =
        same _ _ _ _ _ _ _ _ _ _ refl (omega arith) (omega arith) refl
        (sym (ap (λ (o : List ℕ). o ++ g.out) take_both ∙ append_assoc (take (4 * r.listed) r.out) (take (4 * f.listed) f.out) g.out))

    length_and_then : length f.out ≡ length (drop (4 * r.listed) r.out) → length (take (4 * r.listed) r.out ++ f.out) ≡ length r.out
    length_and_then e =
        omega (
          arith,
          length-append (take (4 * r.listed) r.out) f.out,
          length-take-le (4 * r.listed) r.out fits,
          length-drop (4 * r.listed) r.out,
          e,
        )

  module _ (take-one : S → List ℕ → List ℕ → Came S) (s : S) (es out : List ℕ) where
    pub none_unrefused : UnderwayUnrefused take-one s es out (none s out)
    none_unrefused =
        record {
          told = none_and_then s out _ ∙ ap (λ (m : ℕ). fed take-one m s es out) (sub-zero (length es / 8));
          within = omega arith;
          fits = omega arith;
          long = refl;
          unrefused = refl;
        }

    -- the end

    fed_short : (n : ℕ) (t : S) (fs o : List ℕ) → length o < output_needed → fed take-one n t fs o ≡ none t o
    unfolding fed
    fed_short zero t fs o h = refl
    fed_short (suc n) t fs o h = when_true _ _ _ (lt-ltb (length o) output_needed h)

    -- k is how many were taken, as the code has it
    module _ (r : Fed S) (so : UnderwayUnrefused take-one s es out r) (k : ℕ) (counted : k ≡ r.taken) where
      abbrev so_far : Fed S
      so_far = record { seat = r.seat; taken = k; listed = r.listed; refusal = r.refusal; out = r.out }

      ended :
          fed take-one (length es / 8 - r.taken) r.seat (drop (8 * r.taken) es) (drop (4 * r.listed) r.out)
          ≡ none r.seat (drop (4 * r.listed) r.out) →
          so_far ≡ fed take-one (length es / 8) s es out
      ended e =
          same _ _ _ _ _ _ _ _ _ _ refl counted refl refl refl ∙ sym (and_then_none r so.unrefused) ∙ ap (and_then r) (sym e) ∙ so.told

      pub underway_short : length r.out - 4 * r.listed < output_needed → so_far ≡ fed take-one (length es / 8) s es out
      underway_short h =
          ended (fed_short _ r.seat (drop (8 * r.taken) es) (drop (4 * r.listed) r.out) (omega (arith, length-drop (4 * r.listed) r.out)))

      pub unrefused_done : k ≡ length es / 8 → so_far ≡ fed take-one (length es / 8) s es out
      unfolding fed
      unrefused_done e =
          let z : length es / 8 - r.taken ≡ 0 = omega arith in
          ended (ap (λ m. fed take-one m r.seat (drop (8 * r.taken) es) (drop (4 * r.listed) r.out)) z)

    -- one event more
    module _ (r : Fed S) (so : UnderwayUnrefused take-one s es out r) (wide : output_needed ≤ length r.out - 4 * r.listed) (first rest : List ℕ)
        (cut : drop (8 * r.taken) es ≡ first ++ rest) (eight : length first ≡ 8) where
      more : r.taken < length es / 8
      more = omega (arith, length-drop (8 * r.taken) es, ap length cut, length-append first rest)

      -- an event that came to c, and what follows, with the records fs behind it
      abbrev then_on : List ℕ → Came S → Fed S
      then_on fs c =
          when (eqb c.refusal 0) (and_then (one c) (fed take-one (length es / 8 - (r.taken + 1)) c.seat fs (drop (4 * c.listed) c.out))) (one c)

      -- what was left begins with this event
      begins : (c : Came S) → c ≡ take-one r.seat first (rest_of (4 * r.listed) r.out) →
          fed take-one (length es / 8) s es out ≡ and_then r (then_on rest c)
      unfolding fed
      begins c is =
          let e : length es / 8 - r.taken ≡ suc (length es / 8 - (r.taken + 1)) = let h = more in omega arith in
          let w : output_needed ≤ length (drop (4 * r.listed) r.out) = omega (arith, length-drop (4 * r.listed) r.out) in
          sym so.told
          ∙ ap (and_then r)
          (ap (λ k. fed take-one k r.seat (drop (8 * r.taken) es) (drop (4 * r.listed) r.out)) e
          ∙ when_false _ _ _ (le-ltb _ _ w)
          ∙ ap₂ (λ (x y : List ℕ). then_on y (take-one r.seat x (drop (4 * r.listed) r.out)))
          (ap (take 8) cut ∙ take_at first rest 8 eight) (ap (drop 8) cut ∙ drop_at first rest 8 eight)
          ∙ ap (then_on rest) (ap (take-one r.seat first) (sym (rest_lent (4 * r.listed) r.out)) ∙ sym is))

      module _ (t : S) (o : List ℕ) (long : length o ≡ length (rest_of (4 * r.listed) r.out)) where
        abbrev came : ℕ → ℕ → Came S
        came k listed = record { refusal = k; listed = listed; seat = t; out = o }

        back : given_back (4 * r.listed) r.out o ≡ take (4 * r.listed) r.out ++ o
        back = rest_back (4 * r.listed) r.out o

        pub underway_refused :
            (k n : ℕ) → (k ≡ 0 → ⊥) → n ≡ r.taken → came k 0 ≡ take-one r.seat first (rest_of (4 * r.listed) r.out) →
            record { seat = t; taken = n; listed = r.listed; refusal = k; out = given_back (4 * r.listed) r.out o }
            ≡ fed take-one (length es / 8) s es out
        unfolding and_then
        underway_refused k n f counted is =
            let b : eqb k 0 ≡ false = ne_eqb k 0 f in
            let z : n ≡ r.taken + bool_byte (eqb k 0) = let y = ap bool_byte b in omega arith in
            same _ _ _ _ _ _ _ _ _ _ refl z (sym (add-zero r.listed)) refl back
            ∙ ap (and_then r) (sym (when_false _ _ _ b))
            ∙ sym (begins (came k 0) is)

        pub taken_underway :
            (listed : ℕ) → came 0 listed ≡ take-one r.seat first (rest_of (4 * r.listed) r.out) → 4 * listed ≤ output_needed →
            UnderwayUnrefused take-one s es out
            (record { seat = t; taken = r.taken + 1; listed = r.listed + listed; refusal = 0; out = given_back (4 * r.listed) r.out o })
        unfolding and_then
        taken_underway listed is few =
            let c : Came S = came 0 listed in
            let m : ℕ = length es / 8 - (r.taken + 1) in
            let k : length (take (4 * r.listed) r.out ++ o) ≡ length r.out =
            length_and_then r (one c) so.fits (long ∙ ap length (rest_lent (4 * r.listed) r.out)) in
            record {
              told =
                  ap (λ (x : List ℕ). and_then (record { seat = t; taken = r.taken + 1; listed = r.listed + listed; refusal = 0; out = x })
                  (fed take-one m t (drop (8 * (r.taken + 1)) es) (drop (4 * (r.listed + listed)) x))) back
                  ∙ ap₂ (λ (x y : List ℕ). and_then (and_then r (one c)) (fed take-one m t x y)) (rest_after r.taken es first rest cut eight)
                  (drop_both r (one c) so.fits)
                  ∙ sym (and_then_assoc r (one c) so.fits (fed take-one m t rest (drop (4 * listed) o)))
                  ∙ ap (and_then r) (sym (when_true _ _ _ (eq-eqb 0 0 refl)))
                  ∙ sym (begins c is);
              within = let h = more in omega arith;
              fits = omega (arith, so.fits, few, k, ap length back);
              long = ap length back ∙ k ∙ so.long;
              unrefused = refl;
            }

  module _ (take-one : S → List ℕ → List ℕ → Came S) where
    pub unrefused_underway : (s : S) (es out : List ℕ) (r : Fed S) → UnderwayUnrefused take-one s es out r → Underway take-one s es out r
    unfolding resumed
    unrefused_underway s es out r so =
        record {
          told = when_true _ _ _ (eq-eqb r.refusal 0 so.unrefused) ∙ so.told;
          within = so.within;
          fits = so.fits;
          long = so.long;
        }

    pub none_underway : (s : S) (es out : List ℕ) → Underway take-one s es out (none s out)
    unfolding resumed
    none_underway s es out =
        record {
          told =
              when_true _ _ _ (eq-eqb 0 0 refl) ∙ none_and_then s out _
              ∙ ap (λ (m : ℕ). fed take-one m s es out) (sub-zero (length es / 8));
          within = omega arith;
          fits = omega arith;
          long = refl;
        }

    -- the end
    fed_stopped : (n : ℕ) (s : S) (es out : List ℕ) → goes_on n 0 (length out) ≡ false → fed take-one n s es out ≡ none s out
    unfolding fed goes_on
    fed_stopped zero s es out h = refl
    fed_stopped (suc n) s es out h =
        when_true _ _ _
        (lt-ltb (length out) output_needed
        (leb-false output_needed (length out)
        (sym (when_false (eqb (suc n) 0) false (when (eqb 0 0) (leb output_needed (length out)) false) (ne_eqb (suc n) 0 (λ z. omega arith))
        ∙ when_true (eqb 0 0) (leb output_needed (length out)) false (eq-eqb 0 0 refl))
        ∙ h)))

    resumed_stopped :
        (n : ℕ) (es : List ℕ) (r : Fed S) → goes_on (n - r.taken) r.refusal (length r.out - 4 * r.listed) ≡ false →
        resumed take-one n es r ≡ r
    unfolding resumed
    resumed_stopped n es r h =
        when_known (λ (x : Fed S). x ≡ r) _ _ _
        (λ t.
        let z : r.refusal ≡ 0 = eqb-true _ _ t in
        ap (and_then r)
        (fed_stopped (n - r.taken) r.seat (drop (8 * r.taken) es) (drop (4 * r.listed) r.out)
        (ap (goes_on (n - r.taken) 0) (length-drop (4 * r.listed) r.out)
        ∙ ap (λ (x : ℕ). goes_on (n - r.taken) x (length r.out - 4 * r.listed)) (sym z)
        ∙ h))
        ∙ and_then_none r z)
        (λ t. refl)

    pub underway_done :
        (s : S) (es out : List ℕ) (r : Fed S) → Underway take-one s es out r → (b : Bool) →
        b ≡ goes_on (length es / 8 - r.taken) r.refusal (length r.out - 4 * r.listed) → b ≡ false → r ≡ fed take-one (length es / 8) s es out
    underway_done s es out r so b e h = sym (resumed_stopped (length es / 8) es r (sym e ∙ h)) ∙ so.told

    -- one event more
    module _ (n : ℕ) (es : List ℕ) (r : Fed S) (z : r.refusal ≡ 0) (fits : 4 * r.listed ≤ length r.out) (more : r.taken < n)
        (wide : output_needed ≤ length r.out - 4 * r.listed) (c : Came S)
        (is : c ≡ take-one r.seat (take 8 (drop (8 * r.taken) es)) (drop (4 * r.listed) r.out)) where
      abbrev next : ℕ → Fed S
      next m = fed take-one m c.seat (drop 8 (drop (8 * r.taken) es)) (drop (4 * c.listed) c.out)

      -- what was left begins with this event
      rest_is :
          (m : ℕ) → n - r.taken ≡ suc m →
          fed take-one (n - r.taken) r.seat (drop (8 * r.taken) es) (drop (4 * r.listed) r.out)
          ≡ when (eqb c.refusal 0) (and_then (one c) (next m)) (one c)
      unfolding fed
      rest_is m e =
          let w : output_needed ≤ length (drop (4 * r.listed) r.out) = omega (arith, length-drop (4 * r.listed) r.out) in
          ap (λ k. fed take-one k r.seat (drop (8 * r.taken) es) (drop (4 * r.listed) r.out)) e
          ∙ when_false _ _ _ (le-ltb _ _ w)
          ∙ ap (λ (y : Came S). when (eqb y.refusal 0)
          (and_then (one y) (fed take-one m y.seat (drop 8 (drop (8 * r.taken) es)) (drop (4 * y.listed) y.out))) (one y)) (sym is)

      turn_either :
          (b : Bool) → eqb c.refusal 0 ≡ b → (m : ℕ) → n - r.taken ≡ suc m →
          resumed take-one n es (and_then r (one c)) ≡ and_then r (when b (and_then (one c) (next m)) (one c))
      unfolding resumed and_then
      turn_either true e m em =
          let t : bool_byte (eqb c.refusal 0) ≡ 1 = ap bool_byte e in
          let k : n - (r.taken + bool_byte (eqb c.refusal 0)) ≡ m = omega arith in
          let a : 8 * (r.taken + bool_byte (eqb c.refusal 0)) ≡ 8 * r.taken + 8 = omega arith in
          when_true _ _ _ e
          ∙ ap (and_then (and_then r (one c)))
          (ap (λ j. fed take-one j c.seat (drop (8 * (r.taken + bool_byte (eqb c.refusal 0))) es)
          (drop (4 * (r.listed + c.listed)) (take (4 * r.listed) r.out ++ c.out))) k
          ∙ ap₂ (λ x y. fed take-one m c.seat x y) (ap (λ j. drop j es) a ∙ sym (drop-drop 8 (8 * r.taken) es)) (drop_both r (one c) fits))
          ∙ sym (and_then_assoc r (one c) fits (next m))
          ∙ ap (and_then r) (sym (when_true true (and_then (one c) (next m)) (one c) refl))
      turn_either false e m em =
          when_false _ _ _ e ∙ ap (and_then r) (sym (when_false false (and_then (one c) (next m)) (one c) refl))

      turn_is : resumed take-one n es (and_then r (one c)) ≡ resumed take-one n es r
      unfolding resumed
      turn_is =
          let m : ℕ = n - r.taken - 1 in
          let e : n - r.taken ≡ suc m = omega arith in
          turn_either (eqb c.refusal 0) refl m e ∙ ap (and_then r) (sym (rest_is m e)) ∙ sym (when_true _ _ _ (eq-eqb r.refusal 0 z))

    pub turn_underway :
        (s : S) (es out : List ℕ) (r : Fed S) → Underway take-one s es out r → Goes (length es / 8 - r.taken) r.refusal (length r.out - 4 * r.listed) →
        (refusal listed : ℕ) (t : S) (o : List ℕ) →
        ◌≡◌ {A = Came S} (record { refusal = refusal; listed = listed; seat = t; out = o })
        (take-one r.seat (record_at (8 * r.taken) es) (rest_of (4 * r.listed) r.out)) →
        length o ≡ length (rest_of (4 * r.listed) r.out) → 4 * listed ≤ output_needed →
        Underway take-one s es out
        (record {
          seat = t;
          taken = r.taken + bool_byte (eqb refusal 0);
          listed = r.listed + listed;
          refusal = refusal;
          out = given_back (4 * r.listed) r.out o;
        })
    unfolding and_then
    turn_underway s es out r so goes refusal listed t o is el few =
        let c : Came S = record { refusal = refusal; listed = listed; seat = t; out = o } in
        let e : given_back (4 * r.listed) r.out o ≡ take (4 * r.listed) r.out ++ o = rest_back (4 * r.listed) r.out o in
        let k : length (take (4 * r.listed) r.out ++ o) ≡ length r.out =
        length_and_then r (one c) so.fits (el ∙ ap length (rest_lent (4 * r.listed) r.out)) in
        record {
          told =
              ap (λ (x : List ℕ). resumed take-one (length es / 8) es (record {
                seat = t;
                taken = r.taken + bool_byte (eqb refusal 0);
                listed = r.listed + listed;
                refusal = refusal;
                out = x;
              })) e
              ∙ turn_is (length es / 8) es r goes.unrefused so.fits (omega (arith, goes.more)) goes.wide c
              (is ∙ ap₂ (take-one r.seat) (record_lent (8 * r.taken) es) (rest_lent (4 * r.listed) r.out))
              ∙ so.told;
          within = omega (arith, goes.more, bool_byte_le (eqb refusal 0));
          fits = omega (arith, goes.wide, so.fits, few, k, ap length e);
          long = ap length e ∙ k ∙ so.long;
        }
