-- The rows of bytes that stand for Chars are their UTF-8 forms.
--
--   form_1, form_2, form_3, form_4     the form of a code point, by its size
--   wide_forms          a spelling of a row of `utf8` is the form of a Char above 127, and each such form is one
--   char_forms          the same for all Chars
--
-- Assumes nothing.
use Rattle.std.specs.Prelude.{ℕ, ◌+◌, ◌*◌, ◌-◌, ◌/◌, ◌≤◌, ◌<◌, ◌≡◌, ◌↔◌, true, false, List, [], ◌∷◌, ltb}
use Rattle.std.proofs.Common.{arith, sym, ap, ap₂, ◌∙◌, subst, leb→le, le→leb}
use Rattle.std.proofs.Math.Decide.{dec_lt}
use Rattle.choice.specs.When.{when_true, when_false}
use Rattle.xml.specs.Class.{Range, to, only, In, OneOf, this, that, end, place}
use Rattle.xml.proofs.Class.Laws.{T_true, T_false}
use Rattle.xml.specs.Chars.{utf8}
use Rattle.xml.specs.Grammar.{Char, narrow, wide}
use Rattle.xml.specs.Table.{ascii}
use Rattle.xml.specs.Wording.{code_points, encode, tail}
use Rattle.reading.specs.Within.{Within, here, there, in_within, within_in}

below : (n m : ℕ) → n < m → ltb n m ≡ true
below n m h = T_true _ (le→leb _ _ h)

above : (n m : ℕ) → m ≤ n → ltb n m ≡ false
above n m h = T_false _ (λ t. let g : n < m = leb→le _ _ t in omega arith)

form_1 : (n : ℕ) → n < 0x80 → encode n ≡ n ∷ []
unfolding encode
form_1 n h = when_true _ _ _ (below n 0x80 h)

form_2 : (n : ℕ) → 0x80 ≤ n → n < 0x800 → encode n ≡ (192 + n / 64) ∷ tail n ∷ []
unfolding encode
form_2 n l h = when_false _ _ _ (above n 0x80 l) ∙ when_true _ _ _ (below n 0x800 h)

form_3 : (n : ℕ) → 0x800 ≤ n → n < 0x10000 → encode n ≡ (224 + n / 64 / 64) ∷ tail (n / 64) ∷ tail n ∷ []
unfolding encode
form_3 n l h = when_false _ _ _ (above n 0x80 (omega arith)) ∙ when_false _ _ _ (above n 0x800 l) ∙ when_true _ _ _ (below n 0x10000 h)

form_4 : (n : ℕ) → 0x10000 ≤ n → encode n ≡ (240 + n / 64 / 64 / 64) ∷ tail (n / 64 / 64) ∷ tail (n / 64) ∷ tail n ∷ []
unfolding encode
form_4 n l = when_false _ _ _ (above n 0x80 (omega arith)) ∙ when_false _ _ _ (above n 0x800 (omega arith)) ∙ when_false _ _ _ (above n 0x10000 l)

-- a code point above 127 with the form w
pub record Form (w : List ℕ) : Type 0 where
  pub point : ℕ
  pub high : 128 ≤ point
  pub char : In code_points point
  pub form : w ≡ encode point

-- a digit of six bits behind a number
abbrev put : ℕ → ℕ → ℕ
put n b = n * 64 + (b - 128)

put_rest : (n b : ℕ) → 128 ≤ b → b ≤ 191 → put n b / 64 ≡ n
put_rest n b l h = omega arith

put_tail : (n b : ℕ) → 128 ≤ b → b ≤ 191 → b ≡ tail (put n b)
put_tail n b l h = omega arith

module _ (b : ℕ) (lb : 128 ≤ b) (hb : b ≤ 191) where
  two : (a : ℕ) → 194 ≤ a → a ≤ 223 → Form (a ∷ b ∷ [])
  two a la ha =
      let n : ℕ = put (a - 192) b in
      let x : a ≡ 192 + n / 64 = omega arith in
      record {
        point = n;
        high = omega arith;
        char = within_in (there (there (here (omega arith) (omega arith))));
        form = ap₂ (λ x y. x ∷ y ∷ []) x (put_tail (a - 192) b lb hb) ∙ sym (form_2 n (omega arith) (omega arith));
      }

  module _ (c : ℕ) (lc : 128 ≤ c) (hc : c ≤ 191) where
    three :
        (a : ℕ)
        → 224 ≤ a
        → a ≤ 239
        → 0x800 ≤ put (put (a - 224) b) c
        → In code_points (put (put (a - 224) b) c)
        → Form (a ∷ b ∷ c ∷ [])
    three a la ha g i =
        let m : ℕ = put (a - 224) b in
        let n : ℕ = put m c in
        let r : n / 64 ≡ m = put_rest m c lc hc in
        let q : m / 64 ≡ a - 224 = put_rest (a - 224) b lb hb in
        let x : a ≡ 224 + n / 64 / 64 = subst (λ z. a ≡ 224 + z / 64) (sym r) (omega (arith, q)) in
        let y : b ≡ tail (n / 64) = subst (λ z. b ≡ tail z) (sym r) (put_tail (a - 224) b lb hb) in
        let z : c ≡ tail n = put_tail m c lc hc in
        record {
          point = n;
          high = omega arith;
          char = i;
          form = ap₂ (λ x v. x ∷ v) x (ap₂ (λ x y. x ∷ y ∷ []) y z) ∙ sym (form_3 n g (omega arith));
        }

    module _ (d : ℕ) (ld : 128 ≤ d) (hd : d ≤ 191) where
      four :
          (a : ℕ) → 240 ≤ a → 0x10000 ≤ put (put (put (a - 240) b) c) d → put (put (put (a - 240) b) c) d ≤ 0x10ffff → Form (a ∷ b ∷ c ∷ d ∷ [])
      four a la g h =
          let k : ℕ = put (a - 240) b in
          let m : ℕ = put k c in
          let n : ℕ = put m d in
          let r : n / 64 ≡ m = put_rest m d ld hd in
          let q : m / 64 ≡ k = put_rest k c lc hc in
          let p : k / 64 ≡ a - 240 = put_rest (a - 240) b lb hb in
          let s : n / 64 / 64 ≡ k = ap (λ z. z / 64) r ∙ q in
          let x : a ≡ 240 + n / 64 / 64 / 64 = subst (λ z. a ≡ 240 + z / 64) (sym s) (omega (arith, p)) in
          let y : b ≡ tail (n / 64 / 64) = subst (λ z. b ≡ tail z) (sym s) (put_tail (a - 240) b lb hb) in
          let z : c ≡ tail (n / 64) = subst (λ z. c ≡ tail z) (sym r) (put_tail k c lc hc) in
          record {
            point = n;
            high = omega arith;
            char = within_in (there (there (there (there (here g h)))));
            form = ap₂ (λ x v. x ∷ v) x (ap₂ (λ x v. x ∷ v) y (ap₂ (λ x y. x ∷ y ∷ []) z (put_tail m d ld hd))) ∙ sym (form_4 n g);
          }

-- below the surrogates, between them and U+FFFD
low : (n : ℕ) → 0x20 ≤ n → n ≤ 0xd7ff → In code_points n
low n l h = within_in (there (there (here l h)))

mid : (n : ℕ) → 0xe000 ≤ n → n ≤ 0xfffd → In code_points n
mid n l h = within_in (there (there (there (here l h))))

one_range : {r : Range} {b : ℕ} → In (r ∷ []) b → (r.lo ≤ b) × (b ≤ r.hi)
one_range h = go (in_within h)
  where
    go : {r : Range} {b : ℕ} → Within (r ∷ []) b → (r.lo ≤ b) × (b ≤ r.hi)
    go (here l h) = (l, h)
    go (there x4) = elim x4 [ ]

row_form : {w : List ℕ} → OneOf utf8 w → Form w
row_form (this (place {b = a} i (place {b = b} j end))) =
    let x = one_range i in
    let y = one_range j in
    two b y.0 y.1 a x.0 x.1
row_form (that (this (place {b = a} i (place {b = b} j (place {b = c} k end))))) =
    let x = one_range i in
    let y = one_range j in
    let z = one_range k in
    three b (omega arith) y.1 c z.0 z.1 a x.0 (omega arith) (omega arith) (low _ (omega arith) (omega arith))
row_form (that (that (this (place {b = a} i (place {b = b} j (place {b = c} k end)))))) =
    let y = one_range j in
    let z = one_range k in
    go (in_within i) y z
  where
    go : {a b c : ℕ} → Within (to 225 236 ∷ only 238 ∷ []) a → (128 ≤ b) × (b ≤ 191) → (128 ≤ c) × (c ≤ 191) → Form (a ∷ b ∷ c ∷ [])
    go {a} {b} {c} (here l h) y z = three b y.0 y.1 c z.0 z.1 a (omega arith) (omega arith) (omega arith) (low _ (omega arith) (omega arith))
    go {a} {b} {c} (there (here l h)) y z =
        three b y.0 y.1 c z.0 z.1 a (omega arith) (omega arith) (omega arith) (mid _ (omega arith) (omega arith))
    go {a = a} {b = b} {c = c} (there (there x35)) y z = elim x35 [ ]
row_form (that (that (that (this (place {b = a} i (place {b = b} j (place {b = c} k end))))))) =
    let x = one_range i in
    let y = one_range j in
    let z = one_range k in
    three b y.0 (omega arith) c z.0 z.1 a (omega arith) (omega arith) (omega arith) (low _ (omega arith) (omega arith))
row_form (that (that (that (that (this (place {b = a} i (place {b = b} j (place {b = c} k end)))))))) =
    let x = one_range i in
    let y = one_range j in
    let z = one_range k in
    three b y.0 (omega arith) c z.0 z.1 a (omega arith) (omega arith) (omega arith) (mid _ (omega arith) (omega arith))
row_form (that (that (that (that (that (this (place {b = a} i (place {b = b} j (place {b = c} k end))))))))) =
    let x = one_range i in
    let y = one_range j in
    let z = one_range k in
    three b (omega arith) (omega arith) c z.0 (omega arith) a (omega arith) (omega arith) (omega arith) (mid _ (omega arith) (omega arith))
row_form (that (that (that (that (that (that (this (place {b = a} i (place {b = b} j (place {b = c} k (place {b = d} l end))))))))))) =
    let x = one_range i in
    let y = one_range j in
    let z = one_range k in
    let v = one_range l in
    four b (omega arith) y.1 c z.0 z.1 d v.0 v.1 a (omega arith) (omega arith) (omega arith)
row_form (that (that (that (that (that (that (that (this (place {b = a} i (place {b = b} j (place {b = c} k (place {b = d} l end)))))))))))) =
    let x = one_range i in
    let y = one_range j in
    let z = one_range k in
    let v = one_range l in
    four b y.0 y.1 c z.0 z.1 d v.0 v.1 a (omega arith) (omega arith) (omega arith)
row_form (that (that (that (that (that (that (that (that (this (place {b = a} i (place {b = b} j (place {b = c} k (place {b = d} l end))))))))))))) =
    let x = one_range i in
    let y = one_range j in
    let z = one_range k in
    let v = one_range l in
    four b y.0 (omega arith) c z.0 z.1 d v.0 v.1 a (omega arith) (omega arith) (omega arith)
row_form {w = w} (that (that (that (that (that (that (that (that (that x36))))))))) = elim x36 [ ]

tail_in : (n : ℕ) → In (to 128 191 ∷ []) (tail n)
tail_in n = within_in (here (omega arith) (omega arith))

two_row : (n : ℕ) → 0x80 ≤ n → n < 0x800 → OneOf utf8 (encode n)
two_row n l h =
    subst (OneOf utf8) (sym (form_2 n l h)) (this (place (within_in (here (omega arith) (omega arith))) (place (tail_in n) end)))

module _ (n : ℕ) where
  row_2 : 0x800 ≤ n → n < 0x1000 → OneOf utf8 (encode n)
  row_2 l h =
      subst (OneOf utf8) (sym (form_3 n l (omega arith)))
      (that (this (place (within_in (here (omega arith) (omega arith))) (place (within_in (here (omega arith) (omega arith))) (place (tail_in n) end)))))

  row_3 : 0x1000 ≤ n → n < 0xd000 → OneOf utf8 (encode n)
  row_3 l h =
      subst (OneOf utf8) (sym (form_3 n (omega arith) (omega arith)))
      (that (that (this (place (within_in (here (omega arith) (omega arith))) (place (tail_in (n / 64)) (place (tail_in n) end))))))

  row_4 : 0xd000 ≤ n → n ≤ 0xd7ff → OneOf utf8 (encode n)
  row_4 l h =
      subst (OneOf utf8) (sym (form_3 n (omega arith) (omega arith)))
      (that (that (that (this
      (place (within_in (here (omega arith) (omega arith))) (place (within_in (here (omega arith) (omega arith))) (place (tail_in n) end)))))))

  row_3' : 0xe000 ≤ n → n < 0xf000 → OneOf utf8 (encode n)
  row_3' l h =
      subst (OneOf utf8) (sym (form_3 n (omega arith) (omega arith)))
      (that (that (this (place (within_in (there (here (omega arith) (omega arith)))) (place (tail_in (n / 64)) (place (tail_in n) end))))))

  row_5 : 0xf000 ≤ n → n < 0xffc0 → OneOf utf8 (encode n)
  row_5 l h =
      subst (OneOf utf8) (sym (form_3 n (omega arith) (omega arith)))
      (that (that (that (that (this
      (place (within_in (here (omega arith) (omega arith))) (place (within_in (here (omega arith) (omega arith))) (place (tail_in n) end))))))))

  row_6 : 0xffc0 ≤ n → n ≤ 0xfffd → OneOf utf8 (encode n)
  row_6 l h =
      subst (OneOf utf8) (sym (form_3 n (omega arith) (omega arith)))
      (that (that (that (that (that (this
      (place (within_in (here (omega arith) (omega arith)))
      (place (within_in (here (omega arith) (omega arith))) (place (within_in (here (omega arith) (omega arith))) end)))))))))

  row_7 : 0x10000 ≤ n → n < 0x40000 → OneOf utf8 (encode n)
  row_7 l h =
      subst (OneOf utf8) (sym (form_4 n l))
      (that (that (that (that (that (that (this
      (place (within_in (here (omega arith) (omega arith)))
      (place (within_in (here (omega arith) (omega arith))) (place (tail_in (n / 64)) (place (tail_in n) end)))))))))))

  row_8 : 0x40000 ≤ n → n < 0x100000 → OneOf utf8 (encode n)
  row_8 l h =
      subst (OneOf utf8) (sym (form_4 n (omega arith)))
      (that (that (that (that (that (that (that (this
      (place (within_in (here (omega arith) (omega arith))) (place (tail_in (n / 64 / 64)) (place (tail_in (n / 64)) (place (tail_in n) end))))))))))))

  row_9 : 0x100000 ≤ n → n ≤ 0x10ffff → OneOf utf8 (encode n)
  row_9 l h =
      subst (OneOf utf8) (sym (form_4 n (omega arith)))
      (that (that (that (that (that (that (that (that (this
      (place (within_in (here (omega arith) (omega arith)))
      (place (within_in (here (omega arith) (omega arith))) (place (tail_in (n / 64)) (place (tail_in n) end)))))))))))))

  split : {A : Type 0} (m : ℕ) → (n < m → A) → (m ≤ n → A) → A
  split {A} m f g = go (dec_lt n m)
    where
      go : Dec (n < m) → A
      go (yes h) = f h
      go (no h) = g (omega arith)

  form_row : 128 ≤ n → Within code_points n → OneOf utf8 (encode n)
  form_row l (here a b) = absurd (omega arith)
  form_row l (there (here a b)) = absurd (omega arith)
  form_row l (there (there (here a b))) =
      split 0x800 (two_row n l) (λ x. split 0x1000 (row_2 x) (λ y. split 0xd000 (row_3 y) (λ z. row_4 z b)))
  form_row l (there (there (there (here a b)))) = split 0xf000 (row_3' a) (λ x. split 0xffc0 (row_5 x) (λ y. row_6 y b))
  form_row l (there (there (there (there (here a b))))) = split 0x40000 (row_7 a) (λ x. split 0x100000 (row_8 x) (λ y. row_9 y b))
  form_row l (there (there (there (there (there x20))))) = elim x20 [ ]

-- [2] Char above #x7F, as UTF-8
pub wide_forms : (w : List ℕ) → OneOf utf8 w ↔ ((n : ℕ) × (128 ≤ n) × In code_points n × (w ≡ encode n))
wide_forms w = (
  λ o. let f = row_form o in (f.point, f.high, f.char, f.form),
  λ h. subst (OneOf utf8) (sym h.3) (form_row h.0 h.1 (in_within h.2)),
)

narrow_form : {b : ℕ} → Within ascii b → (n : ℕ) × In code_points n × (b ∷ [] ≡ encode n)
narrow_form {b} (here l h) = (b, within_in (here l h), sym (form_1 b (omega arith)))
narrow_form {b} (there (here l h)) = (b, within_in (there (here l h)), sym (form_1 b (omega arith)))
narrow_form {b} (there (there (here l h))) = (b, within_in (there (there (here l (omega arith)))), sym (form_1 b (omega arith)))
narrow_form {b = b} (there (there (there x12))) = elim x12 [ ]

ascii_within : {n : ℕ} → n < 128 → Within code_points n → Within ascii n
ascii_within l (here a b) = here a b
ascii_within l (there (here a b)) = there (here a b)
ascii_within {n} l (there (there (here a b))) = let m : n ≤ 127 = omega arith in there (there (here a m))
ascii_within l (there (there (there (here a b)))) = absurd (omega arith)
ascii_within l (there (there (there (there (here a b))))) = absurd (omega arith)
ascii_within {n = n} l (there (there (there (there (there x20))))) = elim x20 [ ]

-- [2] Char, as UTF-8
pub char_forms : (w : List ℕ) → Char ascii w ↔ ((n : ℕ) × In code_points n × (w ≡ encode n))
char_forms w = (go, λ h. subst (Char ascii) (sym h.2) (back h.0 h.1))
  where
    go : {w : List ℕ} → Char ascii w → (n : ℕ) × In code_points n × (w ≡ encode n)
    go (narrow i) = narrow_form (in_within i)
    go (wide o) = let f = row_form o in (f.point, f.char, f.form)

    back : (n : ℕ) → In code_points n → Char ascii (encode n)
    back n i =
        split n 128 (λ l. subst (Char ascii) (sym (form_1 n l)) (narrow (within_in (ascii_within l (in_within i))))) (λ l. wide (form_row n l (in_within i)))
