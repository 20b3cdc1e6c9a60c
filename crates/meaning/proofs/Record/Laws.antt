-- The event record of document 01, byte by byte.
--
--   Number n          n is a name number: 1 to 65,535
--   Records bs e      the bytes bs are the record of the event e
--   event_exactly     event_of finds the event that bs records, and finds none elsewhere
--   bad_exactly       a bad record is one of no event
--
-- Assumes nothing.
use Rattle.std.specs.Prelude.{ℕ, zero, suc, ◌+◌, ◌*◌, ◌↔◌, ◌⊎◌, ◌≡◌, refl, Bool, true, false, ◌||◌, List, [], ◌∷◌, T, eqb, leb, length}
use Rattle.std.proofs.Common.{arith, inl, inr, sym, ap, ◌∙◌, subst, eqb→eq, leb→le, le→leb}
use Rattle.std.proofs.Math.Option.{Option, none, some}
use Rattle.meaning.specs.Logic.{is_true, and_l, and_r, and_i, or_case}
use Rattle.meaning.specs.Name.{is_name}
use Rattle.meaning.specs.Stream.{Event, opens, closes}
use Rattle.meaning.specs.Record.{byte, name_in, is_record, event_if, event_of}
use Rattle.meaning.specs.Record.Laws.{Number, Records, open_record, close_record}

pub name_exactly : (n : ℕ) → T (is_name n) ↔ Number n
unfolding is_name
name_exactly n = (
  λ t. record { from = leb→le 1 n (and_l (leb 1 n) _ t); to = leb→le n 65_535 (and_r (leb 1 n) _ t) },
  λ k. and_i (leb 1 n) _ (le→leb 1 n k.from) (le→leb n 65_535 k.to),
)

-- a record's bytes, one after the other
list_of : ℕ → (ℕ → ℕ) → List ℕ
list_of zero f = []
list_of (suc n) f = f 0 ∷ list_of n (λ i. f (suc i))

bytes_of : (bs : List ℕ) → bs ≡ list_of (length bs) (byte bs)
unfolding list_of
bytes_of [] = refl
bytes_of (b ∷ bs) = ap (◌∷◌ b) (bytes_of bs)

eight_bytes :
    (bs : List ℕ) → length bs ≡ 8 →
    bs ≡ byte bs 0 ∷ byte bs 1 ∷ byte bs 2 ∷ byte bs 3 ∷ byte bs 4 ∷ byte bs 5 ∷ byte bs 6 ∷ byte bs 7 ∷ []
unfolding list_of
eight_bytes bs e = bytes_of bs ∙ ap (λ n. list_of n (byte bs)) e

-- what a well-formed record is made of
record Made (kind : ℕ) (bs : List ℕ) : Type 0 where
  bytes : bs ≡ kind ∷ 0 ∷ byte bs 2 ∷ byte bs 3 ∷ 0 ∷ 0 ∷ 0 ∷ 0 ∷ []
  named : Number (name_in bs)

made : (kind : ℕ) (bs : List ℕ) → byte bs 0 ≡ kind → T (is_record bs) → Made kind bs
unfolding is_record
made kind bs k t =
    let long = eqb→eq (length bs) 8 (and_l (eqb (length bs) 8) _ t) in
    let from-1 = and_r (eqb (byte bs 0) 1 || eqb (byte bs 0) 2) _ (and_r (eqb (length bs) 8) _ t) in
    let from-2 = and_r (eqb (byte bs 1) 0) _ from-1 in
    let from-4 = and_r (is_name (name_in bs)) _ from-2 in
    let from-5 = and_r (eqb (byte bs 4) 0) _ from-4 in
    let from-6 = and_r (eqb (byte bs 5) 0) _ from-5 in
    let one : byte bs 1 ≡ 0 = eqb→eq (byte bs 1) 0 (and_l (eqb (byte bs 1) 0) _ from-1) in
    let four : byte bs 4 ≡ 0 = eqb→eq (byte bs 4) 0 (and_l (eqb (byte bs 4) 0) _ from-4) in
    let five : byte bs 5 ≡ 0 = eqb→eq (byte bs 5) 0 (and_l (eqb (byte bs 5) 0) _ from-5) in
    let six : byte bs 6 ≡ 0 = eqb→eq (byte bs 6) 0 (and_l (eqb (byte bs 6) 0) _ from-6) in
    let seven : byte bs 7 ≡ 0 = eqb→eq (byte bs 7) 0 (and_r (eqb (byte bs 6) 0) _ from-6) in
    record {
      bytes = eight_bytes bs long ∙ (λ i. k i ∷ one i ∷ byte bs 2 ∷ byte bs 3 ∷ four i ∷ five i ∷ six i ∷ seven i ∷ []);
      named = (name_exactly (name_in bs)).0 (and_l (is_name (name_in bs)) _ from-2);
    }

kind_is_2 : (k : ℕ) → T (eqb k 1 || eqb k 2) → eqb k 1 ≡ false → k ≡ 2
kind_is_2 k t e = go (or_case (eqb k 1) (eqb k 2) t)
  where
    go : T (eqb k 1) ⊎ T (eqb k 2) → k ≡ 2
    go (inl u) = absurd (subst T e u)
    go (inr u) = eqb→eq k 2 u

found_open : (bs : List ℕ) → T (is_record bs) → T (eqb (byte bs 0) 1) → Records bs (opens (name_in bs))
unfolding name_in
found_open bs t k =
    let m = made 1 bs (eqb→eq (byte bs 0) 1 k) t in
    subst (λ l. Records l (opens (name_in bs))) (sym m.bytes) (open_record m.named)

found_close : (bs : List ℕ) → T (is_record bs) → eqb (byte bs 0) 1 ≡ false → Records bs (closes (name_in bs))
unfolding name_in is_record
found_close bs t e =
    let k = kind_is_2 (byte bs 0) (and_l (eqb (byte bs 0) 1 || eqb (byte bs 0) 2) _ (and_r (eqb (length bs) 8) _ t)) e in
    let m = made 2 bs k t in
    subst (λ l. Records l (closes (name_in bs))) (sym m.bytes) (close_record m.named)

event_is : (bs : List ℕ) (e : Event) → event_of bs ≡ some e → Records bs e
unfolding event_of event_if
event_is bs e is = go (is_record bs) (eqb (byte bs 0) 1) refl refl is
  where
    go : (b c : Bool) → is_record bs ≡ b → eqb (byte bs 0) 1 ≡ c → event_if b c (name_in bs) ≡ some e → Records bs e
    go true true r k is = let z : opens (name_in bs) ≡ e = cc in subst (Records bs) z (found_open bs (subst T (sym r) tt) (subst T (sym k) tt))
    go true false r k is = let z : closes (name_in bs) ≡ e = cc in subst (Records bs) z (found_close bs (subst T (sym r) tt) k)
    go false c r k is = let z : ◌≡◌ {A = ℕ} 0 1 = cc in absurd (omega arith)

is_event : (bs : List ℕ) (e : Event) → Records bs e → event_of bs ≡ some e
unfolding event_of is_record name_in event_if
is_event bs e (open_record {high} {low} k) = rw (is_true (is_name (256 * high + low)) ((name_exactly _).1 k))
is_event bs e (close_record {high} {low} k) = rw (is_true (is_name (256 * high + low)) ((name_exactly _).1 k))

pub event_exactly : (bs : List ℕ) (e : Event) → (event_of bs ≡ some e) ↔ Records bs e
event_exactly bs e = (event_is bs e, is_event bs e)

pub bad_exactly : (bs : List ℕ) → (event_of bs ≡ none) ↔ ((e : Event) → Records bs e → ⊥)
bad_exactly bs = (to, from (event_of bs) refl)
  where
    to : event_of bs ≡ none → (e : Event) → Records bs e → ⊥
    to bad e r = let is : event_of bs ≡ some e = is_event bs e r in let z : ◌≡◌ {A = ℕ} 0 1 = cc in omega arith

    from : (o : Option Event) → event_of bs ≡ o → ((e : Event) → Records bs e → ⊥) → event_of bs ≡ none
    from none is f = is
    from (some e) is f = absurd (f e (event_is bs e is))
