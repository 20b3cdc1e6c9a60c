-- The events of a turn as records in the output.
--
--   open_most            as many elements are open as the place says, or none
--   Emits out bs es E    the records of the events es come behind bs in the output, and the reader with its room stands for the same state, is sound, and has
--                        the numbers of all open elements' names in their slots
--   emits                so does the code's `emit`, after a turn from the reader r and the room R to x and S
--   emits_none           a refused byte gives nothing
--
-- N and X are the list of names and its index. Assumes nothing.
use Rattle.std.specs.Prelude.{ℕ, ◌+◌, ◌-◌, ◌*◌, ◌≤◌, ◌<◌, ◌≡◌, List, [], ◌++◌, eqb, length}
use native.Mathlib.Omega.{arith}
use Rattle.std.proofs.Math.Path.{refl, sym, subst}
use Rattle.std.proofs.Common.{◌∙◌, append_assoc, append-nil, ne_eqb}
use Rattle.choice.specs.When.{when_either, when_false}
use Rattle.records.specs.Event.{event_bytes}
use Rattle.xml.specs.Bounds.{remark_name}
use Rattle.xml.proofs.Bounds.Laws.{unknown_is}
use Rattle.xml.specs.Grammar.{Ev}
use Rattle.xml.specs.Numbered.{numbered}
use Rattle.names.specs.Number.{number_of}
use Rattle.names.specs.Number.Laws.{number_within}
use Rattle.slots.specs.Slots as slots
use Rattle.slots.specs.Slots.{name_in, number_in}
use Rattle.modes.specs.declared.Mode.TheVariants as mode
use Rattle.modes.specs.declared.Gives.{Gives}
use Rattle.modes.specs.declared.Gives.TheVariants as gives
use Rattle.modes.specs.declared.Reader.{Reader}
use Rattle.modes.specs.Moves.{open_at}
use Rattle.walk.specs.Walk.{innermost_of}
use Rattle.emit.specs.Emit.{Emitted, both_in, opened_as, opened, closed, emitted_by, emitted}
use Rattle.text_right.specs.Stands.{state_of, evs_in, evs_of}
use Rattle.text_right.specs.Sound.{Sound}
use Rattle.text_right.proofs.Frames.{open_is}
use Rattle.text_right.proofs.Numbered.{numbered_state, numbered_sound}
use Rattle.text_right.proofs.Below.{Same}
use Rattle.text_right.proofs.Placed.{Placed}
use Rattle.text_right.proofs.Led.{sound_deep}
use Rattle.reader_right.specs.Records.{records_of, records_in}
use Rattle.reader_right.specs.Wrote.{Wrote, wrote_more}
use Rattle.reader_right.specs.Counted.{Counted}
use Rattle.reader_right.proofs.Counted.{counted_fewer, counted_same, counted_more}

open_most : (p : ℕ) → open_at p ≤ p
unfolding open_at
open_most p = when_either (λ n. n ≤ p) _ 0 p (omega arith) (omega arith)

-- some bytes, and two records more
wrote_both :
    {out bs out' : List ℕ} {w : ℕ} (x : ℕ) → Wrote out bs out' w → w + 16 ≤ length out
    → Wrote out (bs ++ (event_bytes 1 x ++ (event_bytes 2 x ++ []))) (both_in out' w x) (w + 16)
unfolding both_in
wrote_both {out} {bs} {out'} {w} x h l =
    let one = wrote_more h (event_bytes 1 x) refl (omega arith) in
    let two = wrote_more one (event_bytes 2 x) refl (omega arith) in
    let n : (w + 8) + 8 ≡ w + 16 = omega arith in
    subst (λ k. Wrote out (bs ++ (event_bytes 1 x ++ (event_bytes 2 x ++ []))) (both_in out' w x) k) n
    (subst (λ z. Wrote out z (both_in out' w x) ((w + 8) + 8)) (append_assoc bs (event_bytes 1 x) (event_bytes 2 x)) two)

module _ (N X : List ℕ) (x : Reader) (S : List ℕ) where
  abbrev pub f : List ℕ → ℕ
  f = number_of N X

  small : (n : List ℕ) → f n < 65_536
  small n = omega (arith, (number_within N X n).1, unknown_is)

  pub record Emits (out bs : List ℕ) (es : List Ev) (E : Emitted) : Type 0 where
    pub state : state_of x E.room ≡ state_of x S
    pub sound : Sound x E.room
    pub counted : Counted f E.room (open_at x.place)
    pub wrote : Wrote out (bs ++ records_in f es) E.out E.written

  module _ (out bs out' : List ℕ) (w : ℕ) (h : Wrote out bs out' w) where
    -- where the thing g is given
    abbrev Given : Gives → Type 0
    Given g = Emits out bs (evs_in S x.place g) (emitted_by g N X x.place S out' w)

    nothing_wrote : Wrote out (bs ++ records_in f []) out' w
    unfolding records_of numbered
    nothing_wrote = subst (λ z. Wrote out z out' w) (sym (append-nil bs)) h

    -- a refused byte gives nothing
    pub emits_none :
        x.gives ≡ gives.Nothing → Wrote out (bs ++ records_in f []) (emitted N X x S out' w).out (emitted N X x S out' w).written
    unfolding emitted emitted_by
    emits_none e =
        subst (λ g. Wrote out (bs ++ records_in f []) (emitted_by g N X x.place S out' w).out (emitted_by g N X x.place S out' w).written) (sym e)
        nothing_wrote

    module _ (ok : Sound x S) (room : w + 16 ≤ length out) where
      still_emits : Counted f S (open_at x.place) → Given gives.Nothing
      unfolding emitted_by evs_in
      still_emits k = record { state = refl; sound = ok; counted = k; wrote = nothing_wrote }

      remarked_emits : Counted f S (open_at x.place) → Given gives.Remark
      unfolding emitted_by evs_in records_of numbered remark_name
      remarked_emits k = record { state = refl; sound = ok; counted = k; wrote = wrote_both remark_name h room }

      empty_emits : Counted f S (open_at x.place) → Given gives.Both
      unfolding emitted_by evs_in records_of numbered
      empty_emits k = record { state = refl; sound = ok; counted = k; wrote = wrote_both (f (name_in S (open_at x.place))) h room }

      -- the slot of what was closed has its name's number
      higher_emits : Counted f S (open_at x.place + 1) → Given gives.Close
      unfolding emitted_by evs_in records_of numbered closed
      higher_emits k =
          record {
            state = refl;
            sound = ok;
            counted = counted_fewer f S (open_at x.place) (open_at x.place + 1) (omega arith) k;
            wrote =
                subst (λ n. Wrote out (bs ++ (event_bytes 2 n ++ [])) (closed (open_at x.place) S out' w).out (w + 8))
                (k.each (open_at x.place) (omega arith))
                (wrote_more h (event_bytes 2 (number_in S (open_at x.place))) refl (omega arith));
          }

      module _ (p : ℕ) (e : x.place ≡ p + 1) (m : x.mode ≡ mode.Data) (d : p < 256) where
        slot : p ≡ innermost_of x.place
        unfolding innermost_of
        slot =
            let z : p ≡ x.place - 1 = omega arith in
            z ∙ sym (when_false (eqb x.place 0) 0 (x.place - 1) (ne_eqb x.place 0 (λ z. omega arith)))

        -- the number of the name is kept in its slot
        deeper_emits : Counted f S p → Given gives.Open
        unfolding emitted_by evs_in records_of numbered opened
        deeper_emits k =
            let v = f (name_in S p) in
            let deep : p < 272 = omega arith in
            let name : p ≡ x.place - 1 = omega arith in
            subst (λ s. Emits out bs (evs_in S x.place gives.Open) (opened_as (f (name_in S s)) s S out' w)) slot
            (record {
              state = numbered_state S p v deep x m ok;
              sound = numbered_sound S p v deep x m ok;
              counted =
                  subst (Counted f (slots.numbered S p v)) (sym (open_is x.place (omega arith) ∙ e))
                  (counted_more f S p v d ok.kept.long refl (small (name_in S p)) k);
              wrote =
                  subst (λ n. Wrote out (bs ++ (event_bytes 1 (f (name_in S n)) ++ [])) (opened_as v p S out' w).out (w + 8)) name
                  (wrote_more h (event_bytes 1 v) refl (omega arith));
            })

      module _ {r : Reader} {R : List ℕ} (before : Sound r R) (numbers : Counted f R (open_at r.place)) (same : Same R S r.place) where
        -- the slots that were open before
        kept_numbers : Counted f S (open_at r.place)
        kept_numbers =
            let most = open_most r.place in
            counted_same f R S (open_at r.place) (sound_deep before)
            (record { agree = λ i l. let k : i < open_at r.place * 68 = l in same.agree i (omega arith) })
            (ok.kept.long ∙ sym before.kept.long) numbers

        as_before : x.place ≡ r.place → Counted f S (open_at x.place)
        as_before e = subst (λ p. Counted f S (open_at p)) (sym e) kept_numbers

        by_gives : {g : Gives} → x.gives ≡ g → Given g → Given x.gives
        by_gives e k = subst Given (sym e) k

        placed_emits : Placed r x → Given x.gives
        placed_emits (Placed.still e f) = by_gives e (still_emits (as_before f))
        placed_emits (Placed.remarked e z f) = by_gives e (remarked_emits (as_before f))
        placed_emits (Placed.deeper e z m f l) =
            by_gives e (deeper_emits r.place f m l (subst (Counted (number_of N X) S) (open_is r.place (omega arith)) kept_numbers))
        placed_emits (Placed.higher e z f low high) =
            let all = open_is r.place high in
            let n : open_at r.place ≡ open_at x.place + 1 = omega arith in
            by_gives e (higher_emits (subst (Counted (number_of N X) S) n kept_numbers))
        placed_emits (Placed.empty e z f l) =
            by_gives e (empty_emits (subst (Counted (number_of N X) S) (open_is r.place (omega arith) ∙ sym f) kept_numbers))

        pub emits : Placed r x → Emits out bs (evs_of x S) (emitted N X x S out' w)
        unfolding emitted
        emits p = placed_emits p
