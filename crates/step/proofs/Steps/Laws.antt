-- What the calls of a function give together, over what each call answered.
--
--   refused_as, zero_few    a refusal, as the code answers it
--   open_refused, open_full, open_done      an open that its numbers refuse; refusal 7; one that is taken
--   close_refused, close_done               a close that is refused; one that is taken
--   move_told               the nodes of the innermost element
--   step_read_as            any event, by how its bytes were read
--
-- What is large is given explicitly. Assumes nothing.
use Prim.Native.Nat.{ℕ, ◌+◌, ◌-◌, ◌*◌, ◌≤◌}
use Rattle.std.proofs.Common.{arith, ◌∙◌, eq-eqb, ne_eqb}
use Rattle.std.specs.Prelude.{◌≡◌, refl, Bool, true, false, Option, Result, List, ltb, length, take}
use Rattle.std.proofs.Math.Path.{sym, ap, ap₂}
use mir.Val.{bool_byte}
use Rattle.choice.specs.When.{when_yes, when_no}
use Rattle.meaning.specs.Record.{event_of}
use Rattle.meaning.specs.Refusals.{too_many_held}
use Rattle.meaning.specs.Limits.{output_needed}
use Rattle.records.specs.declared.Event.{Event}
use Rattle.records.specs.Read.{shown}
use Rattle.plan.specs.Plan.{Plan}
use Rattle.engine.specs.Quick.{possible_at, went_if, cut}
use Rattle.element.specs.Element.{Elements, frame_at}
use Rattle.node.specs.Node.{Queue}
use Rattle.nodes.specs.Nodes.{level_of, Moved, moved_from, Handed, handed_out, Joined, joined}
use Rattle.numbers.specs.Numbers.{Numbers}
use Rattle.limits.specs.declared.Refusal.{Refusal}
use Rattle.limits.specs.Number.{fault_in}
use Rattle.tally.specs.Tally.{refuse_open, refuse_close, open_numbers, close_numbers}
use Rattle.opening.specs.Opening.{Opened, opening_in, over_in}
use Rattle.step.specs.Step.{After, after, listed_in, refused_with}
use Rattle.step.specs.Step.{open_with, open_by, open_taken, on_open}
use Rattle.step.specs.Step.{moved_out_from, moved_out, close_with, close_out, close_by, close_taken, on_close, step}

pub refused_as :
    (s : Result ℕ Refusal) (r : ℕ) (n : Numbers) (E : Elements) (N : Queue) (out : List ℕ) → fault_in s ≡ r → listed_in s ≡ 0 →
    after (fault_in s) (listed_in s) n E N out ≡ refused_with r n E N out
refused_as s r n E N out e z = ap₂ (λ (k l : ℕ). after k l n E N out) e z

pub zero_few : (s : Result ℕ Refusal) (r : ℕ) → fault_in s ≡ r → listed_in s ≡ 0 → 4 * listed_in s ≤ output_needed
zero_few s r e z = omega arith

-- an open

module _ (P : Plan) (x : ℕ) (n : Numbers) (E : Elements) (N : Queue) (out : List ℕ) where
  pub open_refused : (r : ℕ) → r ≡ refuse_open n → (r ≡ 0 → ⊥) → refused_with r n E N out ≡ on_open P x n E N out
  unfolding on_open
  open_refused r e f = when_no _ _ _ _ (ne_eqb _ _ (λ z. f (e ∙ z))) (ap (λ k. refused_with k n E N out) e)

  module _ (r depth held : ℕ) (er : r ≡ refuse_open n) (z : r ≡ 0) (ed : depth ≡ n.depth) (eh : held ≡ n.held) where
    pub open_full : (b : Bool) → b ≡ over_in P x depth held E N → b ≡ true → refused_with too_many_held n E N out ≡ on_open P x n E N out
    unfolding on_open
    open_full b e t =
        when_yes _ _ _ _ (eq-eqb _ _ (sym er ∙ z)) (when_yes _ _ _ _ (sym (ap₂ (λ d h. over_in P x d h E N) ed eh) ∙ sym e ∙ t) refl)

    pub open_done :
        (b : Bool) (o : Opened) (j : Joined) (number listed : ℕ) (n' : Numbers) → b ≡ over_in P x depth held E N → b ≡ false →
        o ≡ opening_in P x depth held E N → number ≡ n.opened + 1 → listed ≡ o.going.went + bool_byte o.going.all →
        j ≡ joined o.going held number (depth + 1) N out → n' ≡ open_numbers n j.held listed →
        after 0 listed n' o.elements j.queue j.out ≡ on_open P x n E N out
    unfolding on_open open_taken
    open_done b o j number listed n' e f eo en eg ej em =
        let g : ℕ = o.going.went + bool_byte o.going.all in
        when_yes _ _ _ _ (eq-eqb _ _ (sym er ∙ z))
        (when_no _ _ _ _ (sym (ap₂ (λ d h. over_in P x d h E N) ed eh) ∙ sym e ∙ f)
        (ap (λ k. after 0 listed k o.elements j.queue j.out) em
        ∙ ap (λ k. after 0 k (open_numbers n j.held k) o.elements j.queue j.out) eg
        ∙ ap (open_with n o)
        (ej ∙ ap₂ (λ d h. joined o.going h number (d + 1) N out) ed eh ∙ ap (λ k. joined o.going n.held k (n.depth + 1) N out) en)
        ∙ ap (open_by n N out) (eo ∙ ap₂ (λ d h. opening_in P x d h E N) ed eh)))

  pub close_refused : (r : ℕ) → r ≡ refuse_close n E x → (r ≡ 0 → ⊥) → refused_with r n E N out ≡ on_close P x n E N out
  unfolding on_close
  close_refused r e f = when_no _ _ _ _ (ne_eqb _ _ (λ z. f (e ∙ z))) (ap (λ k. refused_with k n E N out) e)

  pub close_done :
      (r depth held went : ℕ) (w : Moved) (h : Handed) (n' : Numbers) → r ≡ refuse_close n E x → r ≡ 0 → depth ≡ n.depth → held ≡ n.held →
      w ≡ moved_out P depth held E N →
      went ≡ went_if (ltb w.held held) P (take (depth - 1) E.list) (take w.held w.queue.list) →
      h ≡ handed_out went w.held w.queue out → n' ≡ close_numbers n (w.held - went) went →
      after 0 went n' E h.queue h.out ≡ on_close P x n E N out
  unfolding on_close close_taken
  close_done r depth held went w h n' er z ed eh ew ek ehn em =
      when_yes _ _ _ _ (eq-eqb _ _ (sym er ∙ z))
      (ap (λ k. after 0 went k E h.queue h.out) em
      ∙ ap (close_with n E w.held went) ehn
      ∙ ap (close_out n E out w) (ek ∙ ap₂ (λ d k. went_if (ltb w.held k) P (take (d - 1) E.list) (take w.held w.queue.list)) ed eh)
      ∙ ap (close_by P n E out) (ew ∙ ap₂ (λ d k. moved_out P d k E N) ed eh))

-- the nodes of the innermost element

pub move_told :
    (P : Plan) (depth held : ℕ) (E : Elements) (N : Queue) (met ready from : ℕ) (w : Moved) → met ≡ (frame_at E (depth - 1)).met →
    ready ≡ possible_at P E.list (depth - 1) → from ≡ length (cut level_of depth (take held N.list)).before →
    w ≡ moved_from P met ready (depth - 1) held from from N → w ≡ moved_out P depth held E N
unfolding moved_out
move_told P depth held E N met ready from w em ea ef ew =
    ew ∙ ap₂ (λ a b. moved_from P a b (depth - 1) held from from N) em ea ∙ ap (moved_out_from P depth held E N) ef

-- any event, by how its bytes were read
pub step_read_as :
    (P : Plan) (bytes : List ℕ) (e : Option Event) (n : Numbers) (E : Elements) (N : Queue) (out : List ℕ) (a : After) → e ≡ shown (event_of bytes) →
    a ≡ step P e n E N out → a ≡ step P (shown (event_of bytes)) n E N out
step_read_as P bytes e n E N out a is so = so ∙ ap (λ (y : Option Event). step P y n E N out) is
