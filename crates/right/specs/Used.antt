-- Lent rooms as a state of the engine: the records in use, and the session's numbers.
--
--   state_in n E N        the engine's state (crate engine, Quick) of the numbers n and the records E and N
--   same_state           states with equal fields are equal
--   Roomy E N            there are as many records as there may be elements open and nodes waiting
--   Takes r a out        what an event comes to in the rooms (a) is what it comes to in the engine (r): the state, how many nodes are handed out, their
--                        list records at the start of the buffer; and no number is past its limit
--   opening_used         an opening looks at the records in use alone
--   over_used            and so does the test whether it leaves too many nodes waiting
--
-- Assumes nothing.
use Rattle.std.specs.Prelude.{ℕ, ◌≤◌, ◌≡◌, Bool, not, List, eqb, length, take}
use Rattle.std.proofs.Math.Path.{refl}
use Rattle.meaning.specs.Limits.{depth_limit, held_limit}
use Rattle.plan.specs.Plan.{Plan}
use Rattle.engine.specs.Quick.{Frame, Waiting, State, Result, opening, opening_from, judged, over}
use Rattle.records.specs.Write.{buffer}
use Rattle.element.specs.Element.{Elements}
use Rattle.node.specs.Node.{Queue}
use Rattle.numbers.specs.Numbers.{Numbers}
use Rattle.opening.specs.Opening.{used_in, over_in}
use Rattle.step.specs.Step.{After}

unfoldable pub state_in : Numbers → Elements → Queue → State
state_in n E N =
    record {
      frames = take n.depth E.list;
      queue = take n.held N.list;
      opened = n.opened;
      handed = n.handed;
      ended = not (eqb n.ended 0);
    }

pub same_state :
    {fs fs' : List Frame} {ws ws' : List Waiting} {k k' h h' : ℕ} {e e' : Bool} → fs ≡ fs' → ws ≡ ws' → k ≡ k' → h ≡ h' → e ≡ e' →
    ◌≡◌ {A = State}
    (record { frames = fs; queue = ws; opened = k; handed = h; ended = e })
    (record { frames = fs'; queue = ws'; opened = k'; handed = h'; ended = e' })
same_state e₁ e₂ e₃ e₄ e₅ = λ i. record { frames = e₁ i; queue = e₂ i; opened = e₃ i; handed = e₄ i; ended = e₅ i }

pub record Roomy (E : Elements) (N : Queue) : Type 0 where
  pub elements : length E.list ≡ depth_limit
  pub nodes : length N.list ≡ held_limit

pub record Takes (r : Result) (a : After) (out : List ℕ) : Type 0 where
  pub refusal : a.refusal ≡ 0
  pub state : state_in a.numbers a.elements a.nodes ≡ r.state
  pub listed : a.listed ≡ length r.out
  pub written : a.out ≡ buffer r.out out
  pub roomy : Roomy a.elements a.nodes
  pub deep : a.numbers.depth ≤ depth_limit
  pub few : a.numbers.held ≤ held_limit

module _ (P : Plan) (x : ℕ) (n : Numbers) (E : Elements) (N : Queue) where
  pub opening_used : opening P x (used_in n.depth n.held E N) ≡ opening P x (state_in n E N)
  unfolding opening opening_from judged used_in state_in
  opening_used = refl

  pub over_used : over_in P x n.depth n.held E N ≡ over held_limit (state_in n E N) (opening P x (state_in n E N))
  unfolding over_in over opening opening_from judged used_in state_in
  over_used = refl
