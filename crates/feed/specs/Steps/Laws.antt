-- What a step leaves in lent bytes, and that the promise of feed allows one result.
--
--   step_came         what a step answered, as what one event comes to
--   at_refusal        a step's refusal is that of the event with the stop;  at_taken: what one that nothing refuses comes to
--   refused_at_lem        a refused step leaves all as it was but for the stop
--   whole_step        a step leaves the rooms as long as they must be, and what is said by 0 or not 0 is said by 0 or 1
--   feed_one          two results that the promise allows are equal, and so is all that was lent
--
-- What is large is given explicitly. Assumes nothing.
use Rattle.std.specs.Prelude.{ℕ, ◌≡◌, Bool, List, eqb, length}
use Rattle.std.proofs.Math.Path.{refl, sym, ap}
use Rattle.std.proofs.Common.{◌∙◌, eqb-true, eq-eqb}
use Rattle.std.proofs.Math.Bool.{true, false}
use Rattle.std.proofs.lemmas.Bool.{eqb-false}
use Rattle.choice.specs.When.{when_true, when_yes, when_no, when_either, when_known}
use Rattle.meaning.specs.Record.{event_of}
use Rattle.meaning.specs.Limits.{elements_needed, nodes_needed}
use Rattle.records.specs.Read.{shown}
use Rattle.plan.specs.Plan.{Plan}
use Rattle.words.specs.Words.{Bytes}
use Rattle.words.specs.Records.{laid}
use Rattle.element.specs.Element as element
use Rattle.element.specs.Element.{elements_in}
use Rattle.element.specs.Element.Laws.{elements_long, elements_laid, elements_same}
use Rattle.node.specs.Node as node
use Rattle.node.specs.Node.{queue_in}
use Rattle.node.specs.Node.Laws.{nodes_long, nodes_laid, nodes_same}
use Rattle.numbers.specs.Numbers.{Numbers}
use Rattle.step.specs.Step.{After, after}
use Rattle.stop.specs.Stop.{marked_by, guarded}
use Rattle.stop.specs.Stop.Laws.{refused_marked, marked_said, guarded_said}
use Rattle.limits.specs.Number.Laws.{fault_one}
use Rattle.feed.specs.declared.Fed as struct
use Rattle.feed.specs.Fed.{Came, Fed}
use Rattle.feed.specs.Steps.{Seat, seat, came, stopped_at, came_to, step_at, Whole, FeedGives}

-- E' and N' are what the rooms hold on return
module _ (P : Plan) (n : Numbers) (E N bytes out : List ℕ) (longE : length E ≡ elements_needed) (longN : length N ≡ nodes_needed) (bE : Bytes E) (bN : Bytes N)
    (refusal listed : ℕ) (n' : Numbers) (E' N' out' : List ℕ) (longE' : length E' ≡ elements_needed) (longN' : length N' ≡ nodes_needed) (bE' : Bytes E')
    (bN' : Bytes N')
    (stepped : after refusal listed n' (elements_in E') (queue_in N') out' ≡ guarded P (shown (event_of bytes)) n (elements_in E) (queue_in N) out) where
  same :
      {g g' : ℕ} {m m' : Numbers} {A A' B B' C C' : List ℕ} (r : ℕ) → g ≡ g' → m ≡ m' → A ≡ A' → B ≡ B' → C ≡ C' →
      came r g (seat m A B) C ≡ came r g' (seat m' A' B') C'
  same r e₁ e₂ e₃ e₄ e₅ = λ i. came r (e₁ i) (seat (e₂ i) (e₃ i) (e₄ i)) (e₅ i)

  came_refused : (refusal ≡ 0 → ⊥) → came refusal listed (seat n' E' N') out' ≡ came refusal 0 (seat (marked_by refusal n) E N) out
  came_refused f =
      let k = refused_marked P (shown (event_of bytes)) n (elements_in E) (queue_in N) out _ stepped f in
      same refusal (ap (λ (y : After). y.listed) k) (ap (λ (y : After). y.numbers) k)
      (elements_same E' E longE' longE bE' bE (ap (λ (y : After). y.elements) k))
      (nodes_same N' N longN' longN bN' bN (ap (λ (y : After). y.nodes) k)) (ap (λ (y : After). y.out) k)

  either :
      (b : Bool) → eqb refusal 0 ≡ b →
      came refusal listed (seat n' E' N') out' ≡ came_to (seat n E N) out (after refusal listed n' (elements_in E') (queue_in N') out')
  unfolding came_to
  either true e =
      when_yes _ _ _ _ e
      (ap (λ (r : ℕ). came r listed (seat n' E' N') out') (eqb-true _ _ e)
      ∙ same 0 refl refl (sym (elements_laid E' longE' bE')) (sym (nodes_laid N' longN' bN')) refl)
  either false e = when_no _ _ _ _ e (came_refused (eqb-false _ _ e))

  pub step_came :
      ◌≡◌ {A = Came Seat}
      (record { refusal = refusal; listed = listed; seat = record { numbers = n'; elements = E'; nodes = N' }; out = out' })
      (step_at P (seat n E N) bytes out)
  unfolding step_at
  step_came = either (eqb refusal 0) refl ∙ ap (came_to (seat n E N) out) stepped

module _ (P : Plan) (s : Seat) (bytes out : List ℕ) where
  abbrev stepped : After
  stepped = guarded P (shown (event_of bytes)) s.numbers (elements_in s.elements) (queue_in s.nodes) out

  pub at_refusal : (step_at P s bytes out).refusal ≡ stepped.refusal
  unfolding step_at came_to
  at_refusal =
      when_known (λ (c : Came Seat). c.refusal ≡ stepped.refusal) (eqb stepped.refusal 0) _ _ (λ t. sym (eqb-true stepped.refusal 0 t)) (λ f. refl)

  pub at_taken :
      (a : After) → stepped ≡ a → a.refusal ≡ 0 →
      step_at P s bytes out ≡ came 0 a.listed (seat a.numbers (laid element.shape a.elements) (laid node.shape a.nodes)) a.out
  unfolding step_at came_to
  at_taken a e z = ap (came_to s out) e ∙ when_true (eqb a.refusal 0) _ _ (eq-eqb a.refusal 0 z)

  pub refused_at_lem :
      ((step_at P s bytes out).refusal ≡ 0 → ⊥) →
      step_at P s bytes out ≡ came (step_at P s bytes out).refusal 0 (stopped_at (step_at P s bytes out).refusal s) out
  unfolding step_at came_to
  refused_at_lem =
      when_either (λ (c : Came Seat). (c.refusal ≡ 0 → ⊥) → c ≡ came c.refusal 0 (stopped_at c.refusal s) out) (eqb stepped.refusal 0) _ _
      (λ f. absurd (f refl)) (λ f. refl)

  pub whole_step : Whole s → Whole (step_at P s bytes out).seat
  unfolding step_at came_to
  whole_step w =
      when_either (λ (c : Came Seat). Whole c.seat) (eqb stepped.refusal 0) _ _
      (record {
        elements = elements_long stepped.elements;
        nodes = nodes_long stepped.nodes;
        said = guarded_said P (shown (event_of bytes)) s.numbers (elements_in s.elements) (queue_in s.nodes) out w.said;
      })
      (record { elements = w.elements; nodes = w.nodes; said = marked_said _ _ w.said })

pub feed_one :
    (P : Plan) (s : Seat) (es out : List ℕ) (r r' : struct.Fed) (t t' : Seat) (o o' : List ℕ) → FeedGives P s es out r t o →
    FeedGives P s es out r' t' o' → (r ≡ r') × ((t ≡ t') × (o ≡ o'))
feed_one P s es out r r' t t' o o' g g' =
    let e = g ∙ sym g' in
    let e-taken = ap (λ (f : Fed Seat). f.taken) e in
    let e-listed = ap (λ (f : Fed Seat). f.listed) e in
    let e-refusal = fault_one r.refusal r'.refusal (ap (λ (f : Fed Seat). f.refusal) e) in (
      λ i. record { taken = e-taken i; listed = e-listed i; refusal = e-refusal i },
      (ap (λ (f : Fed Seat). f.seat) e, ap (λ (f : Fed Seat). f.out) e),
    )
