-- `judge` answers as the first step that breaks a rule decides. The invariant: `near` is the nearest main-path step among those passed, and the
-- answer from here on is the query's. Assumes nothing.
use Rattle.std.proofs.Common.{◌≡◌, ◌+◌, ℕ, sym, ◌∙◌, rules, refl, arith, get_or, [], Result, Ok, Err, MatchResult, is_ok, ap, true≢false}
use Rattle.std.specs.Result.{IsErrAnd}
use Rattle.limits.specs.declared.Reason.{Reason}
use Rattle.query.specs.declared.QueryFault.{QueryFault}
use Rattle.query.specs.declared.QueryFault.TheVariants.{Step}
use Rattle.limits.specs.Number.{reason_in}
use Rattle.limits.specs.Number.Laws.{some_reason}
use Rattle.query.specs.Rules.{step_of, nearest}
use Rattle.query.specs.Answer.{said}
use Rattle.query.proofs.Loop.{row_is, loop_starts, next_near, turn_stops, turn_goes_on, loop_done}
use Rattle.query.proofs.judge.Goals as goal

pub loop-before-init : goal.loop-before-init
unfolding nearest
loop-before-init c = (refl, loop_starts _)

pub returns : goal.returns
unfolding said
returns c = loop_done _ c.loop-before.before (omega arith) c.loop-before.invariant.1

mapped_err :
    (k : ℕ) (R : Reason → QueryFault → Type 0) (c : Result (Unit {0}) Reason) (m : Result (Unit {0}) QueryFault) (f : QueryFault) →
    MatchResult c (λ x. m ≡ Ok x) (λ e. IsErrAnd m (R e)) → ((e : Reason) (g : QueryFault) → R e g → g ≡ Step k e) → m ≡ Err f →
    (r : Reason) × (c ≡ Err r) × (f ≡ Step k r)
mapped_err k R (Ok x) m f given told is = absurd (let z : ◌≡◌ {A = Result (Unit {0}) QueryFault} (Ok x) (Err f) = sym given ∙ is in cc)
mapped_err k R (Err e) (Ok x) f given told is = absurd (cc)
mapped_err k R (Err e) (Err g) f given told is = (e, refl, let same : f ≡ g = cc in same ∙ told e g given)

mapped_ok : (c : Result (Unit {0}) Reason) (m : Result (Unit {0}) QueryFault) {x : Unit {0}} → is_ok m ≡ is_ok c → m ≡ Ok x → 0 ≡ reason_in c
mapped_ok (Ok y) m e is = refl
mapped_ok (Err r) m e is = absurd (true≢false (sym (ap is_ok is) ∙ e))

pub returns-in_err-map_err : goal.returns-in_err-map_err
unfolding said
returns-in_err-map_err c =
    let here = c.loop-before in
    let row : get_or c.as_chunks.result.0.now here.before [] ≡ step_of c.args.query.now here.before = row_is _ _ _ c.as_chunks.ensures.front (omega arith) in
    let m = mapped_err (here.before + 1) _ c.check_step.result c.map_err.result _ c.map_err.ensures.cases (λ e g l. search rules) c.in_err-map_err.was in
    let told : c.from_residual.result ≡ Err c.in_err-map_err.field-0.0 = search rules in
    ap said (told ∙ ap Err m.2)
    ∙ turn_stops _ _ _ _ row here.invariant.0 (ap reason_in (sym m.1) ∙ c.check_step.ensures) here.invariant.1 (omega arith) (some_reason m.0)

pub loop-before-preserved : goal.loop-before-preserved
loop-before-preserved c =
    let here = c.loop-before in
    let row : get_or c.as_chunks.result.0.now here.before [] ≡ step_of c.args.query.now here.before = row_is _ _ _ c.as_chunks.ensures.front (omega arith) in
    let none = mapped_ok c.check_step.result c.map_err.result c.map_err.ensures.variant c.in_ok-map_err.was in (
      next_near _ _ _ _ row here.invariant.0 c.nearer_main-near.ensures,
      turn_goes_on _ _ _ _ row here.invariant.0 (none ∙ c.check_step.ensures) here.invariant.1 (omega arith) refl,
    )
