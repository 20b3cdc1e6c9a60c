-- What the calls give together, and that the promises allow one result.
--
--   begins_none, takes_none, runs_none, runs_uncounted, finishes_none, finishes_uncounted      a session, or counts, of another length
--   refused_start      beside a fault of begin the session's bytes stay as they were
--   begins_parts, runs_parts, finishes_parts      any other call but an event (Offered), by what the session's own call gives
--   begins_one, takes_one, runs_one, finishes_one     two results that a promise allows are equal, and so is all that was lent
--
-- The session and what is large are given explicitly. Assumes nothing.
use Rattle.std.specs.Prelude.{ℕ, ◌/◌, ◌≡◌, refl, Result, Err, length}
use Rattle.std.proofs.Math.Path.{sym, ap, ap₂}
use Rattle.std.proofs.Common.{◌∙◌, eq-eqb, ne_eqb}
use mathlib.Core.List.{List}
use Rattle.choice.specs.When.{when_true, when_false}
use Rattle.limits.specs.declared.Refusal.{Refusal}
use Rattle.limits.specs.Number.{fault_of}
use Rattle.query.specs.Answer as query
use Rattle.query.specs.declared.QueryFault.TheVariants.{Length, Step}
use Rattle.query_c.specs.Packed.{packed}
use Rattle.feed.specs.Fed.{fed}
use Rattle.session.specs.declared.Session.{Session}
use Rattle.session.specs.declared.StartFault.{StartFault}
use Rattle.session.specs.declared.StartFault.TheVariants.{ShortRoom, Query}
use Rattle.session.specs.declared.Begun as given
use Rattle.session.specs.declared.Ran.{Ran}
use Rattle.session.specs.declared.Counts.{Counts}
use Rattle.session.specs.Begin.{said, BeginGives}
use Rattle.session.specs.Event.{FinishGives}
use Rattle.session.specs.Event as session
use Rattle.session.specs.Event.Laws.{finish_is}
use Rattle.session.specs.Run.{housed, event_at, RunGives}
use Rattle.session_c.specs.Laid.{session_room, session_in, counts_room, count_bytes}
use Rattle.session_c.specs.Exported.{Began, started_by, began_with, began, ExportBegins}
use Rattle.session_c.specs.Exported.{Took, took, ExportTakes}
use Rattle.session_c.specs.Exported.{Blocked, moved_by, blocked_with, blocked, ExportRuns}
use Rattle.session_c.specs.Exported.{Finished, end_number, counted_by, finished, ExportFinishes}

-- begin

-- beside a fault the session's bytes stay as they were
pub refused_start : (f : StartFault) (t : Session) (S : List ℕ) → S ≡ started_by (said (Err f)) t S
unfolding said query.said started_by
refused_start ShortRoom t S = refl
refused_start (Query Length) t S = refl
refused_start (Query (Step k r)) t S = refl

module _ (q E N S : List ℕ) where
  pub begins_none : (length S ≡ session_room → ⊥) → ExportBegins q E N S 255 S
  unfolding began
  begins_none f = sym (when_false _ _ _ (ne_eqb _ _ f))

  pub begins_parts :
      (b : given.Begun) (r : ℕ) (S' : List ℕ) → length S ≡ session_room → BeginGives q E N b → r ≡ packed (said b.answer) →
      S' ≡ started_by (said b.answer) b.session S → ExportBegins q E N S r S'
  unfolding began
  begins_parts b r S' long g er eS =
      ap₂ (λ (n : ℕ) (X : List ℕ). record { number = n; session = X }) er eS
      ∙ ap (began_with S) g
      ∙ sym (when_true _ _ _ (eq-eqb _ _ long))

  pub begins_one :
      (r r' : ℕ) (A A' : List ℕ) → ExportBegins q E N S r A → ExportBegins q E N S r' A' → (r ≡ r') × (A ≡ A')
  begins_one r r' A A' g g' = let e = g ∙ sym g' in
      (ap (λ (b : Began). b.number) e, ap (λ (b : Began). b.session) e)

-- an event

module _ (S bytes E N out : List ℕ) where
  pub takes_none : (length S ≡ session_room → ⊥) → ExportTakes S bytes E N out 255 S E N out
  unfolding took
  takes_none f = sym (when_false _ _ _ (ne_eqb _ _ f))

  pub takes_one :
      (r r' : ℕ) (A A' B B' C C' D D' : List ℕ) → ExportTakes S bytes E N out r A B C D → ExportTakes S bytes E N out r' A' B' C' D' →
      (r ≡ r') × ((A ≡ A') × ((B ≡ B') × ((C ≡ C') × (D ≡ D'))))
  takes_one r r' A A' B B' C C' D D' g g' = let e = g ∙ sym g' in (
    ap (λ (t : Took). t.number) e,
    (ap (λ (t : Took). t.session) e, (ap (λ (t : Took). t.elements) e, (ap (λ (t : Took). t.nodes) e, ap (λ (t : Took). t.out) e))),
  )

-- a block of events

module _ (S es E N out C : List ℕ) where
  pub runs_none : (length S ≡ session_room → ⊥) → ExportRuns S es E N out C 255 S E N out C
  unfolding blocked
  runs_none f = sym (when_false _ _ _ (ne_eqb _ _ f))

  module _ (long : length S ≡ session_room) where
    pub runs_uncounted : (length C ≡ counts_room → ⊥) → ExportRuns S es E N out C 255 S E N out C
    unfolding blocked
    runs_uncounted f = sym (when_true _ _ _ (eq-eqb _ _ long) ∙ when_false _ _ _ (ne_eqb _ _ f))

    pub runs_parts :
        (s : Session) (d : Ran) (r : ℕ) (S' E' N' out' C' : List ℕ) → length C ≡ counts_room → s ≡ session_in S →
        RunGives s es E N out d E' N' out' → S' ≡ moved_by d.taken (fault_of d.refusal) d.session S → C' ≡ count_bytes d.taken d.listed →
        r ≡ fault_of d.refusal → ExportRuns S es E N out C r S' E' N' out' C'
    unfolding blocked
    runs_parts s d r S' E' N' out' C' wide e g eS eC er =
        ap (λ (n : ℕ). record { number = n; session = S'; elements = E'; nodes = N'; out = out'; counts = C' }) er
        ∙ ap₂ (λ (X Y : List ℕ). record { number = fault_of d.refusal; session = X; elements = E'; nodes = N'; out = out'; counts = Y }) eS eC
        ∙ ap (blocked_with S) (g ∙ ap (λ (x : Session). fed event_at (length es / 8) (housed x E N) es out) e)
        ∙ sym (when_true _ _ _ (eq-eqb _ _ long) ∙ when_true _ _ _ (eq-eqb _ _ wide))

  pub runs_one :
      (r r' : ℕ) (A A' B B' D D' F F' G G' : List ℕ) → ExportRuns S es E N out C r A B D F G → ExportRuns S es E N out C r' A' B' D' F' G' →
      (r ≡ r') × ((A ≡ A') × ((B ≡ B') × ((D ≡ D') × ((F ≡ F') × (G ≡ G')))))
  runs_one r r' A A' B B' D D' F F' G G' g g' = let e = g ∙ sym g' in (
    ap (λ (t : Blocked). t.number) e,
    (
      ap (λ (t : Blocked). t.session) e,
      (
        ap (λ (t : Blocked). t.elements) e,
        (ap (λ (t : Blocked). t.nodes) e, (ap (λ (t : Blocked). t.out) e, ap (λ (t : Blocked). t.counts) e)),
      ),
    ),
  )

-- finish

module _ (S C : List ℕ) where
  pub finishes_none : (length S ≡ session_room → ⊥) → ExportFinishes S C 255 C
  unfolding finished
  finishes_none f = sym (when_false _ _ _ (ne_eqb _ _ f))

  module _ (long : length S ≡ session_room) where
    pub finishes_uncounted : (length C ≡ counts_room → ⊥) → ExportFinishes S C 255 C
    unfolding finished
    finishes_uncounted f = sym (when_true _ _ _ (eq-eqb _ _ long) ∙ when_false _ _ _ (ne_eqb _ _ f))

    pub finishes_parts :
        (s : Session) (f : Result Counts Refusal) (r : ℕ) (C' : List ℕ) → length C ≡ counts_room → s ≡ session_in S → FinishGives s f → r ≡ end_number f →
        C' ≡ counted_by f C → ExportFinishes S C r C'
    unfolding finished
    finishes_parts s f r C' wide e g er eC =
        ap₂ (λ (n : ℕ) (X : List ℕ). record { number = n; counts = X }) er eC
        ∙ ap (λ (x : Result Counts Refusal). record { number = end_number x; counts = counted_by x C }) (finish_is s f g ∙ ap session.finish e)
        ∙ sym (when_true _ _ _ (eq-eqb _ _ long) ∙ when_true _ _ _ (eq-eqb _ _ wide))

  pub finishes_one :
      (r r' : ℕ) (A A' : List ℕ) → ExportFinishes S C r A → ExportFinishes S C r' A' → (r ≡ r') × (A ≡ A')
  finishes_one r r' A A' g g' = let e = g ∙ sym g' in
      (ap (λ (b : Finished). b.number) e, ap (λ (b : Finished). b.counts) e)
