-- A text that is not refused takes an account to an account: what is accepted is a document, and its events are the document's.
--
--   Lands t es r           the result r has an account, if it is no refusal
--   sound_run              the result of a text has one, from a state that has one
--   run_account            so has each state that a text takes the start to
--   accepted_document      what is accepted is a document
--
-- Assumes nothing. NOT here: single bytes (Account.Steps), the other way round (Leads.Accounts).
use Rattle.std.specs.Prelude.{ℕ, ◌≡◌, refl}
use Rattle.std.proofs.Common.{sym}
use Rattle.std.proofs.Math.Path.{subst}
use mathlib.Core.List.{List, [], ◌∷◌, ◌++◌, append_assoc, append-nil}
use Rattle.xml.specs.Grammar.{Limits, Ev, Br, b0, Document}
use Rattle.xml.specs.Machine.{Place, State, Outcome, refused, goes, step, Result, stopped, stands, given, next, run}
use Rattle.xml.specs.Unfinished.{after}
use Rattle.reading.specs.Account.{plus, After}
use Rattle.reading.specs.Account.Steps.{Reach, reaches, step_sound}

module _ (L : Limits) where
  abbrev pub Lands : List ℕ → List Ev → Result → Type 0
  Lands t es (stopped fs r u) = Unit {0}
  Lands t es (stands fs k) = After L t (es ++ fs) k

  plus_append : (es fs : List Ev) → plus es fs ≡ es ++ fs
  plus_append es [] = sym (append-nil es)
  plus_append es (f ∷ fs) = refl

  given_lands : (t : List ℕ) (es fs : List Ev) (r : Result) → Lands t (es ++ fs) r → Lands t es (given fs r)
  unfolding given
  given_lands t es fs (stopped gs r u) h = tt
  given_lands t es fs (stands gs k) h = subst (λ z. After L t z k) (append_assoc es fs gs) h

  next_lands :
      (t u : List ℕ) (es : List Ev) (b : ℕ) (o : Outcome) (f : State → Result)
      → Reach L (t ++ (b ∷ [])) es o
      → ((fs : List Ev) (k : State) → After L (t ++ (b ∷ [])) fs k → Lands ((t ++ (b ∷ [])) ++ u) fs (f k))
      → Lands (t ++ (b ∷ u)) es (next o f (b ∷ u))
  unfolding next
  next_lands t u es b (refused r) f h g = tt
  next_lands t u es b (goes fs k) f (reaches h) g =
      given_lands (t ++ (b ∷ u)) es fs (f k)
      (subst (λ z. Lands z (es ++ fs) (f k)) (append_assoc t (b ∷ []) u) (g (es ++ fs) k (subst (λ z. After L (t ++ (b ∷ [])) z k) (plus_append es fs) h)))

  pub sound_run : (u : List ℕ) (t : List ℕ) (es : List Ev) (k : State) → After L t es k → Lands (t ++ u) es (run L u k)
  unfolding run
  sound_run [] t es k h = subst (λ z. After L (t ++ []) z k) (sym (append-nil es)) (subst (λ z. After L z es k) (sym (append-nil t)) h)
  sound_run (b ∷ u) t es k h =
      next_lands t u es b (step L k b) (run L u) (step_sound L b h) (λ fs j g. sound_run u (t ++ (b ∷ [])) fs j g)

  pub run_account : (t : List ℕ) (es : List Ev) (k : State) → run L t State.start ≡ stands es k → After L t es k
  run_account t es k e = subst (Lands t []) e (sound_run t [] [] State.start After.start)

  after_document : {t : List ℕ} {es : List Ev} {k : Br} → After L t es (State.at Place.after k) → Document L t es
  after_document (After.at (after d) l) = d

  pub accepted_document : (t : List ℕ) (es : List Ev) → run L t State.start ≡ stands es (State.at Place.after b0) → Document L t es
  accepted_document t es e = after_document (run_account t es (State.at Place.after b0) e)
