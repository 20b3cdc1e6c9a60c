-- How far a text is read and its events are worked on, and what is more to do.
--
--   numbers                 a refusal has a number, for the search
--   begun_with session       before the first turn
--   refilled st i           all events are worked on, and those that the intake i has brought are to come
--   more_by .., more_text i s       there is more to do: events that are not worked on, or text that is not read
--   More i s                what is known then;  more_is;  done_is: where nothing is
--   Refilled N X file st input R ev st' input' R' ev'      more events, where all that have come are worked on
--
-- N and X are the list of names and its index. Assumes nothing.
use Rattle.std.specs.Prelude.{ℕ, ◌≤◌, ◌<◌, ◌⊎◌, ◌≡◌, refl, Bool, true, false, List, eqb, ltb}
use Rattle.std.proofs.Common.{inl, inr, sym, ap, eqb-true, ltb-true, ltb-false}
use Rattle.std.proofs.lemmas.Bool.{eqb-false}
use Rattle.limits.specs.Number.Laws.{some_number, some_text}
use Rattle.choice.specs.When.{when, never}
use Rattle.session.specs.declared.Session.{Session}
use Rattle.system.specs.declared.File.{File}
use Rattle.reads.specs.declared.State.{State}
use Rattle.intake.specs.declared.Intake.{Intake}
use Rattle.intake.specs.Intake.{begun, Advanced}
use Rattle.text_turns.specs.declared.Stand.{Stand}

-- a refusal has a number
pub ruleset numbers = (some_number, some_text)

abbrev pub begun_with : Session → Stand
begun_with session =
    record { intake = begun; state = record { session = session; from = 0; end = 0; taken = 0; refusal = 0; ended = false; written = true } }

abbrev pub refilled : Stand → Intake → Stand
refilled st i =
    record {
      intake = i;
      state = record { session = st.state.session; from = 0; end = i.written; taken = st.state.taken; refusal = 0; ended = false; written = true };
    }

unfoldable pub more_by : ℕ → Bool → ℕ → ℕ → ℕ → Bool → Bool
more_by refusal written from end stop ended =
    when (eqb refusal 0) (when written (when (ltb from end) true (when (eqb stop 0) (when ended false true) false)) false) false

abbrev pub more_text : Intake → State → Bool
more_text i s = more_by s.refusal s.written s.from s.end i.refusal i.ended

pub record More (i : Intake) (s : State) : Type 0 where
  pub unrefused : s.refusal ≡ 0
  pub taking : s.written ≡ true
  pub some : (s.from < s.end) ⊎ ((i.refusal ≡ 0) × (i.ended ≡ false))

not_ended : (b : Bool) → when b false true ≡ true → b ≡ false
unfolding when
not_ended true e = never e
not_ended false e = refl

pub more_is : (i : Intake) (s : State) → more_text i s ≡ true → More i s
unfolding more_by when
more_is i s h = go (eqb s.refusal 0) s.written (ltb s.from s.end) (eqb i.refusal 0) refl refl refl refl h
  where
    go :
        (a b c d : Bool) → eqb s.refusal 0 ≡ a → s.written ≡ b → ltb s.from s.end ≡ c → eqb i.refusal 0 ≡ d
        → when a (when b (when c true (when d (when i.ended false true) false)) false) false ≡ true
        → More i s
    go true true true d e f g k h = record { unrefused = eqb-true _ _ e; taking = f; some = inl (ltb-true _ _ g) }
    go true true false true e f g k h = record { unrefused = eqb-true _ _ e; taking = f; some = inr (eqb-true _ _ k, not_ended i.ended h) }
    go true true false false e f g k h = never h
    go true false c d e f g k h = never h
    go false b c d e f g k h = never h

-- nothing is more to do: an event was refused, or all events are worked on, and a byte was refused or the text ended
pub data Done (i : Intake) (s : State) : Type 0 where
  event_refused : (s.refusal ≡ 0 → ⊥) → Done i s
  text_over : s.refusal ≡ 0 → s.end ≤ s.from → (i.refusal ≡ 0 → ⊥) ⊎ (i.ended ≡ true) → Done i s

over : (b : Bool) → when b false true ≡ false → b ≡ true
unfolding when
over true e = refl
over false e = never (sym e)

pub done_is : (i : Intake) (s : State) → more_text i s ≡ false → s.written ≡ true → Done i s
unfolding more_by when
done_is i s h w = go (eqb s.refusal 0) s.written (ltb s.from s.end) (eqb i.refusal 0) refl refl refl refl w h
  where
    go :
        (a b c d : Bool) → eqb s.refusal 0 ≡ a → s.written ≡ b → ltb s.from s.end ≡ c → eqb i.refusal 0 ≡ d
        → b ≡ true
        → when a (when b (when c true (when d (when i.ended false true) false)) false) false ≡ false
        → Done i s
    go true true true d e f g k w h = never (sym h)
    go true true false true e f g k w h = text_over (eqb-true _ _ e) (ltb-false _ _ g) (inr (over i.ended h))
    go true true false false e f g k w h = text_over (eqb-true _ _ e) (ltb-false _ _ g) (inl (eqb-false _ _ k))
    go true false c d e f g k w h = never w
    go false b c d e f g k w h = event_refused (eqb-false _ _ e)

pub data Refilled (N X : List ℕ) (file : File) (st : Stand) (input R ev : List ℕ) (st' : Stand) (input' R' ev' : List ℕ) : Type 0 where
  kept : st.state.from < st.state.end → st' ≡ st → input' ≡ input → R' ≡ R → ev' ≡ ev → Refilled N X file st input R ev st' input' R' ev'
  filled :
      st.state.end ≤ st.state.from
      → st' ≡ refilled st st'.intake
      → Advanced N X file st.intake input R ev st'.intake input' R' ev'
      → Refilled N X file st input R ev st' input' R' ev'

pub begun_stand :
    (i : Intake) (session : Session) → i ≡ begun
    → ◌≡◌ {A = Stand}
    (record { intake = i; state = record { session = session; from = 0; end = 0; taken = 0; refusal = 0; ended = false; written = true } }) (begun_with session)
begun_stand i session e =
    ap (λ (j : Intake). record { intake = j; state = record { session = session; from = 0; end = 0; taken = 0; refusal = 0; ended = false; written = true } }) e
