-- What the calls of begin give together, and that begin's promise allows one result.
--
--   session_beside     the session beside an answer
--   begin_parts        the answer, and the session beside it
--   room_told          the room is refused exactly where it is too small;  query_told: a query is refused as the check refuses it
--   start_is           the room's answer, and then the query's;  started: by which laws a body of the cases is shown
--   begin_short        the lent room is too small
--   begin_admitted, begin_long, begin_broken      for each case of the check's answer: the answer and the session beside it
--   begin_one          two results that the promise of `begin` allows are equal
--
-- Assumes nothing.
use Rattle.std.specs.Prelude.{ℕ, ◌≡◌, refl, Bool, true, false, List, [], length, Result, Ok, Err, is_ok, is_err, MatchResult, IsErrAnd}
use Rattle.std.proofs.Common.{arith, ap₂, ◌∙◌}
use Rattle.std.proofs.Math.Path.{sym, ap}
use Rattle.choice.specs.When.{when, when_true, when_false, never}
use Rattle.meaning.specs.Refusals.{short_room}
use Rattle.meaning.specs.Answer.{too_small}
use Rattle.limits.specs.declared.Refusal.{Refusal}
use Rattle.limits.specs.declared.Reason.{Reason}
use Rattle.limits.specs.Number as limits
use Rattle.limits.specs.Number.Laws.{some_number}
use Rattle.lent.specs.Lent.{refuse_room}
use Rattle.plan.specs.declared.Plan.{Plan}
use Rattle.plan.specs.Planned.{plan_of}
use Rattle.query.specs.declared.QueryFault.{QueryFault}
use Rattle.query.specs.declared.QueryFault.TheVariants.{Length, Step}
use Rattle.query.specs.Answer.{admitted, refused, answer_to}
use Rattle.query.specs.Answer as query
use Rattle.query.proofs.Answer.Laws as checked
use Rattle.session.specs.declared.Begun as given
use Rattle.session.specs.declared.Session.{Session}
use Rattle.session.specs.declared.StartFault.{StartFault}
use Rattle.session.specs.declared.StartFault.TheVariants.{ShortRoom, Query}
use Rattle.session.specs.Begin.{fresh, said, Begun, start_answer, session_for, begun, BeginGives}

-- the answer, and the session beside it
pub begin_parts :
    (q E N : List ℕ) (a : Result (Unit {0}) StartFault) (s : Session) → said a ≡ start_answer q E N → s ≡ session_for (said a) q →
    BeginGives q E N (record { answer = a; session = s })
unfolding begun
begin_parts q E N a s ea es =
    ap (λ (t : Session). record { answer = said a; session = t }) es ∙ ap (λ x. record { answer = x; session = session_for x q }) ea

-- by the steps that the session keeps
pub session_beside :
    (q steps : List ℕ) (a : Result (Unit {0}) StartFault) (b : Bool) → is_ok a ≡ b → steps ≡ when b q [] →
    fresh (plan_of steps) ≡ session_for (said a) q
unfolding said query.said session_for when
session_beside q steps (Ok t) true e h = ap (λ (x : List ℕ). fresh (plan_of x)) h
session_beside q steps (Ok t) false e h = never (sym e)
session_beside q steps (Err f) true e h = never e
session_beside q steps (Err ShortRoom) false e h = ap (λ (x : List ℕ). fresh (plan_of x)) h
session_beside q steps (Err (Query Length)) false e h = ap (λ (x : List ℕ). fresh (plan_of x)) h
session_beside q steps (Err (Query (Step k r))) false e h = ap (λ (x : List ℕ). fresh (plan_of x)) h

-- whether a session can begin

-- by what is lent
by_room : (b : Bool) (r : Result (Unit {0}) Refusal) → limits.fault_in r ≡ when b short_room 0 → is_err r ≡ b
unfolding when
by_room true (Ok t) e = absurd (omega arith)
by_room true (Err f) e = refl
by_room false (Ok t) e = refl
by_room false (Err f) e = absurd (omega (arith, some_number f))

pub room_told : (elements nodes : ℕ) (r : Result (Unit {0}) Refusal) → limits.fault_in r ≡ refuse_room elements nodes → is_err r ≡ too_small elements nodes
unfolding refuse_room
room_told elements nodes r e = by_room (too_small elements nodes) r e

-- by the query
pub query_told :
    (r : Result (Unit {0}) QueryFault) (m : Result (Unit {0}) StartFault) →
    MatchResult r (λ x. m ≡ Ok x) (λ f. IsErrAnd m (λ g. g ≡ Query f)) → said m ≡ query.said r
unfolding said query.said
query_told (Ok t) m h = ap said h
query_told (Err f) (Ok t) h = absurd h
query_told (Err f) (Err g) h = ap (λ (x : StartFault). said (Err x)) h

pub start_is : (q E N : List ℕ) → start_answer q E N ≡ when (too_small (length E) (length N)) (refused short_room) (answer_to q)
unfolding start_answer
start_is q E N = refl

pub ruleset started = (room_told, start_is)

-- for each way to begin

module _ (q E N : List ℕ) (a : Result (Unit {0}) StartFault) (s : Session) where
  beside : said a ≡ start_answer q E N → s ≡ session_for (said a) q → BeginGives q E N (record { answer = a; session = s })
  beside = begin_parts q E N a s

  pub begin_short :
      (plan : Plan) → a ≡ Err ShortRoom → too_small (length E) (length N) ≡ true → plan ≡ plan_of [] → s ≡ fresh plan →
      BeginGives q E N (record { answer = a; session = s })
  unfolding said start_answer session_for
  begin_short plan ea h ep es =
      beside (ap said ea ∙ sym (when_true _ _ _ h)) (es ∙ ap fresh ep ∙ ap (λ x. session_for (said x) q) (sym ea))

  module _
      (enough : too_small (length E) (length N) ≡ false) (plan : Plan) (es : s ≡ fresh plan) (c : Result (Unit {0}) QueryFault)
      (checked : query.said c ≡ answer_to q)
    where
      asked : query.said c ≡ start_answer q E N
      unfolding start_answer
      asked = checked ∙ sym (when_false _ _ _ enough)

      pub begin_admitted : c ≡ Ok tt → a ≡ Ok tt → plan ≡ plan_of q → BeginGives q E N (record { answer = a; session = s })
      unfolding said query.said session_for
      begin_admitted ec ea ep =
          beside (ap said ea ∙ ap query.said (sym ec) ∙ asked) (es ∙ ap fresh ep ∙ ap (λ x. session_for (said x) q) (sym ea))

      pub begin_long : c ≡ Err Length → a ≡ Err (Query Length) → plan ≡ plan_of [] → BeginGives q E N (record { answer = a; session = s })
      unfolding said query.said session_for
      begin_long ec ea ep =
          beside (ap said ea ∙ ap query.said (sym ec) ∙ asked) (es ∙ ap fresh ep ∙ ap (λ x. session_for (said x) q) (sym ea))

      pub begin_broken :
          (k : ℕ) (r : Reason) → c ≡ Err (Step k r) → a ≡ Err (Query (Step k r)) → plan ≡ plan_of [] →
          BeginGives q E N (record { answer = a; session = s })
      unfolding said query.said session_for
      begin_broken k r ec ea ep =
          beside (ap said ea ∙ ap query.said (sym ec) ∙ asked) (es ∙ ap fresh ep ∙ ap (λ x. session_for (said x) q) (sym ea))

-- two results that stand for one answer

room_or_query : (f : QueryFault) → refused short_room ≡ query.said (Err f) → ⊥
unfolding query.said
room_or_query Length e = let z : ◌≡◌ {A = ℕ} 15 9 = cc in omega arith
room_or_query (Step k r) e = let z : ◌≡◌ {A = ℕ} 0 1 = cc in omega arith

begun_or_query : (t : Unit {0}) (f : QueryFault) → admitted ≡ query.said (Err f) → ⊥
unfolding query.said
begun_or_query t Length e = let z : ◌≡◌ {A = ℕ} 0 1 = cc in omega arith
begun_or_query t (Step k r) e = let z : ◌≡◌ {A = ℕ} 0 1 = cc in omega arith

fault_in : Result (Unit {0}) QueryFault → QueryFault
fault_in (Ok t) = Length
fault_in (Err f) = f

query_one : (f g : QueryFault) → query.said (Err f) ≡ query.said (Err g) → f ≡ g
unfolding fault_in
query_one f g e = ap fault_in (checked.said_one (Err f) (Err g) e)

said_one : (x y : Result (Unit {0}) StartFault) → said x ≡ said y → x ≡ y
unfolding said
said_one (Ok t) (Ok u) e = refl
said_one (Ok t) (Err ShortRoom) e = let z : ◌≡◌ {A = ℕ} 0 1 = cc in absurd (omega arith)
said_one (Ok t) (Err (Query f)) e = absurd (begun_or_query t f e)
said_one (Err ShortRoom) (Ok t) e = let z : ◌≡◌ {A = ℕ} 0 1 = cc in absurd (omega arith)
said_one (Err ShortRoom) (Err ShortRoom) e = refl
said_one (Err ShortRoom) (Err (Query f)) e = absurd (room_or_query f e)
said_one (Err (Query f)) (Ok t) e = absurd (begun_or_query t f (sym e))
said_one (Err (Query f)) (Err ShortRoom) e = absurd (room_or_query f (sym e))
said_one (Err (Query f)) (Err (Query g)) e = ap (λ (x : QueryFault). Err (Query x)) (query_one f g e)

pub begin_one : (q E N : List ℕ) (x y : given.Begun) → BeginGives q E N x → BeginGives q E N y → x ≡ y
begin_one q E N x y gx gy =
    let e = gx ∙ sym gy in
    ap₂ (λ (a : Result (Unit {0}) StartFault) (s : Session). record { answer = a; session = s })
    (said_one x.answer y.answer (ap (λ (b : Begun). b.answer) e)) (ap (λ (b : Begun). b.session) e)
