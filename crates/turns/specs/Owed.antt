-- What is owed at the end of a stream, and by the query's answer: the parts that both programs share.
--
--   finish_line_of q es       the last line where no event was refused;  last_line_by: by the refusal of one
--   last_line_owed          the last line by finish's answer, the events taken and the refusal is the one that is owed
--   by_number_told          finish's answer with the number of its refusal
--   query_silent            only an admitted query is answered by no line
--   not_admitted            a query that begin refuses is not admitted
--   begin_checked           with enough room begin answers the query
--   Admitted query session  the query is admitted, and begin has made the session for it
--   Declined query text n   it is refused, and the first n bytes of the text are the line that says so
--   long_refused            a query that fills the room for one is too long, whatever follows
--   answered_by             one of two, by the first
--
-- Assumes nothing.
use Rattle.std.specs.Prelude.{ℕ, zero, suc, ◌+◌, ◌%◌, ◌≤◌, ◌<◌, ◌⊎◌, ◌≡◌, refl, Bool, true, false, not, ◌||◌, cond, List, Result, Ok, Err}
use Rattle.std.specs.Prelude.{MatchResult, IsErrAnd, eqb, length, take}
use Rattle.std.proofs.Common.{arith, inl, inr, ap, ap₂, ◌∙◌, subst, lt-ltb}
use Rattle.std.proofs.Math.Bool.{or-true}
use Rattle.std.proofs.Math.Option.{Option, none, some}
use Rattle.choice.specs.When.{when, when_false}
use Rattle.meaning.specs.Limits.{elements_needed, nodes_needed}
use Rattle.meaning.specs.Refusals.{short_room, unfinished, bad_length, bad_step}
use Rattle.meaning.specs.Answer.{going, too_small}
use Rattle.meaning.proofs.Answer.Laws.{not_small}
use Rattle.meaning.specs.Stream.{Event, document}
use Rattle.meaning.specs.Standing.{listed}
use Rattle.query.specs.Rules.{step_bytes, longest, wrong_length}
use Rattle.query.specs.Answer.{admitted, refused, judged, if_wrong, answer_to}
use Rattle.query.specs.Decode.{decode}
use Rattle.io.specs.Counts.{IsPrefixLen}
use Rattle.session.specs.declared.Session.{Session}
use Rattle.limits.specs.Number.{number, reason_number}
use Rattle.limits.specs.declared.Refusal.{Refusal}
use Rattle.limits.specs.declared.Refusal.TheVariants.{Stopped, Unfinished}
use Rattle.query.specs.declared.QueryFault.TheVariants.{Length, Step}
use Rattle.query.specs.Answer as query
use Rattle.session.specs.declared.StartFault.{StartFault}
use Rattle.session.specs.declared.StartFault.TheVariants as started
use Rattle.session.specs.declared.Counts.{Counts}
use Rattle.session.specs.declared.Begun.{Begun}
use Rattle.session.specs.Begin.{said, start_answer, BeginGives}
use Rattle.session.specs.Event.{finish}
use Rattle.session.specs.Run.{Housed}
use Rattle.promise.specs.Promise.{Of, begin_answer, ended_is, handed_is}
use Rattle.lines.specs.Text.{end_line, refusal_text, refused_at_line, refused_for_line, refused_line}
use Rattle.closing.specs.Line.{query_line, by_number, line_of_finish, line_of_end}
use Rattle.meaning.specs.Document.{finished}
use Rattle.meaning.specs.Query.{Query}
use Rattle.turns.specs.Turns.{refusal_of, BegunFor}

-- "`end N` with the number handed out"; "for refusal 8 the number of accepted events"
unfoldable pub finish_line_of : Query → List Event → List ℕ
finish_line_of q es = when (finished (document es)) (end_line (length (listed q (document es)))) (refused_at_line unfinished (length es))

-- "E is the number of the refused event, counted from 1"
unfoldable pub last_line_by : Option ℕ → Query → List Event → List ℕ
last_line_by (some r) q es = refused_at_line r (length es + 1)
last_line_by none q es = finish_line_of q es

-- the last line

abbrev counted : ℕ → ℕ → Counts
counted k h = record { opened = k; handed = h }

finish_by :
    (x : Bool) (k h n : ℕ) →
    line_of_finish (when false (Err Stopped) (when x (Ok (counted k h)) (Err Unfinished))) n ≡ when x (end_line h) (refused_at_line unfinished n)
unfolding when
finish_by true k h n = refl
finish_by false k h n = refl

finish_owed : {b : List ℕ} {es : List Event} {l : Housed} → Of b (going es) l → line_of_finish (finish l.session) (length es) ≡ finish_line_of (decode b) es
unfolding finish finish_line_of
finish_owed {b} {es} {l} o =
    ap (λ (y : Bool). line_of_finish (when y (Err Stopped)
    (when l.session.ended (Ok (counted l.session.opened l.session.handed)) (Err Unfinished))) (length es)) o.stop
    ∙ finish_by l.session.ended l.session.opened l.session.handed (length es)
    ∙ ap₂ (λ (x : Bool) (h : ℕ). when x (end_line h) (refused_at_line unfinished (length es))) (ended_is o) (handed_is o)

-- finish is asked only where no event was refused, and then the session is not stopped
pub last_line_owed :
    {b : List ℕ} {es : List Event} {stop : Bool} {l : Housed} → Of b (record { events = es; stopped = stop }) l → (f : Result Counts Refusal) →
    f ≡ finish l.session → (taken r : ℕ) → (r ≡ 0 → stop ≡ false) → taken ≡ length es → line_of_end f taken r ≡ last_line_by (refusal_of r) (decode b) es
unfolding last_line_by refusal_of
last_line_owed {b} {es} {l = l} o f e taken zero on t =
    ap (λ (n : ℕ). line_of_finish f n) t
    ∙ ap (λ (g : Result Counts Refusal). line_of_finish g (length es)) e
    ∙ finish_owed (subst (λ (x : Bool). Of b (record { events = es; stopped = x }) l) (on refl) o)
last_line_owed o f e taken (suc r) on t =
    ap (λ (x : Bool). cond x (refused_at_line (suc r) (taken + 1)) (line_of_finish f taken)) (lt-ltb 0 (suc r) (omega arith))
    ∙ ap (λ (n : ℕ). refused_at_line (suc r) (n + 1)) t

pub by_number_told :
    (f : Result Counts Refusal) (g : Result Counts ℕ) → MatchResult f (λ c. g ≡ Ok c) (λ r. IsErrAnd g (λ n. n ≡ number r)) → g ≡ by_number f
by_number_told (Ok c) g e = e
by_number_told (Err r) (Ok c) e = absurd e
by_number_told (Err r) (Err n) e = ap (λ (k : ℕ). Err k) e

refused_long : (n : ℕ) → 0 < length (refused_line n)
unfolding refused_line
refused_long n = omega arith

refused_for_long : (n k r : ℕ) → 0 < length (refused_for_line n k r)
unfolding refused_for_line refusal_text
refused_for_long n k r = omega arith

pub query_silent : (a : Result (Unit {0}) StartFault) → length (query_line a) ≡ 0 → a ≡ Ok tt
query_silent (Ok t) h = refl
query_silent (Err started.ShortRoom) h = absurd (omega (arith, refused_long short_room))
query_silent (Err (started.Query Length)) h = absurd (omega (arith, refused_long bad_length))
query_silent (Err (started.Query (Step k r))) h = absurd (omega (arith, refused_for_long bad_step k (reason_number r)))

pub not_admitted : (f : StartFault) → said (Err f) ≡ admitted → ⊥
unfolding said query.said
not_admitted started.ShortRoom e = let z : ◌≡◌ {A = ℕ} 0 1 = cc in omega arith
not_admitted (started.Query Length) e = let z : ◌≡◌ {A = ℕ} 0 1 = cc in omega arith
not_admitted (started.Query (Step k r)) e = let z : ◌≡◌ {A = ℕ} 0 1 = cc in omega arith

-- with enough room begin answers the query
pub begin_checked :
    (query E N : List ℕ) (r : Begun) → elements_needed ≤ length E → nodes_needed ≤ length N → BeginGives query E N r → said r.answer ≡ answer_to query
unfolding start_answer
begin_checked query E N r longE longN g =
    begin_answer query E N r g ∙ when_false (too_small (length E) (length N)) _ _ (not_small (length E) (length N) longE longN)

pub record Admitted (query : List ℕ) (session : Session) : Type 0 where
  pub checked : answer_to query ≡ admitted
  pub begun : BegunFor query session

pub record Declined (query text : List ℕ) (n : ℕ) : Type 0 where
  pub fault : StartFault
  pub checked : said (Err fault) ≡ answer_to query
  pub line : take n text ≡ query_line (Err fault)
  pub prefix_len : IsPrefixLen n text

pub answered_by : {A B C : Type 0} → (A → B) → A ⊎ C → B ⊎ C
answered_by f (inl x) = inl (f x)
answered_by f (inr y) = inr y

-- a query that fills the room for one is too long, whatever follows

pub long_refused : (qs : List ℕ) → 256 < length qs → answer_to qs ≡ refused bad_length
unfolding answer_to if_wrong
long_refused qs h =
    let n : ℕ = length qs in
    let wrong : wrong_length n ≡ true =
    ap (λ (x : Bool). eqb n 0 || (not (eqb (n % step_bytes) 0) || x)) (lt-ltb longest n (omega arith))
    ∙ ap (λ (x : Bool). eqb n 0 || x) (or-true (not (eqb (n % step_bytes) 0)))
    ∙ or-true (eqb n 0) in
    ap (λ (x : Bool). if_wrong x (judged qs)) wrong
