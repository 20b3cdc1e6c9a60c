-- What a text comes to: its events, and the refusal that it gets.
--
--   Judged               a verdict with its refusal's number
--   judged v             the code's verdict so;  judged_one: two verdicts of the code that are the same so are equal
--   Named n              n is a refusal's number;  TextNumber n: or 0;  text_named: so is the number of a refusal that may be none
--   refused_at r k        the verdict that refuses with r at k
--   verdict_by n z        the verdict on a text of n bytes of which the machine came to z
--   text_verdict t        THE VERDICT on a text: the refusal and its byte, counted from 1, or none
--   text_events t         its events, those before the refused byte if there is one
--   number_in names w     the number of a name by a list
--   text_records names t  the records of the events
--   refused_later, refused_same      what follows a refused byte changes nothing of this
--
-- Assumes nothing. NOT here: which texts are read, and with which events (crate xml), what a list of names may have (crate listed).
use Rattle.std.specs.Prelude.{ℕ, ◌+◌, ◌-◌, ◌⊎◌, ◌≡◌, refl, List, ◌++◌, Option, None, Some, length}
use Rattle.std.proofs.Common.{arith, inl, inr, ◌∙◌, sym, length-append}
use Rattle.std.proofs.lemmas.Option.{same_Some, none-some}
use Rattle.std.proofs.Math.Path.{ap}
use Rattle.choice.specs.When.{when}
use Rattle.limits.specs.declared.TextRefusal.{TextRefusal}
use Rattle.limits.specs.Number.{text_number, text_of}
use Rattle.xml.specs.Refused.{unended}
use Rattle.xml.specs.Grammar.{Ev}
use Rattle.xml.specs.Machine.{State, Result, stopped, stands, run}
use Rattle.xml.specs.Numbered.{events}
use Rattle.xml.specs.Limited.{bounds}
use Rattle.reading.specs.Cut.{cut_anywhere, onward}
use Rattle.listed.specs.Lines.{lines_of}
use Rattle.names.specs.First.{first_place}
use Rattle.reader_right.specs.Records.{records_in}
use Rattle.reader_right.specs.Ended.{is_after}
use Rattle.intake.specs.declared.Verdict.{Verdict}

pub record Judged : Type 0 where
  pub refusal : ℕ
  pub at : ℕ

abbrev pub refused_at : ℕ → ℕ → Option Judged
refused_at r k = Some (record { refusal = r; at = k })

abbrev pub judged : Option Verdict → Option Judged
judged None = None
judged (Some v) = refused_at v.refusal v.at

pub judged_one : (v w : Option Verdict) → judged v ≡ judged w → v ≡ w
judged_one None None e = refl
judged_one None (Some w) e = absurd (none-some _ e)
judged_one (Some v) None e = absurd (none-some _ (sym e))
judged_one (Some v) (Some w) e =
    ap (λ (j : Judged). Some (record { refusal = j.refusal; at = j.at })) (same_Some _ _ e)

-- the numbers that a refusal, or none, has

pub record Named (n : ℕ) : Type 0 where
  pub refusal : TextRefusal
  pub number : text_number refusal ≡ n

abbrev pub TextNumber : ℕ → Type 0
TextNumber n = (n ≡ 0) ⊎ Named n

pub text_named : (o : Option TextRefusal) → TextNumber (text_of o)
text_named None = inl refl
text_named (Some r) = inr (record { refusal = r; number = refl })

-- "the byte is the one that the refusal is given at, counted from 1"; 44: "one past the last byte"
abbrev pub verdict_by : ℕ → Result → Option Judged
verdict_by n (stopped es r rest) = refused_at r (n - length rest + 1)
verdict_by n (stands es s) = when (is_after s) None (refused_at unended (n + 1))

abbrev pub read_text : List ℕ → Result
read_text t = run bounds t State.start

unfoldable pub text_verdict : List ℕ → Option Judged
text_verdict t = verdict_by (length t) (read_text t)

unfoldable pub text_events : List ℕ → List Ev
text_events t = events (read_text t)

unfoldable pub number_in : List ℕ → List ℕ → ℕ
number_in names w = first_place (lines_of names) w

abbrev pub text_records : List ℕ → List ℕ → List ℕ
text_records names t = records_in (number_in names) (text_events t)

-- what follows a refused byte
module _ (t : List ℕ) (es : List Ev) (r : ℕ) (rest : List ℕ) (e : read_text t ≡ stopped es r rest) where
  pub refused_later : (more : List ℕ) → read_text (t ++ more) ≡ stopped es r (rest ++ more)
  refused_later more = cut_anywhere bounds t more State.start ∙ ap (λ z. onward bounds z (run bounds more) more) e

  pub refused_verdict : text_verdict t ≡ refused_at r (length t - length rest + 1)
  unfolding text_verdict
  refused_verdict = ap (verdict_by (length t)) e

  pub refused_events : text_events t ≡ es
  unfolding text_events
  refused_events = ap events e

pub record SameText (t u : List ℕ) : Type 0 where
  pub same_events : text_events u ≡ text_events t
  pub same_verdict : text_verdict u ≡ text_verdict t

pub refused_same :
    (t : List ℕ) (es : List Ev) (r : ℕ) (rest : List ℕ) → read_text t ≡ stopped es r rest → (more : List ℕ) → SameText t (t ++ more)
refused_same t es r rest e more =
    let later = refused_later t es r rest e more in
    let n : length (t ++ more) - length (rest ++ more) ≡ length t - length rest = omega (arith, length-append t more, length-append rest more) in
    record {
      same_events = refused_events (t ++ more) es r (rest ++ more) later ∙ sym (refused_events t es r rest e);
      same_verdict =
          refused_verdict (t ++ more) es r (rest ++ more) later
          ∙ ap (λ (k : ℕ). refused_at r (k + 1)) n
          ∙ sym (refused_verdict t es r rest e);
    }
