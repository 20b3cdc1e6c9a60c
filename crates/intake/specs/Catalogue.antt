-- What a text comes to that was read to its end, or to a refused byte.
--
--   catalogue_name        the file's name
--   Enough text          so much was read: as many bytes as are asked for, or so far that whatever follows changes nothing
--   CatalogueRead text   the file was read, up to its end or so far
--   Told file i es       what came of the file: its text, whose events are es and whose verdict is the intake's
--   text_told            so it is where no more turn is taken
--
-- Assumes nothing.
use Rattle.std.specs.Prelude.{ℕ, ◌+◌, ◌-◌, ◌≤◌, ◌⊎◌, ◌≡◌, Bool, List, [], ◌∷◌, ◌++◌, None, eqb, drop}
use Rattle.std.proofs.Common.{arith, ◌∙◌, eq-eqb, ne_eqb}
use Rattle.std.proofs.Math.Logic.{inl, inr}
use Rattle.std.proofs.Math.Path.{refl, sym, ap}
use Rattle.std.proofs.Math.Bool.{true, false}
use Rattle.std.proofs.Math.ListN.{length, take, length-drop}
use Rattle.std.proofs.Math.Seq.{take_all}
use Rattle.choice.specs.When.{when, when_true, when_false, never}
use Rattle.limits.specs.Number.{text_of}
use Rattle.xml.specs.Refused.{unended}
use Rattle.xml.specs.Grammar.{Ev, b0}
use Rattle.xml.specs.Machine.{Place, State, stands}
use Rattle.xml.specs.Numbered.{events}
use Rattle.xml.specs.Limited.{bounds}
use Rattle.reading.specs.Exactly.{accepts_exactly}
use Rattle.modes.specs.declared.Reader.{Reader}
use Rattle.reader.specs.Feed.{finish_answer}
use Rattle.text_right.specs.Stands.{state_of}
use Rattle.reader_right.specs.TextRead.{TextRead, used}
use Rattle.reader_right.specs.Ended.{is_after}
use Rattle.reader_right.proofs.Ended.{after_is, finish_exactly, finish_either}
use Rattle.system.specs.declared.File.{File}
use Rattle.system.specs.Marks.{ReadOver, Received}
use Rattle.intake.specs.declared.Intake.{Intake}
use Rattle.intake.specs.Owed.{refused_at, verdict_by, read_text, text_verdict, text_events, refused_verdict, refused_events, SameText, refused_same}
use Rattle.intake.specs.Names.{FileRead}
use Rattle.intake.specs.Intake.{longest, end_of, verdict_for}
use Rattle.intake.specs.InText.{InText}

-- "catalogue.xml"
abbrev pub catalogue_name : List ℕ
catalogue_name = 99 ∷ 97 ∷ 116 ∷ 97 ∷ 108 ∷ 111 ∷ 103 ∷ 117 ∷ 101 ∷ 46 ∷ 120 ∷ 109 ∷ 108 ∷ []

abbrev pub Enough : List ℕ → Type 0
Enough text = (longest ≤ length text) ⊎ ((more : List ℕ) → SameText text (text ++ more))

abbrev pub CatalogueRead : List ℕ → Type 0
CatalogueRead text = FileRead catalogue_name text (Enough text)

pub record Told (file : File) (i : Intake) (es : List Ev) : Type 0 where
  pub text : List ℕ
  pub received : Received file text
  pub to_end : ReadOver file ⊎ Enough text
  pub events_so : es ≡ text_events text
  pub verdict_so : verdict_for i ≡ text_verdict text

-- the end of a text, by where the machine stands
module _ (N X t : List ℕ) (r : Reader) (R : List ℕ) (es : List Ev) (h : TextRead N X t r R es) where
  abbrev s : State
  s = state_of r (used R)

  finish_is : text_of (finish_answer r).refusal ≡ when (is_after s) 0 unended
  unfolding when is_after
  finish_is = go (is_after s) refl (finish_either N X t r R es h)
    where
      go :
          (b : Bool) → is_after s ≡ b → (text_of (finish_answer r).refusal ≡ 0) ⊎ (text_of (finish_answer r).refusal ≡ unended) →
          text_of (finish_answer r).refusal ≡ when b 0 unended
      go true e z = (finish_exactly N X t r R es h).1 ((accepts_exactly bounds t es).0 (h.reads ∙ ap (stands es) (after_is s e)))
      go false e (inr z) = z
      go false e (inl z) = never (sym e ∙ after)
        where
          after : is_after s ≡ true
          after =
              let at : s ≡ State.at Place.after b0 =
              (let q = sym h.reads ∙ (accepts_exactly bounds t es).1 ((finish_exactly N X t r R es h).0 z) in cc) in
              ap is_after at

verdict_end :
    (b : Bool) (n : ℕ) →
    when (eqb (when b 0 unended) 0) None (refused_at (when b 0 unended) n) ≡ when b None (refused_at unended n)
unfolding when
verdict_end true n = refl
verdict_end false n = refl

module _ {N X : List ℕ} {file : File} {i : Intake} {input R : List ℕ} {es : List Ev} (h : InText N X file i input R es) where
  -- a byte was refused
  refused_told : (i.refusal ≡ 0 → ⊥) → Told file i es
  unfolding verdict_for end_of
  refused_told z =
      let stop = h.refused_so z in
      let same : end_of i.reader i.refusal ≡ i.refusal = when_false _ _ _ (ne_eqb i.refusal 0 z) in
      let place : length h.bytes - length (drop i.taken h.bytes) ≡ i.taken = omega (arith, h.inside, length-drop i.taken h.bytes) in
      record {
        text = h.bytes;
        received = h.received;
        to_end = inr (inr (refused_same h.bytes es i.refusal (drop i.taken h.bytes) stop));
        events_so = sym (refused_events h.bytes es i.refusal (drop i.taken h.bytes) stop);
        verdict_so =
            ap (λ (q : ℕ). when (eqb q 0) None (refused_at q (i.taken + 1))) same
            ∙ when_false _ _ _ (ne_eqb i.refusal 0 z)
            ∙ ap (λ (k : ℕ). refused_at i.refusal (k + 1)) (sym place)
            ∙ sym (refused_verdict h.bytes es i.refusal (drop i.taken h.bytes) stop);
      }

  -- the text ended
  ended_told : i.ended ≡ true → Told file i es
  unfolding verdict_for end_of text_verdict text_events
  ended_told e =
      let z = (h.ended_so e).0 in
      let all : take i.taken h.bytes ≡ h.bytes = take_all i.taken h.bytes (h.ended_so e).1 in
      let long : length h.bytes ≡ i.taken = omega (arith, h.inside, (h.ended_so e).1) in
      let was = h.read z in
      let reads : read_text h.bytes ≡ stands es (state_of i.reader (used R)) = ap read_text (sym all) ∙ was.reads in
      let last : end_of i.reader i.refusal ≡ when (is_after (state_of i.reader (used R))) 0 unended =
      when_true _ _ _ (eq-eqb i.refusal 0 z) ∙ finish_is N X _ i.reader R es was in
      record {
        text = h.bytes;
        received = h.received;
        to_end = by_end (h.at_end e);
        events_so = ap events (sym reads);
        verdict_so =
            ap (λ (q : ℕ). when (eqb q 0) None (refused_at q (i.taken + 1))) last
            ∙ verdict_end (is_after (state_of i.reader (used R))) (i.taken + 1)
            ∙ ap (λ (n : ℕ). verdict_by n (stands es (state_of i.reader (used R)))) (sym long)
            ∙ ap (verdict_by (length h.bytes)) (sym reads);
      }
    where
      by_end : ReadOver file ⊎ (longest ≤ length h.bytes) → ReadOver file ⊎ Enough h.bytes
      by_end (inl o) = inl o
      by_end (inr l) = inr (inl l)

  pub text_told : (i.refusal ≡ 0 → ⊥) ⊎ (i.ended ≡ true) → Told file i es
  text_told (inl z) = refused_told z
  text_told (inr e) = ended_told e
