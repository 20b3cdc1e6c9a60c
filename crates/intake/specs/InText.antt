-- What the turns have come to: how much of the text has come and is read, with which events.
--
--   InText N X file i input R es      the intake stands in a text: reads have given some bytes, of which so many are read, with the events es; the byte
--                                     after them is refused, or none is
--   begun_text                        so before the first byte
--   Onward                            one turn more: InText with further events, whose records stand at the start of the output
--   advance_text                      so does `advance`
--
-- N and X are the list of names and its index. Assumes nothing.
use Rattle.std.specs.Prelude.{ℕ, zero, suc, ◌+◌, ◌-◌, ◌≤◌, ◌<◌, ◌⊎◌, ◌≡◌, refl, true, false}
use Rattle.std.proofs.Common.{arith, ap₂, ◌∙◌, length-drop, take-append-drop, take-add, drop-drop, drop_at, eqb-true}
use Rattle.std.proofs.Math.Logic.{inl, inr}
use Rattle.std.proofs.Math.Path.{sym, ap, subst}
use mathlib.Core.List.{List, [], ◌∷◌, ◌++◌, append-nil, append_assoc}
use Rattle.std.proofs.Math.ListN.{length, take, drop, length-append}
use Rattle.std.proofs.Math.Seq.{take-append-le}
use Rattle.choice.specs.When.{never}
use Rattle.limits.specs.Number.{text_of}
use Rattle.xml.specs.Grammar.{Ev}
use Rattle.xml.specs.Machine.{stopped}
use Rattle.xml.specs.Numbered.{numbered}
use Rattle.names.specs.Number.{number_of}
use Rattle.slots.specs.Slots.{room_needed}
use Rattle.reader.specs.Feed.{Came, too_scant, feed_answer}
use Rattle.reader_right.specs.Records.{records_of, records_in}
use Rattle.reader_right.specs.Wrote.{Wrote, wrote_none}
use Rattle.reader_right.specs.TextRead.{TextRead}
use Rattle.reader_right.proofs.TextRead.{text_begun, Kept, FeedCame, lent_scant, went, refused, feed_came}
use Rattle.system.specs.declared.File.{File}
use Rattle.system.specs.Marks.{ReadOver, Received, nothing_yet}
use Rattle.intake.specs.declared.Intake.{Intake}
use Rattle.intake.specs.Owed.{TextNumber, text_named, read_text, refused_later}
use Rattle.intake.specs.Intake.{longest, begun, unread_text, WithinText, FedText, TextCame, Advanced, fed, came}
use Rattle.intake.specs.Intake.Laws.{unread_long, unread_on, taken_within}

pub record InText (N X : List ℕ) (file : File) (i : Intake) (input R : List ℕ) (es : List Ev) : Type 0 where
  -- what the reads have given, end to end
  pub bytes : List ℕ
  pub received : Received file bytes
  pub within : WithinText i (length input)
  pub inside : i.taken ≤ length bytes
  pub rest : unread_text i input ≡ drop i.taken bytes
  pub few : i.taken + (i.end - i.from) ≤ longest + 65536
  pub named : TextNumber i.refusal
  pub read : i.refusal ≡ 0 → TextRead N X (take i.taken bytes) i.reader R es
  pub refused_so : (i.refusal ≡ 0 → ⊥) → read_text bytes ≡ stopped es i.refusal (drop i.taken bytes)
  pub ended_so : i.ended ≡ true → (i.refusal ≡ 0) × (length bytes ≤ i.taken)
  pub at_end : i.ended ≡ true → ReadOver file ⊎ (longest ≤ length bytes)

pub begun_text : (N X : List ℕ) (file : File) (input R : List ℕ) → room_needed ≤ length R → InText N X file begun input R []
begun_text N X file input R room =
    record {
      bytes = [];
      received = nothing_yet;
      within = record { forward = omega arith; inside = omega arith };
      inside = omega arith;
      rest = refl;
      few = omega arith;
      named = inl refl;
      read = λ z. text_begun N X R room;
      refused_so = λ z. absurd (z refl);
      ended_so = λ e. never e;
      at_end = λ e. never e;
    }

pub record Onward (N X : List ℕ) (file : File) (es : List Ev) (R out : List ℕ) (i' : Intake) (input' R' out' : List ℕ) : Type 0 where
  pub more : List Ev
  pub so_far : InText N X file i' input' R' (es ++ more)
  pub wrote : Wrote out (records_in (number_of N X) more) out' i'.written
  pub same_room : length R' ≡ length R

module _ (N X : List ℕ) (file : File) (i : Intake) (input R : List ℕ) (es : List Ev) (h : InText N X file i input R es) (going : i.refusal ≡ 0) where
  -- the text that is read, and what is unread of it
  abbrev pub t : List ℕ
  t = take i.taken h.bytes

  abbrev u : List ℕ
  u = unread_text i input

  read_so_far : TextRead N X t i.reader R es
  read_so_far = h.read going

  module _ (out : List ℕ) (lent : too_scant (length R) (length X) (length out) ≡ false) (i' : Intake) (R' out' : List ℕ)
      (f : FedText N X i u R out i' R' out') where
    abbrev c : Came
    c = feed_answer N X u i.reader R out

    k_within : c.taken ≤ i.end - i.from
    k_within = omega (arith, taken_within N X u i.reader R out, unread_long i input h.within)

    rest_more : drop c.taken u ≡ drop (i.taken + c.taken) h.bytes
    rest_more = ap (drop c.taken) h.rest ∙ drop-drop c.taken i.taken h.bytes

    text_more : t ++ take c.taken u ≡ take (i.taken + c.taken) h.bytes
    text_more = ap (λ z. t ++ take c.taken z) h.rest ∙ sym (take-add i.taken c.taken h.bytes)

    taken_more : i.taken + c.taken ≤ length h.bytes
    taken_more =
        omega (arith, k_within, h.inside, ap length h.rest, unread_long i input h.within, length-drop i.taken h.bytes)

    rest_so : unread_text i' input ≡ drop i'.taken h.bytes
    rest_so =
        ap₂ (λ (e a : ℕ). take (e - a) (drop a input)) f.end_same f.from_so
        ∙ unread_on i.from i.end c.taken input
        ∙ rest_more
        ∙ ap (λ (k : ℕ). drop k h.bytes) (sym f.taken_so)

    -- what has not changed, by what was read
    fed_text :
        (gs : List Ev) → (i'.refusal ≡ 0 → TextRead N X (take i'.taken h.bytes) i'.reader R' gs)
        → ((i'.refusal ≡ 0 → ⊥) → read_text h.bytes ≡ stopped gs i'.refusal (drop i'.taken h.bytes))
        → InText N X file i' input R' gs
    fed_text gs a b =
        record {
          bytes = h.bytes;
          received = h.received;
          within =
              record {
                forward = omega (arith, f.from_so, f.end_same, k_within, h.within.forward);
                inside = omega (arith, f.end_same, h.within.inside);
              };
          inside = omega (arith, f.taken_so, taken_more);
          rest = rest_so;
          few = omega (arith, f.from_so, f.end_same, f.taken_so, k_within, h.within.forward, h.few);
          named = subst TextNumber (sym f.refusal_so) (text_named c.refusal);
          read = a;
          refused_so = b;
          ended_so = λ e. never (sym f.not_ended ∙ e);
          at_end = λ e. never (sym f.not_ended ∙ e);
        }

    kept_onward : (fs : List Ev) → Kept N X t i.reader R es u out fs c → InText N X file i' input R' (es ++ fs) → Onward N X file es R out i' input R' out'
    kept_onward fs k x =
        record {
          more = fs;
          so_far = x;
          wrote = rw (f.out_so, f.written_so) k.wrote;
          same_room = ap length f.room_so ∙ k.same_length;
        }

    fed_onward : FeedCame N X t i.reader R es u out c → Onward N X file es R out i' input R' out'
    fed_onward (lent_scant e z) = never (sym lent ∙ e)
    fed_onward (went fs z x why k) =
        kept_onward fs k
        (fed_text (es ++ fs)
        (λ a.
        subst (λ (l : List ℕ). TextRead N X l i'.reader R' (es ++ fs)) (text_more ∙ ap (λ (n : ℕ). take n h.bytes) (sym f.taken_so))
        (rw (f.reader_so, f.room_so) x))
        (λ b. absurd (b (f.refusal_so ∙ z))))
    fed_onward (refused fs b w pos same e stop k) =
        let at : drop (i.taken + c.taken) h.bytes ≡ b ∷ w = sym rest_more ∙ e in
        let whole : ((t ++ take c.taken u) ++ (b ∷ [])) ++ w ≡ h.bytes =
        append_assoc (t ++ take c.taken u) (b ∷ []) w
        ∙ ap₂ (λ (x y : List ℕ). x ++ y) text_more (sym at)
        ∙ take-append-drop (i.taken + c.taken) h.bytes in
        let later = refused_later ((t ++ take c.taken u) ++ (b ∷ [])) (es ++ fs) (text_of c.refusal) (b ∷ []) stop w in
        kept_onward fs k
        (fed_text (es ++ fs) (λ a. absurd (omega (arith, pos, a, f.refusal_so)))
        (λ z.
        ap read_text (sym whole) ∙ later
        ∙ ap₂ (λ (q : ℕ) (l : List ℕ). stopped (es ++ fs) q l) (sym f.refusal_so) (sym at ∙ ap (λ (n : ℕ). drop n h.bytes) (sym f.taken_so))))

  module _ (out : List ℕ) (i' : Intake) (input' : List ℕ) (none_left : i.end ≤ i.from) (short : length input' ≤ 65536) (some : 0 < length input)
      (m : TextCame file i input i' input') where
    all_read : length h.bytes ≡ i.taken
    all_read =
        omega (arith, none_left, h.inside, ap length h.rest, unread_long i input h.within, length-drop i.taken h.bytes)

    none_came : i'.ended ≡ true → length m.bytes ≡ 0
    none_came e = eqb-true _ _ (sym m.ended_so ∙ e)

    pub few_more : i'.taken + (i'.end - i'.from) ≤ longest + 65536
    few_more = go (length m.bytes) refl
      where
        go : (n : ℕ) → length m.bytes ≡ n → i'.taken + (i'.end - i'.from) ≤ longest + 65536
        go zero e = omega (arith, e, m.taken_same, m.count, h.few)
        go (suc n) e = omega (arith, e, m.taken_same, m.count, m.some (omega arith), short, m.within.inside)

    came_onward : Onward N X file es R out i' input' R out
    unfolding records_of numbered
    came_onward =
        let whole : take i'.taken (h.bytes ++ m.bytes) ≡ t =
        ap (λ (n : ℕ). take n (h.bytes ++ m.bytes)) m.taken_same ∙ take-append-le i.taken h.bytes m.bytes h.inside in
        record {
          more = [];
          so_far =
              record {
                bytes = h.bytes ++ m.bytes;
                received = m.received h.bytes h.received;
                within = m.within;
                inside = omega (arith, m.taken_same, h.inside, length-append h.bytes m.bytes);
                rest =
                    m.unread_so ∙ sym (drop_at h.bytes m.bytes i.taken all_read)
                    ∙ ap (λ (n : ℕ). drop n (h.bytes ++ m.bytes)) (sym m.taken_same);
                few = few_more;
                named = inl m.unrefused;
                read =
                    λ z. subst (λ (l : List ℕ). TextRead N X l i'.reader R (es ++ [])) (sym whole)
                    (rw (m.reader_same, append-nil es) read_so_far);
                refused_so = λ z. absurd (z m.unrefused);
                ended_so = λ e. (m.unrefused, omega (arith, none_came e, m.taken_same, all_read, length-append h.bytes m.bytes));
                at_end = λ e. by_end (m.over (none_came e) some);
              };
          wrote = rw m.none_written (wrote_none out);
          same_room = refl;
        }
      where
        by_end : ReadOver file ⊎ (longest ≤ i.taken) → ReadOver file ⊎ (longest ≤ length (h.bytes ++ m.bytes))
        by_end (inl o) = inl o
        by_end (inr l) = inr (omega (arith, l, all_read, length-append h.bytes m.bytes))

  pub advance_text :
      (out : List ℕ) → too_scant (length R) (length X) (length out) ≡ false → (i' : Intake) (input' R' out' : List ℕ) → length input' ≤ 65536 → 0 < length input
      → Advanced N X file i input R out i' input' R' out' → Onward N X file es R out i' input' R' out'
  advance_text out lent i' input' R' out' short some (fed left same f) =
      subst (λ (l : List ℕ). Onward N X file es R out i' l R' out') (sym same)
      (fed_onward out lent i' R' out' f (feed_came N X t i.reader R es u out read_so_far f.bytes))
  advance_text out lent i' input' R' out' short some (came none_left a b m) =
      rw (a, b) (came_onward out i' input' none_left short some m)
