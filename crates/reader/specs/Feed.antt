-- What a feed and the end of a text come to, for all values of what is lent.
--
--   Came                           the reader, how many bytes were taken, the room, the output and how many of its bytes are written, and the refusal
--   too_scant room index out        less is lent than a feed needs
--   untouched q r R out            refused with q: nothing was read, and nothing is changed
--   throughout R g                 what reading on in the needed part of the room came to
--   feed_answer names x t r R out       a feed of the text t to the reader r, in the list `names` with its index x, the room R and the output out
--   around_only m                   the mode m is that between two pieces of markup around the document element
--   whole_at p m                    at the place p, in the mode m, a whole document was read
--   finish_answer r                 the end of the text: 46 for a stopped reader, 0 for a whole document, else 44 and stopped
--   BeginGives r, FeedGives .. c R' out', FinishGives r f      THE PROMISES of `begin`, `feed` and `finish`: what they answer, and the room and the output on
--                                  return, are that
--   is_stopped, is_not_stopped     a refusal that may be none has the number 0 exactly where there is none
--   index_is                       how many words of index a feed needs;  room_short, index_short, out_short: less is lent;  all_lent: as much as it needs
--   feed_scant, feed_stopped, feed_read      a feed by its cases;  enough: what is known where it is not scant
--
-- Assumes nothing. NOT here: what is read (Fed), that it is the machine's run (crate text_right).
use Rattle.std.specs.Prelude.{ℕ, ◌≤◌, ◌<◌, ◌≡◌, refl, Option, Some, None, is_some, Bool, true, false, List, ◌++◌, eqb, ltb, length, take, drop}
use Rattle.std.proofs.Math.Path.{sym}
use Rattle.std.proofs.Common.{arith, ap, ap₂, ◌∙◌, lt-ltb, le-ltb, ltb-false, eq-eqb, ne_eqb}
use Rattle.choice.specs.When.{when, when_true, when_false, never}
use Rattle.limits.specs.declared.TextRefusal.{TextRefusal}
use Rattle.limits.specs.declared.TextRefusal.TheVariants.{Unended, Scant, ReaderStopped}
use Rattle.limits.specs.Number.{text_of}
use Rattle.limits.specs.Number.Laws.{some_text, text_at}
use Rattle.modes.specs.declared.Mode.{Mode}
use Rattle.modes.specs.declared.Mode.TheVariants as mode
use Rattle.modes.specs.declared.Reader.{Reader}
use Rattle.modes.specs.Moves.{refuse_with}
use Rattle.slots.specs.Slots.{room_needed}
use Rattle.xml.specs.Bounds.{list_limit}
use Rattle.spelling.specs.Bucket.{buckets}
use Rattle.chains.specs.Index.{index_words}
use Rattle.reader.specs.declared.Fed.{Fed}
use Rattle.reader.specs.declared.Finished.{Finished}
use Rattle.reader.specs.Fed.{Going, fresh_reader, read_on}

pub record Came : Type 0 where
  pub reader : Reader
  pub taken : ℕ
  pub room : List ℕ
  pub out : List ℕ
  pub written : ℕ
  pub refusal : Option TextRefusal

unfoldable pub too_scant : ℕ → ℕ → ℕ → Bool
too_scant room index out = when (ltb room room_needed) true (when (ltb index index_words) true (ltb out 16))

-- the same in both cases
same_either : (t b : Bool) → when t b b ≡ b
unfolding when
same_either true b = refl
same_either false b = refl

pub index_is : index_words ≡ 196_602
unfolding index_words buckets list_limit
index_is = refl

module _ (room index out : ℕ) where
  pub room_short : room < 18_496 → too_scant room index out ≡ true
  unfolding too_scant room_needed
  room_short h = when_true _ _ _ (lt-ltb room 18_496 h)

  pub index_short : index < 196_602 → too_scant room index out ≡ true
  unfolding too_scant
  index_short h =
      ap (when (ltb room room_needed) true) (when_true _ true (ltb out 16) (lt-ltb index index_words (omega (arith, index_is))))
      ∙ same_either (ltb room room_needed) true

  pub out_short : out < 16 → too_scant room index out ≡ true
  unfolding too_scant
  out_short h =
      ap (when (ltb room room_needed) true)
      (ap (when (ltb index index_words) true) (lt-ltb out 16 h) ∙ same_either (ltb index index_words) true)
      ∙ same_either (ltb room room_needed) true

  pub all_lent : 18_496 ≤ room → 196_602 ≤ index → 16 ≤ out → too_scant room index out ≡ false
  unfolding too_scant room_needed
  all_lent h i j =
      when_false _ _ _ (le-ltb room 18_496 h)
      ∙ when_false _ _ _ (le-ltb index index_words (omega (arith, index_is)))
      ∙ le-ltb out 16 j

abbrev pub untouched : TextRefusal → Reader → List ℕ → List ℕ → Came
untouched q r R out = record { reader = r; taken = 0; room = R; out = out; written = 0; refusal = Some q }

-- the bytes past the needed ones are never touched
abbrev pub throughout : List ℕ → Going → Came
throughout R g =
    record {
      reader = g.reader;
      taken = g.at;
      room = g.room ++ drop room_needed R;
      out = g.out;
      written = g.written;
      refusal = text_at g.reader.refusal;
    }

unfoldable pub feed_answer : List ℕ → List ℕ → List ℕ → Reader → List ℕ → List ℕ → Came
feed_answer names x t r R out =
    when (too_scant (length R) (length x) (length out)) (untouched Scant r R out)
    (when (eqb r.refusal 0) (throughout R (read_on names x t r (take room_needed R) out)) (untouched ReaderStopped r R out))

unfoldable pub around_only : Mode → Bool
around_only mode.Around = true
around_only _ = false

unfoldable pub whole_at : ℕ → Mode → Bool
whole_at p m = when (eqb p 65_535) (around_only m) false

unfoldable pub finish_answer : Reader → Finished
finish_answer r =
    when (eqb r.refusal 0)
    (when (whole_at r.place r.mode) (record { reader = r; refusal = None }) (record { reader = refuse_with r Unended; refusal = Some Unended }))
    (record { reader = r; refusal = Some ReaderStopped })

-- what the reader's calls ensure
abbrev pub BeginGives : Reader → Type 0
BeginGives r = r ≡ fresh_reader

abbrev pub FeedGives : List ℕ → List ℕ → List ℕ → Reader → List ℕ → List ℕ → Fed → List ℕ → List ℕ → Type 0
FeedGives names x t r R out c R' out' =
    record { reader = c.reader; taken = c.taken; room = R'; out = out'; written = c.written; refusal = c.refusal } ≡ feed_answer names x t r R out

abbrev pub FinishGives : Reader → Finished → Type 0
FinishGives r f = f ≡ finish_answer r

-- a refusal that there is, and one that is none
pub is_stopped : (o : Option TextRefusal) → is_some o ≡ true → text_of o ≡ 0 → ⊥
is_stopped None h e = cc
is_stopped (Some x) h e =
    let l = some_text x in
    omega arith

pub is_not_stopped : (o : Option TextRefusal) → is_some o ≡ false → text_of o ≡ 0
is_not_stopped None h = refl
is_not_stopped (Some x) h = cc

-- by its cases
module _ (names x t : List ℕ) (r : Reader) (R out : List ℕ) where
  pub feed_scant : too_scant (length R) (length x) (length out) ≡ true → untouched Scant r R out ≡ feed_answer names x t r R out
  unfolding feed_answer
  feed_scant e = sym (when_true _ _ _ e)

  module _ (e : too_scant (length R) (length x) (length out) ≡ false) where
    pub feed_stopped : (r.refusal ≡ 0 → ⊥) → untouched ReaderStopped r R out ≡ feed_answer names x t r R out
    unfolding feed_answer
    feed_stopped f = sym (when_false _ _ _ e ∙ when_false _ _ _ (ne_eqb r.refusal 0 f))

    pub feed_read : r.refusal ≡ 0 → throughout R (read_on names x t r (take room_needed R) out) ≡ feed_answer names x t r R out
    unfolding feed_answer
    feed_read f = sym (when_false _ _ _ e ∙ when_true _ _ _ (eq-eqb r.refusal 0 f))

    -- the needed part of the room, of which the code knows the length
    pub feed_came :
        {k : ℕ} {q : Option TextRefusal} {g : Going} → r.refusal ≡ 0 → room_needed ≡ k → g ≡ read_on names x t r (take k R) out → q ≡ text_at g.reader.refusal
        → record { reader = g.reader; taken = g.at; room = g.room ++ drop k R; out = g.out; written = g.written; refusal = q }
        ≡ feed_answer names x t r R out
    feed_came {g = g} f e h j =
        ap₂ (λ n z. record { reader = g.reader; taken = g.at; room = g.room ++ drop n R; out = g.out; written = g.written; refusal = z }) (sym e) j
        ∙ ap (throughout R) (h ∙ ap (λ n. read_on names x t r (take n R) out) (sym e))
        ∙ feed_read f

pub record Enough (room index out : ℕ) : Type 0 where
  pub room' : room_needed ≤ room
  pub index' : index_words ≤ index
  pub out' : 16 ≤ out

pub enough : (room index out : ℕ) → too_scant room index out ≡ false → Enough room index out
unfolding too_scant when
enough room index out e = go (ltb room room_needed) (ltb index index_words) (ltb out 16) refl refl refl e
  where
    go :
        (a b c : Bool) → ltb room room_needed ≡ a → ltb index index_words ≡ b → ltb out 16 ≡ c → when a true (when b true c) ≡ false
        → Enough room index out
    go false false false e f g h =
        record { room' = ltb-false room room_needed e; index' = ltb-false index index_words f; out' = ltb-false out 16 g }
    go false false true e f g h = never (sym h)
    go false true c e f g h = never (sym h)
    go true b c e f g h = never (sym h)

-- by the mode that was found
pub in_mode : (p : ℕ) (m : Mode) {k : Mode} {b : Bool} → p ≡ 65_535 → m ≡ k → b ≡ around_only k → b ≡ whole_at p m
unfolding whole_at
in_mode p m e f g = g ∙ ap around_only (sym f) ∙ sym (when_true _ _ false (eq-eqb p 65_535 e))

pub finish_early :
    (r : Reader) {z : Reader} → r.refusal ≡ 0 → whole_at r.place r.mode ≡ false → z ≡ refuse_with r Unended
    → ◌≡◌ {A = Finished} (record { reader = z; refusal = Some Unended }) (finish_answer r)
unfolding finish_answer
finish_early r e f g =
    ap (λ z. record { reader = z; refusal = Some Unended }) g ∙ sym (when_true _ _ _ (eq-eqb r.refusal 0 e) ∙ when_false _ _ _ f)

pub ruleset feeding = (feed_scant, index_is, room_short, index_short, out_short)
