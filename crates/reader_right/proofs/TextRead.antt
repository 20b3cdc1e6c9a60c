-- A text that is read, and what a feed of more of it comes to.
--
--   text_begun                a text is read (specs/TextRead) at the start
--   FeedCame t u r R out es c     what a feed of the block u comes to after the text t: too little is lent, and nothing is changed; or a part of u is taken,
--                             all of it but where the output has no room left, and the events' records are written; or a byte of it is refused
--   feed_came                 so does the code's `feed`
--   feed_on                   a feed that is lent enough, of a block that is not empty, takes a byte or refuses one
--
-- N and X are the list of names and its index, as they are lent to each call. Assumes nothing.
use Rattle.std.specs.Prelude.{ℕ, suc, ◌+◌, ◌-◌, ◌≤◌, ◌<◌, ◌⊎◌, ◌≡◌, Bool, ltb}
use Rattle.std.proofs.Common.{arith, sym, ◌∙◌, length-append, length-drop, length-take-le, take_at, drop_at}
use Rattle.std.proofs.Math.Logic.{inl, inr}
use Rattle.std.proofs.Math.Path.{refl, ap, subst}
use Rattle.std.proofs.Math.Bool.{true, false}
use mathlib.Core.List.{List, [], ◌∷◌, ◌++◌, append_assoc, append-nil, append_cancel_left}
use Rattle.std.proofs.Math.Dec.{leb}
use Rattle.std.proofs.Math.ListN.{length, take, drop}
use borrow.Author.Tests.{eq-eqb, leb-true, leb-false, ltb-true, ltb-false}
use Rattle.choice.specs.When.{when_true, when_false, never}
use Rattle.limits.specs.declared.TextRefusal.TheVariants.{Scant}
use Rattle.xml.specs.Grammar.{Ev}
use Rattle.xml.specs.Machine.{State, stopped, stands, given, run}
use Rattle.xml.specs.Numbered.{numbered}
use Rattle.xml.specs.Limited.{bounds}
use Rattle.reading.specs.Cut.{cut_anywhere, onward}
use Rattle.names.specs.Number.{number_of}
use Rattle.limits.specs.Number.{text_of}
use Rattle.limits.specs.Number.Laws.{text_at}
use Rattle.modes.specs.declared.Reader.{Reader}
use Rattle.modes.specs.Moves.{open_at}
use Rattle.slots.specs.Slots.{room_needed}
use Rattle.slots.specs.Slots.Laws.{room_is}
use Rattle.reader.specs.Fed.{Going, fresh_reader, more_to_read, goes_on, read_for, begun_with, read_on}
use Rattle.reader.proofs.Told.{read_told}
use Rattle.reader.specs.Feed.{Came, too_scant, untouched, throughout, feed_answer, feed_scant, feed_read, enough}
use Rattle.text_right.specs.Marked.{table_is}
use Rattle.text_right.specs.Stands.{state_of}
use Rattle.text_right.specs.Sound.{Sound}
use Rattle.text_right.proofs.Frames.{open_is}
use Rattle.text_right.proofs.Quiet.{Bytes}
use Rattle.text_right.proofs.Turned.{begin_sound, begin_state}
use Rattle.reader_right.specs.Records.{records_of, records_in}
use Rattle.reader_right.specs.Wrote.{Wrote, wrote_none, wrote_long}
use Rattle.reader_right.specs.Counted.{Counted}
use Rattle.reader_right.proofs.Counted.{counted_none}
use Rattle.reader_right.proofs.Reached.{Reached, on, stops, reached_for, read_within, read_ended}
use Rattle.reader_right.specs.TextRead.{used, TextRead}

pub text_begun : (N X R : List ℕ) → room_needed ≤ length R → TextRead N X [] fresh_reader R []
unfolding run
text_begun N X R l =
    record {
      unrefused = refl;
      reads = ap (stands []) (sym (begin_state fresh_reader (used R) refl refl));
      sound = begin_sound fresh_reader (used R) refl refl (length-take-le room_needed R l ∙ room_is);
      counted = counted_none (number_of N X) (used R) (open_at 0) (open_is 0 (omega arith));
    }

module _ (N X t : List ℕ) (r : Reader) (R : List ℕ) (es : List Ev) (u out : List ℕ) where
  -- the records of the events fs are written, and the room past the needed part is as it was
  pub record Kept (fs : List Ev) (c : Came) : Type 0 where
    pub wrote : Wrote out (records_in (number_of N X) fs) c.out c.written
    pub past : drop room_needed c.room ≡ drop room_needed R
    pub same_length : length c.room ≡ length R

  pub data FeedCame (c : Came) : Type 0 where
    lent_scant : too_scant (length R) (length X) (length out) ≡ true → c ≡ untouched Scant r R out → FeedCame c
    went :
        (fs : List Ev)
        → text_of c.refusal ≡ 0
        → TextRead N X (t ++ take c.taken u) c.reader c.room (es ++ fs)
        → (c.taken ≡ length u) ⊎ (length out < c.written + 16)
        → Kept fs c
        → FeedCame c
    refused :
        (fs : List Ev) (b : ℕ) (w : List ℕ)
        → 0 < text_of c.refusal
        → c.reader.refusal ≡ text_of c.refusal
        → drop c.taken u ≡ b ∷ w
        → run bounds ((t ++ take c.taken u) ++ (b ∷ [])) State.start ≡ stopped (es ++ fs) (text_of c.refusal) (b ∷ [])
        → Kept fs c
        → FeedCame c

  module _ (h : TextRead N X t r R es) (bytes : Bytes u) where
    -- what the machine does behind the text that was read
    behind : (v : List ℕ) → run bounds (t ++ v) State.start ≡ given es (run bounds v (state_of r (used R)))
    behind v = cut_anywhere bounds t v State.start ∙ ap (λ z. onward bounds z (run bounds v) v) h.reads

    module _ (lent : too_scant (length R) (length X) (length out) ≡ false) where
      abbrev g : Going
      g = read_on N X u r (used R) out

      long : length (used R) ≡ room_needed
      long = length-take-le room_needed R (enough _ _ _ lent).room'

      first : Reached N X u (state_of r (used R)) out (begun_with r (used R) out)
      unfolding run records_of numbered
      first = on [] h.unrefused refl h.sound h.counted (wrote_none out)

      reached : Reached N X u (state_of r (used R)) out g
      unfolding read_on
      reached =
          subst (λ M. Reached N X u (state_of r (used R)) out (read_for (suc (length u)) N X M u (begun_with r (used R) out))) table_is
          (reached_for N X u (state_of r (used R)) bytes out (suc (length u)) (begun_with r (used R) out) first)

      ended : goes_on u g ≡ false
      unfolding read_on
      ended =
          subst (λ M. goes_on u (read_for (suc (length u)) N X M u (begun_with r (used R) out)) ≡ false) table_is
          (read_ended N X u (suc (length u)) (begun_with r (used R) out) (omega arith) (λ e. omega arith))

      within : g.at ≤ length u
      unfolding read_on
      within =
          subst (λ M. (read_for (suc (length u)) N X M u (begun_with r (used R) out)).at ≤ length u) table_is
          (read_within N X u (suc (length u)) (begun_with r (used R) out) (omega arith))

      -- where nothing was refused, the block is taken or the output is full
      why_ended : g.reader.refusal ≡ 0 → g.at ≤ length u → g.written ≤ length out → length g.out ≡ length out
          → (g.at ≡ length u) ⊎ (length out < g.written + 16)
      unfolding more_to_read
      why_ended z inside most same = go (leb (length u) g.at) (leb 16 (length g.out - g.written)) refl refl
        where
          go : (a b : Bool) → leb (length u) g.at ≡ a → leb 16 (length g.out - g.written) ≡ b → (g.at ≡ length u) ⊎ (length out < g.written + 16)
          go true b e f = let l : length u ≤ g.at = leb-true _ _ e in inl (omega arith)
          go false false e f = let l : length g.out - g.written < 16 = leb-false _ _ f in inr (omega arith)
          go false true e f = never (sym (ended) ∙ when_true _ _ _ (eq-eqb _ 0 z) ∙ when_false _ _ _ e ∙ f)

      -- the needed part of the room, and the bytes past it
      module _ (l : length g.room ≡ 18_496) where
        used_is : used (g.room ++ drop room_needed R) ≡ g.room
        used_is = take_at g.room (drop room_needed R) room_needed (l ∙ sym room_is)

        past_is : drop room_needed (g.room ++ drop room_needed R) ≡ drop room_needed R
        past_is = drop_at g.room (drop room_needed R) room_needed (l ∙ sym room_is)

        long_is : length (g.room ++ drop room_needed R) ≡ length R
        long_is =
            length-append g.room (drop room_needed R)
            ∙ omega (arith, length-drop room_needed R, room_is, (enough (length R) (length X) (length out) lent).room')

      -- its refusal has the number that the answer's has
      told : text_of (text_at g.reader.refusal) ≡ g.reader.refusal
      told = read_told N X u r (used R) out h.unrefused

      by_reached : Reached N X u (state_of r (used R)) out g → FeedCame (throughout R g)
      unfolding given
      by_reached (on fs z e ok numbers wrote) =
          let S = g.room ++ drop room_needed R in
          let l = ok.kept.long in
          went fs (told ∙ z)
          (record {
            unrefused = z;
            reads = behind (take g.at u) ∙ ap (given es) e ∙ ap (λ Q. stands (es ++ fs) (state_of g.reader Q)) (sym (used_is l));
            sound = subst (Sound g.reader) (sym (used_is l)) ok;
            counted = subst (λ Q. Counted (number_of N X) Q (open_at g.reader.place)) (sym (used_is l)) numbers;
          })
          (why_ended z within wrote.fits (wrote_long wrote))
          (record { wrote = wrote; past = past_is l; same_length = long_is l })
      by_reached (stops fs b w z l j e wrote) =
          refused fs b w (subst (λ n. 0 < n) (sym told) z) (sym told) j
          (ap (λ v. run bounds v State.start) (append_assoc t (take g.at u) (b ∷ []))
          ∙ behind (take g.at u ++ (b ∷ []))
          ∙ ap (given es) e
          ∙ ap (λ n. stopped (es ++ fs) n (b ∷ [])) (sym told))
          (record { wrote = wrote; past = past_is l; same_length = long_is l })

      enough_came : FeedCame (feed_answer N X u r R out)
      enough_came = subst FeedCame (feed_read N X u r R out lent h.unrefused) (by_reached reached)

    pub feed_came : FeedCame (feed_answer N X u r R out)
    feed_came = go (too_scant (length R) (length X) (length out)) refl
      where
        go : (b : Bool) → too_scant (length R) (length X) (length out) ≡ b → FeedCame (feed_answer N X u r R out)
        go true e = lent_scant e (sym (feed_scant N X u r R out e))
        go false e = enough_came e

    none_more : (fs : List Ev) (j : State) → run bounds (t ++ []) State.start ≡ stands (es ++ fs) j → fs ≡ []
    none_more fs j e =
        let q = sym h.reads ∙ ap (λ z. run bounds z State.start) (sym (append-nil t)) ∙ e in
        let same : es ++ [] ≡ es ++ fs = append-nil es ∙ (let z : es ≡ es ++ fs = cc in z) in
        sym (append_cancel_left es [] fs same)

    pub feed_on :
        too_scant (length R) (length X) (length out) ≡ false → 0 < length u
        → (0 < (feed_answer N X u r R out).taken) ⊎ (0 < text_of (feed_answer N X u r R out).refusal)
    unfolding records_of numbered
    feed_on lent some = go (feed_answer N X u r R out) feed_came
      where
        full : (c : Came) (fs : List Ev) → c.taken ≡ 0 → TextRead N X (t ++ take c.taken u) c.reader c.room (es ++ fs) → Kept fs c
            → length out < c.written + 16 → ⊥
        full c fs z x k l =
            let none = none_more fs _ (ap (λ n. run bounds (t ++ take n u) State.start) (sym z) ∙ x.reads) in
            let w = ap (λ gs. length (records_in (number_of N X) gs)) (sym none) ∙ k.wrote.size in
            omega (arith, w, l, (enough (length R) (length X) (length out) lent).out')

        go : (c : Came) → FeedCame c → (0 < c.taken) ⊎ (0 < text_of c.refusal)
        go c (lent_scant e f) = never (sym lent ∙ e)
        go c (went fs z x (inl e) k) = inl (omega arith)
        go c (went fs z x (inr l) k) = by_taken (ltb 0 c.taken) refl
          where
            by_taken : (b : Bool) → ltb 0 c.taken ≡ b → (0 < c.taken) ⊎ (0 < text_of c.refusal)
            by_taken true e = inl (ltb-true _ _ e)
            by_taken false e = let m : c.taken ≤ 0 = ltb-false _ _ e in absurd (full c fs (omega arith) x k l)
        go c (refused fs b w l q j e k) = inr l
