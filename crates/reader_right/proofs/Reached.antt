-- What a feed comes to, turn by turn.
--
--   Reached out g       where a feed has come: what came of the text from here on is what comes of it from the start (o), behind the events whose records are
--                         written; or the byte here was refused
--   reached_on            one turn more;  reached_for: some
--   read_within           a feed stays in the text
--   read_ended            no turn is left: the text ends, the byte here is refused, or the output has no room for what another byte can give
--
-- N and X are the list of names and its index, t is the text. Assumes nothing.
use Prim.Native.Nat.{ℕ, zero, suc, ◌+◌, ◌≤◌, ◌<◌}
use Rattle.std.proofs.Common.{arith, sym, ◌∙◌, append_assoc, append-nil, length-append, length-drop, take-add}
use Rattle.std.specs.Prelude.{◌≡◌, refl, Bool, true, false, List, [], ◌∷◌, ◌++◌, take, drop}
use Rattle.std.proofs.Math.Path.{ap, subst}
use Rattle.std.proofs.Math.ListN.{length}
use Rattle.std.proofs.Math.Seq.{take-append_seam}
use Rattle.choice.specs.When.{when_known}
use Rattle.xml.specs.Grammar.{Ev}
use Rattle.xml.specs.Machine.{State, stopped, stands, given, run}
use Rattle.xml.specs.Limited.{bounds}
use Rattle.reading.specs.Cut.{cut_anywhere, onward}
use Rattle.names.specs.Number.{number_of}
use Rattle.text_right.specs.Marked.{marks_table}
use Rattle.modes.specs.declared.Gives.TheVariants as gives
use Rattle.modes.specs.declared.Reader.{Reader}
use Rattle.modes.specs.Moves.{open_at}
use Rattle.walk.specs.Turn.{Turned, turned}
use Rattle.walk.proofs.Within.{turned_within, turned_on}
use Rattle.emit.specs.Emit.{Emitted, emitted_by, emitted}
use Rattle.reader.specs.Fed.{Going, advanced_by, advanced, goes_on, read_for}
use Rattle.reader.specs.Fed.Laws.{More, more_is}
use Rattle.text_right.specs.Stands.{state_of, evs_of}
use Rattle.text_right.specs.Sound.{Sound}
use Rattle.text_right.proofs.Quiet.{Bytes}
use Rattle.text_right.proofs.Turned.{Turns, turn_right}
use Rattle.text_right.proofs.Below.{Same}
use Rattle.text_right.proofs.Placed.{Placed}
use Rattle.text_right.proofs.Led.{turn_placed, turn_below, turn_long}
use Rattle.reader_right.specs.Records.{records_in, records_more}
use Rattle.reader_right.specs.Wrote.{Wrote, wrote_long}
use Rattle.reader_right.specs.Counted.{Counted}
use Rattle.reader_right.proofs.Emits.{emits, emits_none}

-- where a byte is refused nothing is given
refused_none : {r x : Reader} → Placed r x → 0 < x.refusal → x.gives ≡ gives.Nothing
refused_none (Placed.still e f) l = e
refused_none (Placed.remarked e z f) l = absurd (omega arith)
refused_none (Placed.deeper e z m f k) l = absurd (omega arith)
refused_none (Placed.higher e z f low high) l = absurd (omega arith)
refused_none (Placed.empty e z f k) l = absurd (omega arith)

more_within : {r at end w out : ℕ} → More r at end w out → at ≤ end
more_within m = let l = m.there in omega arith

-- some bytes more of a text
take_more : (t v : List ℕ) (i j : ℕ) → (i ≤ j) × (j ≤ length t) → drop i t ≡ v ++ drop j t → take j t ≡ take i t ++ v
take_more t v i j l h =
    let lengths = sym (length-drop i t) ∙ ap length h ∙ length-append v (drop j t) in
    let j-is : j ≡ i + length v = omega (arith, lengths, length-drop j t, l.0, l.1) in
    ap (λ n. take n t) j-is
    ∙ take-add i (length v) t
    ∙ ap (λ u. take i t ++ u) (ap (take (length v)) h ∙ take-append_seam v (drop j t))

module _ (N X t : List ℕ) (k : State) where
  abbrev f : List ℕ → ℕ
  f = number_of N X

  pub data Reached (out : List ℕ) (g : Going) : Type 0 where
    on :
        (es : List Ev)
        → g.reader.refusal ≡ 0
        → run bounds (take g.at t) k ≡ stands es (state_of g.reader g.room)
        → Sound g.reader g.room
        → Counted (number_of N X) g.room (open_at g.reader.place)
        → Wrote out (records_in (number_of N X) es) g.out g.written
        → Reached out g
    stops :
        (es : List Ev) (b : ℕ) (w : List ℕ)
        → 0 < g.reader.refusal
        → length g.room ≡ 18_496
        → drop g.at t ≡ b ∷ w
        → run bounds (take g.at t ++ (b ∷ [])) k ≡ stopped es g.reader.refusal (b ∷ [])
        → Wrote out (records_in (number_of N X) es) g.out g.written
        → Reached out g

  module _ (bytes : Bytes t) (out : List ℕ) where
    module _
        (g : Going)
        (es : List Ev)
        (e : run bounds (take g.at t) k ≡ stands es (state_of g.reader g.room))
        (ok : Sound g.reader g.room)
        (numbers : Counted f g.room (open_at g.reader.place))
        (wrote : Wrote out (records_in f es) g.out g.written)
        (more : More g.reader.refusal g.at (length t) g.written (length g.out))
      where
        T : Turned
        T = turned marks_table g.reader t g.at g.room

        placed : Placed g.reader T.reader
        unfolding T
        placed = turn_placed g.reader g.room t g.at ok bytes

        below : Same g.room T.room g.reader.place
        unfolding T
        below = turn_below g.reader g.room t g.at ok bytes

        spare : g.written + 16 ≤ length out
        spare = omega (arith, more.room, wrote_long wrote, wrote.fits)

        -- where a byte is refused the room is as the turn left it
        still_long : 0 < T.reader.refusal → length (emitted N X T.reader T.room g.out g.written).room ≡ 18_496
        unfolding T emitted emitted_by
        still_long z =
            subst (λ h. length (emitted_by h N X T.reader.place T.room g.out g.written).room ≡ 18_496) (sym (refused_none placed z))
            (turn_long g.reader g.room t g.at ok bytes)

        -- the text up to where the turn ends
        taken : (v : List ℕ) → drop g.at t ≡ v ++ drop T.at t → take T.at t ≡ take g.at t ++ v
        unfolding T
        taken v h = take_more t v g.at (turned marks_table g.reader t g.at g.room).at (turned_within _ _ _ _ _ (more_within more)) h

        -- what the machine does behind the text that was read
        behind : (u : List ℕ) → run bounds (take g.at t ++ u) k ≡ given es (run bounds u (state_of g.reader g.room))
        behind u = cut_anywhere bounds (take g.at t) u k ∙ ap (λ z. onward bounds z (run bounds u) u) e

        abbrev E : Emitted
        E = emitted N X T.reader T.room g.out g.written

        after_turn : Turns (state_of g.reader g.room) T g.at t → Reached out (advanced_by N X g T)
        unfolding advanced_by given
        after_turn (Turns.on v z h r s) =
            let x =
            emits N X T.reader T.room out (records_in f es) g.out g.written wrote s spare ok numbers below placed in
            Reached.on (es ++ evs_of T.reader T.room) z
            (ap (λ u. run bounds u k) (taken v h)
            ∙ behind v
            ∙ ap (given es) r
            ∙ ap (stands (es ++ evs_of T.reader T.room)) (sym x.state))
            x.sound x.counted
            (subst (λ bs. Wrote out bs E.out E.written) (sym (records_more f es (evs_of T.reader T.room))) x.wrote)
        after_turn (Turns.stops v w b z h j r) =
            Reached.stops es b w z (still_long z) j
            (ap (λ u. run bounds (u ++ (b ∷ [])) k) (taken v h)
            ∙ ap (λ u. run bounds u k) (append_assoc (take g.at t) v (b ∷ []))
            ∙ behind (v ++ (b ∷ []))
            ∙ ap (given es) r
            ∙ ap (λ fs. stopped fs T.reader.refusal (b ∷ [])) (append-nil es))
            (subst (λ bs. Wrote out bs E.out E.written) (sym (records_more f es []) ∙ ap (records_in f) (append-nil es))
            (emits_none N X T.reader T.room out (records_in f es) g.out g.written wrote (refused_none placed z)))

        reached_turn : Reached out (advanced N X marks_table t g)
        unfolding advanced T
        reached_turn = after_turn (turn_right g.reader g.room t g.at ok bytes)

    pub reached_on : (g : Going) → Reached out g → goes_on t g ≡ true → Reached out (advanced N X marks_table t g)
    reached_on g (Reached.on es z e ok numbers wrote) more = reached_turn g es e ok numbers wrote (more_is _ _ _ _ _ more)
    reached_on g (Reached.stops es b w z l j e wrote) more = absurd (omega (arith, (more_is g.reader.refusal _ _ _ _ more).unrefused))

    pub reached_for : (n : ℕ) (g : Going) → Reached out g → Reached out (read_for n N X marks_table t g)
    unfolding read_for
    reached_for zero g h = h
    reached_for (suc n) g h =
        when_known (Reached out) (goes_on t g) _ _ (λ e. reached_for n (advanced N X marks_table t g) (reached_on g h e)) (λ e. h)

module _ (N X t : List ℕ) where
  ended : (g : Going) → (goes_on t g ≡ true → ⊥) → goes_on t g ≡ false
  ended g h = go (goes_on t g) refl
    where
      go : (b : Bool) → goes_on t g ≡ b → goes_on t g ≡ false
      go true e = absurd (h e)
      go false e = e

  pub read_within : (k : ℕ) (g : Going) → g.at ≤ length t → (read_for k N X marks_table t g).at ≤ length t
  unfolding read_for advanced advanced_by
  read_within zero g l = l
  read_within (suc k) g l =
      when_known (λ (z : Going). z.at ≤ length t) (goes_on t g) _ _
      (λ e. read_within k (advanced N X marks_table t g) (turned_within marks_table g.reader t g.at g.room l).1) (λ e. l)

  -- as many turns as there are bytes are enough
  pub read_ended :
      (k : ℕ) (g : Going) → g.at ≤ length t → (g.reader.refusal ≡ 0 → length t < g.at + k) → goes_on t (read_for k N X marks_table t g) ≡ false
  unfolding read_for advanced advanced_by
  read_ended zero g l h = ended g (λ e. let m = more_is _ _ _ _ _ e in let z = h m.unrefused in let u = m.there in omega arith)
  read_ended (suc k) g l h =
      when_known (λ (z : Going). goes_on t z ≡ false) (goes_on t g) _ _
      (λ e. let m = more_is _ _ _ _ _ e in
      read_ended k (advanced N X marks_table t g) (on_within m.there) (λ z. on_enough m.there m.unrefused z))
      (λ e. e)
    where
      on_within : g.at < length t → (advanced N X marks_table t g).at ≤ length t
      on_within u = (turned_within marks_table g.reader t g.at g.room l).1

      on_enough : g.at < length t → g.reader.refusal ≡ 0 → (advanced N X marks_table t g).reader.refusal ≡ 0 → length t < (advanced N X marks_table t g).at + k
      on_enough u y z =
          let n = h y in
          omega (arith, turned_on marks_table g.reader t g.at g.room l u z)
