-- THE CLOSE: what it does to the rooms it does to the engine's state of them, for any numbers, records and buffer where some element is open.
--
--   drop_last_lem            a list without its last member
--   ltb_add              a test between sums
--   closing_is           what the close comes to in the engine, by what is read of all records
--   moved_is, went_is    the nodes that still wait, and how many of them go
--   close_takes          THE CLOSE
--
-- Assumes nothing, not of the buffer's length either.
use Prim.Native.Nat.{ℕ, pred, ◌+◌, ◌-◌, ◌%◌, ◌^◌, ◌≤◌, ◌<◌}
use Rattle.std.proofs.Math.Decide.{dec_lt}
use Rattle.std.proofs.Common.{mod-eq_of_lt, sub-one, arith, ◌∙◌, length-append, length-drop, take-append-drop}
use Rattle.std.proofs.Common.{take-suc, take-take, get_or-take, length-take-le, lt-ltb, le-ltb}
use Rattle.std.specs.Prelude.{◌≡◌, ltb, take}
use Rattle.std.proofs.Math.Path.{refl, sym, ap, ap₂, subst}
use mathlib.Core.List.{List, [], ◌∷◌, ◌++◌, map, append_assoc, drop_last}
use Rattle.std.proofs.Math.Dec.{eqb}
use Rattle.std.proofs.Math.ListN.{length, get_or, drop, get_or-map}
use Rattle.std.proofs.lemmas.List.{length-map}
use Rattle.std.proofs.Math.Seq.{take_at, drop_at}
use Rattle.choice.specs.Count.{down, bool_byte_read}
use Rattle.meaning.specs.Limits.{held_limit, node_limit}
use Rattle.meaning.proofs.Limits.Laws.{held_is, node_limit_is}
use Rattle.plan.specs.Plan.{Plan}
use Rattle.engine.specs.Quick.{Frame, Waiting, State, met_at, possible_at, went_if, Cut, cut, stay, closing_from, closing_at, closing, closes, quick_close}
use Rattle.engine.proofs.Quick.Lists.{cut_append}
use Rattle.engine.proofs.Quick.Snoc.{went_le, stay_le}
use Rattle.records.specs.Write.{buffer}
use Rattle.element.specs.Element.{Elements, no_frame, frame_at}
use Rattle.elements.specs.Elements.Laws.{possible_front}
use Rattle.node.specs.Node.{Queue}
use Rattle.nodes.specs.Nodes.{with, level_of, numbers, Moved, moved_by, moved_from, Handed, handed_out}
use Rattle.numbers.specs.Numbers.{Numbers}
use Rattle.tally.specs.Tally.{CloseFits, close_numbers}
use Rattle.step.specs.Step.{moved_out, close_with, close_out, close_by, close_taken}
use Rattle.right.specs.Lists.{shifted_took, shifted_length}
use Rattle.right.specs.Used.{state_in, Roomy, Takes, same_state}

drop_last_lem : (fs : List Frame) (g : Frame) → drop_last (fs ++ (g ∷ [])) ≡ fs
drop_last_lem [] g = refl
drop_last_lem (f ∷ []) g = refl
drop_last_lem (f ∷ (h ∷ fs)) g = ap (◌∷◌ f) (drop_last_lem (h ∷ fs) g)

ltb_add : (a x y : ℕ) → ltb (a + x) (a + y) ≡ ltb x y
ltb_add a x y = go (dec_lt x y)
  where
    go : Dec (x < y) → ltb (a + x) (a + y) ≡ ltb x y
    go (yes l) = lt-ltb (a + x) (a + y) (omega arith) ∙ sym (lt-ltb x y l)
    go (no f) = let h : y ≤ x = omega arith in le-ltb (a + x) (a + y) (omega arith) ∙ sym (le-ltb x y h)

module _ (P : Plan) (n : Numbers) (E : Elements) (N : Queue) (room : Roomy E N) (fits : CloseFits n) where
  abbrev s : State
  s = state_in n E N

  abbrev fs : List Frame
  fs = take n.depth E.list

  abbrev ws : List Waiting
  ws = take n.held N.list

  fs_length : length fs ≡ n.depth
  fs_length = length-take-le n.depth E.list (omega arith)

  ws_length : length ws ≡ n.held
  ws_length = length-take-le n.held N.list (omega arith)

  -- what is read of all records

  abbrev met : ℕ
  met = (frame_at E (n.depth - 1)).met

  abbrev ready : ℕ
  ready = possible_at P E.list (n.depth - 1)

  met_read : met_at fs (length fs) ≡ met
  unfolding met_at
  met_read =
      ap (λ k. get_or (0 ∷ map (λ f. f.met) fs) k 0) (fs_length ∙ down n.depth fits.some)
      ∙ get_or-map (λ f. f.met) fs (n.depth - 1) no_frame
      ∙ ap (λ (f : Frame). f.met) (get_or-take n.depth E.list (n.depth - 1) no_frame (omega (arith, fits.some)))

  above : pred (length fs) ≡ n.depth - 1
  above = sym (sub-one (length fs)) ∙ ap (λ k. k - 1) fs_length

  possible_read : possible_at P fs (n.depth - 1) ≡ ready
  possible_read =
      sym
      (ap (λ l. possible_at P l (n.depth - 1)) (sym (take-append-drop n.depth E.list))
      ∙ possible_front P fs (drop n.depth E.list) (n.depth - 1) (omega (arith, fs_length)))

  last_gone : drop_last fs ≡ take (n.depth - 1) E.list
  last_gone =
      ap drop_last
      (ap (λ k. take k E.list) (down n.depth fits.some)
      ∙ take-suc E.list (n.depth - 1) no_frame (omega (arith, fits.some, fits.deep, room.elements)))
      ∙ drop_last_lem (take (n.depth - 1) E.list) _

  -- the nodes of the innermost element, and those that stay

  abbrev c : Cut Waiting
  c = cut level_of n.depth ws

  abbrev stays : List Waiting
  stays = stay P met (n.depth - 1) ready c.from

  abbrev waiting : List Waiting
  waiting = c.before ++ stays

  abbrev left : ℕ
  left = length c.before + length stays

  abbrev went : ℕ
  went = went_if (ltb (length stays) (length c.from)) P (take (n.depth - 1) E.list) waiting

  closing_is : closing P s ≡ record { frames = take (n.depth - 1) E.list; waiting = waiting; went = went }
  unfolding closing closing_at closing_from state_in
  closing_is =
      ap₂ (λ l k. closing_at P s l (cut level_of k ws)) above fs_length
      ∙ ap₂ (λ m r. closing_from P (drop_last fs) c.before c.from (stay P m (n.depth - 1) r c.from)) met_read possible_read
      ∙ ap (λ gs. closing_from P gs c.before c.from stays) last_gone

  parts : ws ≡ c.before ++ c.from
  parts = cut_append level_of n.depth ws

  sizes : length c.before + length c.from ≡ n.held
  sizes = sym (length-append c.before c.from) ∙ ap length (sym parts) ∙ ws_length

  left_few : left ≤ n.held
  left_few = omega (arith, sizes, stay_le P met (n.depth - 1) ready c.from)

  waiting_length : length waiting ≡ left
  waiting_length = length-append c.before stays

  abbrev Q : Queue
  Q = with (waiting ++ drop left N.list) N

  moved_is :
      ◌≡◌ {A = Moved} (moved_from P met ready (n.depth - 1) n.held (length c.before) (length c.before) N) (record { held = left; queue = Q })
  unfolding moved_from
  moved_is =
      let k : ℕ = length c.before in
      ap (λ l. moved_by k N (stay P met (n.depth - 1) ready l)) (ap (drop k) parts ∙ drop_at c.before c.from k refl)
      ∙ ap (λ (l : List Waiting). record { held = left; queue = with l N })
      (ap (λ l. l ++ (stays ++ drop left N.list))
      (sym (take-take k n.held N.list (omega (arith, sizes))) ∙ ap (take k) parts ∙ take_at c.before c.from k refl)
      ∙ sym (append_assoc c.before stays (drop left N.list)))

  Q-took : take left Q.list ≡ waiting
  Q-took = take_at waiting (drop left N.list) left waiting_length

  Q-length : length Q.list ≡ held_limit
  Q-length =
      length-append waiting (drop left N.list) ∙ omega (arith, waiting_length, length-drop left N.list, left_few, fits.held, room.nodes)

  went_is : went_if (ltb left n.held) P (take (n.depth - 1) E.list) (take left Q.list) ≡ went
  went_is =
      ap₂ (λ b l. went_if b P (take (n.depth - 1) E.list) l)
      (ap (ltb left) (sym sizes) ∙ ltb_add (length c.before) (length stays) (length c.from)) Q-took

  went_few : went ≤ left
  went_few = subst (λ k. went ≤ k) waiting_length (went_le _ P _ waiting)

  module _ (out : List ℕ) (before : n.handed ≤ node_limit) where
    abbrev h : Handed
    h = handed_out went left Q out

    taken_is : close_taken P n E N out ≡ close_with n E left went h
    unfolding close_taken moved_out
    taken_is = ap (close_by P n E out) moved_is ∙ ap (close_out n E out (record { held = left; queue = Q })) went_is

    gone : length (take went waiting) ≡ went
    gone = length-take-le went waiting (omega (arith, went_few, waiting_length))

    -- the counter of the nodes handed out does not wrap
    handed_is : (n.handed + went) % 2 ^ 32 ≡ n.handed + length (take went waiting)
    handed_is = mod-eq_of_lt (omega (arith, held_is, node_limit_is, went_few, left_few, fits.held)) ∙ ap (λ k. n.handed + k) (sym gone)

    with_takes :
        Takes (closes s (record { frames = take (n.depth - 1) E.list; waiting = waiting; went = went })) (close_with n E left went h) out
    unfolding closes state_in handed_out close_numbers
    with_takes =
        record {
          refusal = refl;
          state =
              same_state refl (shifted_took Q went left (omega (arith, Q-length, left_few, fits.held)) went_few ∙ ap (drop went) Q-took) refl handed_is
              (bool_byte_read (eqb (n.depth - 1) 0)
              ∙ ap (λ k. eqb k 0) (sym (length-take-le (n.depth - 1) E.list (omega (arith, fits.deep, room.elements)))));
          listed = sym gone ∙ sym (length-map (take went waiting) (λ v. v.node));
          written = ap (λ l. buffer (numbers l) out) (sym (take-take went left Q.list went_few) ∙ ap (take went) Q-took);
          roomy =
              record {
                elements = room.elements;
                nodes = shifted_length Q went left (omega (arith, Q-length, left_few, fits.held)) went_few ∙ Q-length;
              };
          deep = omega (arith, fits.deep);
          few = omega (arith, left_few, fits.held);
        }

    -- THE CLOSE
    pub close_takes : Takes (quick_close P (state_in n E N)) (close_taken P n E N out) out
    unfolding quick_close
    close_takes =
        subst (λ a. Takes (closes s (closing P s)) a out) (sym taken_is)
        (subst (λ k. Takes (closes s k) (close_with n E left went h) out) (sym closing_is) with_takes)
