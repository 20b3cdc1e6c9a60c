-- THE OPEN: what it does to the rooms it does to the engine's state of them, for any numbers, records and buffer where no refusal applies.
--
--   Ends ws w out all joins k j      the nodes ws wait, the first k of them go, w is the new one: j is how all then stands
--   join_ends            what `joined` (crate nodes) comes to;  gone: how many nodes go
--   open_takes           THE OPEN
--
-- Assumes nothing, not of the buffer's length either.
use Prim.Native.Nat.{ℕ, suc, ◌+◌, ◌-◌, ◌%◌, ◌^◌, ◌≤◌, ◌<◌}
use Rattle.std.proofs.Common.{mod-eq_of_lt, add-one, arith, ◌∙◌, take_at, take-take}
use Rattle.std.specs.Prelude.{◌≡◌, Bool, not, ◌&&◌, List, [], ◌∷◌, ◌++◌, length, take, drop}
use Rattle.std.proofs.Math.Path.{refl, sym, ap, ap₂, subst}
use Rattle.std.proofs.Math.Bool.{true, false}
use Rattle.std.proofs.lemmas.List.{map-append, length-map}
use mir.Val.{bool_byte}
use Rattle.std.proofs.Math.ListN.{length-append, length-drop}
use Rattle.std.proofs.Math.Seq.{length-take-le}
use borrow.Author.Tests.{eqb-true, leb-false}
use Rattle.choice.specs.When.{when, never}
use Rattle.choice.specs.Count.{bool_byte_le}
use Rattle.meaning.specs.Limits.{held_limit, node_limit}
use Rattle.meaning.proofs.Limits.Laws.{held_is, node_limit_is}
use Rattle.plan.specs.Plan.{Plan}
use Rattle.engine.specs.Quick.{Waiting, State, Opening, opening, opening_from, judged, over, newcomer, queue_after, out_after, opens, quick_open}
use Rattle.engine.proofs.Quick.Snoc.{frames_after_length, went_le}
use Rattle.records.specs.Write.{buffer}
use Rattle.element.specs.Element.{Elements}
use Rattle.node.specs.Node.{Queue}
use Rattle.nodes.specs.Nodes.{numbers, Joined, joined, handed_out}
use Rattle.numbers.specs.Numbers.{Numbers}
use Rattle.tally.specs.Tally.{OpenFits, open_numbers}
use Rattle.opening.specs.Opening.{over_in, going_of, opened_by, opening_in}
use Rattle.step.specs.Step.{open_with, open_by, open_taken}
use Rattle.right.specs.Lists.{shifted_took, shifted_length, joined_took, joined_length}
use Rattle.right.specs.Used.{state_in, Roomy, Takes, same_state, opening_used, over_used}

-- the end of an open, whichever it is: of the nodes ws the first k go, w is the new one
record Ends (ws : List Waiting) (w : Waiting) (out : List ℕ) (all joins : Bool) (k : ℕ) (j : Joined) : Type 0 where
  waits : take j.held j.queue.list ≡ queue_after all joins ws w k
  written : j.out ≡ buffer (numbers (out_after all ws w k)) out
  many : length j.queue.list ≡ held_limit
  few : j.held ≤ held_limit

module _ (N : Queue) (held : ℕ) (many : length N.list ≡ held_limit) (few : held ≤ held_limit) (number level : ℕ) (out : List ℕ) where
  abbrev ws : List Waiting
  ws = take held N.list

  abbrev w : Waiting
  w = record { node = number; level = level; need = 0 }

  ws_length : length ws ≡ held
  ws_length = length-take-le held N.list (omega arith)

  join_ends :
      (all joins : Bool) (k : ℕ) → k ≤ held → (all ≡ true → k ≡ held) → (all ≡ false → joins ≡ true → held - k < held_limit) →
      Ends ws w out all joins k (joined (record { went = k; all = all; joins = joins }) held number level N out)
  unfolding joined when handed_out queue_after out_after
  join_ends true joins k h whole free =
      record {
        waits = refl;
        written =
            ap (λ l. buffer l out)
            (ap (λ i. numbers (take i N.list) ++ (number ∷ [])) (whole refl) ∙ sym (map-append (λ v. v.node) ws (w ∷ [])));
        many = many;
        few = omega arith;
      }
  join_ends false true k h whole free =
      let room : held - k < held_limit = free refl refl in
      record {
        waits = joined_took N k held (omega arith) h number level (omega arith);
        written = ap (λ l. buffer (numbers l) out) (sym (take-take k held N.list h));
        many = joined_length N k held (omega arith) h number level ∙ many;
        few = omega arith;
      }
  join_ends false false k h whole free =
      record {
        waits = shifted_took N k held (omega arith) h;
        written = ap (λ l. buffer (numbers l) out) (sym (take-take k held N.list h));
        many = shifted_length N k held (omega arith) h ∙ many;
        few = omega arith;
      }

  gone : (all : Bool) (k : ℕ) → k ≤ held → (all ≡ true → k ≡ held) → k + bool_byte all ≡ length (out_after all ws w k)
  unfolding out_after
  gone true k h whole = let e : k ≡ held = whole refl in omega (arith, ws_length, length-append ws (w ∷ []))
  gone false k h whole = omega (arith, length-take-le k ws (omega (arith, ws_length)))

-- tests

and_left : (a b : Bool) → (a && b) ≡ true → a ≡ true
and_left true b h = refl
and_left false b h = h

not_over : (all joins b : Bool) → (not all && (joins && b)) ≡ false → all ≡ false → joins ≡ true → b ≡ false
not_over false true b h e₁ e₂ = h
not_over true joins b h e₁ e₂ = never (sym e₁)
not_over false false b h e₁ e₂ = never e₂

module _ (P : Plan) (x : ℕ) (n : Numbers) (E : Elements) (N : Queue) (out : List ℕ) (room : Roomy E N) (fits : OpenFits n)
    (before : n.handed ≤ node_limit) (place : over_in P x n.depth n.held E N ≡ false) where
  abbrev s : State
  s = state_in n E N

  abbrev o : Opening
  o = opening P x s

  used : length (take n.depth E.list) ≡ n.depth
  used = length-take-le n.depth E.list (omega arith)

  waiting : length (take n.held N.list) ≡ n.held
  waiting = length-take-le n.held N.list (omega arith)

  frames_length : length o.frames ≡ n.depth + 1
  unfolding opening opening_from judged state_in
  frames_length = frames_after_length P x _ (take n.depth E.list) ∙ ap (λ m. m + 1) used

  went_few : o.went ≤ n.held
  unfolding opening opening_from judged state_in
  went_few = subst (λ m. o.went ≤ m) waiting (went_le _ P _ (take n.held N.list))

  all_whole : o.all ≡ true → o.went ≡ n.held
  unfolding opening opening_from judged state_in
  all_whole h = eqb-true _ _ (and_left _ _ h) ∙ waiting

  has_room : o.all ≡ false → o.joins ≡ true → n.held - o.went < held_limit
  unfolding over state_in
  has_room e₁ e₂ =
      subst (λ m. m - o.went < held_limit) waiting
      (leb-false held_limit _ (not_over o.all o.joins _ (sym (over_used P x n E N) ∙ place) e₁ e₂))

  -- the new node
  abbrev new : Waiting
  new = record { node = n.opened + 1; level = n.depth + 1; need = 0 }

  new_is : new ≡ newcomer s
  unfolding newcomer state_in
  new_is = ap₂ (λ (a b : ℕ). record { node = a; level = b; need = 0 }) (add-one n.opened) (add-one n.depth ∙ ap suc (sym used))

  abbrev j : Joined
  j = joined (record { went = o.went; all = o.all; joins = o.joins }) n.held (n.opened + 1) (n.depth + 1) N out

  ends : Ends (take n.held N.list) (newcomer s) out o.all o.joins o.went j
  ends =
      subst (λ v. Ends (take n.held N.list) v out o.all o.joins o.went j) new_is
      (join_ends N n.held room.nodes fits.held (n.opened + 1) (n.depth + 1) out o.all o.joins o.went went_few all_whole has_room)

  listed_is : o.went + bool_byte o.all ≡ length (out_after o.all (take n.held N.list) (newcomer s) o.went)
  listed_is =
      subst (λ v. o.went + bool_byte o.all ≡ length (out_after o.all (take n.held N.list) v o.went)) new_is
      (gone N n.held room.nodes fits.held (n.opened + 1) (n.depth + 1) out o.all o.went went_few all_whole)

  -- the counter of the nodes handed out does not wrap
  handed_is :
      (n.handed + (o.went + bool_byte o.all)) % 2 ^ 32 ≡ n.handed + length (out_after o.all (take n.held N.list) (newcomer s) o.went)
  handed_is = mod-eq_of_lt (omega (arith, held_is, node_limit_is, went_few, bool_byte_le o.all, fits.held)) ∙ ap (λ k. n.handed + k) listed_is

  taken_is : open_taken P x n E N out ≡ open_with n (opened_by n.depth E o) j
  unfolding open_taken opening_in going_of
  taken_is = ap (λ y. open_by n N out (opened_by n.depth E y)) (opening_used P x n E N)

  with_takes : Takes (quick_open P x s) (open_with n (opened_by n.depth E o) j) out
  unfolding quick_open opens state_in going_of open_numbers
  with_takes =
      record {
        refusal = refl;
        state =
            same_state (take_at o.frames (drop (n.depth + 1) E.list) (n.depth + 1) frames_length) ends.waits (add-one n.opened) handed_is refl;
        listed = listed_is ∙ sym (length-map (out_after o.all (take n.held N.list) (newcomer s) o.went) (λ v. v.node));
        written = ends.written;
        roomy =
            record {
              elements =
                  length-append o.frames (drop (n.depth + 1) E.list)
                  ∙ omega (arith, frames_length, length-drop (n.depth + 1) E.list, room.elements, fits.deep);
              nodes = ends.many;
            };
        deep = omega (arith, fits.deep);
        few = ends.few;
      }

  -- THE OPEN
  pub open_takes : Takes (quick_open P x (state_in n E N)) (open_taken P x n E N out) out
  open_takes = subst (λ a. Takes (quick_open P x s) a out) (sym taken_is) with_takes
