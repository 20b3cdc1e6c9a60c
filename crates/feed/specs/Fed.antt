-- Single events one after the other, over any kind of seat (what an event is taken at) and any way to take one.
--
--   Came S                   what one event comes to: its refusal or 0, how many nodes were handed out, the seat and the buffer afterwards
--   Fed S                    the seat after some events, how many were taken, how many list records stand at the start of the buffer, the refusal's number
--                            or 0, and the buffer
--   none s out               no event
--   one c                    one event, which came to c
--   and_then r f              r, and then f with the part of the buffer that r left
--   fed take-one n s es out      the first n records of es, one event after the other; a refused event is the last
--   resumed take-one n es r      r, and then what is left of the first n records of es
--   Underway .. r            r is a first part of the events of es;  UnderwayUnrefused .. r: one in which none was refused
--   goes_on left refusal room     another event is looked at; Goes: what is then known
--   record_at a es, rest_of a xs, given_back a xs ys      parts of slices as code lends them, and the slice when one is given back
--
-- Assumes nothing. NOT here: what one event does (Steps).
pub mod Laws
pub mod Across
use Rattle.std.specs.Prelude.{ℕ, zero, suc, ◌+◌, ◌-◌, ◌*◌, ◌/◌, ◌≤◌, ◌<◌, ◌≡◌, Bool, false, List, ◌++◌, eqb, leb, ltb, length, take, drop}
use mir.Val.{bool_byte}
use Rattle.choice.specs.When.{when}
use Rattle.meaning.specs.Limits.{output_needed}

pub record Came (S : Type 0) : Type 0 where
  pub refusal : ℕ
  pub listed : ℕ
  pub seat : S
  pub out : List ℕ

pub record Fed (S : Type 0) : Type 0 where
  pub seat : S
  pub taken : ℕ
  pub listed : ℕ
  pub refusal : ℕ
  pub out : List ℕ

module _ {S : Type 0} where
  abbrev pub none : S → List ℕ → Fed S
  none s out = record { seat = s; taken = 0; listed = 0; refusal = 0; out = out }

  abbrev pub one : Came S → Fed S
  one c = record { seat = c.seat; taken = bool_byte (eqb c.refusal 0); listed = c.listed; refusal = c.refusal; out = c.out }

  -- a list record is 4 bytes
  unfoldable pub and_then : Fed S → Fed S → Fed S
  and_then r f =
      record {
        seat = f.seat;
        taken = r.taken + f.taken;
        listed = r.listed + f.listed;
        refusal = f.refusal;
        out = take (4 * r.listed) r.out ++ f.out;
      }

  module _ (take-one : S → List ℕ → List ℕ → Came S) where
    -- with less than an event can need no event is looked at; a refused event is the last
    unfoldable pub fed : ℕ → S → List ℕ → List ℕ → Fed S
    fed zero s es out = none s out
    fed (suc n) s es out =
        let c : Came S = take-one s (take 8 es) out in
        when (ltb (length out) output_needed) (none s out)
        (when (eqb c.refusal 0) (and_then (one c) (fed n c.seat (drop 8 es) (drop (4 * c.listed) c.out))) (one c))

    unfoldable pub resumed : ℕ → List ℕ → Fed S → Fed S
    resumed n es r =
        when (eqb r.refusal 0)
        (and_then r (fed (n - r.taken) r.seat (drop (8 * r.taken) es) (drop (4 * r.listed) r.out)))
        r

    pub record Underway (s : S) (es out : List ℕ) (r : Fed S) : Type 0 where
      pub told : resumed (length es / 8) es r ≡ fed (length es / 8) s es out
      pub within : r.taken ≤ length es / 8
      pub fits : 4 * r.listed ≤ length r.out
      pub long : length r.out ≡ length out

    pub record UnderwayUnrefused (s : S) (es out : List ℕ) (r : Fed S) : Type 0 where
      pub told :
          and_then r (fed (length es / 8 - r.taken) r.seat (drop (8 * r.taken) es) (drop (4 * r.listed) r.out)) ≡ fed (length es / 8) s es out
      pub within : r.taken ≤ length es / 8
      pub fits : 4 * r.listed ≤ length r.out
      pub long : length r.out ≡ length out
      pub unrefused : r.refusal ≡ 0

-- what the loop tests

unfoldable pub goes_on : ℕ → ℕ → ℕ → Bool
goes_on left refusal room = when (eqb left 0) false (when (eqb refusal 0) (leb output_needed room) false)

pub record Goes (left refusal room : ℕ) : Type 0 where
  pub more : 0 < left
  pub unrefused : refusal ≡ 0
  pub wide : output_needed ≤ room

-- parts of slices

abbrev pub rest_of : ℕ → List ℕ → List ℕ
rest_of a xs = take (length xs - a) (drop a xs)

abbrev pub record_at : ℕ → List ℕ → List ℕ
record_at a es = take (a + 8 - a) (drop a es)

abbrev pub given_back : ℕ → List ℕ → List ℕ → List ℕ
given_back a xs ys = take a xs ++ (ys ++ drop (length xs - a) (drop a xs))
