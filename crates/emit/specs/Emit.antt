-- The events that a byte gave, as records in the output.
--
--   Emitted                    the room, the output, and how many of its bytes are written
--   both_in out w x             the records of an open and a close of the name x, from w on
--   opened, closed             after an open, whose number is kept in its slot, and after a close
--   emitted names x r R out w        after what the reader r gives, in the list `names` with its index x
--   in_gives, both_as          by what was found that it gives; by the name that was found
--   numbers                     how great the number of a name is, for a proof that goes by it
--   emitted_within, written_within      two records at most are written
--
-- R is the room. Assumes nothing.
use Rattle.std.specs.Prelude.{ℕ, ◌+◌, ◌≤◌, ◌≡◌, List}
use Rattle.std.proofs.Common.{arith, sym, ap, ap₂, ◌∙◌, subst}
use Rattle.std.proofs.lemmas.List.Edits.{sets}
use Rattle.records.specs.Event.{event_bytes}
use Rattle.slots.specs.Slots.{name_in, number_in, numbered}
use Rattle.modes.specs.declared.Gives.{Gives}
use Rattle.modes.specs.declared.Gives.TheVariants as gives
use Rattle.modes.specs.declared.Reader.{Reader}
use Rattle.modes.specs.Moves.{open_at}
use Rattle.walk.specs.Walk.{innermost_of}
use Rattle.names.specs.Number.{number_of}
use Rattle.names.specs.Number.Laws.{number_within}
use Rattle.xml.proofs.Bounds.Laws.{unknown_is}

pub record Emitted : Type 0 where
  pub room : List ℕ
  pub out : List ℕ
  pub written : ℕ

unfoldable pub both_in : List ℕ → ℕ → ℕ → List ℕ
both_in out w x = sets (sets out w (event_bytes 1 x)) (w + 8) (event_bytes 2 x)

abbrev pub both : List ℕ → List ℕ → ℕ → ℕ → Emitted
both R out w x = record { room = R; out = both_in out w x; written = w + 16 }

-- an open of the name x in the slot s
abbrev pub opened_as : ℕ → ℕ → List ℕ → List ℕ → ℕ → Emitted
opened_as x s R out w = record { room = numbered R s x; out = sets out w (event_bytes 1 x); written = w + 8 }

unfoldable pub opened : List ℕ → List ℕ → ℕ → List ℕ → List ℕ → ℕ → Emitted
opened names x s R out w = opened_as (number_of names x (name_in R s)) s R out w

unfoldable pub closed : ℕ → List ℕ → List ℕ → ℕ → Emitted
closed s R out w = record { room = R; out = sets out w (event_bytes 2 (number_in R s)); written = w + 8 }

unfoldable pub emitted_by : Gives → List ℕ → List ℕ → ℕ → List ℕ → List ℕ → ℕ → Emitted
emitted_by gives.Nothing names x p R out w = record { room = R; out = out; written = w }
emitted_by gives.Open names x p R out w = opened names x (innermost_of p) R out w
emitted_by gives.Close names x p R out w = closed (open_at p) R out w
emitted_by gives.Both names x p R out w = both R out w (number_of names x (name_in R (open_at p)))
emitted_by gives.Remark names x p R out w = both R out w 65_535

unfoldable pub emitted : List ℕ → List ℕ → Reader → List ℕ → List ℕ → ℕ → Emitted
emitted names x r R out w = emitted_by r.gives names x r.place R out w

pub in_gives :
    (names x : List ℕ) (r : Reader) (R out : List ℕ) (w : ℕ) {k : Gives} {z : Emitted}
    → r.gives ≡ k
    → z ≡ emitted_by k names x r.place R out w
    → z ≡ emitted names x r R out w
unfolding emitted
in_gives names x r R out w e h = h ∙ ap (λ g. emitted_by g names x r.place R out w) (sym e)

-- two records with the name x, which is the one that is meant
pub both_as :
    (R out : List ℕ) (w : ℕ) {x y v : ℕ} {l : List ℕ}
    → l ≡ both_in out w x
    → v ≡ w + 16
    → x ≡ y
    → ◌≡◌ {A = Emitted} (record { room = R; out = l; written = v }) (both R out w y)
both_as R out w e f g = ap₂ (λ l v. record { room = R; out = l; written = v }) (e ∙ ap (both_in out w) g) f

-- what a number that was looked up is
pub ruleset numbers = (number_within, unknown_is)

-- two records at most are written
pub emitted_within : (names x : List ℕ) (r : Reader) (R out : List ℕ) (w : ℕ) → (emitted names x r R out w).written ≤ w + 16
unfolding emitted emitted_by opened closed
emitted_within names x r R out w = go r.gives
  where
    go : (g : Gives) → (emitted_by g names x r.place R out w).written ≤ w + 16
    go gives.Nothing = omega arith
    go gives.Open = omega arith
    go gives.Close = omega arith
    go gives.Both = omega arith
    go gives.Remark = omega arith

pub written_within :
    (names x : List ℕ) (r : Reader) (R out : List ℕ) (w : ℕ) (E : Emitted) → E ≡ emitted names x r R out w → E.written ≤ w + 16
written_within names x r R out w E e = subst (λ z. z.written ≤ w + 16) (sym e) (emitted_within names x r R out w)
