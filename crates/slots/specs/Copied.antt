-- Names read from a text, into a slot or beside one.
--
--   Copied, copied M R s n at t       more of a name, of which n bytes stand in slot s, from the text t that begins at `at`: how far, and the room then
--   Agreed, agreed R s n at t         how far t goes on as the name in slot s does, of which n bytes were read
--   is_name R s at n                   the name in slot s has n bytes, those from `at` on
--   doubled_in R count n               one of the first `count` attributes has the name of n bytes that stands in the slot after them
--
-- Assumes nothing.
use Rattle.std.specs.Prelude.{ℕ, zero, suc, ◌+◌, Bool, true, false, List, [], ◌∷◌, eqb, leb, get_or, set}
use Rattle.choice.specs.When.{when}
use Rattle.chars.specs.Marks.{marked}
use Rattle.chars.specs.Same.{same_bytes}
use Rattle.slots.specs.Slots.{attribute_slot, name_bytes, base_of, length_in}

pub record Copied : Type 0 where
  pub at : ℕ
  pub n : ℕ
  pub room : List ℕ

pub record Agreed : Type 0 where
  pub at : ℕ
  pub n : ℕ

abbrev pub name_mark : ℕ
name_mark = 16

unfoldable pub copied : List ℕ → List ℕ → ℕ → ℕ → ℕ → List ℕ → Copied
copied M R s n at [] = record { at = at; n = n; room = R }
copied M R s n at (b ∷ t) =
    when (marked M b name_mark)
    (when (leb name_bytes n) (record { at = at; n = n; room = R }) (copied M (set R (base_of s + n) b) s (n + 1) (at + 1) t))
    (record { at = at; n = n; room = R })

unfoldable pub agreed : List ℕ → ℕ → ℕ → ℕ → List ℕ → Agreed
agreed R s n at [] = record { at = at; n = n }
agreed R s n at (b ∷ t) =
    when (leb (length_in R s) n) (record { at = at; n = n })
    (when (eqb b (get_or R (base_of s + n) 0)) (agreed R s (n + 1) (at + 1) t) (record { at = at; n = n }))

unfoldable pub is_name : List ℕ → ℕ → ℕ → ℕ → Bool
is_name R s at n = when (eqb (get_or R (base_of s + name_bytes) 0) n) (same_bytes R (base_of s) R at n) false

-- from the attribute k on, of which m are left
unfoldable pub doubled_from : List ℕ → ℕ → ℕ → ℕ → ℕ → Bool
doubled_from R at n k zero = false
doubled_from R at n k (suc m) = when (is_name R (attribute_slot + k) at n) true (doubled_from R at n (k + 1) m)

unfoldable pub doubled_in : List ℕ → ℕ → ℕ → Bool
doubled_in R count n = doubled_from R (base_of (attribute_slot + count)) n 0 count
