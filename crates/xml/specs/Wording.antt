-- W3C's own words for what the grammar builds up piece by piece.
--
--   Several P t        t is a sequence of Chars, each of which passes P
--   Nowhere x t        x is nowhere inside t
--   code_points         [2] Char, as numbers
--   encode n           the UTF-8 form of the code point n
--
-- Assumes nothing. NOT here: that the grammar means the same (crate reading, Wording and Forms).
use Rattle.std.specs.Prelude.{ℕ, ◌+◌, ◌/◌, ◌%◌, ◌≡◌, List, [], ◌∷◌, ◌++◌, ltb}
use Rattle.choice.specs.When.{when}
use Rattle.xml.specs.Class.{Class, to, only}
use Rattle.xml.specs.Grammar.{Char}
use Rattle.xml.specs.Table.{ascii}

-- Char*
pub data Several (P : List ℕ → Type 0) : List ℕ → Type 0 where
  none : Several P []
  more : {t c : List ℕ} → Several P t → Char ascii c → P c → Several P (t ++ c)

abbrev pub Nowhere : List ℕ → List ℕ → Type 0
Nowhere x t = (u v : List ℕ) → t ≡ u ++ (x ++ v) → ⊥

-- [2] Char ::= #x9 | #xA | #xD | [#x20-#xD7FF] | [#xE000-#xFFFD] | [#x10000-#x10FFFF]
abbrev pub code_points : Class
code_points = to 0x9 0xa ∷ only 0xd ∷ to 0x20 0xd7ff ∷ to 0xe000 0xfffd ∷ to 0x10000 0x10ffff ∷ []

-- six bits behind the others
abbrev pub tail : ℕ → ℕ
tail n = 128 + n % 64

unfoldable pub encode : ℕ → List ℕ
encode n =
    when (ltb n 0x80) (n ∷ [])
    (when (ltb n 0x800) ((192 + n / 64) ∷ tail n ∷ [])
    (when (ltb n 0x10000)
    ((224 + n / 64 / 64) ∷ tail (n / 64) ∷ tail n ∷ [])
    ((240 + n / 64 / 64 / 64) ∷ tail (n / 64 / 64) ∷ tail (n / 64) ∷ tail n ∷ [])))
