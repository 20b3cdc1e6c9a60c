-- What the program writes.
--
--   line n              the decimal numeral of n on a line of its own
--   lines_of ns          such a line for each of ns
--   end_word, refused_word, at_word, reason_word      the texts "end ", "refused ", " at ", " reason "
--   end_line n           the line "end N"
--   refusal_text r e     the text "refused R at E"
--   refused_at_line r e   the line "refused R at E"
--   refused_for_line r e n      the line `refused R at E reason N`
--   refused_line r       the line "refused R"
--
-- Assumes nothing. NOT here: which lines the program writes when (crate pick), the nodes in list records (crate records, Write), passed on.
use Rattle.std.specs.Prelude.{ℕ, List, [], ◌∷◌, ◌++◌}
use Rattle.lines.specs.Decimal.{decimal}
pub use Rattle.records.specs.Write.{node_at}
unfoldable pub use Rattle.records.specs.Write.{nodes_in}

-- "each node number in decimal on a line of its own": 10 is the line feed
abbrev pub line : ℕ → List ℕ
line n = decimal n ++ (10 ∷ [])

unfoldable pub lines_of : List ℕ → List ℕ
lines_of [] = []
lines_of (n ∷ ns) = line n ++ lines_of ns

abbrev pub end_word : List ℕ
end_word = 101 ∷ 110 ∷ 100 ∷ 32 ∷ []

abbrev pub refused_word : List ℕ
refused_word = 114 ∷ 101 ∷ 102 ∷ 117 ∷ 115 ∷ 101 ∷ 100 ∷ 32 ∷ []

abbrev pub at_word : List ℕ
at_word = 32 ∷ 97 ∷ 116 ∷ 32 ∷ []

abbrev pub reason_word : List ℕ
reason_word = 32 ∷ 114 ∷ 101 ∷ 97 ∷ 115 ∷ 111 ∷ 110 ∷ 32 ∷ []

-- "`end N` with the number handed out"
unfoldable pub end_line : ℕ → List ℕ
end_line n = end_word ++ line n

unfoldable pub refusal_text : ℕ → ℕ → List ℕ
refusal_text r e = refused_word ++ (decimal r ++ (at_word ++ decimal e))

-- "or `refused R at E`"
unfoldable pub refused_at_line : ℕ → ℕ → List ℕ
refused_at_line r e = refusal_text r e ++ (10 ∷ [])

-- "and refusal 10 `refused 10 at K reason N`"
unfoldable pub refused_for_line : ℕ → ℕ → ℕ → List ℕ
refused_for_line r e n = refusal_text r e ++ (reason_word ++ line n)

-- "Refusal 9 is written `refused 9`."
unfoldable pub refused_line : ℕ → List ℕ
refused_line r = refused_word ++ line r
