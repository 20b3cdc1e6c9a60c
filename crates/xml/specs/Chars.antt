-- The bytes of XML text, by what they may be: W3C's characters, ASCII as classes of bytes and the others as rows of UTF-8.
--
--   blank, name_start, name_char     [3], [4] and [4a], the ASCII parts;  beyond: the bytes of characters that are not ASCII
--   utf8                           [2] Char above #x7F: the rows of Unicode's table 3-7 over one byte, less U+FFFE and U+FFFF
--   no_dash, plain, unquoted q      [2] Char below #x80 without what ends a run of comment, of character data, of a value in the quotes q
--   quote q                        double quotes, or single
--
-- Assumes nothing. NOT here: what a class and a row are (Class).
use Rattle.std.specs.Prelude.{ℕ, Bool, true, false, [], ◌∷◌}
use Rattle.xml.specs.Class.{Class, Rows, to, only}

-- [3] S ::= (#x20 | #x9 | #xD | #xA)+
abbrev pub blank : Class
blank = to 9 10 ∷ only 13 ∷ only 32 ∷ []

-- [4] NameStartChar ::= ":" | [A-Z] | "_" | [a-z] | ..
abbrev pub name_start : Class
name_start = only 58 ∷ to 65 90 ∷ only 95 ∷ to 97 122 ∷ []

-- [4a] NameChar ::= NameStartChar | "-" | "." | [0-9] | ..
abbrev pub name_char : Class
name_char = to 45 46 ∷ to 48 58 ∷ to 65 90 ∷ only 95 ∷ to 97 122 ∷ []

abbrev pub beyond : Class
beyond = to 128 255 ∷ []

-- [2] Char above #x7F, as UTF-8
abbrev pub utf8 : Rows
utf8 =
    ((to 194 223 ∷ []) ∷ (to 128 191 ∷ []) ∷ [])
    ∷ ((only 224 ∷ []) ∷ (to 160 191 ∷ []) ∷ (to 128 191 ∷ []) ∷ [])
    ∷ ((to 225 236 ∷ only 238 ∷ []) ∷ (to 128 191 ∷ []) ∷ (to 128 191 ∷ []) ∷ [])
    ∷ ((only 237 ∷ []) ∷ (to 128 159 ∷ []) ∷ (to 128 191 ∷ []) ∷ [])
    ∷ ((only 239 ∷ []) ∷ (to 128 190 ∷ []) ∷ (to 128 191 ∷ []) ∷ [])
    ∷ ((only 239 ∷ []) ∷ (only 191 ∷ []) ∷ (to 128 189 ∷ []) ∷ [])
    ∷ ((only 240 ∷ []) ∷ (to 144 191 ∷ []) ∷ (to 128 191 ∷ []) ∷ (to 128 191 ∷ []) ∷ [])
    ∷ ((to 241 243 ∷ []) ∷ (to 128 191 ∷ []) ∷ (to 128 191 ∷ []) ∷ (to 128 191 ∷ []) ∷ [])
    ∷ ((only 244 ∷ []) ∷ (to 128 143 ∷ []) ∷ (to 128 191 ∷ []) ∷ (to 128 191 ∷ []) ∷ [])
    ∷ []

-- Char below #x80 without '-'
abbrev pub no_dash : Class
no_dash = to 9 10 ∷ only 13 ∷ to 32 44 ∷ to 46 127 ∷ []

-- Char below #x80 without '<', '&', ']' and '>'
abbrev pub plain : Class
plain = to 9 10 ∷ only 13 ∷ to 32 37 ∷ to 39 59 ∷ only 61 ∷ to 63 92 ∷ to 94 127 ∷ []

abbrev pub quote : Bool → ℕ
quote true = 34
quote false = 39

-- Char below #x80 without '<', '&' and the quotes q
abbrev pub unquoted : Bool → Class
unquoted true = to 9 10 ∷ only 13 ∷ to 32 33 ∷ to 35 37 ∷ to 39 59 ∷ to 61 127 ∷ []
unquoted false = to 9 10 ∷ only 13 ∷ to 32 37 ∷ to 40 59 ∷ to 61 127 ∷ []
