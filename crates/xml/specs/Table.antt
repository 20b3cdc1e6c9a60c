-- The table of refusals: for each number what has been read and which byte comes, a constructor for each case of docs/XML.md.
--
--   character             [2] Char, as rows of bytes
--   NameByte b            "a byte of a name, or one of 128 or more"
--   Takes p               the document element may stand at the place p, or an element inside it, whatever the depth
--   Texted t              t ends "in character data, a comment or an attribute's value", between two Chars
--   Referring t           t ends "in character data or a value", between two Chars or references
--   Refusal L r t b       the sentence of the refusal r holds where b comes after t, for r from 31 to 43
--
-- The refusals stand here as numbers, not by their names in Refused: two exchanged there fail in crate reading.
-- Assumes nothing. NOT here: 30, which is given where none of these holds; that each is given exactly so (crate reading, Table).
use Rattle.std.specs.Prelude.{ℕ, suc, ◌≡◌, Bool, List, [], ◌∷◌, ◌++◌, T, length}
use Rattle.std.proofs.Math.Option.{Option}
use Rattle.xml.specs.Class.{Class, Rows, to, only, In, word}
use Rattle.xml.specs.Chars.{blank, name_start, name_char, beyond, utf8, quote}
use Rattle.xml.specs.Grammar.{Limits, Ev, entities, Br, among, Part, encoding, part_values, S, Eq, Remarked, Mark}
use Rattle.xml.specs.Machine.{Place}
use Rattle.xml.specs.Unfinished.{At, Late, InName, InTag, InAtt, InValue, InDecl}
use Rattle.xml.specs.Sentences.{Fails}

-- [2] Char below #x80
abbrev pub ascii : Class
ascii = to 9 10 ∷ only 13 ∷ to 32 127 ∷ []

abbrev pub character : Rows
character = (ascii ∷ []) ∷ utf8

pub data NameByte : ℕ → Type 0 where
  plain : {b : ℕ} → In name_char b → NameByte b
  foreign : {b : ℕ} → In beyond b → NameByte b

pub data Takes : Place → Type 0 where
  before : Takes Place.before
  inside : {n : List ℕ} {ns : List (List ℕ)} → Takes (Place.inside n ns)

module _ (L : Limits) where
  pub data Texted : List ℕ → Type 0 where
    data' : {n t : List ℕ} {ns : List (List ℕ)} {k : Br} {es : List Ev} → At L (Place.inside n ns) k t es → Texted t
    value : {p : Place} {n m t : List ℕ} {ms : List (List ℕ)} {q : Bool} {es : List Ev} → InValue L p n ms m q t es → Texted t
    note : {p : Place} {k : Br} {t u : List ℕ} {es : List Ev} → At L p k t es → Remarked u → Texted (t ++ (60 ∷ 33 ∷ 45 ∷ 45 ∷ u))
    dash : {p : Place} {k : Br} {t u : List ℕ} {es : List Ev} → At L p k t es → Remarked u → Texted (t ++ (60 ∷ 33 ∷ 45 ∷ 45 ∷ (u ++ (45 ∷ []))))

  pub data Referring : List ℕ → Type 0 where
    data' : {n t : List ℕ} {ns : List (List ℕ)} {k : Br} {es : List Ev} → At L (Place.inside n ns) k t es → Referring t
    value : {p : Place} {n m t : List ℕ} {ms : List (List ℕ)} {q : Bool} {es : List Ev} → InValue L p n ms m q t es → Referring t

  pub data Refusal : ℕ → List ℕ → ℕ → Type 0 where
    -- "in character data, a comment or an attribute's value a byte does not go on as the UTF-8 form of a Char"
    not_char : {t w : List ℕ} {b : ℕ} → Texted t → Fails character w b → Refusal 31 (t ++ w) b
    -- "D comes after <! where markup begins: a document type"
    doctype : {p : Place} {k : Br} {t : List ℕ} {es : List Ev} → At L p k t es → Refusal 32 (t ++ (60 ∷ 33 ∷ [])) 68
    -- "a processing instruction: `?` after `<`, but at the very start"
    instruction :
        {p : Place} {k : Br} {t : List ℕ} {es : List Ev} → At L p k t es → Late p t → Refusal 33 (t ++ (60 ∷ [])) 63
    -- "there a byte with which `<?xml` does not go on"
    target :
        {t w : List ℕ} {b : ℕ} → Mark t → Fails (word (120 ∷ 109 ∷ 108 ∷ []) ∷ []) w b → Refusal 33 (t ++ (60 ∷ 63 ∷ w)) b
    -- "or one of a name after it"
    longer_target : {t : List ℕ} {b : ℕ} → Mark t → NameByte b → Refusal 33 (t ++ (60 ∷ 63 ∷ 120 ∷ 109 ∷ 108 ∷ [])) b
    -- "[ comes after <! where markup begins: a CDATA section"
    cdata : {p : Place} {k : Br} {t : List ℕ} {es : List Ev} → At L p k t es → Refusal 34 (t ++ (60 ∷ 33 ∷ [])) 91
    -- "# comes after & in character data or a value: a character reference"
    char_reference : {t : List ℕ} → Referring t → Refusal 35 (t ++ (38 ∷ [])) 35
    -- "after & comes a byte with which none of the five entities goes on, other than a # right after the &"
    other_entity :
        {t w : List ℕ} {b : ℕ} → Referring t → Fails entities w b → (w ≡ [] → b ≡ 35 → ⊥) → Refusal 36 (t ++ (38 ∷ w)) b
    -- "a tag's or an attribute's name goes on after 64 bytes"
    long_tag :
        {p : Place} {n t : List ℕ} {b : ℕ} {es : List Ev}
        → InName L p n t es
        → (T (L.name (suc (length n))) → ⊥)
        → In name_char b
        → Refusal 37 t b
    long_attribute :
        {p : Place} {n m t : List ℕ} {ms : List (List ℕ)} {b : ℕ} {es : List Ev}
        → InAtt L p n ms m t es
        → (T (L.name (suc (length m))) → ⊥)
        → In name_char b
        → Refusal 37 t b
    -- "a 17th attribute begins on a tag"
    many_attributes :
        {p : Place} {n t u : List ℕ} {ms : List (List ℕ)} {b : ℕ} {es : List Ev}
        → InTag L p n ms t es
        → S u
        → (T (L.atts (suc (length ms))) → ⊥)
        → In name_start b
        → Refusal 38 (t ++ u) b
    -- "an attribute's name ends, with a blank or =, that an earlier attribute of its tag has"
    twice :
        {p : Place} {n m t : List ℕ} {ms : List (List ℕ)} {b : ℕ} {es : List Ev}
        → InAtt L p n ms m t es
        → T (among m ms)
        → In (only 61 ∷ blank) b
        → Refusal 39 t b
    -- "an end tag spells another name than its start tag: a byte differs"
    other_end :
        {n t w : List ℕ} {ns : List (List ℕ)} {k : Br} {b : ℕ} {es : List Ev}
        → At L (Place.inside n ns) k t es
        → Fails (word n ∷ []) w b
        → Refusal 40 (t ++ (60 ∷ 47 ∷ w)) b
    -- "or a byte of a name, or one of 128 or more, comes after the whole name"
    longer_end :
        {n t : List ℕ} {ns : List (List ℕ)} {k : Br} {b : ℕ} {es : List Ev}
        → At L (Place.inside n ns) k t es
        → NameByte b
        → Refusal 40 (t ++ (60 ∷ 47 ∷ n)) b
    -- "an element begins inside 256 others"
    nested :
        {n t : List ℕ} {ns : List (List ℕ)} {k : Br} {b : ℕ} {es : List Ev}
        → At L (Place.inside n ns) k t es
        → (T (L.nest (suc (length (n ∷ ns)))) → ⊥)
        → In name_start b
        → Refusal 41 (t ++ (60 ∷ [])) b
    -- "inside the quotes of the declaration's encoding a byte comes with which UTF-8, in any letter case, and the closing quote do not go on"
    other_encoding :
        {o : Option Part} {t u w : List ℕ} {b : ℕ} (q : Bool)
        → InDecl o encoding t
        → Eq u
        → Fails (part_values encoding (quote q)) w b
        → Refusal 42 (t ++ (u ++ (quote q ∷ w))) b
    -- "a byte of 128 or more where the name of an element or an attribute may begin or go on, whatever the limits: a name beyond ASCII"
    foreign_tag :
        {p : Place} {k : Br} {t : List ℕ} {b : ℕ} {es : List Ev}
        → At L p k t es
        → Takes p
        → In beyond b
        → Refusal 43 (t ++ (60 ∷ [])) b
    foreign_in_tag : {p : Place} {n t : List ℕ} {b : ℕ} {es : List Ev} → InName L p n t es → In beyond b → Refusal 43 t b
    foreign_attribute :
        {p : Place} {n t u : List ℕ} {ms : List (List ℕ)} {b : ℕ} {es : List Ev}
        → InTag L p n ms t es
        → S u
        → In beyond b
        → Refusal 43 (t ++ u) b
    foreign_in_attribute :
        {p : Place} {n m t : List ℕ} {ms : List (List ℕ)} {b : ℕ} {es : List Ev}
        → InAtt L p n ms m t es
        → In beyond b
        → Refusal 43 t b
