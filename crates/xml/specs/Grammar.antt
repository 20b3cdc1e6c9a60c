-- The part of W3C XML 1.0 that is read, production by production. Numbers in brackets are W3C's; docs/XML.md has them in words.
--
--   Limits                       which lengths of names, numbers of attributes and depths are taken
--   Ev                           an event, its name still spelled out
--   S, Eq, Name, Reference, Comment, Run, AttValue, STag, Element, Content, ..       the productions
--   Document L t es              t is a document within the limits L, and es are its events
--
-- A production  a ::= b c  is a constructor  B t → C u → A (t ++ u).  Bytes are numbers: 60 is '<', 62 '>', 38 '&', 47 '/', 61 '=', 45 '-', 93 ']'.
-- Assumes nothing. NOT here: the characters (Chars), how a text is read (Machine), that CharData is W3C's (crate reading, Wording).
use Rattle.std.specs.Prelude.{ℕ, suc, ◌-◌, Bool, true, false, not, ◌&&◌, ◌||◌, List, [], ◌∷◌, ◌++◌, T, eqb, length}
use Rattle.std.proofs.Math.Option.{Option}
use Rattle.xml.specs.Class.{Class, Rows, only, In, OneOf, words}
use Rattle.xml.specs.Chars.{blank, name_start, name_char, utf8, no_dash, plain, quote, unquoted}

pub record Limits : Type 0 where
  pub name : ℕ → Bool
  pub atts : ℕ → Bool
  pub nest : ℕ → Bool
  pub name_down : (n : ℕ) → T (name (suc n)) → T (name n)
  pub atts_down : (n : ℕ) → T (atts (suc n)) → T (atts n)

pub data Ev : Type 0 where
  opens : List ℕ → Ev
  closes : List ℕ → Ev
  remark : Ev

-- c*
pub data Each (c : Class) : List ℕ → Type 0 where
  none : Each c []
  more : {t : List ℕ} {b : ℕ} → Each c t → In c b → Each c (t ++ (b ∷ []))

-- [2] Char, its part below #x80 being the class c
pub data Char (c : Class) : List ℕ → Type 0 where
  narrow : {b : ℕ} → In c b → Char c (b ∷ [])
  wide : {w : List ℕ} → OneOf utf8 w → Char c w

-- [3] S ::= (#x20 | #x9 | #xD | #xA)+
pub data S : List ℕ → Type 0 where
  s : {t : List ℕ} {b : ℕ} → Each blank t → In blank b → S (t ++ (b ∷ []))

-- [25] Eq ::= S? '=' S?
pub data Eq : List ℕ → Type 0 where
  eq : {t u : List ℕ} → Each blank t → Each blank u → Eq (t ++ (61 ∷ u))

-- "the five predefined entities lt, gt, amp, apos, quot", each with its semicolon
abbrev pub entities : Rows
entities =
    words
    ((108 ∷ 116 ∷ 59 ∷ [])
    ∷ (103 ∷ 116 ∷ 59 ∷ [])
    ∷ (97 ∷ 109 ∷ 112 ∷ 59 ∷ [])
    ∷ (97 ∷ 112 ∷ 111 ∷ 115 ∷ 59 ∷ [])
    ∷ (113 ∷ 117 ∷ 111 ∷ 116 ∷ 59 ∷ [])
    ∷ [])

-- [68] EntityRef ::= '&' Name ';'
pub data Reference : List ℕ → Type 0 where
  reference : {w : List ℕ} → OneOf entities w → Reference (38 ∷ w)

-- ((Char - '-') | ('-' (Char - '-')))*
pub data Remarked : List ℕ → Type 0 where
  none : Remarked []
  char : {t c : List ℕ} → Remarked t → Char no_dash c → Remarked (t ++ c)
  dashed : {t c : List ℕ} → Remarked t → Char no_dash c → Remarked (t ++ (45 ∷ c))

-- [15] Comment ::= '<!--' ((Char - '-') | ('-' (Char - '-')))* '-->'
pub data Comment : List ℕ → Type 0 where
  comment : {t : List ℕ} → Remarked t → Comment (60 ∷ 33 ∷ 45 ∷ 45 ∷ (t ++ (45 ∷ 45 ∷ 62 ∷ [])))

-- how many ']' stand at the end: none, one, or more
pub data Br : Type 0 where
  b0 b1 b2 : Br

abbrev pub bracket : Br → Br
bracket b0 = b1
bracket b1 = b2
bracket b2 = b2

-- [14] CharData ::= [^<&]* - ([^<&]* ']]>' [^<&]*), of Chars
pub data Run : Br → List ℕ → Type 0 where
  none : Run b0 []
  char : {k : Br} {t c : List ℕ} → Run k t → Char plain c → Run b0 (t ++ c)
  close : {k : Br} {t : List ℕ} → Run k t → Run (bracket k) (t ++ (93 ∷ []))
  gt0 : {t : List ℕ} → Run b0 t → Run b0 (t ++ (62 ∷ []))
  gt1 : {t : List ℕ} → Run b1 t → Run b0 (t ++ (62 ∷ []))

-- ([^<&q] | Reference)*
pub data Value (q : Bool) : List ℕ → Type 0 where
  none : Value q []
  char : {t c : List ℕ} → Value q t → Char (unquoted q) c → Value q (t ++ c)
  ref : {t c : List ℕ} → Value q t → Reference c → Value q (t ++ c)

-- [10] AttValue ::= '"' ([^<&"] | Reference)* '"' | "'" ([^<&'] | Reference)* "'"
pub data AttValue : List ℕ → Type 0 where
  quoted : (q : Bool) {t : List ℕ} → Value q t → AttValue (quote q ∷ (t ++ (quote q ∷ [])))

unfoldable pub same_name : List ℕ → List ℕ → Bool
same_name [] [] = true
same_name [] (b ∷ u) = false
same_name (a ∷ t) [] = false
same_name (a ∷ t) (b ∷ u) = eqb a b && same_name t u

unfoldable pub among : List ℕ → List (List ℕ) → Bool
among n [] = false
among n (m ∷ ms) = same_name n m || among n ms

-- the three parts of an XML declaration
pub data Part : Type 0 where
  version encoding standalone : Part

unfoldable pub part_name : Part → List ℕ
part_name version = 118 ∷ 101 ∷ 114 ∷ 115 ∷ 105 ∷ 111 ∷ 110 ∷ []
part_name encoding = 101 ∷ 110 ∷ 99 ∷ 111 ∷ 100 ∷ 105 ∷ 110 ∷ 103 ∷ []
part_name standalone = 115 ∷ 116 ∷ 97 ∷ 110 ∷ 100 ∷ 97 ∷ 108 ∷ 111 ∷ 110 ∷ 101 ∷ []

abbrev pub exactly : ℕ → Class
exactly b = only b ∷ []

-- a small letter or its capital
abbrev pub letter : ℕ → Class
letter b = only b ∷ only (b - 32) ∷ []

-- after the opening quote q, with the closing one: '1.0'; UTF-8 in any letter case; 'yes' or 'no'
unfoldable pub part_values : Part → ℕ → Rows
part_values version q = words ((49 ∷ 46 ∷ 48 ∷ q ∷ []) ∷ [])
part_values encoding q = (letter 117 ∷ letter 116 ∷ letter 102 ∷ exactly 45 ∷ exactly 56 ∷ exactly q ∷ []) ∷ []
part_values standalone q = words ((121 ∷ 101 ∷ 115 ∷ q ∷ []) ∷ (110 ∷ 111 ∷ q ∷ []) ∷ [])

unfoldable pub may_follow : Option Part → Part → Bool
may_follow Option.none version = true
may_follow Option.none encoding = false
may_follow Option.none standalone = false
may_follow (Option.some version) version = false
may_follow (Option.some version) encoding = true
may_follow (Option.some version) standalone = true
may_follow (Option.some encoding) version = false
may_follow (Option.some encoding) encoding = false
may_follow (Option.some encoding) standalone = true
may_follow (Option.some standalone) version = false
may_follow (Option.some standalone) encoding = false
may_follow (Option.some standalone) standalone = false

-- '<?xml' VersionInfo EncodingDecl? SDDecl?, as far as the part o; [24] VersionInfo ::= S 'version' Eq (..), [80], [32] likewise
pub data Told : Option Part → List ℕ → Type 0 where
  begun : Told Option.none (60 ∷ 63 ∷ 120 ∷ 109 ∷ 108 ∷ [])
  part :
      {o : Option Part} {t u v w : List ℕ} (k : Part) (q : Bool)
      → Told o t
      → T (may_follow o k)
      → S u
      → Eq v
      → OneOf (part_values k (quote q)) w
      → Told (Option.some k) (t ++ (u ++ (part_name k ++ (v ++ (quote q ∷ w)))))

-- [23] XMLDecl ::= '<?xml' VersionInfo EncodingDecl? SDDecl? S? '?>', or nothing
pub data Decl : List ℕ → Type 0 where
  none : Decl []
  decl : {k : Part} {t u : List ℕ} → Told (Option.some k) t → Each blank u → Decl (t ++ (u ++ (63 ∷ 62 ∷ [])))

-- [27] Misc ::= Comment | S, any number of them
pub data Misc : List ℕ → Type 0 where
  none : Misc []
  space : {t : List ℕ} {b : ℕ} → Misc t → In blank b → Misc (t ++ (b ∷ []))
  remarked : {t u : List ℕ} → Misc t → Comment u → Misc (t ++ u)

-- the byte order mark
pub data Mark : List ℕ → Type 0 where
  none : Mark []
  mark : Mark (239 ∷ 187 ∷ 191 ∷ [])

-- [22] prolog ::= XMLDecl? Misc*
pub data Prolog : List ℕ → Type 0 where
  prolog : {t u v : List ℕ} → Mark t → Decl u → Misc v → Prolog (t ++ (u ++ v))

-- what the two productions below derive: one data type, since antt does not match on two that need each other and have texts put together as indices
pub data Symbol : Type 0 where
  element' : ℕ → Symbol
  content' : ℕ → Br → Symbol

module _ (L : Limits) where
  -- [5] Name ::= NameStartChar (NameChar)*
  pub data Name : List ℕ → Type 0 where
    name : {b : ℕ} {t : List ℕ} → In name_start b → Each name_char t → T (L.name (length (b ∷ t))) → Name (b ∷ t)

  -- (S Attribute)*, [41] Attribute ::= Name Eq AttValue; "a tag has at most 16 attributes, none named twice". The names, last first
  pub data Attributes : List (List ℕ) → List ℕ → Type 0 where
    none : Attributes [] []
    more :
        {ms : List (List ℕ)} {t u m v w : List ℕ}
        → Attributes ms t
        → S u
        → T (L.atts (suc (length ms)))
        → Name m
        → T (not (among m ms))
        → Eq v
        → AttValue w
        → Attributes (m ∷ ms) (t ++ (u ++ (m ++ (v ++ w))))

  -- [40] STag ::= '<' Name (S Attribute)* S? '>'
  pub data STag : List ℕ → List ℕ → Type 0 where
    stag : {ms : List (List ℕ)} {n t u : List ℕ} → Name n → Attributes ms t → Each blank u → STag n (60 ∷ (n ++ (t ++ (u ++ (62 ∷ [])))))

  -- [44] EmptyElemTag ::= '<' Name (S Attribute)* S? '/>'
  pub data EmptyElemTag : List ℕ → List ℕ → Type 0 where
    etag : {ms : List (List ℕ)} {n t u : List ℕ} → Name n → Attributes ms t → Each blank u → EmptyElemTag n (60 ∷ (n ++ (t ++ (u ++ (47 ∷ 62 ∷ [])))))

  -- [42] ETag ::= '</' Name S? '>'
  pub data ETag (n : List ℕ) : List ℕ → Type 0 where
    ctag : {u : List ℕ} → Each blank u → ETag n (60 ∷ 47 ∷ (n ++ (u ++ (62 ∷ []))))

  -- [39] element ::= EmptyElemTag | STag content ETag, inside d open elements; WFC: Element Type Match
  -- [43] content ::= CharData? ((element | Reference | Comment) CharData?)*, inside d open elements, after k brackets
  pub data Derives : Symbol → List ℕ → List Ev → Type 0 where
    empty : {d : ℕ} {n t : List ℕ} → T (L.nest (suc d)) → EmptyElemTag n t → Derives (element' d) t (opens n ∷ closes n ∷ [])
    element :
        {d : ℕ} {n t u v : List ℕ} {k : Br} {es : List Ev}
        → T (L.nest (suc d))
        → STag n t
        → Derives (content' (suc d) k) u es
        → ETag n v
        → Derives (element' d) (t ++ (u ++ v)) (opens n ∷ (es ++ (closes n ∷ [])))
    data' : {d : ℕ} {k : Br} {t : List ℕ} → Run k t → Derives (content' d k) t []
    child :
        {d : ℕ} {j k : Br} {t u v : List ℕ} {es fs : List Ev}
        → Derives (content' d j) t es
        → Derives (element' d) u fs
        → Run k v
        → Derives (content' d k) (t ++ (u ++ v)) (es ++ fs)
    refer :
        {d : ℕ} {j k : Br} {t u v : List ℕ} {es : List Ev}
        → Derives (content' d j) t es
        → Reference u
        → Run k v
        → Derives (content' d k) (t ++ (u ++ v)) es
    remarked :
        {d : ℕ} {j k : Br} {t u v : List ℕ} {es : List Ev}
        → Derives (content' d j) t es
        → Comment u
        → Run k v
        → Derives (content' d k) (t ++ (u ++ v)) (es ++ (remark ∷ []))

  abbrev pub Element : ℕ → List ℕ → List Ev → Type 0
  Element d t es = Derives (element' d) t es

  abbrev pub Content : ℕ → Br → List ℕ → List Ev → Type 0
  Content d k t es = Derives (content' d k) t es

  -- [1] document ::= prolog element Misc*
  pub data Document : List ℕ → List Ev → Type 0 where
    document : {t u v : List ℕ} {es : List Ev} → Prolog t → Element 0 u es → Misc v → Document (t ++ (u ++ v)) es
