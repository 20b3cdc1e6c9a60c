-- The reader as a machine: a state, and for each byte the next state and its events, or a refusal.
--
--   Place                  before the document element, inside open elements (the innermost first), after it
--   State                  where the reader stands; `rows rs r fs k`: the bytes to come are one of rs, then fs are given and k is next
--   Outcome                goes on with events, or refuses with a number
--   Arms                   the cases of a state, first match: a class of bytes, one byte, one of some rows, or a refusal
--   arms L s               the cases of s: the whole table of the reader
--   step L s b             the outcome of one byte;  run: of a text;  Result: what came of it
--
-- Assumes nothing. NOT here: that it accepts what the grammar derives, and nothing else (crate reading).
use Rattle.std.specs.Prelude.{ℕ, suc, Bool, true, false, not, List, [], ◌∷◌, ◌++◌, eqb, length}
use Rattle.std.proofs.Math.Option.{Option, none, some}
use Rattle.choice.specs.When.{when}
use Rattle.xml.specs.Class.{Class, Rows, in_class, derive, word}
use Rattle.xml.specs.Chars.{blank, name_start, name_char, beyond, utf8, no_dash, plain, unquoted, quote}
use Rattle.xml.specs.Refused
use Rattle.xml.specs.Refused.{misplaced, not_char, instruction, other_entity, long_name, other_end, foreign_name}
use Rattle.xml.specs.Grammar.{
  Limits,
  Ev,
  opens,
  closes,
  remark,
  entities,
  Br,
  b0,
  b1,
  b2,
  bracket,
  among,
  Part,
  version,
  encoding,
  standalone,
  part_values,
  may_follow,
}

pub data Place : Type 0 where
  before : Place
  inside : List ℕ → List (List ℕ) → Place
  after : Place

pub data State : Type 0 where
  start fresh opening declared : State
  rows : Rows → ℕ → List Ev → State → State
  at : Place → Br → State
  markup bang note dash : Place → State
  amper : State → State
  tag : Place → List ℕ → State
  tagged gap : Place → List ℕ → List (List ℕ) → State
  att eqs val : Place → List ℕ → List (List ℕ) → List ℕ → State
  value : Place → List ℕ → List (List ℕ) → List ℕ → Bool → State
  ending ended : List ℕ → List (List ℕ) → State
  told : Part → State
  apiece : Option Part → State
  part_eq part_val : Option Part → Part → State

pub data Outcome : Type 0 where
  refused : ℕ → Outcome
  goes : List Ev → State → Outcome

pub data Arms : Type 0 where
  stop : ℕ → Arms
  one_of : Rows → ℕ → List Ev → State → Arms
  lit : ℕ → Outcome → Arms → Arms
  on : Class → (ℕ → Outcome) → Arms → Arms

unfoldable pub check : Bool → ℕ → Outcome → Outcome
check true r o = o
check false r o = refused r

abbrev pub depth : Place → ℕ
depth before = 0
depth (inside n ns) = suc (length ns)
depth after = 0

abbrev pub opened : Place → List ℕ → Place
opened before n = inside n []
opened (inside m ms) n = inside n (m ∷ ms)
opened after n = after

abbrev pub up : List (List ℕ) → Place
up [] = after
up (n ∷ ns) = inside n ns

-- the place after an element that began at this one
abbrev pub emptied : Place → Place
emptied before = after
emptied (inside n ns) = inside n ns
emptied after = after

abbrev pub remarks : Place → List Ev
remarks before = []
remarks (inside n ns) = remark ∷ []
remarks after = []

abbrev pub moves : State → ℕ → Outcome
moves s b = goes [] s

-- this one byte, then the state s with the events es
abbrev pub then_byte : ℕ → List Ev → State → State
then_byte b es s = rows (word (b ∷ []) ∷ []) misplaced es s

-- ']]>' is refused
abbrev pub greater : Br → State → Outcome
greater b0 s = goes [] s
greater b1 s = goes [] s
greater b2 s = refused misplaced

-- the rest of a part's name is to come
abbrev pub part_arm : Option Part → Part → List ℕ → Outcome
part_arm o k w = check (may_follow o k) misplaced (goes [] (rows (word w ∷ []) misplaced [] (part_eq o k)))

abbrev pub told_end : Outcome
told_end = goes [] (then_byte 62 [] (at before b0))

abbrev pub apiece_end : Option Part → Outcome
apiece_end none = refused misplaced
apiece_end (some k) = told_end

-- what a value that is none of the part's is refused with, inside its quotes
abbrev pub part_refusal : Part → ℕ
part_refusal version = misplaced
part_refusal encoding = Refused.other_encoding
part_refusal standalone = misplaced

abbrev pub part_quote : Part → Bool → Outcome
part_quote k q = goes [] (rows (part_values k (quote q)) (part_refusal k) [] (told k))

-- a name beyond ASCII, where an element may begin
abbrev pub foreign : Place → Outcome
foreign before = refused foreign_name
foreign (inside n ns) = refused foreign_name
foreign after = refused misplaced

module _ (L : Limits) where
  abbrev pub begins : Place → ℕ → Outcome
  begins before b = check (L.nest 1) Refused.nested (check (L.name 1) long_name (goes [] (tag before (b ∷ []))))
  begins (inside n ns) b = check (L.nest (suc (suc (length ns)))) Refused.nested (check (L.name 1) long_name (goes [] (tag (inside n ns) (b ∷ []))))
  begins after b = refused misplaced

  abbrev pub slashed : Place → Outcome
  slashed before = refused misplaced
  slashed (inside n ns) = goes [] (rows (word n ∷ []) other_end [] (ending n ns))
  slashed after = refused misplaced

  abbrev pub longer : List ℕ → (List ℕ → State) → ℕ → Outcome
  longer n s b = check (L.name (length (n ++ (b ∷ [])))) long_name (goes [] (s (n ++ (b ∷ []))))

  abbrev pub markup_arms : Place → Arms
  markup_arms p =
      on name_start (begins p)
      (lit 33 (goes [] (bang p)) (lit 47 (slashed p) (lit 63 (refused instruction) (on beyond (λ b. foreign p) (stop misplaced)))))

  -- the end of a start tag or an empty one
  abbrev pub close_arms : Place → List ℕ → Arms
  close_arms p n =
      lit 62 (goes (opens n ∷ []) (at (opened p n) b0))
      (lit 47 (goes [] (then_byte 62 (opens n ∷ closes n ∷ []) (at (emptied p) b0))) (stop misplaced))

  -- the attribute's name m is whole
  abbrev pub named : List ℕ → List (List ℕ) → State → Outcome
  named m ms s = check (not (among m ms)) Refused.twice (goes [] s)

  abbrev pub arms : State → Arms
  arms start =
      lit 239 (goes [] (rows (word (187 ∷ 191 ∷ []) ∷ []) misplaced [] fresh))
      (on blank (moves (at before b0)) (lit 60 (goes [] opening) (stop misplaced)))
  arms fresh = on blank (moves (at before b0)) (lit 60 (goes [] opening) (stop misplaced))
  arms opening = lit 63 (goes [] (rows (word (120 ∷ 109 ∷ 108 ∷ []) ∷ []) instruction [] declared)) (markup_arms before)
  arms declared =
      on blank (moves (apiece none)) (on name_char (λ b. refused instruction) (on beyond (λ b. refused instruction) (stop misplaced)))
  arms (rows rs r es k) = one_of rs r es k
  arms (at before k) = on blank (moves (at before b0)) (lit 60 (goes [] (markup before)) (stop misplaced))
  arms (at (inside n ns) k) =
      on plain (moves (at (inside n ns) b0))
      (lit 93 (goes [] (at (inside n ns) (bracket k)))
      (lit 62 (greater k (at (inside n ns) b0))
      (lit 60 (goes [] (markup (inside n ns)))
      (lit 38 (goes [] (amper (at (inside n ns) b0)))
      (one_of utf8 not_char [] (at (inside n ns) b0))))))
  arms (at after k) = on blank (moves (at after b0)) (lit 60 (goes [] (markup after)) (stop misplaced))
  arms (markup p) = markup_arms p
  arms (bang p) = lit 91 (refused Refused.cdata) (lit 68 (refused Refused.doctype) (one_of (word (45 ∷ 45 ∷ []) ∷ []) misplaced [] (note p)))
  arms (note p) = on no_dash (moves (note p)) (lit 45 (goes [] (dash p)) (one_of utf8 not_char [] (note p)))
  arms (dash p) = on no_dash (moves (note p)) (lit 45 (goes [] (then_byte 62 (remarks p) (at p b0))) (one_of utf8 not_char [] (note p)))
  arms (amper k) = lit 35 (refused Refused.char_reference) (one_of entities other_entity [] k)
  arms (tag p n) = on name_char (longer n (tag p)) (on blank (moves (gap p n [])) (on beyond (λ b. refused foreign_name) (close_arms p n)))
  arms (tagged p n ms) = on blank (moves (gap p n ms)) (close_arms p n)
  arms (gap p n ms) =
      on name_start (λ b. check (L.atts (suc (length ms))) Refused.many_attributes (check (L.name 1) long_name (goes [] (att p n ms (b ∷ [])))))
      (on blank (moves (gap p n ms)) (on beyond (λ b. refused foreign_name) (close_arms p n)))
  arms (att p n ms m) =
      on name_char (longer m (att p n ms))
      (on blank (λ b. named m ms (eqs p n ms m))
      (lit 61 (named m ms (val p n ms m)) (on beyond (λ b. refused foreign_name) (stop misplaced))))
  arms (eqs p n ms m) = on blank (moves (eqs p n ms m)) (lit 61 (goes [] (val p n ms m)) (stop misplaced))
  arms (val p n ms m) =
      on blank (moves (val p n ms m)) (lit 34 (goes [] (value p n ms m true)) (lit 39 (goes [] (value p n ms m false)) (stop misplaced)))
  arms (value p n ms m q) =
      on (unquoted q) (moves (value p n ms m q))
      (lit (quote q) (goes [] (tagged p n (m ∷ ms)))
      (lit 38 (goes [] (amper (value p n ms m q))) (lit 60 (refused misplaced) (one_of utf8 not_char [] (value p n ms m q)))))
  arms (ending n ns) =
      on blank (moves (ended n ns))
      (lit 62 (goes (closes n ∷ []) (at (up ns) b0)) (on name_char (λ b. refused other_end) (on beyond (λ b. refused other_end) (stop misplaced))))
  arms (ended n ns) = on blank (moves (ended n ns)) (lit 62 (goes (closes n ∷ []) (at (up ns) b0)) (stop misplaced))
  arms (told k) = on blank (moves (apiece (some k))) (lit 63 told_end (stop misplaced))
  arms (apiece o) =
      on blank (moves (apiece o))
      (lit 63 (apiece_end o)
      (lit 118 (part_arm o version (101 ∷ 114 ∷ 115 ∷ 105 ∷ 111 ∷ 110 ∷ []))
      (lit 101 (part_arm o encoding (110 ∷ 99 ∷ 111 ∷ 100 ∷ 105 ∷ 110 ∷ 103 ∷ []))
      (lit 115 (part_arm o standalone (116 ∷ 97 ∷ 110 ∷ 100 ∷ 97 ∷ 108 ∷ 111 ∷ 110 ∷ 101 ∷ [])) (stop misplaced)))))
  arms (part_eq o k) = on blank (moves (part_eq o k)) (lit 61 (goes [] (part_val o k)) (stop misplaced))
  arms (part_val o k) = on blank (moves (part_val o k)) (lit 34 (part_quote k true) (lit 39 (part_quote k false) (stop misplaced)))

-- by the first row alone: rows that are apart all end together
abbrev pub settle : Rows → ℕ → List Ev → State → Outcome
settle [] r es k = refused r
settle ([] ∷ rs) r es k = goes es k
settle ((c ∷ w) ∷ rs) r es k = goes [] (rows ((c ∷ w) ∷ rs) r es k)

unfoldable pub pick : Arms → ℕ → Outcome
pick (stop r) b = refused r
pick (one_of rs r es k) b = settle (derive b rs) r es k
pick (lit n o a) b = when (eqb b n) o (pick a b)
pick (on c f a) b = when (in_class c b) (f b) (pick a b)

unfoldable pub step : Limits → State → ℕ → Outcome
step L s b = pick (arms L s) b

-- what came of a text: the events, and the state at its end, or the refusal and the text from the refused byte on
pub data Result : Type 0 where
  stopped : List Ev → ℕ → List ℕ → Result
  stands : List Ev → State → Result

unfoldable pub given : List Ev → Result → Result
given es (stopped fs r t) = stopped (es ++ fs) r t
given es (stands fs s) = stands (es ++ fs) s

unfoldable pub next : Outcome → (State → Result) → List ℕ → Result
next (refused r) k t = stopped [] r t
next (goes es s) k t = given es (k s)

unfoldable pub run : Limits → List ℕ → State → Result
run L [] s = stands [] s
run L (b ∷ t) s = next (step L s b) (run L t) (b ∷ t)
