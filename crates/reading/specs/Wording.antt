-- Character data and comments are what W3C's own words say.
--
--   Avoids z t           no byte of t is z
--   char_data            CharData is a sequence of Chars, none of them '<' or '&', with ']]>' nowhere inside
--   remark_is            what a comment has inside is a sequence of Chars with '--' nowhere inside, and with no '-' at its end;  comment_is: the whole
--
-- Assumes nothing. NOT here: what a Char is in bytes (Forms).
use Rattle.std.specs.Prelude.{ℕ, ◌≡◌, refl, ◌↔◌, Bool, true, not, ◌&&◌, T, eqb}
use Rattle.std.proofs.Common.{arith, sym, ap, ◌∙◌, subst, ⊎_elim, eqb→eq, T_not}
use mathlib.Core.List.{List, [], ◌∷◌, ◌++◌, append_assoc, append-nil, cons≢nil}
use Rattle.xml.specs.Class.{Class, Row, Rows, in_class, In, OneOf, this, that, Spells, end, place, filled}
use Rattle.xml.proofs.Class.Laws.{and_l, and_r, or_case}
use Rattle.xml.specs.Chars.{beyond, utf8, no_dash, plain}
use Rattle.xml.specs.Grammar.{Char, narrow, wide, Br, b0, b1, b2, Run, Remarked, Comment, comment}
use Rattle.xml.specs.Table.{ascii}
use Rattle.xml.specs.Wording.{Several, Nowhere}
use Rattle.reading.specs.Left.{filled_none}
use Rattle.reading.specs.Within.{in_within, within_in, holds, part_of, part_within}
use Rattle.reading.specs.Last.{snoc_same, Ended, empty, snoc, ended}
use Rattle.reading.specs.Fails.{ascii_passes, in_data, in_note, data_all, note_all}

pub data Avoids (z : ℕ) : List ℕ → Type 0 where
  none : Avoids z []
  more : {b : ℕ} {t : List ℕ} → (b ≡ z → ⊥) → Avoids z t → Avoids z (b ∷ t)

-- every class of the rows is a part of c
unfoldable row_in : Class → Row → Bool
row_in c [] = true
row_in c (d ∷ r) = part_of d c && row_in c r

unfoldable rows_in : Class → Rows → Bool
rows_in c [] = true
rows_in c (r ∷ rs) = row_in c r && rows_in c rs

unlike : (c : Class) (z : ℕ) {b : ℕ} → T (not (in_class c z)) → In c b → b ≡ z → ⊥
unlike c z t h e = T_not (in_class c z) t (subst (λ y. T (in_class c y)) e h.holds)

row_avoids : (c : Class) (z : ℕ) (r : Row) {w : List ℕ} → T (not (in_class c z)) → T (row_in c r) → Spells r w → Avoids z w
unfolding row_in
row_avoids c z [] t u end = Avoids.none
row_avoids c z (d ∷ r) t u (place h s) =
    Avoids.more (unlike c z t (within_in (part_within c d _ (and_l (part_of d c) _ u) (in_within h)))) (row_avoids c z r t (and_r (part_of d c) _ u) s)

rows_avoid : (c : Class) (z : ℕ) (rs : Rows) {w : List ℕ} → T (not (in_class c z)) → T (rows_in c rs) → OneOf rs w → Avoids z w
unfolding rows_in
rows_avoid c z (r ∷ rs) t u (this h) = row_avoids c z r t (and_l (row_in c r) _ u) h
rows_avoid c z (r ∷ rs) t u (that h) = rows_avoid c z rs t (and_r (row_in c r) _ u) h
rows_avoid c z [] {w = w} t u x3 = elim x3 [ ]

char_avoids : (d : Class) (z : ℕ) {c : List ℕ} → T (not (in_class d z)) → T (not (in_class beyond z)) → Char d c → Avoids z c
unfolding rows_in row_in part_of holds
char_avoids d z t u (narrow h) = Avoids.more (unlike d z t h) Avoids.none
char_avoids d z t u (wide o) = rows_avoid beyond z utf8 u tt o

char_some : {d : Class} {c : List ℕ} → Char d c → c ≡ [] → ⊥
unfolding filled
char_some (narrow h) e = cons≢nil e
char_some (wide o) e = filled_none utf8 tt (subst (OneOf utf8) e o)

append_none : (u v : List ℕ) → [] ≡ u ++ v → v ≡ []
append_none [] v e = sym e
append_none (b ∷ u) v e = absurd (cons≢nil (sym e))

none_inside : (x : List ℕ) (b : ℕ) → Nowhere (x ++ (b ∷ [])) []
none_inside x b u v e = cons≢nil (append_none (u ++ x) (b ∷ v) (e ∙ simp append_assoc))

none_ends : (b : ℕ) (u : List ℕ) → [] ≡ u ++ (b ∷ []) → ⊥
none_ends b u e = cons≢nil (append_none u (b ∷ []) e)

-- a forbidden word, w with z behind it
module _ (w : List ℕ) (z : ℕ) where
  one_more : (t : List ℕ) (b : ℕ) → Nowhere (w ++ (z ∷ [])) t → (b ≡ z → (u : List ℕ) → t ≡ u ++ w → ⊥) → Nowhere (w ++ (z ∷ [])) (t ++ (b ∷ []))
  one_more t b n f u v e = go v (ended v) e
    where
      go : (v : List ℕ) → Ended v → t ++ (b ∷ []) ≡ u ++ ((w ++ (z ∷ [])) ++ v) → ⊥
      go v empty e = let (x, y) = snoc_same t (u ++ w) b z (e ∙ simp (append_assoc, append-nil)) in f y u x
      go v (snoc v' c) e = let (x, y) = snoc_same t (u ++ ((w ++ (z ∷ [])) ++ v')) b c (e ∙ simp append_assoc) in n u v' x

  some_more : (t c : List ℕ) → Nowhere (w ++ (z ∷ [])) t → Avoids z c → Nowhere (w ++ (z ∷ [])) (t ++ c)
  some_more t [] n Avoids.none = subst (Nowhere (w ++ (z ∷ []))) (sym (append-nil t)) n
  some_more t (b ∷ c) n (Avoids.more f h) =
      subst (Nowhere (w ++ (z ∷ []))) (append_assoc t (b ∷ []) c) (some_more (t ++ (b ∷ [])) c (one_more t b n (λ e. absurd (f e))) h)

  fewer : (t c : List ℕ) → Nowhere (w ++ (z ∷ [])) (t ++ c) → Nowhere (w ++ (z ∷ [])) t
  fewer t c n u v e = n u (v ++ c) (ap (λ y. y ++ c) e ∙ simp append_assoc)

-- what ends in bytes that are not z does not end in z
ends_not : (z : ℕ) (t c : List ℕ) → Avoids z c → (c ≡ [] → ⊥) → (u : List ℕ) → t ++ c ≡ u ++ (z ∷ []) → ⊥
ends_not z t [] h f u e = f refl
ends_not z t (b ∷ []) (Avoids.more g h) f u e = g (snoc_same t u b z e).1
ends_not z t (b ∷ c ∷ w) (Avoids.more g h) f u e = ends_not z (t ++ (b ∷ [])) (c ∷ w) h (λ i. cons≢nil i) u (append_assoc t (b ∷ []) (c ∷ w) ∙ e)

-- neither '<' nor '&'
abbrev pub Unmarked : List ℕ → Type 0
Unmarked c = (c ≡ 60 ∷ [] → ⊥) × (c ≡ 38 ∷ [] → ⊥)

not_byte : (z : ℕ) {c : List ℕ} → Avoids z c → c ≡ z ∷ [] → ⊥
not_byte z h e = go h e
  where
    go : {c : List ℕ} → Avoids z c → c ≡ z ∷ [] → ⊥
    go Avoids.none e = cons≢nil (sym e)
    go (Avoids.more f h) e = f (cc)

plain_ascii : {c : List ℕ} → Char plain c → Char ascii c
unfolding part_of holds
plain_ascii (narrow h) = narrow (within_in (part_within ascii plain _ tt (in_within h)))
plain_ascii (wide o) = wide o

no_dash_ascii : {c : List ℕ} → Char no_dash c → Char ascii c
unfolding part_of holds
no_dash_ascii (narrow h) = narrow (within_in (part_within ascii no_dash _ tt (in_within h)))
no_dash_ascii (wide o) = wide o

plain_unmarked : {c : List ℕ} → Char plain c → Unmarked c
unfolding in_class
plain_unmarked h = (not_byte 60 (char_avoids plain 60 tt tt h), not_byte 38 (char_avoids plain 38 tt tt h))

byte_unlike : (b z : ℕ) → (b ≡ z → ⊥) → b ∷ [] ≡ z ∷ [] → ⊥
byte_unlike b z f e = f (cc)

ascii_byte : (b : ℕ) → T (in_class ascii b) → Char ascii (b ∷ [])
ascii_byte b t = narrow (record { holds = t })

run_several : {k : Br} {t : List ℕ} → Run k t → Several Unmarked t
unfolding in_class
run_several Run.none = Several.none
run_several (Run.char r c) = Several.more (run_several r) (plain_ascii c) (plain_unmarked c)
run_several (Run.close r) = Several.more (run_several r) (ascii_byte 93 tt) (byte_unlike 93 60 (omega arith), byte_unlike 93 38 (omega arith))
run_several (Run.gt0 r) = Several.more (run_several r) (ascii_byte 62 tt) (byte_unlike 62 60 (omega arith), byte_unlike 62 38 (omega arith))
run_several (Run.gt1 r) = Several.more (run_several r) (ascii_byte 62 tt) (byte_unlike 62 60 (omega arith), byte_unlike 62 38 (omega arith))

abbrev Closing : List ℕ → Type 0
Closing = Nowhere (93 ∷ 93 ∷ 62 ∷ [])

-- how it does not end
abbrev Ends : Br → List ℕ → Type 0
Ends b0 t = (u : List ℕ) → t ≡ u ++ (93 ∷ []) → ⊥
Ends b1 t = (u : List ℕ) → t ≡ u ++ (93 ∷ 93 ∷ []) → ⊥
Ends b2 t = Unit {0}

ends_more : (k : Br) (t : List ℕ) → Ends k t → Ends (Rattle.xml.specs.Grammar.bracket k) (t ++ (93 ∷ []))
ends_more b0 t f = λ u e. f u (snoc_same t (u ++ (93 ∷ [])) 93 93 (e ∙ simp append_assoc)).0
ends_more b1 t f = tt
ends_more b2 t f = tt

run_nowhere : {k : Br} {t : List ℕ} → Run k t → Closing t × Ends k t
unfolding in_class
run_nowhere Run.none = (none_inside (93 ∷ 93 ∷ []) 62, none_ends 93)
run_nowhere (Run.char {t = t} {c = c} r h) =
    let (n, f) = run_nowhere r in
    (some_more (93 ∷ 93 ∷ []) 62 t c n (char_avoids plain 62 tt tt h), ends_not 93 t c (char_avoids plain 93 tt tt h) (char_some h))
run_nowhere (Run.close {k = k} {t = t} r) =
    let (n, f) = run_nowhere r in
    (one_more (93 ∷ 93 ∷ []) 62 t 93 n (λ e. absurd (omega arith)), ends_more k t f)
run_nowhere (Run.gt0 {t = t} r) =
    let (n, f) = run_nowhere r in
    (one_more (93 ∷ 93 ∷ []) 62 t 62 n (λ e u i. f (u ++ (93 ∷ [])) (i ∙ simp append_assoc)), λ u e. let x = snoc_same t u 62 93 e in omega arith)
run_nowhere (Run.gt1 {t = t} r) =
    let (n, f) = run_nowhere r in
    (one_more (93 ∷ 93 ∷ []) 62 t 62 n (λ e. f), λ u e. let x = snoc_same t u 62 93 e in omega arith)

-- how it does end
abbrev Brackets : Br → List ℕ → Type 0
Brackets b0 t = Unit {0}
Brackets b1 t = (u : List ℕ) × (t ≡ u ++ (93 ∷ []))
Brackets b2 t = (u : List ℕ) × (t ≡ u ++ (93 ∷ 93 ∷ []))

brackets_more : (k : Br) (t : List ℕ) → Brackets k t → Brackets (Rattle.xml.specs.Grammar.bracket k) (t ++ (93 ∷ []))
brackets_more b0 t h = (t, refl)
brackets_more b1 t (u, e) = (u, ap (λ z. z ++ (93 ∷ [])) e ∙ simp append_assoc)
brackets_more b2 t (u, e) = (u ++ (93 ∷ []), ap (λ z. z ++ (93 ∷ [])) e ∙ simp append_assoc)

-- one more byte of character data
ascii_run :
    {k : Br} {t : List ℕ} {b : ℕ}
    → Run k t
    → Brackets k t
    → T (in_data b)
    → Unmarked (b ∷ [])
    → Closing (t ++ (b ∷ []))
    → (j : Br) × Run j (t ++ (b ∷ [])) × Brackets j (t ++ (b ∷ []))
ascii_run {k} {t} {b} r h i p n =
    ⊎_elim (λ x. (b0, Run.char r (narrow (record { holds = x })), tt))
    (λ x.
    ⊎_elim (λ y. subst Grown (sym (eqb→eq b 93 y)) (Rattle.xml.specs.Grammar.bracket k, Run.close r, brackets_more k t h))
    (λ x.
    ⊎_elim (λ y. subst Grown (sym (eqb→eq b 62 y)) (greater k r h (subst (λ z. Closing (t ++ (z ∷ []))) (eqb→eq b 62 y) n)))
    (λ x. ⊎_elim (λ y. absurd (p.0 (ap (λ z. z ∷ []) (eqb→eq b 60 y)))) (λ y. absurd (p.1 (ap (λ z. z ∷ []) (eqb→eq b 38 y)))) (or_case (eqb b 60) _ x))
    (or_case (eqb b 62) _ x))
    (or_case (eqb b 93) _ x))
    (or_case (in_class plain b) _ i)
  where
    Grown : ℕ → Type 0
    Grown c = (j : Br) × Run j (t ++ (c ∷ [])) × Brackets j (t ++ (c ∷ []))

    greater : (k : Br) → Run k t → Brackets k t → Closing (t ++ (62 ∷ [])) → Grown 62
    greater b0 r h n = (b0, Run.gt0 r, tt)
    greater b1 r h n = (b0, Run.gt1 r, tt)
    greater b2 r (u, e) n = absurd (n u [] (ap (λ z. z ++ (62 ∷ [])) e ∙ simp append_assoc))

several_run : {t : List ℕ} → Several Unmarked t → Closing t → (k : Br) × Run k t × Brackets k t
several_run Several.none n = (b0, Run.none, tt)
several_run (Several.more {t = t} {c = c} h x p) n = let (k, r, g) = several_run h (fewer (93 ∷ 93 ∷ []) 62 t c n) in go k r g x p n
  where
    go :
        {c : List ℕ} (k : Br)
        → Run k t
        → Brackets k t
        → Char ascii c
        → Unmarked c
        → Closing (t ++ c)
        → (j : Br) × Run j (t ++ c) × Brackets j (t ++ c)
    go k r g (narrow {b = b} i) p n = ascii_run r g (ascii_passes in_data data_all b i) p n
    go k r g (wide o) p n = (b0, Run.char r (wide o), tt)

-- [14] CharData ::= [^<&]* - ([^<&]* ']]>' [^<&]*)
pub char_data : (t : List ℕ) → ((k : Br) × Run k t) ↔ (Several Unmarked t × Nowhere (93 ∷ 93 ∷ 62 ∷ []) t)
char_data t = (λ h. (run_several h.1, (run_nowhere h.1).0), λ h. let (k, r, g) = several_run h.0 h.1 in (k, r))

-- any Char
abbrev pub Whatever : List ℕ → Type 0
Whatever c = Unit {0}

abbrev Dashes : List ℕ → Type 0
Dashes = Nowhere (45 ∷ 45 ∷ [])

abbrev Undashed : List ℕ → Type 0
Undashed t = (u : List ℕ) → t ≡ u ++ (45 ∷ []) → ⊥

remarked_several : {t : List ℕ} → Remarked t → Several Whatever t
unfolding in_class
remarked_several Remarked.none = Several.none
remarked_several (Remarked.char r h) = Several.more (remarked_several r) (no_dash_ascii h) tt
remarked_several (Remarked.dashed {t = t} {c = c} r h) =
    subst (Several Whatever) (append_assoc t (45 ∷ []) c) (Several.more (Several.more (remarked_several r) (ascii_byte 45 tt) tt) (no_dash_ascii h) tt)

remarked_nowhere : {t : List ℕ} → Remarked t → Dashes t × Undashed t
unfolding in_class
remarked_nowhere Remarked.none = (none_inside (45 ∷ []) 45, none_ends 45)
remarked_nowhere (Remarked.char {t = t} {c = c} r h) =
    let (n, f) = remarked_nowhere r in
    let a = char_avoids no_dash 45 tt tt h in
    (some_more (45 ∷ []) 45 t c n a, ends_not 45 t c a (char_some h))
remarked_nowhere (Remarked.dashed {t = t} {c = c} r h) =
    let (n, f) = remarked_nowhere r in
    let a = char_avoids no_dash 45 tt tt h in
    let e : (t ++ (45 ∷ [])) ++ c ≡ t ++ (45 ∷ c) = append_assoc t (45 ∷ []) c in (
      subst Dashes e (some_more (45 ∷ []) 45 (t ++ (45 ∷ [])) c (one_more (45 ∷ []) 45 t 45 n (λ i. f)) a),
      subst Undashed e (ends_not 45 (t ++ (45 ∷ [])) c a (char_some h)),
    )

-- whole, or with a '-' behind it
data Halfway : List ℕ → Type 0 where
  whole : {t : List ℕ} → Remarked t → Halfway t
  half : {t : List ℕ} → Remarked t → Halfway (t ++ (45 ∷ []))

halfway_more : {t c : List ℕ} → Halfway t → Char no_dash c → Halfway (t ++ c)
halfway_more (whole r) h = whole (Remarked.char r h)
halfway_more {c = c} (half {t = t} r) h = whole (subst Remarked (sym (append_assoc t (45 ∷ []) c)) (Remarked.dashed r h))

halfway_dash : {t : List ℕ} → Halfway t → Dashes (t ++ (45 ∷ [])) → Halfway (t ++ (45 ∷ []))
halfway_dash (whole r) n = half r
halfway_dash (half {t = t} r) n = absurd (n t [] (simp append_assoc))

several_halfway : {t : List ℕ} → Several Whatever t → Dashes t → Halfway t
several_halfway Several.none n = whole Remarked.none
several_halfway (Several.more {t = t} {c = c} h x p) n = go (several_halfway h (fewer (45 ∷ []) 45 t c n)) x n
  where
    go : {c : List ℕ} → Halfway t → Char ascii c → Dashes (t ++ c) → Halfway (t ++ c)
    go g (narrow {b = b} i) n =
        ⊎_elim (λ y. halfway_more g (narrow (record { holds = y })))
        (λ y. subst (λ z. Halfway (t ++ (z ∷ []))) (sym (eqb→eq b 45 y)) (halfway_dash g (subst (λ z. Dashes (t ++ (z ∷ []))) (eqb→eq b 45 y) n)))
        (or_case (in_class no_dash b) _ (ascii_passes in_note note_all b i))
    go g (wide o) n = halfway_more g (wide o)

-- [15] Comment ::= '<!--' ((Char - '-') | ('-' (Char - '-')))* '-->'
pub remark_is : (t : List ℕ) → Remarked t ↔ (Several Whatever t × Nowhere (45 ∷ 45 ∷ []) t × ((u : List ℕ) → t ≡ u ++ (45 ∷ []) → ⊥))
remark_is t =
    (λ r. (remarked_several r, (remarked_nowhere r).0, (remarked_nowhere r).1), λ h. go (several_halfway h.0 h.1) h.2)
  where
    go : {t : List ℕ} → Halfway t → Undashed t → Remarked t
    go (whole r) f = r
    go (half {t = t} r) f = absurd (f t refl)

pub comment_is :
    (t : List ℕ)
    → Comment t
    ↔ ((u : List ℕ)
    × (t ≡ 60 ∷ 33 ∷ 45 ∷ 45 ∷ (u ++ (45 ∷ 45 ∷ 62 ∷ [])))
    × Several Whatever u
    × Nowhere (45 ∷ 45 ∷ []) u
    × ((v : List ℕ) → u ≡ v ++ (45 ∷ []) → ⊥))
comment_is t = (go, λ h. subst Comment (sym h.1) (comment ((remark_is h.0).1 (h.2, h.3, h.4))))
  where
    go :
        {t : List ℕ}
        → Comment t
        → (u : List ℕ)
        × (t ≡ 60 ∷ 33 ∷ 45 ∷ 45 ∷ (u ++ (45 ∷ 45 ∷ 62 ∷ [])))
        × Several Whatever u
        × Nowhere (45 ∷ 45 ∷ []) u
        × Undashed u
    go (comment {t = u} r) = let (x, y, z) = (remark_is u).0 r in (u, refl, x, y, z)
