-- How the unfinished parts of a document grow: what each byte, tag or comment behind them makes of them.
--
--   at_note, at-space, at_open, at_empty, at_close, at_refer, at_grow      what ends between two markups, with one more of them
--   name_more, tag_more, att_more, s_more, eq_more, value_char, value_ref  what ends inside a tag, with one byte or one part more
--   late_end, blank_late, greater_late      where the very start is past
--
-- Assumes nothing.
use Rattle.std.specs.Prelude.{ℕ, ◌≡◌, refl, Bool, List, [], ◌∷◌, ◌++◌, T, length}
use Rattle.std.proofs.Common.{subst, append_assoc, append-nil}
use Rattle.xml.specs.Class.{Class, only, in_class, In, disjoint, out_of, disjoint_ranges}
use Rattle.xml.proofs.Class.Laws.{not_both}
use Rattle.xml.specs.Chars.{blank, name_char, unquoted, quote}
use Rattle.xml.specs.Grammar
use Rattle.xml.specs.Grammar.{Limits, Ev, opens, closes, remark, Br, b0, Each, Char, S, s, Eq, eq, Reference, Comment, Run, Value, quoted, Name, name}
use Rattle.xml.specs.Grammar.{Attributes, STag, stag, EmptyElemTag, etag, ETag, Derives, element, empty, Content, data', child, refer, Misc, Mark}
use Rattle.xml.specs.Grammar.{prolog, document}
use Rattle.xml.specs.Machine.{Place, opened, up, emptied, remarks}
use Rattle.xml.specs.Unfinished.{Late, Open, first, deeper, At, before, inside, after, Fits, InName, tag, InTag, attributed, InAtt, attribute}
use Rattle.xml.specs.Unfinished.{InValue, quoting}
use Rattle.reading.specs.Last.{last, last_snoc}
use Rattle.reading.specs.Account.{plus}

module _ (L : Limits) where
  pub move_at : {p : Place} {k : Br} {t u : List ℕ} {es fs : List Ev} → At L p k t es → t ≡ u → es ≡ fs → At L p k u fs
  move_at {p} {k} {t} {u} {es} {fs} h e f = subst (λ z. At L p k u z) f (subst (λ z. At L p k z es) e h)

  -- nothing but a byte order mark has been read
  pub at_mark : {t : List ℕ} → Mark t → At L Place.before b0 t []
  at_mark {t} m = move_at (before (prolog m Grammar.Decl.none Misc.none)) (append-nil t) refl

  pub at_note : {p : Place} {k : Br} {t u : List ℕ} {es : List Ev} → At L p k t es → Comment u → At L p b0 (t ++ u) (plus es (remarks p))
  at_note (before (prolog m d x)) c = move_at (before (prolog m d (Misc.remarked x c))) (simp append_assoc) refl
  at_note (inside o x) c = move_at (inside o (Derives.remarked x c Run.none)) (simp (append_assoc, append-nil)) (simp append_assoc)
  at_note (after (document p e x)) c = move_at (after (document p e (Misc.remarked x c))) (simp append_assoc) refl

  pub at_space_before : {k : Br} {t : List ℕ} {b : ℕ} {es : List Ev} → At L Place.before k t es → In blank b → At L Place.before b0 (t ++ (b ∷ [])) es
  at_space_before (before (prolog m d x)) h = move_at (before (prolog m d (Misc.space x h))) (simp append_assoc) refl

  pub at_space_after : {k : Br} {t : List ℕ} {b : ℕ} {es : List Ev} → At L Place.after k t es → In blank b → At L Place.after b0 (t ++ (b ∷ [])) es
  at_space_after (after (document p e x)) h = move_at (after (document p e (Misc.space x h))) (simp append_assoc) refl

  stag_open :
      {p : Place} {k : Br} {t n u : List ℕ} {es : List Ev} → At L p k t es → Fits L p → STag L n u → At L (opened p n) b0 (t ++ u) (es ++ (opens n ∷ []))
  stag_open (before p) (Fits.before f) g = move_at (inside (first f p g) (data' Run.none)) (simp append-nil) refl
  stag_open (inside o c) (Fits.inside f) g =
      move_at (inside (deeper f o c g) (data' Run.none)) (simp (append_assoc, append-nil)) (simp (append_assoc, append-nil))
  stag_open {t = t} {n = n} {u = u} {es = es} (At.after _) x12 g = elim x12 [ ]

  pub at_open :
      {p : Place} {n t u : List ℕ} {ms : List (List ℕ)} {es : List Ev}
      → InTag L p n ms t es
      → Each blank u
      → At L (opened p n) b0 (t ++ (u ++ (62 ∷ []))) (es ++ (opens n ∷ []))
  at_open (attributed (tag a f n) g) e = move_at (stag_open a f (stag n g e)) (simp append_assoc) refl

  etag_empty :
      {p : Place} {k : Br} {t n u : List ℕ} {es : List Ev}
      → At L p k t es
      → Fits L p
      → EmptyElemTag L n u
      → At L (emptied p) b0 (t ++ u) (es ++ (opens n ∷ closes n ∷ []))
  etag_empty (before p) (Fits.before f) g = move_at (after (document p (empty f g) Misc.none)) (simp append-nil) refl
  etag_empty (inside o c) (Fits.inside f) g = move_at (inside o (child c (empty f g) Run.none)) (simp (append_assoc, append-nil)) (simp append_assoc)
  etag_empty {t = t} {n = n} {u = u} {es = es} (At.after _) x12 g = elim x12 [ ]

  pub at_empty :
      {p : Place} {n t u : List ℕ} {ms : List (List ℕ)} {es : List Ev}
      → InTag L p n ms t es
      → Each blank u
      → At L (emptied p) b0 (t ++ (u ++ (47 ∷ 62 ∷ []))) (es ++ (opens n ∷ closes n ∷ []))
  at_empty (attributed (tag a f n) g) e = move_at (etag_empty a f (etag n g e)) (simp append_assoc) refl

  pub at_close :
      {k : Br} {t n u : List ℕ} {ns : List (List ℕ)} {es : List Ev}
      → At L (Place.inside n ns) k t es
      → ETag L n u
      → At L (up ns) b0 (t ++ u) (es ++ (closes n ∷ []))
  at_close (inside (first f p g) c) h = move_at (after (document p (element f g c h) Misc.none)) (simp (append_assoc, append-nil)) refl
  at_close (inside (deeper f o x g) c) h = move_at (inside o (child x (element f g c h) Run.none)) (simp (append_assoc, append-nil)) (simp append_assoc)

  pub at_refer :
      {n t u : List ℕ} {ns : List (List ℕ)} {k : Br} {es : List Ev}
      → At L (Place.inside n ns) k t es
      → Reference u
      → At L (Place.inside n ns) b0 (t ++ u) es
  at_refer (inside o c) r = move_at (inside o (refer c r Run.none)) (simp (append_assoc, append-nil)) refl

  -- the run at the end of a content grows
  grow :
      {d : ℕ} {j k : Br} {t c : List ℕ} {es : List Ev}
      → Content L d j t es
      → ((u : List ℕ) → Run j u → Run k (u ++ c))
      → Content L d k (t ++ c) es
  grow (data' r) f = data' (f _ r)
  grow {d} {j} {k} (child {es = es} {fs = fs} x e r) f = subst (λ z. Content L d k z (es ++ fs)) (simp append_assoc) (child x e (f _ r))
  grow {d} {j} {k} (refer {es = es} x e r) f = subst (λ z. Content L d k z es) (simp append_assoc) (refer x e (f _ r))
  grow {d} {j} {k} (Derives.remarked {es = es} x e r) f =
      subst (λ z. Content L d k z (es ++ (remark ∷ []))) (simp append_assoc) (Derives.remarked x e (f _ r))

  pub at_grow :
      {n t c : List ℕ} {ns : List (List ℕ)} {j k : Br} {es : List Ev}
      → At L (Place.inside n ns) j t es
      → ((u : List ℕ) → Run j u → Run k (u ++ c))
      → At L (Place.inside n ns) k (t ++ c) es
  at_grow (inside o x) f = move_at (inside o (grow x f)) (simp append_assoc) refl

  pub name_more : {n : List ℕ} {b : ℕ} → Name L n → In name_char b → T (L.name (length (n ++ (b ∷ [])))) → Name L (n ++ (b ∷ []))
  name_more (name f e l) h x = name f (Each.more e h) x

  pub tag_more :
      {p : Place} {n t : List ℕ} {b : ℕ} {es : List Ev}
      → InName L p n t es
      → In name_char b
      → T (L.name (length (n ++ (b ∷ []))))
      → InName L p (n ++ (b ∷ [])) (t ++ (b ∷ [])) es
  tag_more {p} {n} {b = b} {es = es} (tag a f g) h x = subst (λ z. InName L p (n ++ (b ∷ [])) z es) (simp append_assoc) (tag a f (name_more g h x))

  pub att_more :
      {p : Place} {n m t : List ℕ} {ms : List (List ℕ)} {b : ℕ} {es : List Ev}
      → InAtt L p n ms m t es
      → In name_char b
      → T (L.name (length (m ++ (b ∷ []))))
      → InAtt L p n ms (m ++ (b ∷ [])) (t ++ (b ∷ [])) es
  att_more {p} {n} {m} {ms = ms} {b = b} {es = es} (attribute g u x i) h y =
      subst (λ z. InAtt L p n ms (m ++ (b ∷ [])) z es) (simp append_assoc) (attribute g u x (name_more i h y))

  pub no_attributes : {p : Place} {n t : List ℕ} {es : List Ev} → InName L p n t es → InTag L p n [] t es
  no_attributes {p} {n} {t} {es} a = subst (λ z. InTag L p n [] z es) (append-nil t) (attributed a Attributes.none)

  pub s_more : {t : List ℕ} {b : ℕ} → S t → In blank b → S (t ++ (b ∷ []))
  s_more (s e h) g = s (Each.more e h) g

  pub s_each : {t : List ℕ} → S t → Each blank t
  s_each (s e h) = Each.more e h

  pub eq_more : {t : List ℕ} {b : ℕ} → Eq t → In blank b → Eq (t ++ (b ∷ []))
  eq_more (eq e f) h = subst Eq (simp append_assoc) (eq e (Each.more f h))

  pub value_char :
      {p : Place} {n m t c : List ℕ} {ms : List (List ℕ)} {q : Bool} {es : List Ev}
      → InValue L p n ms m q t es
      → Char (unquoted q) c
      → InValue L p n ms m q (t ++ c) es
  value_char {p} {n} {m} {ms = ms} {es = es} (quoting q a x e v) h =
      subst (λ z. InValue L p n ms m q z es) (simp append_assoc) (quoting q a x e (Value.char v h))

  pub value_ref :
      {p : Place} {n m t c : List ℕ} {ms : List (List ℕ)} {q : Bool} {es : List Ev}
      → InValue L p n ms m q t es
      → Reference c
      → InValue L p n ms m q (t ++ c) es
  value_ref {p} {n} {m} {ms = ms} {es = es} (quoting q a x e v) h =
      subst (λ z. InValue L p n ms m q z es) (simp append_assoc) (quoting q a x e (Value.ref v h))

  pub value_end :
      {p : Place} {n m t : List ℕ} {ms : List (List ℕ)} {q : Bool} {es : List Ev}
      → InValue L p n ms m q t es
      → InTag L p n (m ∷ ms) (t ++ (quote q ∷ [])) es
  value_end {p} {n} {m} {ms = ms} {es = es} (quoting q (attribute (attributed i g) u y j) x e v) =
      subst (λ z. InTag L p n (m ∷ ms) z es) (simp append_assoc) (attributed i (Attributes.more g u y j x e (quoted q v)))

  stag_name : {n t : List ℕ} → STag L n t → Name L n
  stag_name (stag i g e) = i

  pub open_name : {n t : List ℕ} {ns : List (List ℕ)} {es : List Ev} → Open L n ns t es → Name L n
  open_name (first x p g) = stag_name g
  open_name (deeper x o c g) = stag_name g

abbrev mark_ends : Class
mark_ends = only 0 ∷ only 191 ∷ []

mark_ends_lem : {t : List ℕ} → Mark t → T (in_class mark_ends (last t))
unfolding last in_class
mark_ends_lem Mark.none = tt
mark_ends_lem Mark.mark = tt

-- a text that ends otherwise than a byte order mark
pub late_end : (p : Place) (t : List ℕ) (b : ℕ) → (T (in_class mark_ends b) → ⊥) → Late p (t ++ (b ∷ []))
late_end Place.before t b f = Late.before (λ m. f (subst (λ z. T (in_class mark_ends z)) (last_snoc t b) (mark_ends_lem m)))
late_end (Place.inside n ns) t b f = Late.inside
late_end Place.after t b f = Late.after

pub blank_late : (t : List ℕ) {b : ℕ} → In blank b → Late Place.before (t ++ (b ∷ []))
unfolding disjoint out_of disjoint_ranges
blank_late t h = late_end Place.before t _ (λ u. not_both blank mark_ends _ tt h.holds u)

pub greater_late : (p : Place) (t : List ℕ) → Late p (t ++ (62 ∷ []))
unfolding in_class
greater_late p t = late_end p t 62 (λ u. u)
