-- The loops over several bytes go as byte after byte does.
--
--   noted r g z n         the reader with n bytes read, whatever was given and refused
--   Walks r R t at w      a part of t as long as w says is quiet, and takes the reader and its room to where w says
--   stays                 no byte is gone over
--   skips_among, copies_among, agrees_among      the three loops, by what one byte does
--   skips_walk, .., skips_told, ..      the same by what it does whatever was refused, and whatever refusal of text it was
--   none_walk             a mode without a loop
--
-- Assumes nothing.
use Rattle.std.specs.Prelude.{ℕ, ◌+◌, ◌<◌, ◌≡◌, true, false, eqb, leb, length, get_or, set, Option, None}
use Rattle.std.proofs.Common.{arith, sym, ◌∙◌, eqb-true, leb-false, subst}
use Rattle.std.proofs.Math.Path.{refl, ap}
use mathlib.Core.List.{List, [], ◌∷◌, ◌++◌}
use Rattle.choice.specs.When.{when_known, never}
use Rattle.limits.specs.declared.TextRefusal.{TextRefusal}
use Rattle.limits.specs.Number.{text_of}
use Rattle.xml.specs.Class.{in_class}
use Rattle.chars.specs.Marks.{marked, span}
use Rattle.slots.specs.Slots.{base_of, length_in}
use Rattle.slots.specs.Copied.{Copied, copied, name_mark, Agreed, agreed}
use Rattle.modes.specs.declared.Gives.{Gives}
use Rattle.modes.specs.declared.Gives.TheVariants as gives
use Rattle.modes.specs.declared.Reader.{Reader}
use Rattle.modes.specs.Moves.{spell_on}
use Rattle.tags.specs.Markup.{kept}
use Rattle.tick.specs.Tick.{tick}
use Rattle.walk.specs.Walk.{beside}
use Rattle.walk.specs.Turn.{here_after}
use Rattle.text_right.specs.Marked.{marks_table, every, agrees, same, low, mark_is}
use Rattle.text_right.proofs.Quiet.{still, Quiet, done, byte}

abbrev pub noted : Reader → Gives → ℕ → ℕ → Reader
noted r g z n = record { mode = r.mode; back = r.back; n = n; row = r.row; count = r.count; gives = g; refusal = z; place = r.place }

pub record Walks (r : Reader) (R t : List ℕ) (at : ℕ) (w : Copied) : Type 0 where
  pub over : List ℕ
  pub rest : List ℕ
  pub split : t ≡ over ++ rest
  pub far : w.at ≡ at + length over
  pub quiet : Quiet r R over (here_after r w) w.room

-- no byte is gone over
pub stays : (r : Reader) (R t : List ℕ) (at : ℕ) → Walks r R t at (record { at = at; n = r.n; room = R })
stays r R t at = record { over = []; rest = t; split = refl; far = let z : at ≡ at + 0 = omega arith in z; quiet = done }

-- what one byte does is asked of a reader with any of the old refusals that P holds of, of which none is one
module _ (P : ℕ → Type 0) (unrefused : P 0) where
  module _ (r : Reader) (R : List ℕ) (mark : ℕ)
      (f : (g : Gives) (z b : ℕ) → P z → marked marks_table b mark ≡ true → tick marks_table (noted r g z r.n) b R ≡ kept (still r) R) where
    pub skips_among :
        (t : List ℕ) (g : Gives) (z at : ℕ) → P z → Walks (noted r g z r.n) R t at (record { at = at + span marks_table mark t; n = r.n; room = R })
    unfolding span
    skips_among [] g z at p = record { over = []; rest = []; split = refl; far = refl; quiet = done }
    skips_among (b ∷ t) g z at p =
        when_known (λ n. Walks (noted r g z r.n) R (b ∷ t) at (record { at = at + n; n = r.n; room = R })) (marked marks_table b mark) _ _
        (λ e.
        let w = skips_among t gives.Nothing 0 (at + 1) unrefused in
        record {
          over = b ∷ w.over;
          rest = w.rest;
          split = ap (λ u. b ∷ u) w.split;
          far = let y = w.far in omega arith;
          quiet = byte (f g z b p e) refl w.quiet;
        })
        (λ e. record { over = []; rest = b ∷ t; split = refl; far = refl; quiet = done })

  module _ (r : Reader) (s : ℕ)
      (f : (g : Gives) (z n b : ℕ) (R : List ℕ) → P z → marked marks_table b name_mark ≡ true → n < 64
      → tick marks_table (noted r g z n) b R ≡ kept (spell_on r r.mode r.row (n + 1)) (set R (base_of s + n) b)) where
    pub copies_among : (t : List ℕ) (g : Gives) (z n at : ℕ) (R : List ℕ) → P z → Walks (noted r g z n) R t at (copied marks_table R s n at t)
    unfolding copied
    copies_among [] g z n at R p = stays (noted r g z n) R [] at
    copies_among (b ∷ t) g z n at R p =
        when_known (Walks (noted r g z n) R (b ∷ t) at) (marked marks_table b name_mark) _ _
        (λ e.
        when_known (Walks (noted r g z n) R (b ∷ t) at) (leb 64 n) _ _
        (λ k. stays (noted r g z n) R (b ∷ t) at)
        (λ k.
        let w = copies_among t gives.Nothing 0 (n + 1) (at + 1) (set R (base_of s + n) b) unrefused in
        record {
          over = b ∷ w.over;
          rest = w.rest;
          split = ap (λ u. b ∷ u) w.split;
          far = let y = w.far in omega arith;
          quiet = byte (f g z n b R p e (leb-false _ _ k)) refl w.quiet;
        }))
        (λ e. stays (noted r g z n) R (b ∷ t) at)

  module _ (r : Reader) (R : List ℕ) (s : ℕ)
      (f : (g : Gives) (z n b : ℕ) → P z → n < length_in R s → b ≡ get_or R (base_of s + n) 0
      → tick marks_table (noted r g z n) b R ≡ kept (spell_on r r.mode r.row (n + 1)) R) where
    pub agrees_among : (t : List ℕ) (g : Gives) (z n at : ℕ) → P z → Walks (noted r g z n) R t at (beside (agreed R s n at t) R)
    unfolding agreed
    agrees_among [] g z n at p = stays (noted r g z n) R [] at
    agrees_among (b ∷ t) g z n at p =
        when_known (λ (x : Agreed). Walks (noted r g z n) R (b ∷ t) at (beside x R)) (leb (length_in R s) n) _ _
        (λ e. stays (noted r g z n) R (b ∷ t) at)
        (λ e.
        when_known (λ (x : Agreed). Walks (noted r g z n) R (b ∷ t) at (beside x R)) (eqb b (get_or R (base_of s + n) 0)) _ _
        (λ k.
        let w = agrees_among t gives.Nothing 0 (n + 1) (at + 1) unrefused in
        record {
          over = b ∷ w.over;
          rest = w.rest;
          split = ap (λ u. b ∷ u) w.split;
          far = let y = w.far in omega arith;
          quiet = byte (f g z n b p (leb-false _ _ e) (eqb-true _ _ k)) refl w.quiet;
        })
        (λ k. stays (noted r g z n) R (b ∷ t) at))

-- of a reader with any number as its old refusal
abbrev Any : ℕ → Type 0
Any z = Unit {0}

module _ (r : Reader) (R : List ℕ) (mark : ℕ)
    (f : (g : Gives) (z b : ℕ) → marked marks_table b mark ≡ true → tick marks_table (noted r g z r.n) b R ≡ kept (still r) R) where
  pub skips_walk :
      (t : List ℕ) (g : Gives) (z at : ℕ) → Walks (noted r g z r.n) R t at (record { at = at + span marks_table mark t; n = r.n; room = R })
  skips_walk t g z at = skips_among Any tt r R mark (λ g z b p e. f g z b e) t g z at tt

module _ (r : Reader) (s : ℕ)
    (f : (g : Gives) (z n b : ℕ) (R : List ℕ) → marked marks_table b name_mark ≡ true → n < 64
    → tick marks_table (noted r g z n) b R ≡ kept (spell_on r r.mode r.row (n + 1)) (set R (base_of s + n) b)) where
  pub copies_walk : (t : List ℕ) (g : Gives) (z n at : ℕ) (R : List ℕ) → Walks (noted r g z n) R t at (copied marks_table R s n at t)
  copies_walk t g z n at R = copies_among Any tt r s (λ g z n b R p e l. f g z n b R e l) t g z n at R tt

module _ (r : Reader) (R : List ℕ) (s : ℕ)
    (f : (g : Gives) (z n b : ℕ) → n < length_in R s → b ≡ get_or R (base_of s + n) 0
    → tick marks_table (noted r g z n) b R ≡ kept (spell_on r r.mode r.row (n + 1)) R) where
  pub agrees_walk : (t : List ℕ) (g : Gives) (z n at : ℕ) → Walks (noted r g z n) R t at (beside (agreed R s n at t) R)
  agrees_walk t g z n at = agrees_among Any tt r R s (λ g z n b p l e. f g z n b l e) t g z n at tt

-- of a reader with a refusal of text, or none
record Told (z : ℕ) : Type 0 where
  fault : Option TextRefusal
  told : text_of fault ≡ z

abbrev fault_told : (x : Option TextRefusal) → Told (text_of x)
fault_told x = record { fault = x; told = refl }

module _ (r : Reader) (R : List ℕ) (mark : ℕ)
    (f : (g : Gives) (x : Option TextRefusal) (b : ℕ) → marked marks_table b mark ≡ true
    → tick marks_table (noted r g (text_of x) r.n) b R ≡ kept (still r) R) where
  pub skips_told :
      (t : List ℕ) (g : Gives) (x : Option TextRefusal) (at : ℕ)
      → Walks (noted r g (text_of x) r.n) R t at (record { at = at + span marks_table mark t; n = r.n; room = R })
  skips_told t g x at =
      skips_among Told (fault_told None) r R mark
      (λ g z b p e. subst (λ n. tick marks_table (noted r g n r.n) b R ≡ kept (still r) R) p.told (f g p.fault b e))
      t g (text_of x) at (fault_told x)

module _ (r : Reader) (s : ℕ)
    (f : (g : Gives) (x : Option TextRefusal) (n b : ℕ) (R : List ℕ) → marked marks_table b name_mark ≡ true → n < 64
    → tick marks_table (noted r g (text_of x) n) b R ≡ kept (spell_on r r.mode r.row (n + 1)) (set R (base_of s + n) b)) where
  pub copies_told :
      (t : List ℕ) (g : Gives) (x : Option TextRefusal) (n at : ℕ) (R : List ℕ)
      → Walks (noted r g (text_of x) n) R t at (copied marks_table R s n at t)
  copies_told t g x n at R =
      copies_among Told (fault_told None) r s
      (λ g z n b R p e l.
      subst (λ k. tick marks_table (noted r g k n) b R ≡ kept (spell_on r r.mode r.row (n + 1)) (set R (base_of s + n) b)) p.told (f g p.fault n b R e l))
      t g (text_of x) n at R (fault_told x)

module _ (r : Reader) (R : List ℕ) (s : ℕ)
    (f : (g : Gives) (x : Option TextRefusal) (n b : ℕ) → n < length_in R s → b ≡ get_or R (base_of s + n) 0
    → tick marks_table (noted r g (text_of x) n) b R ≡ kept (spell_on r r.mode r.row (n + 1)) R) where
  pub agrees_told :
      (t : List ℕ) (g : Gives) (x : Option TextRefusal) (n at : ℕ) → Walks (noted r g (text_of x) n) R t at (beside (agreed R s n at t) R)
  agrees_told t g x n at =
      agrees_among Told (fault_told None) r R s
      (λ g z n b p l e. subst (λ k. tick marks_table (noted r g k n) b R ≡ kept (spell_on r r.mode r.row (n + 1)) R) p.told (f g p.fault n b l e))
      t g (text_of x) n at (fault_told x)

no_mark : (b : ℕ) → marked marks_table b 0 ≡ false
unfolding every agrees same marks_table in_class low
no_mark b = mark_is [] 0 tt tt refl b

pub none_walk : (r : Reader) (R t : List ℕ) (at : ℕ) → Walks r R t at (record { at = at + span marks_table 0 t; n = r.n; room = R })
none_walk r R t at = skips_walk r R 0 (λ g z b e. never (sym (no_mark b) ∙ e)) t r.gives r.refusal at
