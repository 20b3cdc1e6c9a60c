-- A feed, turn by turn, as the loop of the code finds it.
--
--   more_is                       when another byte is read, in numbers
--   going                         how far the loop has come
--   Left                          what is left to do is the whole of it
--   left_begin, left_on, left_done      at the start, after a turn, and at the end;  at_within, less: a turn stays inside the text, and goes on
--
-- Assumes nothing.
use Rattle.std.specs.Prelude.{ℕ, suc, ◌+◌, ◌-◌, ◌*◌, ◌≤◌, ◌<◌, ◌≡◌, refl, Bool, true, false, List, eqb, leb, length}
use Rattle.std.proofs.Common.{arith, sym, ◌∙◌, eqb-true, leb-true, leb-false, eq-eqb}
use Rattle.std.proofs.Math.Path.{ap, subst}
use mir.Val.{bool_byte}
use Rattle.choice.specs.When.{when, when_true, when_false, never}
use Rattle.chars.specs.Table.{marks_table}
use Rattle.modes.specs.declared.Reader.{Reader}
use Rattle.walk.specs.Turn.{Turned, turned}
use Rattle.walk.proofs.Within.{turned_within, turned_on}
use Rattle.emit.specs.Emit.{Emitted, emitted}
use Rattle.reader.specs.Fed.{more_to_read, Going, gone_on, advanced_by, advanced, goes_on, read_for, begun_with}

pub record More (r at end w out : ℕ) : Type 0 where
  pub unrefused : r ≡ 0
  pub there : at < end
  pub room : 16 ≤ out - w

pub more_is : (r at end w out : ℕ) → more_to_read r at end w out ≡ true → More r at end w out
unfolding more_to_read when
more_is r at end w out h = go (eqb r 0) (leb end at) (leb 16 (out - w)) refl refl refl h
  where
    go : (a b c : Bool) → eqb r 0 ≡ a → leb end at ≡ b → leb 16 (out - w) ≡ c → when a (when b false c) false ≡ true → More r at end w out
    go true false true e f g h = record { unrefused = eqb-true r 0 e; there = leb-false end at f; room = leb-true 16 (out - w) g }
    go true false false e f g h = never h
    go true true c e f g h = never h
    go false b c e f g h = never h

module _ (names x t : List ℕ) where
  -- what is left to do from g on is what there was to do from g₀ on
  pub record Left (g₀ g : Going) : Type 0 where
    pub turns : ℕ
    pub enough : g.reader.refusal ≡ 0 → length t ≤ g.at + turns
    pub same : read_for (suc (length t)) names x marks_table t g₀ ≡ read_for (suc turns) names x marks_table t g

  pub left_begin : (r : Reader) (R out : List ℕ) → Left (begun_with r R out) (begun_with r R out)
  left_begin r R out = record { turns = length t; enough = λ e. omega arith; same = refl }

  pub left_done : (g₀ g : Going) → Left g₀ g → goes_on t g ≡ false → read_for (suc (length t)) names x marks_table t g₀ ≡ g
  unfolding read_for
  left_done g₀ g l e = l.same ∙ when_false _ _ g e

  module _ (g₀ g : Going) (l : Left g₀ g) (e : goes_on t g ≡ true) (a : g.at ≤ length t) where
    more : More g.reader.refusal g.at (length t) g.written (length g.out)
    more = more_is _ _ _ _ _ e

    spare : (k : ℕ) → length t ≤ g.at + k → k ≡ suc (k - 1)
    spare k h = let there = more.there in omega arith

    left_advanced : Left g₀ (advanced names x marks_table t g)
    unfolding read_for advanced advanced_by
    left_advanced =
        let k = l.turns in
        record {
          turns = k - 1;
          enough = λ f.
              let on = turned_on marks_table g.reader t g.at g.room a more.there f in
              omega (arith, on, l.enough more.unrefused);
          same =
              l.same
              ∙ when_true _ _ g e
              ∙ ap (λ n. read_for n names x marks_table t (advanced names x marks_table t g)) (spare k (l.enough more.unrefused));
        }

    module _ (T : Turned) (p : T ≡ turned marks_table g.reader t g.at g.room) where
      pub at_within : T.at ≤ length t
      at_within = subst (λ z. z.at ≤ length t) (sym p) (turned_within marks_table g.reader t g.at g.room a).1

      -- a turn that is not refused goes on, and one that is refused is the last
      pub less : 2 * (length t - T.at) + bool_byte (eqb T.reader.refusal 0) < 2 * (length t - g.at) + bool_byte (eqb g.reader.refusal 0)
      less = go (eqb T.reader.refusal 0) refl
        where
          within : (g.at ≤ T.at) × (T.at ≤ length t)
          within = subst (λ z. (g.at ≤ z.at) × (z.at ≤ length t)) (sym p) (turned_within marks_table g.reader t g.at g.room a)

          before : bool_byte (eqb g.reader.refusal 0) ≡ 1
          before = ap bool_byte (eq-eqb _ 0 more.unrefused)

          go :
              (b : Bool) → eqb T.reader.refusal 0 ≡ b
              → 2 * (length t - T.at) + bool_byte b < 2 * (length t - g.at) + bool_byte (eqb g.reader.refusal 0)
          go true f =
              let on = turned_on marks_table g.reader t g.at g.room a more.there (subst (λ z. z.reader.refusal ≡ 0) p (eqb-true _ 0 f)) in
              let on' : g.at < T.at = subst (λ z. g.at < z.at) (sym p) on in
              omega (arith, before, within.1)
          go false f = omega (arith, before, within.0, within.1, more.there)

      pub left_on : (E : Emitted) → E ≡ emitted names x T.reader T.room g.out g.written → Left g₀ (gone_on T E)
      unfolding advanced advanced_by
      left_on E q =
          subst (Left g₀)
          (ap (advanced_by names x g) (sym p) ∙ ap (gone_on T) (sym q))
          left_advanced
