-- The five entities, byte by byte.
--
--   spent rs              the first row is spelled out
--   entity_test            what is left of the entities after one byte more, as the code says it
--   settle_spent          rows that are spelled out lead on;  chosen_true, chosen_false: what holds of a choice
--   entity_passes         the test passes wherever the reader can stand
--   amper_right           after '&', and in an entity
--
-- Assumes nothing.
use Rattle.std.specs.Prelude.{ℕ, ◌+◌, ◌<◌, ◌≡◌, Bool, true, false, not, ◌&&◌, ◌||◌, T, eqb, ltb}
use Rattle.std.proofs.Common.{arith, sym, ◌∙◌, subst, leb→le, ne_eqb, eqb-true}
use Rattle.std.proofs.Math.Path.{refl, ap}
use mathlib.Core.List.{List, [], ◌∷◌}
use Rattle.std.proofs.lemmas.Bool.{lt-leb}
use Rattle.choice.specs.When.{when, when_true, when_false}
use Rattle.xml.specs.Class.{Rows, in_class, keep, derive, word, words}
use Rattle.xml.proofs.Class.Laws.{and_l, and_r}
use Rattle.xml.specs.Refused.{other_entity}
use Rattle.xml.specs.Grammar.{Ev, entities, same_name}
use Rattle.xml.specs.Machine.{State, goes, settle, pick, step}
use Rattle.xml.specs.Limited.{bounds}
use Rattle.chars.specs.Same.{same_bytes}
use Rattle.chars.specs.Entities.{no_entity, goes_on, entity_from, entity_row}
use Rattle.modes.specs.declared.Reader.{Reader}
use Rattle.content.specs.Text.{entity_tick, amper_tick}
use Rattle.text_right.specs.Stands.{derives, entity_left, back_state, amper_state, state_in, evs_in}
use Rattle.text_right.specs.Sound.{Kept, Back, entity_ok, EntityAt, Fits}
use Rattle.text_right.proofs.Matched.{Matches, lift, turn, both, by_test}
use Rattle.text_right.proofs.Forms.{same_class, same_row, same_rows, same_rows_lem, up_to, below, waits, settle_waits}
use Rattle.text_right.proofs.Content.{back_is}

unfoldable pub spent : Rows → Bool
spent [] = false
spent ([] ∷ rs) = true
spent ((c ∷ r) ∷ rs) = false

unfoldable pub entity_test : ℕ → ℕ → ℕ → Bool
entity_test row n b =
    when (eqb (entity_row row n b) no_entity) (same_rows (derive b (entity_left row n)) [])
    (when (eqb b 59) (spent (derive b (entity_left row n)))
    (same_rows (derive b (entity_left row n)) (entity_left (entity_row row n b) (n + 1))
    && (waits (derive b (entity_left row n)) && entity_ok (entity_row row n b) (n + 1))))

entities_pass : T (up_to 5 (λ row. up_to 5 (λ n. not (entity_ok row n) || up_to 256 (entity_test row n))))
unfolding up_to entity_test entity_ok spent waits same_rows same_row same_class derive keep in_class entity_left derives word words when
    entity_row entity_from goes_on same_bytes same_name
entities_pass = tt

or_other : (a b : Bool) → T a → T (not a || b) → T b
or_other true b t u = u
or_other false b t u = absurd t

row_below : (row n : ℕ) → T (entity_ok row n) → row < 5
unfolding entity_ok
row_below row n t = leb→le _ _ (and_l (ltb row 5) _ t)

few_below : (row n : ℕ) → T (entity_ok row n) → n < 5
unfolding entity_ok
few_below row n t = leb→le _ _ (and_l (ltb n 5) _ (and_r (ltb row 5) _ t))

-- what holds of a choice holds of what is chosen
pub chosen_true : (c a b : Bool) → c ≡ true → T (when c a b) → T a
chosen_true c a b e t = subst T (when_true c a b e) t

pub chosen_false : (c a b : Bool) → c ≡ false → T (when c a b) → T b
chosen_false c a b e t = subst T (when_false c a b e) t

pub settle_spent : (rs : Rows) (r : ℕ) (es : List Ev) (k : State) → T (spent rs) → settle rs r es k ≡ goes es k
unfolding spent
settle_spent [] r es k t = absurd t
settle_spent ([] ∷ rs) r es k t = refl
settle_spent ((c ∷ x) ∷ rs) r es k t = absurd t

module _ (row n b : ℕ) (ok : EntityAt row n) (l : b < 256) where
  pub entity_passes : T (entity_test row n b)
  entity_passes =
      below 256 (entity_test row n)
      (or_other (entity_ok row n) _ ok.holds
      (below 5 (λ m. not (entity_ok row m) || up_to 256 (entity_test row m))
      (below 5 (λ i. up_to 5 (λ m. not (entity_ok i m) || up_to 256 (entity_test i m))) entities_pass row (row_below row n ok.holds)) n
      (few_below row n ok.holds)))
      b l

none_left : (row : ℕ) → entities ≡ entity_left row 0
unfolding entity_left derives
none_left row = refl

module _ (r : Reader) (R : List ℕ) (b : ℕ) (kept : Kept R r.place) where
  entity_right :
      b < 256 → Back R r.place r.count r.back → EntityAt r.row r.n
      → Matches (settle (derive b (entity_left r.row r.n)) other_entity [] (back_state R r.place r.count r.back)) (entity_tick r b) R
  unfolding entity_tick entity_test state_in amper_state evs_in
  entity_right l h ok =
      let k = back_state R r.place r.count r.back in
      let x = entity_row r.row r.n b in
      let d = derive b (entity_left r.row r.n) in
      let t = entity_passes r.row r.n b ok l in
      let few = few_below r.row r.n ok.holds in
      let more = entity_left x (r.n + 1) in
      by_test (eqb x no_entity)
      (λ e. Matches.stops (omega arith) (ap (λ z. settle z other_entity [] k) (same_rows_lem d [] (chosen_true _ (same_rows d []) _ e t))))
      (λ e.
      let u = chosen_false (eqb x no_entity) (same_rows d []) (when (eqb b 59) (spent d) (same_rows d more && (waits d && entity_ok x (r.n + 1)))) e t in
      by_test (eqb b 59)
      (λ f.
      Matches.moves refl
      (settle_spent d other_entity [] k (chosen_true (eqb b 59) (spent d) _ f u) ∙ ap (goes []) (sym (back_is R r.back _ _ _ _ h)))
      (record { kept = kept; fits = Fits.back h }))
      (λ f.
      let v = chosen_false (eqb b 59) (spent d) (same_rows d more && (waits d && entity_ok x (r.n + 1))) f u in
      let w = and_r (same_rows d more) (waits d && entity_ok x (r.n + 1)) v in
      turn (when_false _ _ _ (lt-leb 5 r.n few))
      (Matches.moves refl
      (settle_waits d other_entity [] k (and_l (waits d) (entity_ok x (r.n + 1)) w)
      ∙ ap (λ z. goes [] (State.rows z other_entity [] k)) (same_rows_lem d more (and_l (same_rows d more) (waits d && entity_ok x (r.n + 1)) v))
      ∙ ap (goes []) (sym (when_false _ _ _ (ne_eqb (r.n + 1) 0 (λ z. omega arith)))))
      (record { kept = kept; fits = Fits.amper h (record { holds = and_r (waits d) (entity_ok x (r.n + 1)) w }) }))))

  pub amper_right :
      b < 256 → Back R r.place r.count r.back → EntityAt r.row r.n
      → Matches (step bounds (amper_state R r.back r.place r.count r.row r.n) b) (amper_tick r b) R
  unfolding amper_tick amper_state step pick
  amper_right l h ok =
      let k = back_state R r.place r.count r.back in
      by_test (eqb r.n 0)
      (λ e.
      lift (ap (λ s. step bounds s b) (when_true _ _ _ e))
      (both _ _ refl
      (λ f. Matches.stops (omega arith) refl)
      (λ f.
      lift (ap (λ z. settle (derive b z) other_entity [] k) (none_left r.row ∙ ap (entity_left r.row) (sym (eqb-true r.n 0 e))))
      (entity_right l h ok))))
      (λ e. lift (ap (λ s. step bounds s b) (when_false _ _ _ e)) (entity_right l h ok))
