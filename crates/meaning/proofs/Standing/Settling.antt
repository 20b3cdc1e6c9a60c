-- How many nodes are listed, held and ruled out as standings settle and new nodes come after them.
--
--   ruled_grows       as many are ruled out, or more
--   held_shrinks      with no new node, as many are held, or fewer
--   listed_most       newly listed are at most the nodes held before and the new ones
--
-- Assumes nothing. Settling is in Standing.Laws, and that an event settles standings in Demands.
use Rattle.std.specs.Prelude.{ℕ, suc, ◌+◌, ◌≤◌, ◌≡◌, List, ◌∷◌, length}
use Rattle.std.proofs.Common.{arith, ap, ◌∙◌, length-append}
use Rattle.meaning.specs.Standing.{Standing, certain, undecided, ruled_out, listed_from, held_from, ruled_from}
use Rattle.meaning.proofs.Standing.Laws.{Settling, t_nil, t_cons, stays_certain, stays_out, may_settle, listed_grows, standings_add_up}

ruled_more : (i : ℕ) (t : Standing) (ts : List Standing) → length (ruled_from (suc i) ts) ≤ length (ruled_from i (t ∷ ts))
unfolding ruled_from
ruled_more i certain ts = omega arith
ruled_more i undecided ts = omega arith
ruled_more i ruled_out ts = omega arith

pub ruled_grows : {ss ts : List Standing} (i : ℕ) → Settling ss ts → length (ruled_from i ss) ≤ length (ruled_from i ts)
unfolding ruled_from
ruled_grows i t_nil = omega arith
ruled_grows i (t_cons stays_certain x) = ruled_grows (suc i) x
ruled_grows i (t_cons {ss} {ts} stays_out x) = let h : length (ruled_from (suc i) ss) ≤ length (ruled_from (suc i) ts) = ruled_grows (suc i) x in omega arith
ruled_grows i (t_cons {t} {ss} {ts} may_settle x) =
    let h : length (ruled_from (suc i) ss) ≤ length (ruled_from (suc i) ts) = ruled_grows (suc i) x in omega (arith, ruled_more i t ts)

listed_more : {ss ts : List Standing} (i : ℕ) → Settling ss ts → length (listed_from i ss) ≤ length (listed_from i ts)
listed_more {ss} {ts} i x =
    let m = listed_grows i x in
    let e : length (listed_from i ts) ≡ length (listed_from i ss) + length m.0 = ap length m.1 ∙ length-append (listed_from i ss) m.0 in
    omega arith

module _ (i : ℕ) {ss ts : List Standing} (x : Settling ss ts) where
  pub held_shrinks : length ss ≡ length ts → length (held_from i ts) ≤ length (held_from i ss)
  held_shrinks e = omega (arith, standings_add_up i ss, standings_add_up i ts, listed_more i x, ruled_grows i x)

  pub listed_most : length (listed_from i ts) + length ss ≤ length (listed_from i ss) + length (held_from i ss) + length ts
  listed_most = omega (arith, standings_add_up i ss, standings_add_up i ts, ruled_grows i x)
