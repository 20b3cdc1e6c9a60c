-- Four parts of the numbers, one after the other; the bytes are those of the numbers, since they are bytes. Assumes nothing.
use Rattle.std.proofs.Common.{rules, ℕ, List, [], ◌∷◌}
use Rattle.plan_bytes.specs.Kept.{slot, pair, four}
use Rattle.plan_bytes.specs.Kept.Laws.{lay_parts, rows_of_calls}
use Rattle.plan_bytes.proofs.lay.Goals as goal

pub returns : goal.returns
returns c =
    let plan = c.args.plan.now in
    let bytes = c.args.bytes.now in
    let first : List ℕ = c.size_of-size.result ∷ plan.deep ∷ plan.main ∷ plan.plain ∷ plan.first ∷ plan.stars ∷ [] in
    lay_parts plan bytes _ _ _ _ _ (search rules) (λ i. (c.type_inv.bytes i).fits) c.size_of-size.ensures
    (rows_of_calls (slot first) c.put_all.ensures (λ i v l e. search rules))
    (rows_of_calls (pair plan.names) c.put_all-2.ensures (λ i v l e. search rules))
    (rows_of_calls (four plan.buckets) c.put_all-3.ensures (λ i v l e. search rules))
    (rows_of_calls (slot plan.hung) c.put_all-4.ensures (λ i v l e. search rules))
