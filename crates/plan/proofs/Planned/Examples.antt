-- Plans of some queries, computed.
--
--   saying xs      the buckets of which the first say xs, and the others 0
--   rows           the table: a query's bytes, and the plan that is made of them
--   rows_right     each row's plan is the one made
--
-- Assumes nothing.
use Rattle.std.specs.Prelude.{ℕ, ◌-◌, ◌≡◌, refl, List, [], ◌∷◌, ◌++◌, map, length}
use Rattle.meaning.specs.Query.{all_step, hangs, goes_deep, main_if, main_path}
use Rattle.meaning.specs.Selection.{start}
use Rattle.sets.specs.Set.{mask_of}
use Rattle.sets.specs.Table.{table_of}
use Rattle.query.specs.Decode.{axis_meant, decode_step, decode_from}
use Rattle.query.proofs.Examples.{step, p1}
use Rattle.plan.specs.Order.{predicate_if, predicates, back_path, order, at, mask}
use Rattle.plan.specs.Plan.{plan}
use Rattle.plan.specs.Asked.{bucket_from}
use Rattle.plan.specs.Planned.{zeros, filled, bucket_count, columns, plan_of}
use Rattle.plan.specs.declared.Plan.{Plan}

pub record PlanRow : Type 0 where
  pub bytes : List ℕ
  pub made : Plan

-- what the first buckets say, the others 0
abbrev saying : List ℕ → List ℕ
saying xs = xs ++ zeros (bucket_count - length xs)

abbrev pub rows : List PlanRow
rows =
    -- P1: //section[author]//table[position]//cell. The places are cell, table, section, author, position
    record {
      bytes = p1;
      made =
          record {
            names = filled (5 ∷ 3 ∷ 1 ∷ 2 ∷ 4 ∷ []);
            hung = filled (0 ∷ 16 ∷ 8 ∷ 0 ∷ 0 ∷ []);
            size = 5;
            deep = 7;
            main = 7;
            plain = 25;
            first = 4;
            stars = 0;
            buckets = saying (0 ∷ 2 ∷ 3 ∷ 1 ∷ 4 ∷ []);
          };
    }
    -- P7: /child::r[child::*][child::d]/child::d. Two predicates hang on one step, one of them a star, and d is asked for twice
    ∷ record {
      bytes = step 1 1 0 1 ++ step 1 0 1 0 ++ step 1 0 1 2 ++ step 1 1 1 2;
      made =
          record {
            names = filled (2 ∷ 1 ∷ 0 ∷ 2 ∷ []);
            hung = filled (0 ∷ 12 ∷ 0 ∷ 0 ∷ []);
            size = 4;
            deep = 0;
            main = 3;
            plain = 13;
            first = 2;
            stars = 4;
            buckets = saying (0 ∷ 1 ∷ 32 ∷ []);
          };
    }
    -- a predicate on a predicate, and one descendant axis: /child::r[child::a[descendant::b]]
    ∷ record {
      bytes = step 1 1 0 1 ++ step 1 0 1 2 ++ step 2 0 2 3;
      made =
          record {
            names = filled (1 ∷ 2 ∷ 3 ∷ []);
            hung = filled (2 ∷ 4 ∷ 0 ∷ []);
            size = 3;
            deep = 4;
            main = 1;
            plain = 4;
            first = 1;
            stars = 0;
            buckets = saying (0 ∷ 0 ∷ 1 ∷ 2 ∷ []);
          };
    }
    -- a name of two bytes, and the bytes after the last whole step are passed over
    ∷ record {
      bytes = 2 ∷ 1 ∷ 0 ∷ 0 ∷ 1 ∷ 2 ∷ 0 ∷ 0 ∷ 1 ∷ 1 ∷ [];
      made =
          record {
            names = filled (258 ∷ []);
            hung = filled (0 ∷ []);
            size = 1;
            deep = 1;
            main = 1;
            plain = 1;
            first = 1;
            stars = 0;
            buckets = saying [];
          };
    }
    -- /child::1/child::66/child::65: the names 1 and 65 belong to one bucket
    ∷ record {
      bytes = step 1 1 0 1 ++ step 1 1 1 66 ++ step 1 1 2 65;
      made =
          record {
            names = filled (65 ∷ 66 ∷ 1 ∷ []);
            hung = filled (0 ∷ 0 ∷ 0 ∷ []);
            size = 3;
            deep = 0;
            main = 7;
            plain = 7;
            first = 4;
            stars = 0;
            buckets = saying (0 ∷ 32 ∷ 1 ∷ []);
          };
    }
    ∷ record {
      bytes = [];
      made =
          record {
            names = filled [];
            hung = filled [];
            size = 0;
            deep = 0;
            main = 0;
            plain = 0;
            first = 0;
            stars = 0;
            buckets = saying [];
          };
    }
    ∷ []

pub rows_right : map (λ (r : PlanRow). plan_of r.bytes) rows ≡ map (λ (r : PlanRow). r.made) rows
unfolding mask_of at all_step hangs goes_deep main_if main_path start axis_meant decode_step decode_from predicate_if predicates back_path order mask
    plan table_of bucket_from columns plan_of
rows_right = refl
