-- The quick engine run on some of document 01's cases, by computation.
--
--   planned q, acts P e s      the plan of q and the event e, with all that they compute by
--   runs P es s        what each event of es hands out;  reached P es s: the state after es
--   Case, cases        a query, events, and what each of them hands out: P1, P3, P5, P6, P8, and R1 with three d
--   table              every case runs so
--   one_too_many       R2, with room for two: only the third d is one too many
--
-- Assumes nothing. These are runs; that the engine is right on every stream is Quick.Theorem.
use Rattle.std.specs.Prelude.{ℕ, ◌≡◌, refl, Bool, true, false, ◌&&◌, List, [], ◌∷◌, ◌++◌, T, replicate}
use Rattle.meaning.specs.Name.{passes}
use Rattle.meaning.specs.Query.{Query, all_step, hangs, goes_deep, main_if, main_path}
use Rattle.meaning.specs.Selection.{start}
use Rattle.meaning.specs.Stream.{Event, opens, closes}
use Rattle.cases.specs.Case.{main_child, main_descendant, has_child, has_descendant, same_nodes}
use Rattle.sets.specs.Set.{member, without, covers, overlaps, mask_of}
use Rattle.engine.specs.Engine.{keep_if, keep}
use Rattle.plan.specs.Order.{predicate_if, predicates, back_path, order, at, mask}
use Rattle.plan.specs.Plan as Plan
use Rattle.engine.specs.Quick as Quick
use Rattle.engine.specs.Quick.{State, Result, begun, quick_open, quick_close, quick_act}

planned : Query → Plan.Plan
unfolding passes all_step hangs goes_deep main_if main_path start mask_of predicate_if predicates back_path order at mask Plan.plan
planned q = Plan.plan q

acts : Plan.Plan → Event → State → Result
unfolding member without covers overlaps keep_if keep Plan.named Plan.meets Plan.lift Plan.turn Plan.last_given Plan.up_if Plan.up quick_act
    quick_open Quick.opening Quick.opening_from Quick.judged Quick.frames_after Quick.fresh Quick.refresh Quick.refreshed Quick.rise Quick.rise_at
    Quick.rise_if Quick.raised Quick.over Quick.newcomer Quick.queue_after Quick.out_after Quick.opens Quick.went_if Quick.counted Quick.counted_if
    Quick.certain Quick.certain_if Quick.met_at Quick.sure_at Quick.possible_at quick_close Quick.closing Quick.closing_at Quick.closing_from Quick.stay
    Quick.moved Quick.cut Quick.cut_if Quick.closes
acts P e s = quick_act P e s

runs : Plan.Plan → List Event → State → List (List ℕ)
runs P [] s = []
runs P (e ∷ es) s = (acts P e s).out ∷ runs P es (acts P e s).state

reached : Plan.Plan → List Event → State → State
reached P [] s = s
reached P (e ∷ es) s = reached P es (acts P e s).state

record Case : Type 0 where
  query : Query
  events : List Event
  hands : List (List ℕ)

-- k events that hand out nothing
quiet : ℕ → List (List ℕ)
quiet k = replicate k []

-- names: a 1, b 2, c 3, d 4, r 5; book 6, section 7, table 8, cell 9, position 10, author 11
p1 : Case
p1 =
    record {
      query = main_descendant 0 7 ∷ has_child 1 11 ∷ main_descendant 1 8 ∷ has_child 3 10 ∷ main_descendant 3 9 ∷ [];
      events =
          opens 6 ∷ opens 7 ∷ opens 7 ∷ opens 7 ∷ opens 8 ∷ opens 8 ∷ opens 8 ∷ opens 9 ∷ closes 9 ∷ closes 8 ∷ closes 8 ∷ opens 10 ∷
          closes 10 ∷ closes 8 ∷ closes 7 ∷ closes 7 ∷ opens 11 ∷ closes 11 ∷ closes 7 ∷ closes 6 ∷ [];
      hands = quiet 16 ++ ((8 ∷ []) ∷ quiet 3);
    }

p3 : Case
p3 =
    record {
      query = main_descendant 0 1 ∷ main_descendant 1 1 ∷ [];
      events = opens 1 ∷ opens 1 ∷ opens 1 ∷ closes 1 ∷ closes 1 ∷ closes 1 ∷ [];
      hands = [] ∷ (2 ∷ []) ∷ (3 ∷ []) ∷ quiet 3;
    }

p5 : Case
p5 =
    record {
      query = main_descendant 0 4 ∷ has_child 1 3 ∷ [];
      events = opens 5 ∷ opens 4 ∷ opens 4 ∷ opens 3 ∷ closes 3 ∷ closes 4 ∷ closes 4 ∷ closes 5 ∷ [];
      hands = quiet 6 ++ ((3 ∷ []) ∷ quiet 1);
    }

p6 : Case
p6 =
    record {
      query = main_descendant 0 4 ∷ has_child 1 3 ∷ [];
      events = opens 5 ∷ opens 4 ∷ opens 4 ∷ opens 3 ∷ closes 3 ∷ closes 4 ∷ opens 3 ∷ closes 3 ∷ closes 4 ∷ closes 5 ∷ [];
      hands = quiet 6 ++ ((2 ∷ 3 ∷ []) ∷ quiet 3);
    }

p8 : Case
p8 =
    record {
      query = main_child 0 1 ∷ has_descendant 1 2 ∷ has_child 1 3 ∷ main_child 1 4 ∷ [];
      events =
          opens 1 ∷ opens 1 ∷ opens 3 ∷ closes 3 ∷ closes 1 ∷ opens 3 ∷ closes 3 ∷ opens 4 ∷ closes 4 ∷ closes 1 ∷ [];
      hands = quiet 10;
    }

-- r with three empty d: none is decided before a c comes
three : List Event
three = opens 5 ∷ opens 4 ∷ closes 4 ∷ opens 4 ∷ closes 4 ∷ opens 4 ∷ closes 4 ∷ []

r1 : Case
unfolding three
r1 =
    record {
      query = main_child 0 0 ∷ has_child 1 3 ∷ main_child 1 0 ∷ [];
      events = three ++ (opens 3 ∷ closes 3 ∷ closes 5 ∷ []);
      hands = quiet 7 ++ ((2 ∷ 3 ∷ 4 ∷ 5 ∷ []) ∷ quiet 2);
    }

cases : List Case
cases = p1 ∷ p3 ∷ p5 ∷ p6 ∷ p8 ∷ r1 ∷ []

same_all : List (List ℕ) → List (List ℕ) → Bool
same_all [] [] = true
same_all [] (y ∷ ys) = false
same_all (x ∷ xs) [] = false
same_all (x ∷ xs) (y ∷ ys) = same_nodes x y && same_all xs ys

run_right : List Case → Bool
run_right [] = true
run_right (c ∷ cs) = same_all (runs (planned c.query) c.events begun) c.hands && run_right cs

table : T (run_right cases)
unfolding run_right cases p1 p3 p5 p6 p8 r1 three same_nodes same_all quiet runs begun planned acts
table = tt

-- the opening of a d after the events es, with room for two
over_at : List Event → Bool
over_at es = Quick.over 2 (reached P es begun) (Quick.opening P 4 (reached P es begun))
  where
    P : Plan.Plan
    P = planned r1.query

one_too_many :
    over_at (opens 5 ∷ []) ∷ over_at (opens 5 ∷ opens 4 ∷ closes 4 ∷ [])
    ∷ over_at (opens 5 ∷ opens 4 ∷ closes 4 ∷ opens 4 ∷ closes 4 ∷ []) ∷ []
    ≡ false ∷ false ∷ true ∷ []
unfolding over_at reached r1 three begun planned acts
one_too_many = refl
