-- What a node wants of the Ready of the level where it waits.
--
--   NeedOf S, Need     the node is the element of that level, or it needs the turn of one of these main-path steps
--   value q r n        n is met where r is whose turn it is
--   wanted q N s       some main-path step of N hangs on step s
--   up q M n           what n becomes around an element that meets M
--   needs q f          what each node of the closed row f needs of the Ready around it
--
-- Assumes nothing. The law of needs is in Need.Laws: a closed node's need is one set, fixed when it closes.
use Rattle.std.specs.Prelude.{ℕ, Bool, false, ◌&&◌, ◌||◌, List, [], ◌∷◌, ◌++◌, map, eqb}
use Rattle.meaning.specs.Query.{Query, Steps, any_step, goes_deep, last_main}
use Rattle.meaning.specs.Document.{Row, nil, el}
use Rattle.meaning.specs.Selection.{meets, met_row, Ready}

pub data NeedOf (S : Type 0) : Type 0 where
  itself : NeedOf S
  one_of : S → NeedOf S

abbrev pub Need : Type 0
Need = NeedOf Steps

unfoldable pub value : Query → Ready → Need → Bool
value q r itself = r.end
value q r (one_of N) = any_step q 1 (λ st i. st.main && (N st i && r.steps st i))

unfoldable pub wanted : Query → Steps → ℕ → Bool
wanted q N s = any_step q 1 (λ t j. (t.main && N t j) && eqb s t.parent)

-- a step is given to the element if the next step, or the listing, is needed in its content; a descendant step may be given further up
unfoldable pub up : Query → Steps → Need → Need
up q M itself = one_of (λ st i. eqb i (last_main q) && M st i)
up q M (one_of N) = one_of (λ st i. (wanted q N i && M st i) || (goes_deep st.axis && N st i))

unfoldable pub needs : Query → Row → List Need
needs q nil = []
needs q (el p x k) =
    needs q p ++ (up q (meets q false x (met_row q k)) itself ∷ map (up q (meets q false x (met_row q k))) (needs q k))
