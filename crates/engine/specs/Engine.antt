-- The engine, over any kind of sets of steps: it keeps the open elements and the waiting nodes, and no tree.
--
--   Ops S B R N        what the engine asks of sets S (none has no step), of what is below B (empty is nothing), of readys R, of needs N
--   Frame B R          an open element: its node, what is surely met in its content so far, and what its content is read with
--   Place N            where a node waits (0 is the document, l the l-th open element) and what it needs there
--   Waiting N          a waiting node's number and place
--   State B R N        the open elements, outermost first; the waiting nodes, in document order; how many nodes have been opened
--   Result B R N       the next state and the nodes handed out
--   keep p xs          those of xs that pass p
--   front c xs, past c xs     the longest beginning of xs that passes c, and what comes after it
--   rise O y fs        what the opening of y inside the frames fs adds to what is met at the level above them
--   grow O y rs rp fs  the frames fs, under the readys rs and rp, after the opening of y
--   stands O rs x      the need of the place x is met, the levels being read with rs
--   certain O fs w, alive O fs w     w is selected in the sure reading, in the open reading
--   settle O fs ws n   the frames fs judge the nodes ws: the ruled out leave, the certain ones at the front are handed out
--   open_model O y s    the opening of y;  close_model O s: the closing of the innermost open element
--   exact O fs         what the innermost open element meets: at its close that is final
--   move O l M x       the place x after the close of an element at level l + 1 that meets M
--
-- What an element meets is an S, what is met in its content a B: an engine may keep less of the second, as much as meets can see.
-- Assumes nothing. NOT here: the meaning's sets (StateOf), masks (Plan), what a close or an open need not look at (Quick).
use Rattle.std.specs.Prelude.{ℕ, zero, suc, pred, Bool, true, false, length, get_or}
use mathlib.Core.List.{List, [], ◌∷◌, ◌++◌, map, drop_last}
use Rattle.meaning.specs.Document.{Node}

pub record Ops (S B R N : Type 0) : Type 0 where
  pub none : S
  pub empty : B
  pub join : B → B → B
  pub lift : S → B → B
  pub named : Node → S
  pub meets : Node → B → S
  pub turn : S → R → R
  pub start : R
  pub value : R → N → Bool
  pub up : S → N → N
  pub itself : N

pub record Frame (B R : Type 0) : Type 0 where
  pub node : Node
  pub below : B
  pub sure : R
  pub possible : R

pub record Place (N : Type 0) : Type 0 where
  pub level : ℕ
  pub need : N

pub record Waiting (N : Type 0) : Type 0 where
  pub number : ℕ
  pub place : Place N

pub record State (B R N : Type 0) : Type 0 where
  pub frames : List (Frame B R)
  pub queue : List (Waiting N)
  pub opened : ℕ

pub record Result (B R N : Type 0) : Type 0 where
  pub state : State B R N
  pub out : List ℕ

-- lists

unfoldable pub keep_if : {A : Type 0} → Bool → A → List A → List A
keep_if true x r = x ∷ r
keep_if false x r = r

unfoldable pub keep : {A : Type 0} → (A → Bool) → List A → List A
keep p [] = []
keep p (x ∷ xs) = keep_if (p x) x (keep p xs)

unfoldable pub front_if : {A : Type 0} → Bool → A → List A → List A
front_if true x r = x ∷ r
front_if false x r = []

unfoldable pub front : {A : Type 0} → (A → Bool) → List A → List A
front c [] = []
front c (x ∷ xs) = front_if (c x) x (front c xs)

unfoldable pub past_if : {A : Type 0} → Bool → List A → List A → List A
past_if true xs r = r
past_if false xs r = xs

unfoldable pub past : {A : Type 0} → (A → Bool) → List A → List A
past c [] = []
past c (x ∷ xs) = past_if (c x) (x ∷ xs) (past c xs)

-- a test that computes on successors
unfoldable pub is_level : ℕ → ℕ → Bool
is_level zero zero = true
is_level zero (suc m) = false
is_level (suc l) zero = false
is_level (suc l) (suc m) = is_level l m

module _ {S B R N : Type 0} (O : Ops S B R N) where
  unfoldable pub rise : Node → List (Frame B R) → B
  rise y [] = O.lift (O.meets y O.empty) O.empty
  rise y (f ∷ fs) = O.lift (O.meets f.node (O.join f.below (rise y fs))) (O.join f.below (rise y fs))

  -- an open element with K met in its content, under rs
  abbrev pub frame_of : Node → B → R → R → Frame B R
  frame_of x K rs r = record { node = x; below = K; sure = O.turn (O.meets x K) rs; possible = r }

  -- an open takes nothing from the open reading of the elements around it, and adds nothing to it
  unfoldable pub grow : Node → R → R → List (Frame B R) → List (Frame B R)
  grow y rs rp [] = frame_of y O.empty rs (O.turn (O.named y) rp) ∷ []
  grow y rs rp (f ∷ fs) =
      frame_of f.node (O.join f.below (rise y fs)) rs f.possible
      ∷ grow y (O.turn (O.meets f.node (O.join f.below (rise y fs))) rs) f.possible fs

  unfoldable pub sures : List (Frame B R) → List R
  sures fs = O.start ∷ map (λ f. f.sure) fs

  unfoldable pub possibles : List (Frame B R) → List R
  possibles fs = O.start ∷ map (λ f. f.possible) fs

  unfoldable pub stands : List R → Place N → Bool
  stands rs x = O.value (get_or rs x.level O.start) x.need

  unfoldable pub certain : List (Frame B R) → Waiting N → Bool
  certain fs w = stands (sures fs) w.place

  unfoldable pub alive : List (Frame B R) → Waiting N → Bool
  alive fs w = stands (possibles fs) w.place

  unfoldable pub settle : List (Frame B R) → List (Waiting N) → ℕ → Result B R N
  settle fs ws n =
      record {
        state = record { frames = fs; queue = past (certain fs) (keep (alive fs) ws); opened = n };
        out = map (λ w. w.number) (front (certain fs) (keep (alive fs) ws));
      }

  unfoldable pub newcomer : State B R N → Waiting N
  newcomer s = record { number = suc s.opened; place = record { level = suc (length s.frames); need = O.itself } }

  unfoldable pub open_model : Node → State B R N → Result B R N
  open_model y s = settle (grow y O.start O.start s.frames) (s.queue ++ (newcomer s ∷ [])) (suc s.opened)

  unfoldable pub exact : List (Frame B R) → S
  exact [] = O.none
  exact (f ∷ []) = O.meets f.node f.below
  exact (f ∷ (f' ∷ fs)) = exact (f' ∷ fs)

  unfoldable pub move_if : Bool → ℕ → S → Place N → Place N
  move_if true l M x = record { level = l; need = O.up M x.need }
  move_if false l M x = x

  unfoldable pub move : ℕ → S → Place N → Place N
  move l M x = move_if (is_level x.level (suc l)) l M x

  unfoldable pub move_waiting : ℕ → S → Waiting N → Waiting N
  move_waiting l M w = record { number = w.number; place = move l M w.place }

  unfoldable pub close_model : State B R N → Result B R N
  close_model s =
      settle (drop_last s.frames) (map (move_waiting (pred (length s.frames)) (exact s.frames)) s.queue) s.opened
