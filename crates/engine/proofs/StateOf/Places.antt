-- How the prescribed places change with an event, and that they stand as the marks say.
--
--   places_open        an open adds one place, at the new level
--   places_close       a close moves the places of the innermost level up
--   length_places      there is a place for each node
--   stands_marks       in either reading, a node is selected exactly if its need is met at its level
--
-- Assumes nothing.
use Prim.Native.Nat.{ℕ, zero, suc, pred, ◌+◌}
use Rattle.std.specs.Prelude.{◌≡◌, refl, Bool, true, false, List, [], ◌∷◌, ◌++◌, map, length}
use Rattle.std.proofs.Common.{sym, ap, ap₂, ◌∙◌, append_assoc, length-append}
use Rattle.std.proofs.Math.Path.{fun_ext}
use Rattle.std.proofs.lemmas.Simd.{map-map}
use Rattle.std.proofs.lemmas.List.{map-append, length-map}
use Rattle.meaning.specs.Query.{Query, Steps}
use Rattle.meaning.specs.Document.{Node, Row, nil, el, Doc, done, within, opened, closed, depth, count_row, count}
use Rattle.meaning.specs.Selection.{Reading, sure-reading, named, meets, met_row, met, Ready, turn, marks_row, marks}
use Rattle.meaning.proofs.Selection.Laws.{meets_in}
use Rattle.engine.specs.Need.{Need, itself, value, up, needs}
use Rattle.engine.proofs.Need.Laws.{marks_needs}
use Rattle.engine.specs.Engine.{Place, is_level, stands, exact, move_if, move}
use Rattle.engine.specs.StateOf.{ops, frames_of, here, deeper, places}
use Rattle.engine.proofs.StateOf.Frames.{readies}

-- an open

pub places_open :
    (q : Query) (y : Node) (d : Doc) → places q (opened y d) ≡ places q d ++ (record { level = suc (depth d); need = itself } ∷ [])
unfolding places opened depth needs
places_open q y (done f) = refl
places_open q y (within p x d) =
    ap (λ r. map here (needs q p) ++ (deeper (here itself) ∷ r)) (ap (map deeper) (places_open q y d) ∙ map-append deeper (places q d) _)
    ∙ sym (append_assoc (map here (needs q p)) (deeper (here itself) ∷ map deeper (places q d)) _)

-- a close

move_here : (q : Query) (l : ℕ) (M : Steps) (n : Need) → here n ≡ move (ops q) l M (here n)
unfolding move is_level move_if
move_here q l M n = refl

move_deeper : (q : Query) (l : ℕ) (M : Steps) (x : Place Need) → deeper (move (ops q) l M x) ≡ move (ops q) (suc l) M (deeper x)
unfolding move is_level move_if
move_deeper q l M x = go (is_level x.level (suc l))
  where
    go : (b : Bool) → deeper (move_if (ops q) b l M x) ≡ move_if (ops q) b (suc l) M (deeper x)
    go true = refl
    go false = refl

move_up : (q : Query) (M : Steps) (n : Need) → here (up q M n) ≡ move (ops q) zero M (deeper (here n))
unfolding move is_level move_if
move_up q M n = refl

map_here : (q : Query) (l : ℕ) (M : Steps) (ns : List Need) → map here ns ≡ map (move (ops q) l M) (map here ns)
map_here q l M ns = ap (λ h. map h ns) (fun_ext (move_here q l M)) ∙ sym (map-map (move (ops q) l M) here ns)

map_deeper :
    (q : Query) (l : ℕ) (M : Steps) (xs : List (Place Need)) →
    map deeper (map (move (ops q) l M) xs) ≡ map (move (ops q) (suc l) M) (map deeper xs)
map_deeper q l M xs =
    map-map deeper (move (ops q) l M) xs
    ∙ ap (λ h. map h xs) (fun_ext (move_deeper q l M))
    ∙ sym (map-map (move (ops q) (suc l) M) deeper xs)

map_up :
    (q : Query) (M : Steps) (ns : List Need) → map here (map (up q M) ns) ≡ map (move (ops q) zero M) (map deeper (map here ns))
map_up q M ns =
    map-map here (up q M) ns
    ∙ ap (λ h. map h ns) (fun_ext (move_up q M))
    ∙ sym (ap (map (move (ops q) zero M)) (map-map deeper here ns) ∙ map-map (move (ops q) zero M) (λ n. deeper (here n)) ns)

close_spine :
    (q : Query) (p : Row) (x : Node) (d : Doc) (rs rp : Ready) →
    places q (closed (within p x d)) ≡ map (move (ops q) (depth d) (exact (ops q) (frames_of q (within p x d) rs rp))) (places q (within p x d))
unfolding places closed frames_of needs exact depth met
close_spine q p x (done k) rs rp =
    map-append here (needs q p) _
    ∙ ap₂ ◌++◌ (map_here q zero M (needs q p)) (ap₂ ◌∷◌ (move_up q M itself) (map_up q M (needs q k)))
    ∙ sym (map-append (move (ops q) zero M) (map here (needs q p)) _)
  where
    M : Steps
    M = meets q false x (met_row q k)
close_spine q p x (within p' x' d) rs rp =
    ap₂ ◌++◌ (map_here q (suc (depth d)) M (needs q p))
    (ap₂ ◌∷◌ (ap deeper (move_here q (depth d) M itself) ∙ move_deeper q (depth d) M (here itself))
    (ap (map deeper) (close_spine q p' x' d rs' rp') ∙ map_deeper q (depth d) M (places q (within p' x' d))))
    ∙ sym (map-append (move (ops q) (suc (depth d)) M) (map here (needs q p)) _)
  where
    rs' : Ready
    rs' = turn q (meets q false x (met q sure-reading (within p' x' d))) rs

    rp' : Ready
    rp' = turn q (named x) rp

    M : Steps
    M = exact (ops q) (frames_of q (within p' x' d) rs' rp')

pub places_close :
    (q : Query) (d : Doc) (rs rp : Ready) →
    places q (closed d) ≡ map (move (ops q) (pred (depth d)) (exact (ops q) (frames_of q d rs rp))) (places q d)
unfolding depth
places_close q (done f) rs rp = unfold places closed in map_here q zero _ (needs q f)
places_close q (within p x d) rs rp = close_spine q p x d rs rp

-- how many

length_needs : (q : Query) (f : Row) → length (needs q f) ≡ count_row f
unfolding needs count_row
length_needs q nil = refl
length_needs q (el p x k) =
    length-append (needs q p) _ ∙ ap₂ ◌+◌ (length_needs q p) (ap suc (length-map (needs q k) _ ∙ length_needs q k))

length_here : (q : Query) (f : Row) → length (map here (needs q f)) ≡ count_row f
length_here q f = length-map (needs q f) here ∙ length_needs q f

pub length_places : (q : Query) (d : Doc) → length (places q d) ≡ count d
unfolding places count
length_places q (done f) = length_here q f
length_places q (within p x d) =
    length-append (map here (needs q p)) _ ∙ ap₂ ◌+◌ (length_here q p) (ap suc (length-map (places q d) deeper ∙ length_places q d))

-- the marks

stands_here :
    (q : Query) (r : Ready) (rs : List Ready) (f : Row) → map (stands (ops q) (r ∷ rs)) (map here (needs q f)) ≡ marks_row q f r
unfolding stands
stands_here q r rs f = map-map (stands (ops q) (r ∷ rs)) here (needs q f) ∙ sym (marks_needs q f r)

stands_deeper :
    (q : Query) (r : Ready) (rs : List Ready) (xs : List (Place Need)) →
    map (stands (ops q) (r ∷ rs)) (map deeper xs) ≡ map (stands (ops q) rs) xs
unfolding stands
stands_deeper q r rs xs = map-map (stands (ops q) (r ∷ rs)) deeper xs

stands_itself : (q : Query) (v : Reading) (d : Doc) (r : Ready) → stands (ops q) (readies q v d r) (here itself) ≡ r.end
unfolding stands readies value
stands_itself q v (done f) r = refl
stands_itself q v (within p x d) r = refl

pub stands_marks : (q : Query) (v : Reading) (d : Doc) (r : Ready) → map (stands (ops q) (readies q v d r)) (places q d) ≡ marks q v d r
unfolding places marks readies
stands_marks q v (done f) r = stands_here q r [] f
stands_marks q v (within p x d) r =
    map-append (stands (ops q) (r ∷ rs)) (map here (needs q p)) _
    ∙ ap₂ ◌++◌ (stands_here q r rs p)
    (ap₂ ◌∷◌ (unfold stands in stands_itself q v d r') (stands_deeper q r rs (places q d) ∙ stands_marks q v d r'))
  where
    r' : Ready
    r' = turn q (meets_in q v x d) r

    rs : List Ready
    rs = readies q v d r'
