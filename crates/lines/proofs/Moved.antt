-- Bytes that move down in a text.
--
--   get_d_past      a run of stores leaves what lies behind it
--   put_moved      one byte more is moved down
--
-- Assumes nothing.
use Prim.Native.Nat.{ℕ, suc, ◌+◌, ◌≤◌, ◌<◌}
use native.Mathlib.Omega.{arith}
use mathlib.Core.Path.{◌≡◌, refl, sym, ap, ◌∙◌}
use mathlib.Core.List.{List, [], ◌∷◌}
use lib.ListN.{length, get_or, take, drop, set}
use lib.Seq.{sets, get_or-set_other, get_or-drop}
use Rattle.lines.specs.Put.{Put}
use Rattle.lines.proofs.Put.Laws.{put_more}

get_d_past : (l : List ℕ) (at : ℕ) (vs : List ℕ) (j : ℕ) → at + length vs ≤ j → get_or (sets l at vs) j 0 ≡ get_or l j 0
get_d_past l at [] j h = refl
get_d_past l at (v ∷ vs) j h =
    get_d_past (set l at v) (suc at) vs j (omega arith) ∙ get_or-set_other l at j v 0 (λ e. omega arith)

pub put_moved :
    {l l' : List ℕ} (from i : ℕ) → i < length (drop from l) → Put l 0 (take i (drop from l)) l' i →
    Put l 0 (take (i + 1) (drop from l)) (set l' i (get_or l' (from + i) 0)) (i + 1)
put_moved {l} {l'} from i h p =
    let read : get_or (drop from l) i 0 ≡ get_or l' (from + i) 0 =
    get_or-drop from l i 0
    ∙ sym (ap (λ x. get_or x (from + i) 0) p.text ∙ get_d_past l 0 (take i (drop from l)) (from + i) (omega (arith, p.end))) in
    rw read at (put_more (drop from l) i h p)
