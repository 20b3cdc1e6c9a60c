-- A read into the rest of a buffer, over what its calls answered.
--
--   read_part      the rest of l from at on has become ys, and r counts its bytes
--
-- Assumes nothing.
use Rattle.std.specs.Prelude.{ℕ, ◌-◌, ◌≤◌, ◌≡◌, List, length, take, drop}
use Rattle.std.proofs.Common.{arith, length-take, length-drop}
use borrow.Rule.Slice.PartMut.{put_mid, same_len_mid, take_put}
use Rattle.system.specs.declared.File.{File}
use Rattle.system.specs.Marks.{ReadGave, ReadOver, ReadAt}

pub read_part :
    (file : File) (at : ℕ) (l ys : List ℕ) (r : ℕ) → at ≤ length l → length ys ≡ length (take (length l - at) (drop at l)) →
    r ≤ length (take (length (put_mid at (length l - at) l ys) - at) (drop at (put_mid at (length l - at) l ys))) →
    ReadGave file (take r (drop at (put_mid at (length l - at) l ys))) → ReadOver file → ReadAt file at l (put_mid at (length l - at) l ys) r
read_part file at l ys r h e k g o =
    let l' : List ℕ = put_mid at (length l - at) l ys in
    let long : length l' ≡ length l = same_len_mid at (length l - at) l ys e in
    record {
      given = g;
      over = λ z room. o;
      within = omega (arith, h, k, long, length-take (length l' - at) (drop at l'), length-drop at l');
      long = long;
      kept = take_put at (length l - at) l ys h;
    }
