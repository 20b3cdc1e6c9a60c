-- `read_at` makes one read into the rest of `input` and leaves its marks; `read_part` says what the whole of `input` then is.
--
--   counted      as many bytes as came into the part of `input` are counted in the whole of it
--
-- Assumes nothing.
use Rattle.std.proofs.Common.{ℕ, ◌-◌, ◌≤◌, ◌≡◌, List, length, take, drop, arith, length-take, length-drop}
use borrow.Author.Rules.{rules}
use borrow.Rule.Slice.PartMut.{put_mid, same_len_mid}
use Rattle.system.specs.ReadPart.{read_part}
use Rattle.system.specs.Marks.Seal.{gave, over}
use Rattle.system.proofs.read_at.Goals as goal

counted :
    (at : ℕ) (l ys : List ℕ) (r : ℕ) → at ≤ length l → length ys ≡ length (take (length l - at) (drop at l)) → r ≤ length ys →
    r ≤ length (take (length (put_mid at (length l - at) l ys) - at) (drop at (put_mid at (length l - at) l ys)))
counted at l ys r h e k =
    let l' : List ℕ = put_mid at (length l - at) l ys in
    let long : length l' ≡ length l = same_len_mid at (length l - at) l ys e in
    omega
    (arith, h, k, e, long, length-take (length l' - at) (drop at l'), length-drop at l', length-take (length l - at) (drop at l), length-drop at l)

pub returns : goal.returns
returns c =
    let a = c.args in
    let ys = c.read_once.new.input in
    let e : length ys ≡ length (take (length a.input.now - a.at) (drop a.at a.input.now)) = search rules in
    read_part a.file.now a.at a.input.now ys _ (search rules) e (counted a.at a.input.now ys _ (search rules) e (search rules)) (gave _ _) (over _)
