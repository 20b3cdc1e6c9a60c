-- The bucket of a spelling, turn by turn.
--
--   mixed_below       what is mixed is below mix_limit
--   bucket_below      a bucket is one of the 65,536;  buckets_is: that many there are
--   mix_goes_on       one turn;  mix_done: no turn is left
--   bucket_whole      at the end of the turns the bucket is made;  bucket_few: a word of under four bytes takes none
--
-- Assumes nothing.
use Prim.Native.Nat.{ℕ, suc, ◌+◌, ◌-◌, ◌/◌, ◌≤◌, ◌<◌}
use Rattle.std.proofs.Math.Nat.{sub-zero}
use native.Mathlib.Omega.{arith}
use Rattle.std.specs.Prelude.{◌≡◌, refl, List, length}
use Rattle.std.proofs.Common.{sym, ap₂, ◌∙◌}
use Rattle.std.proofs.Math.Path.{ap}
use Rattle.spelling.specs.Bucket.{four_at, mixed, mix_limit, mixed_from, buckets, settled, bucket_of}

pub mixed_below : (h x : ℕ) → mixed h x < mix_limit
unfolding mixed
mixed_below h x = omega arith

pub buckets_is : buckets ≡ 65536
unfolding buckets
buckets_is = refl

pub bucket_below : (w : List ℕ) → bucket_of w < buckets
unfolding bucket_of settled buckets
bucket_below w = omega arith

module _ (w : List ℕ) (n i h : ℕ) where
  pub mix_goes_on : i + 4 < n → mixed_from w ((n - 1 - i) / 4) i h ≡ mixed_from w ((n - 1 - (i + 4)) / 4) (i + 4) (mixed h (four_at w i))
  unfolding mixed_from
  mix_goes_on l = ap (λ k. mixed_from w k i h) (let e : (n - 1 - i) / 4 ≡ suc ((n - 1 - (i + 4)) / 4) = omega arith in e)

  pub mix_done : n ≤ i + 4 → mixed_from w ((n - 1 - i) / 4) i h ≡ h
  unfolding mixed_from
  mix_done l = ap (λ k. mixed_from w k i h) (let e : (n - 1 - i) / 4 ≡ 0 = omega arith in e)

-- the last four bytes mixed into the others give the bucket: x is their number, m what is mixed then, b what is made of it

pub bucket_whole :
    (w : List ℕ) (i h x m b : ℕ) → length w ≤ i + 4 →
    mixed_from w ((length w - 1 - i) / 4) i h ≡ mixed_from w ((length w - 1) / 4) 0 0 →
    x ≡ four_at w (length w - 4) → m ≡ mixed h x → b ≡ settled m → b ≡ bucket_of w
unfolding bucket_of
bucket_whole w i h x m b near all is_x is_m is_b =
    let whole : h ≡ mixed_from w ((length w - 1) / 4) 0 0 = sym (mix_done w (length w) i h near) ∙ all in
    is_b ∙ ap settled (is_m ∙ ap₂ mixed whole is_x)

pub bucket_few : (w : List ℕ) (x m b : ℕ) → length w < 4 → x ≡ four_at w 0 → m ≡ mixed 0 x → b ≡ settled m → b ≡ bucket_of w
bucket_few w x m b short is_x =
    let none : length w - 4 ≡ 0 = omega arith in
    bucket_whole w 0 0 x m b (omega arith) (ap (λ n. mixed_from w (n / 4) 0 0) (sub-zero (length w - 1))) (is_x ∙ rw none)
