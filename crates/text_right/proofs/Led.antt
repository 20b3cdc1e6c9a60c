-- A turn: where it takes the reader, and what stays in the room.
--
--   sound_deep           at most 256 elements are open
--   turn_placed          the reader is placed by what the turn gives
--   turn_below           nothing changes in the slots of the elements that are open;  turn_long: the room is as long as it was
--
-- Assumes nothing.
use Rattle.std.specs.Prelude.{ℕ, ◌≤◌, ◌≡◌, List, leb, get_or, drop}
use Rattle.std.proofs.Common.{arith, ap, ◌∙◌}
use Rattle.std.proofs.Math.Path.{refl}
use Rattle.std.proofs.Math.ListN.{length}
use Rattle.choice.specs.When.{when_known}
use Rattle.modes.specs.declared.Mode.{Mode}
use Rattle.modes.specs.declared.Reader.{Reader}
use Rattle.modes.specs.Moves.{open_at}
use Rattle.walk.specs.Walk.{walked}
use Rattle.walk.specs.Turn.{Turned, ticked_at, here_after, turned_from, turned}
use Rattle.text_right.specs.Marked.{marks_table}
use Rattle.text_right.specs.Sound.{Inner, Outer, Spot, Back, Fits, Sound}
use Rattle.text_right.proofs.Frames.{open_is}
use Rattle.text_right.proofs.Quiet.{Bytes}
use Rattle.text_right.proofs.Walked.{walk_sound}
use Rattle.text_right.proofs.Turned.{part}
use Rattle.text_right.proofs.Below.{Same, same_trans, tick_below, walked_below}
use Rattle.text_right.specs.Long.{tick_long}
use Rattle.text_right.proofs.Placed.{Placed, tick_placed, after_none}

low_deep : (p : ℕ) → p ≤ 256 → open_at p ≤ 256
low_deep p l = omega (arith, open_is p l)

inner_deep : {p : ℕ} → Inner p → open_at p ≤ 256
inner_deep {p} i = low_deep p i.high

spot_deep : {p : ℕ} → Spot p → open_at p ≤ 256
spot_deep {p} (Spot.outer (Outer.before e)) = low_deep p (omega arith)
spot_deep {p} (Spot.outer (Outer.after e)) = omega (arith, ap open_at e, after_none)
spot_deep (Spot.inner i) = inner_deep i

back_deep : {R : List ℕ} {p k : ℕ} {m : Mode} → Back R p k m → open_at p ≤ 256
back_deep (Back.data' h) = inner_deep h
back_deep (Back.note h) = spot_deep h
back_deep {p = p} (Back.double h) = let d = h.tag.deep in low_deep p (omega arith)
back_deep {p = p} (Back.single h) = let d = h.tag.deep in low_deep p (omega arith)

fits_deep : {R : List ℕ} {r : Reader} {m : Mode} → Fits R r m → open_at r.place ≤ 256
fits_deep {r = r} (Fits.prolog' h k) = low_deep r.place (omega arith)
fits_deep {r = r} (Fits.first h) = low_deep r.place (omega arith)
fits_deep (Fits.around h) = spot_deep (Spot.outer h)
fits_deep (Fits.back h) = back_deep h
fits_deep (Fits.bracket h) = inner_deep h
fits_deep (Fits.brackets h) = inner_deep h
fits_deep (Fits.markup h) = spot_deep h
fits_deep (Fits.bang h k) = spot_deep h
fits_deep (Fits.dash h) = spot_deep h
fits_deep (Fits.dashes h) = spot_deep h
fits_deep (Fits.amper h k) = back_deep h
fits_deep (Fits.char h k i) = back_deep h
fits_deep {r = r} (Fits.tag d k i) = low_deep r.place (omega arith)
fits_deep {r = r} (Fits.tagged h) = let d = h.deep in low_deep r.place (omega arith)
fits_deep {r = r} (Fits.gap h) = let d = h.deep in low_deep r.place (omega arith)
fits_deep {r = r} (Fits.att h k i j) = let d = h.deep in low_deep r.place (omega arith)
fits_deep {r = r} (Fits.equals h) = let d = h.tag.deep in low_deep r.place (omega arith)
fits_deep {r = r} (Fits.value h) = let d = h.tag.deep in low_deep r.place (omega arith)
fits_deep {r = r} (Fits.slash d k) = low_deep r.place (omega arith)
fits_deep (Fits.end h) = inner_deep h
fits_deep (Fits.ended h) = inner_deep h

pub sound_deep : {r : Reader} {R : List ℕ} → Sound r R → open_at r.place ≤ 256
sound_deep s = fits_deep s.fits

module _ (r : Reader) (R t : List ℕ) (at : ℕ) (s : Sound r R) (bytes : Bytes t) where
  -- after the loop
  ok : Sound (here_after r (walked marks_table r at (drop at t) R)) (walked marks_table r at (drop at t) R).room
  ok = walk_sound r R (drop at t) at s (part r R t at s bytes)

  pub turn_placed : Placed r (turned marks_table r t at R).reader
  unfolding turned turned_from ticked_at
  turn_placed =
      let w = walked marks_table r at (drop at t) R in
      when_known (λ (T : Turned). Placed r T.reader) (leb (length t) w.at) _ _ (λ e. Placed.still refl refl)
      (λ e. again (tick_placed marks_table (here_after r w) (get_or t w.at 0) w.room ok))
    where
      -- the loop has not moved the reader
      again : {x : Reader} → Placed (here_after r (walked marks_table r at (drop at t) R)) x → Placed r x
      again (Placed.still e f) = Placed.still e f
      again (Placed.remarked e z f) = Placed.remarked e z f
      again (Placed.deeper e z m f l) = Placed.deeper e z m f l
      again (Placed.higher e z f low high) = Placed.higher e z f low high
      again (Placed.empty e z f l) = Placed.empty e z f l

  pub turn_below : Same R (turned marks_table r t at R).room r.place
  unfolding turned turned_from ticked_at
  turn_below =
      let w = walked marks_table r at (drop at t) R in
      let over = walked_below marks_table r at (drop at t) R s in
      when_known (λ (T : Turned). Same R T.room r.place) (leb (length t) w.at) _ _ (λ e. over)
      (λ e. same_trans over (tick_below marks_table (here_after r w) (get_or t w.at 0) w.room ok))

  pub turn_long : length (turned marks_table r t at R).room ≡ 18_496
  unfolding turned turned_from ticked_at
  turn_long =
      let w = walked marks_table r at (drop at t) R in
      when_known (λ (T : Turned). length T.room ≡ 18_496) (leb (length t) w.at) _ _ (λ e. ok.kept.long)
      (λ e. tick_long marks_table (here_after r w) (get_or t w.at 0) w.room ∙ ok.kept.long)
