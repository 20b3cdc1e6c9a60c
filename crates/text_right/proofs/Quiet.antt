-- Bytes that give no events, one after the other.
--
--   Bytes t                  every number of t is a byte;  first_byte, later_bytes: the first is, and the others are
--   given_none               nothing given before
--   still r                  the reader where it stands, with nothing given and not refused;  fits_still: it fits its mode as before
--   Quiet r R u x S          the bytes u take the reader r and the room R to x and S, and none of them gives an event or is refused
--   quiet_run, quiet_sound   so does the machine;  what holds of a reader and its room that calls lead to goes on to hold
--
-- Assumes nothing.
use Rattle.std.specs.Prelude.{ℕ, suc, ◌<◌, ◌≡◌, refl, List, [], ◌∷◌, ◌++◌, length, get_or}
use Rattle.std.proofs.Common.{arith, ap, ◌∙◌, subst}
use Rattle.xml.specs.Machine.{goes, step, Result, stopped, stands, given, next, run}
use Rattle.xml.specs.Limited.{bounds}
use Rattle.modes.specs.declared.Mode.{Mode}
use Rattle.modes.specs.declared.Prolog.{Prolog}
use Rattle.modes.specs.declared.Reader.{Reader}
use Rattle.modes.specs.Moves.{spell_on}
use Rattle.tags.specs.Markup.{Ticked}
use Rattle.tick.specs.Tick.{tick}
use Rattle.text_right.specs.Marked.{marks_table}
use Rattle.text_right.specs.Stands.{state_of, evs_in}
use Rattle.text_right.specs.Sound.{FitsIn, Fits, Sound}
use Rattle.text_right.proofs.Right.{tick_goes, tick_sound}

pub record Bytes (t : List ℕ) : Type 0 where
  pub each : (i : ℕ) → i < length t → get_or t i 0 < 256

pub first_byte : {b : ℕ} {t : List ℕ} → Bytes (b ∷ t) → b < 256
first_byte f = f.each 0 (omega arith)

pub later_bytes : {b : ℕ} {t : List ℕ} → Bytes (b ∷ t) → Bytes t
later_bytes f = record { each = λ i h. f.each (suc i) (omega arith) }

abbrev pub still : Reader → Reader
still r = spell_on r r.mode r.row r.n

-- what is given and refused does not matter
fits_in_still : (r : Reader) {p : Prolog} → FitsIn r p → FitsIn (still r) p
fits_in_still r FitsIn.start = FitsIn.start
fits_in_still r (FitsIn.mark h) = FitsIn.mark h
fits_in_still r FitsIn.fresh = FitsIn.fresh
fits_in_still r (FitsIn.xml h) = FitsIn.xml h
fits_in_still r FitsIn.declared = FitsIn.declared
fits_in_still r (FitsIn.piece h) = FitsIn.piece h
fits_in_still r (FitsIn.part h k) = FitsIn.part h k
fits_in_still r (FitsIn.part_equals h k) = FitsIn.part_equals h k
fits_in_still r (FitsIn.part_value h k) = FitsIn.part_value h k
fits_in_still r (FitsIn.part_double h) = FitsIn.part_double h
fits_in_still r (FitsIn.part_single h) = FitsIn.part_single h
fits_in_still r (FitsIn.told h) = FitsIn.told h
fits_in_still r FitsIn.query = FitsIn.query

pub fits_still : (r : Reader) {R : List ℕ} {m : Mode} → Fits R r m → Fits R (still r) m
fits_still r (Fits.prolog' h k) = Fits.prolog' h (fits_in_still r k)
fits_still r (Fits.first h) = Fits.first h
fits_still r (Fits.around h) = Fits.around h
fits_still r (Fits.back h) = Fits.back h
fits_still r (Fits.bracket h) = Fits.bracket h
fits_still r (Fits.brackets h) = Fits.brackets h
fits_still r (Fits.markup h) = Fits.markup h
fits_still r (Fits.bang h k) = Fits.bang h k
fits_still r (Fits.dash h) = Fits.dash h
fits_still r (Fits.dashes h) = Fits.dashes h
fits_still r (Fits.amper h k) = Fits.amper h k
fits_still r (Fits.char h k i) = Fits.char h k i
fits_still r (Fits.tag h k i) = Fits.tag h k i
fits_still r (Fits.tagged h) = Fits.tagged h
fits_still r (Fits.gap h) = Fits.gap h
fits_still r (Fits.att h k i j) = Fits.att h k i j
fits_still r (Fits.equals h) = Fits.equals h
fits_still r (Fits.value h) = Fits.value h
fits_still r (Fits.slash h k) = Fits.slash h k
fits_still r (Fits.end h) = Fits.end h
fits_still r (Fits.ended h) = Fits.ended h

pub data Quiet : Reader → List ℕ → List ℕ → Reader → List ℕ → Type 0 where
  done : {r : Reader} {R : List ℕ} → Quiet r R [] (still r) R
  byte :
      {r x y : Reader} {R S T u : List ℕ} {b : ℕ}
      → tick marks_table r b R ≡ record { reader = x; room = S }
      → x ≡ still x
      → Quiet x S u y T
      → Quiet r R (b ∷ u) y T

pub given_none : (x : Result) → given [] x ≡ x
unfolding given
given_none (stopped es r t) = refl
given_none (stands es s) = refl

-- one byte
quiet_step :
    (r x : Reader) (R S : List ℕ) (b : ℕ) → Sound r R → b < 256
    → tick marks_table r b R ≡ record { reader = x; room = S }
    → x ≡ still x
    → step bounds (state_of r R) b ≡ goes [] (state_of x S)
unfolding evs_in
quiet_step r x R S b s l e q =
    tick_goes r R b s l (ap (λ (z : Ticked). z.reader.refusal) e ∙ ap (λ (z : Reader). z.refusal) q)
    ∙ ap (λ (z : Ticked). goes (evs_in z.room z.reader.place z.reader.gives) (state_of z.reader z.room)) e
    ∙ ap (λ g. goes (evs_in S x.place g) (state_of x S)) (ap (λ (z : Reader). z.gives) q)

step_sound :
    (r x : Reader) (R S : List ℕ) (b : ℕ) → Sound r R → b < 256
    → tick marks_table r b R ≡ record { reader = x; room = S }
    → x ≡ still x
    → Sound x S
step_sound r x R S b s l e q =
    subst (λ (z : Ticked). Sound z.reader z.room) e
    (tick_sound r R b s l (ap (λ (z : Ticked). z.reader.refusal) e ∙ ap (λ (z : Reader). z.refusal) q))

pub quiet_run :
    {r x : Reader} {R S u : List ℕ} (v : List ℕ) → Sound r R → Bytes u → Quiet r R u x S
    → run bounds (u ++ v) (state_of r R) ≡ run bounds v (state_of x S)
unfolding run next
quiet_run v s f done = refl
quiet_run v s f (byte {r = r} {x = x} {R = R} {S = S} {u = u} {b = b} e q h) =
    ap (λ o. next o (run bounds (u ++ v)) (b ∷ (u ++ v))) (quiet_step r x R S b s (first_byte f) e q)
    ∙ given_none _
    ∙ quiet_run v (step_sound r x R S b s (first_byte f) e q) (later_bytes f) h

pub quiet_sound : {r x : Reader} {R S u : List ℕ} → Sound r R → Bytes u → Quiet r R u x S → Sound x S
quiet_sound s f (done {r = r}) = record { kept = s.kept; fits = fits_still r s.fits }
quiet_sound s f (byte {r = r} {x = x} {R = R} {S = S} {b = b} e q h) = quiet_sound (step_sound r x R S b s (first_byte f) e q) (later_bytes f) h
