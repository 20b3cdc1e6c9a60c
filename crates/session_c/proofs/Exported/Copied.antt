-- That an event on the session's bytes is one on the session in them (Offered), by parts as they are cut and copied.
--
--   takes_parts                     what `offer` gives on the bytes is what is owed of the session's event: what is kept was copied over other bytes, and
--                                   the rest is given back in its place
--
-- What is large is given explicitly. Assumes nothing.
use Rattle.std.specs.Prelude.{ℕ, ◌-◌, length, drop}
use Rattle.std.proofs.Math.Path.{◌≡◌}
use Rattle.std.proofs.Common.{ap₂, ◌∙◌}
use mathlib.Core.List.{List, ◌++◌}
use Rattle.std.proofs.Math.ListN.{take}
use Rattle.words.specs.Words.{Bytes}
use Rattle.numbers.specs.Numbers.{numbers_room, numbers_in}
use Rattle.plan_bytes.specs.Kept.{kept_in}
use Rattle.feed.specs.Steps.{seat, came}
use Rattle.offer.specs.Offer.{offered}
use Rattle.session_c.specs.Laid.{session_room}
use Rattle.session_c.proofs.Laid.Laws.{back_all, back_bytes}
use Rattle.session_c.proofs.Laid.Copied.{rest_all, kept_all}
use Rattle.session_c.specs.Exported.{ExportTakes}
use Rattle.session_c.specs.Exported.Offered.{event_number}
use Rattle.session_c.proofs.Exported.Offered.{takes_bytes}

module _ (S bytes E N out : List ℕ) (long : length S ≡ session_room) (bytes-S : Bytes S) where
  -- by the parts of the session's bytes: what is kept was copied over the bytes k
  pub takes_parts :
      (k kept : List ℕ) (i refusal listed number : ℕ) (nums E' N' out' : List ℕ) → length k ≡ 288 → i ≡ 288 →
      kept ≡ take i (take 288 S) ++ drop i k → length nums ≡ numbers_room →
      Bytes (take 288 S ++ (nums ++ drop (length S - 288) (drop 288 S))) →
      came refusal listed (seat (numbers_in nums) E' N') out'
      ≡ offered (kept_in kept) (seat (numbers_in (take (length S - 288) (drop 288 S))) E N) bytes out →
      number ≡ event_number refusal listed →
      ExportTakes S bytes E N out number (take 288 S ++ (nums ++ drop (length S - 288) (drop 288 S))) E' N' out'
  takes_parts k kept i refusal listed number nums E' N' out' long-k is ek long-n bytes-b given er =
      ap₂ (λ (x : ℕ) (X : List ℕ). record { number = x; session = X; elements = E'; nodes = N'; out = out' }) er (back_all S long nums)
      ∙ takes_bytes S bytes E N out long bytes-S refusal listed nums E' N' out' long-n (back_bytes S long nums bytes-b)
      (given ∙ ap₂ (λ (x y : List ℕ). offered (kept_in x) (seat (numbers_in y) E N) bytes out) (kept_all S long k kept i long-k is ek) (rest_all S long))
