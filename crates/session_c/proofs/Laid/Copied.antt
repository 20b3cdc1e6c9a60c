-- The laws of a session in its bytes (Laws) by parts as they are cut and copied: what is kept of the query copied over other bytes, the rest given back in its
-- place, and two counts written by halves.
--
--   rest_all, kept_all   the rest as it is lent, and what is kept of the query, copied
--   read_parts           what is kept, copied, and the numbers in the rest are the session in the bytes
--   marked_parts         numbers after a refusal are the session's bytes after it, by the rest as it is given back
--   put_parts            what is kept, copied over the bytes, and then the numbers in the place of the rest are the bytes of the session
--   counts_put           two counts written by halves
--
-- Assumes nothing.
use Rattle.std.specs.Prelude.{ℕ, ◌-◌, ◌/◌, ◌%◌, ◌≤◌, ◌≡◌, refl, length, set, drop}
use Rattle.std.proofs.Common.{arith, ◌∙◌, length-drop, drop_of_length-le, length-take-le, take_all, take_at}
use Rattle.std.proofs.Math.Path.{sym, ap, ap₂}
use mathlib.Core.List.{List, [], ◌∷◌, ◌++◌, append-nil}
use mir.Val.{bool_byte}
use Rattle.std.proofs.Math.ListN.{take}
use Rattle.std.proofs.Math.Seq.{take-length}
use Rattle.words.specs.Words.{words, bytes_of, Bytes}
use Rattle.words.specs.Words.Laws.{words_length, bytes_words}
use Rattle.numbers.specs.Numbers.{numbers_room, numbers_in}
use Rattle.stop.specs.Stop.{marked_by}
use Rattle.plan_bytes.specs.Kept.{plan_room}
use Rattle.session.specs.declared.Session.{Session}
use Rattle.session.specs.Event.{session_of}
use Rattle.session_c.specs.Laid.{session_room, session_in, session_bytes, marked_bytes, counts_room, count_bytes}
use Rattle.session_c.proofs.Laid.Laws.{plan_room_lem, room_is, counts_room_lem, back_all, back_bytes, marked_laid}

module _ (S : List ℕ) (long : length S ≡ session_room) where
  pub rest_all : take (length S - 288) (drop 288 S) ≡ drop plan_room S
  rest_all = take_all (length S - 288) (drop 288 S) (omega (arith, length-drop 288 S)) ∙ ap (λ k. drop k S) (sym plan_room_lem)

  -- what is kept of the query, copied over the bytes k
  pub kept_all : (k kept : List ℕ) (n : ℕ) → length k ≡ 288 → n ≡ 288 → kept ≡ take n (take 288 S) ++ drop n k → kept ≡ take plan_room S
  kept_all k kept n lk ln e =
      let l : length (take 288 S) ≤ n = omega (arith, length-take-le 288 S (omega (arith, room_is))) in
      let over : length k ≤ n = omega arith in
      e ∙ ap₂ ◌++◌ (take_all n (take 288 S) l) (drop_of_length-le k over) ∙ append-nil (take 288 S) ∙ ap (λ i. take i S) (sym plan_room_lem)

  pub read_parts :
      (k kept : List ℕ) (n : ℕ) (s : Session) → kept ≡ take n (take 288 S) ++ drop n k →
      s ≡ session_of kept (numbers_in (take (length S - 288) (drop 288 S))) → length k ≡ 288 → n ≡ 288 → s ≡ session_in S
  unfolding session_in
  read_parts k kept n s ek es lk ln = es ∙ ap₂ (λ (x y : List ℕ). session_of x (numbers_in y)) (kept_all k kept n lk ln ek) rest_all

  module _ (bytes-S : Bytes S) where
    -- by the rest as it is given back
    pub marked_parts :
        (r : ℕ) (nums : List ℕ) → length nums ≡ numbers_room → Bytes (take 288 S ++ (nums ++ drop (length S - 288) (drop 288 S))) →
        numbers_in nums ≡ marked_by r (numbers_in (take (length S - 288) (drop 288 S))) →
        take 288 S ++ (nums ++ drop (length S - 288) (drop 288 S)) ≡ marked_bytes r S
    marked_parts r nums ln b e =
        back_all S long nums
        ∙ marked_laid S long bytes-S r nums ln (back_bytes S long nums b) (e ∙ ap (λ (x : List ℕ). marked_by r (numbers_in x)) rest_all)

-- what is kept, copied over the bytes S, and then the numbers in the place of the rest
pub put_parts :
    (s : Session) (S X nums : List ℕ) → length s.kept ≡ 288 → X ≡ take (length s.kept) s.kept ++ drop (length s.kept) S →
    nums ≡ bytes_of (s.depth ∷ s.held ∷ s.opened ∷ s.handed ∷ bool_byte s.ended ∷ bool_byte s.stopped ∷ []) →
    take 288 X ++ (nums ++ drop (length X - 288) (drop 288 X)) ≡ session_bytes s
unfolding session_bytes
put_parts s S X nums whole eX en =
    ap₂ (λ (x y : List ℕ). x ++ (nums ++ y)) front none ∙ ap (λ (y : List ℕ). s.kept ++ y) (append-nil nums ∙ en)
  where
    front : take 288 X ≡ s.kept
    front =
        ap (take 288) (eX ∙ ap (λ (x : List ℕ). x ++ drop (length s.kept) S) (take-length s.kept))
        ∙ take_at s.kept (drop (length s.kept) S) 288 whole

    none : drop (length X - 288) (drop 288 X) ≡ []
    none = let over : length (drop 288 X) ≤ length X - 288 = omega (arith, length-drop 288 X) in drop_of_length-le (drop 288 X) over

-- four numbers one after the other

four_set : (ws : List ℕ) (a b c d : ℕ) → length ws ≡ 4 → set (set (set (set ws 0 a) 1 b) 2 c) 3 d ≡ a ∷ b ∷ c ∷ d ∷ []
four_set [] a b c d l = absurd (omega arith)
four_set (x ∷ []) a b c d l = absurd (omega arith)
four_set (x ∷ y ∷ []) a b c d l = absurd (omega arith)
four_set (x ∷ y ∷ z ∷ []) a b c d l = absurd (omega arith)
four_set (x ∷ y ∷ z ∷ w ∷ []) a b c d l = refl
four_set (x ∷ y ∷ z ∷ w ∷ v ∷ ws) a b c d l = absurd (omega arith)

pub counts_put :
    (C C₁ C₂ C₃ C₄ : List ℕ) (a b : ℕ) → length C ≡ counts_room → length C₄ ≡ counts_room → Bytes C₄ →
    words C₁ ≡ set (words C) 0 (a % 4294967296) → words C₂ ≡ set (words C₁) 1 (a / 4294967296) → words C₃ ≡ set (words C₂) 2 (b % 4294967296) →
    words C₄ ≡ set (words C₃) 3 (b / 4294967296) → C₄ ≡ count_bytes a b
unfolding count_bytes
counts_put C C₁ C₂ C₃ C₄ a b l l₄ h e₁ e₂ e₃ e₄ =
    sym (bytes_words 4 C₄ (omega (arith, counts_room_lem)) h)
    ∙ ap bytes_of
    (e₄
    ∙ ap (λ ws. set ws 3 (b / 4294967296)) (e₃ ∙ ap (λ ws. set ws 2 (b % 4294967296)) (e₂ ∙ ap (λ ws. set ws 1 (a / 4294967296)) e₁))
    ∙ four_set (words C) _ _ _ _ (words_length 4 C (omega (arith, counts_room_lem))))
