-- That a session is read from its bytes, and laid in them, as it stands there.
--
--   plan_room_lem, room_is, counts_room_lem      how many bytes it keeps of its query, it takes in all, and two counts take, as numbers
--   six, six_words       the numbers as a list, and that these are the words of their bytes
--   numbers_laid         bytes with these numbers are those of the numbers
--   rest_room            how long the rest of the bytes is, after what is kept of the query
--   back_all, back_bytes      the session's bytes when the rest is given back with other numbers;  these are bytes
--   kept_all, rest_all   what is kept of the query, and the rest
--   last_bytes           the last of some bytes are bytes
--   read_parts           what is kept and the numbers in the rest are the session in the bytes
--   session_read         a session laid in bytes is read again as it was
--   rest_long, rest_bytes     how long the rest is, and that it is bytes
--   marked_is            the bytes after a refusal that stops, by the numbers
--   marked_laid          numbers after a refusal in the place of the rest are the session's bytes after it
--   marked_none          where there is no refusal they are as they were
--   marked_parts         the same, by the parts as the code lends them
--   put_parts            what is kept and then the numbers are the bytes of the session
--   counts_put           two counts in bytes, low byte first
--
-- Assumes nothing.
use Rattle.std.specs.Prelude.{ℕ, zero, suc, ◌+◌, ◌-◌, ◌/◌, ◌%◌, ◌≤◌, ◌<◌, ◌≡◌, refl, Bool, length, drop}
use Rattle.std.proofs.Common.{arith, subst, ◌∙◌, length-drop, drop_of_length-le, length-take-le, take_at, drop_at, get_or-append-add, get_or-drop}
use Rattle.std.proofs.Math.Path.{sym, ap, ap₂}
use Rattle.std.proofs.Math.Bool.{true, false}
use mathlib.Core.List.{List, [], ◌∷◌, ◌++◌, append-nil, append_assoc}
use mir.Val.{bool_byte}
use Rattle.std.specs.Int.{w64, to_le_bytes}
use Rattle.std.proofs.Math.ListN.{get_or, take, take-append-drop}
use Rattle.std.proofs.Math.Seq.{take-append-add}
use Rattle.choice.specs.When.{when, when_false}
use Rattle.choice.specs.Count.{bool_byte_le, bool_byte_read}
use Rattle.meaning.specs.Refusals.{stops}
use Rattle.words.specs.Words.{words, bytes_of, Bytes}
use Rattle.words.specs.Words.Laws.{words_length, bytes_words, words_bytes, bytes_length}
use Rattle.words.specs.Rows.{rows, is_rows}
use Rattle.words.specs.Records.{records_in}
use Rattle.numbers.specs.Numbers.{Numbers, numbers_room, record_in, numbers_in, with_stop}
use Rattle.numbers.specs.Numbers.Laws as numbers
use Rattle.stop.specs.Stop.{marked_by}
use Rattle.plan_bytes.specs.Kept.{plan_room}
use Rattle.session.specs.declared.Session.{Session}
use Rattle.session.specs.Event.{session_of, session_numbers}
use Rattle.session.specs.Event.Laws.{of_parts}
use Rattle.session_c.specs.Laid.{session_room, session_in, session_bytes, marked_bytes, counts_room, count_bytes}

pub plan_room_lem : plan_room ≡ 288
unfolding plan_room
plan_room_lem = refl

pub room_is : session_room ≡ 312
unfolding session_room
room_is = omega (arith, plan_room_lem, numbers.room_is)

pub counts_room_lem : counts_room ≡ 16
unfolding counts_room
counts_room_lem = refl

-- the numbers

abbrev pub six : Numbers → List ℕ
six n = n.depth ∷ n.held ∷ n.opened ∷ n.handed ∷ n.ended ∷ n.stopped ∷ []

pub six_words : (bs : List ℕ) → length bs ≡ numbers_room → words bs ≡ six (numbers_in bs)
unfolding record_in numbers_in records_in rows
six_words bs l = is_rows 6 (λ i. get_or (words bs) i 0) 0 (words bs) (words_length 6 bs (omega (arith, numbers.room_is))) (λ i h. refl)

pub numbers_laid :
    (bs : List ℕ) (n : Numbers) → length bs ≡ numbers_room → Bytes bs → numbers_in bs ≡ n → bs ≡ bytes_of (six n)
numbers_laid bs n l h e =
    sym (bytes_words 6 bs (omega (arith, numbers.room_is)) h) ∙ ap bytes_of (six_words bs l ∙ ap six e)

-- the session in bytes

pub last_bytes : (xs bs : List ℕ) → Bytes (xs ++ bs) → Bytes bs
last_bytes xs bs h i = subst (λ (v : ℕ). v < 256) (get_or-append-add xs bs i 0) (h (length xs + i))

module _ (S : List ℕ) (long : length S ≡ session_room) where
  pub rest_room : length (take (length S - 288) (drop 288 S)) ≡ numbers_room
  rest_room =
      omega
      (arith, length-take-le (length S - 288) (drop 288 S) (omega (arith, length-drop 288 S)), numbers.room_is, room_is)

  -- the numbers given back in the place of the rest
  module _ (nums : List ℕ) where
    pub back_all : take 288 S ++ (nums ++ drop (length S - 288) (drop 288 S)) ≡ take plan_room S ++ nums
    back_all =
        let over : length (drop 288 S) ≤ length S - 288 = omega (arith, length-drop 288 S) in
        ap₂ (λ (k : ℕ) (x : List ℕ). take k S ++ (nums ++ x)) (sym plan_room_lem) (drop_of_length-le (drop 288 S) over)
        ∙ ap (λ (x : List ℕ). take plan_room S ++ x) (append-nil nums)

    pub back_bytes : Bytes (take 288 S ++ (nums ++ drop (length S - 288) (drop 288 S))) → Bytes nums
    back_bytes h i =
        subst (λ (v : ℕ). v < 256)
        (ap (λ (x : List ℕ). get_or x (length (take plan_room S) + i) 0) back_all ∙ get_or-append-add (take plan_room S) nums i 0)
        (h (length (take plan_room S) + i))

module _ (S : List ℕ) where
  pub kept_all : take 288 S ≡ take plan_room S
  kept_all = ap (λ i. take i S) (sym plan_room_lem)

  pub rest_all : drop 288 S ≡ drop plan_room S
  rest_all = ap (λ k. drop k S) (sym plan_room_lem)

  pub read_parts :
      (kept nums : List ℕ) (s : Session) → kept ≡ take 288 S → nums ≡ drop 288 S → s ≡ session_of kept (numbers_in nums) → s ≡ session_in S
  unfolding session_in
  read_parts kept nums s ek en es =
      es ∙ ap₂ (λ (x y : List ℕ). session_of x (numbers_in y)) (ek ∙ kept_all) (en ∙ rest_all)

-- after a refusal

-- the numbers nums, of which all but the sixth are those of bs, in bytes
six_stopped : (bs : List ℕ) (n : Numbers) → bs ≡ bytes_of (six n) → bytes_of (six (with_stop 1 n)) ≡ take 20 bs ++ bytes_of (1 ∷ [])
unfolding bytes_of
six_stopped bs n e = ap (λ (x : List ℕ). take 20 x ++ bytes_of (1 ∷ [])) (sym e)

module _ (S : List ℕ) (long : length S ≡ session_room) (bytes-S : Bytes S) where
  pub rest_long : length (drop plan_room S) ≡ numbers_room
  rest_long = omega (arith, length-drop plan_room S, plan_room_lem, numbers.room_is, room_is, long)

  pub rest_bytes : Bytes (drop plan_room S)
  rest_bytes i = omega (arith, get_or-drop plan_room S i 0, bytes-S (plan_room + i))

  stopped_front : take plan_room S ++ take 20 (drop plan_room S) ≡ take (plan_room + 20) S
  stopped_front =
      let l : length (take plan_room S) ≡ plan_room = length-take-le plan_room S (omega (arith, plan_room_lem, room_is)) in
      sym (take-append-add (take plan_room S) (drop plan_room S) 20)
      ∙ ap₂ (λ (k : ℕ) (x : List ℕ). take (k + 20) x) l (take-append-drop plan_room S)

  pub marked_is :
      take plan_room S ++ bytes_of (six (with_stop 1 (numbers_in (drop plan_room S)))) ≡ take (plan_room + 20) S ++ bytes_of (1 ∷ [])
  marked_is =
      ap (λ (x : List ℕ). take plan_room S ++ x)
      (six_stopped (drop plan_room S) (numbers_in (drop plan_room S)) (numbers_laid (drop plan_room S) _ rest_long rest_bytes refl))
      ∙ sym (append_assoc (take plan_room S) (take 20 (drop plan_room S)) (bytes_of (1 ∷ [])))
      ∙ ap (◌++ bytes_of (1 ∷ [])) stopped_front

  marked_by_lem :
      (b : Bool) (nums : List ℕ) → length nums ≡ numbers_room → Bytes nums →
      numbers_in nums ≡ when b (with_stop 1 (numbers_in (drop plan_room S))) (numbers_in (drop plan_room S)) →
      take plan_room S ++ nums ≡ when b (take (plan_room + 20) S ++ bytes_of (1 ∷ [])) S
  unfolding when
  marked_by_lem true nums ln bn e = ap (λ (x : List ℕ). take plan_room S ++ x) (numbers_laid nums _ ln bn e) ∙ marked_is
  marked_by_lem false nums ln bn e =
      ap (λ (x : List ℕ). take plan_room S ++ x) (numbers.numbers_same nums (drop plan_room S) ln rest_long bn rest_bytes e)
      ∙ take-append-drop plan_room S

  pub marked_laid :
      (r : ℕ) (nums : List ℕ) → length nums ≡ numbers_room → Bytes nums → numbers_in nums ≡ marked_by r (numbers_in (drop plan_room S)) →
      take plan_room S ++ nums ≡ marked_bytes r S
  unfolding marked_bytes marked_by
  marked_laid r nums ln bn e = marked_by_lem (stops r) nums ln bn e

  -- by the parts of the bytes as the code lends them
  pub marked_parts :
      (r : ℕ) (kept rest nums : List ℕ) → kept ≡ take 288 S → rest ≡ drop 288 S → length nums ≡ numbers_room → Bytes (kept ++ nums) →
      numbers_in nums ≡ marked_by r (numbers_in rest) → kept ++ nums ≡ marked_bytes r S
  marked_parts r kept rest nums ek er ln b e =
      ap (λ (x : List ℕ). x ++ nums) (ek ∙ kept_all S)
      ∙ marked_laid r nums ln (last_bytes kept nums b) (e ∙ ap (λ (x : List ℕ). marked_by r (numbers_in x)) (er ∙ rest_all S))

-- where there is no refusal
pub marked_none : (S : List ℕ) → marked_bytes 0 S ≡ S
unfolding marked_bytes stops
marked_none S = when_false _ _ _ refl

-- a session laid in bytes is read again as it was: its numbers are of 4 bytes, as the code's are
module _ (s : Session) (kept_long : length s.kept ≡ plan_room) (depth : s.depth < 4294967296) (held : s.held < 4294967296)
    (opened : s.opened < 4294967296) (handed : s.handed < 4294967296) where
  abbrev laid_numbers_lem : List ℕ
  laid_numbers_lem = s.depth ∷ s.held ∷ s.opened ∷ s.handed ∷ bool_byte s.ended ∷ bool_byte s.stopped ∷ []

  small : (i : ℕ) → get_or laid_numbers_lem i 0 < 4294967296
  small zero = depth
  small (suc zero) = held
  small (suc (suc zero)) = opened
  small (suc (suc (suc zero))) = handed
  small (suc (suc (suc (suc zero)))) = omega (arith, bool_byte_le s.ended)
  small (suc (suc (suc (suc (suc zero))))) = omega (arith, bool_byte_le s.stopped)
  small (suc (suc (suc (suc (suc (suc i)))))) = omega arith

  numbers_read : six (numbers_in (bytes_of laid_numbers_lem)) ≡ laid_numbers_lem
  numbers_read =
      sym (six_words (bytes_of laid_numbers_lem) (bytes_length laid_numbers_lem ∙ omega (arith, numbers.room_is))) ∙ words_bytes laid_numbers_lem small

  pub session_read : session_in (session_bytes s) ≡ s
  unfolding session_in session_bytes
  session_read =
      let n : Numbers = numbers_in (bytes_of laid_numbers_lem) in
      let at : (i : ℕ) → get_or (six n) i 0 ≡ get_or laid_numbers_lem i 0 = λ (i : ℕ). ap (λ (l : List ℕ). get_or l i 0) numbers_read in
      ap₂ (λ (x y : List ℕ). session_of x (numbers_in y)) (take_at s.kept (bytes_of laid_numbers_lem) plan_room kept_long)
      (drop_at s.kept (bytes_of laid_numbers_lem) plan_room kept_long)
      ∙ sym
      (of_parts s.kept n s.depth s.held s.opened s.handed (bool_byte s.ended) (bool_byte s.stopped) (sym (at 0)) (sym (at 1))
      (sym (at 2)) (sym (at 3)) (sym (at 4)) (sym (at 5)))
      ∙ ap₂ (λ (b c : Bool). record {
        kept = s.kept;
        depth = s.depth;
        held = s.held;
        opened = s.opened;
        handed = s.handed;
        ended = b;
        stopped = c;
      }) (bool_byte_read s.ended) (bool_byte_read s.stopped)

-- what is kept, copied, and then the numbers
pub put_parts :
    (s : Session) (kept nums : List ℕ) → kept ≡ s.kept → length nums ≡ numbers_room → Bytes nums → numbers_in nums ≡ session_numbers s →
    kept ++ nums ≡ session_bytes s
unfolding session_bytes
put_parts s kept nums ek long bytes-n en = ap₂ ◌++◌ ek (numbers_laid nums (session_numbers s) long bytes-n en)

-- a count is the number of its low half and that of its high half, in bytes
count_bytes_lem : (a : ℕ) → to_le_bytes w64 a ≡ bytes_of (a % 4294967296 ∷ a / 4294967296 ∷ [])
unfolding bytes_of
count_bytes_lem a =
    eight _ _ _ _ _ _ _ _ _ _ _ _ _ _ _ _ (omega arith) (omega arith) (omega arith) (omega arith) (omega arith) (omega arith) (omega arith) (omega arith)
  where
    eight : (x₀ x₁ x₂ x₃ x₄ x₅ x₆ x₇ y₀ y₁ y₂ y₃ y₄ y₅ y₆ y₇ : ℕ) → x₀ ≡ y₀ → x₁ ≡ y₁ → x₂ ≡ y₂ → x₃ ≡ y₃ → x₄ ≡ y₄ → x₅ ≡ y₅ → x₆ ≡ y₆ → x₇ ≡ y₇ →
        ◌≡◌ {A = List ℕ} (x₀ ∷ x₁ ∷ x₂ ∷ x₃ ∷ x₄ ∷ x₅ ∷ x₆ ∷ x₇ ∷ []) (y₀ ∷ y₁ ∷ y₂ ∷ y₃ ∷ y₄ ∷ y₅ ∷ y₆ ∷ y₇ ∷ [])
    eight _ _ _ _ _ _ _ _ _ _ _ _ _ _ _ _ e₀ e₁ e₂ e₃ e₄ e₅ e₆ e₇ = cc

pub counts_put : (a b : ℕ) (A B : List ℕ) → A ≡ to_le_bytes w64 a → B ≡ to_le_bytes w64 b → A ++ B ≡ count_bytes a b
unfolding count_bytes bytes_of
counts_put a b A B ea eb = ap₂ ◌++◌ (ea ∙ count_bytes_lem a) (eb ∙ count_bytes_lem b)
