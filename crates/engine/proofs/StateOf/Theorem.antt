-- The engine computes the state that the meaning prescribes, and hands out what is newly listed.
--
--   open_state, close_state       an event of the engine leads to the state of the next document
--   open_out, close_out_lem           what it hands out is what that document newly lists
--   nodes_open, nodes_close       the nodes after an event: one more; each moved by `shift`
--
-- Assumes nothing.
use Prim.Native.Nat.{ℕ, suc, pred, ◌+◌}
use Rattle.std.proofs.Common.{add-suc, suc-add, zero-add, add-one, ◌∙◌}
use Rattle.std.specs.Prelude.{◌≡◌, length}
use Rattle.std.proofs.Math.Path.{refl, sym, ap, ap₂}
use mathlib.Core.List.{List, [], ◌∷◌, ◌++◌, map, map-id, append-nil, drop_last}
use Rattle.meaning.specs.Logic.{Imp, Pmi, Pre, both_pre}
use Rattle.meaning.specs.Query.{Query, Steps}
use Rattle.meaning.specs.Document.{Node, Doc, opened, closed, count}
use Rattle.meaning.proofs.Document.Laws.{count_opened, count_closed}
use Rattle.meaning.specs.Selection.{sure-reading, open-reading, Ready, start, selections}
use Rattle.meaning.proofs.Selection.Laws.{sure_open, sure_close, possible_open, possible_close}
use Rattle.meaning.specs.Standing.{listed}
use Rattle.engine.specs.Need.{Need, itself}
use Rattle.engine.specs.Engine.{Frame, Place, Waiting, State, keep, front, past, grow, certain, alive, settle}
use Rattle.engine.specs.Engine.{newcomer, open_model, exact, move, move_waiting, close_model}
use Rattle.engine.proofs.Queue.{Steady, steady, past_later, front_later}
use Rattle.engine.specs.StateOf.{ops, frames_of, places, number, number_of, frames_at, nodes, state_of}
use Rattle.engine.proofs.StateOf.Frames.{frames_open, frames_close, length_frames}
use Rattle.engine.proofs.StateOf.Places.{places_open, places_close, length_places}
use Rattle.engine.proofs.StateOf.Standings.{certain_sure, alive_open, inside, front_listed}

-- numbering

number_append :
    (i : ℕ) (xs : List (Place Need)) (x : Place Need) →
    number i (xs ++ (x ∷ [])) ≡ number i xs ++ (record { number = length xs + i; place = x } ∷ [])
unfolding number
number_append i [] x = rw (zero-add i)
number_append i (y ∷ xs) x =
    ap (◌∷◌ (record { number = i; place = y }))
    (number_append (suc i) xs x
    ∙ ap (λ k. number (suc i) xs ++ (record { number = k; place = x } ∷ [])) (add-suc (length xs) i ∙ sym (suc-add (length xs) i)))

number_move :
    (i : ℕ) (q : Query) (l : ℕ) (M : Steps) (xs : List (Place Need)) →
    number i (map (move (ops q) l M) xs) ≡ map (move_waiting (ops q) l M) (number i xs)
unfolding number move_waiting
number_move i q l M [] = refl
number_move i q l M (x ∷ xs) = ap (◌∷◌ (record { number = i; place = move (ops q) l M x })) (number_move (suc i) q l M xs)

-- an event in general: d becomes d', whose nodes are those of d changed by h, and new

module _
    (q : Query) (d d' : Doc) (h : Waiting Need → Waiting Need) (new : List (Waiting Need))
    (kept : (w : Waiting Need) → (h w).number ≡ w.number)
    (all : nodes q d' ≡ map h (nodes q d) ++ new)
    (sures-grow : Pre Imp (selections q sure-reading d) (selections q sure-reading d'))
    (possibles-shrink : Pre Pmi (selections q open-reading d) (selections q open-reading d')) where
  abbrev F : List (Frame Steps Ready)
  F = frames_at q d

  abbrev F' : List (Frame Steps Ready)
  F' = frames_at q d'

  calm : Steady (certain (ops q) F) (alive (ops q) F) (certain (ops q) F') (alive (ops q) F') h (nodes q d)
  calm =
      steady (certain (ops q) F) (alive (ops q) F) (certain (ops q) F') (alive (ops q) F') h new (nodes q d)
      (rw (← all, certain_sure q d, certain_sure q d') sures-grow) (rw (← all, alive_open q d, alive_open q d') possibles-shrink)
      (rw (← all) (both_pre (inside q d')))

  event_queue : past (certain (ops q) F') (keep (alive (ops q) F') (map h (state_of q d).queue ++ new)) ≡ (state_of q d').queue
  unfolding state_of
  event_queue =
      past_later (certain (ops q) F) (alive (ops q) F) (certain (ops q) F') (alive (ops q) F') h new calm
      ∙ ap (λ x. past (certain (ops q) F') (keep (alive (ops q) F') x)) (sym all)

  event_out :
      listed q d ++ map number_of (front (certain (ops q) F') (keep (alive (ops q) F') (map h (state_of q d).queue ++ new))) ≡ listed q d'
  unfolding state_of
  event_out =
      ap (λ x. x ++ map number_of (front (certain (ops q) F') (keep (alive (ops q) F') (map h (state_of q d).queue ++ new))))
      (sym (front_listed q d))
      ∙ front_later (certain (ops q) F) (alive (ops q) F) (certain (ops q) F') (alive (ops q) F') h new number_of kept calm
      ∙ ap (λ x. map number_of (front (certain (ops q) F') (keep (alive (ops q) F') x))) (sym all)
      ∙ front_listed q d'

abbrev Judged : Query → List (Frame Steps Ready) → List (Waiting Need) → ℕ → State Steps Ready Need
Judged q fs ws n = (settle (ops q) fs ws n).state

-- an open

module _ (q : Query) (y : Node) (d : Doc) where
  abbrev N : Waiting Need
  N = newcomer (ops q) (state_of q d)

  abbrev G : List (Frame Steps Ready)
  G = frames_at q (opened y d)

  grown : grow (ops q) y start start (frames_at q d) ≡ G
  unfolding frames_at
  grown = sym (frames_open q y d start start start)

  pub nodes_open : nodes q (opened y d) ≡ map (λ w. w) (nodes q d) ++ (newcomer (ops q) (state_of q d) ∷ [])
  unfolding nodes newcomer state_of frames_at
  nodes_open =
      ap (number 1) (places_open q y d)
      ∙ number_append 1 (places q d) _
      ∙ ap₂ (λ k l. number 1 (places q d) ++ (record { number = k; place = record { level = suc l; need = itself } } ∷ []))
      (add-one (length (places q d)) ∙ ap suc (length_places q d)) (sym (length_frames q d start start))
      ∙ ap (λ ws. ws ++ (N ∷ [])) (sym (map-id (number 1 (places q d))))

  pub open_state : (open_model (ops q) y (state_of q d)).state ≡ state_of q (opened y d)
  unfolding open_model settle state_of
  open_state =
      ap (λ fs. Judged q fs ((state_of q d).queue ++ (N ∷ [])) (suc (count d))) grown
      ∙ ap₂ (λ ws n. record { frames = G; queue = ws; opened = n })
      (ap (λ x. past (certain (ops q) G) (keep (alive (ops q) G) (x ++ (N ∷ [])))) (sym (map-id (state_of q d).queue))
      ∙ event_queue q d (opened y d) (λ w. w) (N ∷ []) (λ w. refl) nodes_open (sure_open q y d) (possible_open q y d))
      (sym (count_opened y d))

  pub open_out : listed q d ++ (open_model (ops q) y (state_of q d)).out ≡ listed q (opened y d)
  unfolding open_model settle state_of
  open_out =
      ap (λ fs. listed q d ++ (settle (ops q) fs ((state_of q d).queue ++ (N ∷ [])) (suc (count d))).out) grown
      ∙ ap (λ x. listed q d ++ map number_of (front (certain (ops q) G) (keep (alive (ops q) G) (x ++ (N ∷ [])))))
      (sym (map-id (state_of q d).queue))
      ∙ event_out q d (opened y d) (λ w. w) (N ∷ []) (λ w. refl) nodes_open (sure_open q y d) (possible_open q y d)

-- a close

module _ (q : Query) (d : Doc) where
  unfoldable pub shift : Waiting Need → Waiting Need
  shift = move_waiting (ops q) (pred (length (frames_at q d))) (exact (ops q) (frames_at q d))

  abbrev H : List (Frame Steps Ready)
  H = frames_at q (closed d)

  shift_number : (w : Waiting Need) → (shift w).number ≡ w.number
  unfolding shift move_waiting
  shift_number w = refl

  shrunk : drop_last (frames_at q d) ≡ H
  unfolding frames_at
  shrunk = sym (frames_close q d start start)

  pub nodes_close : nodes q (closed d) ≡ map shift (nodes q d)
  unfolding nodes frames_at shift
  nodes_close =
      ap (number 1) (places_close q d start start)
      ∙ number_move 1 q _ _ (places q d)
      ∙ ap (λ l. map (move_waiting (ops q) (pred l) (exact (ops q) (frames_of q d start start))) (number 1 (places q d)))
      (sym (length_frames q d start start))

  all_shifted : nodes q (closed d) ≡ map shift (nodes q d) ++ []
  all_shifted = nodes_close ∙ sym (append-nil _)

  pub close_state : (close_model (ops q) (state_of q d)).state ≡ state_of q (closed d)
  unfolding close_model settle state_of shift
  close_state =
      ap (λ fs. Judged q fs (map shift (state_of q d).queue) (count d)) shrunk
      ∙ ap₂ (λ ws n. record { frames = H; queue = ws; opened = n })
      (ap (λ x. past (certain (ops q) H) (keep (alive (ops q) H) x)) (sym (append-nil (map shift (state_of q d).queue)))
      ∙ event_queue q d (closed d) shift [] shift_number all_shifted (both_pre (sure_close q d)) (both_pre (possible_close q d)))
      (sym (count_closed d))

  pub close_out_lem : listed q d ++ (close_model (ops q) (state_of q d)).out ≡ listed q (closed d)
  unfolding close_model settle state_of shift
  close_out_lem =
      ap (λ fs. listed q d ++ (settle (ops q) fs (map shift (state_of q d).queue) (count d)).out) shrunk
      ∙ ap (λ x. listed q d ++ map number_of (front (certain (ops q) H) (keep (alive (ops q) H) x)))
      (sym (append-nil (map shift (state_of q d).queue)))
      ∙ event_out q d (closed d) shift [] shift_number all_shifted (both_pre (sure_close q d)) (both_pre (possible_close q d))
