-- For an admitted query the plan's operations on masks are the meaning's on sets, so the engine on masks is the engine.
--
--   meets_plain        an element in whose content nothing is met yet meets the steps on which no predicate hangs
--   mask_hom           the homomorphism of the operations
--   mask_open, mask_close            the engine's events lead from one document's masks to the next one's
--   mask_open_out, mask_close_out    and hand out what is newly listed
--
-- Assumes T (admits q): that a shift finds the step after another rests on it.
use Prim.Native.Nat.{ℕ, zero, suc, ◌*◌, ◌/◌, ◌%◌}
use native.Mathlib.Omega.{arith}
use Rattle.std.specs.Prelude.{◌≡◌, Bool, true, false, not, T, length, get_or}
use Rattle.std.proofs.Math.Path.{refl, sym, ap, ap₂}
use Rattle.std.proofs.Common.{◌∙◌}
use Rattle.std.proofs.Math.Bool.{◌&&◌, or-false, and_assoc}
use mathlib.Core.List.{List, [], ◌∷◌, ◌++◌}
use Rattle.std.specs.Int.Bits.{and_comm as meet_comm}
use Rattle.std.proofs.Math.Dec.{eqb}
use Rattle.std.proofs.Math.ListN.{length-map}
use Rattle.meaning.specs.Name.{passes}
use Rattle.meaning.specs.Query.{Query, Steps, Numbered, all_step, hangs, goes_deep, last_main, admits}
use Rattle.meaning.specs.Document.{Node, Doc, opened, closed}
use Rattle.meaning.specs.Selection as Selection
use Rattle.meaning.specs.Selection.{Ready, given}
use Rattle.meaning.specs.Standing.{listed}
use Rattle.sets.specs.Set.{lit, member, join, meet, without, covers, overlaps, mask_of}
use Rattle.sets.proofs.Set.Laws.{member_meet, member_one, same_members}
use Rattle.sets.proofs.Set.Order.{overlaps_one}
use Rattle.sets.proofs.Set.Algebra.{meet_assoc, joined_without, met_without}
use Rattle.plan.specs.Any.{sets_ext, any_cong}
use Rattle.engine.proofs.Every.{every_map}
use Rattle.engine.specs.Need as Need
use Rattle.engine.specs.Need.{Need, itself, one_of, wanted}
use Rattle.engine.specs.Engine.{open_model, close_model}
use Rattle.engine.specs.Hom.{Hom, state_in}
use Rattle.engine.proofs.Hom.{open_hom, close_hom}
use Rattle.engine.specs.StateOf.{ops, state_of}
use Rattle.engine.proofs.StateOf.Theorem.{open_state, open_out, close_state, close_out_lem}
use Rattle.plan.specs.Order.{predicates, back_path, order, at, mask}
use Rattle.plan.specs.Order.Mask.{member_mask, at_and, mask_join, mask_meet, mask_none, overlaps_mask, meet_prefix, mask_agree, mask_of_listed}
use Rattle.plan.specs.Order.All.{path_main, any_main, all_order, main_mask}
use Rattle.plan.specs.Order.Path.{Linked, path_linked, given_at, given_first, given_shift, wanted_at, wanted_first, wanted_shift}
use Rattle.plan.specs.Order.Path.{first_alone, last_main_positive}
use Rattle.plan.specs.Plan.{Plan, plan, named, meets, lift, turn, last_given, up_if}
use Rattle.plan.proofs.Masks.{meets_predicates}
use Rattle.engine.specs.MaskOps.{value, up, mask_ops, need_mask, masks, mask_state}

module _ (q : Query) where
  abbrev P : Plan
  P = plan q

  size : length P.tests ≡ length (order q)
  unfolding plan
  size = length-map (order q) _

  -- what an element meets

  named_mask : (x : Node) → mask (order q) (Selection.named x) ≡ named P x.name
  unfolding plan named Selection.named
  named_mask x = sym (mask_of_listed _ (order q) (λ p. p.step.name) 0 (λ t. passes t x.name) (Selection.named x) size (λ p. refl))

  hung_mask :
      (K : ℕ) →
      mask (order q) (λ st s. covers K (mask (order q) (λ t i. hangs t s))) ≡ mask_of (length P.tests) (λ t. covers K (get_or P.hung t 0))
  unfolding plan
  hung_mask K = sym (mask_of_listed _ (order q) (λ p. mask (order q) (λ t i. hangs t p.number)) 0 (covers K) _ size (λ p. refl))

  meets_whole : (x : Node) (K : Steps) → mask (order q) (Selection.meets q false x K) ≡ meets P (named P x.name) (mask (order q) K)
  unfolding meets Selection.meets
  meets_whole x K =
      mask_meet (order q) (Selection.named x) _
      ∙ meet_comm (mask (order q) (Selection.named x)) _
      ∙ ap₂ meet (ap (mask (order q)) (sets_ext (λ st s. all_order q (λ t i. hangs t s) K)) ∙ hung_mask (mask (order q) K)) (named_mask x)

  -- what is below, of which the predicate steps are kept
  abbrev below : Steps → ℕ
  below = (masks q).below

  meets_mask : (x : Node) (K : Steps) → mask (order q) (Selection.meets q false x K) ≡ meets P (named P x.name) (below K)
  meets_mask x K = meets_whole x K ∙ sym (meets_predicates q (named P x.name) (mask (order q) K))

  none_mask : mask (order q) Selection.empty ≡ 0
  unfolding Selection.empty
  none_mask = mask_none (order q)

  empty_mask : below Selection.empty ≡ 0
  unfolding without
  empty_mask = ap (λ m. without m P.main) none_mask

  plain_mask :
      (x : Node) → mask (order q) (Selection.meets q false x Selection.empty) ≡ meet (mask (order q) (Selection.named x)) P.plain
  unfolding plan Selection.meets Selection.empty
  plain_mask x =
      mask_meet (order q) (Selection.named x) _
      ∙ ap (λ A. meet (mask (order q) (Selection.named x)) (mask (order q) A))
      (sets_ext (λ st s. ap (all_step q 1) (sets_ext (λ t i. or-false (not (hangs t s))))))

  pub meets_plain : (x : Node) → meets P (named P x.name) 0 ≡ meet (named P x.name) P.plain
  meets_plain x =
      ap (meets P (named P x.name)) (sym none_mask)
      ∙ sym (meets_whole x Selection.empty)
      ∙ plain_mask x
      ∙ ap (λ m. meet m P.plain) (named_mask x)

  join_mask : (A B : Steps) → below (Selection.join A B) ≡ join (below A) (below B)
  unfolding Selection.join
  join_mask A B =
      ap (λ m. without m P.main) (mask_join (order q) A B) ∙ joined_without (mask (order q) A) (mask (order q) B) P.main

  lift_mask : (M K : Steps) → below (Selection.lift M K) ≡ lift P (mask (order q) M) (below K)
  unfolding Selection.lift lift plan
  lift_mask M K =
      ap (λ m. without m P.main) (mask_join (order q) M _ ∙ ap (join (mask (order q) M)) (mask_meet (order q) _ K))
      ∙ joined_without (mask (order q) M) (meet P.deep (mask (order q) K)) P.main
      ∙ ap (join (without (mask (order q) M) P.main)) (met_without P.deep (mask (order q) K) P.main ∙ meet_comm P.deep (below K))

  -- along the path

  abbrev Both : Steps → Steps → Steps
  Both A B st i = A st i && B st i

  deep_mask : (A : Steps) → mask (back_path q) (λ st i. goes_deep st.axis && A st i) ≡ meet (mask (back_path q) A) P.deep
  unfolding plan order
  deep_mask A = meet_prefix (back_path q) (predicates q 1) (λ st i. goes_deep st.axis) A ∙ meet_comm _ (mask (back_path q) A)

  both_mask : (M r : Steps) → mask (back_path q) (Both M r) ≡ meet (mask (order q) M) (mask (back_path q) r)
  unfolding order
  both_mask M r = meet_prefix (back_path q) (predicates q 1) M r

  later : (e m x : Bool) → (e && (m && x)) ≡ (m && (e && x))
  later true m x = refl
  later false true x = refl
  later false false x = refl

  given_path : (M r : Steps) (s : ℕ) → given q M r s ≡ given_at (back_path q) (Both M r) s
  unfolding given
  given_path M r s =
      any_cong q 1 _ _ (λ st i. later (eqb i s) st.main (M st i && r st i)) ∙ any_main q (λ st i. eqb i s && (M st i && r st i))

  lit_last : (x : ℕ) → not (eqb (meet x 1) 0) ≡ member x 0
  lit_last x = (unfold overlaps in overlaps_one x 0)

  value_mask : (r : Ready) (n : Need) → Need.value q r n ≡ value ((masks q).ready r) (need_mask q n)
  unfolding Need.value value need_mask
  value_mask r itself = refl
  value_mask r (one_of N) = any_main q (λ st i. N st i && r.steps st i) ∙ overlaps_mask (back_path q) N r.steps

  module _ (a : T (admits q)) where
    chain : Linked (last_main q) (back_path q)
    chain = path_linked q a

    on_path : (A : Steps) → mask (back_path q) (λ st i. st.main && A st i) ≡ mask (back_path q) A
    on_path A = mask_agree _ A (every_map (λ p e. ap (λ b. b && A p.step p.number) e) (path_main q))

    next_mask :
        (M r : Steps) → mask (back_path q) (λ st i. st.main && given q M r st.parent) ≡ meet (mask (order q) M) (mask (back_path q) r) / 2
    next_mask M r =
        on_path (λ st i. given q M r st.parent)
        ∙ ap (mask (back_path q)) (sets_ext (λ st i. given_path M r st.parent))
        ∙ same_members _ _ (λ t. member_mask (back_path q) _ t ∙ given_shift (back_path q) (Both M r) chain t ∙ sym (halved t))
        ∙ ap (λ x. x / 2) (both_mask M r)
      where
        halved : (t : ℕ) → member (mask (back_path q) (Both M r) / 2) t ≡ at (back_path q) (Both M r) (suc t)
        halved t = unfold member in member_mask (back_path q) (Both M r) (suc t)

    last_mask : (M r : Steps) → given q M r (last_main q) ≡ last_given (mask (order q) M) (mask (back_path q) r)
    unfolding last_given
    last_mask M r =
        given_path M r (last_main q)
        ∙ given_first (Both M r) chain
        ∙ sym (member_mask (back_path q) (Both M r) 0)
        ∙ ap (λ x. member x 0) (both_mask M r)
        ∙ sym (lit_last _)

    turn_mask : (M : Steps) (r : Ready) → (masks q).ready (Selection.turn q M r) ≡ (mask_ops P).turn (mask (order q) M) ((masks q).ready r)
    unfolding Selection.turn turn
    turn_mask M r =
        ap₂ (λ x e. record { steps = x; end = e })
        (mask_join (back_path q) (λ st i. st.main && given q M r.steps st.parent) _
        ∙ ap₂ join (next_mask M r.steps) (deep_mask r.steps))
        (last_mask M r.steps)

    itself_mask : (M : Steps) → mask (back_path q) (λ st i. eqb i (last_main q) && M st i) ≡ meet (mask (order q) M) 1
    unfolding order
    itself_mask M =
        same_members _ _
        (λ t. member_mask (back_path q) _ t
        ∙ first_alone (predicates q 1) M (last_main_positive q a) chain t
        ∙ sym (member_meet _ 1 t ∙ ap₂ ◌&&◌ (member_mask (back_path q ++ predicates q 1) M t) (member_one 0 t)))

    wanted_path : (N : Steps) (s : ℕ) → wanted q N s ≡ wanted_at (back_path q) N s
    unfolding wanted
    wanted_path N s =
        any_cong q 1 _ _ (λ t j. and_assoc t.main (N t j) (eqb s t.parent)) ∙ any_main q (λ t j. N t j && eqb s t.parent)

    -- shifted to the left, and met with the path
    double_zero : (x : ℕ) → member (x * 2) 0 ≡ false
    unfolding member
    double_zero x = let e : x * 2 % 2 ≡ 0 = omega arith in ap lit e

    double_suc : (x t : ℕ) → member (x * 2) (suc t) ≡ member x t
    unfolding member
    double_suc x t = let e : x * 2 / 2 ≡ x = omega arith in ap (λ y. member y t) e

    at_any : (ps : List Numbered) (A : Steps) (t : ℕ) → (at ps (λ st i. true) t && at ps A t) ≡ at ps A t
    unfolding at
    at_any [] A t = refl
    at_any (p ∷ ps) A zero = refl
    at_any (p ∷ ps) A (suc t) = at_any ps A t

    wanted_mask : (N M : Steps) → mask (back_path q) (λ st i. wanted q N i && M st i) ≡ meet (mask (back_path q) N * 2) (mask (back_path q) M)
    wanted_mask N M =
        ap (mask (back_path q)) (sets_ext (λ st i. ap (λ b. b && M st i) (wanted_path N i)))
        ∙ same_members _ _
        (λ t. member_mask (back_path q) _ t ∙ at_and (back_path q) (λ st i. wanted_at (back_path q) N i) M t ∙ go t ∙ sym (member_meet _ _ t))
      where
        go :
            (t : ℕ) →
            (at (back_path q) (λ st i. wanted_at (back_path q) N i) t && at (back_path q) M t) ≡
            (member (mask (back_path q) N * 2) t && member (mask (back_path q) M) t)
        go zero = ap₂ ◌&&◌ (wanted_first N chain ∙ sym (double_zero _)) (sym (member_mask (back_path q) M 0))
        go (suc t) =
            ap (λ b. b && at (back_path q) M (suc t)) (wanted_shift N chain t)
            ∙ and_assoc (at (back_path q) N t) _ _
            ∙ ap₂ ◌&&◌ (sym (double_suc _ t ∙ member_mask (back_path q) N t))
            (at_any (back_path q) M (suc t) ∙ sym (member_mask (back_path q) M (suc t)))

    main_plan : (M : Steps) → mask (back_path q) M ≡ meet (mask (order q) M) P.main
    unfolding plan
    main_plan M = main_mask q M

    up_mask : (M : Steps) (n : Need) → need_mask q (Need.up q M n) ≡ up P (mask (order q) M) (need_mask q n)
    unfolding Need.up up up_if need_mask
    up_mask M itself = ap one_of (itself_mask M)
    up_mask M (one_of N) =
        ap one_of
        (mask_join (back_path q) (λ st i. wanted q N i && M st i) _
        ∙ ap₂ join
        (wanted_mask N M
        ∙ ap (meet (mask (back_path q) N * 2)) (main_plan M)
        ∙ sym (meet_assoc (mask (back_path q) N * 2) (mask (order q) M) P.main))
        (deep_mask N))

    start_mask : (masks q).ready Selection.start ≡ (mask_ops P).start
    unfolding Selection.start plan
    start_mask = refl

    itself_need : need_mask q itself ≡ itself
    unfolding need_mask
    itself_need = refl

    pub mask_hom : Hom (ops q) (mask_ops P) (masks q)
    mask_hom =
        record {
          none = none_mask;
          empty = empty_mask;
          join = join_mask;
          lift = lift_mask;
          named = named_mask;
          meets = meets_mask;
          turn = turn_mask;
          start = start_mask;
          value = value_mask;
          up = up_mask;
          itself = itself_need;
        }

    pub mask_open : (y : Node) (d : Doc) → (open_model (mask_ops P) y (mask_state q d)).state ≡ mask_state q (opened y d)
    unfolding mask_state
    mask_open y d =
        ap (λ r. r.state) (sym (open_hom (ops q) (mask_ops P) (masks q) mask_hom y (state_of q d)))
        ∙ ap (state_in (masks q)) (open_state q y d)

    pub mask_open_out : (y : Node) (d : Doc) → listed q d ++ (open_model (mask_ops P) y (mask_state q d)).out ≡ listed q (opened y d)
    unfolding mask_state
    mask_open_out y d =
        ap (λ r. listed q d ++ r.out) (sym (open_hom (ops q) (mask_ops P) (masks q) mask_hom y (state_of q d))) ∙ open_out q y d

    pub mask_close : (d : Doc) → (close_model (mask_ops P) (mask_state q d)).state ≡ mask_state q (closed d)
    unfolding mask_state
    mask_close d =
        ap (λ r. r.state) (sym (close_hom (ops q) (mask_ops P) (masks q) mask_hom (state_of q d))) ∙ ap (state_in (masks q)) (close_state q d)

    pub mask_close_out : (d : Doc) → listed q d ++ (close_model (mask_ops P) (mask_state q d)).out ≡ listed q (closed d)
    unfolding mask_state
    mask_close_out d =
        ap (λ r. listed q d ++ r.out) (sym (close_hom (ops q) (mask_ops P) (masks q) mask_hom (state_of q d))) ∙ close_out_lem q d
