-- The law of needs: in a closed row each node is selected exactly if its need is met around the row.
--
--   value_up         what is needed inside an element, and what that becomes around it, are met together
--   marks_needs      the marks of a closed row are the values of its needs
--
-- Assumes nothing.
use Rattle.std.specs.Prelude.{◌≡◌, refl, Bool, true, false, ◌&&◌, ◌||◌, ◌∷◌, ◌++◌, map, eqb}
use Rattle.std.proofs.Common.{sym, ap, ap₂, ◌∙◌}
use Rattle.std.proofs.Math.Path.{fun_ext}
use Rattle.std.proofs.lemmas.Simd.{map-map}
use Rattle.std.proofs.lemmas.List.{map-append}
use Rattle.meaning.specs.Query.{Query, Steps, any_step, goes_deep, last_main}
use Rattle.meaning.specs.Document.{Row, nil, el}
use Rattle.meaning.specs.Selection.{meets, met_row, Ready, given, turn, marks_row}
use Rattle.plan.specs.Any.{any_cong, any_or, any_and, any_and_right, any_swap}
use Rattle.engine.specs.Need.{Need, itself, one_of, value, wanted, up, needs}

last_given_lem : (e m a r : Bool) → (e && (m && (a && r))) ≡ (m && ((e && a) && r))
last_given_lem true m a r = refl
last_given_lem false true a r = refl
last_given_lem false false a r = refl

-- a step needed inside: its turn comes there because the step before it was given, or because it stays
comes_or_stays : (m n g d r : Bool) → (m && (n && ((m && g) || (d && r)))) ≡ (((m && n) && g) || (m && ((d && n) && r)))
comes_or_stays true true true d r = refl
comes_or_stays true true false true r = refl
comes_or_stays true true false false r = refl
comes_or_stays true false g true r = refl
comes_or_stays true false g false r = refl
comes_or_stays false n g d r = refl

given_or_stays : (m w a s r : Bool) → (m && (((w && a) || s) && r)) ≡ ((w && (m && (a && r))) || (m && (s && r)))
given_or_stays true true true true true = refl
given_or_stays true true true true false = refl
given_or_stays true true true false true = refl
given_or_stays true true true false false = refl
given_or_stays true true false s r = refl
given_or_stays true false a s r = refl
given_or_stays false true a s r = refl
given_or_stays false false a s r = refl

regroup : (c e g : Bool) → (c && (e && g)) ≡ ((c && e) && g)
regroup true e g = refl
regroup false e g = refl

-- some step that N needs hangs on a given one exactly if some given step is wanted
given_wanted :
    (q : Query) (M r N : Steps) →
    any_step q 1 (λ t j. (t.main && N t j) && given q M r t.parent)
    ≡ any_step q 1 (λ st i. wanted q N i && (st.main && (M st i && r st i)))
unfolding given wanted
given_wanted q M r N =
    any_cong q 1 _ _ (λ t j. sym (any_and q 1 (t.main && N t j) _))
    ∙ any_swap q q 1 1 _
    ∙ any_cong q 1 _ _
    (λ st i. any_cong q 1 _ _ (λ t j. regroup (t.main && N t j) (eqb i t.parent) _) ∙ any_and_right q 1 _ (st.main && (M st i && r st i)))

pub value_up : (q : Query) (M : Steps) (r : Ready) (n : Need) → value q (turn q M r) n ≡ value q r (up q M n)
unfolding value turn up
value_up q M r itself =
    unfold given in any_cong q 1 _ _ (λ st i. last_given_lem (eqb i (last_main q)) st.main (M st i) (r.steps st i))
value_up q M r (one_of N) =
    any_cong q 1 _ _ (λ st i. comes_or_stays st.main (N st i) _ (goes_deep st.axis) (r.steps st i))
    ∙ any_or q 1 (λ t j. (t.main && N t j) && given q M r.steps t.parent) stays
    ∙ ap (λ x. x || any_step q 1 stays) (given_wanted q M r.steps N)
    ∙ sym (any_or q 1 (λ st i. wanted q N i && (st.main && (M st i && r.steps st i))) stays)
    ∙ any_cong q 1 _ _
    (λ st i. sym (given_or_stays st.main (wanted q N i) (M st i) (goes_deep st.axis && N st i) (r.steps st i)))
  where
    stays : Steps
    stays st i = st.main && ((goes_deep st.axis && N st i) && r.steps st i)

value_itself : (q : Query) (r : Ready) → r.end ≡ value q r itself
unfolding value
value_itself q r = refl

pub marks_needs : (q : Query) (f : Row) (r : Ready) → marks_row q f r ≡ map (value q r) (needs q f)
unfolding marks_row needs
marks_needs q nil r = refl
marks_needs q (el p x k) r =
    ap₂ ◌++◌ (marks_needs q p r)
    (ap₂ ◌∷◌ (value_itself q _ ∙ value_up q M r itself)
    (marks_needs q k _ ∙ ap (λ h. map h (needs q k)) (fun_ext (value_up q M r)) ∙ sym (map-map (value q r) (up q M) (needs q k))))
    ∙ sym (map-append (value q r) (needs q p) _)
  where
    M : Steps
    M = meets q false x (met_row q k)
