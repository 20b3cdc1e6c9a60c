-- The XML declaration is read.
--
--   told_as o           the state behind '<?xml' or behind a part's value
--   told_leads         the declaration as far as a part;  piece_leads: with blanks behind it
--   part_leads         and as far as the next part's name;  equals_leads: and its '=';  quote_leads: and its opening quote
--   decl_end           and as far as its '?';  decl_leads: the whole declaration
--
-- Assumes nothing. NOT here: what stands before and behind it (Leads.Whole).
use Rattle.std.specs.Prelude.{ℕ, ◌≡◌, Bool}
use Rattle.std.proofs.Math.Path.{refl}
use Rattle.std.proofs.Common.{sym, subst}
use Rattle.std.proofs.Math.Bool.{true, false}
use Rattle.std.proofs.Math.Option.{Option, none, some}
use mathlib.Core.List.{List, [], ◌∷◌, ◌++◌, append_assoc}
use Rattle.std.proofs.Math.Dec.{T}
use Rattle.choice.specs.When.{when}
use Rattle.xml.specs.Class.{in_class, In, OneOf, word, disjoint, disjoint_ranges, out_of, all_apart, waiting}
use Rattle.xml.proofs.Class.Laws.{and_l, waiting_sound, waiting_filled}
use Rattle.xml.specs.Chars.{blank, quote}
use Rattle.xml.specs.Refused.{misplaced, instruction}
use Rattle.xml.specs.Grammar.{Limits, Part, version, encoding, standalone, part_name, part_values, may_follow, Each, S, Eq, eq, Told, begun, part, b0}
use Rattle.xml.specs.Machine.{Place, State, goes, pick, step, then_byte, part_refusal}
use Rattle.reading.specs.Account.{part_first, part_rest, name_parts}
use Rattle.reading.specs.Account.Done.{values_waiting}
use Rattle.reading.specs.Leads.{pick_arms, past, check_true, Leads, byte, leads_append, one, by_class, by_rows, by_word, each_leads}
use Rattle.reading.specs.Leads.Data.{byte_leads, s_leads, blanks_then}

abbrev pub told_as : Option Part → State
told_as none = State.declared
told_as (some k) = State.told k

module _ (L : Limits) where
  pub told_blank : (o : Option Part) (b : ℕ) → In blank b → step L (told_as o) b ≡ goes [] (State.apiece o)
  unfolding past pick_arms disjoint out_of disjoint_ranges
  told_blank none b h = by_class L State.declared blank _ _ refl h
  told_blank (some k) b h = by_class L (State.told k) blank _ _ refl h

  pub apiece_blank : (o : Option Part) (b : ℕ) → In blank b → step L (State.apiece o) b ≡ goes [] (State.apiece o)
  unfolding past pick_arms disjoint out_of disjoint_ranges
  apiece_blank o b h = by_class L (State.apiece o) blank _ _ refl h

  module _ (o : Option Part) (k : Part) where
    part_eq_blank : (b : ℕ) → In blank b → step L (State.part_eq o k) b ≡ goes [] (State.part_eq o k)
    unfolding past pick_arms disjoint out_of disjoint_ranges
    part_eq_blank b h = by_class L (State.part_eq o k) blank _ _ refl h

    part_val_blank : (b : ℕ) → In blank b → step L (State.part_val o k) b ≡ goes [] (State.part_val o k)
    unfolding past pick_arms disjoint out_of disjoint_ranges
    part_val_blank b h = by_class L (State.part_val o k) blank _ _ refl h

    pub blanks_lead : {u : List ℕ} → Each blank u → Leads L (State.part_eq o k) u [] (State.part_eq o k)
    blanks_lead e = each_leads L blank (State.part_eq o k) part_eq_blank e

    pub equals_leads : {u : List ℕ} → Eq u → Leads L (State.part_eq o k) u [] (State.part_val o k)
    unfolding in_class step pick when
    equals_leads (eq e f) = leads_append L (blanks_lead e) (byte refl (each_leads L blank (State.part_val o k) part_val_blank f))

    pub quote_leads : (q : Bool) → step L (State.part_val o k) (quote q) ≡ goes [] (State.rows (part_values k (quote q)) (part_refusal k) [] (State.told k))
    unfolding in_class step pick when
    quote_leads true = refl
    quote_leads false = refl

    pub value_leads : {w : List ℕ} (q : Bool) → OneOf (part_values k (quote q)) w → Leads L (State.part_val o k) (quote q ∷ w) [] (State.told k)
    unfolding past
    value_leads {w} q h =
        let rs = part_values k (quote q) in
        let t : T (waiting rs) = values_waiting k q in
        byte (quote_leads q)
        (by_rows L (State.rows rs (part_refusal k) [] (State.told k)) (State.told k) rs (part_refusal k) [] w refl
        (and_l (all_apart rs) _ (waiting_sound rs t)) (waiting_filled rs t) h)

  -- the first byte of a part's name
  pub name_byte_lem :
      (o : Option Part) (k : Part)
      → T (may_follow o k)
      → step L (State.apiece o) (part_first k) ≡ goes [] (State.rows (word (part_rest k) ∷ []) misplaced [] (State.part_eq o k))
  unfolding in_class step pick when
  name_byte_lem o version x = check_true _ misplaced _ x
  name_byte_lem o encoding x = check_true _ misplaced _ x
  name_byte_lem o standalone x = check_true _ misplaced _ x

  rest_leads :
      (o : Option Part) (k : Part) → Leads L (State.rows (word (part_rest k) ∷ []) misplaced [] (State.part_eq o k)) (part_rest k) [] (State.part_eq o k)
  rest_leads o version = by_word L _ (State.part_eq o version) _ _ misplaced [] refl
  rest_leads o encoding = by_word L _ (State.part_eq o encoding) _ _ misplaced [] refl
  rest_leads o standalone = by_word L _ (State.part_eq o standalone) _ _ misplaced [] refl

  pub name_leads : (o : Option Part) (k : Part) → T (may_follow o k) → Leads L (State.apiece o) (part_name k) [] (State.part_eq o k)
  name_leads o k x = subst (λ z. Leads L (State.apiece o) z [] (State.part_eq o k)) (sym (name_parts k)) (byte (name_byte_lem o k x) (rest_leads o k))

  module _ (j : State) (e : step L j 60 ≡ goes [] State.opening) where
    pub xml_leads : Leads L j (60 ∷ 63 ∷ []) [] (State.rows (word (120 ∷ 109 ∷ 108 ∷ []) ∷ []) instruction [] State.declared)
    unfolding step pick when
    xml_leads = byte e (one L refl)

    pub told_leads : {o : Option Part} {u : List ℕ} → Told o u → Leads L j u [] (told_as o)
    told_leads begun = leads_append L xml_leads (by_word L _ State.declared _ _ instruction [] refl)
    told_leads (part {o = o} k q t x u v w) =
        leads_append L (told_leads t)
        (leads_append L
        (s_leads L (told_as o) (State.apiece o) (told_blank o) (apiece_blank o) u)
        (leads_append L (name_leads o k x) (leads_append L (equals_leads o k v) (value_leads o k q w))))

    pub piece_leads : {o : Option Part} {u v : List ℕ} → Told o u → S v → Leads L j (u ++ v) [] (State.apiece o)
    piece_leads {o} t f = leads_append L (told_leads t) (s_leads L (told_as o) (State.apiece o) (told_blank o) (apiece_blank o) f)

    pub part_leads :
        {o : Option Part} {u v : List ℕ} (k : Part) → Told o u → T (may_follow o k) → S v → Leads L j (u ++ (v ++ part_name k)) [] (State.part_eq o k)
    part_leads {o} {u} {v} k t x f =
        subst (λ z. Leads L j z [] (State.part_eq o k)) (append_assoc u v (part_name k)) (leads_append L (piece_leads t f) (name_leads o k x))

    pub decl_end :
        {k : Part} {t u : List ℕ} → Told (some k) t → Each blank u → Leads L j (t ++ (u ++ (63 ∷ []))) [] (then_byte 62 [] (State.at Place.before b0))
    unfolding in_class step pick when
    decl_end {k} t f =
        leads_append L (told_leads t)
        (blanks_then L (State.told k) (State.apiece (some k)) (told_blank (some k)) (apiece_blank (some k)) 63 f refl refl)

    pub decl_leads : {k : Part} {t u : List ℕ} → Told (some k) t → Each blank u → Leads L j (t ++ (u ++ (63 ∷ 62 ∷ []))) [] (State.at Place.before b0)
    decl_leads {k} {t} {u} d f =
        subst (λ z. Leads L j z [] (State.at Place.before b0)) (simp append_assoc)
        (leads_append L (decl_end d f) (byte_leads L 62 [] (State.at Place.before b0)))
