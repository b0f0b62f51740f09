-- Steps with each cited label as the slot that has it.
use Rattle.std.proofs.Common.{◌≡◌, ℕ, ◌+◌, ◌<◌, true, false, List, [], ◌∷◌, ◌++◌, Some, None, length, get_or, take, drop, refl, sym, ap, subst, ◌∙◌, inl, inr, arith, length-append}
use Rattle.std.proofs.lemmas.Grind.{common_steps}
use mathlib.Core.Bool.{not}
use Rattle.std.specs.List.{AllZip}
use Rattle.std.specs.Prelude.{Option, slice_set}
use Rattle.std.proofs.lemmas.Bool.{cases_Bool, cases_eq, cond-true, cond-false}
use Rattle.std.proofs.lemmas.List.{take_more, take_all, drop_all, append-nil, length-set, get_or-set_same, get_or-set_other}
use Rattle.std.proofs.lemmas.List.Folds.{list_any_at}
use Rattle.mmsyntax.specs.declared.statement.Step.{Step}
use Rattle.mmsyntax.specs.declared.statement.Step.TheVariants.{Cite}
use Rattle.library.specs.declared.library.Ranked.{Ranked}
use Rattle.library.specs.Edits.{is_labelled, has, found, is_of_unknown}
use Rattle.library.proofs.Places.{found_in}
use Rattle.bodystore.specs.declared.stored.StoredStep.{StoredStep}
use Rattle.bodystore.specs.declared.stored.StoredStep.TheVariants.{Slot}
use Rattle.cells.specs.Shows.{IsNamed, IsStoredAs, AreStoredAs}
use Rattle.cells.specs.Sight.{Sight, Looks, after}
use Rattle.ranges.specs.Ranges.{Has}
use Rattle.cells.specs.Lookups.{ForEach, Finds, IsFoundAt, AreWithin, StoresStep, Resolves}
use Rattle.cells.specs.Words.{AreFound}
use Rattle.ranges.proofs.Members.{has_append_cases}
use Rattle.cells.proofs.Sights.{for_each_later}
use Rattle.cells.proofs.Settings.{same_slots}

-- ---- one step

-- a label that is not found is no assertion's
none_known : (lib : List Ranked) (label : List ℕ) → found lib label ≡ None → has lib label ≡ false
none_known [] label h = refl
none_known (e ∷ lib) label h = elim (cases_Bool (is_labelled label e)) [
  | inl y ↦ absurd (let is = cond-true (is_labelled label e) (Some e) (found lib label) y in cc)
  | inr n ↦ rw n (none_known lib label (sym (cond-false (is_labelled label e) (Some e) (found lib label) n) ∙ h))
]

pub found_stored : {O : Type 0} → (s : Sight O) (label : List ℕ) (i : ℕ) (step : Step) → step ≡ Cite label → Finds s label (Some i)
    → StoresStep s step (Some (Slot i))
found_stored s label i step is finds = (within_one, told)
  where
    within_one : (j : ℕ) → Has (Slot j) (Slot i ∷ []) → j < s.setting.slots
    within_one j (inl e) = subst (λ (k : ℕ). k < s.setting.slots) (let same : i ≡ j = cc in same) finds.0
    within_one j (inr h) = absurd h

    told : ForEach s (λ st lib. IsStoredAs (IsNamed s.setting.slots st) step (Slot i))
    told st lib v =
        let f = finds.1 st lib v in
        let at = found_in lib label f.entry f.found in
        let named : IsNamed s.setting.slots (after s st) i label = subst (IsNamed s.setting.slots (after s st) i) (sym at.1) f.holds.name in
        subst (λ (x : Step). IsStoredAs (IsNamed s.setting.slots (after s st)) x (Slot i)) (sym is) named

pub none_stored : {O : Type 0} → (s : Sight O) (label : List ℕ) (step : Step) → step ≡ Cite label → Finds s label None
    → StoresStep s step None
none_stored s label step is finds = λ st lib v.
    subst (λ (x : Step). is_of_unknown lib x ≡ true) (sym is) (ap not (none_known lib label (finds st lib v)))

-- ---- the slots that were found before

-- a label that was found is found there while nothing is written
pub finds_after : {O : Type 0} → (r s : Sight O) (label : List ℕ) (i : ℕ) → Looks r s → Finds r label (Some i) → Finds s label (Some i)
finds_after r s label i looks finds = (
  subst (λ (k : ℕ). i < k) (sym (same_slots r s looks)) finds.0,
  for_each_later r s (λ st lib. IsFoundAt s.setting.slots st lib label i) looks
      (subst (λ (k : ℕ). ForEach r (λ st lib. IsFoundAt k st lib label i)) (sym (same_slots r s looks)) finds.1),
)

pub found_later : {O : Type 0} → (r s : Sight O) (labels : List (List ℕ)) (found : List (Option ℕ)) → Looks r s → AreFound r labels found
    → AreFound s labels found
found_later r s labels found looks are =
    (are.0, λ k i lt some. finds_after r s (get_or labels k []) i looks (are.1 k i lt some))

-- and one more
pub found_more : {O : Type 0} → (r s : Sight O) (labels : List (List ℕ)) (found : List (Option ℕ)) (n i : ℕ) → Looks r s → n < length labels
    → AreFound r labels found → Finds s (get_or labels n []) (Some i) → AreFound s labels (slice_set found n (Some i))
found_more r s labels found n i looks lt are one = (
  length-set found n (Some i) ∙ are.0,
  λ k j below some. elim (cases_eq k n) [
    | inl here ↦
        let at : Some i ≡ Some j = sym (get_or-set_same found n (Some i) None (let long = are.0 in omega (arith, long, lt)))
        ∙ ap (λ (m : ℕ). get_or (slice_set found n (Some i)) m None) (sym here) ∙ some in
        let same : i ≡ j = cc in
        subst (λ (m : ℕ). Finds s (get_or labels m []) (Some j)) (sym here)
        (subst (λ (m : ℕ). Finds s (get_or labels n []) (Some m)) same one)
    | inr other ↦
        finds_after r s (get_or labels k []) j looks (are.1 k j below (sym (get_or-set_other found n k (Some i) None other) ∙ some))
  ],
)

-- a list that is lent and given back with as many items
pub written_back : {A : Type 0} → (items new : List A) (n : ℕ) → n ≡ length items → length new ≡ length items
    → take n (new ++ drop (length new) items) ≡ new
written_back items new n is same =
    ap (λ rest. take n (new ++ rest)) (drop_all (length new) items (omega (arith, same))) ∙ ap (take n) (append-nil new)
    ∙ take_all n new (omega (arith, is, same))

-- ---- one after another

zip_push : {A B : Type 0} (R : A → B → Type 0) (xs : List A) (ys : List B) (x : A) (y : B) → AllZip R xs ys → R x y
    → AllZip R (xs ++ x ∷ []) (ys ++ y ∷ [])
zip_push R [] [] x y z h = (h, tt)
zip_push R [] (b ∷ bs) x y z h = absurd z
zip_push R (a ∷ more) [] x y z h = absurd z
zip_push R (a ∷ more) (b ∷ bs) x y z h = (z.0, zip_push R more bs x y z.1 h)

within_push : (slots : ℕ) (kept : List StoredStep) (y : StoredStep) → AreWithin slots kept → AreWithin slots (y ∷ [])
    → AreWithin slots (kept ++ y ∷ [])
within_push slots kept y a b i h = elim (has_append_cases kept (y ∷ []) (Slot i) h) [ inl l ↦ a i l | inr r ↦ b i r ]

-- the first steps are stored as these
abbrev pub AreResolved : {O : Type 0} → Sight O → ℕ → List Step → List StoredStep → Type 0
AreResolved s slots steps kept =
    (length kept ≡ length steps) × AreWithin slots kept × ForEach s (λ st lib. AreStoredAs slots st steps kept)

pub resolve_on : {O : Type 0} → (r s : Sight O) (slots i : ℕ) (steps : List Step) (kept more : List StoredStep) (x : Step) (y : StoredStep)
    → slots ≡ s.setting.slots
    → Looks r s → AreResolved r slots (take i steps) kept → StoresStep s x (Some y) → x ≡ get_or steps i x → i < length steps
    → more ≡ kept ++ y ∷ [] → AreResolved s slots (take (i + 1) steps) more
resolve_on r s slots i steps kept more x y is looks each stores here lt push = (counted, within, told)
  where
    counted : length more ≡ length (take (i + 1) steps)
    counted =
        let n : length (take (i + 1) steps) ≡ i + 1 = grind (arith, common_steps) in
        let m : length (take i steps) ≡ i = grind (arith, common_steps) in
        let e : length more ≡ length kept + 1 = ap (λ (zs : List StoredStep). length zs) push ∙ length-append kept (y ∷ []) in
        let f = each.0 in
        omega (arith, f)

    within : AreWithin slots more
    within = subst (AreWithin slots) (sym push)
        (within_push slots kept y each.1 (subst (λ (n : ℕ). AreWithin n (y ∷ [])) (sym is) stores.0))

    told : ForEach s (λ st lib. AreStoredAs slots st (take (i + 1) steps) more)
    told st lib v =
        let R = IsStoredAs (IsNamed slots (after s st)) in
        let before = for_each_later r s (λ z l. AreStoredAs slots z (take i steps) kept) looks each.2 st lib v in
        let new : R x y = subst (λ (n : ℕ). IsStoredAs (IsNamed n (after s st)) x y) (sym is) (stores.1 st lib v) in
        let first : take i steps ++ x ∷ [] ≡ take (i + 1) steps =
        ap (λ (z : Step). take i steps ++ z ∷ []) here ∙ sym (take_more steps i x lt) in
        subst (λ (zs : List Step). AllZip R zs more) first
        (subst (AllZip R (take i steps ++ x ∷ [])) (sym push) (zip_push R (take i steps) kept x y before new))

pub resolve_fails : {O : Type 0} → (s : Sight O) (i : ℕ) (steps : List Step) (x : Step) → StoresStep s x None → x ≡ get_or steps i x
    → i < length steps → Resolves s steps None
resolve_fails s i steps x stores here lt = λ st lib v.
    list_any_at (is_of_unknown lib) steps i x lt (subst (λ (z : Step). is_of_unknown lib z ≡ true) here (stores st lib v))

pub resolve_all : {O : Type 0} → (s : Sight O) (slots i : ℕ) (steps : List Step) (kept : List StoredStep) → slots ≡ s.setting.slots
    → length steps ≡ i
    → AreResolved s slots (take i steps) kept → Resolves s steps (Some kept)
resolve_all s slots i steps kept is n each =
    (each.0 ∙ ap (λ (zs : List Step). length zs) all, subst (λ (k : ℕ). AreWithin k kept) is each.1, told)
  where
    all : take i steps ≡ steps
    all = take_all i steps (omega (arith, n))

    told : ForEach s (λ st lib. AreStoredAs s.setting.slots st steps kept)
    told st lib v =
        subst (λ (zs : List Step). AreStoredAs s.setting.slots (after s st) zs kept) all
        (subst (λ (k : ℕ). AreStoredAs k (after s st) (take i steps) kept) is (each.2 st lib v))
