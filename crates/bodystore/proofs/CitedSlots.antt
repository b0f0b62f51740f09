-- The slots that steps cite.
use Rattle.std.proofs.Common.{◌≡◌, ℕ, ◌+◌, ◌<◌, zero, suc, List, [], ◌∷◌, ◌++◌, Option, Some, None, Bool, true, false, length, take, get_or}
use Rattle.std.proofs.Common.{refl, sym, subst, ap, ◌∙◌, nat_eq, eqb, inl, inr, ⊎_elim, arith, set, replicate, get_or-set_other}
use Rattle.std.specs.List.{filter_map, dedup, AllPairs}
use Rattle.std.specs.List.Sorted.{IsSorted}
use Rattle.std.specs.Ordering.{nat_cmp}
use Rattle.std.specs.Prelude.{IsPermutation}
use Rattle.std.proofs.lemmas.Bool.{cases_eq}
use Rattle.std.proofs.lemmas.List.{take_more, append-nil}
use Rattle.std.proofs.lemmas.List.Elements.{filter_map-append}
use Rattle.std.proofs.lemmas.List.Kept.{Contains-dedup_nat, Contains-from_dedup, AllPairs-from_increasing}
use Rattle.std.proofs.lemmas.List.Sorted.{IsPermutation-sym}
use Rattle.std.proofs.lemmas.Map.Keys.{IsStrictlyIncreasing-dedup}
use Rattle.mmsyntax.specs.Assertions.{Distinct}
use Rattle.ranges.specs.Ranges.{Has}
use Rattle.ranges.proofs.Members.{has_append_left, has_append_right, has_append_cases}
use Rattle.ranges.proofs.Members.{has_permutation, has_from_contains, contains_from_has, none_absent}
use Rattle.bodystore.specs.declared.stored.StoredStep.{StoredStep}
use Rattle.bodystore.specs.declared.stored.StoredStep.TheVariants.{Float, Hyp, Slot}
use Rattle.bodystore.specs.Citing.{AreCitedSlots}
use Rattle.bodystore.specs.Listing.{AreSlotsOf, AreSameSlots, AreSeen}

abbrev pub cited_slot : StoredStep → Option ℕ
cited_slot (Float i) = None
cited_slot (Hyp k) = None
cited_slot (Slot s) = Some s

-- the slots along the list, one step further
cited_more : (steps : List StoredStep) (i : ℕ) (d : StoredStep) → i < length steps
    → filter_map cited_slot (take (i + 1) steps) ≡ filter_map cited_slot (take i steps) ++ filter_map cited_slot (get_or steps i d ∷ [])
cited_more steps i d lt =
    ap (filter_map cited_slot) (take_more steps i d lt) ∙ filter_map-append cited_slot (take i steps) (get_or steps i d ∷ [])

pub cited_one : (steps : List StoredStep) (i : ℕ) (d : StoredStep) (s : ℕ) (slots more : List ℕ) → i < length steps
    → get_or steps i d ≡ Slot s
    → AreSameSlots (filter_map cited_slot (take i steps)) slots → AreSameSlots (slots ++ s ∷ []) more
    → AreSameSlots (filter_map cited_slot (take (i + 1) steps)) more
cited_one steps i d s slots more lt is before then k =
    let front = filter_map cited_slot (take i steps) in
    let on = cited_more steps i d lt ∙ ap (λ (y : StoredStep). front ++ filter_map cited_slot (y ∷ [])) is in (
      λ h. (then k).0 (⊎_elim (λ there. has_append_left slots (s ∷ []) k ((before k).0 there))
          (λ here. has_append_right slots (s ∷ []) k here)
          (has_append_cases front (s ∷ []) k (subst (Has k) on h))),
      λ h. subst (Has k) (sym on)
          (⊎_elim (λ there. has_append_left front (s ∷ []) k ((before k).1 there)) (λ here. has_append_right front (s ∷ []) k here)
          (has_append_cases slots (s ∷ []) k ((then k).1 h))),
    )

pub cited_none : (steps : List StoredStep) (i : ℕ) (d : StoredStep) → i < length steps → ((s : ℕ) → get_or steps i d ≡ Slot s → ⊥)
    → filter_map cited_slot (take (i + 1) steps) ≡ filter_map cited_slot (take i steps)
cited_none steps i d lt other =
    cited_more steps i d lt ∙ ap (λ l. filter_map cited_slot (take i steps) ++ l) (nothing (get_or steps i d) other)
    ∙ append-nil (filter_map cited_slot (take i steps))
  where
    nothing : (x : StoredStep) → ((s : ℕ) → x ≡ Slot s → ⊥) → filter_map cited_slot (x ∷ []) ≡ []
    nothing (Float j) free = refl
    nothing (Hyp k) free = refl
    nothing (Slot s) free = absurd (free s refl)

slot_cited : (steps : List StoredStep) (i : ℕ) → Has i (filter_map cited_slot steps) → Has (Slot i) steps
slot_cited [] i h = absurd h
slot_cited (Float j ∷ steps) i h = inr (slot_cited steps i h)
slot_cited (Hyp k ∷ steps) i h = inr (slot_cited steps i h)
slot_cited (Slot s ∷ steps) i (inl e) = inl (ap Slot e)
slot_cited (Slot s ∷ steps) i (inr h) = inr (slot_cited steps i h)

cited_listed : (steps : List StoredStep) (i : ℕ) → Has (Slot i) steps → Has i (filter_map cited_slot steps)
cited_listed [] i h = absurd h
cited_listed (Float j ∷ steps) i (inl e) = absurd (let z : Some i ≡ None = ap cited_slot e in cc)
cited_listed (Float j ∷ steps) i (inr h) = cited_listed steps i h
cited_listed (Hyp k ∷ steps) i (inl e) = absurd (let z : Some i ≡ None = ap cited_slot e in cc)
cited_listed (Hyp k ∷ steps) i (inr h) = cited_listed steps i h
cited_listed (Slot s ∷ steps) i (inl e) = inl (cc)
cited_listed (Slot s ∷ steps) i (inr h) = inr (cited_listed steps i h)

pub cited_all : (steps : List StoredStep) (slots : List ℕ) → AreSameSlots (filter_map cited_slot steps) slots → AreSlotsOf steps slots
cited_all steps slots same i = (λ h. (same i).0 (cited_listed steps i h), λ h. slot_cited steps i ((same i).1 h))

-- at first none is listed, and none was seen
pub none_listed : {slots : List ℕ} → slots ≡ [] → AreSameSlots [] slots
none_listed is i = (λ h. absurd h, λ h. subst (Has i) is h)

no_true : (n i : ℕ) → get_or (replicate n false) i false ≡ false
no_true zero i = refl
no_true (suc n) zero = refl
no_true (suc n) (suc i) = no_true n i

pub none_seen : {seen : List Bool} (slots : List ℕ) (n : ℕ) → seen ≡ replicate n false → AreSeen seen slots
none_seen slots n is i so = absurd (let no = sym so ∙ ap (λ (l : List Bool). get_or l i false) is ∙ no_true n i in cc)

-- one that was seen before, and one that is put behind the others
pub listed_before : (slots : List ℕ) (s : ℕ) → Has s slots → AreSameSlots (slots ++ s ∷ []) slots
listed_before slots s there i = (
  λ h. ⊎_elim (λ k. k) (λ k. ⊎_elim (λ e. subst (λ n. Has n slots) (sym e) there) (λ z. absurd z) k) (has_append_cases slots (s ∷ []) i h),
  λ h. has_append_left slots (s ∷ []) i h,
)

pub seen_more : (seen : List Bool) (slots : List ℕ) (s : ℕ) → AreSeen seen slots → AreSeen seen (slots ++ s ∷ [])
seen_more seen slots s are i is = has_append_left slots (s ∷ []) i (are i is)

pub seen_set : (seen : List Bool) (slots : List ℕ) (s : ℕ) → AreSeen seen slots → AreSeen (set seen s true) (slots ++ s ∷ [])
seen_set seen slots s are i is =
    elim (cases_eq i s) [
      | inl e ↦ has_append_right slots (s ∷ []) i (inl e)
      | inr ne ↦ has_append_left slots (s ∷ []) i (are i (sym (get_or-set_other seen s i true false ne) ∙ is))
    ]

-- numbers that ascend differ
pub distinct_pairs : (xs : List ℕ) → AllPairs (λ x y. x < y) xs → Distinct nat_eq xs
distinct_pairs [] up = tt
distinct_pairs (x ∷ xs) up = (
  none_absent xs x (λ h. let at = contains_from_has xs x h in let below = up 0 (suc at.0) x (omega arith) (omega (arith, at.1)) in
      let same = at.2 in omega (arith, below, same)),
  distinct_pairs xs
      (λ i j d lt within. up (suc i) (suc j) d (omega (arith, lt)) (omega (arith, within))),
)

-- the slots that steps cite, in another order and each once
pub are_cited : (steps : List StoredStep) (slots ordered : List ℕ) → AreSlotsOf steps slots → IsPermutation slots ordered
    → IsSorted nat_cmp ordered
    → AreCitedSlots steps (dedup eqb ordered)
are_cited steps slots ordered of m up =
    record {
      apart = distinct_pairs (dedup eqb ordered) (AllPairs-from_increasing (dedup eqb ordered) (IsStrictlyIncreasing-dedup ordered up));
      ascending = IsStrictlyIncreasing-dedup ordered up;
      cited = λ i h. (of i).1
          (has_permutation ordered slots i (IsPermutation-sym _ _ m)
          (has_from_contains ordered i (Contains-from_dedup eqb ordered i (contains_from_has (dedup eqb ordered) i h))));
      all = λ i h. has_from_contains (dedup eqb ordered) i
          (Contains-dedup_nat ordered i (contains_from_has ordered i
          (has_permutation slots ordered i m ((of i).0 h))));
    }
