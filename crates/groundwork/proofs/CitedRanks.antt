-- Whether steps cite an assertion that isn't below a rank, by the slots that they are stored as.
use Rattle.std.proofs.Common.{◌≡◌, ℕ, ◌+◌, ◌<◌, Bool, true, false, List, length, get_or, refl, sym, ap, subst, ◌∙◌, below_more, arith}
use Rattle.std.specs.Prelude.{nat_le}
use Rattle.std.proofs.lemmas.List.{get_or_default}
use Rattle.std.proofs.lemmas.List.Folds.{list_any_none}
use Rattle.std.proofs.lemmas.Slice.Zip.{AllZip-long}
use Rattle.mmsyntax.specs.declared.statement.Step.{Step}
use Rattle.mmsyntax.specs.declared.statement.Step.TheVariants.{Float, Hyp, Cite}
use Rattle.library.specs.declared.library.Ranked.{Ranked}
use Rattle.library.specs.Edits.{found, cites_not_below, is_not_below}
use Rattle.library.proofs.Places.{found_in}
use Rattle.ranges.specs.Ranges.{Has}
use Rattle.ranges.proofs.Members.{contains_from_has, any_has}
use Rattle.bodystore.specs.declared.stored.StoredStep.{StoredStep}
use Rattle.bodystore.specs.declared.stored.StoredStep.TheVariants as stored
use Rattle.cells.specs.State.{State}
use Rattle.cells.specs.Shows.{IsNamed, IsStoredAs, AreStoredAs}
use Rattle.cells.specs.Sight.{Sight, Looks, after}
use Rattle.cells.specs.Counts.{AreCitedSlots}
use Rattle.cells.specs.Lookups.{ForEach, ForEachHeld}
use Rattle.cells.proofs.Sights.{views_back, after_looks}
use Rattle.cells.proofs.Settings.{same_slots}
use Rattle.cells.proofs.Holders.{found_at}
use Rattle.cells.proofs.Asking.{item_has}
use Rattle.cells.proofs.AskingSteps.{cited_slot}
use Rattle.cells.proofs.ReadBack.{zip_at}
use Rattle.groundwork.specs.Citing.{ForEachStored, TellsNotBelow}

-- what was so of all steps that are stored as these stays so while nothing is written
pub stored_later : {O : Type 0} → (s t : Sight O) (kept : List StoredStep) (told : List Ranked → List Step → Type 0) → Looks s t
    → ForEachStored s kept told
    → ForEachStored t kept told
stored_later s t kept told looks each = λ st lib v steps stored.
    let same = subst (λ (x : State). AreStoredAs t.setting.slots x steps kept) (after_looks s t st looks) stored in
    each st lib (views_back s t st lib looks v) steps (subst (λ (n : ℕ). AreStoredAs n (after s st) steps kept) (same_slots s t looks) same)

-- ---- one step

-- whether a step that is stored as this one cites an assertion that isn't below the rank
abbrev pub IsNotBelow : {O : Type 0} → Sight O → ℕ → StoredStep → Bool → Type 0
IsNotBelow s rank x b =
    ForEach s (λ st lib. (step : Step) → IsStoredAs (IsNamed s.setting.slots st) step x → cites_not_below lib rank step ≡ b)

-- one that names no slot cites nothing
pub uncited_below : {O : Type 0} → (s : Sight O) (rank : ℕ) (x : StoredStep) → ((i : ℕ) → x ≡ stored.Slot i → ⊥) → IsNotBelow s rank x false
uncited_below s rank x other = λ st lib v step is. by_step st lib step x other is
  where
    by_step : (st : State) (lib : List Ranked) (step : Step) (x : StoredStep) → ((i : ℕ) → x ≡ stored.Slot i → ⊥)
        → IsStoredAs (IsNamed s.setting.slots (after s st)) step x → cites_not_below lib rank step ≡ false
    by_step st lib (Float i) x other is = refl
    by_step st lib (Hyp k) x other is = refl
    by_step st lib (Cite label) (stored.Float j) other is = absurd is
    by_step st lib (Cite label) (stored.Hyp j) other is = absurd is
    by_step st lib (Cite label) (stored.Slot j) other is = absurd (other j refl)

-- nothing is stored as what names no slot of the library
pub past_below : {O : Type 0} → (s : Sight O) (rank i : ℕ) (b : Bool) → (i < s.setting.slots → ⊥) → IsNotBelow s rank (stored.Slot i) b
past_below s rank i b past = λ st lib v step is. by_step st lib step is
  where
    by_step : (st : State) (lib : List Ranked) (step : Step) → IsStoredAs (IsNamed s.setting.slots (after s st)) step (stored.Slot i)
        → cites_not_below lib rank step ≡ b
    by_step st lib (Float j) is = absurd is
    by_step st lib (Hyp k) is = absurd is
    by_step st lib (Cite label) is = absurd (past is.within)

-- the rank of what a slot holds tells it of one that names the slot
pub ranked_below : {O : Type 0} → (s : Sight O) (rank i n : ℕ) (b : Bool) → ForEachHeld s i (λ st lib e. n ≡ e.rank) → nat_le rank n ≡ b
    → IsNotBelow s rank (stored.Slot i) b
ranked_below s rank i n b ranked is_so = λ st lib v step is.
    by_step st lib step (λ label named.
    let at = found_at s.setting.slots (after s st) lib v.shows v.matches.store i label v.verifies.library.distinct named in
    ap (is_not_below rank) at.found
    ∙ ap (λ (k : ℕ). nat_le rank k) (sym (ranked st lib v at.entry (found_in lib label at.entry at.found).0 at.holds)) ∙ is_so) is
  where
    by_step : (st : State) (lib : List Ranked) (step : Step)
        → ((label : List ℕ) → IsNamed s.setting.slots (after s st) i label → is_not_below rank (found lib label) ≡ b)
        → IsStoredAs (IsNamed s.setting.slots (after s st)) step (stored.Slot i) → cites_not_below lib rank step ≡ b
    by_step st lib (Float j) told is = absurd is
    by_step st lib (Hyp k) told is = absurd is
    by_step st lib (Cite label) told is = told label is

-- and tells it still while nothing is written
not_below_later : {O : Type 0} → (s t : Sight O) (rank : ℕ) (x : StoredStep) (b : Bool) → Looks s t → IsNotBelow s rank x b
    → IsNotBelow t rank x b
not_below_later s t rank x b looks told = λ st lib v step is.
    told st lib (views_back s t st lib looks v) step
    (subst (λ (y : State). IsStoredAs (IsNamed s.setting.slots y) step x) (after_looks s t st looks)
    (subst (λ (n : ℕ). IsStoredAs (IsNamed n (after t st)) step x) (same_slots s t looks) is))

-- ---- all slots that are cited

-- the first of these slots hold only what is below the rank
abbrev pub AreBelow : {O : Type 0} → Sight O → ℕ → ℕ → List ℕ → Type 0
AreBelow s rank i cited = (k : ℕ) → k < i → IsNotBelow s rank (stored.Slot (get_or cited k 0)) false

pub below_none : {O : Type 0} → (s : Sight O) (rank : ℕ) (cited : List ℕ) → AreBelow s rank 0 cited
below_none s rank cited = λ k lt. absurd (omega (arith, lt))

pub below_one_more : {O : Type 0} → (s t : Sight O) (rank i : ℕ) (cited : List ℕ) → Looks s t → AreBelow s rank i cited
    → IsNotBelow t rank (stored.Slot (get_or cited i 0)) false → AreBelow t rank (i + 1) cited
below_one_more s t rank i cited looks below one =
    below_more (λ (k : ℕ). IsNotBelow t rank (stored.Slot (get_or cited k 0)) false) i
    (λ k lt. not_below_later s t rank (stored.Slot (get_or cited k 0)) false looks (below k lt)) one

-- a slot that is listed is one that a step cites
pub is_cited : (kept : List StoredStep) (cited : List ℕ) (i : ℕ) → AreCitedSlots kept cited → i < length cited
    → Has (stored.Slot (get_or cited i 0)) kept
is_cited kept cited i are lt = are.cited (get_or cited i 0) (item_has cited i 0 lt)

-- where all of them do, no step cites what isn't below
pub tells_below : {O : Type 0} → (s : Sight O) (rank i : ℕ) (kept : List StoredStep) (cited : List ℕ) → AreCitedSlots kept cited
    → length cited ≡ i → AreBelow s rank i cited → TellsNotBelow s rank kept false
tells_below s rank i kept cited are n below = λ st lib v steps is.
    sym (list_any_none (cites_not_below lib rank) steps (λ k d lt.
    let long = AllZip-long (IsStoredAs (IsNamed s.setting.slots (after s st))) steps kept is in
    let in_kept : k < length kept = omega (arith, long, lt) in
    let at = zip_at (IsStoredAs (IsNamed s.setting.slots (after s st))) steps kept k d (stored.Float 0) is in_kept in
    of_step (get_or kept k (stored.Float 0)) (item_has kept k (stored.Float 0) in_kept) st lib v (get_or steps k d) at.0))
  where
    of_slot : (j : ℕ) → Has j cited → IsNotBelow s rank (stored.Slot j) false
    of_slot j at =
        let place = contains_from_has cited j at in
        subst (λ (m : ℕ). IsNotBelow s rank (stored.Slot m) false) (get_or_default cited place.0 0 j place.1 ∙ place.2)
        (below place.0 (omega (arith, place.1, n)))

    of_step : (x : StoredStep) → Has x kept → IsNotBelow s rank x false
    of_step (stored.Float j) at = uncited_below s rank (stored.Float j) (λ i is. absurd cc)
    of_step (stored.Hyp j) at = uncited_below s rank (stored.Hyp j) (λ i is. absurd cc)
    of_step (stored.Slot j) at = of_slot j (are.all j at)

-- where one doesn't, one does
pub tells_not_below : {O : Type 0} → (s : Sight O) (rank i : ℕ) (kept : List StoredStep) → Has (stored.Slot i) kept
    → IsNotBelow s rank (stored.Slot i) true → TellsNotBelow s rank kept true
tells_not_below s rank i kept has one = λ st lib v steps is.
    let from = cited_slot s.setting.slots steps kept (after s st) i is has in
    sym (any_has (cites_not_below lib rank) steps (Cite from.0) from.1 (one st lib v (Cite from.0) from.2))
