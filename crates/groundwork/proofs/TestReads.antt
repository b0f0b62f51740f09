-- Which cells the tests of a proof read, from what their parts read.
use Rattle.std.proofs.Common.{◌≡◌, ℕ, List, subst, ◌<◌, length, get_or, refl}
use Rattle.mmsyntax.specs.declared.statement.Step.{Step}
use Rattle.library.specs.declared.library.Ranked.{Ranked}
use Rattle.library.specs.Library.{Setting}
use Rattle.ranges.specs.Ranges.{Has}
use Rattle.bodystore.specs.declared.stored.StoredStep.{StoredStep}
use Rattle.bodystore.specs.declared.stored.StoredStep.TheVariants.{Slot}
use Rattle.cells.specs.State.{State}
use Rattle.cells.specs.Shows.{AreStoredAs}
use Rattle.cells.specs.Sight.{Sight, Onward, Looks, ReadsWithin, after}
use Rattle.cells.specs.Lookups.{ForEach}
use Rattle.cells.specs.Slots.{rank_cell}
use Rattle.cells.specs.Counts.{AreCitedSlots}
use Rattle.cells.proofs.Asking.{asks_wider, asks_cell}
use Rattle.cells.proofs.AskingSteps.{cited_slot}
use Rattle.cells.proofs.Sights.{matches_back, after_looks, setting_kept}
use Rattle.groundwork.specs.Footprints.{IsOfCited, IsOfProofTest, IsRankOfSteps}
use Rattle.groundwork.proofs.CitedRanks.{is_cited}
use Rattle.groundwork.proofs.Seeing.{views_later}
use Rattle.groundwork.proofs.Since.{ReadsSince}

-- what the tests may read
abbrev pub OfTest : {O : Type 0} → Sight O → List Step → State → List Ranked → ℕ → Type 0
OfTest old steps st lib c = IsOfProofTest old.setting.slots st lib steps c

-- a call that reads a cell of each slot that the stored steps cite
pub since_cited : {O : Type 0} → (such : State → List Ranked → ℕ
    → Type 0) (s0 s1 s t : Sight O) (steps : List Step) (kept : List StoredStep)
    (cell : ℕ → ℕ) → Looks s0 s1 → Looks s1 s → Onward s t → ForEach s1 (λ st lib. AreStoredAs s1.setting.slots st steps kept)
    → ((st : State) (lib : List Ranked) (c : ℕ) → IsOfCited s0.setting.slots st lib cell steps c → such st lib c)
    → ReadsWithin (λ c. (j : ℕ) × Has (Slot j) kept × (c ≡ cell j)) s t → ReadsSince such s0 s t
since_cited such s0 s1 s t steps kept cell first later on stored wider reads st lib m v =
    let m1 = matches_back s1 s st later.onward (matches_back s t st on m) in
    let are : AreStoredAs s0.setting.slots (after s0 st) steps kept =
    subst (λ (x : State). AreStoredAs s0.setting.slots x steps kept) (after_looks s0 s1 st first)
    (subst (λ (x : Setting). AreStoredAs x.slots (after s1 st) steps kept) (setting_kept first.onward)
    (stored st lib (views_later s0 s1 st lib first m1 v))) in
    asks_wider
    (λ c k. let n = cited_slot s0.setting.slots steps kept (after s0 st) k.0 are k.1 in wider (after s0 st) lib c (
      n.0,
      k.0,
      n.1,
      n.2,
      k.2,
    )) reads

-- the rank of a slot that is listed as cited
pub rank_of_one : {O : Type 0} → {s t : Sight O} → (kept : List StoredStep) (cited : List ℕ) (i : ℕ) → AreCitedSlots kept cited
    → i < length cited
    → ReadsWithin (λ c. c ≡ rank_cell (get_or cited i 0)) s t → ReadsWithin (IsRankOfSteps kept) s t
rank_of_one kept cited i are lt asks = asks_cell (get_or cited i 0, is_cited kept cited i are lt, refl) asks
