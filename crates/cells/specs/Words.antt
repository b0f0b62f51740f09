-- Of the code's inside, apart from the rules: which stored steps the words of a proof can stand for, and the slots of labels that it cites.
use Rattle.std.specs.Prelude.{◌≡◌, ◌<◌, ◌^◌, ℕ, List, [], Option, Some, None, length, get_or}
use Rattle.bodystore.specs.declared.stored.StoredStep.{StoredStep}
use Rattle.bodystore.specs.declared.stored.StoredStep.TheVariants.{Float, Hyp, Slot}
use Rattle.cells.specs.Sight.{Sight}
use Rattle.cells.specs.Lookups.{Finds}

-- its place is one that a word can name, unless it cites a slot
abbrev pub HasSmallPlace : StoredStep → Type 0
HasSmallPlace (Float i) = i < 2 ^ 30
HasSmallPlace (Hyp k) = k < 2 ^ 30
HasSmallPlace (Slot s) = Unit {0}

-- beside each label the slot with the assertion that has it, where it was found
abbrev pub AreFound : {O : Type 0} → Sight O → List (List ℕ) → List (Option ℕ) → Type 0
AreFound s labels found =
    (length found ≡ length labels)
    × ((n : ℕ) (i : ℕ) → n < length labels → get_or found n None ≡ Some i → Finds s (get_or labels n []) (Some i))
