-- Which descriptions scripts give to what they add.
use Rattle.std.specs.Prelude.{ℕ, suc, Bool, false, List, [], ◌∷◌, filter, map, reverse, slice_get, slice_index_or}
use Rattle.std.specs.List.{flat_map, zip}
use Rattle.std.specs.Option.{option_map, unwrap_or}
use Rattle.mmtext.specs.Text.{Token}
use Rattle.giving.specs.Staying.{Change}
use Rattle.transaction.specs.declared.outcome.Outcome.{Outcome}
use Rattle.checking.specs.Checks.{Bytes}
use Rattle.expanding.specs.Descriptions.{Description, IsDescriptive}
use Rattle.editscripts.specs.Undone.{is_done}

-- those in the texts of scripts from the n-th on, from 0, of which these are the words by the source
abbrev pub AreDescriptiveFrom : List Bytes → ℕ → List (List Token) → List (List Description) → Type 0
AreDescriptiveFrom texts n [] [] = Unit {0}
AreDescriptiveFrom texts n (words ∷ scripts) (ds ∷ all) =
    IsDescriptive (slice_index_or texts n []) words ds × AreDescriptiveFrom texts (suc n) scripts all
AreDescriptiveFrom texts n _ _ = ⊥

abbrev pub AreDescriptive : List Bytes → List (List Token) → List (List Description) → Type 0
AreDescriptive texts scripts all = AreDescriptiveFrom texts 0 scripts all

-- a transaction of a script, from 0, was done
abbrev pub was_done : List Outcome → ℕ → Bool
was_done row k = unwrap_or (option_map is_done (slice_get row k)) false

-- the labels and comments of those that were done
abbrev pub done_of : List Outcome → List Description → List Change
done_of row ds = map (λ d. (d.label, d.comment)) (filter (λ d. was_done row d.transaction) ds)

-- of scripts: the last first, so that of several for a label the last counts
abbrev pub done_descriptions : List (List Outcome) → List (List Description) → List Change
done_descriptions rows all = reverse (flat_map (λ p. done_of p.0 p.1) (zip rows all))
