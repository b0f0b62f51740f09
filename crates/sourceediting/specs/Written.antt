-- How the text of a source is written anew with the edits of a history.
use Rattle.std.specs.Prelude.{◌≡◌, ℕ, List, All, filter_map, Option, None, if◌then◌else◌}
use Rattle.mmtext.specs.Words.{Word}
use Rattle.giving.specs.Staying.{Change}
use Rattle.items.specs.Rewriting.{IsRewritten}
use Rattle.arranging.specs.Parts.{Edited}
use Rattle.arranging.specs.Arranged.{IsArranged}
use Rattle.library.specs.declared.command.Command.{Command}
use Rattle.sourceediting.specs.Following.{Followed, KeepsPlaces}

-- the labels in the source of those that were moved
abbrev pub moved_from : Followed → Option Word
moved_from x = if x.moved then x.source else None

abbrev pub moved_in : List Followed → List Word
moved_in living = filter_map moved_from living

-- the labels in the source of those that live in the library
abbrev pub sources_of : List Followed → List Word
sources_of living = filter_map (λ x. x.source) living

-- labels change, proofs are exchanged, and assertions that were deleted leave their places; just those that were moved, and some that leave
-- a block in which others stand, are put in elsewhere; and those that were added are put in
pub record IsRearranged (living : List Followed) (gone : List Word) (cs proofs : List Change) (source out : List ℕ) : Type 0 where
  pub edited : Edited
  pub deleted : edited.gone ≡ gone
  pub moved : edited.moved ≡ moved_in living
  pub library : edited.library ≡ sources_of living
  pub arranged : IsArranged cs proofs edited source out

-- the proofs that are exchanged are as they should be. Where no command adds, moves or deletes, nothing else changes but labels
pub record IsWrittenAnew (commands : List Command) (living : List Followed) (gone : List Word) (are_others : List Change → Type 0)
    (cs : List Change) (source out : List ℕ) : Type 0 where
  pub proofs : List Change
  pub others : are_others proofs
  pub in_place : All KeepsPlaces commands → IsRewritten cs proofs source out
  pub rearranged : (All KeepsPlaces commands → ⊥) → IsRearranged living gone cs proofs source out
