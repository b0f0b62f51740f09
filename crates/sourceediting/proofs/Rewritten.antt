-- A text that is written anew.
use Rattle.std.proofs.Common.{◌≡◌, ℕ, List, refl, subst, sym}
use Rattle.std.specs.Prelude.{All}
use Rattle.mmtext.specs.Words.{Word}
use Rattle.giving.specs.Staying.{Change}
use Rattle.items.specs.Rewriting.{IsRewritten}
use Rattle.library.specs.declared.command.Command.{Command}
use Rattle.sourceediting.specs.Following.{Followed, KeepsPlaces}
use Rattle.sourceediting.specs.Written.{IsRearranged, IsWrittenAnew}

module _ (commands : List Command) (living : List Followed) (gone : List Word) (cs : List Change) (source out : List ℕ) where
  -- just labels and proofs change
  pub only_rewritten : (proofs : List Change) → All KeepsPlaces commands → IsRewritten cs proofs source out
      → IsWrittenAnew commands living gone (λ ps. ps ≡ proofs) cs source out
  only_rewritten proofs all rewritten = record {
    proofs = proofs;
    others = refl;
    in_place = λ _. rewritten;
    rearranged = λ some. absurd (some all);
  }

  -- some command adds, moves or deletes
  pub all_rearranged : (proofs : List Change) → (All KeepsPlaces commands → ⊥) → IsRearranged living gone cs proofs source out
      → IsWrittenAnew commands living gone (λ ps. ps ≡ proofs) cs source out
  all_rearranged proofs some rearranged = record {
    proofs = proofs;
    others = refl;
    in_place = λ all. absurd (some all);
    rearranged = λ _. rearranged;
  }

  -- where just these proofs are exchanged, they are as they are
  pub by_others : (are_others : List Change → Type 0) (proofs : List Change) → are_others proofs
      → IsWrittenAnew commands living gone (λ ps. ps ≡ proofs) cs source out → IsWrittenAnew commands living gone are_others cs source out
  by_others are_others proofs are h = record {
    proofs = h.proofs;
    others = subst are_others (sym h.others) are;
    in_place = h.in_place;
    rearranged = h.rearranged;
  }
