-- Assertions of the source that a walk over the library's met.
use Rattle.std.proofs.Common.{◌≡◌, ℕ, List, [], ◌∷◌, ◌++◌, Some, refl, sym, ap, subst}
use Rattle.std.specs.Prelude.{All, Contains}
use Rattle.std.specs.Option.{option_map}
use Rattle.std.specs.Borrow.{Bor}
use Rattle.std.proofs.lemmas.List.Elements.{All-push, All-nil, All-map}
use Rattle.source.specs.Views.{seen_pairs}
use Rattle.giving.specs.Staying.{Change}
use Rattle.sourceediting.specs.Following.{Followed}
use Rattle.sourceediting.specs.declared.following.Followed.{Followed as KeptAssertion}
use Rattle.sourceediting.specs.declared.moving.LibraryWalk.{LibraryWalk}
use Rattle.sourceediting.specs.declared.moving.Row.{Row}
use Rattle.sourceediting.specs.Refusals.{IsKnownAs}
use Rattle.sourceediting.specs.Views.{seen_followed, AreKnown, AreMembers, HasKnown}

module _ (living : List Followed) where
  abbrev is_member : Bor (List ℕ) × Bor (List ℕ) → Type 0
  is_member m = IsKnownAs living m.1.now (Some m.0.now)

  pub no_members : AreMembers living []
  no_members = All-nil is_member

  pub one_member : (ms ns : List (Bor (List ℕ) × Bor (List ℕ))) (m : Bor (List ℕ) × Bor (List ℕ)) → AreMembers living ms
      → IsKnownAs living m.1.now (Some m.0.now) → ns ≡ ms ++ m ∷ [] → AreMembers living ns
  one_member ms ns m all is e = subst (AreMembers living) (sym e) (All-push is_member ms m all is)

  -- their labels, as a map has them
  pub labels_known : (ms : List (Bor (List ℕ) × Bor (List ℕ))) (cs : List Change) → AreMembers living ms → cs ≡ seen_pairs ms
      → AreKnown living cs
  labels_known ms cs all e =
      subst (AreKnown living) (sym e) (All-map (λ (c : Change). IsKnownAs living c.1 (Some c.0)) (λ p. (p.0.now, p.1.now)) ms all)

  -- one of those that live
  pub member_of : (f : KeptAssertion) (source : Bor (List ℕ)) → Contains living (seen_followed f) → f.source ≡ Some source
      → IsKnownAs living f.now.now (Some source.now)
  member_of f source lives e = record {
    followed = seen_followed f;
    lives = lives;
    now = refl;
    in_source = ap (option_map (λ w. w.now)) e;
  }

  -- before any was met
  pub none_met : (w : LibraryWalk) → w.moved.items ≡ [] → w.parted.items ≡ [] → w.row.members.items ≡ [] → HasKnown living w
  none_met w moved parted row = record {
    moved = subst (AreMembers living) (sym moved) no_members;
    parted =
        subst (All (λ (r : Row). AreMembers living r.members.items)) (sym parted)
        (All-nil (λ (r : Row). AreMembers living r.members.items));
    row = subst (AreMembers living) (sym row) no_members;
  }
