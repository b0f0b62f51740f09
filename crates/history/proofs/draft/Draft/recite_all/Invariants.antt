use Rattle.std.proofs.Common.{◌≡◌, ℕ, drop}
use Rattle.std.specs.List.{Contains}
use Rattle.catalog.specs.Citers.{IsCiter}
use Rattle.catalog.specs.Places.{StandsAt}
use Rattle.catalog.specs.Changes.{citing}
use Rattle.history.specs.Drafts.{KeepsStart}
use Rattle.catalog.proofs.Reciting.{changed_each}
use Rattle.history.proofs.draft.Draft.recite_all.Given as goal

-- what is left to rename leads to the same library
abbrev pub invariant-loop-place : goal.invariant-loop-place
invariant-loop-place l =
    record {
      renamed : changed_each (drop l.place-index l.citers) (citing l.old l.new) l.self.entries
          ≡ changed_each l.citers (citing l.old l.new) l.initial.self.entries;
      listed : (p : ℕ) × StandsAt l.self.entries l.new p × ((q : ℕ) → Contains l.citers q → IsCiter l.self.citers p q);
      kept : KeepsStart l.initial.self l.self;
    }
