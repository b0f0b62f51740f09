-- What the loop of `own_of` keeps.
use Rattle.std.proofs.Common.{◌≡◌, length, map, take}
use Rattle.source.specs.Scopes.{Assertion, is_in}
use Rattle.taking.specs.Reasons.{Choice}
use Rattle.intake.specs.Intakes.{axioms_of}
use Rattle.sourceediting.specs.Following.{is_own}
use Rattle.secondlook.proofs.own.own_of.Given as goal

-- the flags so far
abbrev pub invariant-loop-place : goal.invariant-loop-place
invariant-loop-place g l = record {
  many : length l.own.items ≡ l.place;
  flags : (choice : Choice)
      → map (λ (x : Assertion). is_in choice.chosen x.label) (g.D.Declared.scope l.declared).assertions ≡ l.taken.chosen.items
      → l.own.items ≡ map (is_own choice (axioms_of l.taken)) (take l.place (g.D.Declared.scope l.declared).assertions);
}
