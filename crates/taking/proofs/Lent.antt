-- Steps that are lent, each with a number, as the steps that they are.
use Rattle.std.proofs.Common.{ℕ, List, Bor, map}
use Rattle.mmsyntax.specs.declared.statement.Step.{Step}

abbrev pub seen_steps : List (ℕ × Bor Step) → List Step
seen_steps steps = map (λ s. s.1.now) steps
