-- Labels with reasons, and changed names, as contracts see them.
use Rattle.std.specs.Prelude.{ℕ, List, map}
use Rattle.std.specs.Borrow.{Bor}
use Rattle.mmsyntax.specs.declared.label.Label.{Label}
use Rattle.taking.specs.Names.{Naming}

abbrev pub told_names : List (Bor (List ℕ) × Label) → List Naming
told_names ps = map (λ p. (p.0.now, p.1)) ps
