-- Of the code's inside, apart from the rules: the expression that a citation gives.
use Rattle.stepcheck.specs.declared.substitutes.Conclusion.{Conclusion}
use Rattle.stepcheck.specs.declared.substitutes.Conclusion.TheVariants.{Unchanged, Made}
use Rattle.derivation.specs.Derivation.{Expression}

-- the expression that a citation gives: as it stands, or what was put together
abbrev pub concluded : Conclusion → Expression → Expression
concluded (Unchanged e) made = e.now
concluded Made made = made
