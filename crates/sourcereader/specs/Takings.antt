-- Of the code's inside, apart from the rules: what a function does that may take a word where it stands.
use Rattle.std.specs.Prelude.{◌≡◌, Bool, true, false, List, [], ◌∷◌, ◌++◌, Option, Some, None, Result, Ok, Err}
use Rattle.mmtext.specs.declared.fault.FaultKind.{FaultKind}
use Rattle.mmtext.specs.declared.fault.Stop.{Stop}
use Rattle.mmtext.specs.declared.fault.Stop.TheVariants as stop
use Rattle.mmtext.specs.declared.fault.TextFault.{TextFault}
use Rattle.mmtext.specs.Words.{Word, has_dollar}
use Rattle.mmtext.specs.Text.{Token}
use Rattle.mmtext.specs.Languages.{fault}

-- a word behind others, or its fault
abbrev pub one_more : Token → List Word → Option FaultKind → Result (List Word) TextFault
one_more t ws None = Ok (ws ++ t.text ∷ [])
one_more t ws (Some kind) = fault t kind

-- whether a function put a word with such a fault, or none, behind others, and all then. A word with a $ is left
abbrev pub TakesItem : Token → Option FaultKind → List Word → List Word → Result Bool Stop → Type 0
TakesItem t o old new (Ok true) = (has_dollar t.text ≡ false) × (one_more t old o ≡ Ok new)
TakesItem t o old new (Ok false) = new ≡ old
TakesItem t o old new (Err stop.Memory) = Unit {0}
TakesItem t o old new (Err (stop.Fault f)) = (has_dollar t.text ≡ false) × (one_more t old o ≡ Err f)
