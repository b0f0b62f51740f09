-- Of the code's inside, apart from the rules: what a reader does that may take a word where it stands.
use Rattle.std.specs.Prelude.{◌≡◌, Bool, true, false, Result, Ok, Err}
use Rattle.mmtext.specs.declared.fault.Stop.{Stop}
use Rattle.mmtext.specs.declared.fault.Stop.TheVariants as stop
use Rattle.mmtext.specs.Words.{has_dollar}
use Rattle.mmtext.specs.Text.{Token}
use Rattle.mmtext.specs.Languages.{Language}

-- whether it took a word without $ at a place, and the place then
abbrev pub TakesWord : {P A : Type 0} → Language P A → P → Token → P → Result Bool Stop → Type 0
TakesWord l p t q (Ok true) = (has_dollar t.text ≡ false) × (l.row p t ≡ Ok q)
TakesWord l p t q (Ok false) = q ≡ p
TakesWord l p t q (Err stop.Memory) = Unit {0}
TakesWord l p t q (Err (stop.Fault f)) = (has_dollar t.text ≡ false) × (l.row p t ≡ Err f)
