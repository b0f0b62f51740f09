-- Of the code's inside, apart from the rules: what a function does that may take a word where it stands.
use Rattle.std.specs.Prelude.{◌≡◌, ◌<◌, Bool, true, false, List, [], ◌∷◌, ◌++◌, Result, Ok, Err}
use Rattle.mmtext.specs.declared.fault.FaultKind.{FaultKind}
use Rattle.mmtext.specs.declared.fault.TextFault.{TextFault}
use Rattle.mmtext.specs.declared.fault.Stop.{Stop}
use Rattle.mmtext.specs.declared.fault.Stop.TheVariants as stop
use Rattle.mmtext.specs.declared.mark.Mark.TheVariants as mark
use Rattle.mmtext.specs.Words.{Word, has_dollar}
use Rattle.mmtext.specs.Text.{Token}
use Rattle.mmtext.specs.Languages.{fault}
use Rattle.mmsyntax.specs.declared.statement.Step.{Step}
use Rattle.mmsyntax.specs.declared.statement.Step.TheVariants.{Float, Hyp, Cite}
use Rattle.mmsyntax.specs.Rows.{Known}
use Rattle.mmsyntax.specs.Faults.{Place, in_place}
use Rattle.statementreader.specs.declared.steps.Named.{Named}
use Rattle.statementreader.specs.declared.steps.Named.TheVariants as named
use Rattle.mmsyntax.specs.declared.limits.TheConstants.{MOST_DECLARED, MOST_HYPOTHESES}

-- what a word gives put behind others, or its fault
abbrev pub pushed : {A : Type 0} → Token → List A → Result A FaultKind → Result (List A) TextFault
pushed t xs (Ok x) = Ok (xs ++ x ∷ [])
pushed t xs (Err kind) = fault t kind

-- whether it put what the word is behind others, and all then. A word with a $ is left
abbrev pub TakesItem : {A : Type 0} → Token → List A → List A → Result A FaultKind → Result Bool Stop → Type 0
TakesItem t old new given (Ok true) = (has_dollar t.text ≡ false) × (pushed t old given ≡ Ok new)
TakesItem t old new given (Ok false) = new ≡ old
TakesItem t old new given (Err stop.Memory) = Unit {0}
TakesItem t old new given (Err (stop.Fault f)) = (has_dollar t.text ≡ false) × (pushed t old given ≡ Err f)

-- whether it took the word at a place, and the place then
abbrev pub TakesWordAt : Known → Place → Token → Place → Result Bool Stop → Type 0
TakesWordAt k p t q (Ok true) = (has_dollar t.text ≡ false) × (in_place k p t mark.Plain ≡ Ok (record { known = k; place = q }))
TakesWordAt k p t q (Ok false) = q ≡ p
TakesWordAt k p t q (Err stop.Memory) = Unit {0}
TakesWordAt k p t q (Err (stop.Fault f)) = (has_dollar t.text ≡ false) × (in_place k p t mark.Plain ≡ Err f)

-- the step that a word is by what it names
abbrev pub step_as : Word → Named → Step
step_as w (named.Float j) = Float j
step_as w (named.Hyp n) = Hyp n
step_as w named.Assertion = Cite w

-- one of 65,535 $f, or of 1,000 hypotheses
abbrev pub IsSmallNamed : Named → Type 0
IsSmallNamed (named.Float j) = j < MOST_DECLARED
IsSmallNamed (named.Hyp n) = n < MOST_HYPOTHESES
IsSmallNamed named.Assertion = Unit {0}

-- that step, or the fault
abbrev pub step_or_fault : Word → Result Named FaultKind → Result Step FaultKind
step_or_fault w (Ok n) = Ok (step_as w n)
step_or_fault w (Err kind) = Err kind
