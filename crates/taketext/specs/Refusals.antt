-- The line of a refusal.
use Rattle.std.specs.Prelude.{ℕ, List, ◌++◌, Option, Some, None, codes}
use Rattle.std.specs.Option.{option_map}
use Rattle.std.specs.Fmt.{decimal}
use Rattle.mmtext.specs.Words.{Word}
use Rattle.derivation.specs.declared.fault.ProofFault.{ProofFault}
use Rattle.locating.specs.Steps.{theorem_at}
use Rattle.locating.specs.Rules.{proof_rule}
use Rattle.locating.specs.Told.{shown, labelled, told_rule, told_at, fault_text, source_line, proof_fault_text}
use Rattle.drafts.specs.declared.limits.Limit.{Limit}
use Rattle.drafts.specs.declared.limits.Limit.TheVariants as limit
use Rattle.intake.specs.declared.refusal.Refusal.{Refusal}
use Rattle.intake.specs.declared.refusal.Refusal.TheVariants as refusal

abbrev pub limit_text : Limit → List ℕ
limit_text (limit.ManyConstants n) = decimal n ++ codes " constants: more than 65535"
limit_text (limit.ManyVariables n) = decimal n ++ codes " variables: more than 65535"
limit_text (limit.ManyFloats n) = decimal n ++ codes " $f: more than 65535"
limit_text (limit.ManyAssertions n) = decimal n ++ codes " assertions: more than 4096"
limit_text (limit.LongConstant i) = codes "a name of over 255 bytes"
limit_text (limit.LongVariable i) = codes "a name of over 255 bytes"
limit_text (limit.LongFloat i) = codes "a name of over 255 bytes"
limit_text (limit.LongLabel i) = codes "a name of over 255 bytes"
limit_text (limit.ManyHypotheses i) = codes "more than 1000 hypotheses"
limit_text (limit.ManySymbols i) = codes "an expression of more than 65535 symbols"
limit_text (limit.ManyPairs i) = codes "more than 65535 pairs"
limit_text (limit.ManySteps i) = codes "a proof of more than 16384 steps"

-- at a constant, $f or assertion of the source, if it is at one
abbrev pub at_name : Option (List ℕ) → List ℕ → List ℕ
at_name (Some name) text = shown name ++ (codes ": " ++ text)
at_name None text = text

-- as programs know it
abbrev pub refusal_text : Refusal → List ℕ
refusal_text (refusal.Source fault) = fault_text fault
refusal_text (refusal.UnknownLabel label) = codes "no assertion " ++ shown label.now
refusal_text refusal.Backwards = codes "the first label stands behind the second"
refusal_text (refusal.TooMany n) = decimal n ++ codes " assertions: more than 4096"
refusal_text refusal.TooWide = codes "more than 65535 constants or $f"
refusal_text (refusal.NoFreshName word) = codes "no free name for " ++ shown word.now
refusal_text (refusal.Passes limit name) = at_name (option_map (λ w. w.now) name) (limit_text limit)
refusal_text refusal.Unlawful = codes "what is taken is not of the profile"
refusal_text (refusal.Proof label fault) = proof_fault_text label fault
refusal_text refusal.NoMemory = codes "no memory"

-- the steps of a proof of the library aren't the source's, so it is told at the theorem's label
abbrev pub taken_proof_line : List ℕ → List ℕ → Word → ProofFault → List ℕ
taken_proof_line path source label fault =
    told_at path source (theorem_at source label)
    (labelled (Some label) (told_rule (proof_rule fault.kind) (proof_fault_text label fault)))

-- behind the path of the source and, of a fault, where in its text that is; want of memory has none
abbrev pub refusal_line : List ℕ → List ℕ → Refusal → List ℕ
refusal_line path source (refusal.Source fault) = source_line path source fault
refusal_line path source (refusal.Proof label fault) = taken_proof_line path source label fault
refusal_line path source refusal.NoMemory = codes "no memory"
refusal_line path source why = path ++ (codes ": " ++ refusal_text why)

-- the library's text would be longer than a text of the profile, by so many bytes in all
abbrev pub long_line : List ℕ → ℕ → List ℕ
long_line path n = path ++ (codes ": a library of " ++ (decimal n ++ codes " bytes: more than 16777216"))
