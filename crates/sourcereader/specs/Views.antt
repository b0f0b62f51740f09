-- Of the code's inside, apart from the rules: how the places of the reader of sources are seen, and what its functions give for a token.
use Rattle.std.specs.Prelude.{List, Result}
use Rattle.mmtext.specs.declared.fault.Stop.{Stop}
use Rattle.mmtext.specs.declared.fault.TextFault.{TextFault}
use Rattle.mmtext.specs.Words.{Word}
use Rattle.mmtext.specs.Views.{seen, Gives}
use Rattle.source.specs.Scopes.{Stand}
use Rattle.source.specs.Faults.{Place, at_start, after_label, in_constants, in_variables, in_distinct, float_type, float_variable}
use Rattle.source.specs.Faults.{float_end, in_hypothesis, in_axiom, in_theorem, in_steps, in_labels, in_letters, Position}
use Rattle.source.specs.Views.{seen_words}
use Rattle.sourcereader.specs.declared.place.Place.{Place as CodePlace}
use Rattle.sourcereader.specs.declared.place.Place.TheVariants as code
use Rattle.sourcereader.specs.declared.place.ProofPlace.{ProofPlace}
use Rattle.sourcereader.specs.declared.place.ProofPlace.TheVariants as proof

-- a place of the code in a proof
abbrev pub seen_proof_place : Word → List Word → ProofPlace → Place
seen_proof_place label e (proof.InSteps p) = in_steps label e (seen_words p.steps.items)
seen_proof_place label e (proof.InLabels n) = in_labels label e (seen_words n.labels.items)
seen_proof_place label e (proof.InLetters p) = in_letters label e (seen_words p.numbered.labels.items) (seen_words p.letters.items)

-- a place of the code
abbrev pub seen_place : CodePlace → Place
seen_place code.AtStart = at_start
seen_place (code.AfterLabel t) = after_label (seen t)
seen_place (code.InConstants some) = in_constants some
seen_place (code.InVariables some) = in_variables some
seen_place (code.InDistinct vs) = in_distinct (seen_words vs.items)
seen_place (code.FloatType label) = float_type label.now
seen_place (code.FloatVariable label c) = float_variable label.now c.now
seen_place (code.FloatEnd f) = float_end f.label.now f.type_code.now f.variable.now
seen_place (code.InHypothesis label e) = in_hypothesis label.now (seen_words e.items)
seen_place (code.InAxiom label e) = in_axiom label.now (seen_words e.items)
seen_place (code.InTheorem label e) = in_theorem label.now (seen_words e.items)
seen_place (code.InProof o) = seen_proof_place o.theorem.label.now (seen_words o.theorem.expression.items) o.place

-- a place beside what stands there
abbrev pub standing_at : Stand → Place → Position
standing_at s place = record { stand = s; place = place }

-- a place of the code beside what stands there
abbrev pub seen_at : Stand → CodePlace → Position
seen_at s p = standing_at s (seen_place p)

-- the place that a function returned, beside what stands then, is what the table gives
abbrev pub Leads : Stand → Result CodePlace Stop → Result Position TextFault → Type 0
Leads s result read = Gives (seen_at s) result read
