-- Of the code's inside, apart from the rules: what is always so in the middle of a statement, since its tests passed.
use Rattle.std.specs.Prelude.{◌≡◌, Bool, true, ◌&&◌, List, [], length}
use Rattle.mmtext.specs.Words.{Word, is_label}
use Rattle.source.specs.Scopes.{Scope, Stand, mandatory}
use Rattle.source.specs.Tests.{type_tests, float_tests, distinct_tests, symbol_tests, passes, all_pass, is_new_label, is_expression}
use Rattle.source.specs.Faults.{Place, at_start, after_label, in_constants, in_variables, in_distinct, float_type, float_variable}
use Rattle.source.specs.Faults.{float_end, in_hypothesis, in_axiom, in_theorem, in_steps, in_labels, in_letters}
use Rattle.source.specs.Views.{seen_words}
use Rattle.sourcereader.specs.declared.place.Place.{Place as CodePlace}
use Rattle.sourcereader.specs.declared.place.Place.TheVariants as code
use Rattle.sourcereader.specs.declared.place.ProofPlace.{ProofPlace}
use Rattle.sourcereader.specs.declared.place.ProofPlace.TheVariants as proof
use Rattle.sourcereader.specs.declared.place.Numbered.{Numbered}
use Rattle.sourcereader.specs.Views.{seen_place}
use Rattle.source.specs.Counts.{CountsSteps, CountsLetters, HaveCitations, mandatory_marks}

-- a new label, and symbols that passed
abbrev pub has_begun : Scope → Word → List Word → Bool
has_begun s label e = is_new_label s label && all_pass (symbol_tests s) [] e

-- a new label, and a whole expression
abbrev pub is_stated : Scope → Word → List Word → Bool
is_stated s label e = is_new_label s label && is_expression s e

-- the tests that a place in a statement has behind it
abbrev pub has_passed : Scope → Place → Bool
has_passed s at_start = true
has_passed s (after_label t) = is_label t.text
has_passed s (in_constants some) = s.outermost
has_passed s (in_variables some) = true
has_passed s (in_distinct vs) = all_pass (distinct_tests s) [] vs
has_passed s (float_type label) = is_new_label s label
has_passed s (float_variable label c) = is_new_label s label && passes (type_tests s c)
has_passed s (float_end label c v) = is_new_label s label && passes (type_tests s c) && passes (float_tests s v)
has_passed s (in_hypothesis label e) = has_begun s label e
has_passed s (in_axiom label e) = has_begun s label e
has_passed s (in_theorem label e) = has_begun s label e
has_passed s (in_steps label e ws) = is_stated s label e
has_passed s (in_labels label e ws) = is_stated s label e
has_passed s (in_letters label e ws ls) = is_stated s label e

-- it passed them
abbrev pub HasPassed : Scope → Place → Type 0
HasPassed s p = has_passed s p ≡ true

-- what is counted of what numbers count, in the proof of an expression
pub record IsNumbered (s : Scope) (e : List Word) (n : Numbered) : Type 0 where
  pub hypotheses : n.hypotheses ≡ length (mandatory s.hypotheses e)
  pub citations : HaveCitations s.assertions s.hypotheses (seen_words n.labels.items) n.citations.items

-- what is marked and counted in the proof of an expression
abbrev pub IsCountedProof : Scope → List Bool → List Word → ProofPlace → Type 0
IsCountedProof s marks e (proof.InSteps p) = (marks ≡ mandatory_marks s e) × CountsSteps s (seen_words p.steps.items) p.entries
IsCountedProof s marks e (proof.InLabels n) = (marks ≡ mandatory_marks s e) × IsNumbered s e n
IsCountedProof s marks e (proof.InLetters p) =
    (marks ≡ mandatory_marks s e) × IsNumbered s e p.numbered
    × CountsLetters s e (seen_words p.numbered.labels.items) (seen_words p.letters.items) p.entries

-- in an assertion the hypotheses are marked that are mandatory for its symbols so far, and what is counted of a proof is so
abbrev pub IsCounted : Scope → List Bool → CodePlace → Type 0
IsCounted s marks (code.InAxiom label e) = marks ≡ mandatory_marks s (seen_words e.items)
IsCounted s marks (code.InTheorem label e) = marks ≡ mandatory_marks s (seen_words e.items)
IsCounted s marks (code.InProof o) = IsCountedProof s marks (seen_words o.theorem.expression.items) o.place
IsCounted s marks _ = Unit {0}

-- what is so of what a reader of sources keeps
pub record IsReadySource (s : Stand) (marks : List Bool) (p : CodePlace) : Type 0 where
  pub stands : HasPassed s.scope (seen_place p)
  pub counted : IsCounted s.scope marks p
