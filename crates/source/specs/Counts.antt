-- While the words of an assertion are read: which hypotheses are mandatory so far; that the steps of its proof so far are there, how many
-- entries they left on the stack, and whether a mark may stand behind them.
use Rattle.std.specs.Prelude.{◌≡◌, ℕ, Bool, true, false, List, [], ◌∷◌, ◌++◌, map, length, find, replicate, Option, Some, None}
use Rattle.std.specs.Prelude.{if◌then◌else◌, ◌⊎◌, ◌-◌, ◌^◌}
use Rattle.std.specs.Option.{option_map}
use Rattle.std.specs.List.{list_any, flat_map}
use Rattle.std.specs.Str.{bytes_eq}
use Rattle.mmtext.specs.Words.{Word}
use Rattle.source.specs.declared.letters.Code.{Code}
use Rattle.source.specs.declared.entries.Citation.{Citation}
use Rattle.source.specs.declared.entries.Citation.TheVariants as citation
use Rattle.source.specs.declared.entries.Entries.{Entries}
use Rattle.source.specs.Scopes.{Hypothesis, label_of, Assertion, Scope, is_mandatory}
use Rattle.source.specs.Letters.{decoded}
use Rattle.source.specs.Proofs.{Step, step_of_word, step_of, may_be_marked, is_placed, are_marks_placed, Stack, empty, stepped, run_steps}
use Rattle.source.specs.Proofs.{there}
use Rattle.source.specs.Tests.{numbered_labels}

-- which of the active hypotheses are mandatory for an expression
abbrev pub mandatory_marks : Scope → List Word → List Bool
mandatory_marks s e = map (is_mandatory s.hypotheses e) s.hypotheses

-- ---- what labels name

-- an active hypothesis, or an earlier assertion with so many mandatory ones
abbrev pub citation_of : List Assertion → List Hypothesis → Word → Option Citation
citation_of earlier active w =
    if list_any (λ h. bytes_eq w (label_of h)) active then Some citation.Hypothesis
    else option_map (λ a. citation.Assertion (length a.hypotheses)) (find (λ a. bytes_eq w a.label) earlier)

-- labels name so
abbrev pub HaveCitations : List Assertion → List Hypothesis → List Word → List Citation → Type 0
HaveCitations earlier active ws citations = map (citation_of earlier active) ws ≡ map (λ c. Some c) citations

-- the labels that numbers count, of which the first ones are those of so many hypotheses
abbrev pub CountNumbers : List Assertion → List Hypothesis → List Word → ℕ → List Citation → Type 0
CountNumbers earlier active labels hypotheses citations =
    HaveCitations earlier active labels (replicate hypotheses citation.Hypothesis ++ citations)

-- ---- what steps leave

-- how many entries a stack has, and how many are marked
abbrev pub counts : Option (Stack (Unit {0})) → Option (ℕ × ℕ)
counts s = option_map (λ s. (length s.entries, length s.marked)) s

-- a mark may stand behind the last step
abbrev pub are_markable : List Hypothesis → List Step → Bool
are_markable active [] = false
are_markable active (x ∷ []) = may_be_marked active x
are_markable active (x ∷ y ∷ ys) = are_markable active (y ∷ ys)

-- the steps so far are there
pub record StepsAreCounted (earlier : List Assertion) (active : List Hypothesis) (steps : List Step) (c : Entries) : Type 0 where
  pub left : counts (run_steps there earlier active (Some empty) steps) ≡ Some (c.entries, c.marked)
  pub placed : are_marks_placed active steps ≡ true
  pub markable : c.is_markable ≡ are_markable active steps

-- the labels and ? of a normal proof so far
pub record LabelsAreCounted (earlier : List Assertion) (active : List Hypothesis) (ws : List Word) (c : Entries) : Type 0 where
  pub steps : StepsAreCounted earlier active (map step_of_word ws) c
  pub front : c.front ≡ 0

-- letters so far, behind labels that their numbers count: each may stand there, and what the numbers say is there
pub record LettersAreCounted (earlier : List Assertion) (active : List Hypothesis) (labels : List Word) (letters : List ℕ) (c : Entries)
    : Type 0 where
  pub codes : List Code
  pub said : decoded 0 letters ≡ Some (record { codes = codes; front = c.front })
  pub steps : StepsAreCounted earlier active (map (step_of labels) codes) c

-- the steps of a normal proof in a scope
abbrev pub CountsSteps : Scope → List Word → Entries → Type 0
CountsSteps s ws c = LabelsAreCounted s.assertions s.hypotheses ws c

-- the words of letters, in the proof of an expression, behind labels in parentheses
abbrev pub CountsLetters : Scope → List Word → List Word → List Word → Entries → Type 0
CountsLetters s e labels ls c =
    LettersAreCounted s.assertions s.hypotheses (numbered_labels s e labels) (flat_map (λ l. l) ls) c

-- a step from a stack that has so many entries leads to one that has so many, or isn't there
pub record IsStep (earlier : List Assertion) (active : List Hypothesis) (x : Step) (old new : Entries) (goes : Bool) : Type 0 where
  pub leads : (s : Stack (Unit {0})) → counts (Some s) ≡ Some (old.entries, old.marked)
      → counts (if is_placed old.is_markable x then stepped there earlier active s x else None)
      ≡ (if goes then Some (new.entries, new.marked) else None)
  pub markable : goes ≡ true → new.is_markable ≡ may_be_marked active x
  pub front : new.front ≡ old.front

-- none more can be counted (no text is as long)
abbrev pub IsFull : Entries → Type 0
IsFull c = (c.entries ≡ 2 ^ 64 - 1) ⊎ (c.marked ≡ 2 ^ 64 - 1)
