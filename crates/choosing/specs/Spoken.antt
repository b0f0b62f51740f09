-- Which assertions of a source are taken for words that speak of them.
use Rattle.std.specs.Prelude.{Bool, List, [], ◌∷◌, ◌++◌, filter, ◌||◌, ◌&&◌, if◌then◌else◌}
use mathlib.Core.Bool.{not}
use Rattle.mmtext.specs.Words.{Word}
use Rattle.source.specs.Scopes.{Assertion, Scope, is_in}
use Rattle.taking.specs.Reasons.{needed}
use Rattle.choosing.specs.Choices.{labels_of}

-- what the proofs of the assertions need whose labels pass, behind earlier ones
abbrev pub needs : (Word → Bool) → List Assertion → List Assertion → List Word
needs test earlier [] = []
needs test earlier (x ∷ xs) = (if test x.label then needed earlier x else []) ++ needs test (earlier ++ x ∷ []) xs

-- an assertion is wanted that is spoken of, or that a proof needs which is asked for
abbrev pub is_wanted : Scope → List Word → List Word → Word → Bool
is_wanted s spoken asked w = is_in (needs (is_in asked) [] s.assertions) w || is_in spoken w

-- the labels of those, in the order of the source
abbrev pub wanted_labels : Scope → List Word → List Word → List Word
wanted_labels s spoken asked = labels_of (filter (λ x. is_wanted s spoken asked x.label) s.assertions)

-- of them those whose proofs aren't asked for: they are taken as axioms
abbrev pub axiom_labels : Scope → List Word → List Word → List Word
axiom_labels s spoken asked = labels_of (filter (λ x. is_wanted s spoken asked x.label && not (is_in asked x.label)) s.assertions)
