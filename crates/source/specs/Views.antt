-- How contracts see the words of a text that the code keeps.
use Rattle.std.specs.Prelude.{ℕ, Bool, List, map}
use Rattle.std.specs.Borrow.{Bor}
use Rattle.std.specs.HashSet.{HashSet, contains_by}
use Rattle.std.specs.Str.{bytes_eq}
use Rattle.std.specs.declared.random_state.RandomState.{RandomState}
use Rattle.mmtext.specs.Words.{Word}
use Rattle.source.specs.declared.standing.ProofWords.{ProofWords}
use Rattle.source.specs.declared.standing.ProofWords.TheVariants as words
use Rattle.source.specs.declared.contents.HypothesisWords.{HypothesisWords}
use Rattle.source.specs.declared.contents.HypothesisWords.TheVariants as hypothesis
use Rattle.source.specs.Statements.{Proof, normal, compressed}
use Rattle.source.specs.Scopes.{Hypothesis, typing, premise, Pair}

-- slices of the text
abbrev pub seen_words : List (Bor (List ℕ)) → List Word
seen_words ws = map (λ w. w.now) ws

-- a set has a word
abbrev pub has : HashSet (Bor (List ℕ)) RandomState → Word → Bool
has set w = contains_by (λ k. bytes_eq w k.now) set

-- the words of a proof
abbrev pub seen_proof : ProofWords → Proof
seen_proof (words.Normal steps) = normal (seen_words steps.items)
seen_proof (words.Compressed labels letters) = compressed (seen_words labels.items) (seen_words letters.items)

-- a hypothesis, and hypotheses
abbrev pub seen_hypothesis : HypothesisWords → Hypothesis
seen_hypothesis (hypothesis.Typing label c v) = typing label.now c.now v.now
seen_hypothesis (hypothesis.Premise label ws) = premise label.now (seen_words ws.items)

abbrev pub seen_hypotheses : List (Bor HypothesisWords) → List Hypothesis
seen_hypotheses hs = map (λ h. seen_hypothesis h.now) hs

-- pairs
abbrev pub seen_pairs : List (Bor (List ℕ) × Bor (List ℕ)) → List Pair
seen_pairs ps = map (λ p. (p.0.now, p.1.now)) ps
