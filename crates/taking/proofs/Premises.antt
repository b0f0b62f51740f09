-- The labels of the $e among hypotheses.
use Rattle.std.proofs.Common.{◌≡◌, List, [], ◌∷◌, ◌++◌, refl, ap}
use Rattle.source.specs.Scopes.{Hypothesis, typing, premise}
use Rattle.taking.specs.Listings.{premise_labels}

pub premises_append : (hs gs : List Hypothesis) → premise_labels (hs ++ gs) ≡ premise_labels hs ++ premise_labels gs
premises_append [] gs = refl
premises_append (typing label c v ∷ hs) gs = premises_append hs gs
premises_append (premise label ws ∷ hs) gs = ap (λ ws. label ∷ ws) (premises_append hs gs)
