-- The listing of a tree as a proof of the profile (Metamath book, section 4.1.4): the arguments of each node stand in the profile's order.
use Rattle.std.specs.Prelude.{◌≡◌, ℕ, List, [], ◌∷◌, ◌++◌, Option, Some, None}
use Rattle.std.specs.Option.{option_map}
use Rattle.std.specs.List.{flat_map}
use Rattle.std.specs.Str.{bytes_eq}
use Rattle.mmtext.specs.Words.{Word}
use Rattle.mmsyntax.specs.declared.statement.Step.{Step}
use Rattle.mmsyntax.specs.declared.statement.Step.TheVariants.{Float, Hyp, Cite}
use Rattle.mmsyntax.specs.declared.statement.Assertion.{Assertion as Unit'}
use Rattle.mmsyntax.specs.Tables.{place_of}
use Rattle.source.specs.Scopes.{Hypothesis, typing, premise, Assertion}
use Rattle.source.specs.Proofs.{Tree, Trees, node, none, some, denoted, taken_by}
use Rattle.taking.specs.Names.{Map, label_in, float_in}
use Rattle.taking.specs.Says.{both}

-- ---- arguments

-- what stands at the $f, and what stands at the $e
abbrev pub at_floats : {A : Type 0} → List Hypothesis → List A → List A
at_floats (typing label c v ∷ hs) (x ∷ xs) = x ∷ at_floats hs xs
at_floats (premise label ws ∷ hs) (x ∷ xs) = at_floats hs xs
at_floats _ _ = []

abbrev pub at_premises : {A : Type 0} → List Hypothesis → List A → List A
at_premises (typing label c v ∷ hs) (x ∷ xs) = at_premises hs xs
at_premises (premise label ws ∷ hs) (x ∷ xs) = x ∷ at_premises hs xs
at_premises _ _ = []

-- the profile's order: the $f by place, which is their order of appearance, then the $e
abbrev pub in_profile_order : {A : Type 0} → List Hypothesis → List A → List A
in_profile_order hs xs = at_floats hs xs ++ at_premises hs xs

-- ---- steps

-- the labels of the $e
abbrev pub premise_labels : List Hypothesis → List Word
premise_labels [] = []
premise_labels (typing label c v ∷ hs) = premise_labels hs
premise_labels (premise label ws ∷ hs) = label ∷ premise_labels hs

-- the step of a $e by its place, of a $f by its place, or of an assertion by its label
abbrev pub own_step : Option ℕ → Option ℕ → Option Word → Option Step
own_step (Some n) j label = Some (Hyp n)
own_step None (Some j) label = Some (Float j)
own_step None None label = option_map (λ w. Cite w) label

abbrev pub step_in : Map → List Hypothesis → Word → Option Step
step_in m active w = own_step (place_of (bytes_eq w) (premise_labels active)) (float_in m w) (label_in m w)

-- the steps of subtrees in the profile's order, then the own step
abbrev pub joined : Option (List Hypothesis) → Option (List (List Step)) → Option Step → Option (List Step)
joined (Some hs) (Some parts) (Some own) = Some (flat_map (λ x. x) (in_profile_order hs parts) ++ own ∷ [])
joined _ _ _ = None

abbrev mutual
  -- the steps of a tree in a proof of which active hypotheses may be named, after earlier assertions
  pub listing : Map → List Assertion → List Hypothesis → Tree → Option (List Step)
  listing m earlier active (node w trees) =
      joined (taken_by earlier active w) (listings m earlier active trees) (step_in m active w)

  -- the steps of each tree
  pub listings : Map → List Assertion → List Hypothesis → Trees → Option (List (List Step))
  listings m earlier active none = Some []
  listings m earlier active (some t ts) = both (listing m earlier active t) (listings m earlier active ts)

-- the steps list the tree that the source's proof denotes
pub record IsListed (m : Map) (earlier : List Assertion) (x : Assertion) (a : Unit') : Type 0 where
  pub tree : Tree
  pub denotes : denoted earlier x ≡ Some tree
  pub lists : listing m earlier x.active tree ≡ Some a.proof
