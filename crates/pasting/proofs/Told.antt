-- What is told of words that are a finished proof whose labels name what is there.
use Rattle.std.proofs.Common.{◌≡◌, ◌∙◌, false, List, [], ◌∷◌, map, Option, Some, None, sym, ap}
use Rattle.std.specs.Prelude.{slice_get, find, Result, Ok, Err, IfOk}
use Rattle.std.proofs.lemmas.Bool.{cond-false}
use Rattle.mmtext.specs.Text.{Token}
use Rattle.mmtext.specs.Views.{seen}
use Rattle.mmtext.specs.declared.token.Token.{Token as CodeToken}
use Rattle.mmtext.specs.declared.fault.FaultKind.TheVariants.{OutOfProfile}
use Rattle.source.specs.Statements.{Proof}
use Rattle.source.specs.Scopes.{Assertion}
use Rattle.source.specs.Proofs.{Tree, denoted, is_unfinished}
use Rattle.taking.specs.Names.{Map}
use Rattle.pasting.specs.Proofs.{faulty, proof_of, labels_among, is_unnamed, given_by_tree, given_by_labels, given_by_proof, given}

module _ (m : Map) (earlier : List Assertion) (x : Assertion) (last : Token) (proof : Proof) where
  pub told_by_tree : (ws : List CodeToken) (first : CodeToken) → Some first ≡ slice_get ws 0 → proof_of (map seen ws) ≡ Some proof
      → is_unfinished proof ≡ false → find (is_unnamed earlier x) (labels_among (map seen ws)) ≡ None → (o : Option Tree)
      → denoted earlier (record x { proof = Some proof }) ≡ o
      → given_by_tree m earlier x (seen first) last o ≡ given m earlier x (map seen ws) last
  told_by_tree [] first at is finished none o denotes = absurd cc
  told_by_tree (w ∷ ws) first at is finished none o denotes =
      let same : first ≡ w = cc in
      let ts = map seen (w ∷ ws) in
      ap (λ (v : CodeToken). given_by_tree m earlier x (seen v) last o) same
      ∙ sym (ap (given_by_proof m earlier x (seen w) ts last) is
      ∙ cond-false (is_unfinished proof) (faulty (seen w) OutOfProfile)
      (given_by_labels m earlier x (seen w) last proof (find (is_unnamed earlier x) (labels_among ts))) finished
      ∙ ap (given_by_labels m earlier x (seen w) last proof) none
      ∙ ap (given_by_tree m earlier x (seen w) last) denotes)

-- what was found of its labels
pub none_found : (earlier : List Assertion) (x : Assertion) (ws : List CodeToken) (labels : List Token) (o : Option Token)
    → labels ≡ labels_among (map seen ws) → o ≡ find (is_unnamed earlier x) labels → o ≡ None
    → find (is_unnamed earlier x) (labels_among (map seen ws)) ≡ None
none_found earlier x ws labels o are is none = ap (find (is_unnamed earlier x)) (sym are) ∙ sym is ∙ none

-- what is so of a result for each
pub all_there : {T E A : Type 0} (r : Result T E) (Q : T → A → Type 0) → ((a : A) → IfOk r (λ t. Q t a)) → IfOk r (λ t. (a : A) → Q t a)
all_there (Ok t) Q f = f
all_there (Err e) Q f = tt
