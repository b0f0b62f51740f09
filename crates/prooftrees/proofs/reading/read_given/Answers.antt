-- What is left to show of `read_given`.
use Rattle.std.proofs.Common.{◌≡◌, ◌∙◌, List, Option, Some, None, refl, sym, ap, subst}
use Rattle.std.specs.Prelude.{All, MatchOption}
use Rattle.mmtext.specs.Words.{Word}
use Rattle.source.specs.Statements.{Proof}
use Rattle.source.specs.Scopes.{Hypothesis}
use Rattle.source.specs.Proofs.{steps_of}
use Rattle.source.specs.Views.{seen_proof, seen_hypotheses}
use Rattle.taking.specs.declared.counting.Counted.{Counted}
use Rattle.taking.specs.Counted.{IsCounted, counted_labels}
use Rattle.prooftrees.specs.Names.{IsKnown}
use Rattle.taking.proofs.Turned.{if_ok}
use Rattle.prooftrees.proofs.Trees.{uncounted_is_none}
use Rattle.prooftrees.proofs.reading.read_given.Goals as goal

counted_is : (hs : List Hypothesis) (own : Proof) (o : Option Counted) (made : Counted)
    → MatchOption o (steps_of hs own ≡ None) (IsCounted hs own) → o ≡ Some made → IsCounted hs own made
counted_is hs own o made h is = subst (λ (o : Option Counted). MatchOption o (steps_of hs own ≡ None) (IsCounted hs own)) is h

pub returns-in_default-clause-tree : goal.returns-in_default-clause-tree
returns-in_default-clause-tree g c = λ earlier x frames enough same known finished.
    let own = seen_proof c.args.proof.now in
    let hs = seen_hypotheses c.args.mandatory.items in
    let none : steps_of hs own ≡ None =
    subst (λ (o : Option Counted). MatchOption o (steps_of hs own ≡ None) (IsCounted hs own)) c.in_default.is c.in_ok-counted.ensures in
    uncounted_is_none earlier (record x { proof = Some own }) own refl (ap (λ ks. steps_of ks own) same ∙ none)

pub returns-clause-tree : goal.returns-clause-tree
returns-clause-tree g c =
    let own = seen_proof c.args.proof.now in
    let hs = seen_hypotheses c.args.mandatory.items in
    let made = c.in-Some.counted in
    let counted : IsCounted hs own made = counted_is hs own _ made c.in_ok-counted.ensures c.in-Some.is in
    if_ok c.tree_of.result
    (λ t h. λ earlier x frames enough same known finished. h earlier x own frames enough
    (subst (λ (ws : List Word). All (IsKnown earlier x.active) ws)
    (ap (λ ks. counted_labels ks own) same ∙ sym counted.labels_are) known)
    (subst (λ (ks : List Hypothesis). IsCounted ks own made) (sym same) counted) finished)
    c.tree_of.ensures.tree
