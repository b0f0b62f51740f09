-- What is left to show of `tree_of`.
use Rattle.std.proofs.Common.{◌≡◌, List, Option, Some, None, refl, sym, subst}
use Rattle.std.specs.Prelude.{All, IfSome, ℕ}
use Rattle.std.specs.Borrow.{Bor}
use Rattle.source.specs.declared.letters.Code.{Code}
use Rattle.mmtext.specs.Words.{Word}
use Rattle.source.specs.Scopes.{Assertion}
use Rattle.source.specs.Proofs.{Tree}
use Rattle.source.specs.Views.{seen_words}
use Rattle.taking.specs.declared.named.Named.{Named}
use Rattle.taking.specs.declared.decoded.DecodedProof.{DecodedProof}
use Rattle.taking.specs.Decoded.{AreDecoded, AreLabelsOf, tree_of}
use Rattle.taking.specs.Walks.{TakesAll}
use Rattle.prooftrees.specs.Names.{IsKnown}
use Rattle.prooftrees.proofs.Named.{NamesOf}
use Rattle.prooftrees.proofs.Trees.{tree_is, tree_is_none, counted_denoted, counted_there}
use Rattle.prooftrees.proofs.reading.tree_of.Goals as goal

pub returns-in_default-clause-tree : goal.returns-in_default-clause-tree
returns-in_default-clause-tree g c = λ earlier x proof frames enough known counted finished.
    let y : Assertion = record x { proof = Some proof } in
    let m = g.P.StepPlaces.places c.args.places.now in
    let named = c.in_ok-named.named.items in
    let codes = c.args.counted.codes in
    let ws = seen_words c.args.counted.labels.items in
    let names : NamesOf m earlier x.active ws named =
    subst (λ (ls : List (Bor (List ℕ))). NamesOf m earlier x.active (seen_words ls) named) c.as_slice.ensures.value
    (c.in_ok-named.ensures.named earlier x.active frames enough
    (subst (λ (ls : List (Bor (List ℕ))). All (IsKnown earlier x.active) (seen_words ls)) (sym c.as_slice.ensures.value) known)) in
    let decoded : AreDecoded named codes None =
    subst (λ (o : Option DecodedProof). AreDecoded named codes o) c.in_default.is
    (subst (λ (cs : List Code). AreDecoded named cs c.in_ok-proof.field-0) c.as_slice-3.ensures
    (subst (λ (ns : List Named). AreDecoded ns c.as_slice-3.result.now c.in_ok-proof.field-0) c.as_slice-2.ensures.value
    c.in_ok-proof.ensures.decoded)) in
    tree_is_none m earlier y ws named codes
    (counted_denoted earlier y proof c.args.counted refl counted) names
    (counted_there x.hypotheses proof c.args.counted counted finished) decoded

pub returns-clause-tree : goal.returns-clause-tree
returns-clause-tree g c = λ earlier x proof frames enough known counted finished.
    let y : Assertion = record x { proof = Some proof } in
    let m = g.P.StepPlaces.places c.args.places.now in
    let named = c.in_ok-named.named.items in
    let codes = c.args.counted.codes in
    let ws = seen_words c.args.counted.labels.items in
    let made = c.in-Some.proof in
    let names : NamesOf m earlier x.active ws named =
    subst (λ (ls : List (Bor (List ℕ))). NamesOf m earlier x.active (seen_words ls) named) c.as_slice.ensures.value
    (c.in_ok-named.ensures.named earlier x.active frames enough
    (subst (λ (ls : List (Bor (List ℕ))). All (IsKnown earlier x.active) (seen_words ls)) (sym c.as_slice.ensures.value) known)) in
    let decoded : AreDecoded named codes (Some made) =
    subst (λ (o : Option DecodedProof). AreDecoded named codes o) c.in-Some.is
    (subst (λ (cs : List Code). AreDecoded named cs c.in_ok-proof.field-0) c.as_slice-3.ensures
    (subst (λ (ns : List Named). AreDecoded ns c.as_slice-3.result.now c.in_ok-proof.field-0) c.as_slice-2.ensures.value
    c.in_ok-proof.ensures.decoded)) in
    let whole : All (TakesAll named) made.nodes =
    subst (λ (ns : List Named). All (TakesAll ns) made.nodes) c.as_slice-2.ensures.value
    (subst (λ (o : Option DecodedProof). IfSome o (λ d. All (TakesAll c.as_slice-2.result.now) d.nodes)) c.in-Some.is
    c.in_ok-proof.ensures.whole) in
    let cites =
    subst
    (λ (o : Option DecodedProof). IfSome o (λ d. (labels : List Word) (t : Tree) → tree_of labels d ≡ Some t
    → AreLabelsOf labels d.nodes t))
    c.in-Some.is c.in_ok-proof.ensures.cites in
    tree_is m earlier y codes (record { labels = c.args.counted.labels; named = c.in_ok-named.named; proof = made })
    made.within
    (counted_denoted earlier y proof c.args.counted refl counted) names whole
    (counted_there x.hypotheses proof c.args.counted counted finished) decoded cites
