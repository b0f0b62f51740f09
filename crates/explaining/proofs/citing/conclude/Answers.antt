-- What is left to show of `conclude`.
use Rattle.std.proofs.Common.{Some, None, Ok, sym, ap, subst as transport, ◌∙◌}
use Rattle.std.specs.Prelude.{Option}
use Rattle.std.specs.List.{zip}
use Rattle.derivation.specs.declared.fault.ProofFaultKind.TheVariants as kind
use Rattle.source.specs.Views.{seen_words}
use Rattle.verifying.specs.Citations.{subst, types_fit, hypotheses_fit, pairs_fit}
use Rattle.explaining.specs.declared.finding.Finding.{Finding}
use Rattle.explaining.specs.Shown.{seen_assertion, with_hypotheses, substitution_by, Tests}
use Rattle.explaining.proofs.Concluded.{fails_types, fails_premises, fails_pairs, passes}
use Rattle.explaining.proofs.citing.conclude.Goals as goal

pub returns-in-Some : goal.returns-in-Some
returns-in-Some c = λ hs es is.
    let x = seen_assertion c.args.theorem.now in
    let a = with_hypotheses c.args.cited.now hs in
    let tested : Tests x a es (types_fit a es) kind.WrongType (Some c.in-Some.finding) =
    transport (λ (o : Option Finding). Tests x a es (types_fit a es) kind.WrongType o) c.in-Some.is (c.in_ok-finding.ensures x hs es is) in
    fails_types x a es c.in-Some.finding tested

pub returns-in-Some-2 : goal.returns-in-Some-2
returns-in-Some-2 c = λ hs es is.
    let x = seen_assertion c.args.theorem.now in
    let a = with_hypotheses c.args.cited.now hs in
    let types : Tests x a es (types_fit a es) kind.WrongType None =
    transport (λ (o : Option Finding). Tests x a es (types_fit a es) kind.WrongType o) c.in_default.is (c.in_ok-finding.ensures x hs es is)
    in
    let tested : Tests x a es (hypotheses_fit a es) kind.HypothesisDiffers (Some c.in-Some-2.finding) =
    transport (λ (o : Option Finding). Tests x a es (hypotheses_fit a es) kind.HypothesisDiffers o) c.in-Some-2.is
    (c.in_ok-finding-2.ensures x hs es is) in
    fails_premises x a es types c.in-Some-2.finding tested

pub returns-in-Some-3 : goal.returns-in-Some-3
returns-in-Some-3 c = λ hs es is.
    let x = seen_assertion c.args.theorem.now in
    let a = with_hypotheses c.args.cited.now hs in
    let types : Tests x a es (types_fit a es) kind.WrongType None =
    transport (λ (o : Option Finding). Tests x a es (types_fit a es) kind.WrongType o) c.in_default.is (c.in_ok-finding.ensures x hs es is)
    in
    let premises : Tests x a es (hypotheses_fit a es) kind.HypothesisDiffers None =
    transport (λ (o : Option Finding). Tests x a es (hypotheses_fit a es) kind.HypothesisDiffers o) c.in_default-2.is
    (c.in_ok-finding-2.ensures x hs es is) in
    let tested : Tests x a es (pairs_fit x a es) kind.NotDisjoint (Some c.in-Some-3.finding) =
    transport (λ (o : Option Finding). Tests x a es (pairs_fit x a es) kind.NotDisjoint o) c.in-Some-3.is
    (c.in_ok-finding-3.ensures hs es is) in
    fails_pairs x a es types premises c.in-Some-3.finding tested

pub returns : goal.returns
returns c = λ hs es is.
    let x = seen_assertion c.args.theorem.now in
    let a = with_hypotheses c.args.cited.now hs in
    let types : Tests x a es (types_fit a es) kind.WrongType None =
    transport (λ (o : Option Finding). Tests x a es (types_fit a es) kind.WrongType o) c.in_default.is (c.in_ok-finding.ensures x hs es is)
    in
    let premises : Tests x a es (hypotheses_fit a es) kind.HypothesisDiffers None =
    transport (λ (o : Option Finding). Tests x a es (hypotheses_fit a es) kind.HypothesisDiffers o) c.in_default-2.is
    (c.in_ok-finding-2.ensures x hs es is) in
    let pairs : Tests x a es (pairs_fit x a es) kind.NotDisjoint None =
    transport (λ (o : Option Finding). Tests x a es (pairs_fit x a es) kind.NotDisjoint o) c.in_default-3.is
    (c.in_ok-finding-3.ensures hs es is) in
    passes x a es types premises pairs
    ∙ ap (λ e. Ok e)
    (sym (c.in_ok-made.ensures
    ∙ ap (λ zs. subst (substitution_by zs) (seen_words c.as_slice.result.now)) is
    ∙ ap (λ ws. subst (substitution_by (zip hs es)) (seen_words ws)) c.as_slice.ensures.value))
