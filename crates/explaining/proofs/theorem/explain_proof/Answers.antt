-- What is left to show of `explain_proof`.
use Rattle.std.proofs.Common.{◌≡◌, ◌∙◌, Option, Some, None, map, take, ap, subst as transport}
use Rattle.std.specs.Prelude.{MatchOption}
use Rattle.mmsyntax.proofs.Items.{there_is}
use Rattle.source.specs.Proofs.{step_of, steps_of}
use Rattle.source.specs.Views.{seen_words, seen_proof, seen_hypotheses}
use Rattle.source.proofs.Asked.{whole_at, hypotheses_are}
use Rattle.taking.proofs.Numbering.{codes_there}
use Rattle.taking.specs.declared.counting.Counted.{Counted}
use Rattle.taking.specs.Counted.{IsCounted}
use Rattle.explaining.specs.declared.stepping.Outcome.{Outcome}
use Rattle.explaining.specs.declared.stepping.Outcome.TheVariants as outcome
use Rattle.explaining.specs.Shown.{Tells}
use Rattle.explaining.proofs.Told.{some_steps, some_made, has_none, has_finding}
use Rattle.explaining.proofs.theorem.explain_proof.Goals as goal

pub unreachable-requires : goal.unreachable-requires
unreachable-requires g c =
    let s = g.D.Declared.scope c.args.declared.now in
    let own = seen_proof c.args.proof.now in
    let hs = seen_hypotheses c.in_ok-mandatory.mandatory.items in
    let x = there_is s.assertions c.args.place c.requires.within in
    let none : steps_of hs own ≡ None =
    transport (λ (o : Option Counted). MatchOption o (steps_of hs own ≡ None) (IsCounted hs own)) c.in_default.is c.in_ok-counted.ensures in
    some_steps (take c.args.place s.assertions) x.0 s (whole_at s c.args.place x.0 c.requires.whole x.1) own (c.requires.proved x.0 x.1)
    c.requires.finished
    (ap (λ ks. steps_of ks own) (hypotheses_are s.assertions c.args.place x.0 x.1 hs c.in_ok-mandatory.ensures) ∙ none)

pub unreachable-requires-in-Absent : goal.unreachable-requires-in-Absent
unreachable-requires-in-Absent g c =
    let s = g.D.Declared.scope c.args.declared.now in
    let earlier = take c.args.place s.assertions in
    let own = seen_proof c.args.proof.now in
    let hs = seen_hypotheses c.in_ok-mandatory.mandatory.items in
    let x = there_is s.assertions c.args.place c.requires.within in
    let made = c.in-Some.counted in
    let labels = seen_words made.labels.items in
    let counted : IsCounted hs own made =
    transport (λ (o : Option Counted). MatchOption o (steps_of hs own ≡ None) (IsCounted hs own)) c.in-Some.is c.in_ok-counted.ensures in
    let steps : steps_of x.0.hypotheses own ≡ Some (map (step_of labels) made.codes) =
    ap (λ ks. steps_of ks own) (hypotheses_are s.assertions c.args.place x.0 x.1 hs c.in_ok-mandatory.ensures) ∙ counted.steps_are in
    let told : Tells earlier x.0 (map (step_of labels) made.codes) outcome.Absent =
    transport (λ (o : Outcome). Tells earlier x.0 (map (step_of labels) made.codes) o) c.in-Absent.is
    (c.in_ok-take_counted.ensures x.0 x.1 (codes_there x.0.hypotheses own labels made.codes c.requires.finished steps)) in
    some_made earlier x.0 s (whole_at s c.args.place x.0 c.requires.whole x.1) own (c.requires.proved x.0 x.1) c.requires.finished
    (map (step_of labels) made.codes) steps told

pub returns-in-Derives : goal.returns-in-Derives
returns-in-Derives g c = λ x at.
    let s = g.D.Declared.scope c.args.declared.now in
    let earlier = take c.args.place s.assertions in
    let own = seen_proof c.args.proof.now in
    let hs = seen_hypotheses c.in_ok-mandatory.mandatory.items in
    let made = c.in-Some.counted in
    let labels = seen_words made.labels.items in
    let counted : IsCounted hs own made =
    transport (λ (o : Option Counted). MatchOption o (steps_of hs own ≡ None) (IsCounted hs own)) c.in-Some.is c.in_ok-counted.ensures in
    let steps : steps_of x.hypotheses own ≡ Some (map (step_of labels) made.codes) =
    ap (λ ks. steps_of ks own) (hypotheses_are s.assertions c.args.place x at hs c.in_ok-mandatory.ensures) ∙ counted.steps_are in
    let told : Tells earlier x (map (step_of labels) made.codes) outcome.Derives =
    transport (λ (o : Outcome). Tells earlier x (map (step_of labels) made.codes) o) c.in-Derives.is
    (c.in_ok-take_counted.ensures x at (codes_there x.hypotheses own labels made.codes c.requires.finished steps)) in
    has_none earlier x s (whole_at s c.args.place x c.requires.whole at) own (c.requires.proved x at) c.requires.finished
    (map (step_of labels) made.codes) steps told

pub returns : goal.returns
returns g c = λ x at.
    let s = g.D.Declared.scope c.args.declared.now in
    let earlier = take c.args.place s.assertions in
    let own = seen_proof c.args.proof.now in
    let hs = seen_hypotheses c.in_ok-mandatory.mandatory.items in
    let made = c.in-Some.counted in
    let labels = seen_words made.labels.items in
    let counted : IsCounted hs own made =
    transport (λ (o : Option Counted). MatchOption o (steps_of hs own ≡ None) (IsCounted hs own)) c.in-Some.is c.in_ok-counted.ensures in
    let steps : steps_of x.hypotheses own ≡ Some (map (step_of labels) made.codes) =
    ap (λ ks. steps_of ks own) (hypotheses_are s.assertions c.args.place x at hs c.in_ok-mandatory.ensures) ∙ counted.steps_are in
    let told : Tells earlier x (map (step_of labels) made.codes) (outcome.Fails c.in-Fails.explained) =
    transport (λ (o : Outcome). Tells earlier x (map (step_of labels) made.codes) o) c.in-Fails.is
    (c.in_ok-take_counted.ensures x at (codes_there x.hypotheses own labels made.codes c.requires.finished steps)) in
    has_finding earlier x s (whole_at s c.args.place x c.requires.whole at) own (c.requires.proved x at) c.requires.finished
    (map (step_of labels) made.codes) steps c.in-Fails.explained told
