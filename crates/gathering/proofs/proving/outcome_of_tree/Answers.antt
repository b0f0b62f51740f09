-- What is left to show of `outcome_of_tree`.
use Rattle.std.proofs.Common.{rules, ◌∙◌, refl, sym}
use Rattle.std.specs.Prelude.{slice_get, Some, None}
use Rattle.taking.specs.Walks.{IsListing}
use Rattle.prooftrees.proofs.Trees.{nodes_are_labelled}
use Rattle.gathering.proofs.Forms.{if_there}
use Rattle.gathering.proofs.LeftOut.{flag_is}
use Rattle.gathering.proofs.Reasons.{few_at, reason_of_long, reason_in_front, reason_of_citing, reason_of_long_expression}
use Rattle.gathering.proofs.Reasons.{listed_steps, unlisted}
use Rattle.gathering.proofs.proving.outcome_of_tree.Goals as goal

pub returns-then-size-gt-MOST_STEPS : goal.returns-then-size-gt-MOST_STEPS
returns-then-size-gt-MOST_STEPS g c =
    let s = g.D.Declared.scope c.args.declared.now in
    λ m choice are.
    if_there (slice_get s.assertions c.args.place) _
    (λ x at known f.
    reason_of_long m choice s c.args.place x c.args.tree.now f c.size.result c.size.ensures c.if-size-gt-MOST_STEPS.true)

pub returns-then-front-place : goal.returns-then-front-place
returns-then-front-place g c =
    let s = g.D.Declared.scope c.args.declared.now in
    λ m choice are.
    if_there (slice_get s.assertions c.args.place) _
    (λ x at known f.
    let flag = flag_is s.assertions choice.front c.args.flags.front.now are.front_are c.args.place x at in
    reason_in_front m choice s c.args.place x c.args.tree.now f c.size.result c.size.ensures c.if-size-gt-MOST_STEPS.false
    (sym flag ∙ c.if-front-place.true))

pub cites_left_out-requires : goal.cites_left_out-requires
cites_left_out-requires g c κs =
    ((refl, tt), (c.requires.chosen, nodes_are_labelled c.args.tree.now c.requires.whole c.requires.labelled))

pub returns-then-cites_left_out : goal.returns-then-cites_left_out
returns-then-cites_left_out g c =
    let s = g.D.Declared.scope c.args.declared.now in
    λ m choice are.
    if_there (slice_get s.assertions c.args.place) _
    (λ x at known f.
    let flag = flag_is s.assertions choice.front c.args.flags.front.now are.front_are c.args.place x at in
    reason_of_citing m choice s c.args.place x c.args.tree.now f c.size.result c.size.ensures c.if-size-gt-MOST_STEPS.false
    (sym flag ∙ c.if-front-place.false) c.cites_left_out.result (c.cites_left_out.ensures choice are.chosen_are)
    c.if-cites_left_out.true)

pub returns-then-long-place : goal.returns-then-long-place
returns-then-long-place g c =
    let s = g.D.Declared.scope c.args.declared.now in
    λ m choice are.
    if_there (slice_get s.assertions c.args.place) _
    (λ x at known f.
    let flag = flag_is s.assertions choice.front c.args.flags.front.now are.front_are c.args.place x at in
    let long = flag_is s.assertions choice.long c.args.flags.long.now are.long_are c.args.place x at in
    reason_of_long_expression m choice s c.args.place x c.args.tree.now f c.size.result c.size.ensures c.if-size-gt-MOST_STEPS.false
    (sym flag ∙ c.if-front-place.false) c.cites_left_out.result (c.cites_left_out.ensures choice are.chosen_are)
    c.if-cites_left_out.false (sym long ∙ c.if-long-place.true))

pub list-requires-clause-few : goal.list-requires-clause-few
list-requires-clause-few g c =
    few_at c.args.tree.now.proof.nodes c.args.tree.now.proof.root c.size.result c.size.ensures c.if-size-gt-MOST_STEPS.false

pub returns-in-Some : goal.returns-in-Some
returns-in-Some g c =
    let s = g.D.Declared.scope c.args.declared.now in
    let t = c.args.tree.now in
    let lists : IsListing t.named.items t.proof.nodes t.proof.root (Some c.in-Some.steps) = search rules in
    λ m choice are.
    if_there (slice_get s.assertions c.args.place) _
    (λ x at known f.
    let flag = flag_is s.assertions choice.front c.args.flags.front.now are.front_are c.args.place x at in
    let long = flag_is s.assertions choice.long c.args.flags.long.now are.long_are c.args.place x at in
    listed_steps m choice s c.args.place x t f c.size.result c.size.ensures c.if-size-gt-MOST_STEPS.false
    (sym flag ∙ c.if-front-place.false) c.cites_left_out.result (c.cites_left_out.ensures choice are.chosen_are)
    c.if-cites_left_out.false (sym long ∙ c.if-long-place.false) c.in-Some.steps lists)

pub returns-in-None : goal.returns-in-None
returns-in-None g c =
    let s = g.D.Declared.scope c.args.declared.now in
    let t = c.args.tree.now in
    let lists : IsListing t.named.items t.proof.nodes t.proof.root None = search rules in
    λ m choice are.
    if_there (slice_get s.assertions c.args.place) _
    (λ x at known f.
    let flag = flag_is s.assertions choice.front c.args.flags.front.now are.front_are c.args.place x at in
    absurd (unlisted m choice s c.args.place x t f c.size.result c.size.ensures c.if-size-gt-MOST_STEPS.false
    (sym flag ∙ c.if-front-place.false) c.cites_left_out.result (c.cites_left_out.ensures choice are.chosen_are)
    c.if-cites_left_out.false known lists))
