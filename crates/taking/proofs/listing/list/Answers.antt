-- What is left to show of `list`.
use Rattle.std.proofs.Common.{rules, length, ◌≡◌, ◌<◌, ◌∙◌, ◌++◌, ◌∷◌, [], sym, ap, subst, List, ℕ, Bor, reverse}
use Rattle.std.proofs.lemmas.List.{map_push}
use Rattle.std.specs.Prelude.{Some}
use Rattle.mmsyntax.specs.declared.statement.Step.{Step}
use Rattle.taking.specs.Walks.{arranged}
use Rattle.taking.proofs.Listed.{Goes, weight, start, finish}
use Rattle.taking.proofs.Lent.{seen_steps}
use Rattle.taking.proofs.Turned.{turned_map}
use Rattle.taking.proofs.Labels.{named_within, popped_within, turn_on, stop_on, lighter_on, is_listing}
use Rattle.taking.proofs.listing.list.Goals as goal

pub loop-place-init : goal.loop-place-init
loop-place-init c =
    let named = c.args.named.now in
    let nodes = c.args.nodes.now in
    let root = c.args.root in
    let pending : c.push.new.self.items ≡ root ∷ [] = c.in_ok-push.ensures.items ∙ ap (λ ps. ps ++ root ∷ []) c.new-pending.ensures.items in
    let steps : seen_steps c.in_ok-steps.steps.items ≡ [] = ap seen_steps c.in_ok-steps.ensures.items in
    subst (λ (ps : List ℕ). Goes named nodes root ps (seen_steps c.in_ok-steps.steps.items)) (sym pending)
    (subst (λ (ss : List Step). Goes named nodes root (root ∷ []) ss) (sym steps) (start named nodes root c.requires.within))

pub arguments-arguments-requires : goal.arguments-arguments-requires
arguments-arguments-requires c =
    popped_within c.args.named.now c.args.nodes.now c.args.root c.loop-place.pending.items c.pop.new.self.items c.in-Some.place
    (seen_steps c.loop-place.steps.items) c.loop-place.invariant c.in-Some.ensures.items

pub named-number-requires : goal.named-number-requires
named-number-requires c =
    popped_within c.args.named.now c.args.nodes.now c.args.root c.loop-place.pending.items c.pop.new.self.items c.in-Some.place
    (seen_steps c.loop-place.steps.items) c.loop-place.invariant c.in-Some.ensures.items

pub bounds-named-number : goal.bounds-named-number
bounds-named-number c =
    named_within c.args.named.now c.args.nodes.now c.in-Some.place c.named-number.result c.arguments-arguments.result.now c.requires.whole
    c.named-number.ensures c.arguments-arguments.ensures.value

pub offset_bounds-named-number : goal.offset_bounds-named-number
offset_bounds-named-number c =
    let within : c.named-number.result < length c.args.named.now =
    named_within c.args.named.now c.args.nodes.now c.in-Some.place c.named-number.result c.arguments-arguments.result.now
    c.requires.whole c.named-number.ensures c.arguments-arguments.ensures.value in
    search rules

pub loop-place-smaller : goal.loop-place-smaller
loop-place-smaller c =
    let l = c.loop-place in
    let pushed = c.in_ok-push_arguments.ensures
    ∙ ap (λ fs. c.pop.new.self.items ++ arranged fs c.arguments-arguments.result.now) c.as_slice.ensures in
    subst (λ (ps : List ℕ). weight c.args.nodes.now ps < weight c.args.nodes.now l.pending.items) (sym pushed)
    (lighter_on c.args.named.now c.args.nodes.now c.args.root l.pending.items c.pop.new.self.items c.in-Some.place
    (seen_steps l.steps.items)
    c.named-number.result
    c.arguments-arguments.result.now c.index-named-number.result c.requires.whole l.invariant c.in-Some.ensures.items c.named-number.ensures
    c.arguments-arguments.ensures.value c.arguments-arguments.ensures.below c.index-named-number.is)

pub loop-place-preserved : goal.loop-place-preserved
loop-place-preserved c =
    let l = c.loop-place in
    let pushed = c.in_ok-push_arguments.ensures
    ∙ ap (λ fs. c.pop.new.self.items ++ arranged fs c.arguments-arguments.result.now) c.as_slice.ensures in
    let more : seen_steps c.push-in-Some.new.self.items ≡ seen_steps l.steps.items ++ c.in-Some-step.step ∷ [] =
    ap seen_steps c.in_ok-push-2.ensures.items ∙ map_push (λ s. s.1.now) l.steps.items _ in
    subst (λ (ps : List ℕ). Goes c.args.named.now c.args.nodes.now c.args.root ps (seen_steps c.push-in-Some.new.self.items)) (sym pushed)
    (subst
    (λ (ss : List Step). Goes c.args.named.now c.args.nodes.now c.args.root
    (c.pop.new.self.items ++ arranged c.index-named-number.result.floats c.arguments-arguments.result.now) ss)
    (sym more)
    (turn_on c.args.named.now c.args.nodes.now c.args.root l.pending.items c.pop.new.self.items c.in-Some.place (seen_steps l.steps.items)
    c.named-number.result
    c.arguments-arguments.result.now c.index-named-number.result c.requires.whole l.invariant c.in-Some.ensures.items c.named-number.ensures
    c.arguments-arguments.ensures.value c.arguments-arguments.ensures.below c.index-named-number.is c.in-Some-step.step c.in-Some-step.is))

pub returns : goal.returns
returns c =
    let l = c.loop-place in
    let e : l.pending.items ≡ [] = search rules in
    let turned : c.in_ok-proof_of.field-0 ≡ reverse (seen_steps l.steps.items) = c.in_ok-proof_of.ensures
    ∙ ap seen_steps (c.as_slice-2.ensures.value ∙ c.reverse.ensures.items) ∙ turned_map (λ (s : ℕ × Bor Step). s.1.now) l.steps.items in
    is_listing c.args.named.now c.args.nodes.now c.args.root (Some c.in_ok-proof_of.field-0) c.requires.whole
    (finish c.args.named.now c.args.nodes.now c.args.root (seen_steps l.steps.items)
    (subst (λ (ps : List ℕ). Goes c.args.named.now c.args.nodes.now c.args.root ps (seen_steps l.steps.items)) e l.invariant)
    ∙ ap (λ x. Some x) (sym turned))

pub returns-in_default-step : goal.returns-in_default-step
returns-in_default-step c =
    let l = c.loop-place in
    stop_on c.args.named.now c.args.nodes.now c.args.root l.pending.items c.pop.new.self.items c.in-Some.place
    (seen_steps l.steps.items) c.named-number.result
    c.arguments-arguments.result.now c.index-named-number.result c.requires.whole l.invariant c.in-Some.ensures.items c.named-number.ensures
    c.arguments-arguments.ensures.value c.arguments-arguments.ensures.below c.index-named-number.is c.in_default-step.is
