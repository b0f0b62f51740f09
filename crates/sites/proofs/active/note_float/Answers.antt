-- What is left to show of `note_float`.
use Rattle.std.proofs.Common.{◌≡◌, ◌∙◌, ◌++◌, ◌∷◌, [], sym, subst, rules, true, false}
use Rattle.std.specs.Option.{is_some}
use Rattle.source.specs.declared.contents.HypothesisWords.{HypothesisWords}
use Rattle.source.specs.Views.{seen_hypothesis, seen_words}
use Rattle.sites.specs.Indexes.{looks_up}
use Rattle.sites.specs.Actives.{FindsFloats}
use Rattle.sites.proofs.Actives.{floats_premise, floats_again, floats_new}
use Rattle.sites.proofs.active.note_float.Goals as goal

pub returns-in_ok-insert : goal.returns-in_ok-insert
returns-in_ok-insert c = λ hs found.
    let old = c.args.floats.now in
    let t = c.in-Typing in
    let absent : is_some (looks_up old t.variable.now) ≡ false = sym c.contains_key.ensures ∙ search rules in
    subst (λ (h : HypothesisWords). FindsFloats c.insert.new.self c.args.sites.now.floats (hs ++ seen_hypothesis h ∷ [])) (sym t.is)
    (floats_new old c.insert.new.self c.args.sites.now.floats hs t.label.now t.field-1.now t.variable.now c.float.result found
    c.float.ensures absent c.in_ok-insert.ensures.updates)

pub returns-else-not-contains_key : goal.returns-else-not-contains_key
returns-else-not-contains_key c = λ hs found.
    let old = c.args.floats.now in
    let t = c.in-Typing in
    let there : is_some (looks_up old t.variable.now) ≡ true = sym c.contains_key.ensures ∙ search rules in
    subst (λ (h : HypothesisWords). FindsFloats old c.args.sites.now.floats (hs ++ seen_hypothesis h ∷ [])) (sym t.is)
    (floats_again old c.args.sites.now.floats hs t.label.now t.field-1.now t.variable.now found there)

pub returns-in_default : goal.returns-in_default
returns-in_default c = λ hs found.
    let old = c.args.floats.now in
    let t = c.in_default in
    subst (λ (h : HypothesisWords). FindsFloats old c.args.sites.now.floats (hs ++ seen_hypothesis h ∷ [])) (sym t.is)
    (floats_premise old c.args.sites.now.floats hs t.field-0.now (seen_words t.field-1.items) found)
