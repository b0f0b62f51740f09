-- What is left to show of `take_step`.
use Rattle.std.proofs.Common.{◌≡◌, ◌∙◌, ◌++◌, ◌∷◌, [], List, Ok, Err, length, sym, ap, arith}
use Rattle.mmsyntax.specs.declared.statement.Step.{Step}
use Rattle.mmsyntax.specs.Steps.{step_of}
use Rattle.mmsyntax.specs.Faults.{block_of}
use Rattle.mmtext.specs.Views.{seen}
use Rattle.statementreader.specs.Takings.{step_as, step_or_fault}
use Rattle.statementreader.specs.Views.{seen_scope}
use Rattle.statementreader.proofs.TakenWords.{kept_plain, taken_item, refused_item}
use Rattle.statementreader.proofs.words.take_step.Goals as goal

pub known_step-requires : goal.known_step-requires
known_step-requires c = (c.at-known.ensures c.args.symbols.now c.args.token.text.now c.in_ok-place.ensures.found).1

pub returns-in_ok-cited_at-in-Ok-clause-taken : goal.returns-in_ok-cited_at-in-Ok-clause-taken
returns-in_ok-cited_at-in-Ok-clause-taken c =
    let t = c.args.symbols.now in
    let w = c.args.token.text.now in
    let r = c.at-known.result.now in
    let old = c.args.theorem.now.steps.value in
    let kept = c.at-known.ensures t w c.in_ok-place.ensures.found in
    let step = step_of t c.args.theorem.now.assertion.label.now (block_of (seen_scope c.args.theorem.now.assertion.scope)).hyps in
    let count : length old ≡ c.len.result = omega (arith, ap (λ (xs : List Step). length xs) c.deref.ensures) in
    let given : step (length old) w ≡ Ok (step_as w c.in-Ok.named) =
    ap (λ n. step n w) count ∙ ap (step c.len.result) (sym kept.0) ∙ sym c.known_step.ensures.named
    ∙ ap (step_or_fault r.word.now) c.in-Ok.is
    ∙ ap (λ x. Ok (step_as x c.in-Ok.named)) kept.0 in
    taken_item (seen c.args.token) old c.push_named_near.new.steps (step (length old) w) (step_as w c.in-Ok.named)
    (kept_plain t w r kept c.if-known.false) given
    (c.in_ok-cited_at-in-Ok.ensures ∙ ap (λ xs. xs ++ step_as w c.in-Ok.named ∷ []) c.deref_mut.ensures.value)

pub returns-in_ok-cited_at-in-Ok-clause-knows : goal.returns-in_ok-cited_at-in-Ok-clause-knows
returns-in_ok-cited_at-in-Ok-clause-knows c = c.note.ensures c.args.symbols.now c.in_ok-place.ensures.knows

pub returns-in-Err-clause-taken : goal.returns-in-Err-clause-taken
returns-in-Err-clause-taken c =
    let t = c.args.symbols.now in
    let w = c.args.token.text.now in
    let r = c.at-known.result.now in
    let old = c.args.theorem.now.steps.value in
    let kept = c.at-known.ensures t w c.in_ok-place.ensures.found in
    let step = step_of t c.args.theorem.now.assertion.label.now (block_of (seen_scope c.args.theorem.now.assertion.scope)).hyps in
    let count : length old ≡ c.len.result = omega (arith, ap (λ (xs : List Step). length xs) c.deref.ensures) in
    let given : step (length old) w ≡ Err c.in-Err.kind =
    ap (λ n. step n w) count ∙ ap (step c.len.result) (sym kept.0) ∙ sym c.known_step.ensures.named
    ∙ ap (step_or_fault r.word.now) c.in-Err.is in
    refused_item (seen c.args.token) old old (step (length old) w) c.in-Err.kind c.fault_at.result
    (kept_plain t w r kept c.if-known.false) given
    c.fault_at.ensures
