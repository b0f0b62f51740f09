-- What is left to show of `symbol_words`.
use Rattle.std.proofs.Common.{◌∙◌, List, map, ap}
use Rattle.mmtext.specs.Words.{Word}
use Rattle.mmsyntax.specs.declared.statement.Float.{Float}
use Rattle.giving.specs.Staying.{Change, changed}
use Rattle.sourcewriting.specs.declared.adding.SymbolWords.{SymbolWords}
use Rattle.sourcewriting.specs.Added.{variable_word}
use Rattle.sourcewriting.proofs.Added.{all_spelled}
use Rattle.sourcewriting.proofs.adding.symbol_words.Goals as goal

pub returns : goal.returns
returns c = λ x spelled.
    let cs : List Change = map (λ p. (p.1, p.0.now)) c.args.names.now in
    let t = c.args.prelude.now in
    let ws : SymbolWords = record {
      constants = c.in_ok-constant_words.field-0;
      variables = c.in_ok-variable_words.field-0;
    } in
    let constants = λ (cs : List Change) (xs : List Word). map (changed cs) xs in
    let variables = λ (cs : List Change) (vs : List Word) (fs : List Float). map (λ f. variable_word (changed cs) vs f.variable) fs in
    all_spelled (changed cs) t ws
    (c.in_ok-constant_words.ensures
    ∙ ap (λ cs. constants cs c.constants.result.now) c.in_ok-changes.ensures
    ∙ ap (constants cs) c.constants.ensures)
    (c.in_ok-variable_words.ensures
    ∙ ap (λ cs. variables cs c.variables-variables.result.now c.floats-floats.result.now) c.in_ok-changes.ensures
    ∙ ap (λ vs. variables cs vs c.floats-floats.result.now) c.variables-variables.ensures
    ∙ ap (variables cs t.variables) c.floats-floats.ensures.value)
    x spelled
