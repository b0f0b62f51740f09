-- What is left to show of `word_of`: the variable of a `$f` is one of the prelude's.
use Rattle.std.proofs.Common.{◌≡◌, ◌<◌, [], length, get_or, sym, ap, subst, ◌∙◌}
use Rattle.std.proofs.lemmas.List.{get_or_default}
use Rattle.mmsyntax.specs.declared.statement.Float.{Float}
use Rattle.mmtext.specs.Words.{Word}
use Rattle.mmsyntax.specs.Assertions.{IsSymbolOf}
use Rattle.mmsyntax.specs.Layout.{no_float, symbol_word}
use Rattle.mmsyntax.proofs.Canonical.{floats_sound}
use Rattle.mmwriter.proofs.writing.word_of.Goals as goal

pub bounds-variables-variable : goal.bounds-variables-variable
bounds-variables-variable c =
    let t = c.args.prelude.now in
    let j = c.in-Var.j in
    let lt : j < length t.floats = subst (IsSymbolOf t) c.in-Var.is c.requires in
    rw (c.floats.ensures.value, c.variables.ensures) (floats_sound t c.floats.ensures.sound j c.index-floats-j.result lt).variable_within

pub returns-in-Var : goal.returns-in-Var
returns-in-Var c =
    let t = c.args.prelude.now in
    let j = c.in-Var.j in
    let lt : j < length t.floats = subst (IsSymbolOf t) c.in-Var.is c.requires in
    let at = λ (f : Float) (d : Word). get_or t.variables (get_or t.floats j f).variable d in
    let found : c.index-variables-variable.result ≡ at c.index-floats-j.result c.index-variables-variable.result =
    rw (c.floats.ensures.value, c.variables.ensures) at c.index-variables-variable.is in
    let same : get_or t.floats j c.index-floats-j.result ≡ get_or t.floats j no_float =
    get_or_default t.floats j c.index-floats-j.result no_float lt in
    let within = (floats_sound t c.floats.ensures.sound j c.index-floats-j.result lt).variable_within in
    c.as_slice-in-Var.ensures ∙ found ∙ get_or_default t.variables
    (get_or t.floats j c.index-floats-j.result).variable c.index-variables-variable.result [] within
    ∙ ap (λ (f : Float). get_or t.variables f.variable []) same ∙ ap (symbol_word t) (sym c.in-Var.is)
