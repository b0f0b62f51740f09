-- What is left to show of `first_unnamed`.
use Rattle.std.proofs.Common.{◌∙◌, List, map, sym, ap}
use Rattle.std.specs.Prelude.{find}
use mathlib.Core.Bool.{not}
use Rattle.std.proofs.lemmas.List.{take_all}
use Rattle.mmtext.specs.Views.{seen}
use Rattle.mmtext.specs.declared.token.Token.{Token as CodeToken}
use Rattle.pasting.specs.Proofs.{is_unnamed}
use Rattle.pasting.proofs.Unnamed.{no_word, no_more, here_first}
use Rattle.pasting.proofs.naming.first_unnamed.Goals as goal

pub returns-then-not-is_named : goal.returns-then-not-is_named
returns-then-not-is_named g c = λ earlier x frames roles.
    here_first (is_unnamed earlier x) no_word c.args.words.now c.loop-word.word-index c.loop-word-test.true
    (ap not (sym (c.is_named.ensures earlier x.active frames roles) ∙ c.if-not-is_named.true))
    (c.loop-word.invariant earlier x frames roles)

pub loop-word-preserved : goal.loop-word-preserved
loop-word-preserved g c = λ earlier x frames roles.
    no_more (is_unnamed earlier x) no_word c.args.words.now c.loop-word.word-index c.loop-word-test.true
    (ap not (sym (c.is_named.ensures earlier x.active frames roles) ∙ c.if-not-is_named.false))
    (c.loop-word.invariant earlier x frames roles)

pub returns : goal.returns
returns g c = λ earlier x frames roles.
    sym (ap (λ (ws : List CodeToken). find (is_unnamed earlier x) (map seen ws)) (sym (take_all c.loop-word.word-index
    c.args.words.now c.loop-word-test.false)) ∙ c.loop-word.invariant earlier x frames roles)
