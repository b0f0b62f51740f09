-- What is left to show of `words_of`: all scripts were gone through.
use Rattle.std.proofs.Common.{◌≡◌, ◌∙◌, ◌++◌, List, map, ap, Vec, Global}
use Rattle.std.specs.List.{flat_map}
use Rattle.std.proofs.lemmas.List.{take_all}
use Rattle.std.proofs.lemmas.Result.{IfOk-weaker}
use Rattle.mmtext.specs.declared.token.Token.{Token as CodeToken}
use Rattle.mmsyntax.specs.declared.statement.Assertion.{Assertion}
use Rattle.source.specs.Views.{seen_words}
use Rattle.expanding.specs.Views.{seen_scripts}
use Rattle.standins.specs.StandIns.{words_of}
use Rattle.standins.proofs.Gathered.{words_seen}
use Rattle.standins.proofs.labels.words_of.Goals as goal

pub returns : goal.returns
returns c =
    let db = c.args.database.now in
    let scripts = c.args.scripts.now in
    let found = c.loop-script.found.items in
    let labels = map (λ (a : Assertion). a.label) db.assertions in
    let words = λ (xs : List (Vec CodeToken Global)).
    flat_map (λ (ts : Vec CodeToken Global). map (λ (t : CodeToken). t.text.now) ts.items) xs in
    let whole : seen_words found ≡ words_of db (seen_scripts scripts) =
    c.loop-script.invariant
    ∙ ap (λ ws. labels ++ ws) (ap words (take_all c.loop-script.script-index scripts c.loop-script-test.false) ∙ words_seen scripts) in
    IfOk-weaker c.new.result (λ made. made ≡ seen_words found) (λ made. made ≡ words_of db (seen_scripts scripts))
    (λ made is. is ∙ whole) c.new.ensures
