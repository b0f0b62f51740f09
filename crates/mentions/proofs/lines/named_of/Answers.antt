-- What is left to show of `named_of`: the look-up holds the words.
use Rattle.std.proofs.Common.{◌≡◌, ◌∙◌, List, ap, map, Bor, Vec, Global, ℕ}
use Rattle.std.specs.Prelude.{filter}
use Rattle.std.proofs.lemmas.Result.{IfOk-weaker}
use Rattle.mmtext.specs.Words.{Word}
use Rattle.mmtext.specs.Views.{seen}
use Rattle.source.specs.Scopes.{is_in}
use Rattle.source.specs.Views.{seen_words}
use Rattle.sourceediting.proofs.Marks.{firsts, firsts_marked}
use Rattle.mentions.specs.Lines.{named}
use Rattle.mentions.proofs.lines.named_of.Goals as goal

pub returns : goal.returns
returns c =
    let words = map seen c.args.words.now in
    let labels = seen_words c.args.labels.now in
    let texts : firsts c.in_ok-names.names ≡ map (λ t. t.text) words =
    ap firsts c.in_ok-names.ensures ∙ firsts_marked (seen_words c.as_slice.result.now)
    ∙ ap seen_words c.as_slice.ensures.value ∙ c.in_ok-texts.ensures in
    IfOk-weaker c.those_in.result (λ (made : Vec (Bor (List ℕ)) Global). seen_words made.items
    ≡ filter (λ w. is_in (firsts c.in_ok-names.names) w) labels)
    (λ (made : Vec (Bor (List ℕ)) Global). seen_words made.items ≡ named words labels)
    (λ made is. is ∙ ap (λ (ws : List Word). filter (λ w. is_in ws w) labels) texts) c.those_in.ensures
