-- What is left to show of `quotes_of`.
use Rattle.std.proofs.Common.{◌≡◌, ◌∙◌, List, Some, map, sym, ap, subst, Vec, Global}
use Rattle.std.specs.Prelude.{slice_get}
use Rattle.std.proofs.lemmas.Option.{slice_get-get_or}
use Rattle.mmtext.specs.Views.{seen}
use Rattle.mmtext.specs.declared.token.Token.{Token as CodeToken}
use Rattle.pasting.specs.Quotes.{AreQuotes}
use Rattle.pasting.specs.Views.{seen_quote}
use Rattle.pasting.specs.declared.quotes.Quote.{Quote as CodeQuote}
use Rattle.editscripts.proofs.Expanding.{zipped_next}
use Rattle.editscripts.proofs.quoted.quotes_of.Goals as goal

pub loop-words-preserved : goal.loop-words-preserved
loop-words-preserved c =
    let scripts = c.args.scripts.now in
    let k = c.loop-words.words-index in
    let words = c.words-item.result in
    let at : slice_get scripts k ≡ Some words = slice_get-get_or scripts k words c.loop-words-test.true ∙ ap Some (sym c.words-item.is) in
    let found = c.in_ok-quotes_in.field-0 in
    zipped_next AreQuotes (λ (ts : Vec CodeToken Global). map seen ts.items) (λ (qs : Vec CodeQuote Global). map seen_quote qs.items)
    scripts k words c.loop-words.all.items _ found at c.loop-words.invariant
    (subst (λ (ts : List CodeToken). AreQuotes (map seen ts) (map seen_quote found.items)) c.as_slice.ensures.value
    c.in_ok-quotes_in.ensures)
    c.in_ok-push.ensures.items
