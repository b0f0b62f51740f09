-- What is left to show of `set_of`.
use Rattle.std.proofs.Common.{◌∙◌, [], List, ℕ, take, get_or, sym, ap}
use Rattle.std.specs.Borrow.{Bor}
use Rattle.std.proofs.lemmas.List.{map_more}
use Rattle.mmtext.specs.Words.{Word}
use Rattle.source.specs.Scopes.{is_in}
use Rattle.source.specs.Views.{seen_words}
use Rattle.sites.proofs.Flags.{set_more}
use Rattle.sites.proofs.changes.set_of.Goals as goal

pub loop-word-preserved : goal.loop-word-preserved
loop-word-preserved c = λ w.
    let words = c.args.words.now in
    let i = c.loop-word.word-index in
    let d : Bor (List ℕ) = record { ref_ptr = (0, 0); now = [] } in
    let x : Word = (get_or words i d).now in
    set_more c.loop-word.set c.insert.new.self (seen_words (take i words)) x c.in_ok-insert.ensures.updates c.loop-word.invariant w
    ∙ ap (λ (us : List Word). is_in us w) (sym (map_more (λ (v : Bor (List ℕ)). v.now) words i d c.loop-word-test.true))
