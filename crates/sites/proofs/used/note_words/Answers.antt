-- What is left to show of `note_words`.
use Rattle.std.proofs.Common.{◌≡◌, ◌∙◌, ℕ, ◌+◌, ◌++◌, ◌∷◌, [], List, take, get_or, sym, ap}
use Rattle.std.specs.Prelude.{◌||◌}
use Rattle.std.specs.Borrow.{Bor}
use Rattle.std.specs.Str.{bytes_eq}
use Rattle.std.proofs.lemmas.List.{map_more}
use Rattle.mmtext.specs.Words.{Word}
use Rattle.source.specs.Scopes.{is_in}
use Rattle.source.specs.Views.{has, seen_words}
use Rattle.source.proofs.Lent.{has_more}
use Rattle.sites.proofs.Noted.{any_more}
use Rattle.sites.proofs.used.note_words.Goals as goal

pub loop-word-preserved : goal.loop-word-preserved
loop-word-preserved c = λ w.
    let words = c.args.words.now in
    let i = c.loop-word.word-index in
    let d : Bor (List ℕ) = record { ref_ptr = (0, 0); now = [] } in
    let x : Word = (get_or words i d).now in
    let b = has c.args.symbols.now w in
    let more : seen_words (take (i + 1) words) ≡ seen_words (take i words) ++ x ∷ [] = map_more _ words i d c.loop-word-test.true in
    has_more c.loop-word.symbols c.insert.new.self x c.in_ok-insert.ensures.updates w
    ∙ ap (λ t. t || bytes_eq w x) (c.loop-word.invariant w)
    ∙ sym (any_more (bytes_eq w) b (seen_words (take i words)) x)
    ∙ ap (λ (us : List Word). b || is_in us w) (sym more)
