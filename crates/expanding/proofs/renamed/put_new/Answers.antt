-- What is left to show of `put_new`.
use Rattle.std.proofs.Common.{◌∙◌, ◌++◌, ◌∷◌, [], List, ℕ, Bor, ap}
use Rattle.std.proofs.lemmas.List.{map_push}
use Rattle.source.specs.Views.{seen_words}
use Rattle.expanding.specs.Bearing.{listed}
use Rattle.expanding.proofs.Renaming.{finds_more, list_taken}
use Rattle.expanding.proofs.renamed.put_new.Goals as goal

pub returns : goal.returns
returns c = λ rs found.
    let was = list_taken c.remove.result c.new.result c.unwrap_or-labels.result c.unwrap_or-labels.ensures c.new.ensures.items in
    finds_more c.args.next.now c.remove.new.self c.insert.new.self c.args.old.now c.args.new.now rs c.push.new.self found
    c.remove.ensures.updates c.in_ok-insert.ensures.updates
    (ap seen_words c.in_ok-push.ensures.items
    ∙ (map_push (λ (v : Bor (List ℕ)). v.now) c.unwrap_or-labels.result.items c.args.new
    ∙ (ap (λ l. l ++ c.args.new.now ∷ []) was ∙ ap (λ o. listed o ++ c.args.new.now ∷ []) c.remove.ensures.value)))
