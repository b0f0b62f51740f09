-- What is left to show of `axioms_then`.
use Rattle.std.proofs.Common.{◌≡◌, ◌∙◌, List, map, ap, subst, rules}
use Rattle.std.specs.Prelude.{IfOk, filter_map}
use Rattle.mmtext.specs.Words.{Word}
use Rattle.source.specs.Views.{seen_words}
use Rattle.sourceediting.specs.Axioms.{axiom_label, axiom_labels}
use Rattle.sourceediting.specs.Marked.{marked}
use Rattle.sourceediting.specs.Views.{seen_living}
use Rattle.sourceediting.proofs.Marks.{firsts, firsts_marked}
use Rattle.sourceediting.proofs.axioms.axioms_then.Goals as goal

pub returns : goal.returns
returns c =
    let labels : List Word = seen_words c.in_ok-labels.labels.items in
    let are : labels ≡ axiom_labels (map (λ r. r.assertion) c.args.edited.now.entries) = search rules in
    let marks : c.in_ok-axioms.axioms ≡ marked labels = search rules in
    subst (λ (ls : List Word). IfOk c.labels_among.result (λ made. seen_words made.items
    ≡ filter_map (axiom_label ls) (seen_living c.args.living.now)))
    (ap firsts marks ∙ firsts_marked labels ∙ are) (search rules)
