use Rattle.std.proofs.Common.{◌∙◌, [], ◌∷◌, ◌++◌, List, refl, inl, codes}
use Rattle.mmtext.specs.Words.{Word}
use Rattle.sourcewriting.specs.Laid.{IsLaid, HasLabels}
use Rattle.sourcewriting.specs.Reading.{labels_in}
use Rattle.sourcewriting.proofs.Labels.{closed_none_behind}
use Rattle.sourcewriting.proofs.wording.put_in_parentheses.Goals as goal

pub returns-clause-laid : goal.returns-clause-laid
returns-clause-laid c = λ i laid.
    let front : List Word = codes "(" ∷ [] in
    let labels = labels_in c.args.labels.now in
    let first : IsLaid i c.put_word.new.self front = c.put_word.ensures.laid i [] (inl refl) laid in
    let has : HasLabels i c.put_labels.new.layout front labels = c.put_labels.ensures.laid i front refl (first, λ _. refl) in
    λ whole right.
    let closed = closed_none_behind front labels refl (has.1 (c.put_word-2.ensures.right right)) in
    c.put_word-2.ensures.laid i (front ++ labels) (inl closed) has.0 whole right

pub returns-clause-fine : goal.returns-clause-fine
returns-clause-fine c = λ names. c.put_word-2.ensures.fine refl ∙ c.put_labels.ensures.fine names ∙ c.put_word.ensures.fine refl
