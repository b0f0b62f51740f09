-- What is left to show of `given_text`.
use Rattle.std.proofs.Common.{◌≡◌, ◌∙◌, ℕ, [], ◌++◌, List, map, sym, ap, subst, append-nil}
use Rattle.std.proofs.lemmas.List.{map-id}
use Rattle.std.proofs.lemmas.Simd.{map-map}
use Rattle.mmtext.specs.Words.{Word}
use Rattle.source.specs.Views.{seen_words}
use Rattle.sourcewriting.specs.declared.shared.CountedLabel.{CountedLabel}
use Rattle.sourcewriting.specs.Laid.{IsLaid}
use Rattle.sourcewriting.specs.Lines.{parenthesized}
use Rattle.sourcewriting.specs.Lettered.{counts_behind}
use Rattle.sourcewriting.specs.Named.{AreNames}
use Rattle.sourcewriting.specs.Reading.{counts_of, labels_in}
use Rattle.sourcewriting.proofs.MarkedWords.{if_some}
use Rattle.sourcewriting.proofs.given.given_text.Goals as goal

-- labels that are counted, with none behind them
own_labels : (cs : List CountedLabel) (ws : List Word) → counts_of cs ≡ counts_behind ws [] → labels_in cs ≡ ws
own_labels cs ws e =
    sym (map-map (λ (p : Word × ℕ). p.0) (λ (c : CountedLabel). (c.label.now, c.takes)) cs)
    ∙ ap (map (λ (p : Word × ℕ). p.0)) (e ∙ append-nil (map (λ (w : Word). (w, 0)) ws))
    ∙ map-map (λ (p : Word × ℕ). p.0) (λ (w : Word). (w, 0)) ws
    ∙ map-id ws

pub returns-clause-given : goal.returns-clause-given
returns-clause-given c =
    let i = c.args.indentation.now in
    let labels = seen_words c.args.labels.now in
    let counted = c.in_ok-labels.labels.items in
    let front : IsLaid i c.put_in_parentheses.new.layout (parenthesized labels) =
    subst (λ (ws : List Word). IsLaid i c.put_in_parentheses.new.layout (parenthesized ws))
    (own_labels counted labels c.in_ok-labels.ensures)
    (subst (λ (cs : List CountedLabel). IsLaid i c.put_in_parentheses.new.layout (parenthesized (labels_in cs))) c.as_slice.ensures.value
    (c.put_in_parentheses.ensures.laid i c.new-layout.ensures.laid)) in
    let has = c.put_letters.ensures.laid i (parenthesized labels) front in
    if_some c.finish.result (λ text is. record { cut = has.0; same = has.1; laid = is.1; filled = has.2.1 is.0 })
    (c.finish.ensures.laid i (parenthesized labels ++ has.0) has.2.0)

pub returns-clause-some : goal.returns-clause-some
returns-clause-some c = λ names printed.
    let labels = seen_words c.args.labels.now in
    let counted = c.in_ok-labels.labels.items in
    let are : AreNames (labels_in c.as_slice.result.now) =
    subst (λ (cs : List CountedLabel). AreNames (labels_in cs)) (sym c.as_slice.ensures.value)
    (subst AreNames (sym (own_labels counted labels c.in_ok-labels.ensures)) names) in
    c.finish.ensures.whole (c.put_letters.ensures.fine printed ∙ (c.put_in_parentheses.ensures.fine are ∙ c.new-layout.ensures.fine))
