-- What is left to show of `mark`.
use Rattle.std.proofs.Common.{◌≡◌, ◌∙◌, ◌<◌, ◌-◌, ◌++◌, ◌∷◌, [], ℕ, List, sym, ap, subst, length, reverse}
use Rattle.std.specs.Prelude.{slice_get, Some}
use Rattle.std.proofs.lemmas.List.Elements.{recursion_from_All}
use Rattle.source.specs.Proofs.{mark}
use Rattle.taking.specs.Decoding.{stack_on, trees_at}
use Rattle.taking.proofs.Turned.{last_at}
use Rattle.taking.proofs.Listed.{all_at}
use Rattle.taking.proofs.Stacked.{marks_last}
use Rattle.taking.proofs.decoder.Decoder.mark.Goals as goal

pub returns-clause-marked : goal.returns-clause-marked
returns-clause-marked c =
    let d = c.args.self.now in
    let k = c.in-Some.node in
    let at : slice_get d.entries.items (length d.entries.items - 1) ≡ Some k =
    ap (λ xs. slice_get xs (length xs - 1)) (sym c.deref.ensures.value)
    ∙ sym c.last.ensures.value
    ∙ sym c.copied.ensures
    ∙ c.in-Some.is in
    let front = last_at d.entries.items k at in
    let in' = all_at (λ i. i < length d.nodes) d.entries.items (length d.entries.items - 1) k
    (recursion_from_All (λ i. i < length d.nodes) d.entries.items c.requires.entries) at in
    λ labels.
    subst
    (λ (es : List ℕ). mark (trees_at labels d.nodes (reverse es)) (trees_at labels d.nodes d.marked.items)
    ≡ Some (stack_on labels d.nodes es (d.marked.items ++ k ∷ [])))
    (sym front.1) (marks_last labels d.nodes front.0 d.marked.items k in')
    ∙ ap (λ ms. Some (stack_on labels d.nodes d.entries.items ms)) (sym c.in_ok-push.ensures.items)
