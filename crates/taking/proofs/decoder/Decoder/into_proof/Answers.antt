-- What is left to show of `into_proof`.
use Rattle.std.proofs.Common.{rules, ◌≡◌, ◌∙◌, ◌<◌, sym, length, reverse}
use Rattle.std.proofs.lemmas.List.Elements.{recursion_from_All}
use Rattle.taking.specs.Decoding.{trees_at}
use Rattle.taking.proofs.Stacked.{as_many_trees, only_none}
use Rattle.taking.proofs.decoder.Decoder.into_proof.Goals as goal

pub returns-then-len-ne1-clause-left : goal.returns-then-len-ne1-clause-left
returns-then-len-ne1-clause-left c =
    let d = c.args.self in
    let counted : c.len.result ≡ length d.entries.items = search rules in
    λ labels.
    only_none (trees_at labels d.nodes (reverse d.entries.items))
    (λ one. c.if-len-ne1.true (counted
    ∙ sym (as_many_trees labels d.nodes d.entries.items (recursion_from_All (λ k. k < length d.nodes) d.entries.items c.requires.entries))
    ∙ one))
