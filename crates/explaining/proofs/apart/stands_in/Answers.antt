-- What is left to show of `stands_in`.
use Rattle.std.proofs.Common.{ℕ, List, ap, sym, ◌∙◌}
use Rattle.std.specs.List.{list_any}
use Rattle.std.specs.Str.{bytes_eq}
use Rattle.std.specs.Borrow.{Bor}
use Rattle.source.specs.Scopes.{stands_in}
use Rattle.source.specs.Views.{seen_hypothesis}
use Rattle.source.proofs.Slices.{any_seen}
use Rattle.explaining.proofs.apart.stands_in.Goals as goal

pub returns-in-Premise : goal.returns-in-Premise
returns-in-Premise c =
    let w = c.args.word.now in
    c.is_in.ensures
    ∙ ap (λ ws. list_any (λ (v : Bor (List ℕ)). bytes_eq w v.now) ws) c.as_slice.ensures.value
    ∙ any_seen (bytes_eq w) c.in-Premise.words.items
    ∙ sym (ap (λ h. stands_in w (seen_hypothesis h)) c.in-Premise.is)
