-- What is left to show of `stands_in`.
use Rattle.std.proofs.Common.{◌∙◌, ℕ, List, sym, ap}
use Rattle.std.specs.Borrow.{Bor}
use Rattle.std.specs.List.{list_any}
use Rattle.std.specs.Str.{bytes_eq}
use Rattle.source.specs.Scopes.{stands_in}
use Rattle.source.specs.Views.{seen_hypothesis}
use Rattle.source.proofs.Slices.{any_seen}
use Rattle.pasting.proofs.theorem.stands_in.Goals as goal

pub returns-in-Premise : goal.returns-in-Premise
returns-in-Premise c =
    let v = c.args.variable.now in
    c.is_among.ensures
    ∙ ap (λ (ws : List (Bor (List ℕ))). list_any (λ w. bytes_eq v w.now) ws) c.as_slice.ensures.value
    ∙ any_seen (bytes_eq v) c.in-Premise.symbols.items
    ∙ sym (ap (λ h. stands_in v (seen_hypothesis h)) c.in-Premise.is)
