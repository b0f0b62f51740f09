-- What is left to show of `text_for`.
use Rattle.std.proofs.Common.{◌∙◌, ℕ, List, ap}
use Rattle.std.specs.Option.{option_map}
use Rattle.std.specs.Borrow.{Bor}
use Rattle.giving.proofs.label_map.LabelMap.text_for.Goals as goal

pub returns : goal.returns
returns c =
    ap (option_map (λ (w : Bor (List ℕ)). w.now)) (c.copied.ensures ∙ c.get.ensures.value)
    ∙ rw (← c.self.view_is) (c.self.invariant c.args.old.now)
