-- What is left to show of `float_labelled`.
use Rattle.std.proofs.Common.{◌≡◌, ◌∙◌, ℕ, Some, List, ap, rules}
use Rattle.std.specs.Prelude.{slice_get}
use Rattle.mmsyntax.specs.declared.statement.Float.{Float}
use Rattle.mmsyntax.specs.declared.symbols.Name.TheVariants.{Label}
use Rattle.mmsyntax.specs.Tables.{meaning}
use Rattle.source.proofs.Lent.{got_lent}
use Rattle.secondlook.proofs.Floats.{is_labelled}
use Rattle.secondlook.proofs.edited.float_labelled.Goals as goal

pub returns : goal.returns
returns c =
    let place = c.in-Some.place in
    let names : meaning c.args.prelude.now c.args.label.now ≡ Some (Label place) = search rules in
    is_labelled c.args.prelude.now c.args.label.now place c.get.result names
    (got_lent c.floats.result.now place c.get.result c.get.ensures.lookup
    ∙ ap (λ (fs : List Float). slice_get fs place) c.floats.ensures.value)

pub returns-in_default : goal.returns-in_default
returns-in_default c =
    let none : (k : ℕ) → meaning c.args.prelude.now c.args.label.now ≡ Some (Label k) → ⊥ = search rules in
    λ f h. none h.place h.names
