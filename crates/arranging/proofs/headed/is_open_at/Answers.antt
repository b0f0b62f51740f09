-- What is left to show of `is_open_at`.
use Rattle.std.proofs.Common.{◌≡◌, ◌-◌, suc, Option, Some, ℕ, length, refl, arith, ap, ◌∙◌}
use Rattle.std.proofs.lemmas.Bool.Decides.{nat_tests}
use Rattle.std.proofs.lemmas.Option.{slice_get_read}
use Rattle.std.specs.Prelude.{slice_get}
use Rattle.arranging.proofs.headed.is_open_at.Goals as goal

pub returns-in-Some-Some : goal.returns-in-Some-Some
returns-in-Some-Some c = λ holds.
    let depth = c.in-Some-Some.depth in
    let ds = c.args.depths.now in
    let place = c.args.place in
    let found = c.in-Some-Some.field-0.now in
    let at = c.in-Some-Some.ensures.lookup.3 in
    let is : slice_get ds place ≡ Some (Some depth) =
    slice_get_read ds (length ds) place found refl at.0 (at.1 found) ∙ ap (λ (o : Option ℕ). Some o) c.in-Some-Some.field-0-is in
    let more : depth ≡ suc (depth - 1) = grind (arith, nat_tests) in
    (depth - 1, c.requires.each place depth is ∙ ap (λ (d : ℕ). Some d) more)
