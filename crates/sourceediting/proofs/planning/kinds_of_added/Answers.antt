-- What is left to show of `kinds_of_added`.
use Rattle.std.proofs.Common.{◌≡◌, ◌∙◌, Some, subst}
use Rattle.std.specs.Str.{bytes_eq}
use Rattle.std.specs.HashMap.{get_by}
use Rattle.sourceediting.proofs.planning.kinds_of_added.Goals as goal

pub returns-in_default-clause-only : goal.returns-in_default-clause-only
returns-in_default-clause-only c = λ s e n all labelled prelude has.
    let b = all has.0.0 has.0.1 in
    let at = subst (λ w. get_by (λ k. bytes_eq w k.now) c.args.edited.now ≡ Some b.0) has.0.2 b.1 in
    c.in_default.not-Some b.0 (c.found_at.ensures.found ∙ at)
