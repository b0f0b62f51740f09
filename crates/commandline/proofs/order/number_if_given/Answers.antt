use Rattle.std.proofs.Common.{◌∙◌, IfSome, IsNone, Option, ℕ, sym, subst}
use Rattle.clap.specs.Words.{found_of, one_of, rows_of}
use Rattle.clap.proofs.WalkLemmas.{one_text-rows}
use Rattle.commandline.specs.Orders.{IsNumberIfGiven}
use Rattle.commandline.proofs.Numbers.{tried_is_given, failed_is_not_given}
use Rattle.commandline.proofs.order.number_if_given.Goals as goal

pub returns-clause-some : goal.returns-clause-some
returns-clause-some c =
    let rows = one_text-rows (found_of c.args.of.now) c.args.id.now in
    subst (λ (o : Option (Option ℕ)). IfSome o (IsNumberIfGiven (one_of c.args.id.now (rows_of (found_of c.args.of.now)))))
    (sym c.ok.ensures.value)
    (tried_is_given _ c.try_get_one.result (λ none. c.try_get_one.ensures.none (rows ∙ none))
    (λ t some. c.try_get_one.ensures.value t (rows ∙ some)))

pub returns-clause-none : goal.returns-clause-none
returns-clause-none c = λ none.
    let rows = one_text-rows (found_of c.args.of.now) c.args.id.now in
    failed_is_not_given _ c.try_get_one.result (λ none. c.try_get_one.ensures.none (rows ∙ none))
    (λ t some. c.try_get_one.ensures.value t (rows ∙ some)) (subst (λ (o : Option (Option ℕ)). IsNone o) c.ok.ensures.value none)
