use Rattle.std.proofs.Common.{◌∙◌}
use Rattle.clap.specs.Words.{found_of}
use Rattle.clap.proofs.WalkLemmas.{one_text-rows}
use Rattle.commandline.proofs.Numbers.{read_is_number, unread_is_none}
use Rattle.commandline.proofs.order.number_in.Goals as goal

pub returns-clause-some : goal.returns-clause-some
returns-clause-some c =
    let rows = one_text-rows (found_of c.args.of.now) c.args.id.now in
    read_is_number _ c.get_one.result (λ none. c.get_one.ensures.none (rows ∙ none)) (λ t some. c.get_one.ensures.value t (rows ∙ some))

pub returns-clause-none : goal.returns-clause-none
returns-clause-none c =
    let rows = one_text-rows (found_of c.args.of.now) c.args.id.now in
    unread_is_none _ c.get_one.result (λ t some. c.get_one.ensures.value t (rows ∙ some))
