use Rattle.std.proofs.Common.{◌≡◌, rules, refl, codes}
use Rattle.clap.specs.Words.{found_of, rows_of, subcommand_rows_of}
use Rattle.commandline.proofs.Edits.{edits_nothing, edits_so}
use Rattle.commandline.proofs.edit_order.edit_of.Goals as goal

pub returns-in_default-limits_in-clause-none : goal.returns-in_default-limits_in-clause-none
returns-in_default-limits_in-clause-none c = λ none.
    edits_nothing (subcommand_rows_of c.args.matches.now) c.in-Some.name.now (rows_of (found_of c.in-Some.of.now)) c.in-Some.ensures
    (c.in_default-limits_in.ensures.none refl)

pub returns-clause-some : goal.returns-clause-some
returns-clause-some c =
    let named : c.in-Some.name.now ≡ codes "edit" = search rules in
    edits_so (subcommand_rows_of c.args.matches.now) c.in-Some.name.now (rows_of (found_of c.in-Some.of.now)) c.in-Some-text_in.path.now _
    c.in-Some-limits_in.workers c.in-Some-limits_in.room c.outputs_in.result c.allowed_in.result c.in-Some.ensures named
    c.in-Some-text_in.ensures c.in-Some-limits_in.ensures.some (search rules) c.outputs_in.ensures c.allowed_in.ensures
