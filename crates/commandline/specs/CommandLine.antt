-- The command lines that the program takes, as its parser knows them.
use Rattle.std.specs.Prelude.{◌≡◌, [], ◌∷◌, Some, true, false, codes}
use Rattle.clap.specs.declared.builder.arg.Arg.{Arg}
use Rattle.clap.specs.declared.builder.command.Command.{Command}
use Rattle.clap.specs.declared.builder.action.ArgAction.{ArgAction}
use Rattle.clap.specs.declared.builder.action.ArgAction.TheVariants.{Set, SetTrue, Append}
use Rattle.clap.specs.declared.builder.value_parser.ValueParser.TheVariants as parser
use Rattle.clap.specs.declared.builder.command.Command.TheViews.{out-Command}
use Rattle.clap.specs.Words.{App, Rule, Text, app_of, new_app, new_rule, rule_of, with_rule, with_subcommand}
use Rattle.clap.specs.Lexer.{usize_max}

-- `NAME`: the path of a file that a job needs
abbrev pub file_rule : Text → Rule
file_rule name = record (new_rule name) { required = true; action = Some Set }

-- `--NAME VALUE`: an option that a job may have, once or as often as wished
abbrev pub option_rule : Text → ArgAction → Rule
option_rule name action = record (new_rule name) { long = Some name; value_names = 1; action = Some action }

-- `--NAME`: an option that a job may have, without a value
abbrev pub flag_rule : Text → Rule
flag_rule name = record (new_rule name) { long = Some name; action = Some SetTrue }

-- `DB`
abbrev pub database_rule : Rule
database_rule = file_rule (codes "DB")

-- `--workers N`, of 1 to 64, and 1 where it isn't given
abbrev pub workers_rule : Rule
workers_rule = record (new_rule (codes "workers")) {
  long = Some (codes "workers");
  value_names = 1;
  parser = Some (parser.Unsigned 1 64);
  defaults = codes "1" ∷ [];
  action = Some Set;
}

-- `--workers N`, of 1 to 64, where it is given
abbrev pub checkers_rule : Rule
checkers_rule = record (new_rule (codes "workers")) {
  long = Some (codes "workers");
  value_names = 1;
  parser = Some (parser.Unsigned 1 64);
  action = Some Set;
}

-- `--room W`, of at most 2^24
abbrev pub room_rule : Rule
room_rule = record (new_rule (codes "room")) {
  long = Some (codes "room");
  value_names = 1;
  parser = Some (parser.Unsigned 0 16777216);
  action = Some Set;
}

-- `--partial`
abbrev pub partial_rule : Rule
partial_rule = flag_rule (codes "partial")

-- `--force`
abbrev pub force_rule : Rule
force_rule = flag_rule (codes "force")

-- `--output FILE`
abbrev pub output_rule : Rule
output_rule = option_rule (codes "output") Set

-- `--in-place`
abbrev pub in_place_rule : Rule
in_place_rule = flag_rule (codes "in-place")

-- `--replies FILE`
abbrev pub replies_rule : Rule
replies_rule = option_rule (codes "replies") Set

-- `--history FILE`
abbrev pub history_rule : Rule
history_rule = option_rule (codes "history") Set

-- `SCRIPT..`
abbrev pub scripts_rule : Rule
scripts_rule = record (new_rule (codes "SCRIPT")) {
  required = true;
  range = Some (record { start_inclusive = 1; end_inclusive = usize_max });
  action = Some Append;
}

-- `HISTORY`
abbrev pub replayed_rule : Rule
replayed_rule = file_rule (codes "HISTORY")

-- `--for LABEL`, as often as wished
abbrev pub for_rule : Rule
for_rule = option_rule (codes "for") Append

-- `--from LABEL`
abbrev pub from_rule : Rule
from_rule = option_rule (codes "from") Set

-- `--to LABEL`
abbrev pub to_rule : Rule
to_rule = option_rule (codes "to") Set

-- `SOURCE`
abbrev pub source_rule : Rule
source_rule = file_rule (codes "SOURCE")

-- `LIBRARY`
abbrev pub library_rule : Rule
library_rule = file_rule (codes "LIBRARY")

-- `check DB`
abbrev pub check_app : App
check_app = with_rule (new_app (codes "check")) database_rule

-- `run [--workers N] [--room W] [--history FILE] DB SCRIPT..`
abbrev pub run_app : App
run_app = with_rule (with_rule (with_rule
    (with_rule (with_rule (new_app (codes "run")) workers_rule) room_rule) history_rule) database_rule) scripts_rule

-- `replay DB HISTORY`
abbrev pub replay_app : App
replay_app = with_rule (with_rule (new_app (codes "replay")) database_rule) replayed_rule

-- `take [--for LABEL].. [--from LABEL] [--to LABEL] SOURCE`
abbrev pub take_app : App
take_app = with_rule (with_rule (with_rule (with_rule (new_app (codes "take")) for_rule) from_rule) to_rule) source_rule

-- `give SOURCE LIBRARY HISTORY`
abbrev pub give_app : App
give_app = with_rule (with_rule (with_rule (new_app (codes "give")) source_rule) library_rule) replayed_rule

-- `verify [--workers N] SOURCE`
abbrev pub verify_app : App
verify_app = with_rule (with_rule (new_app (codes "verify")) checkers_rule) source_rule

-- `edit [--workers N] [--room W] [--output FILE] [--in-place] [--replies FILE] [--partial] [--force] SOURCE SCRIPT..`
abbrev pub edit_app : App
edit_app = with_rule (with_rule (with_rule (with_rule (with_rule (with_rule (with_rule
    (with_rule (with_rule (new_app (codes "edit")) workers_rule) room_rule) output_rule) in_place_rule) replies_rule) partial_rule)
    force_rule) source_rule) scripts_rule

-- the program, before it has subcommands: it has a version, and wants one of them
abbrev pub bare_app : App
bare_app =
    let bare = new_app (codes "mmrefactor") in
    record bare { top = record bare.top { has_version = true; subcommand_required = true; arg_required_else_help = true } }

-- `mmrefactor`, with its seven subcommands
abbrev pub program_app : App
program_app =
    with_subcommand (with_subcommand (with_subcommand
    (with_subcommand (with_subcommand (with_subcommand (with_subcommand bare_app check_app.top) run_app.top) replay_app.top) take_app.top)
    give_app.top) verify_app.top) edit_app.top

-- an argument with these rules
abbrev pub IsArgument : Rule → Arg → Type 0
IsArgument rule a = (rule_of a ≡ rule) × (a.global ≡ false)

-- a command line with these rules
abbrev pub IsLine : App → Command → Type 0
IsLine app c = (app_of c ≡ app) × ((out-Command c).has_globals ≡ false)
