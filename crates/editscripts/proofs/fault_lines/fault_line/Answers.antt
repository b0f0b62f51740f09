-- What is left to show of `fault_line`.
use Rattle.std.proofs.Common.{◌≡◌, sym, subst}
use Rattle.std.specs.Prelude.{IfOk, string_bytes}
use Rattle.editscripts.specs.Faults.{fault_line}
use Rattle.editscripts.specs.Views.{seen_what}
use Rattle.editscripts.specs.declared.faults.What.{What as CodeWhat}
use Rattle.editscripts.proofs.fault_lines.fault_line.Goals as goal

pub returns-in-Forbidden : goal.returns-in-Forbidden
returns-in-Forbidden c =
    subst
    (λ (what : CodeWhat). IfOk c.barred_line.result
    (λ line. string_bytes line ≡ fault_line c.args.path.now c.args.text.now (seen_what what)))
    (sym c.in-Forbidden.is) c.barred_line.ensures
