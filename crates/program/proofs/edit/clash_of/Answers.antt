use Rattle.std.proofs.Common.{ℕ, List, Bor, ap, option_map}
use Rattle.program.specs.Edits.{clash_line}
use Rattle.program.proofs.edit.clash_of.Goals as goal

pub returns-in-Some : goal.returns-in-Some
returns-in-Some g c =
    rw (ap (option_map (λ (p : Bor (List ℕ)). p.now)) c.in_ok-here.was) (c.in-Some.ensures (clash_line c.args.text.now))

pub returns-in-None : goal.returns-in-None
returns-in-None g c =
    rw (ap (option_map (λ (p : Bor (List ℕ)). p.now)) c.in_ok-here.was) (c.in-None.ensures (clash_line c.args.text.now))
