-- What is left to show of `line_at`.
use Rattle.std.proofs.Common.{◌≡◌, take, ap, rules}
use Rattle.std.specs.Prelude.{◌==◌}
use Rattle.std.specs.List.{count_by}
use Rattle.locating.proofs.Lined.{line_counted}
use Rattle.locating.proofs.lines.line_at.Goals as goal

pub returns : goal.returns
returns c =
    let before = take c.min.result c.args.text.now in
    let counted : c.count.result ≡ count_by (λ b. b == 10) before = search rules in
    line_counted c.args.text.now before c.args.place c.count.result
    (ap (λ n. take n c.args.text.now) c.min.ensures) counted
