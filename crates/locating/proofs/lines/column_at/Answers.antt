-- What is left to show of `column_at`.
use Rattle.std.proofs.Common.{rules, ◌≡◌, ◌∙◌, sym, ap, arith, length, filter}
use Rattle.std.specs.List.{count_by}
use Rattle.std.proofs.lemmas.List.Sums.{length-filter}
use Rattle.locating.specs.Lines.{begins_character}
use Rattle.locating.proofs.lines.column_at.Goals as goal

pub returns : goal.returns
returns c =
    let front = c.line_front-front.result.now in
    let counted : c.count.result ≡ count_by begins_character front = search rules in
    let listed = sym (length-filter begins_character front) in
    let same = ap (λ xs. length (filter begins_character xs)) c.line_front-front.ensures in
    let found = counted ∙ (listed ∙ same) in
    omega arith
