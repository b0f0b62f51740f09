-- What is left to show of `unquoted`.
use Rattle.std.proofs.Common.{◌∙◌, ◌-◌, length, take, drop, Some, None, sym, ap}
use Rattle.std.proofs.lemmas.List.{take_rest}
use Rattle.commentwords.proofs.Unquoted.{mark_again}
use Rattle.commentwords.proofs.parted.Parted.unquoted.Goals as goal

pub returns-in-None-clause-parts : goal.returns-in-None-clause-parts
returns-in-None-clause-parts c =
    mark_again c.args.word.now c.in-len1-up.len_at_least (sym c.is_quote.ensures ∙ c.if-not-is_quote.false) None c.in-None.ensures

pub returns-in-Some-clause-parts : goal.returns-in-Some-clause-parts
returns-in-Some-clause-parts c =
    let w = c.args.word.now in
    let rest = take (length w - 1) (drop 1 w) in
    let n = c.in-Some.end in
    ap (λ bs. Some (record { front = take 1 w; label = take n rest; back = bs })) (take_rest rest n)
    ∙ mark_again w c.in-len1-up.len_at_least (sym c.is_quote.ensures ∙ c.if-not-is_quote.false) (Some n) c.in-Some.ensures
