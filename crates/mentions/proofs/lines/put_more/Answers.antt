-- What is left to show of `put_more`: there are others than none and one.
use Rattle.std.proofs.Common.{◌≡◌, ◌∙◌, ◌==◌, [], ◌∷◌, ◌++◌, false, ap, map, rules, sym, tests}
use Rattle.std.specs.Prelude.{string_bytes}
use Rattle.std.proofs.lemmas.List.{map-append}
use Rattle.mentions.proofs.Telling.{more_line-many}
use Rattle.mentions.proofs.lines.put_more.Goals as goal

pub returns : goal.returns
returns c =
    let many = c.args.many in
    let said = c.args.said.now.items in
    let some : (many == 0) ≡ false = search (rules, tests) in
    let others : (many == 1) ≡ false = search (rules, tests) in
    ap (map string_bytes) c.in_ok-push-2.ensures.items
    ∙ map-append string_bytes said (c.in_ok-format-2.field-0 ∷ [])
    ∙ ap (λ l. map string_bytes said ++ l ∷ []) c.in_ok-format-2.ensures.ok
    ∙ ap (λ ls. map string_bytes said ++ ls) (sym (more_line-many many some others))
