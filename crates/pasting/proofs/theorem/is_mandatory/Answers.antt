-- What is left to show of `is_mandatory`.
use Rattle.std.proofs.Common.{◌∙◌, map, sym, ap}
use Rattle.std.specs.Prelude.{◌||◌}
use Rattle.std.specs.List.{list_any}
use Rattle.std.specs.Str.{bytes_eq}
use Rattle.source.specs.Scopes.{is_mandatory, stands_in}
use Rattle.source.specs.Views.{seen_hypothesis, seen_words}
use Rattle.source.proofs.Slices.{any_seen}
use Rattle.pasting.proofs.Adding.{any_mapped}
use Rattle.pasting.proofs.theorem.is_mandatory.Goals as goal

pub returns-then-is_among : goal.returns-then-is_among
returns-then-is_among c =
    let v = c.in-Typing.variable.now in
    let ps = map seen_hypothesis c.args.premises.now in
    c.if-is_among.true
    ∙ ap (λ b. b || list_any (stands_in v) ps)
    (sym c.if-is_among.true ∙ c.is_among.ensures ∙ any_seen (bytes_eq v) c.args.statement.now)
    ∙ sym (ap (λ h. is_mandatory ps (seen_words c.args.statement.now) (seen_hypothesis h)) c.in-Typing.is)

pub returns-else-is_among : goal.returns-else-is_among
returns-else-is_among c =
    let v = c.in-Typing.variable.now in
    let ps = map seen_hypothesis c.args.premises.now in
    c.stands_in_one.ensures
    ∙ any_mapped (stands_in v) seen_hypothesis c.args.premises.now
    ∙ ap (λ b. b || list_any (stands_in v) ps)
    (sym c.if-is_among.false ∙ c.is_among.ensures ∙ any_seen (bytes_eq v) c.args.statement.now)
    ∙ sym (ap (λ h. is_mandatory ps (seen_words c.args.statement.now) (seen_hypothesis h)) c.in-Typing.is)
