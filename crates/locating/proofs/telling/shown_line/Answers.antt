-- What is left to show of `shown_line`.
use Rattle.std.proofs.Common.{rules, ◌≡◌, ◌∙◌, ap, true}
use Rattle.std.specs.List.{list_all}
use Rattle.std.specs.Option.{option_map}
use Rattle.std.proofs.lemmas.List.Sums.{list_all-from_AllPass}
use Rattle.locating.specs.Told.{is_visible}
use Rattle.locating.proofs.Shown.{shown_fitting}
use Rattle.locating.proofs.telling.shown_line.Goals as goal

pub returns : goal.returns
returns c =
    let line = c.args.line.now in
    let visible : list_all is_visible line ≡ true = list_all-from_AllPass is_visible line (search rules) in
    ap (option_map (λ s. s.now)) c.ok.ensures.value
    ∙ shown_fitting line c.from_utf8.result _ c.from_utf8.ensures.cases c.if-line-gt120.false visible
