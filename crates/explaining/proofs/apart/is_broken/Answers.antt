-- What is left to show of `is_broken`.
use Rattle.std.proofs.Common.{◌≡◌, true, map, ap, sym, ◌∙◌}
use Rattle.std.specs.Prelude.{◌&&◌}
use mathlib.Core.Bool.{not}
use Rattle.source.specs.Scopes.{is_mandatory_variable}
use Rattle.source.specs.Views.{seen_words}
use Rattle.verifying.specs.Citations.{variables_in, are_apart, replacement}
use Rattle.explaining.specs.Shown.{seen_assertion, seen_filled, substitution_by}
use Rattle.explaining.proofs.Concluded.{meeting_is}
use Rattle.explaining.proofs.apart.is_broken.Goals as goal

pub returns : goal.returns
returns c =
    let x = seen_assertion c.args.theorem.now in
    let a = seen_assertion c.args.cited.now in
    let s = substitution_by (map seen_filled c.args.filled.now) in
    let d = seen_words c.replacement.result.now in
    let e = seen_words c.replacement-2.result.now in
    let first : is_mandatory_variable a.active a.statement c.args.pair.0.now ≡ true =
    sym c.is_mandatory.ensures ∙ c.if-not-is_mandatory.false in
    let second : is_mandatory_variable a.active a.statement c.args.pair.1.now ≡ true =
    sym c.is_mandatory-else-not-is_mandatory.ensures ∙ c.if-not-is_mandatory-2.false in
    let near = not (are_apart x (replacement s c.args.pair.0.now) (replacement s c.args.pair.1.now)) in
    c.is_some.ensures
    ∙ meeting_is x (variables_in x d) (variables_in x e) c.in_ok-meeting.meeting c.in_ok-meeting.ensures
    ∙ ap (λ d. not (are_apart x d e)) c.replacement.ensures
    ∙ ap (λ e. not (are_apart x (replacement s c.args.pair.0.now) e)) c.replacement-2.ensures
    ∙ sym (ap (λ b. (b && is_mandatory_variable a.active a.statement c.args.pair.1.now) && near) first ∙ ap (λ b. b && near) second)
