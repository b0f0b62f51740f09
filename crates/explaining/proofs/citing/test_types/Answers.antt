-- What is left to show of `test_types`.
use Rattle.std.proofs.Common.{◌≡◌, map, true, refl, sym, ap, ◌∙◌}
use Rattle.std.specs.Prelude.{find}
use mathlib.Core.Bool.{not}
use Rattle.std.specs.Option.{option_map}
use Rattle.std.specs.List.{zip}
use Rattle.std.specs.Borrow.{Bor}
use Rattle.source.specs.Scopes.{Hypothesis, typing}
use Rattle.source.specs.Views.{seen_words, seen_hypothesis}
use Rattle.verifying.specs.Citations.{Expression, has_type}
use Rattle.explaining.specs.declared.filling.Filled.{Filled}
use Rattle.explaining.specs.Shown.{seen_filled}
use Rattle.explaining.proofs.Concluded.{all_fit, one_misfits, same_misfit}
use Rattle.explaining.proofs.citing.test_types.Goals as goal

pub returns-in_default : goal.returns-in_default
returns-in_default c = λ x hs es is.
    let q = λ (p : Hypothesis × Expression). has_type p.0 p.1 in
    all_fit q (zip hs es)
    (ap (find (λ p. not (q p))) (sym is) ∙ sym c.first_untyped.ensures
    ∙ ap (option_map (λ (f : Bor Filled). seen_filled f.now)) c.in_default.is)

pub unreachable-requires : goal.unreachable-requires
unreachable-requires c =
    let q = λ (p : Hypothesis × Expression). has_type p.0 p.1 in
    let part = c.in-Some.part.now in
    let found = sym c.first_untyped.ensures ∙ ap (option_map (λ (f : Bor Filled). seen_filled f.now)) c.in-Some.is in
    let off = (one_misfits q (map seen_filled c.args.filled.now) (seen_filled part) found).1 in
    let on : has_type (seen_hypothesis part.hypothesis) (seen_words part.expression.items) ≡ true =
    ap (λ h. has_type (seen_hypothesis h) (seen_words part.expression.items)) c.in-Premise.is in
    absurd cc

pub returns : goal.returns
returns c = λ x hs es is.
    let q = λ (p : Hypothesis × Expression). has_type p.0 p.1 in
    let part = c.in-Some.part.now in
    let found = ap (find (λ p. not (q p))) (sym is) ∙ sym c.first_untyped.ensures
    ∙ ap (option_map (λ (f : Bor Filled). seen_filled f.now)) c.in-Some.is in
    let copied = c.in_ok-from_slice-in-Typing.ensures.items ∙ c.as_slice.ensures.value in (
      (one_misfits q (zip hs es) (seen_filled part) found).0,
      record {
        labelled = refl;
        variable = c.in-Typing.field-2.now;
        first_misfit = found
            ∙ same_misfit (seen_hypothesis part.hypothesis) (typing c.in-Typing.float.now c.in-Typing.wanted.now c.in-Typing.field-2.now)
            (seen_words part.expression.items) (seen_words c.in_ok-from_slice-in-Typing.field-0.items) (ap seen_hypothesis c.in-Typing.is)
            (ap seen_words (sym copied));
      },
      refl,
    )
