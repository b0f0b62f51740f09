-- What is left to show of `test_premises`.
use Rattle.std.proofs.Common.{◌≡◌, List, map, true, refl, sym, ap, ◌∙◌}
use Rattle.std.specs.Prelude.{find}
use mathlib.Core.Bool.{not}
use Rattle.std.specs.Option.{option_map}
use Rattle.std.specs.List.{zip}
use Rattle.std.specs.Borrow.{Bor}
use Rattle.source.specs.Scopes.{Hypothesis, premise}
use Rattle.source.specs.Views.{seen_words, seen_hypothesis}
use Rattle.verifying.specs.Citations.{Expression, is_instance, subst}
use Rattle.explaining.specs.declared.filling.Filled.{Filled}
use Rattle.explaining.specs.Shown.{seen_filled, substitution_by}
use Rattle.explaining.proofs.Concluded.{all_fit, one_misfits, same_misfit}
use Rattle.explaining.proofs.citing.test_premises.Goals as goal

pub returns-in_default : goal.returns-in_default
returns-in_default c = λ x hs es is.
    let q = λ (zs : List (Hypothesis × Expression)) (p : Hypothesis × Expression). is_instance (substitution_by zs) p.0 p.1 in
    all_fit (q (zip hs es)) (zip hs es)
    (ap (λ zs. find (λ p. not (q zs p)) zs) (sym is) ∙ sym c.in_ok-part.ensures
    ∙ ap (option_map (λ (f : Bor Filled). seen_filled f.now)) c.in_default.is)

pub unreachable-requires : goal.unreachable-requires
unreachable-requires c =
    let s = substitution_by (map seen_filled c.args.filled.now) in
    let q = λ (p : Hypothesis × Expression). is_instance s p.0 p.1 in
    let part = c.in-Some.part.now in
    let found = sym c.in_ok-part.ensures ∙ ap (option_map (λ (f : Bor Filled). seen_filled f.now)) c.in-Some.is in
    let off = (one_misfits q (map seen_filled c.args.filled.now) (seen_filled part) found).1 in
    let on : is_instance s (seen_hypothesis part.hypothesis) (seen_words part.expression.items) ≡ true =
    ap (λ h. is_instance s (seen_hypothesis h) (seen_words part.expression.items)) c.in-Typing.is in
    absurd cc

pub returns : goal.returns
returns c = λ x hs es is.
    let q = λ (zs : List (Hypothesis × Expression)) (p : Hypothesis × Expression). is_instance (substitution_by zs) p.0 p.1 in
    let part = c.in-Some.part.now in
    let found = ap (λ zs. find (λ p. not (q zs p)) zs) (sym is) ∙ sym c.in_ok-part.ensures
    ∙ ap (option_map (λ (f : Bor Filled). seen_filled f.now)) c.in-Some.is in
    let copied = c.in_ok-from_slice-in-Premise.ensures.items ∙ c.as_slice-in-Premise.ensures.value in (
      (one_misfits (q (zip hs es)) (zip hs es) (seen_filled part) found).0,
      record {
        labelled = refl;
        symbols = seen_words c.in-Premise.symbols.items;
        first_misfit = found
            ∙ same_misfit (seen_hypothesis part.hypothesis) (premise c.in-Premise.premise.now (seen_words c.in-Premise.symbols.items))
            (seen_words part.expression.items) (seen_words c.in_ok-from_slice-in-Premise.field-0.items)
            (ap seen_hypothesis c.in-Premise.is) (ap seen_words (sym copied));
        substituted = c.in_ok-substituted-in-Premise.ensures
            ∙ ap (λ zs. subst (substitution_by zs) (seen_words c.as_slice.result.now)) is
            ∙ ap (λ ws. subst (substitution_by (zip hs es)) (seen_words ws)) c.as_slice.ensures.value;
      },
      refl,
    )
