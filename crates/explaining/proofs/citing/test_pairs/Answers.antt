-- What is left to show of `test_pairs`.
use Rattle.std.proofs.Common.{◌≡◌, ℕ, List, map, filter, Some, None, true, refl, sym, ap, subst as transport, ◌∙◌}
use Rattle.std.specs.Prelude.{find, ◌&&◌, Option}
use mathlib.Core.Bool.{not}
use Rattle.std.specs.Option.{option_map}
use Rattle.std.specs.List.{zip}
use Rattle.std.specs.Borrow.{Bor}
use Rattle.source.specs.Scopes.{Hypothesis, Pair, is_mandatory_variable, mandatory_pairs}
use Rattle.source.specs.Views.{seen_words, seen_pairs}
use Rattle.verifying.specs.Citations.{Expression, variables_in, are_apart, replacement}
use Rattle.explaining.specs.Shown.{seen_assertion, seen_filled, substitution_by, AreMeeting}
use Rattle.explaining.proofs.Concluded.{all_fit, one_misfits}
use Rattle.explaining.proofs.citing.test_pairs.Goals as goal

pub returns-in_default : goal.returns-in_default
returns-in_default c = λ hs es is.
    let x = seen_assertion c.args.theorem.now in
    let a = seen_assertion c.args.cited.now in
    let q = λ (zs : List (Hypothesis × Expression)) (p : Pair).
    are_apart x (replacement (substitution_by zs) p.0) (replacement (substitution_by zs) p.1) in
    let kept = λ (p : Pair). is_mandatory_variable a.active a.statement p.0 && is_mandatory_variable a.active a.statement p.1 in
    all_fit (q (zip hs es)) (mandatory_pairs a)
    (ap (λ zs. find (λ p. not (q zs p)) (mandatory_pairs a)) (sym is)
    ∙ ap (λ ps. find (λ p. not (q (map seen_filled c.args.filled.now) p)) (filter kept (seen_pairs ps))) (sym c.as_slice.ensures.value)
    ∙ sym c.in_ok-first.ensures
    ∙ ap (option_map (λ (p : Bor (List ℕ) × Bor (List ℕ)). (p.0.now, p.1.now))) c.in_default.is)

pub unreachable-requires : goal.unreachable-requires
unreachable-requires c =
    let x = seen_assertion c.args.theorem.now in
    let a = seen_assertion c.args.cited.now in
    let s = substitution_by (map seen_filled c.args.filled.now) in
    let q = λ (p : Pair). are_apart x (replacement s p.0) (replacement s p.1) in
    let kept = λ (p : Pair). is_mandatory_variable a.active a.statement p.0 && is_mandatory_variable a.active a.statement p.1 in
    let found = ap (λ ps. find (λ p. not (q p)) (filter kept (seen_pairs ps))) (sym c.as_slice.ensures.value)
    ∙ sym c.in_ok-first.ensures
    ∙ ap (option_map (λ (p : Bor (List ℕ) × Bor (List ℕ)). (p.0.now, p.1.now))) c.in-Some.is in
    let off = (one_misfits q (mandatory_pairs a) (c.in-Some.first.now, c.in-Some.second.now) found).1 in
    let first : seen_words c.as_slice-2.result.now ≡ replacement s c.in-Some.first.now =
    ap seen_words (c.as_slice-2.ensures.value ∙ c.in_ok-for_first.ensures.items) ∙ c.replacement.ensures in
    let second : seen_words c.as_slice-3.result.now ≡ replacement s c.in-Some.second.now =
    ap seen_words (c.as_slice-3.ensures.value ∙ c.in_ok-for_second.ensures.items) ∙ c.replacement-2.ensures in
    let met : AreMeeting x (variables_in x (seen_words c.as_slice-2.result.now)) (variables_in x (seen_words c.as_slice-3.result.now))
    None =
    transport (λ (o : Option (Bor (List ℕ) × Bor (List ℕ))).
    AreMeeting x (variables_in x (seen_words c.as_slice-2.result.now)) (variables_in x (seen_words c.as_slice-3.result.now)) o) c.in-None.is
    c.in_ok-one.ensures in
    let on : are_apart x (replacement s c.in-Some.first.now) (replacement s c.in-Some.second.now) ≡ true =
    ap (λ e. are_apart x e (replacement s c.in-Some.second.now)) (sym first)
    ∙ ap (are_apart x (seen_words c.as_slice-2.result.now)) (sym second) ∙ met in
    absurd cc

pub returns : goal.returns
returns c = λ hs es is.
    let x = seen_assertion c.args.theorem.now in
    let a = seen_assertion c.args.cited.now in
    let q = λ (zs : List (Hypothesis × Expression)) (p : Pair).
    are_apart x (replacement (substitution_by zs) p.0) (replacement (substitution_by zs) p.1) in
    let kept = λ (p : Pair). is_mandatory_variable a.active a.statement p.0 && is_mandatory_variable a.active a.statement p.1 in
    let found = ap (λ zs. find (λ p. not (q zs p)) (mandatory_pairs a)) (sym is)
    ∙ ap (λ ps. find (λ p. not (q (map seen_filled c.args.filled.now) p)) (filter kept (seen_pairs ps))) (sym c.as_slice.ensures.value)
    ∙ sym c.in_ok-first.ensures
    ∙ ap (option_map (λ (p : Bor (List ℕ) × Bor (List ℕ)). (p.0.now, p.1.now))) c.in-Some.is in
    let firsts = c.as_slice-2.ensures.value in
    let seconds = c.as_slice-3.ensures.value in
    let met : AreMeeting x (variables_in x (seen_words c.as_slice-2.result.now)) (variables_in x (seen_words c.as_slice-3.result.now))
    (Some (c.in-Some-2.one, c.in-Some-2.other)) =
    transport (λ (o : Option (Bor (List ℕ) × Bor (List ℕ))).
    AreMeeting x (variables_in x (seen_words c.as_slice-2.result.now)) (variables_in x (seen_words c.as_slice-3.result.now)) o)
    c.in-Some-2.is
    c.in_ok-one.ensures in
    let here : AreMeeting x (variables_in x (seen_words c.in_ok-for_first.for_first.items))
    (variables_in x (seen_words c.in_ok-for_second.for_second.items)) (Some (c.in-Some-2.one, c.in-Some-2.other)) =
    transport (λ (ws : List (Bor (List ℕ))). AreMeeting x (variables_in x (seen_words ws))
    (variables_in x (seen_words c.in_ok-for_second.for_second.items)) (Some (c.in-Some-2.one, c.in-Some-2.other))) firsts
    (transport (λ (ws : List (Bor (List ℕ))). AreMeeting x (variables_in x (seen_words c.as_slice-2.result.now))
    (variables_in x (seen_words ws)) (Some (c.in-Some-2.one, c.in-Some-2.other))) seconds met) in (
      (one_misfits (q (zip hs es)) (mandatory_pairs a) (c.in-Some.first.now, c.in-Some.second.now) found).0,
      record {
        labelled = refl;
        first_misfit = found;
        first_is = ap seen_words c.in_ok-for_first.ensures.items ∙ c.replacement.ensures
            ∙ ap (λ zs. replacement (substitution_by zs) c.in-Some.first.now) is;
        second_is = ap seen_words c.in_ok-for_second.ensures.items ∙ c.replacement-2.ensures
            ∙ ap (λ zs. replacement (substitution_by zs) c.in-Some.second.now) is;
        one_is = here.0;
        other_is = here.1;
      },
      refl,
    )
