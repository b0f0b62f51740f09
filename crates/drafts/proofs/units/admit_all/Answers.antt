-- What is left to show of `admit_all`.
use Rattle.std.proofs.Common.{◌≡◌, ◌<◌, true, List, [], ◌∷◌, ◌++◌, length, sym, ap, subst, ◌∙◌, arith, rules, append_assoc, length-append}
use Rattle.std.specs.Vec.Iter.{into_iter_items}
use Rattle.std.proofs.lemmas.Result.{err_from_is_err_and}
use Rattle.mmsyntax.specs.declared.statement.Assertion.{Assertion}
use Rattle.mmsyntax.specs.Rows.{Units}
use Rattle.mmsyntax.specs.Layout.{HasSpelling}
use Rattle.mmsyntax.proofs.Canonical.{sound_tables}
use Rattle.drafts.specs.News.{IsAdmissible}
use Rattle.drafts.proofs.Admitted.{none_admitted, one_more, admitted_spelled, admissible_next}
use Rattle.drafts.proofs.units.admit_all.Goals as goal

pub loop-assertion-init : goal.loop-assertion-init
loop-assertion-init c = record {
  so_far = search rules;
  admitted = none_admitted c.args.prelude.now (sound_tables c.args.prelude.now c.requires.sound);
  split = search rules;
}

pub loop-assertion-preserved : goal.loop-assertion-preserved
loop-assertion-preserved c =
    let t = c.args.prelude.now in
    let xs : List Assertion = c.loop-assertion.yielded in
    let x : Assertion = c.in-Some.assertion in
    let was = c.loop-assertion.invariant in
    let rest : List Assertion = into_iter_items c.next.new.self in
    let step : into_iter_items c.loop-assertion.assertion-iterator ≡ x ∷ rest = c.in-Some.ensures.steps.0 in
    let whole : xs ++ x ∷ rest ≡ c.args.assertions = ap (λ ys. xs ++ ys) (sym step) ∙ was.split in
    let room : length xs < 4096 =
    let long = ap (λ (ys : List Assertion). length ys) whole in
    omega (arith, long, length-append xs (x ∷ rest), c.requires.few) in
    record {
      so_far = c.in_ok-admit.ensures.made
          ∙ ap (λ (u : Units). record u { assertions = u.assertions ++ x ∷ []; prelude_closed = true }) was.so_far;
      admitted = one_more t xs x was.admitted room
          (subst (λ (u : Units). IsAdmissible t u x) was.so_far c.in_ok-admit.ensures.lawful);
      split = append_assoc xs (x ∷ []) rest ∙ whole;
    }

pub returns-in_err-admit-clause-refused : goal.returns-in_err-admit-clause-refused
returns-in_err-admit-clause-refused c =
    let t = c.args.prelude.now in
    let xs : List Assertion = c.loop-assertion.yielded in
    let x : Assertion = c.in-Some.assertion in
    let was = c.loop-assertion.invariant in
    let rest : List Assertion = into_iter_items c.next.new.self in
    let step : into_iter_items c.loop-assertion.assertion-iterator ≡ x ∷ rest = c.in-Some.ensures.steps.0 in
    let whole : xs ++ x ∷ rest ≡ c.args.assertions = ap (λ ys. xs ++ ys) (sym step) ∙ was.split in
    let p = err_from_is_err_and c.from_residual.result c.from_residual.ensures.1 in
    rw (p.1, p.2)
    (λ other h. c.in_err-admit.ensures.refused other
    (subst (λ (u : Units). IsAdmissible t u x) (sym was.so_far)
    (admissible_next t xs x rest (subst (λ ys. HasSpelling (record { prelude = t; assertions = ys })) (sym whole) h))))

pub returns-clause-spelled : goal.returns-clause-spelled
returns-clause-spelled c =
    let t = c.args.prelude.now in
    let xs : List Assertion = c.loop-assertion.yielded in
    let same : c.from_vec.result ≡ xs = search rules in
    subst (λ ys. HasSpelling (record { prelude = t; assertions = ys })) (sym same)
    (admitted_spelled t xs c.loop-assertion.invariant.admitted)
