-- What is left to show of `cite`.
use Rattle.std.proofs.Common.{◌≡◌, ℕ, List, ◌∷◌, length, map, reverse, Some, Ok, refl, sym, ap, subst as transport, ◌∙◌, arith, rules}
use Rattle.std.specs.List.{zip}
use Rattle.std.specs.Borrow.{Bor}
use Rattle.std.specs.Global.{Vec}
use Rattle.std.proofs.lemmas.List.{length-map}
use Rattle.source.specs.Scopes.{Assertion}
use Rattle.source.specs.Views.{seen_words, seen_hypothesis}
use Rattle.verifying.specs.Verifies.{cited}
use Rattle.explaining.specs.declared.citing.Conclusion.{Conclusion}
use Rattle.explaining.specs.declared.citing.Conclusion.TheVariants as conclusion
use Rattle.explaining.specs.Shown.{seen_assertion, with_hypotheses, seen_expression, seen_filled, seen_entry, Concludes}
use Rattle.explaining.proofs.Bare.{without_proof, same_cited, fails_cited}
use Rattle.explaining.proofs.Stepped.{too_few, is_cited, cites_to}
use Rattle.explaining.proofs.stepping.cite.Goals as goal

pub returns-in_default : goal.returns-in_default
returns-in_default c = λ earlier label a is same none found.
    let x = seen_assertion c.args.theorem.now in
    let lt = rw c.in_default.is at c.in_ok-expressions.ensures in
    let counted : c.len.result ≡ length c.args.hypotheses.items = search rules in
    let long : length a.hypotheses ≡ c.len.result =
    ap length same ∙ length-map c.args.hypotheses.items seen_hypothesis ∙ sym counted in
    too_few earlier x label a none found c.args.stack.now (omega (arith, lt, long))

pub returns-in-Fails : goal.returns-in-Fails
returns-in-Fails c = λ earlier label a is same none found.
    let x = seen_assertion c.args.theorem.now in
    let hs = map seen_hypothesis c.args.hypotheses.items in
    let parts = rw c.in-Some.is at c.in_ok-expressions.ensures in
    let es = c.in-Some.expressions.items in
    let counted : c.len.result ≡ length c.args.hypotheses.items = search rules in
    let many : length es ≡ length a.hypotheses =
    parts.1 ∙ counted ∙ sym (length-map c.args.hypotheses.items seen_hypothesis) ∙ sym (ap length same) in
    let filled : map seen_filled c.as_slice.result.now ≡ zip hs (map seen_expression es) =
    ap (map seen_filled) c.as_slice.ensures.value ∙ c.in_ok-filled.ensures in
    let fails : Concludes x (with_hypotheses c.args.cited.now hs) (map seen_expression es) (conclusion.Fails c.in-Fails.finding) =
    transport (λ (o : Conclusion). Concludes x (with_hypotheses c.args.cited.now hs) (map seen_expression es) o) c.in-Fails.is
    (c.in_ok-finding.ensures hs (map seen_expression es) filled) in
    record {
      label = label;
      is_label = refl;
      c = a;
      es = map seen_expression es;
      cites = is_cited earlier x label a none found c.args.stack.now c.take.new.self.entries.items es parts.0 many;
      by = fails_cited x a (with_hypotheses c.args.cited.now hs) (map seen_expression es) c.in-Fails.finding
          (same_cited a c.args.cited.now hs is same) fails;
    }

pub returns : goal.returns
returns c = λ earlier label a is same none found.
    let x = seen_assertion c.args.theorem.now in
    let hs = map seen_hypothesis c.args.hypotheses.items in
    let parts = rw c.in-Some.is at c.in_ok-expressions.ensures in
    let es = c.in-Some.expressions.items in
    let made = seen_words c.in-Made.expression.items in
    let counted : c.len.result ≡ length c.args.hypotheses.items = search rules in
    let many : length es ≡ length a.hypotheses =
    parts.1 ∙ counted ∙ sym (length-map c.args.hypotheses.items seen_hypothesis) ∙ sym (ap length same) in
    let filled : map seen_filled c.as_slice.result.now ≡ zip hs (map seen_expression es) =
    ap (map seen_filled) c.as_slice.ensures.value ∙ c.in_ok-filled.ensures in
    let passes : cited x (with_hypotheses c.args.cited.now hs) (map seen_expression es) ≡ Ok made =
    transport (λ (o : Conclusion). Concludes x (with_hypotheses c.args.cited.now hs) (map seen_expression es) o) c.in-Made.is
    (c.in_ok-finding.ensures hs (map seen_expression es) filled) in
    let own : cited x (without_proof a) (map seen_expression es) ≡ Ok made =
    transport (λ (b : Assertion). cited x b (map seen_expression es) ≡ Ok made) (sym (same_cited a c.args.cited.now hs is same)) passes in
    let left = c.take.new.self in
    cites_to earlier x label a none found c.args.stack.now left.entries.items es parts.0 many made own
    ∙ ap (λ (ms : Vec (Vec (Bor (List ℕ)))). Some (record {
      entries = Ok made ∷ reverse (map seen_entry left.entries.items);
      marked = map seen_entry ms.items;
    })) (sym parts.2)
    ∙ ap (λ s. Some s) (sym c.in_ok-push-in-Made.ensures)
