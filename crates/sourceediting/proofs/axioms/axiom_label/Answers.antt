-- What is left to show of `axiom_label`.
use Rattle.std.proofs.Common.{◌≡◌, ◌∙◌, true, false, map, Some, ap, sym}
use Rattle.std.specs.Prelude.{is_some}
use Rattle.std.proofs.lemmas.Bool.{cond-true, cond-false}
use Rattle.source.specs.Scopes.{is_in}
use Rattle.giving.proofs.Finding.{text_found}
use Rattle.sourceediting.proofs.axioms.axiom_label.Goals as goal

pub returns-in-Some : goal.returns-in-Some
returns-in-Some c =
    let cs = c.args.axioms.now in
    let w = c.args.followed.now.now.now in
    let is : is_in (map (λ c. c.0) cs) w ≡ true = sym (text_found cs w c.text_for.result c.text_for.ensures) ∙ ap is_some c.in-Some.is in
    ap Some c.label_then.ensures ∙ sym (cond-true (is_in (map (λ c. c.0) cs) w) _ _ is)

pub returns-in-None : goal.returns-in-None
returns-in-None c =
    let cs = c.args.axioms.now in
    let w = c.args.followed.now.now.now in
    let is : is_in (map (λ c. c.0) cs) w ≡ false = sym (text_found cs w c.text_for.result c.text_for.ensures) ∙ ap is_some c.in-None.is in
    sym (cond-false (is_in (map (λ c. c.0) cs) w) _ _ is)
