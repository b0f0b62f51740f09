-- What is left to show of `database_lines`.
use Rattle.std.proofs.Common.{◌≡◌, ◌∙◌, ◌<◌, ◌++◌, [], List, ℕ, length, get_or, sym, ap, subst}
use Rattle.mmsyntax.specs.declared.statement.Assertion.{Assertion}
use Rattle.mmsyntax.specs.Assertions.{Fits}
use Rattle.std.specs.List.{flat_map}
use Rattle.std.proofs.lemmas.List.{take_all}
use Rattle.mmsyntax.specs.Tables.{Tables}
use Rattle.mmsyntax.specs.Layout.{assertion_text}
use Rattle.mmsyntax.proofs.Declarable.{declarable}
use Rattle.mmwriter.proofs.Pieces.{lines_more}
use Rattle.secondlook.proofs.edited.database_lines.Goals as goal

pub put_assertion-requires : goal.put_assertion-requires
put_assertion-requires c =
    let db = c.args.database.now in
    let i = c.loop-assertion.assertion-index in
    let a = c.assertion-item.result in
    let within : i < length db.assertions = rw (sym c.assertions-assertions.ensures.value) c.loop-assertion-test.true in
    let fits : Fits db.prelude (get_or db.assertions i a) = ((declarable db c.assertions-assertions.ensures.sound).units i a within).fits in
    let is : get_or db.assertions i a ≡ a = sym (c.assertion-item.is
    ∙ ap (λ (xs : List Assertion). get_or xs i a) c.assertions-assertions.ensures.value) in
    subst (λ (t : Tables). Fits t a) (sym c.prelude.ensures) (subst (Fits db.prelude) is fits)

pub loop-assertion-preserved : goal.loop-assertion-preserved
loop-assertion-preserved c =
    let f = assertion_text c.args.database.now.prelude in
    let a = c.assertion-item.result in
    lines_more f c.assertions-assertions.result.now c.loop-assertion.assertion-index a a [] c.put_assertion.new.out.items
    c.loop-assertion-test.true c.assertion-item.is
    (c.in_ok-put_assertion.ensures
    ∙ ap (λ (t : Tables). c.loop-assertion.lines.items ++ assertion_text t a) c.prelude.ensures
    ∙ ap (λ (x : List ℕ). x ++ f a) c.loop-assertion.invariant)

pub loop-assertion-init : goal.loop-assertion-init
loop-assertion-init c = c.new-lines.ensures.items

pub returns : goal.returns
returns c =
    let l = c.loop-assertion in
    l.invariant
    ∙ ap (flat_map (assertion_text c.args.database.now.prelude))
    (take_all l.assertion-index c.assertions-assertions.result.now c.loop-assertion-test.false ∙ c.assertions-assertions.ensures.value)
