-- What is left to show of `too_long_line`.
use Rattle.std.proofs.Common.{◌≡◌, ◌∙◌, ◌++◌, ap, List, ℕ, string_bytes, codes, Some}
use Rattle.std.proofs.lemmas.Result.{IfOk-weaker}
use Rattle.locating.specs.Told.{told_at, labelled, told_rule}
use Rattle.locating.specs.Steps.{theorem_at}
use Rattle.verifytext.specs.Lines.{too_long_line}
use Rattle.verifytext.proofs.wording.too_long_line.Goals as goal

abbrev rule : List ℕ
rule = codes "the steps of this proof write down more than 268435456 symbols"

pub returns : goal.returns
returns c =
    let label = c.args.label.now in
    let named =
    ap (λ name. codes "proof of " ++ (name ++ codes ": expressions of more than 268435456 symbols")) c.printed_name-name.ensures in
    let known = c.as_str.ensures.value ∙ c.in_ok-known.ensures.ok ∙ named in
    let here = told_at c.args.path.now c.args.text.now in
    let said = ap (λ fault. labelled (Some label) (told_rule rule fault)) known in
    IfOk-weaker c.told_line.result _ (λ line. string_bytes line ≡ too_long_line c.args.path.now c.args.text.now label) (λ line is.
    is
    ∙ (ap (λ spot. here spot (labelled (Some label) (told_rule rule c.as_str.result.now))) c.in_ok-spot.ensures
    ∙ ap (here (theorem_at c.args.text.now label)) said))
    c.told_line.ensures
