-- What is left to show of `sort_of`.
use Rattle.std.proofs.Common.{◌≡◌, Some, None, ◌∙◌, sym, subst, rules}
use Rattle.scopes.specs.Views.{kept_of, scope_of}
use Rattle.scopes.specs.Sound.{KnowsWord, looks_up}
use Rattle.scopes.specs.declared.tables.Name.TheVariants.{Constant, Variable, Hypothesis, Assertion}
use Rattle.scopes.proofs.SortsOf.{sort_unknown, sort_constant, sort_variable, sort_hypothesis, sort_assertion, closed_hypothesis, closed_assertion}
use Rattle.scopes.proofs.sorts.sort_of.Goals as goal

pub returns-in-None : goal.returns-in-None
returns-in-None c =
    let w = c.args.word.now in
    let s = scope_of (kept_of c.args.tables.now) in
    let at : looks_up c.args.tables.now.names w ≡ None = search rules in
    sort_unknown s w (subst (λ o. KnowsWord s w o) at (c.requires.named w))

pub returns-in-Some-Constant : goal.returns-in-Some-Constant
returns-in-Some-Constant c =
    let w = c.args.word.now in
    let s = scope_of (kept_of c.args.tables.now) in
    let at : looks_up c.args.tables.now.names w ≡ Some Constant = search rules in
    sort_constant s w (subst (λ o. KnowsWord s w o) at (c.requires.named w))

pub returns-in-Some-Variable : goal.returns-in-Some-Variable
returns-in-Some-Variable c =
    let w = c.args.word.now in
    let s = scope_of (kept_of c.args.tables.now) in
    let at : looks_up c.args.tables.now.names w ≡ Some (Variable c.in-Some-Variable.place c.in-Some-Variable.float) = search rules in
    sort_variable s w c.in-Some-Variable.place c.in-Some-Variable.float _ _ (subst (λ o. KnowsWord s w o) at (c.requires.named w))
    (search rules) c.active_float.ensures

pub returns-then-is_hypothesis_at : goal.returns-then-is_hypothesis_at
returns-then-is_hypothesis_at c =
    let w = c.args.word.now in
    let s = scope_of (kept_of c.args.tables.now) in
    let at : looks_up c.args.tables.now.names w ≡ Some (Hypothesis c.in-Some-Hypothesis.place) = search rules in
    sort_hypothesis s w c.in-Some-Hypothesis.place (subst (λ o. KnowsWord s w o) at (c.requires.named w))
    (sym c.is_hypothesis_at.ensures ∙ c.if-is_hypothesis_at.true)

pub returns-else-is_hypothesis_at : goal.returns-else-is_hypothesis_at
returns-else-is_hypothesis_at c =
    let w = c.args.word.now in
    let s = scope_of (kept_of c.args.tables.now) in
    let at : looks_up c.args.tables.now.names w ≡ Some (Hypothesis c.in-Some-Hypothesis.place) = search rules in
    closed_hypothesis s w c.in-Some-Hypothesis.place (subst (λ o. KnowsWord s w o) at (c.requires.named w))
    (sym c.is_hypothesis_at.ensures ∙ c.if-is_hypothesis_at.false)

pub returns-then-is_assertion_at : goal.returns-then-is_assertion_at
returns-then-is_assertion_at c =
    let w = c.args.word.now in
    let s = scope_of (kept_of c.args.tables.now) in
    let at : looks_up c.args.tables.now.names w ≡ Some (Assertion c.in-Some-Assertion.place) = search rules in
    sort_assertion s w c.in-Some-Assertion.place (subst (λ o. KnowsWord s w o) at (c.requires.named w))
    (sym c.is_assertion_at.ensures ∙ c.if-is_assertion_at.true)

pub returns-else-is_assertion_at : goal.returns-else-is_assertion_at
returns-else-is_assertion_at c =
    let w = c.args.word.now in
    let s = scope_of (kept_of c.args.tables.now) in
    let at : looks_up c.args.tables.now.names w ≡ Some (Assertion c.in-Some-Assertion.place) = search rules in
    closed_assertion s w c.in-Some-Assertion.place (subst (λ o. KnowsWord s w o) at (c.requires.named w))
    (sym c.is_assertion_at.ensures ∙ c.if-is_assertion_at.false)
