-- What is left to show of `reproving`.
use Rattle.std.proofs.Common.{◌≡◌, ◌∙◌, rules, refl, subst, sym, ap, Some, None}
use Rattle.std.specs.Option.{option_map}
use Rattle.mmtext.specs.Views.{seen}
use Rattle.expanding.specs.Views.{seen_cut}
use Rattle.std.specs.Str.{bytes_eq}
use Rattle.source.specs.Scopes.{Assertion}
use Rattle.prooftrees.proofs.Found.{first_is}
use Rattle.pasting.specs.Additions.{theorem_of}
use Rattle.pasting.specs.Views.{IsProvingIf, seen_addition}
use Rattle.pasting.specs.declared.proving.Theorem.TheVariants.{Standing, Reproved}
use Rattle.pasting.proofs.Citable.{added_is}
use Rattle.pasting.proofs.Reproving.{theorem_there, theorem_standing, theorem_added, reproved_there}
use Rattle.pasting.proofs.proving.reproving.Goals as goal

pub returns-clause-proving : goal.returns-clause-proving
returns-clause-proving g c = λ m t xs known ended.
    let s = g.D.Declared.scope c.args.declared.now in
    let label = c.in_ok-label.label in
    let place = c.in-Some.place in
    let placed = sym c.in-Some.is ∙ c.place_of.ensures in
    let there = theorem_there s (seen label) place placed in
    reproved_there t s xs (seen_cut c.args.cut) (seen c.args.ends) ended (seen label) (Some there.0) c.in_ok-label.ensures
    (theorem_standing s xs (seen label) place there.0 placed there.1) m
    (Some (record { cut = c.args.cut; ends = c.args.ends; label = label; theorem = Standing place }))
    (record { cut = refl; ends = refl; label = refl; theorem = there.1; word = refl })

pub returns-in_default-clause-proving : goal.returns-in_default-clause-proving
returns-in_default-clause-proving g c = λ m t xs known ended.
    let s = g.D.Declared.scope c.args.declared.now in
    let label = c.in_ok-label.label in
    let a = c.in_ok-addition.addition in
    let x = theorem_of m t (seen_addition a.now) in
    let found = added_is m t xs c.args.additions.now label.text.now known (Some (seen_addition a.now)) c.in_ok-addition.ensures in
    reproved_there t s xs (seen_cut c.args.cut) (seen c.args.ends) ended (seen label) (Some x) c.in_ok-label.ensures
    (theorem_added s xs (seen label) (sym c.in_default.is ∙ c.place_of.ensures) ∙ found) m
    (Some (record { cut = c.args.cut; ends = c.args.ends; label = label; theorem = Reproved a }))
    (record { cut = refl; ends = refl; label = refl; theorem = refl; word = refl })

pub returns-in_err-addition-clause-proving : goal.returns-in_err-addition-clause-proving
returns-in_err-addition-clause-proving g c = λ m t xs known ended.
    let s = g.D.Declared.scope c.args.declared.now in
    let label = c.in_ok-label.label in
    let none : c.addition.result ≡ None = search rules in
    let gone : c.from_residual-in_err-addition.result ≡ None = search rules in
    let found = added_is m t xs c.args.additions.now label.text.now known None
    (sym (ap (option_map (λ a. seen_addition a.now)) none) ∙ c.addition.ensures) in
    reproved_there t s xs (seen_cut c.args.cut) (seen c.args.ends) ended (seen label) None c.in_ok-label.ensures
    (theorem_added s xs (seen label) (sym c.in_default.is ∙ c.place_of.ensures) ∙ found) m c.from_residual-in_err-addition.result
    (subst (λ f. IsProvingIf m t s f None) (sym gone) refl)

pub returns-clause-within : goal.returns-clause-within
returns-clause-within g c =
    let s = g.D.Declared.scope c.args.declared.now in
    let first = first_is (λ (a : Assertion). bytes_eq c.in_ok-label.label.text.now a.label) s.assertions 0 c.in-Some.place
    (sym c.place_of.ensures ∙ c.in-Some.is) in
    first.within
