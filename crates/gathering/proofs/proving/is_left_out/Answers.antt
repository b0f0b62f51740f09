-- What is left to show of `is_left_out`.
use Rattle.std.proofs.Common.{◌<◌, suc, sym, subst, ℕ, arith}
use Rattle.std.specs.Str.{bytes_eq}
use Rattle.std.proofs.lemmas.Option.{slice_get_within}
use Rattle.source.specs.Scopes.{Assertion}
use Rattle.gathering.proofs.LeftOut.{first_passes, left_out_by_flag, not_left_out_before, not_left_out}
use Rattle.gathering.proofs.proving.is_left_out.Goals as goal

pub bounds-chosen-other : goal.bounds-chosen-other
bounds-chosen-other g c =
    let xs = (g.D.Declared.scope c.args.declared.now).assertions in
    let i = c.in-Some.other in
    let first = first_passes (λ (a : Assertion). bytes_eq c.args.label.now a.label) xs i (suc i) (sym c.in-Some.ensures) (omega arith) in
    subst (λ (n : ℕ). i < n) (sym c.requires) (slice_get_within xs i first.0 first.1)

pub returns-in-Some : goal.returns-in-Some
returns-in-Some g c =
    λ choice are.
    left_out_by_flag (g.D.Declared.scope c.args.declared.now).assertions choice.chosen c.args.chosen.now are c.args.label.now
    c.in-Some.other c.args.place (sym c.in-Some.ensures) c.if-other-place.true

pub returns-in_default : goal.returns-in_default
returns-in_default g c =
    λ choice are.
    not_left_out_before (g.D.Declared.scope c.args.declared.now).assertions choice.chosen c.args.chosen.now are c.args.label.now
    c.in-Some.other c.args.place (sym c.in-Some.ensures) c.if-other-place.false

pub returns-in_default-2 : goal.returns-in_default-2
returns-in_default-2 g c =
    λ choice are.
    not_left_out (g.D.Declared.scope c.args.declared.now).assertions choice.chosen c.args.chosen.now are c.args.label.now c.args.place
    (sym c.in_default.ensures)
