-- What is left to show of `gap_of`.
use Rattle.std.proofs.Common.{◌≡◌, ◌∙◌, ◌+◌, true, sym, ap, arith}
use Rattle.std.specs.Prelude.{slice_get}
use Rattle.std.specs.Int.{from_bool}
use Rattle.mmtext.specs.Views.{seen}
use Rattle.spreading.specs.Forms.{is_beside}
use Rattle.expanding.proofs.Placing.{front_most, front_found}
use Rattle.expanding.proofs.ranking.Ranker.gap_of.Goals as goal

pub returns-in_err-front : goal.returns-in_err-front
returns-in_err-front g c = λ flags earlier ready.
    let s = g.D.Declared.scope c.args.declared.now in
    let most = front_most s flags earlier c.args.self.now ready (seen c.args.how) (seen c.args.label) c.in_ok-place.place
    (sym c.in_ok-place.ensures) in
    let from = c.from.ensures ∙ ap from_bool c.is_behind.ensures in
    let fronts = ready.ranker.fronts.many in
    absurd (c.in_err-front.ensures (omega arith))

pub returns : goal.returns
returns g c = λ flags earlier ready.
    let s = g.D.Declared.scope c.args.declared.now in
    let from = c.from.ensures ∙ ap from_bool c.is_behind.ensures in
    let beside : is_beside (seen c.args.how) ≡ true = sym c.is_beside.ensures ∙ c.if-not-is_beside.false in
    c.taken_of.ensures
    ∙ (ap (slice_get c.args.self.now.fronts.items) (c.in_ok-front.ensures.1 ∙ ap (λ n. c.in_ok-place.place + n) from)
    ∙ front_found s flags earlier c.args.self.now ready (seen c.args.how) (seen c.args.label) c.in_ok-place.place
    (sym c.in_ok-place.ensures) beside)
