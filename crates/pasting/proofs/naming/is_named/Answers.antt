-- What is left to show of `is_named`.
use Rattle.std.proofs.Common.{◌∙◌, sym, ap}
use Rattle.std.specs.Prelude.{◌||◌, is_some}
use Rattle.pasting.specs.Views.{flags_in}
use Rattle.prooftrees.specs.Roles.{looks_up}
use Rattle.pasting.proofs.Unnamed.{known_is}
use Rattle.pasting.proofs.naming.is_named.Goals as goal

pub returns-then-have : goal.returns-then-have
returns-then-have g c = λ earlier active frames roles.
    let w = c.args.label.now in
    let f = flags_in (g.D.Declared.scope c.args.citing.now.declared.now).assertions c.args.citing.now.additions.now w in
    c.if-have.true
    ∙ ap (λ b. b || is_some f) (sym c.if-have.true ∙ c.have.ensures)
    ∙ known_is earlier active w (looks_up c.args.roles.now.roles w) f (roles w) (frames w)

pub returns-else-have : goal.returns-else-have
returns-else-have g c = λ earlier active frames roles.
    let w = c.args.label.now in
    let f = flags_in (g.D.Declared.scope c.args.citing.now.declared.now).assertions c.args.citing.now.additions.now w in
    c.may_cite.ensures
    ∙ ap (λ b. b || is_some f) (sym c.if-have.false ∙ c.have.ensures)
    ∙ known_is earlier active w (looks_up c.args.roles.now.roles w) f (roles w) (frames w)
