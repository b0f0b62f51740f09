use Rattle.std.proofs.Common.{sym, subst}
use Rattle.std.specs.List.{All}
use Rattle.library.specs.Fitting.{CommandFits}
use Rattle.history.specs.Editors.{Held}
use Rattle.history.proofs.Taking.{done_settles}
use Rattle.history.proofs.editor.Editor.apply.Goals as goal

pub take_all-requires-clause-fit : goal.take_all-requires-clause-fit
take_all-requires-clause-fit c =
    subst (λ (h : Held). All (CommandFits h.setting.prelude) c.args.commands.now) (sym c.self.view_is) c.requires

pub invariant_of-self : goal.invariant_of-self
invariant_of-self c =
    let cs = c.args.commands.now in
    let fit = subst (λ (h : Held). All (CommandFits h.setting.prelude) cs) (sym c.self.view_is) c.requires in
    let old = c.self.inside.draft in
    let now = c.take_all.new.self in
    done_settles old now c.settle.new.self cs c.in-Ok.replies c.self.invariant fit c.in-Ok.ensures.taken c.in-Ok.ensures.kept
    c.settle.ensures
