use Rattle.std.proofs.Common.{All, rules, sym, ap, subst, ◌∙◌, refl}
use Rattle.mmsyntax.specs.Tables.{Tables}
use Rattle.library.specs.Fitting.{CommandFits}
use Rattle.library.specs.Library.{Setting}
use Rattle.plaincells.specs.PlainViews.{cells_sight}
use Rattle.commands.proofs.Allowed.{may_do_all}
use Rattle.trials.proofs.Plain.{done_shows_some, begun_shows}
use Rattle.trials.proofs.in_cells.InCells.apply.Goals as goal
use Rattle.cells.proofs.Sights.{setting_kept}

pub run-requires-clause-may : goal.run-requires-clause-may
run-requires-clause-may c = may_do_all (cells_sight c.args.self.now.cells) c.args.commands.now (λ _. refl) (λ _. refl)

pub keep-requires : goal.keep-requires
keep-requires c =
    let p = c.args.self.now in
    let fits : All (CommandFits p.prelude) c.args.commands.now = search (rules, c.all_fit.ensures) in
    done_shows_some p.cells c.run.new.cells c.args.commands.now c.in-Ok.replies c.run.ensures.onward
    (subst (λ (t : Tables). All (CommandFits t) c.args.commands.now) (sym p.same) fits) c.in-Ok.ensures.answers p.shown

pub invariant_of-self : goal.invariant_of-self
invariant_of-self c =
    record {
      same = c.keep.ensures.same.3 ∙ ap (λ (s : Setting). s.prelude) (setting_kept c.run.ensures.onward) ∙ c.args.self.now.same;
      shown = begun_shows c.keep.new.self c.keep.ensures.log;
    }

pub invariant_of-self-in-Err : goal.invariant_of-self-in-Err
invariant_of-self-in-Err c =
    record {
      same = c.undo.ensures.same.2 ∙ ap (λ (s : Setting). s.prelude) (setting_kept c.run.ensures.onward) ∙ c.args.self.now.same;
      shown = begun_shows c.undo.new.self c.undo.ensures.log;
    }
