use Rattle.std.proofs.Common.{sym, subst}
use Rattle.std.specs.Prelude.{IfOk}
use Rattle.groundwork.specs.Takes.{TakesBodies}
use Rattle.library.specs.declared.command.Command.{Command}
use Rattle.groundwork.specs.Touches.{KeepsTo}
use Rattle.groundwork.specs.Footprints.{ReadsFor}
use Rattle.commands.proofs.running.take.Goals as goal

pub returns-in-Add-clause-taken : goal.returns-in-Add-clause-taken
returns-in-Add-clause-taken g c =
    subst (λ x. TakesBodies x (g.C.Cells.sight c.args.cells.now) (g.C.Cells.sight c.add.new.cells)) (sym c.in-Add.is) c.add.ensures.taken

pub returns-in-Reprove-clause-taken : goal.returns-in-Reprove-clause-taken
returns-in-Reprove-clause-taken g c =
    subst (λ x. TakesBodies x (g.C.Cells.sight c.args.cells.now) (g.C.Cells.sight c.reprove.new.cells))
    (sym c.in-Reprove.is) c.reprove.ensures.taken

pub returns-in-Replace-clause-taken : goal.returns-in-Replace-clause-taken
returns-in-Replace-clause-taken g c =
    subst (λ x. TakesBodies x (g.C.Cells.sight c.args.cells.now) (g.C.Cells.sight c.replace.new.cells))
    (sym c.in-Replace.is) c.replace.ensures.taken

pub returns-in-Rename-clause-taken : goal.returns-in-Rename-clause-taken
returns-in-Rename-clause-taken g c =
    subst (λ x. TakesBodies x (g.C.Cells.sight c.args.cells.now) (g.C.Cells.sight c.rename.new.cells))
    (sym c.in-Rename.is) c.rename.ensures.taken

pub returns-in-Move-clause-taken : goal.returns-in-Move-clause-taken
returns-in-Move-clause-taken g c =
    subst (λ x. TakesBodies x (g.C.Cells.sight c.args.cells.now) (g.C.Cells.sight c.move_to.new.cells))
    (sym c.in-Move.is) c.move_to.ensures.taken

pub returns-in-Delete-clause-taken : goal.returns-in-Delete-clause-taken
returns-in-Delete-clause-taken g c =
    subst (λ x. TakesBodies x (g.C.Cells.sight c.args.cells.now) (g.C.Cells.sight c.delete.new.cells))
    (sym c.in-Delete.is) c.delete.ensures.taken

pub returns-in-Show-clause-taken : goal.returns-in-Show-clause-taken
returns-in-Show-clause-taken g c =
    subst (λ x. TakesBodies x (g.C.Cells.sight c.args.cells.now) (g.C.Cells.sight c.show.new.cells)) (sym c.in-Show.is) c.show.ensures.taken

pub returns-in-List-clause-taken : goal.returns-in-List-clause-taken
returns-in-List-clause-taken g c =
    subst (λ x. TakesBodies x (g.C.Cells.sight c.args.cells.now) (g.C.Cells.sight c.list.new.cells)) (sym c.in-List.is) c.list.ensures.taken

pub returns-in-Add-clause-keeps : goal.returns-in-Add-clause-keeps
returns-in-Add-clause-keeps g c =
    let old = g.C.Cells.sight c.args.cells.now in
    let new = g.C.Cells.sight c.add.new.cells in
    subst (λ (x : Command). IfOk c.add.result (λ _. KeepsTo old new x)) (sym c.in-Add.is) c.add.ensures.keeps

pub returns-in-Reprove-clause-keeps : goal.returns-in-Reprove-clause-keeps
returns-in-Reprove-clause-keeps g c =
    let old = g.C.Cells.sight c.args.cells.now in
    let new = g.C.Cells.sight c.reprove.new.cells in
    subst (λ (x : Command). IfOk c.reprove.result (λ _. KeepsTo old new x)) (sym c.in-Reprove.is) c.reprove.ensures.keeps

pub returns-in-Replace-clause-keeps : goal.returns-in-Replace-clause-keeps
returns-in-Replace-clause-keeps g c =
    let old = g.C.Cells.sight c.args.cells.now in
    let new = g.C.Cells.sight c.replace.new.cells in
    subst (λ (x : Command). IfOk c.replace.result (λ _. KeepsTo old new x)) (sym c.in-Replace.is) c.replace.ensures.keeps

pub returns-in-Rename-clause-keeps : goal.returns-in-Rename-clause-keeps
returns-in-Rename-clause-keeps g c =
    let old = g.C.Cells.sight c.args.cells.now in
    let new = g.C.Cells.sight c.rename.new.cells in
    subst (λ (x : Command). IfOk c.rename.result (λ _. KeepsTo old new x)) (sym c.in-Rename.is) c.rename.ensures.keeps

pub returns-in-Move-clause-keeps : goal.returns-in-Move-clause-keeps
returns-in-Move-clause-keeps g c =
    let old = g.C.Cells.sight c.args.cells.now in
    let new = g.C.Cells.sight c.move_to.new.cells in
    subst (λ (x : Command). IfOk c.move_to.result (λ _. KeepsTo old new x)) (sym c.in-Move.is) c.move_to.ensures.keeps

pub returns-in-Delete-clause-keeps : goal.returns-in-Delete-clause-keeps
returns-in-Delete-clause-keeps g c =
    let old = g.C.Cells.sight c.args.cells.now in
    let new = g.C.Cells.sight c.delete.new.cells in
    subst (λ (x : Command). IfOk c.delete.result (λ _. KeepsTo old new x)) (sym c.in-Delete.is) c.delete.ensures.keeps

pub returns-in-Add-clause-reads : goal.returns-in-Add-clause-reads
returns-in-Add-clause-reads g c =
    let old = g.C.Cells.sight c.args.cells.now in
    let new = g.C.Cells.sight c.add.new.cells in
    subst (λ (x : Command). ReadsFor old new x) (sym c.in-Add.is) c.add.ensures.reads

pub returns-in-Reprove-clause-reads : goal.returns-in-Reprove-clause-reads
returns-in-Reprove-clause-reads g c =
    let old = g.C.Cells.sight c.args.cells.now in
    let new = g.C.Cells.sight c.reprove.new.cells in
    subst (λ (x : Command). ReadsFor old new x) (sym c.in-Reprove.is) c.reprove.ensures.reads

pub returns-in-Replace-clause-reads : goal.returns-in-Replace-clause-reads
returns-in-Replace-clause-reads g c =
    let old = g.C.Cells.sight c.args.cells.now in
    let new = g.C.Cells.sight c.replace.new.cells in
    subst (λ (x : Command). ReadsFor old new x) (sym c.in-Replace.is) c.replace.ensures.reads

pub returns-in-Rename-clause-reads : goal.returns-in-Rename-clause-reads
returns-in-Rename-clause-reads g c =
    let old = g.C.Cells.sight c.args.cells.now in
    let new = g.C.Cells.sight c.rename.new.cells in
    subst (λ (x : Command). ReadsFor old new x) (sym c.in-Rename.is) c.rename.ensures.reads

pub returns-in-Move-clause-reads : goal.returns-in-Move-clause-reads
returns-in-Move-clause-reads g c =
    let old = g.C.Cells.sight c.args.cells.now in
    let new = g.C.Cells.sight c.move_to.new.cells in
    subst (λ (x : Command). ReadsFor old new x) (sym c.in-Move.is) c.move_to.ensures.reads

pub returns-in-Delete-clause-reads : goal.returns-in-Delete-clause-reads
returns-in-Delete-clause-reads g c =
    let old = g.C.Cells.sight c.args.cells.now in
    let new = g.C.Cells.sight c.delete.new.cells in
    subst (λ (x : Command). ReadsFor old new x) (sym c.in-Delete.is) c.delete.ensures.reads

pub returns-in-Show-clause-reads : goal.returns-in-Show-clause-reads
returns-in-Show-clause-reads g c =
    let old = g.C.Cells.sight c.args.cells.now in
    let new = g.C.Cells.sight c.show.new.cells in
    subst (λ (x : Command). ReadsFor old new x) (sym c.in-Show.is) c.show.ensures.reads

pub returns-in-List-clause-reads : goal.returns-in-List-clause-reads
returns-in-List-clause-reads g c =
    let old = g.C.Cells.sight c.args.cells.now in
    let new = g.C.Cells.sight c.list.new.cells in
    subst (λ (x : Command). ReadsFor old new x) (sym c.in-List.is) c.list.ensures.reads
