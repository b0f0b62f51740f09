use Rattle.std.proofs.Common.{◌∙◌, sym, subst}
use Rattle.history.specs.Editors.{Answers}
use Rattle.plainediting.proofs.Taking.{is_read}
use Rattle.plainediting.proofs.desk.Desk.take.Goals as goal

pub returns-in-Ok-2 : goal.returns-in-Ok-2
returns-in-Ok-2 c =
    is_read c.args.self.now c.args.commands.now c.apply.new.self c.in-Ok.replies
    (sym c.has_too_many.ensures ∙ c.if-has_too_many.false) (sym c.has_edit-edits.ensures ∙ c.if-edits.false)
    (subst (λ r. Answers c.args.self.now.editor c.args.commands.now r c.apply.new.self) c.in-Ok.is c.apply.ensures)
