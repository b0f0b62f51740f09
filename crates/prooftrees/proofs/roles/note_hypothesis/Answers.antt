-- What is left to show of `note_hypothesis`.
use Rattle.std.proofs.Common.{◌++◌, ◌∷◌, [], sym, ap, subst}
use Rattle.source.specs.Scopes.{Hypothesis}
use Rattle.source.specs.Views.{seen_hypothesis}
use Rattle.prooftrees.specs.Roles.{looks_up, AreRoles}
use Rattle.prooftrees.proofs.RolesOf.{roles_with_float, roles_with_premise}
use Rattle.taking.proofs.Turned.{if_ok}
use Rattle.prooftrees.proofs.roles.note_hypothesis.Goals as goal

pub returns-in_ok-note-in-Typing : goal.returns-in_ok-note-in-Typing
returns-in_ok-note-in-Typing c = λ hs are.
    subst (λ (h : Hypothesis). AreRoles (hs ++ h ∷ []) (looks_up c.note.new.roles) c.args.premises)
    (sym (ap seen_hypothesis c.in-Typing.is))
    (roles_with_float hs (looks_up c.args.roles.now) (looks_up c.note.new.roles) c.args.premises are c.in-Typing.label.now _ _
    c.in_ok-note-in-Typing.ensures)

pub returns-in_ok-note-in-Premise : goal.returns-in_ok-note-in-Premise
returns-in_ok-note-in-Premise c =
    if_ok c.next_number.result
    (λ next is. λ hs are.
    subst (λ (h : Hypothesis). AreRoles (hs ++ h ∷ []) (looks_up c.note-in-Premise.new.roles) next)
    (sym (ap seen_hypothesis c.in-Premise.is))
    (roles_with_premise hs (looks_up c.args.roles.now) (looks_up c.note-in-Premise.new.roles) c.args.premises are
    c.in-Premise.label.now _ next is
    c.in_ok-note-in-Premise.ensures))
    c.next_number.ensures
