-- A run may do all commands of a transaction.
use Rattle.std.proofs.Common.{◌≡◌, true, List, [], ◌∷◌}
use Rattle.std.specs.Prelude.{All}
use Rattle.std.proofs.lemmas.Bool.{or_left, or_right}
use Rattle.std.proofs.lemmas.List.Elements.{All-nil, All-cons}
use Rattle.library.specs.declared.command.Command.{Command}
use Rattle.library.specs.Edits.{is_edit}
use Rattle.library.specs.Transactions.{has_edit}
use Rattle.cells.specs.Sight.{Sight}
use Rattle.cells.specs.Answers.{stages, has_staging, MayDo}

-- where it may keep values aside if some command is an edit, and may stage words if some command stages a body
pub may_do_all : {O : Type 0} → (s : Sight O) (cs : List Command) → (has_edit cs ≡ true → s.may_write ≡ true)
    → (has_staging cs ≡ true → s.may_stage ≡ true) → All (MayDo s) cs
may_do_all s [] write stage = All-nil (MayDo s)
may_do_all s (c ∷ cs) write stage =
    All-cons (MayDo s) c cs
    (record {
      write = λ is. write (or_left (is_edit c) (has_edit cs) is);
      stage = λ is. stage (or_left (stages c) (has_staging cs) is);
    })
    (may_do_all s cs (λ is. write (or_right (is_edit c) (has_edit cs) is)) (λ is. stage (or_right (stages c) (has_staging cs) is)))
