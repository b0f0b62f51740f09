-- A transaction that only reads, on a desk.
use Rattle.std.proofs.Common.{◌≡◌, Bool, false, List, Result, Ok, ap, sym, ◌∙◌, add-zero}
use Rattle.library.specs.declared.command.Command.{Command}
use Rattle.library.specs.declared.command.Reply.{Reply}
use Rattle.library.specs.declared.reason.Refused.{Refused as Refusal}
use Rattle.library.specs.Transactions.{Applied, apply, has_edit, has_too_many}
use Rattle.librarylaws.proofs.Leaving.{apply_leaves}
use Rattle.history.specs.Editors.{Held, Answers}
use Rattle.transaction.specs.declared.outcome.Outcome.TheVariants as outcome
use Rattle.plainediting.specs.declared.desk.Desk.{Desk}
use Rattle.plainediting.specs.Outcomes.{outcome_of}
use Rattle.plainediting.specs.Desks.{Does}

-- one without an edit, of at most 16 commands, that isn't refused
pub is_read : (old : Desk) (cs : List Command) (now : Held) (replies : List Reply) → has_too_many cs ≡ false → has_edit cs ≡ false
    → Answers old.editor cs (Ok replies) now
    → Does old cs (outcome.Read old.committed replies) (record { editor = now; committed = old.committed })
is_read old cs now replies few reads answer =
    let s = old.editor.setting in
    let lib = old.editor.library in
    let n = old.committed in
    let applied : Applied = record { library = now.library; replies = replies } in
    record {
      setting = answer.1;
      outcome =
          ap (λ (b : Bool). outcome_of false b n (Ok applied)) (sym reads)
          ∙ ap (λ (r : Result Applied Refusal). outcome_of false (has_edit cs) n r) (sym answer.0)
          ∙ ap (λ (b : Bool). outcome_of b (has_edit cs) n (apply s lib cs)) (sym few);
      library = apply_leaves s lib cs applied reads answer.0;
      count = sym (add-zero n);
    }
