use Rattle.std.proofs.Common.{◌≡◌, ◌+◌, drop}
use Rattle.library.specs.Library.{Verifies}
use Rattle.library.specs.Transactions.{apply, apply_from}
use Rattle.history.specs.Drafts.{KeepsStart, now_in}
use Rattle.history.proofs.Taking.{with_replies}
use Rattle.history.proofs.draft.Draft.take_all.Given as goal

-- the commands that are left, behind the replies so far, give the same as all commands from the start
abbrev pub invariant-loop-i : goal.invariant-loop-i
invariant-loop-i l =
    record {
      verifies : Verifies l.self.setting (now_in l.self);
      kept : KeepsStart l.initial.self l.self;
      so_far : apply l.initial.self.setting (now_in l.initial.self) l.commands
          ≡ with_replies l.replies.items (apply_from l.self.setting (l.i + 1) (now_in l.self) (drop l.i l.commands));
    }
