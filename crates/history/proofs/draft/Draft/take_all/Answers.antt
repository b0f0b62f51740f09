use Rattle.std.proofs.Common.{◌≡◌, ℕ, suc, ◌+◌, ◌<◌, List, [], ◌∷◌, ◌++◌, Ok, length, get_or, drop, sym, ap, subst, ◌∙◌, rules, arith}
use Rattle.std.proofs.Common.{drop-cons}
use Rattle.std.proofs.Math.ListN.{drop_of_length-le}
use Rattle.std.proofs.lemmas.Result.{err_from_is_err_and}
use Rattle.library.specs.declared.command.Command.{Command}
use Rattle.library.specs.declared.command.Reply.{Reply}
use Rattle.library.specs.Edits.{Edited}
use Rattle.library.specs.Fitting.{CommandFits}
use Rattle.library.specs.Library.{Setting, Verifies}
use Rattle.library.specs.Transactions.{apply_from}
use Rattle.librarylaws.proofs.Editing.{edit_verifies}
use Rattle.history.specs.Drafts.{now_in}
use Rattle.history.proofs.Taking.{with_replies, taken_all, taken_one, error_ends, kept_on}
use Rattle.history.proofs.draft.Draft.take_all.Goals as goal

-- the commands from the i-th on
from_place : (cs : List Command) (i : ℕ) (c : Command) → i < length cs → c ≡ get_or cs i c → drop i cs ≡ c ∷ drop (i + 1) cs
from_place cs i c within h =
    let next : suc i ≡ i + 1 = omega arith in
    drop-cons cs i c within ∙ ap (λ x. x ∷ drop (suc i) cs) (sym h) ∙ ap (λ k. c ∷ drop k cs) next

pub returns-in_err-reply-clause-taken : goal.returns-in_err-reply-clause-taken
returns-in_err-reply-clause-taken c =
    let x = c.loop-i in
    let cs = c.args.commands.now in
    let command = c.index-commands-i.result in
    let left = from_place cs x.i command c.loop-i-test.true c.index-commands-i.is in
    let so_far =
    x.invariant.so_far ∙ ap (λ ds. with_replies x.replies.items (apply_from x.self.setting (x.i + 1) (now_in x.self) ds)) left in
    let p = err_from_is_err_and c.from_residual.result c.from_residual.ensures.1 in
    rw (p.1, p.2) (error_ends c.args.self.now x.self c.take.new.self c.take.new.self (x.i + 1) command
    (drop (x.i + 1) cs) cs x.replies.items c.in_err-reply.field-0.0 so_far c.in_err-reply.ensures.taken)

pub loop-i-preserved : goal.loop-i-preserved
loop-i-preserved c =
    let x = c.loop-i in
    let cs = c.args.commands.now in
    let command = c.index-commands-i.result in
    let reply = c.in_ok-reply.reply in
    let new = c.take.new.self in
    let rest = drop (x.i + 1) cs in
    let left = from_place cs x.i command c.loop-i-test.true c.index-commands-i.is in
    let kept = c.in_ok-reply.ensures.kept in
    let pushed : c.push.new.self.items ≡ x.replies.items ++ reply ∷ [] = search rules in
    let so_far =
    x.invariant.so_far ∙ ap (λ ds. with_replies x.replies.items (apply_from x.self.setting (x.i + 1) (now_in x.self) ds)) left
    ∙ taken_one x.self.setting (x.i + 1) (now_in x.self) (now_in new) command rest x.replies.items reply c.in_ok-reply.ensures.taken
    ∙ ap (λ rs. with_replies rs (apply_from x.self.setting (x.i + 1 + 1) (now_in new) rest)) (sym pushed)
    ∙ ap (λ s. with_replies c.push.new.self.items (apply_from s (x.i + 1 + 1) (now_in new) rest)) (sym kept.setting) in
    let fits = c.requires.fit x.i command c.loop-i-test.true in
    let fit : CommandFits x.self.setting.prelude command =
    subst (λ (s : Setting). CommandFits s.prelude command) (sym x.invariant.kept.setting)
    (subst (CommandFits c.args.self.now.setting.prelude) (sym c.index-commands-i.is) fits) in
    let next : Edited = record { library = now_in new; reply = reply } in
    let verifies = edit_verifies x.self.setting (now_in x.self) command next x.invariant.verifies fit c.in_ok-reply.ensures.taken in
    record {
      verifies = subst (λ s. Verifies s (now_in new)) (sym kept.setting) verifies;
      kept = kept_on c.args.self.now x.self new x.invariant.kept kept;
      so_far = so_far;
    }

pub returns-clause-taken : goal.returns-clause-taken
returns-clause-taken c =
    let x = c.loop-i in
    let cs = c.args.commands.now in
    x.invariant.so_far ∙ ap (λ ds. with_replies x.replies.items (apply_from x.self.setting (x.i + 1) (now_in x.self) ds))
    (drop_of_length-le cs c.loop-i-test.false)
    ∙ taken_all x.self.setting (x.i + 1) (now_in x.self) x.replies.items
    ∙ ap (λ (rs : List Reply). Ok (record { library = now_in x.self; replies = rs })) (sym c.from_vec.ensures)
