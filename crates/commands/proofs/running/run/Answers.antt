use Rattle.std.proofs.Common.{◌≡◌, ◌<◌, ◌≤◌, ◌+◌, ℕ, suc, List, [], ◌∷◌, ◌++◌, Err, length, get_or, take, drop, refl, sym, ap}
use Rattle.std.proofs.Common.{subst, ◌∙◌, arith, drop-cons}
use Rattle.std.specs.Prelude.{All}
use Rattle.std.proofs.lemmas.List.{take_more, take-append-drop, length-take-le}
use Rattle.std.proofs.lemmas.List.Elements.{All-take}
use Rattle.std.proofs.lemmas.List.Sums.{sum_by-take-le}
use Rattle.mmsyntax.specs.Tables.{Tables}
use Rattle.library.specs.declared.command.Command.{Command}
use Rattle.library.specs.Fitting.{CommandFits}
use Rattle.cells.proofs.Sights.{onward_refl, onward_trans}
use Rattle.cells.specs.Sight.{TakesAtMost}
use Rattle.cells.specs.Answers.{ForEachBefore, DoesAll, RunAnswers, error_at}
use Rattle.commands.specs.Takes.{most_words_of}
use Rattle.groundwork.specs.Takes.{command_words}
use Rattle.commands.proofs.Transactions.{takes_none, takes_more, does_none, does_more, ends}
use Rattle.commands.proofs.Taking.{few_of_all}
use Rattle.commands.specs.Touches.{PassesAll, KeepsToAll}
use Rattle.commands.proofs.TouchingAll.{keeps_none, keeps_more, passes_more}
use Rattle.commands.specs.Footprints.{ReadsForAll}
use Rattle.commands.proofs.Reading.{reads_none, reads_more}
use Rattle.commands.proofs.running.run.Goals as goal

pub loop-done-init : goal.loop-done-init
loop-done-init g c =
    let s = g.C.Cells.sight c.args.cells.now in
    record {
      onward = onward_refl _;
      taken = takes_none s;
      does = subst (DoesAll s s []) (sym c.new-replies.ensures.items) (does_none s);
      passes = refl;
      keeps = keeps_none s;
      reads = reads_none s;
    }

pub returns-in_err-push-in-Ok-clause-onward : goal.returns-in_err-push-in-Ok-clause-onward
returns-in_err-push-in-Ok-clause-onward g c = onward_trans _ _ _ c.loop-done.invariant.onward c.take.ensures.onward

pub returns-in-Err-clause-onward : goal.returns-in-Err-clause-onward
returns-in-Err-clause-onward g c = onward_trans _ _ _ c.loop-done.invariant.onward c.take.ensures.onward

-- the commands, with one of them apart
parted : (cs : List Command) (k : ℕ) (x : Command) → k < length cs → x ≡ get_or cs k x → take k cs ++ x ∷ drop (k + 1) cs ≡ cs
parted cs k x within is =
    let next : k + 1 ≡ suc k = omega arith in
    let rest : x ∷ drop (k + 1) cs ≡ drop k cs = (λ j. is j ∷ drop (next j) cs) ∙ sym (drop-cons cs k x within) in
    ap (λ l. take k cs ++ l) rest ∙ take-append-drop k cs

pub returns-in-Err-clause-answers : goal.returns-in-Err-clause-answers
returns-in-Err-clause-answers g c =
    let s = g.C.Cells.sight c.args.cells.now in
    let t = g.C.Cells.sight c.loop-done.cells in
    let u = g.C.Cells.sight c.take.new.cells in
    let cs = c.args.commands.now in
    let k = c.loop-done.done in
    let x = c.index-commands-done.result in
    let error = c.in-Err.error in
    let fit : All (CommandFits s.setting.prelude) (take k cs) =
    subst (λ (p : Tables). All (CommandFits p) (take k cs)) c.requires.prelude
    (All-take (CommandFits c.args.prelude.now) k cs c.requires.fits) in
    let within : k ≤ length cs = omega (arith, c.loop-done-test.true) in
    let number : 1 + length (take k cs) ≡ k + 1 = omega (arith, length-take-le k cs within) in
    subst (λ e. RunAnswers s u cs (Err e)) (ap (λ n. error_at n error) number ∙ sym c.at.ensures)
    (subst (λ l. RunAnswers s u l (Err (error_at (1 + length (take k cs)) error)))
    (parted cs k x c.loop-done-test.true c.index-commands-done.is)
    (ends s t u (take k cs) c.loop-done.replies.items c.loop-done.invariant.does c.loop-done.invariant.onward c.take.ensures.onward fit x
    (drop (k + 1) cs) error c.in-Err.ensures.answers))

pub loop-done-preserved : goal.loop-done-preserved
loop-done-preserved g c =
    let s = g.C.Cells.sight c.args.cells.now in
    let t = g.C.Cells.sight c.loop-done.cells in
    let u = g.C.Cells.sight c.take.new.cells in
    let cs = c.args.commands.now in
    let k = c.loop-done.done in
    let x = c.index-commands-done.result in
    let replies = c.loop-done.replies.items in
    let reply = c.in-Ok.reply in
    let fit : All (CommandFits s.setting.prelude) (take k cs) =
    subst (λ (p : Tables). All (CommandFits p) (take k cs)) c.requires.prelude
    (All-take (CommandFits c.args.prelude.now) k cs c.requires.fits) in
    let push : c.push.new.self.items ≡ c.loop-done.replies.items ++ c.in-Ok.reply ∷ [] = c.in_ok-push-in-Ok.ensures.items in
    let front : take k cs ++ x ∷ [] ≡ take (k + 1) cs =
    ap (λ y. take k cs ++ y ∷ []) c.index-commands-done.is ∙ sym (take_more cs k x c.loop-done-test.true) in
    let does = does_more s t u (take k cs) replies c.loop-done.invariant.does c.loop-done.invariant.onward c.take.ensures.onward fit x reply
    c.in-Ok.ensures.answers in
    let taken = takes_more s t u (take k cs) replies c.loop-done.invariant.does c.loop-done.invariant.onward c.take.ensures.onward fit x
    c.take.ensures.taken c.loop-done.invariant.taken in
    record {
      onward = onward_trans _ _ _ c.loop-done.invariant.onward c.take.ensures.onward;
      taken = subst (λ l. ForEachBefore s u (λ st lib. TakesAtMost (most_words_of l) s u)) front taken;
      passes = subst (λ l. PassesAll s l u) front (passes_more s t u (take k cs) x c.loop-done.invariant.passes
          (record { onward = c.take.ensures.onward; reply = reply; does = c.in-Ok.ensures.answers; keeps = c.in-Ok.ensures.keeps }));
      keeps = subst (λ l. KeepsToAll s u l) front (keeps_more s t u (take k cs) c.loop-done.invariant.passes c.take.ensures.onward x
          c.loop-done.invariant.keeps c.in-Ok.ensures.keeps);
      reads = subst (λ l. ReadsForAll s u l) front (reads_more s t u (take k cs) c.loop-done.invariant.passes c.take.ensures.onward x []
          c.loop-done.invariant.reads c.take.ensures.reads);
      does = subst (λ l. DoesAll s u l c.push.new.self.items) front (subst (DoesAll s u (take k cs ++ x ∷ [])) (sym push) does);
    }

pub returns-in_err-push-in-Ok-clause-taken : goal.returns-in_err-push-in-Ok-clause-taken
returns-in_err-push-in-Ok-clause-taken g c st lib m v =
    let s = g.C.Cells.sight c.args.cells.now in
    let t = g.C.Cells.sight c.loop-done.cells in
    let u = g.C.Cells.sight c.take.new.cells in
    let cs = c.args.commands.now in
    let k = c.loop-done.done in
    let x = c.index-commands-done.result in
    let fit : All (CommandFits s.setting.prelude) (take k cs) =
    subst (λ (p : Tables). All (CommandFits p) (take k cs)) c.requires.prelude
    (All-take (CommandFits c.args.prelude.now) k cs c.requires.fits) in
    let front : take k cs ++ x ∷ [] ≡ take (k + 1) cs =
    ap (λ y. take k cs ++ y ∷ []) c.index-commands-done.is ∙ sym (take_more cs k x c.loop-done-test.true) in
    let taken = takes_more s t u (take k cs) c.loop-done.replies.items c.loop-done.invariant.does c.loop-done.invariant.onward
    c.take.ensures.onward fit x c.take.ensures.taken c.loop-done.invariant.taken st lib m v in
    let few = few_of_all cs k x front in
    omega (arith, taken, few)

pub returns-in-Err-clause-taken : goal.returns-in-Err-clause-taken
returns-in-Err-clause-taken g c st lib m v =
    let s = g.C.Cells.sight c.args.cells.now in
    let t = g.C.Cells.sight c.loop-done.cells in
    let u = g.C.Cells.sight c.take.new.cells in
    let cs = c.args.commands.now in
    let k = c.loop-done.done in
    let x = c.index-commands-done.result in
    let fit : All (CommandFits s.setting.prelude) (take k cs) =
    subst (λ (p : Tables). All (CommandFits p) (take k cs)) c.requires.prelude
    (All-take (CommandFits c.args.prelude.now) k cs c.requires.fits) in
    let front : take k cs ++ x ∷ [] ≡ take (k + 1) cs =
    ap (λ y. take k cs ++ y ∷ []) c.index-commands-done.is ∙ sym (take_more cs k x c.loop-done-test.true) in
    let taken = takes_more s t u (take k cs) c.loop-done.replies.items c.loop-done.invariant.does c.loop-done.invariant.onward
    c.take.ensures.onward fit x c.take.ensures.taken c.loop-done.invariant.taken st lib m v in
    let few = few_of_all cs k x front in
    omega (arith, taken, few)

pub returns-clause-taken : goal.returns-clause-taken
returns-clause-taken g c st lib m v =
    let few = sum_by-take-le (command_words (λ label. 16384)) c.args.commands.now c.loop-done.done in
    let taken = c.loop-done.invariant.taken st lib m v in
    omega (arith, taken, few)

pub returns-in_err-push-in-Ok-clause-reads : goal.returns-in_err-push-in-Ok-clause-reads
returns-in_err-push-in-Ok-clause-reads g c =
    let s = g.C.Cells.sight c.args.cells.now in
    let t = g.C.Cells.sight c.loop-done.cells in
    let u = g.C.Cells.sight c.take.new.cells in
    let cs = c.args.commands.now in
    let k = c.loop-done.done in
    let x = c.index-commands-done.result in
    subst (λ l. ReadsForAll s u l) (parted cs k x c.loop-done-test.true c.index-commands-done.is)
    (reads_more s t u (take k cs) c.loop-done.invariant.passes c.take.ensures.onward x (drop (k + 1) cs)
    c.loop-done.invariant.reads c.take.ensures.reads)

pub returns-in-Err-clause-reads : goal.returns-in-Err-clause-reads
returns-in-Err-clause-reads g c =
    let s = g.C.Cells.sight c.args.cells.now in
    let t = g.C.Cells.sight c.loop-done.cells in
    let u = g.C.Cells.sight c.take.new.cells in
    let cs = c.args.commands.now in
    let k = c.loop-done.done in
    let x = c.index-commands-done.result in
    subst (λ l. ReadsForAll s u l) (parted cs k x c.loop-done-test.true c.index-commands-done.is)
    (reads_more s t u (take k cs) c.loop-done.invariant.passes c.take.ensures.onward x (drop (k + 1) cs)
    c.loop-done.invariant.reads c.take.ensures.reads)
