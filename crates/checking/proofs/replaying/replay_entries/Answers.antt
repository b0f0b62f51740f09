use Rattle.std.proofs.Common.{◌∙◌, ◌≤◌, ◌<◌, Err, length, map, ap, sym, inl, subst, arith}
use Rattle.mmsyntax.proofs.Declarable.{declarable}
use Rattle.library.specs.Histories.{seen_entry}
use Rattle.history.specs.Replays.{Replays}
use Rattle.historytext.proofs.LegalFits.{entries_fit}
use Rattle.checking.proofs.ReplayFaults.{one_difference}
use Rattle.checking.proofs.replaying.replay_entries.Goals as goal

pub replay-requires-clause-fit : goal.replay-requires-clause-fit
replay-requires-clause-fit c = entries_fit c.args.db.now.prelude c.args.history.now c.requires.fit

-- a database has at most 4,096 assertions
pub unreachable-requires : goal.unreachable-requires
unreachable-requires c =
    let db = c.args.db.now in
    let few : length db.assertions ≤ 4096 = (declarable db c.assertions-assertions.ensures.sound).few in
    let many : 4096 < length db.assertions =
    subst (Replays db 4096 (map seen_entry c.args.history.now)) (c.in-Err-TooMany.is ∙ ap Err c.in-Err-TooMany.field-0-is)
    c.replay.ensures in
    absurd (omega arith)

pub returns-in-Err-Differs-clause-refused : goal.returns-in-Err-Differs-clause-refused
returns-in-Err-Differs-clause-refused c f h =
    let first =
    subst (Replays c.args.db.now 4096 (map seen_entry c.args.history.now)) (c.in-Err-Differs.is ∙ ap Err c.in-Err-Differs.field-0-is)
    c.replay.ensures in
    inl (sym (one_difference c.args.db.now c.args.history.now _ f first h))
