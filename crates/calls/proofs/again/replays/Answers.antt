use Rattle.historytext.proofs.LegalFits.{entries_fit}
use Rattle.calls.proofs.again.replays.Goals as goal

pub replay-requires-clause-fit : goal.replay-requires-clause-fit
replay-requires-clause-fit c = entries_fit c.args.db.now.prelude c.args.history.now c.requires.fit
