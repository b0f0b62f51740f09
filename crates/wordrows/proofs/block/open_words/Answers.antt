use Rattle.wordrows.proofs.Named.{values_named}
use Rattle.wordrows.proofs.block.open_words.Goals as goal

pub open-requires-clause-named : goal.open-requires-clause-named
open-requires-clause-named c =
    values_named c.args.named c.args.store.items c.args.values.items c.requires
