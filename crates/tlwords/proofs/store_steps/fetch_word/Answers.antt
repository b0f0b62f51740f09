use Rattle.tlwords.proofs.StoreSteps.{fetches}
use Rattle.tlwords.proofs.store_steps.fetch_word.Goals as goal

pub load-requires-clause-rule : goal.load-requires-clause-rule
load-requires-clause-rule g c =
    fetches g.L.Law.terms _ _ _ _ _ _ _ _ _ _ c.requires.seated.setting.1 c.requires.seated.cells
