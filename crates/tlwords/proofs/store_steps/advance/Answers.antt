use Rattle.std.proofs.Common.{ℕ, ◌+◌, length, min, ap, ◌∙◌}
use Rattle.tlwords.proofs.StoreSteps.{advances}
use Rattle.tlwords.proofs.store_steps.advance.Goals as goal

pub fetch_add-requires-clause-rule : goal.fetch_add-requires-clause-rule
fetch_add-requires-clause-rule g c =
    let count = c.min-count.ensures ∙ ap (λ (k : ℕ). min (length c.args.range.now) (k + 1)) c.requires.room in
    rw c.requires.said (advances g.L.Law.terms _ _ _ _ _ _ _ _ c.args.range.now _ _ c.requires.seated.setting.1 c.requires.seated.cells
    count c.requires.some_words c.requires.open.1 c.requires.open.2)
