-- What is left to show of `put_at`.
use Rattle.std.proofs.Common.{◌∙◌, ap, cond, Some}
use Rattle.std.specs.Str.{bytes_eq}
use Rattle.std.specs.HashMap.{get_by}
use Rattle.mmsyntax.proofs.Names.{after_update}
use Rattle.mmunits.proofs.word_map.put_at.Goals as goal

pub returns-clause-put : goal.returns-clause-put
returns-clause-put g c = λ w.
    after_update c.in_ok-key.key.items c.args.map.now c.insert.new.self (Some c.args.value) c.in_ok-insert.ensures.updates w
    ∙ ap (λ l. cond (bytes_eq l w) (Some c.args.value) (get_by (λ k. bytes_eq w k.items) c.args.map.now)) c.in_ok-key.ensures.items
