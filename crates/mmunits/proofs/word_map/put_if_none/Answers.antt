-- What is left to show of `put_if_none`.
use Rattle.std.proofs.Common.{◌∙◌, sym}
use Rattle.mmunits.proofs.WordMaps.{found_before, found_now, on_ok}
use Rattle.mmunits.proofs.word_map.put_if_none.Goals as goal

pub returns-then-contains_key-clause-put : goal.returns-then-contains_key-clause-put
returns-then-contains_key-clause-put g c =
    found_before c.args.map.now c.args.word.now c.args.value (sym c.contains_key.ensures ∙ c.if-contains_key.true)

pub returns-clause-put : goal.returns-clause-put
returns-clause-put g c =
    on_ok c.put_at.result
    (found_now c.args.map.now c.put_at.new.map c.args.word.now c.args.value (sym c.contains_key.ensures ∙ c.if-contains_key.false))
    c.put_at.ensures.put
