-- What is left to show of `put_entries`: the lines of one more entry.
use Rattle.std.proofs.Common.{◌++◌, ap, ◌∙◌}
use Rattle.historytext.specs.Layout.{entry_text}
use Rattle.mmwriter.proofs.Pieces.{lines_more}
use Rattle.historytext.proofs.writing.put_entries.Goals as goal

pub loop-entry-preserved : goal.loop-entry-preserved
loop-entry-preserved c =
    let f = entry_text c.args.prelude.now in
    let entry = c.entry-item.result in
    lines_more f c.args.entries.now c.loop-entry.entry-index entry entry c.args.out.now.items c.put_entry.new.out.items
    c.loop-entry-test.true c.entry-item.is (c.in_ok-put_entry.ensures ∙ ap (λ text. text ++ f entry) c.loop-entry.invariant)
