use Rattle.std.proofs.Common.{◌∙◌}
use Rattle.cells.proofs.NamedWords.{float_word_of, hyp_word_of, slot_word_of}
use Rattle.cells.proofs.reading.proofs.word_of.Goals as goal

pub returns-in-Float-clause-ok : goal.returns-in-Float-clause-ok
returns-in-Float-clause-ok g c =
    float_word_of (g.C.Cells.sight c.args.cells.now) c.args.slots c.args.cited.now.items c.in-Float.place c.args.step c.in-Float.is

pub returns-in-Hyp-clause-ok : goal.returns-in-Hyp-clause-ok
returns-in-Hyp-clause-ok g c =
    hyp_word_of (g.C.Cells.sight c.args.cells.now) c.args.slots c.args.cited.now.items c.in-Hyp.place c.args.step c.in-Hyp.is

pub returns-in_ok-push-in-Slot-clause-ok : goal.returns-in_ok-push-in-Slot-clause-ok
returns-in_ok-push-in-Slot-clause-ok g c =
    slot_word_of (g.C.Cells.sight c.cited_label.new.cells) c.args.slots c.args.cited.now.items c.push.new.self.items
    c.in_ok-label-in-Slot.label
    c.len-place.result c.in-Slot.slot c.args.step c.in-Slot.is c.in_ok-push-in-Slot.ensures.items
    (c.len-place.ensures ∙ c.args.cited.now.ok.0) c.in_ok-label-in-Slot.ensures.ok
