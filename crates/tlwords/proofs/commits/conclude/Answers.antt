use Rattle.std.proofs.Common.{None, sym, subst}
use Rattle.tlcore.specs.Seats.{Seat}
use Rattle.tlwords.specs.Known.{going_of}
use Rattle.tlwords.specs.Runs.{IsKeptOf}
use Rattle.tlwords.specs.Committing.{Concludes}
use Rattle.tlwords.proofs.Modes.{nothing_written, writing_noted}
use Rattle.tlwords.proofs.Finishes.{answered, unwritten_lawful}
use Rattle.tlwords.proofs.commits.conclude.Goals as goal

pub recall-requires-clause-lawful : goal.recall-requires-clause-lawful
recall-requires-clause-lawful g c =
    let t = c.args.seat.now in
    let slots = c.args.log.now.slots in
    unwritten_lawful g.L.Law.terms c.args.note.now (going_of t.table_id t.me.0 c.args.place c.args.mode None slots) c.requires.lawful
    (nothing_written c.args.mode c.in-Reading.is t.me.0.seat slots c.requires.kept)

pub returns-in-Reading-clause-ended : goal.returns-in-Reading-clause-ended
returns-in-Reading-clause-ended g c =
    answered g.L.Law.terms c.args.note.now c.args.mode c.args.log.now.slots c.args.seat.now c.recall.new.seat _ c.args.place
    c.recall.ensures.seat
    c.requires.run c.recall.ensures.told
    (nothing_written c.args.mode c.in-Reading.is c.args.seat.now.me.0.seat c.args.log.now.slots c.requires.kept)

pub finish-requires-clause-kept : goal.finish-requires-clause-kept
finish-requires-clause-kept g c =
    let t = c.args.seat.now.me.0.seat in
    subst (λ (u : Seat). IsKeptOf u c.args.log.now.slots) (writing_noted c.args.mode c.in-Writing.is t) c.requires.kept

pub returns-in-Writing-clause-ended : goal.returns-in-Writing-clause-ended
returns-in-Writing-clause-ended g c =
    let f = c.finish in
    subst (λ m. Concludes g.L.Law.terms c.args.note.now m c.args.place c.args.log.now.slots f.new.count c.args.seat.now f.new.seat f.result)
    (sym c.in-Writing.is) f.ensures.ended
