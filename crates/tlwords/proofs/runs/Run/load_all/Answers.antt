use Rattle.std.proofs.Common.{arith, sym, subst}
use Rattle.ranges.specs.Ranges.{Range, Has}
use Rattle.tlwords.specs.Known.{going_of}
use Rattle.tlwords.specs.Calls.{HasLoadedSome}
use Rattle.tlwords.proofs.Fillings.{fetched_runs, fetch_tells}
use Rattle.tlwords.proofs.runs.Run.load_all.Goals as goal

pub fetch_all-requires-clause-within : goal.fetch_all-requires-clause-within
fetch_all-requires-clause-within g c = λ n lt.
    let s = c.self.inside in
    let i = c.self.invariant in
    let q = c.requires in
    let range : Range = record { start = c.args.range.start; words = q.0 } in
    let has : Has range s.seat.me.0.seen.ranges = subst (λ k. Has range k.known.seen.ranges) (sym c.self.view_is) q.1 in
    let l = i.knows.ranges.0 range has n (let e = q.2 in omega arith) in
    let r = i.room_is in
    omega arith

pub invariant_of-self : goal.invariant_of-self
invariant_of-self g c =
    let s = c.self.inside in
    let e = c.fetch_all.ensures in
    fetched_runs g.L.Law.terms _ _ _ _ _ s.mode s.over s.full s.log.slots s.seat c.fetch_all.new.seat c.self.invariant
    e.seat c.args.range _ _ e.told

pub returns-clause-loaded : goal.returns-clause-loaded
returns-clause-loaded g c =
    let s = c.self.inside in
    let e = c.fetch_all.ensures in
    let r = c.fetch_all.new.seat in
    subst (λ x. HasLoadedSome g.L.Law.terms x (going_of r.table_id r.me.0 s.place s.mode s.over s.log.slots)) c.self.view_is
    (fetch_tells g.L.Law.terms _ _ _ _ _ s.mode s.over s.full s.log.slots s.seat r c.self.invariant e.seat c.args.range _ _ e.told)
