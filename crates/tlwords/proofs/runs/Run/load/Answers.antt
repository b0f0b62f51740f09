use Rattle.std.proofs.Common.{arith, sym, refl, subst, ◌+◌, ◌<◌}
use Rattle.ranges.specs.Ranges.{Range, Has}
use Rattle.tlwords.specs.Known.{going_of}
use Rattle.tlwords.specs.Calls.{HasLoaded}
use Rattle.tlwords.proofs.Fillings.{load_tells, range_word, store_runs}
use Rattle.tlwords.proofs.runs.Run.load.Goals as goal

pub overflow_add-range : goal.overflow_add-range
overflow_add-range g c =
    let s = c.self.inside in
    let i = c.self.invariant in
    let q = c.requires in
    let range : Range = record { start = c.args.range.start; words = q.0 } in
    let has : Has range s.seat.me.0.seen.ranges = subst (λ k. Has range k.known.seen.ranges) (sym c.self.view_is) q.1 in
    let l : c.args.range.start + c.args.index < s.seat.me.0.room = i.knows.ranges.0 range has c.args.index
    (let e = q.2 in let f = q.3 in omega arith) in
    let r = i.room_is in
    let m = s.words.now.small.1 in
    omega arith

pub fetch_word-requires-clause-sizes : goal.fetch_word-requires-clause-sizes
fetch_word-requires-clause-sizes g c =
    let s = c.self.inside in
    let i = c.self.invariant in
    let q = c.requires in
    let range : Range = record { start = c.args.range.start; words = q.0 } in
    let has : Has range s.seat.me.0.seen.ranges = subst (λ k. Has range k.known.seen.ranges) (sym c.self.view_is) q.1 in
    let l : c.args.range.start + c.args.index < s.seat.me.0.room = i.knows.ranges.0 range has c.args.index
    (let e = q.2 in let f = q.3 in omega arith) in
    let r = i.room_is in
    (r, omega arith)

pub invariant_of-self : goal.invariant_of-self
invariant_of-self g c =
    let s = c.self.inside in
    let e = c.fetch_word.ensures in
    store_runs g.L.Law.terms _ _ _ _ _ s.mode s.over s.full s.log.slots s.seat c.fetch_word.new.seat c.self.invariant e.seat e.told.sees
    s.seat.me.0.full s.seat.me.0.taken s.seat.me.0.added e.told.is s.full c.self.invariant.knows.full

pub returns-clause-value : goal.returns-clause-value
returns-clause-value g c = λ words has len.
    let range : Range = record { start = c.args.range.start; words = words } in
    let there : Has range c.self.inside.seat.me.0.seen.ranges = subst (λ k. Has range k.known.seen.ranges) (sym c.self.view_is) has in
    range_word words c.args.index _ (let e = c.requires.3 in omega arith)
    (λ w here. c.fetch_word.ensures.told.found range c.args.index w there here refl)

pub returns-clause-loaded : goal.returns-clause-loaded
returns-clause-loaded g c =
    let s = c.self.inside in
    let e = c.fetch_word.ensures in
    let r = c.fetch_word.new.seat in
    subst (λ x. HasLoaded g.L.Law.terms x (going_of r.table_id r.me.0 s.place s.mode s.over s.log.slots)) c.self.view_is
    (load_tells g.L.Law.terms _ _ _ _ _ s.mode s.over s.full s.log.slots s.seat r c.self.invariant e.seat e.told.sees e.told.is)
