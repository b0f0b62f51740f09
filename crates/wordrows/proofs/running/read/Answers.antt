use Rattle.std.proofs.Common.{◌≡◌, ◌∙◌, ap, sym, subst, Bool, Option, Some, true}
use Rattle.wordrows.specs.Seats.{IsThere, is_named}
use Rattle.wordrows.proofs.Kept.{named_there}
use Rattle.wordrows.proofs.Later.{Reads, runs_later, read_later, read_names}
use Rattle.wordrows.proofs.running.read.Goals as goal

pub returns-in-Err : goal.returns-in-Err
returns-in-Err c =
    let p = c.args.playing.now in
    let read = c.in-Err.ensures in
    let reads : Reads p.run c.read.new.self c.args.cell _ = record { over = read.over; kept = read.kept; ok = read.ok; err = read.err } in
    runs_later c.args.words.now p c.read.new.self read.same.0 read.same.2
    (read_later p.run c.read.new.self c.args.cell _ reads) c.requires.runs

pub note_cell-noted-requires : goal.note_cell-noted-requires
note_cell-noted-requires c =
    let p = c.args.playing.now in
    let read = c.in-Ok.ensures in
    let reads : Reads p.run c.read.new.self c.args.cell _ = record { over = read.over; kept = read.kept; ok = read.ok; err = read.err } in
    record {
      runs = runs_later c.args.words.now p c.read.new.self read.same.0 read.same.2
          (read_later p.run c.read.new.self c.args.cell _ reads) c.requires.runs;
      read = λ writing. read.noted (c.requires.runs.mode ∙ writing);
    }

pub note_range-known-requires-clause-there : goal.note_range-known-requires-clause-there
note_range-known-requires-clause-there c =
    let p = c.args.playing.now in
    let read = c.in-Ok.ensures in
    let old = c.requires.runs in
    let reads : Reads p.run c.read.new.self c.args.cell _ = record { over = read.over; kept = read.kept; ok = read.ok; err = read.err } in
    let runs = runs_later c.args.words.now p c.read.new.self read.same.0 read.same.2
    (read_later p.run c.read.new.self c.args.cell _ reads) old in
    let named : is_named c.args.words.now ≡ true = c.requires.named ∙ c.if-named.true in
    let set = ap (λ h. h.setting) old.home ∙ ap (λ (b : Bool). let o : Option Bool = Some b in o) named in
    let names = read_names p.run c.read.new.self c.args.cell c.in-Ok.value reads set (old.kept named) in
    let range = c.named-range.ensures in
    subst (λ g. IsThere g.known.seen.ranges c.named-range.result) (sym c.note_cell-noted.ensures.same)
    (named_there c.args.words.now.room c.in-Ok.value c.read.new.self.known.seen.ranges c.named-range.result c.args.words.now.small.1
    runs.store names
    range.start range.len c.if-range-ne0.true)
