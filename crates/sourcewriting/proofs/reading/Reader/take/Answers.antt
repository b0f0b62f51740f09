use Rattle.taking.proofs.Turned.{if_ok}
use Rattle.std.proofs.Common.{subst}
use Rattle.sourcewriting.specs.Readable.{seen_reader, Leads}
use Rattle.sourcewriting.proofs.Marking.{cited_at, repeated_at, mark_at}
use Rattle.sourcewriting.proofs.Readable.{cites_at, repeats_at}
use Rattle.sourcewriting.proofs.reading.Reader.take.Goals as goal

pub returns-then-place-counted-clause-read : goal.returns-then-place-counted-clause-read
returns-then-place-counted-clause-read c =
    if_ok c.cite.result
    (λ right now yes.
    cited_at c.args.shared.now c.args.counted.now _ c.args.code c.in-Number.number c.saturating_sub-place.result c.args.self.now
    c.cite.new.self c.in-Number.is c.saturating_sub-place.ensures c.if-place-counted.true (now yes))
    c.cite.ensures.cited

pub returns-else-place-counted-clause-read : goal.returns-else-place-counted-clause-read
returns-else-place-counted-clause-read c =
    if_ok c.repeat.result
    (λ right now yes.
    repeated_at c.args.shared.now c.args.counted.now c.args.code c.in-Number.number c.saturating_sub-place.result c.args.self.now
    c.repeat.new.self c.in-Number.is c.saturating_sub-place.ensures c.if-place-counted.false (now yes))
    c.repeat.ensures.repeated

pub returns-in-Mark-clause-read : goal.returns-in-Mark-clause-read
returns-in-Mark-clause-read c =
    if_ok c.mark.result
    (λ right now yes. mark_at c.args.shared.now c.args.counted.now c.args.code c.args.self.now c.mark.new.self c.in-Mark.is (now yes))
    c.mark.ensures.put

pub returns-then-place-counted-clause-right : goal.returns-then-place-counted-clause-right
returns-then-place-counted-clause-right c = λ new leads.
    c.cite.ensures.right new
    (cites_at c.args.shared.now c.args.counted.now c.args.code (seen_reader c.args.self.now) new leads _ c.in-Number.number
    c.saturating_sub-place.result c.in-Number.is c.saturating_sub-place.ensures c.if-place-counted.true)

pub returns-else-place-counted-clause-right : goal.returns-else-place-counted-clause-right
returns-else-place-counted-clause-right c = λ new leads.
    c.repeat.ensures.right new
    (repeats_at c.args.shared.now c.args.counted.now c.args.code (seen_reader c.args.self.now) new leads c.in-Number.number
    c.saturating_sub-place.result c.in-Number.is c.saturating_sub-place.ensures c.if-place-counted.false)

pub returns-in-Mark-clause-right : goal.returns-in-Mark-clause-right
returns-in-Mark-clause-right c = λ new leads.
    c.mark.ensures.right new
    (subst (λ code. Leads c.args.shared.now c.args.counted.now code (seen_reader c.args.self.now) new) c.in-Mark.is leads)

pub returns-in-Unknown-clause-right : goal.returns-in-Unknown-clause-right
returns-in-Unknown-clause-right c = λ new leads.
    absurd (subst (λ code. Leads c.args.shared.now c.args.counted.now code (seen_reader c.args.self.now) new) c.in-Unknown.is leads)
