use Rattle.std.proofs.Common.{All, refl, sym}
use Rattle.std.proofs.lemmas.Bool.Decides.{Decides-eqb}
use Rattle.std.proofs.lemmas.Option.{slice_get_read}
use Rattle.std.proofs.lemmas.Slice.Eq.{slice_eq-Decides}
use Rattle.proofcheck.specs.Reports.{IsHint}
use Rattle.proofcheck.proofs.labels.Places.hinted_by.Goals as goal

pub returns-then-eq : goal.returns-then-eq
returns-then-eq c =
    let db = c.self.inside.assertions.now in
    let same = (slice_eq-Decides Decides-eqb c.as_slice.result.now c.args.label.now c.eq.result c.eq.ensures).0 c.if-eq.true in
    let found = c.in_ok-hint.ensures.lookup in
    let read = c.in_ok-assertion.ensures.lookup in
    let all : All (IsHint db) c.deref.result.now = rw c.deref.ensures.value c.self.invariant.1 in
    let here : IsHint db c.in_ok-hint.field-0.now = rw (sym (found.3.1 0)) at (all _ 0 found.3.0) in
    let at = slice_get_read db _ c.in_ok-hint.field-0.now c.in_ok-assertion.assertion.now refl read.3.0 read.1 in
    rw (← c.self.view_is, ← same, c.as_slice.ensures) (here c.in_ok-assertion.assertion.now at)
