use Rattle.std.proofs.Common.{List, ℕ, sym, subst, arith}
use Rattle.bodystore.specs.declared.stored.StoredStep.{StoredStep}
use Rattle.cells.specs.Counts.{AreCitedSlots}
use Rattle.cells.proofs.Sights.{onward_trans}
use Rattle.std.proofs.lemmas.Result.{MatchResult-weaker}
use Rattle.removals.specs.Changes.{DeletesAt}
use Rattle.removals.specs.Changes.{DeletesWithin}
use Rattle.removals.proofs.Touching.{removes_within}
use Rattle.chains.proofs.Chaining.{TakesOut}
use Rattle.removals.proofs.Removing.{removed}
use Rattle.cells.specs.Footprints.{ReadsWhere, IsOfTakingOut}
use Rattle.library.specs.declared.command.Command.TheVariants.{Delete}
use Rattle.groundwork.proofs.Since.{ReadsSince, OfCommandFound, found_end}
use Rattle.removals.proofs.DeleteReads.{removal_proof, removal_counts, removal_chain, removal_slot}
use Rattle.std.proofs.lemmas.Result.{err_from_is_err_and}
use Rattle.removals.proofs.deleting.remove.Goals as goal

pub returns-in_err-count_out-clause-onward : goal.returns-in_err-count_out-clause-onward
returns-in_err-count_out-clause-onward g c = onward_trans _ _ _ c.stored_proof.ensures.looks.onward c.count_out.ensures.onward

pub returns-in_err-take_out-clause-onward : goal.returns-in_err-take_out-clause-onward
returns-in_err-take_out-clause-onward g c =
    onward_trans _ _ _ c.stored_proof.ensures.looks.onward (onward_trans _ _ _ c.count_out.ensures.onward c.take_out.ensures.onward)

pub returns-clause-onward : goal.returns-clause-onward
returns-clause-onward g c =
    onward_trans _ _ _ c.stored_proof.ensures.looks.onward (onward_trans _ _ _ c.count_out.ensures.onward
    (onward_trans _ _ _ c.take_out.ensures.onward c.vacate.ensures.onward))

pub returns-clause-ok : goal.returns-clause-ok
returns-clause-ok g c =
    let s0 = g.C.Cells.sight c.args.cells.now in
    let s1 = g.C.Cells.sight c.stored_proof.new.cells in
    let s2 = g.C.Cells.sight c.count_out.new.cells in
    let s3 = g.C.Cells.sight c.take_out.new.cells in
    let s4 = g.C.Cells.sight c.vacate.new.cells in
    let former = c.in_ok-former.former.items in
    let listed = c.as_slice-2.result.now in
    let former_cited = subst (λ (kept : List StoredStep). AreCitedSlots kept c.in_ok-cited.cited.items) c.as_slice.ensures.value
    c.in_ok-cited.ensures in
    let cited = subst (AreCitedSlots c.in_ok-former.former.items) (sym c.as_slice-2.ensures.value) former_cited in
    let counts = c.in_ok-count_out.ensures.ok in
    let takes = subst (TakesOut s2 s3 c.args.slot) c.as_slice-3.ensures c.in_ok-take_out.ensures.ok in
    MatchResult-weaker c.vacate.result {P' = λ _. DeletesAt s0 s4 c.args.slot c.args.label.now} c.vacate.ensures.ok (λ _ empties.
    removed s0 s1 s2 s3 s4 c.args.slot c.args.label.now former listed c.stored_proof.ensures.looks c.count_out.ensures.onward
    c.take_out.ensures.onward c.vacate.ensures.onward c.in_ok-former.ensures.ok cited counts takes empties) (λ _ t. t)

pub returns-clause-keeps : goal.returns-clause-keeps
returns-clause-keeps g c =
    let s0 = g.C.Cells.sight c.args.cells.now in
    let s1 = g.C.Cells.sight c.stored_proof.new.cells in
    let s2 = g.C.Cells.sight c.count_out.new.cells in
    let s3 = g.C.Cells.sight c.take_out.new.cells in
    let s4 = g.C.Cells.sight c.vacate.new.cells in
    let former = c.in_ok-former.former.items in
    let listed = c.as_slice-2.result.now in
    let former_cited = subst (λ (kept : List StoredStep). AreCitedSlots kept c.in_ok-cited.cited.items) c.as_slice.ensures.value
    c.in_ok-cited.ensures in
    let cited = subst (AreCitedSlots c.in_ok-former.former.items) (sym c.as_slice-2.ensures.value) former_cited in
    let counts = c.in_ok-count_out.ensures.ok in
    let out = c.in_ok-count_out.ensures.keeps in
    let leaves = c.in_ok-take_out.ensures.keeps in
    MatchResult-weaker c.vacate.result {P' = λ _. DeletesWithin s0 s4 c.args.slot c.args.label.now} c.vacate.ensures.keeps (λ _ emptied.
    removes_within s0 s1 s2 s3 s4 c.args.slot c.args.label.now former listed c.stored_proof.ensures.looks c.count_out.ensures.onward
    c.take_out.ensures.onward c.vacate.ensures.onward c.in_ok-former.ensures.ok cited counts out leaves emptied) (λ _ t. t)

pub returns-in_err-former-clause-reads : goal.returns-in_err-former-clause-reads
returns-in_err-former-clause-reads g c =
    let s0 = g.C.Cells.sight c.args.cells.now in
    let s1 = g.C.Cells.sight c.stored_proof.new.cells in
    let i = c.args.slot in
    let label = c.args.label.now in
    let r1 : ReadsSince (OfCommandFound s0 c.args.slot c.args.label.now (Delete c.args.label.now)) s0 s0 s1 =
    removal_proof s0 s1 i label c.stored_proof.ensures.reads in
    found_end s0 s1 i label (Delete c.args.label.now) r1

pub returns-in_err-cited-clause-reads : goal.returns-in_err-cited-clause-reads
returns-in_err-cited-clause-reads g c =
    let s0 = g.C.Cells.sight c.args.cells.now in
    let s1 = g.C.Cells.sight c.stored_proof.new.cells in
    let i = c.args.slot in
    let label = c.args.label.now in
    let r1 : ReadsSince (OfCommandFound s0 c.args.slot c.args.label.now (Delete c.args.label.now)) s0 s0 s1 =
    removal_proof s0 s1 i label c.stored_proof.ensures.reads in
    found_end s0 s1 i label (Delete c.args.label.now) r1

pub returns-in_err-count_out-clause-reads : goal.returns-in_err-count_out-clause-reads
returns-in_err-count_out-clause-reads g c =
    let s0 = g.C.Cells.sight c.args.cells.now in
    let s1 = g.C.Cells.sight c.stored_proof.new.cells in
    let i = c.args.slot in
    let label = c.args.label.now in
    let r1 : ReadsSince (OfCommandFound s0 c.args.slot c.args.label.now (Delete c.args.label.now)) s0 s0 s1 =
    removal_proof s0 s1 i label c.stored_proof.ensures.reads in
    let s2 = g.C.Cells.sight c.count_out.new.cells in
    let former = c.in_ok-former.former.items in
    let listed = c.as_slice-2.result.now in
    let former_cited = subst (λ (kept : List StoredStep). AreCitedSlots kept c.in_ok-cited.cited.items) c.as_slice.ensures.value
    c.in_ok-cited.ensures in
    let cited = subst (AreCitedSlots c.in_ok-former.former.items) (sym c.as_slice-2.ensures.value) former_cited in
    let r2 : ReadsSince (OfCommandFound s0 c.args.slot c.args.label.now (Delete c.args.label.now)) s0 s0 s2 =
    removal_counts s0 s1 i label s2 former listed c.stored_proof.ensures.looks c.in_ok-former.ensures.ok cited c.count_out.ensures.onward
    c.count_out.ensures.reads r1 in
    found_end s0 s2 i label (Delete c.args.label.now) r2

pub returns-in_err-take_out-clause-reads : goal.returns-in_err-take_out-clause-reads
returns-in_err-take_out-clause-reads g c =
    let s0 = g.C.Cells.sight c.args.cells.now in
    let s1 = g.C.Cells.sight c.stored_proof.new.cells in
    let i = c.args.slot in
    let label = c.args.label.now in
    let r1 : ReadsSince (OfCommandFound s0 c.args.slot c.args.label.now (Delete c.args.label.now)) s0 s0 s1 =
    removal_proof s0 s1 i label c.stored_proof.ensures.reads in
    let s2 = g.C.Cells.sight c.count_out.new.cells in
    let former = c.in_ok-former.former.items in
    let listed = c.as_slice-2.result.now in
    let former_cited = subst (λ (kept : List StoredStep). AreCitedSlots kept c.in_ok-cited.cited.items) c.as_slice.ensures.value
    c.in_ok-cited.ensures in
    let cited = subst (AreCitedSlots c.in_ok-former.former.items) (sym c.as_slice-2.ensures.value) former_cited in
    let r2 : ReadsSince (OfCommandFound s0 c.args.slot c.args.label.now (Delete c.args.label.now)) s0 s0 s2 =
    removal_counts s0 s1 i label s2 former listed c.stored_proof.ensures.looks c.in_ok-former.ensures.ok cited c.count_out.ensures.onward
    c.count_out.ensures.reads r1 in
    let s3 = g.C.Cells.sight c.take_out.new.cells in
    let counts = c.in_ok-count_out.ensures.ok in
    let chain = subst (λ (l : List ℕ). ReadsWhere (IsOfTakingOut s2.setting.slots c.args.slot l) s2 s3) c.as_slice-3.ensures
    c.take_out.ensures.reads in
    let r3 : ReadsSince (OfCommandFound s0 c.args.slot c.args.label.now (Delete c.args.label.now)) s0 s0 s3 =
    removal_chain s0 s1 i label s2 former listed c.stored_proof.ensures.looks c.in_ok-former.ensures.ok cited c.count_out.ensures.onward
    s3 c.take_out.ensures.onward counts chain r2 in
    found_end s0 s3 i label (Delete c.args.label.now) r3

pub returns-clause-reads : goal.returns-clause-reads
returns-clause-reads g c =
    let s0 = g.C.Cells.sight c.args.cells.now in
    let s1 = g.C.Cells.sight c.stored_proof.new.cells in
    let i = c.args.slot in
    let label = c.args.label.now in
    let r1 : ReadsSince (OfCommandFound s0 c.args.slot c.args.label.now (Delete c.args.label.now)) s0 s0 s1 =
    removal_proof s0 s1 i label c.stored_proof.ensures.reads in
    let s2 = g.C.Cells.sight c.count_out.new.cells in
    let former = c.in_ok-former.former.items in
    let listed = c.as_slice-2.result.now in
    let former_cited = subst (λ (kept : List StoredStep). AreCitedSlots kept c.in_ok-cited.cited.items) c.as_slice.ensures.value
    c.in_ok-cited.ensures in
    let cited = subst (AreCitedSlots c.in_ok-former.former.items) (sym c.as_slice-2.ensures.value) former_cited in
    let r2 : ReadsSince (OfCommandFound s0 c.args.slot c.args.label.now (Delete c.args.label.now)) s0 s0 s2 =
    removal_counts s0 s1 i label s2 former listed c.stored_proof.ensures.looks c.in_ok-former.ensures.ok cited c.count_out.ensures.onward
    c.count_out.ensures.reads r1 in
    let s3 = g.C.Cells.sight c.take_out.new.cells in
    let counts = c.in_ok-count_out.ensures.ok in
    let chain = subst (λ (l : List ℕ). ReadsWhere (IsOfTakingOut s2.setting.slots c.args.slot l) s2 s3) c.as_slice-3.ensures
    c.take_out.ensures.reads in
    let r3 : ReadsSince (OfCommandFound s0 c.args.slot c.args.label.now (Delete c.args.label.now)) s0 s0 s3 =
    removal_chain s0 s1 i label s2 former listed c.stored_proof.ensures.looks c.in_ok-former.ensures.ok cited c.count_out.ensures.onward
    s3 c.take_out.ensures.onward counts chain r2 in
    let s4 = g.C.Cells.sight c.vacate.new.cells in
    found_end s0 s4 i label (Delete c.args.label.now) (removal_slot s0 s3 i label s4 c.vacate.ensures.onward c.vacate.ensures.reads r3)

pub returns-in_err-former-clause-written : goal.returns-in_err-former-clause-written
returns-in_err-former-clause-written g c =
    let p = err_from_is_err_and c.from_residual.result c.from_residual.ensures.1 in rw p.1 tt

pub returns-in_err-former-clause-ok : goal.returns-in_err-former-clause-ok
returns-in_err-former-clause-ok g c =
    let p = err_from_is_err_and c.from_residual.result c.from_residual.ensures.1 in rw p.1 tt

pub returns-in_err-former-clause-keeps : goal.returns-in_err-former-clause-keeps
returns-in_err-former-clause-keeps g c =
    let p = err_from_is_err_and c.from_residual.result c.from_residual.ensures.1 in rw p.1 tt

pub returns-in_err-cited-clause-written : goal.returns-in_err-cited-clause-written
returns-in_err-cited-clause-written g c =
    let p = err_from_is_err_and c.from_residual-in_err-cited.result c.from_residual-in_err-cited.ensures.1 in rw p.1 tt

pub returns-in_err-cited-clause-ok : goal.returns-in_err-cited-clause-ok
returns-in_err-cited-clause-ok g c =
    let p = err_from_is_err_and c.from_residual-in_err-cited.result c.from_residual-in_err-cited.ensures.1 in rw p.1 tt

pub returns-in_err-cited-clause-keeps : goal.returns-in_err-cited-clause-keeps
returns-in_err-cited-clause-keeps g c =
    let p = err_from_is_err_and c.from_residual-in_err-cited.result c.from_residual-in_err-cited.ensures.1 in rw p.1 tt

pub returns-in_err-count_out-clause-written : goal.returns-in_err-count_out-clause-written
returns-in_err-count_out-clause-written g c =
    let p = err_from_is_err_and c.from_residual-in_err-count_out.result c.from_residual-in_err-count_out.ensures.1 in rw p.1 tt

pub returns-in_err-count_out-clause-ok : goal.returns-in_err-count_out-clause-ok
returns-in_err-count_out-clause-ok g c =
    let p = err_from_is_err_and c.from_residual-in_err-count_out.result c.from_residual-in_err-count_out.ensures.1 in rw p.1 tt

pub returns-in_err-count_out-clause-keeps : goal.returns-in_err-count_out-clause-keeps
returns-in_err-count_out-clause-keeps g c =
    let p = err_from_is_err_and c.from_residual-in_err-count_out.result c.from_residual-in_err-count_out.ensures.1 in rw p.1 tt

pub returns-in_err-take_out-clause-written : goal.returns-in_err-take_out-clause-written
returns-in_err-take_out-clause-written g c =
    let p = err_from_is_err_and c.from_residual-in_err-take_out.result c.from_residual-in_err-take_out.ensures.1 in rw p.1 tt

pub returns-in_err-take_out-clause-ok : goal.returns-in_err-take_out-clause-ok
returns-in_err-take_out-clause-ok g c =
    let p = err_from_is_err_and c.from_residual-in_err-take_out.result c.from_residual-in_err-take_out.ensures.1 in rw p.1 tt

pub returns-in_err-take_out-clause-keeps : goal.returns-in_err-take_out-clause-keeps
returns-in_err-take_out-clause-keeps g c =
    let p = err_from_is_err_and c.from_residual-in_err-take_out.result c.from_residual-in_err-take_out.ensures.1 in rw p.1 tt

pub returns-in_err-former-clause-taken : goal.returns-in_err-former-clause-taken
returns-in_err-former-clause-taken g c =
    omega (arith, c.stored_proof.ensures.looks.taken)

pub returns-in_err-cited-clause-taken : goal.returns-in_err-cited-clause-taken
returns-in_err-cited-clause-taken g c =
    omega (arith, c.stored_proof.ensures.looks.taken)

pub returns-in_err-count_out-clause-taken : goal.returns-in_err-count_out-clause-taken
returns-in_err-count_out-clause-taken g c =
    omega (arith, c.stored_proof.ensures.looks.taken, c.count_out.ensures.taken)

pub returns-in_err-take_out-clause-taken : goal.returns-in_err-take_out-clause-taken
returns-in_err-take_out-clause-taken g c =
    omega (arith, c.stored_proof.ensures.looks.taken, c.count_out.ensures.taken, c.take_out.ensures.taken)

pub returns-clause-taken : goal.returns-clause-taken
returns-clause-taken g c =
    omega (arith, c.stored_proof.ensures.looks.taken, c.count_out.ensures.taken, c.take_out.ensures.taken, c.vacate.ensures.taken)

pub returns-in_err-former-clause-onward : goal.returns-in_err-former-clause-onward
returns-in_err-former-clause-onward g c = c.stored_proof.ensures.looks.onward

pub returns-in_err-cited-clause-onward : goal.returns-in_err-cited-clause-onward
returns-in_err-cited-clause-onward g c = c.stored_proof.ensures.looks.onward
