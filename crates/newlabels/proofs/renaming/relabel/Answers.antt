use Rattle.std.proofs.Common.{◌≡◌, ◌≢◌, ℕ, List, subst}
use Rattle.std.proofs.lemmas.Result.{IfOk-weaker}
use Rattle.cells.specs.State.{State, HasBody}
use Rattle.cells.specs.Slots.{name_cell}
use Rattle.cells.specs.Sight.{Matches, after}
use Rattle.cells.proofs.Sights.{onward_trans}
use Rattle.cells.specs.Answers.{WritesSome}
use Rattle.cells.specs.Aside.{KeepsAside, IsOfFront}
use Rattle.newlabels.specs.Changes.{RenamesAt}
use Rattle.newlabels.specs.Changes.{RenamesWithin}
use Rattle.newlabels.proofs.Touching.{relabels_within}
use Rattle.chains.proofs.Chaining.{TakesOut, PutsIn}
use Rattle.newlabels.proofs.Results.{if_ok_always}
use Rattle.newlabels.proofs.Relabelling.{relabelled}
use Rattle.library.specs.declared.command.Command.TheVariants.{Rename}
use Rattle.cells.specs.Sight.{ReadsWithin}
use Rattle.cells.specs.Footprints.{ReadsWhere, IsOfTakingOut}
use Rattle.groundwork.proofs.Since.{ReadsSince, OfCommandFound, found_end}
use Rattle.newlabels.proofs.RenameReads.{relabel_name, relabel_out, relabel_in}
use Rattle.cells.proofs.Settings.{small_slot}
use Rattle.newlabels.proofs.renaming.relabel.Goals as goal

pub name_cell-requires : goal.name_cell-requires
name_cell-requires g c = small_slot _ (g.met.C.Cells.grounded c.args.cells.now) c.args.slot c.requires.slot

pub returns-in_err-take_out-clause-onward : goal.returns-in_err-take_out-clause-onward
returns-in_err-take_out-clause-onward g c = onward_trans _ _ _ c.put_body.ensures.onward c.take_out.ensures.onward

pub returns-clause-onward : goal.returns-clause-onward
returns-clause-onward g c =
    onward_trans _ _ _ c.put_body.ensures.onward (onward_trans _ _ _ c.take_out.ensures.onward c.put_in.ensures.onward)

pub returns-clause-written : goal.returns-clause-written
returns-clause-written g c =
    let new = g.C.Cells.sight c.put_in.new.cells in
    if_ok_always c.put_in.result (λ _. WritesSome new) (λ _.
    (c.name_cell.result, c.put_in.ensures.onward.written _ (c.take_out.ensures.onward.written _ c.in_ok-put_body.ensures.written)))

pub returns-clause-ok : goal.returns-clause-ok
returns-clause-ok g c =
    let s0 = g.C.Cells.sight c.args.cells.now in
    let s1 = g.C.Cells.sight c.put_body.new.cells in
    let s2 = g.C.Cells.sight c.take_out.new.cells in
    let s3 = g.C.Cells.sight c.put_in.new.cells in
    let cell : c.name_cell.result ≡ name_cell c.args.slot = c.name_cell.ensures in
    let named = subst (λ (n : ℕ). (st : State) → Matches s1 st → HasBody (after s1 st) n c.args.body.now) cell
    c.in_ok-put_body.ensures.ok in
    let others = subst (λ (n : ℕ). (st : State) (k : ℕ) → k ≢ n → (after s1 st).value k ≡ (after s0 st).value k) cell
    c.in_ok-put_body.ensures.others in
    let takes = subst (TakesOut s1 s2 c.args.slot) c.as_slice.ensures c.in_ok-take_out.ensures.ok in
    IfOk-weaker c.put_in.result _ (λ _. RenamesAt s0 s3 c.args.slot c.args.old.now c.args.new.now) (λ _ puts.
    relabelled s0 s1 s2 s3 c.args.slot c.args.old.now c.args.new.now c.args.body.now c.put_body.ensures.onward c.take_out.ensures.onward
    c.put_in.ensures.onward c.requires.body named others takes (subst (PutsIn s2 s3 c.args.slot) c.as_slice-2.ensures puts))
    c.put_in.ensures.ok

pub returns-clause-keeps : goal.returns-clause-keeps
returns-clause-keeps g c =
    let s0 = g.C.Cells.sight c.args.cells.now in
    let s1 = g.C.Cells.sight c.put_body.new.cells in
    let s2 = g.C.Cells.sight c.take_out.new.cells in
    let s3 = g.C.Cells.sight c.put_in.new.cells in
    let cell : c.name_cell.result ≡ name_cell c.args.slot = c.name_cell.ensures in
    let others = subst (λ (n : ℕ). (st : State) (k : ℕ) → k ≢ n → (after s1 st).value k ≡ (after s0 st).value k) cell
    c.in_ok-put_body.ensures.others in
    let named = subst (λ (n : ℕ). KeepsAside (λ k. k ≡ n) s0 s1) cell c.in_ok-put_body.ensures.keeps in
    IfOk-weaker c.put_in.result _ (λ _. RenamesWithin s0 s3 c.args.slot c.args.new.now) (λ _ comes.
    relabels_within s0 s1 s2 s3 c.args.slot c.args.new.now c.put_body.ensures.onward c.take_out.ensures.onward c.put_in.ensures.onward
    c.requires.slot others named c.in_ok-take_out.ensures.keeps
    (subst (λ (l : List ℕ). KeepsAside (IsOfFront s2.setting.slots c.args.slot l) s2 s3) c.as_slice-2.ensures comes))
    c.put_in.ensures.keeps

pub returns-in_err-put_body-clause-reads : goal.returns-in_err-put_body-clause-reads
returns-in_err-put_body-clause-reads g c =
    let s0 = g.C.Cells.sight c.args.cells.now in
    let s1 = g.C.Cells.sight c.put_body.new.cells in
    let i = c.args.slot in
    let from = c.args.old.now in
    let to = c.args.new.now in
    let r1 : ReadsSince (OfCommandFound s0 c.args.slot c.args.old.now (Rename c.args.old.now c.args.new.now)) s0 s0 s1 =
    relabel_name s0 s1 i from to (subst (λ (n : ℕ). ReadsWithin (λ k. k ≡ n) s0 s1) c.name_cell.ensures c.put_body.ensures.reads) in
    found_end s0 s1 i from (Rename from to) r1

pub returns-in_err-take_out-clause-reads : goal.returns-in_err-take_out-clause-reads
returns-in_err-take_out-clause-reads g c =
    let s0 = g.C.Cells.sight c.args.cells.now in
    let s1 = g.C.Cells.sight c.put_body.new.cells in
    let i = c.args.slot in
    let from = c.args.old.now in
    let to = c.args.new.now in
    let r1 : ReadsSince (OfCommandFound s0 c.args.slot c.args.old.now (Rename c.args.old.now c.args.new.now)) s0 s0 s1 =
    relabel_name s0 s1 i from to (subst (λ (n : ℕ). ReadsWithin (λ k. k ≡ n) s0 s1) c.name_cell.ensures c.put_body.ensures.reads) in
    let s2 = g.C.Cells.sight c.take_out.new.cells in
    let others = subst (λ (n : ℕ). (st : State) (k : ℕ) → k ≢ n → (after s1 st).value k ≡ (after s0 st).value k) c.name_cell.ensures
    c.in_ok-put_body.ensures.others in
    let chain = subst (λ (l : List ℕ). ReadsWhere (IsOfTakingOut s1.setting.slots c.args.slot l) s1 s2) c.as_slice.ensures
    c.take_out.ensures.reads in
    let r2 : ReadsSince (OfCommandFound s0 c.args.slot c.args.old.now (Rename c.args.old.now c.args.new.now)) s0 s0 s2 =
    relabel_out s0 s1 i from to s2 c.put_body.ensures.onward c.take_out.ensures.onward c.requires.slot others chain r1 in
    found_end s0 s2 i from (Rename from to) r2

pub returns-clause-reads : goal.returns-clause-reads
returns-clause-reads g c =
    let s0 = g.C.Cells.sight c.args.cells.now in
    let s1 = g.C.Cells.sight c.put_body.new.cells in
    let i = c.args.slot in
    let from = c.args.old.now in
    let to = c.args.new.now in
    let r1 : ReadsSince (OfCommandFound s0 c.args.slot c.args.old.now (Rename c.args.old.now c.args.new.now)) s0 s0 s1 =
    relabel_name s0 s1 i from to (subst (λ (n : ℕ). ReadsWithin (λ k. k ≡ n) s0 s1) c.name_cell.ensures c.put_body.ensures.reads) in
    let s2 = g.C.Cells.sight c.take_out.new.cells in
    let others = subst (λ (n : ℕ). (st : State) (k : ℕ) → k ≢ n → (after s1 st).value k ≡ (after s0 st).value k) c.name_cell.ensures
    c.in_ok-put_body.ensures.others in
    let chain = subst (λ (l : List ℕ). ReadsWhere (IsOfTakingOut s1.setting.slots c.args.slot l) s1 s2) c.as_slice.ensures
    c.take_out.ensures.reads in
    let r2 : ReadsSince (OfCommandFound s0 c.args.slot c.args.old.now (Rename c.args.old.now c.args.new.now)) s0 s0 s2 =
    relabel_out s0 s1 i from to s2 c.put_body.ensures.onward c.take_out.ensures.onward c.requires.slot others chain r1 in
    let s3 = g.C.Cells.sight c.put_in.new.cells in
    let front = subst (λ (l : List ℕ). ReadsWithin (IsOfFront s2.setting.slots c.args.slot l) s2 s3) c.as_slice-2.ensures
    c.put_in.ensures.reads in
    found_end s0 s3 i from (Rename from to)
    (relabel_in s0 s2 i from to s3 (onward_trans _ _ _ c.put_body.ensures.onward c.take_out.ensures.onward) c.put_in.ensures.onward front
    r2)
