use Rattle.std.proofs.Common.{◌≡◌, List, ℕ, subst, inl, inr}
use Rattle.library.specs.declared.command.Command.TheVariants as command
use Rattle.library.specs.declared.reason.Reason.TheVariants as reason
use Rattle.cells.specs.Sight.{Sight}
use Rattle.cells.proofs.Sights.{onward_trans, looks_trans}
use Rattle.cells.proofs.Resolving.{finds_after}
use Rattle.groundwork.proofs.Touching.{keeps_to_since}
use Rattle.newlabels.proofs.Touching.{rename_keeps}
use Rattle.newlabels.specs.Naming.{PassesAsNew, TellsNotNew}
use Rattle.groundwork.proofs.Refusing.{refused, answers_ended, answers_unknown}
use Rattle.newlabels.proofs.Relabelling.{rename_unknown, rename_unlabelled, renamed}
use Rattle.cells.specs.Footprints.{ReadsWhere}
use Rattle.groundwork.specs.Footprints.{IsOfNewLabel, ReadsFor}
use Rattle.groundwork.proofs.Since.{OfCommand, since_then, since_where, first_look, then_found}
use Rattle.newlabels.proofs.renaming.rename.Goals as goal

-- what is told of the slices is told of the labels
of_labels : {O : Type 0} → (s : Sight O) (k l m n : List ℕ) → k ≡ l → m ≡ n → PassesAsNew s k m → PassesAsNew s l n
of_labels s k l m n own is h = subst (PassesAsNew s l) is (subst (λ (x : List ℕ). PassesAsNew s x m) own h)

pub returns-in_err-slot-clause-answers : goal.returns-in_err-slot-clause-answers
returns-in_err-slot-clause-answers g c =
    let s0 = g.C.Cells.sight c.args.cells.now in
    let s1 = g.C.Cells.sight c.known_slot.new.cells in
    let from = c.args.old.now in
    let to = c.args.new.now in
    let x = command.Rename c.args.old.now c.args.new.now in
    answers_unknown s0 s1 x from c.from_residual.result c.in_err-slot.field-0.0 c.from_residual.ensures.1 c.in_err-slot.ensures.err
    (λ none. refused s0 s1 x reason.UnknownLabel c.known_slot.ensures.looks
    (λ st lib v. rename_unknown s0.setting lib from to (none st lib v)))

pub returns-in_err-test_new_label-clause-onward : goal.returns-in_err-test_new_label-clause-onward
returns-in_err-test_new_label-clause-onward g c = onward_trans _ _ _ c.known_slot.ensures.looks.onward c.test_new_label.ensures.looks.onward

pub returns-in_err-test_new_label-clause-answers : goal.returns-in_err-test_new_label-clause-answers
returns-in_err-test_new_label-clause-answers g c =
    let s0 = g.C.Cells.sight c.args.cells.now in
    let s1 = g.C.Cells.sight c.known_slot.new.cells in
    let s2 = g.C.Cells.sight c.test_new_label.new.cells in
    let from = c.args.old.now in
    let to = c.args.new.now in
    let error = c.in_err-test_new_label.field-0.0 in
    let finds = c.in_ok-slot.ensures.ok in
    let told : TellsNotNew s2 from to error =
    subst (λ (x : List ℕ). TellsNotNew s2 from x error) c.as_slice-2.ensures
    (subst (λ (x : List ℕ). TellsNotNew s2 x c.as_slice-2.result.now error) c.as_slice.ensures c.in_err-test_new_label.ensures.err) in
    answers_ended s0 s2 (command.Rename from to) c.from_residual-in_err-test_new_label.result error
    c.from_residual-in_err-test_new_label.ensures.1
    (rename_unlabelled s0 s1 s2 c.in_ok-slot.slot from to finds c.known_slot.ensures.looks c.test_new_label.ensures.looks error told)

pub returns-in_err-body-clause-onward : goal.returns-in_err-body-clause-onward
returns-in_err-body-clause-onward g c = onward_trans _ _ _ c.known_slot.ensures.looks.onward c.test_new_label.ensures.looks.onward

pub returns-in_err-relabel-clause-onward : goal.returns-in_err-relabel-clause-onward
returns-in_err-relabel-clause-onward g c =
    onward_trans _ _ _ c.known_slot.ensures.looks.onward (onward_trans _ _ _ c.test_new_label.ensures.looks.onward c.relabel.ensures.onward)

pub returns-clause-onward : goal.returns-clause-onward
returns-clause-onward g c =
    onward_trans _ _ _ c.known_slot.ensures.looks.onward (onward_trans _ _ _ c.test_new_label.ensures.looks.onward c.relabel.ensures.onward)

pub returns-clause-answers : goal.returns-clause-answers
returns-clause-answers g c =
    let s0 = g.C.Cells.sight c.args.cells.now in
    let s1 = g.C.Cells.sight c.known_slot.new.cells in
    let s2 = g.C.Cells.sight c.test_new_label.new.cells in
    let s3 = g.C.Cells.sight c.relabel.new.cells in
    let from = c.args.old.now in
    let to = c.args.new.now in
    let finds = c.in_ok-slot.ensures.ok in
    renamed s0 s1 s2 c.in_ok-slot.slot from to finds c.known_slot.ensures.looks c.test_new_label.ensures.looks s3
    (of_labels s2 c.as_slice.result.now from c.as_slice-2.result.now to c.as_slice.ensures c.as_slice-2.ensures
    c.in_ok-test_new_label.ensures.ok)
    c.relabel.ensures.onward
    c.in_ok-relabel.ensures.ok
    c.in_ok-relabel.ensures.written

pub returns-clause-keeps : goal.returns-clause-keeps
returns-clause-keeps g c =
    let s0 = g.C.Cells.sight c.args.cells.now in
    let s1 = g.C.Cells.sight c.known_slot.new.cells in
    let s2 = g.C.Cells.sight c.test_new_label.new.cells in
    let s3 = g.C.Cells.sight c.relabel.new.cells in
    let i = c.in_ok-slot.slot in
    let from = c.args.old.now in
    let to = c.args.new.now in
    let finds = c.in_ok-slot.ensures.ok in
    keeps_to_since s0 s2 s3 (command.Rename from to) (looks_trans _ _ _ c.known_slot.ensures.looks c.test_new_label.ensures.looks)
    c.relabel.ensures.onward
    (rename_keeps s2 s3 i from to (finds_after s1 s2 from i c.test_new_label.ensures.looks finds).1
    c.in_ok-relabel.ensures.keeps)

pub returns-in_err-slot-clause-reads : goal.returns-in_err-slot-clause-reads
returns-in_err-slot-clause-reads g c =
    let s0 = g.C.Cells.sight c.args.cells.now in
    let s1 = g.C.Cells.sight c.known_slot.new.cells in
    let from = c.args.old.now in
    let to = c.args.new.now in
    let r1 : ReadsFor s0 s1 (command.Rename c.args.old.now c.args.new.now) =
    first_look s0 s1 (command.Rename from to) from (λ st lib k is. inl is) c.known_slot.ensures.reads in
    r1

pub returns-in_err-test_new_label-clause-reads : goal.returns-in_err-test_new_label-clause-reads
returns-in_err-test_new_label-clause-reads g c =
    let s0 = g.C.Cells.sight c.args.cells.now in
    let s1 = g.C.Cells.sight c.known_slot.new.cells in
    let from = c.args.old.now in
    let to = c.args.new.now in
    let r1 : ReadsFor s0 s1 (command.Rename c.args.old.now c.args.new.now) =
    first_look s0 s1 (command.Rename from to) from (λ st lib k is. inl is) c.known_slot.ensures.reads in
    let s2 = g.C.Cells.sight c.test_new_label.new.cells in
    let tested : ReadsWhere (IsOfNewLabel s1.setting.slots c.args.old.now c.args.new.now) s1 s2 =
    subst (λ (l : List ℕ). ReadsWhere (IsOfNewLabel s1.setting.slots c.args.old.now l) s1 s2) c.as_slice-2.ensures
    (subst (λ (l : List ℕ). ReadsWhere (IsOfNewLabel s1.setting.slots l c.as_slice-2.result.now) s1 s2) c.as_slice.ensures
    c.test_new_label.ensures.reads) in
    let r2 : ReadsFor s0 s2 (command.Rename c.args.old.now c.args.new.now) =
    since_then (OfCommand s0 (command.Rename from to)) r1 c.test_new_label.ensures.looks.onward
    (since_where (OfCommand s0 (command.Rename from to)) s0 s1 s2 c.known_slot.ensures.looks (λ n. IsOfNewLabel n from to)
    (λ st lib k is. inr (inl is)) tested) in
    r2

pub returns-in_err-body-clause-reads : goal.returns-in_err-body-clause-reads
returns-in_err-body-clause-reads g c =
    let s0 = g.C.Cells.sight c.args.cells.now in
    let s1 = g.C.Cells.sight c.known_slot.new.cells in
    let from = c.args.old.now in
    let to = c.args.new.now in
    let r1 : ReadsFor s0 s1 (command.Rename c.args.old.now c.args.new.now) =
    first_look s0 s1 (command.Rename from to) from (λ st lib k is. inl is) c.known_slot.ensures.reads in
    let s2 = g.C.Cells.sight c.test_new_label.new.cells in
    let tested : ReadsWhere (IsOfNewLabel s1.setting.slots c.args.old.now c.args.new.now) s1 s2 =
    subst (λ (l : List ℕ). ReadsWhere (IsOfNewLabel s1.setting.slots c.args.old.now l) s1 s2) c.as_slice-2.ensures
    (subst (λ (l : List ℕ). ReadsWhere (IsOfNewLabel s1.setting.slots l c.as_slice-2.result.now) s1 s2) c.as_slice.ensures
    c.test_new_label.ensures.reads) in
    let r2 : ReadsFor s0 s2 (command.Rename c.args.old.now c.args.new.now) =
    since_then (OfCommand s0 (command.Rename from to)) r1 c.test_new_label.ensures.looks.onward
    (since_where (OfCommand s0 (command.Rename from to)) s0 s1 s2 c.known_slot.ensures.looks (λ n. IsOfNewLabel n from to)
    (λ st lib k is. inr (inl is)) tested) in
    r2

pub returns-in_err-relabel-clause-reads : goal.returns-in_err-relabel-clause-reads
returns-in_err-relabel-clause-reads g c =
    let s0 = g.C.Cells.sight c.args.cells.now in
    let s1 = g.C.Cells.sight c.known_slot.new.cells in
    let from = c.args.old.now in
    let to = c.args.new.now in
    let r1 : ReadsFor s0 s1 (command.Rename c.args.old.now c.args.new.now) =
    first_look s0 s1 (command.Rename from to) from (λ st lib k is. inl is) c.known_slot.ensures.reads in
    let s2 = g.C.Cells.sight c.test_new_label.new.cells in
    let tested : ReadsWhere (IsOfNewLabel s1.setting.slots c.args.old.now c.args.new.now) s1 s2 =
    subst (λ (l : List ℕ). ReadsWhere (IsOfNewLabel s1.setting.slots c.args.old.now l) s1 s2) c.as_slice-2.ensures
    (subst (λ (l : List ℕ). ReadsWhere (IsOfNewLabel s1.setting.slots l c.as_slice-2.result.now) s1 s2) c.as_slice.ensures
    c.test_new_label.ensures.reads) in
    let r2 : ReadsFor s0 s2 (command.Rename c.args.old.now c.args.new.now) =
    since_then (OfCommand s0 (command.Rename from to)) r1 c.test_new_label.ensures.looks.onward
    (since_where (OfCommand s0 (command.Rename from to)) s0 s1 s2 c.known_slot.ensures.looks (λ n. IsOfNewLabel n from to)
    (λ st lib k is. inr (inl is)) tested) in
    let s3 = g.C.Cells.sight c.relabel.new.cells in
    let i = c.in_ok-slot.slot in
    let finds = c.in_ok-slot.ensures.ok in
    then_found s0 s2 s3 (command.Rename from to) from i (looks_trans _ _ _ c.known_slot.ensures.looks c.test_new_label.ensures.looks)
    (finds_after s1 s2 from i c.test_new_label.ensures.looks finds) r2 c.relabel.ensures.onward c.relabel.ensures.reads

pub returns-clause-reads : goal.returns-clause-reads
returns-clause-reads g c =
    let s0 = g.C.Cells.sight c.args.cells.now in
    let s1 = g.C.Cells.sight c.known_slot.new.cells in
    let from = c.args.old.now in
    let to = c.args.new.now in
    let r1 : ReadsFor s0 s1 (command.Rename c.args.old.now c.args.new.now) =
    first_look s0 s1 (command.Rename from to) from (λ st lib k is. inl is) c.known_slot.ensures.reads in
    let s2 = g.C.Cells.sight c.test_new_label.new.cells in
    let tested : ReadsWhere (IsOfNewLabel s1.setting.slots c.args.old.now c.args.new.now) s1 s2 =
    subst (λ (l : List ℕ). ReadsWhere (IsOfNewLabel s1.setting.slots c.args.old.now l) s1 s2) c.as_slice-2.ensures
    (subst (λ (l : List ℕ). ReadsWhere (IsOfNewLabel s1.setting.slots l c.as_slice-2.result.now) s1 s2) c.as_slice.ensures
    c.test_new_label.ensures.reads) in
    let r2 : ReadsFor s0 s2 (command.Rename c.args.old.now c.args.new.now) =
    since_then (OfCommand s0 (command.Rename from to)) r1 c.test_new_label.ensures.looks.onward
    (since_where (OfCommand s0 (command.Rename from to)) s0 s1 s2 c.known_slot.ensures.looks (λ n. IsOfNewLabel n from to)
    (λ st lib k is. inr (inl is)) tested) in
    let s3 = g.C.Cells.sight c.relabel.new.cells in
    let i = c.in_ok-slot.slot in
    let finds = c.in_ok-slot.ensures.ok in
    then_found s0 s2 s3 (command.Rename from to) from i (looks_trans _ _ _ c.known_slot.ensures.looks c.test_new_label.ensures.looks)
    (finds_after s1 s2 from i c.test_new_label.ensures.looks finds) r2 c.relabel.ensures.onward c.relabel.ensures.reads
