use Rattle.std.proofs.Common.{◌≡◌, Ok, refl, sym, ◌∙◌, inl}
use Rattle.library.specs.declared.command.Command.TheVariants.{Show}
use Rattle.library.specs.declared.command.Reply.TheVariants.{Shown}
use Rattle.library.specs.declared.reason.Reason.TheVariants.{UnknownLabel}
use Rattle.library.specs.Library.{label_of}
use Rattle.library.specs.Edits.{citers, shown}
use Rattle.library.proofs.Places.{found_in}
use Rattle.cells.specs.Lookups.{ForEachHeld}
use Rattle.cells.proofs.ReadBack.{held_later}
use Rattle.cells.proofs.Sights.{looks_trans}
use Rattle.groundwork.proofs.OnlyLooks.{does_reading}
use Rattle.cells.proofs.Resolving.{finds_after}
use Rattle.groundwork.proofs.Seeing.{found_held}
use Rattle.groundwork.proofs.Refusing.{of_none, of_some, refused, answers_unknown}
use Rattle.groundwork.specs.Footprints.{ReadsFor}
use Rattle.groundwork.proofs.Since.{first_look}
use Rattle.shows.proofs.ShowReads.{show_entry, show_citers}
use Rattle.shows.proofs.showing.show.Goals as goal

pub returns-in_err-slot-clause-answers : goal.returns-in_err-slot-clause-answers
returns-in_err-slot-clause-answers g c =
    let s0 = g.C.Cells.sight c.args.cells.now in
    let s1 = g.C.Cells.sight c.known_slot.new.cells in
    let label = c.args.label.now in
    let x = Show c.args.label.now in
    answers_unknown s0 s1 x label c.from_residual.result c.in_err-slot.field-0.0 c.from_residual.ensures.1 c.in_err-slot.ensures.err
    (λ none. refused s0 s1 x UnknownLabel c.known_slot.ensures.looks
    (λ st lib v. of_none lib label (λ e. Ok (shown lib e)) (none st lib v)))

pub entry-requires-clause-label : goal.entry-requires-clause-label
entry-requires-clause-label g c = λ st lib v e at h.
    let s1 = g.C.Cells.sight c.known_slot.new.cells in
    let some = c.in_ok-slot.ensures.ok in
    c.in_ok-copy.ensures ∙ found_held s1 c.args.label.now c.in_ok-slot.slot some st lib v e at h

pub returns-in_err-shown-clause-onward : goal.returns-in_err-shown-clause-onward
returns-in_err-shown-clause-onward g c = let looks = looks_trans _ _ _ c.known_slot.ensures.looks c.entry.ensures.looks in looks.onward

pub returns-in_err-citers-clause-onward : goal.returns-in_err-citers-clause-onward
returns-in_err-citers-clause-onward g c =
    let looks = looks_trans _ _ _ c.known_slot.ensures.looks
    (looks_trans _ _ _ c.entry.ensures.looks c.citers.ensures.looks) in looks.onward

pub returns-clause-onward : goal.returns-clause-onward
returns-clause-onward g c =
    let looks = looks_trans _ _ _ c.known_slot.ensures.looks
    (looks_trans _ _ _ c.entry.ensures.looks c.citers.ensures.looks) in looks.onward

pub returns-clause-answers : goal.returns-clause-answers
returns-clause-answers g c =
    let s1 = g.C.Cells.sight c.known_slot.new.cells in
    let s2 = g.C.Cells.sight c.entry.new.cells in
    let s3 = g.C.Cells.sight c.citers.new.cells in
    let label = c.args.label.now in
    let i = c.in_ok-slot.slot in
    let on = looks_trans _ _ _ c.entry.ensures.looks c.citers.ensures.looks in
    let some = c.in_ok-slot.ensures.ok in
    let later = finds_after s1 s3 label i on some in
    let counted : ForEachHeld s3 i (λ x l e. c.in_ok-citers.citers ≡ citers l (label_of e)) = c.in_ok-citers.ensures.ok in
    let looks = looks_trans _ _ _ c.known_slot.ensures.looks on in
    let told = c.in_ok-shown.shown in
    does_reading _ s3 (Show label) (Shown told.rank c.in_ok-citers.citers told.assertion) looks refl (λ st lib v.
    let at = later.1 st lib v in
    let e = at.entry in
    let has = (found_in lib label e at.found).0 in
    let n : c.in_ok-citers.citers ≡ citers lib (label_of e) = counted st lib v e has at.holds in
    let r : c.in_ok-shown.shown ≡ e =
    held_later s2 s3 i (λ x l f. c.in_ok-shown.shown ≡ f) c.citers.ensures.looks c.in_ok-shown.ensures.ok st lib v e has at.holds in
    of_some lib label (λ f. Ok (shown lib f)) e at.found
    ∙ (λ j. Ok (record { library = lib; reply = Shown (sym r j).rank (sym n j) (sym r j).assertion })))

pub returns-in_err-slot-clause-reads : goal.returns-in_err-slot-clause-reads
returns-in_err-slot-clause-reads g c =
    let old = g.C.Cells.sight c.args.cells.now in
    let s1 = g.C.Cells.sight c.known_slot.new.cells in
    let label = c.args.label.now in
    let r1 : ReadsFor old s1 (Show c.args.label.now) =
    first_look old s1 (Show label) label (λ st lib k is. inl is) c.known_slot.ensures.reads in
    r1

pub returns-in_err-copy-clause-reads : goal.returns-in_err-copy-clause-reads
returns-in_err-copy-clause-reads g c =
    let old = g.C.Cells.sight c.args.cells.now in
    let s1 = g.C.Cells.sight c.known_slot.new.cells in
    let label = c.args.label.now in
    first_look old s1 (Show label) label (λ st lib k is. inl is) c.known_slot.ensures.reads

pub returns-in_err-shown-clause-reads : goal.returns-in_err-shown-clause-reads
returns-in_err-shown-clause-reads g c =
    let old = g.C.Cells.sight c.args.cells.now in
    let s1 = g.C.Cells.sight c.known_slot.new.cells in
    let label = c.args.label.now in
    let r1 : ReadsFor old s1 (Show c.args.label.now) =
    first_look old s1 (Show label) label (λ st lib k is. inl is) c.known_slot.ensures.reads in
    let s2 = g.C.Cells.sight c.entry.new.cells in
    let i = c.in_ok-slot.slot in
    let some = c.in_ok-slot.ensures.ok in
    let r2 : ReadsFor old s2 (Show c.args.label.now) =
    show_entry old s1 s2 label i c.known_slot.ensures.looks some r1 c.entry.ensures.looks c.entry.ensures.reads in
    r2

pub returns-in_err-citers-clause-reads : goal.returns-in_err-citers-clause-reads
returns-in_err-citers-clause-reads g c =
    let old = g.C.Cells.sight c.args.cells.now in
    let s1 = g.C.Cells.sight c.known_slot.new.cells in
    let label = c.args.label.now in
    let r1 : ReadsFor old s1 (Show c.args.label.now) =
    first_look old s1 (Show label) label (λ st lib k is. inl is) c.known_slot.ensures.reads in
    let s2 = g.C.Cells.sight c.entry.new.cells in
    let i = c.in_ok-slot.slot in
    let some = c.in_ok-slot.ensures.ok in
    let r2 : ReadsFor old s2 (Show c.args.label.now) =
    show_entry old s1 s2 label i c.known_slot.ensures.looks some r1 c.entry.ensures.looks c.entry.ensures.reads in
    let s3 = g.C.Cells.sight c.citers.new.cells in
    show_citers old s2 s3 label i (looks_trans _ _ _ c.known_slot.ensures.looks c.entry.ensures.looks)
    (finds_after s1 s2 label i c.entry.ensures.looks some) r2 c.citers.ensures.looks c.citers.ensures.reads

pub returns-clause-reads : goal.returns-clause-reads
returns-clause-reads g c =
    let old = g.C.Cells.sight c.args.cells.now in
    let s1 = g.C.Cells.sight c.known_slot.new.cells in
    let label = c.args.label.now in
    let r1 : ReadsFor old s1 (Show c.args.label.now) =
    first_look old s1 (Show label) label (λ st lib k is. inl is) c.known_slot.ensures.reads in
    let s2 = g.C.Cells.sight c.entry.new.cells in
    let i = c.in_ok-slot.slot in
    let some = c.in_ok-slot.ensures.ok in
    let r2 : ReadsFor old s2 (Show c.args.label.now) =
    show_entry old s1 s2 label i c.known_slot.ensures.looks some r1 c.entry.ensures.looks c.entry.ensures.reads in
    let s3 = g.C.Cells.sight c.citers.new.cells in
    show_citers old s2 s3 label i (looks_trans _ _ _ c.known_slot.ensures.looks c.entry.ensures.looks)
    (finds_after s1 s2 label i c.entry.ensures.looks some) r2 c.citers.ensures.looks c.citers.ensures.reads
