use Rattle.std.proofs.Common.{rules, ◌≡◌, ◌<◌, ◌+◌, ℕ, sym, subst, ◌∙◌, inl}
use Rattle.cells.specs.Slots.{bucket_cell, next_cell}
use Rattle.cells.specs.Sight.{Reads}
use Rattle.cells.specs.Clashing.{TellsAvailabilityAt}
use Rattle.cells.specs.Footprints.{ReadsWhere, IsAlong}
use Rattle.cells.specs.declared.labels.Availability.TheVariants.{Free}
use Rattle.cells.proofs.Along.{where_same, where_more, leads_first, leads_next, along_name, along_next}
use Rattle.cells.proofs.Sights.{looks_trans}
use Rattle.cells.proofs.Settings.{same_slots}
use Rattle.cells.proofs.Walks.{walk_begins, walk_on, ahead_at_end, ahead_at_last}
use Rattle.cells.proofs.Clashing.{IsInTheWayIn, clear_in, told_at}
use Rattle.cells.proofs.labels.availability_in.Goals as goal

pub loop-init : goal.loop-init
loop-init g c =
    let old = g.C.Cells.sight c.args.cells.now in
    let new = g.C.Cells.sight c.read.new.self in
    let slots = c.slot_count-slots.result in
    let b = c.args.chain in
    let own = c.args.own.now in
    let label = c.args.label.now in
    let read : Reads (bucket_cell slots b) c.in_ok-word.word old new = search rules in
    let is : slots ≡ new.setting.slots = c.slot_count-slots.ensures.value ∙ sym (same_slots old new read.looks) in (
      read.looks,
      walk_begins new slots is (IsInTheWayIn b own label) old b c.in_ok-word.word
          (subst (λ (n : ℕ). c.args.chain < n) (sym c.slot_count-slots.ensures.value) c.requires)
          (λ st i here. (here.0, here.1, here.2)) read,
      leads_first read,
      where_more (where_same _) c.in_ok-word.ensures.ok.looks.onward c.read.ensures.reads (λ st m k at. inl (at ∙ c.bucket_cell.ensures)),
    )

pub returns-in_default-clause-ok : goal.returns-in_default-clause-ok
returns-in_default-clause-ok g c =
    let old = g.C.Cells.sight c.args.cells.now in
    let new = g.C.Cells.sight c.loop.cells in
    let slots = c.slot_count-slots.result in
    let inv = c.loop.invariant in
    let own = c.args.own.now in
    let label = c.args.label.now in
    let none : (i : ℕ) → i < slots → c.loop.word ≡ i + 1 → ⊥ = c.in_default.ensures in
    clear_in new own label slots c.args.chain (c.slot_count-slots.ensures.value ∙ sym (same_slots old new inv.0))
    (λ st lib v. ahead_at_end slots (IsInTheWayIn c.args.chain own label) c.loop.word c.loop.counter _ (inv.1 st lib v) none)

pub returns-in_err-met-clause-looks : goal.returns-in_err-met-clause-looks
returns-in_err-met-clause-looks g c = looks_trans _ _ _ c.loop.invariant.0 c.availability_at.ensures.looks

pub returns-in_default-met : goal.returns-in_default-met
returns-in_default-met g c =
    let s = g.C.Cells.sight c.availability_at.new.cells in
    record {
      looks = looks_trans _ _ _ c.loop.invariant.0 c.availability_at.ensures.looks;
      ok = told_at s c.args.own.now c.args.label.now c.args.chain c.in-Some.slot c.in_ok-met.met c.in_default-met.not-Free
          c.in_ok-met.ensures.ok;
      halts = tt;
      reads = subst (λ (n : ℕ). ReadsWhere (IsAlong n c.args.chain) (g.C.Cells.sight c.args.cells.now)
          (g.C.Cells.sight c.availability_at.new.cells))
          c.slot_count-slots.ensures.value
          (along_name c.in-Some.slot c.loop.invariant.3 c.loop.invariant.0 c.loop.invariant.2 c.in-Some.ensures
          c.availability_at.ensures.looks.onward
          c.availability_at.ensures.reads);
    }

pub returns-in_err-word-2-clause-looks : goal.returns-in_err-word-2-clause-looks
returns-in_err-word-2-clause-looks g c =
    looks_trans _ _ _ (looks_trans _ _ _ c.loop.invariant.0 c.availability_at.ensures.looks) c.in_err-word-2.ensures.err

pub loop-preserved : goal.loop-preserved
loop-preserved g c =
    let old = g.C.Cells.sight c.args.cells.now in
    let between = g.C.Cells.sight c.availability_at.new.cells in
    let new = g.C.Cells.sight c.read-in-loop.new.self in
    let slots = c.slot_count-slots.result in
    let slot = c.in-Some.slot in
    let own = c.args.own.now in
    let label = c.args.label.now in
    let looks = looks_trans _ _ _ c.loop.invariant.0 c.availability_at.ensures.looks in
    let read : Reads (next_cell slots slot) c.in_ok-word-2.word between new = search rules in
    let link : (slot < slots) × (c.loop.word ≡ slot + 1) = c.in-Some.ensures in
    let is : slots ≡ between.setting.slots = c.slot_count-slots.ensures.value ∙ sym (same_slots old between looks) in
    let free : TellsAvailabilityAt between c.in-Some.slot c.args.own.now c.args.label.now Free =
    subst (TellsAvailabilityAt between c.in-Some.slot c.args.own.now c.args.label.now) c.in-Free.is c.in_ok-met.ensures.ok in (
      looks_trans _ _ _ looks read.looks,
      walk_on _ between new slots (IsInTheWayIn c.args.chain own label) c.loop.word c.loop.counter slot c.in_ok-word-2.word is
          c.availability_at.ensures.looks
          read c.loop.invariant.1 link.1
          (λ st m here. free st m here.0 here.1 here.3),
      leads_next slot c.loop.invariant.2 c.availability_at.ensures.looks read c.in-Some.ensures,
      along_next slot (along_name c.in-Some.slot c.loop.invariant.3 c.loop.invariant.0 c.loop.invariant.2 c.in-Some.ensures
          c.availability_at.ensures.looks.onward
          c.availability_at.ensures.reads) c.loop.invariant.0 c.loop.invariant.2 c.in-Some.ensures
          c.availability_at.ensures.looks.onward read.looks.onward c.next_cell.ensures c.read-in-loop.ensures.reads,
    )

pub returns-clause-ok : goal.returns-clause-ok
returns-clause-ok g c =
    let old = g.C.Cells.sight c.args.cells.now in
    let new = g.C.Cells.sight c.loop.cells in
    let slots = c.slot_count-slots.result in
    let inv = c.loop.invariant in
    let own = c.args.own.now in
    let label = c.args.label.now in
    let last : c.loop.counter ≡ slots = search rules in
    clear_in new own label slots c.args.chain (c.slot_count-slots.ensures.value ∙ sym (same_slots old new inv.0))
    (λ st lib v. ahead_at_last slots (IsInTheWayIn c.args.chain own label) c.loop.word c.loop.counter _ (inv.1 st lib v) last)

pub returns-in_err-word-clause-reads : goal.returns-in_err-word-clause-reads
returns-in_err-word-clause-reads g c =
    subst (λ (n : ℕ). ReadsWhere (IsAlong n c.args.chain) (g.C.Cells.sight c.args.cells.now) (g.C.Cells.sight c.read.new.self))
    c.slot_count-slots.ensures.value
    (where_more (where_same _) c.in_err-word.ensures.err.onward c.read.ensures.reads (λ st m k at. inl (at ∙ c.bucket_cell.ensures)))

pub returns-in_default-clause-reads : goal.returns-in_default-clause-reads
returns-in_default-clause-reads g c =
    subst (λ (n : ℕ). ReadsWhere (IsAlong n c.args.chain) (g.C.Cells.sight c.args.cells.now) (g.C.Cells.sight c.loop.cells))
    c.slot_count-slots.ensures.value c.loop.invariant.3

pub returns-in_err-met-clause-reads : goal.returns-in_err-met-clause-reads
returns-in_err-met-clause-reads g c =
    subst (λ (n : ℕ). ReadsWhere (IsAlong n c.args.chain) (g.C.Cells.sight c.args.cells.now) (g.C.Cells.sight c.availability_at.new.cells))
    c.slot_count-slots.ensures.value
    (along_name c.in-Some.slot c.loop.invariant.3 c.loop.invariant.0 c.loop.invariant.2 c.in-Some.ensures
    c.availability_at.ensures.looks.onward c.availability_at.ensures.reads)

pub returns-in_err-word-2-clause-reads : goal.returns-in_err-word-2-clause-reads
returns-in_err-word-2-clause-reads g c =
    subst (λ (n : ℕ). ReadsWhere (IsAlong n c.args.chain) (g.C.Cells.sight c.args.cells.now) (g.C.Cells.sight c.read-in-loop.new.self))
    c.slot_count-slots.ensures.value
    (along_next c.in-Some.slot (along_name c.in-Some.slot c.loop.invariant.3 c.loop.invariant.0 c.loop.invariant.2 c.in-Some.ensures
    c.availability_at.ensures.looks.onward
    c.availability_at.ensures.reads) c.loop.invariant.0 c.loop.invariant.2 c.in-Some.ensures
    c.availability_at.ensures.looks.onward c.in_err-word-2.ensures.err.onward c.next_cell.ensures c.read-in-loop.ensures.reads)

pub returns-clause-reads : goal.returns-clause-reads
returns-clause-reads g c =
    subst (λ (n : ℕ). ReadsWhere (IsAlong n c.args.chain) (g.C.Cells.sight c.args.cells.now) (g.C.Cells.sight c.loop.cells))
    c.slot_count-slots.ensures.value c.loop.invariant.3
