use Rattle.std.proofs.Common.{◌≡◌, ℕ, ap, sym, subst, ◌∙◌, inl, inr}
use Rattle.std.proofs.lemmas.Result.{IfOk-weaker}
use Rattle.mmsyntax.specs.Dotted.{trunk}
use Rattle.mmsyntax.proofs.Names.{same_bytes}
use Rattle.cells.specs.Slots.{bucket, hash}
use Rattle.cells.specs.Lookups.{TellsAvailability}
use Rattle.cells.specs.Clashing.{TellsAvailabilityIn}
use Rattle.cells.specs.declared.labels.Availability.TheVariants.{Free}
use Rattle.cells.proofs.Sights.{looks_trans}
use Rattle.cells.proofs.Settings.{same_slots}
use Rattle.cells.proofs.Clashing.{differs, told_in, told_last, clear_later, all_clear, plain_clear, ReadsForStanding, first_walked, below_walked, last_walked}
use Rattle.cells.proofs.labels.availability_of.Goals.{then-eq-2-via-then-eq-2, then-eq-2-via-else-eq-2+then-last-first}
use Rattle.cells.proofs.labels.availability_of.Goals as goal

pub returns-in_err-met-clause-reads : goal.returns-in_err-met-clause-reads
returns-in_err-met-clause-reads g c =
    let old = g.C.Cells.sight c.args.cells.now in
    let s = g.C.Cells.sight c.availability_in.new.cells in
    let label = c.args.label.now in
    first_walked old c.args.own.now label s c.bucket-first.result c.availability_in.ensures.looks
    (c.bucket-first.ensures.value ∙ ap (λ (n : ℕ). bucket n label) c.slot_count-slots.ensures.value) c.availability_in.ensures.reads

pub returns-in_default : goal.returns-in_default
returns-in_default g c =
    let old = g.C.Cells.sight c.args.cells.now in
    let s = g.C.Cells.sight c.availability_in.new.cells in
    let own = c.args.own.now in
    let label = c.args.label.now in
    record {
      looks = c.availability_in.ensures.looks;
      ok = told_in s own label c.bucket-first.result c.in_ok-met.met c.in_default.not-Free c.in_ok-met.ensures.ok;
      halts = tt;
      reads = first_walked old own label s c.bucket-first.result c.availability_in.ensures.looks
          (c.bucket-first.ensures.value ∙ ap (λ (n : ℕ). bucket n label) c.slot_count-slots.ensures.value) c.availability_in.ensures.reads;
    }

pub returns-then-eq-clause-ok : goal.returns-then-eq-clause-ok
returns-then-eq-clause-ok g c =
    let old = g.C.Cells.sight c.args.cells.now in
    let s = g.C.Cells.sight c.availability_in.new.cells in
    let own = c.args.own.now in
    let label = c.args.label.now in
    let whole : trunk label ≡ label = sym c.trunk-front.ensures
    ∙ same_bytes c.trunk-front.result.now label (sym c.eq.ensures ∙ c.if-eq.true) in
    let is : c.bucket-first.result ≡ bucket s.setting.slots label =
    c.bucket-first.ensures.value
    ∙ ap (λ (n : ℕ). bucket n label) (c.slot_count-slots.ensures.value ∙ sym (same_slots old s c.availability_in.ensures.looks)) in
    let clear : TellsAvailabilityIn s c.bucket-first.result c.args.own.now c.args.label.now Free =
    subst (TellsAvailabilityIn s c.bucket-first.result c.args.own.now c.args.label.now) c.in-Free.is c.in_ok-met.ensures.ok in
    subst (TellsAvailability s own label) (sym c.in-Free.is)
    (plain_clear s own label whole (subst (λ (b : ℕ). TellsAvailabilityIn s b own label Free) is clear))

pub returns-then-eq-clause-reads : goal.returns-then-eq-clause-reads
returns-then-eq-clause-reads g c =
    let old = g.C.Cells.sight c.args.cells.now in
    let s = g.C.Cells.sight c.availability_in.new.cells in
    let label = c.args.label.now in
    first_walked old c.args.own.now label s c.bucket-first.result c.availability_in.ensures.looks
    (c.bucket-first.ensures.value ∙ ap (λ (n : ℕ). bucket n label) c.slot_count-slots.ensures.value) c.availability_in.ensures.reads

pub returns-in_err-met-2-clause-looks : goal.returns-in_err-met-2-clause-looks
returns-in_err-met-2-clause-looks g c = looks_trans _ _ _ c.availability_in.ensures.looks c.availability_in-2.ensures.looks

pub returns-in_err-met-2-clause-reads : goal.returns-in_err-met-2-clause-reads
returns-in_err-met-2-clause-reads g c =
    let old = g.C.Cells.sight c.args.cells.now in
    let r = g.C.Cells.sight c.availability_in.new.cells in
    let s = g.C.Cells.sight c.availability_in-2.new.cells in
    let own = c.args.own.now in
    let label = c.args.label.now in
    let slots = c.slot_count-slots.ensures.value in
    let first : ReadsForStanding old own label r = first_walked old own label r c.bucket-first.result c.availability_in.ensures.looks
    (c.bucket-first.ensures.value ∙ ap (λ (n : ℕ). bucket n label) slots) c.availability_in.ensures.reads in
    below_walked old own label r s c.hash.result c.availability_in.ensures.looks c.availability_in-2.ensures.looks first
    c.availability_in-2.ensures.reads
    (c.hash.ensures.value ∙ ap (λ (n : ℕ). hash n label) slots)

pub returns-in_default-met : goal.returns-in_default-met
returns-in_default-met g c =
    let old = g.C.Cells.sight c.args.cells.now in
    let r = g.C.Cells.sight c.availability_in.new.cells in
    let s = g.C.Cells.sight c.availability_in-2.new.cells in
    let own = c.args.own.now in
    let label = c.args.label.now in
    let slots = c.slot_count-slots.ensures.value in
    let first : ReadsForStanding old own label r = first_walked old own label r c.bucket-first.result c.availability_in.ensures.looks
    (c.bucket-first.ensures.value ∙ ap (λ (n : ℕ). bucket n label) slots) c.availability_in.ensures.reads in
    record {
      looks = looks_trans _ _ _ c.availability_in.ensures.looks c.availability_in-2.ensures.looks;
      ok = told_in s own label c.hash.result c.in_ok-met-2.met c.in_default-met.not-Free c.in_ok-met-2.ensures.ok;
      halts = tt;
      reads = below_walked old own label r s c.hash.result c.availability_in.ensures.looks c.availability_in-2.ensures.looks first
          c.availability_in-2.ensures.reads (c.hash.ensures.value ∙ ap (λ (n : ℕ). hash n label) slots);
    }

pub returns-then-eq-2-clause-looks : goal.returns-then-eq-2-clause-looks
returns-then-eq-2-clause-looks g c = looks_trans _ _ _ c.availability_in.ensures.looks c.availability_in-2.ensures.looks

pub returns-then-eq-2-clause-ok : goal.returns-then-eq-2-clause-ok
returns-then-eq-2-clause-ok g c =
    let old = g.C.Cells.sight c.args.cells.now in
    let r = g.C.Cells.sight c.availability_in.new.cells in
    let s = g.C.Cells.sight c.availability_in-2.new.cells in
    let own = c.args.own.now in
    let label = c.args.label.now in
    let front : c.trunk-front.result.now ≡ trunk label = c.trunk-front.ensures in
    let slots = c.slot_count-slots.ensures.value
    ∙ sym (same_slots old s (looks_trans _ _ _ c.availability_in.ensures.looks c.availability_in-2.ensures.looks)) in
    let first_is : c.bucket-first.result ≡ bucket s.setting.slots label =
    c.bucket-first.ensures.value ∙ ap (λ (n : ℕ). bucket n label) slots in
    let last_is : c.bucket-last.result ≡ bucket s.setting.slots (trunk label) =
    c.bucket-last.ensures.value ∙ ap (λ (n : ℕ). bucket n c.trunk-front.result.now) slots ∙ ap (bucket s.setting.slots) front in
    let clear : TellsAvailabilityIn r c.bucket-first.result c.args.own.now c.args.label.now Free =
    subst (TellsAvailabilityIn r c.bucket-first.result c.args.own.now c.args.label.now) c.in-Free.is c.in_ok-met.ensures.ok in
    let later = clear_later r s c.bucket-first.result own label c.availability_in-2.ensures.looks clear in
    let below : TellsAvailabilityIn s c.hash.result c.args.own.now c.args.label.now Free =
    subst (TellsAvailabilityIn s c.hash.result c.args.own.now c.args.label.now) c.in-Free-met.is c.in_ok-met-2.ensures.ok in
    let whole = all_clear s own label (subst (λ (b : ℕ). TellsAvailabilityIn s b own label Free) first_is later)
    (subst (λ (b : ℕ). TellsAvailabilityIn s b own label Free) (c.hash.ensures.value ∙ ap (λ (n : ℕ). hash n label) slots) below) in
    subst (TellsAvailability s own label) (sym c.in-Free-met.is)
    (elim c.then-eq-2.branch [
      | then-eq-2-via-then-eq-2 w ↦ whole (inl (sym front ∙ same_bytes c.trunk-front.result.now own (sym c.eq-2.ensures ∙ w.if-eq-2.true)))
      | then-eq-2-via-else-eq-2+then-last-first w ↦
          whole (inr (subst (λ (b : ℕ). TellsAvailabilityIn s b own label Free) (sym w.if-last-first.true ∙ last_is) later))
    ])

pub returns-then-eq-2-clause-reads : goal.returns-then-eq-2-clause-reads
returns-then-eq-2-clause-reads g c =
    let old = g.C.Cells.sight c.args.cells.now in
    let r = g.C.Cells.sight c.availability_in.new.cells in
    let s = g.C.Cells.sight c.availability_in-2.new.cells in
    let own = c.args.own.now in
    let label = c.args.label.now in
    let slots = c.slot_count-slots.ensures.value in
    let first : ReadsForStanding old own label r = first_walked old own label r c.bucket-first.result c.availability_in.ensures.looks
    (c.bucket-first.ensures.value ∙ ap (λ (n : ℕ). bucket n label) slots) c.availability_in.ensures.reads in
    below_walked old own label r s c.hash.result c.availability_in.ensures.looks c.availability_in-2.ensures.looks first
    c.availability_in-2.ensures.reads
    (c.hash.ensures.value ∙ ap (λ (n : ℕ). hash n label) slots)

pub returns-clause-looks : goal.returns-clause-looks
returns-clause-looks g c =
    looks_trans _ _ _ (looks_trans _ _ _ c.availability_in.ensures.looks c.availability_in-2.ensures.looks)
    c.availability_in-3.ensures.looks

pub returns-clause-ok : goal.returns-clause-ok
returns-clause-ok g c =
    let old = g.C.Cells.sight c.args.cells.now in
    let q = g.C.Cells.sight c.availability_in.new.cells in
    let r = g.C.Cells.sight c.availability_in-2.new.cells in
    let s = g.C.Cells.sight c.availability_in-3.new.cells in
    let own = c.args.own.now in
    let label = c.args.label.now in
    let front : c.trunk-front.result.now ≡ trunk label = c.trunk-front.ensures in
    let looks = looks_trans _ _ _ c.availability_in-2.ensures.looks c.availability_in-3.ensures.looks in
    let slots = c.slot_count-slots.ensures.value ∙ sym (same_slots old s (looks_trans _ _ _ c.availability_in.ensures.looks looks)) in
    let first_is : c.bucket-first.result ≡ bucket s.setting.slots label =
    c.bucket-first.ensures.value ∙ ap (λ (n : ℕ). bucket n label) slots in
    let last_is : c.bucket-last.result ≡ bucket s.setting.slots (trunk label) =
    c.bucket-last.ensures.value ∙ ap (λ (n : ℕ). bucket n c.trunk-front.result.now) slots ∙ ap (bucket s.setting.slots) front in
    let clear : TellsAvailabilityIn q c.bucket-first.result c.args.own.now c.args.label.now Free =
    subst (TellsAvailabilityIn q c.bucket-first.result c.args.own.now c.args.label.now) c.in-Free.is c.in_ok-met.ensures.ok in
    let below : TellsAvailabilityIn r c.hash.result c.args.own.now c.args.label.now Free =
    subst (TellsAvailabilityIn r c.hash.result c.args.own.now c.args.label.now) c.in-Free-met.is c.in_ok-met-2.ensures.ok in
    let whole = all_clear s own label
    (subst (λ (b : ℕ). TellsAvailabilityIn s b own label Free) first_is (clear_later q s c.bucket-first.result own label looks clear))
    (subst (λ (b : ℕ). TellsAvailabilityIn s b own label Free) (c.hash.ensures.value ∙ ap (λ (n : ℕ). hash n label) slots)
    (clear_later r s c.hash.result own label c.availability_in-3.ensures.looks below)) in
    IfOk-weaker c.availability_in-3.result (TellsAvailabilityIn s c.bucket-last.result own label) (TellsAvailability s own label)
    (λ met told. told_last s own label c.bucket-last.result met
    (λ last. whole (inr (subst (λ (b : ℕ). TellsAvailabilityIn s b own label Free) last_is last))) told) c.availability_in-3.ensures.ok

pub returns-clause-reads : goal.returns-clause-reads
returns-clause-reads g c =
    let old = g.C.Cells.sight c.args.cells.now in
    let q = g.C.Cells.sight c.availability_in.new.cells in
    let r = g.C.Cells.sight c.availability_in-2.new.cells in
    let s = g.C.Cells.sight c.availability_in-3.new.cells in
    let own = c.args.own.now in
    let label = c.args.label.now in
    let slots = c.slot_count-slots.ensures.value in
    let front : c.trunk-front.result.now ≡ trunk label = c.trunk-front.ensures in
    let part = differs c.trunk-front.result.now label (sym c.eq.ensures ∙ c.if-eq.false) in
    let other = differs c.trunk-front.result.now own (sym c.eq-2.ensures ∙ c.if-eq-2.false) in
    let first : ReadsForStanding old own label q = first_walked old own label q c.bucket-first.result c.availability_in.ensures.looks
    (c.bucket-first.ensures.value ∙ ap (λ (n : ℕ). bucket n label) slots) c.availability_in.ensures.reads in
    let then : ReadsForStanding old own label r =
    below_walked old own label q r c.hash.result c.availability_in.ensures.looks c.availability_in-2.ensures.looks first
    c.availability_in-2.ensures.reads
    (c.hash.ensures.value ∙ ap (λ (n : ℕ). hash n label) slots) in
    last_walked old own label r s c.bucket-last.result (looks_trans _ _ _ c.availability_in.ensures.looks c.availability_in-2.ensures.looks)
    c.availability_in-3.ensures.looks then c.availability_in-3.ensures.reads (λ e. part (front ∙ e)) (λ e. other (front ∙ e))
    (c.bucket-last.ensures.value ∙ ap (λ (n : ℕ). bucket n c.trunk-front.result.now) slots ∙ ap (bucket old.setting.slots) front)
