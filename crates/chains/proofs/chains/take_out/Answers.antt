use Rattle.std.proofs.Common.{◌≡◌, ◌<◌, ◌+◌, ℕ, List, sym, ap, subst, ◌∙◌, inl, inr, arith, refl}
use Rattle.library.specs.Library.{label_of}
use Rattle.cells.specs.Slots.{bucket, bucket_cell, next_cell}
use Rattle.cells.specs.State.{State}
use Rattle.cells.specs.Sight.{WasRead, after}
use Rattle.cells.proofs.Sights.{onward_trans, writes_onward, looks_trans, matches_back, after_looks}
use Rattle.cells.specs.Aside.{IsOfLeaving}
use Rattle.cells.proofs.Keeping.{keeps_same, keeps_trans, keeps_wider, keeps_written}
use Rattle.cells.specs.Footprints.{IsOnChain}
use Rattle.cells.proofs.Asking.{nothing_trans, nothing_written}
use Rattle.cells.proofs.Along.{where_same, where_more, where_still}
use Rattle.cells.proofs.AskingSteps.{member_of}
use Rattle.cells.proofs.Linking.{bucket_within, has_bucket}
use Rattle.chains.proofs.Unlinking.{leading}
use Rattle.chains.proofs.Walking.{Walks, walk_begins, walk_goes, walk_found, walk_on, walk_ends, taken_out}
use Rattle.chains.proofs.chains.take_out.Goals as goal

pub loop-init : goal.loop-init
loop-init g c =
    let old = g.C.Cells.sight c.args.cells.now in
    let slots = (g.C.Cells.sight c.args.cells.now).setting.slots in
    let slots_are = c.slot_count-slots.ensures.value in
    let link : c.next_cell.result ≡ next_cell old.setting.slots c.args.slot = omega (arith, c.next_cell.ensures, slots_are) in
    let front : c.bucket_cell-before.result ≡ bucket_cell old.setting.slots (bucket old.setting.slots c.args.label.now) =
    c.bucket_cell-before.ensures ∙ (omega
    (arith, slots_are, c.bucket.ensures.value, ap (λ (n : ℕ). bucket n c.args.label.now) slots_are)) in
    record {
      looks = c.in_ok-next.ensures.ok.looks;
      reads = where_more (where_same old) c.in_ok-next.ensures.ok.looks.onward c.read.ensures.reads (λ st m k is. inl (is ∙ link));
      stands = λ st m. inl front;
      low = omega (arith, c.bucket_cell-before.ensures, slots_are);
      high = omega (arith, c.bucket_cell-before.ensures, slots_are, c.bucket.ensures.within);
      read = subst (WasRead (g.C.Cells.sight c.read.new.self)) link c.in_ok-next.ensures.ok.read;
      next = λ st m. c.in_ok-next.ensures.ok.value st m ∙ ap (after (g.C.Cells.sight c.read.new.self) st).value link;
      walks = λ st held e m chained distinct has label_is lt few.
          let to = leading old.setting.slots c.args.slot (bucket_cell old.setting.slots (bucket old.setting.slots (label_of e)))
          (chained (bucket old.setting.slots (label_of e)) lt).chain in
          subst (λ (n : ℕ). Walks old.setting.slots c.args.slot (after old st) to n 0)
          (sym (front ∙ ap (λ (l : List ℕ). bucket_cell old.setting.slots (bucket old.setting.slots l)) (sym label_is)))
          (walk_begins old.setting.slots c.args.slot (after old st) to held (bucket old.setting.slots (label_of e)) lt chained
          (has_bucket old.setting.slots held (record { slot = c.args.slot; entry = e }) has) few refl);
    }

pub returns-in_err-word-clause-onward : goal.returns-in_err-word-clause-onward
returns-in_err-word-clause-onward g c = onward_trans _ _ _ c.loop.invariant.looks.onward c.in_err-word.ensures.err.onward

pub returns-in_default-clause-onward : goal.returns-in_default-clause-onward
returns-in_default-clause-onward g c = onward_trans _ _ _ c.loop.invariant.looks.onward c.in_ok-word.ensures.ok.looks.onward

pub returns-in_default-clause-ok : goal.returns-in_default-clause-ok
returns-in_default-clause-ok g c st held e m chained distinct has label_is few =
    let old = g.C.Cells.sight c.args.cells.now in
    let slots_are = c.slot_count-slots.ensures.value in
    let lt = bucket_within old.setting.slots (label_of e) (omega (arith, slots_are, c.slot_count-slots.ensures.some)) in
    let read = c.in_ok-word.ensures.ok in
    let both = looks_trans _ _ _ c.loop.invariant.looks read.looks in
    let word_is = read.value st m ∙ ap (λ (x : State). x.value c.loop.before) (after_looks _ _ st both) in
    let nowhere = c.in_default.ensures in
    absurd (walk_goes old.setting.slots c.args.slot (after old st) _ c.loop.before c.loop.counter
    (c.loop.invariant.walks st held e (matches_back _ _ st read.looks.onward m) chained distinct has label_is lt few)
    (λ i within z. nowhere i (subst (λ (n : ℕ). i < n) (sym slots_are) within) (word_is ∙ z)))

pub write-requires-then-member-slot-clause-read : goal.write-requires-then-member-slot-clause-read
write-requires-then-member-slot-clause-read g c =
    let old = g.C.Cells.sight c.args.cells.now in
    let link : next_cell old.setting.slots c.args.slot ≡ c.next_cell-then-member-slot.result =
    omega (arith, c.next_cell-then-member-slot.ensures, c.slot_count-slots.ensures.value) in
    (writes_onward _ _ _ _ c.write.ensures).read _
    (c.in_ok-word.ensures.ok.looks.onward.read _ (subst (WasRead (g.C.Cells.sight c.loop.cells)) link c.loop.invariant.read))

pub returns-then-member-slot-clause-onward : goal.returns-then-member-slot-clause-onward
returns-then-member-slot-clause-onward g c =
    onward_trans _ _ _ (looks_trans _ _ _ c.loop.invariant.looks c.in_ok-word.ensures.ok.looks).onward
    (onward_trans _ _ _ (writes_onward _ _ _ _ c.write.ensures) (writes_onward _ _ _ _ c.write-then-member-slot.ensures))

pub returns-then-member-slot-clause-ok : goal.returns-then-member-slot-clause-ok
returns-then-member-slot-clause-ok g c st held e m chained distinct has label_is few =
    let old = g.C.Cells.sight c.args.cells.now in
    let slots_are = c.slot_count-slots.ensures.value in
    let b = bucket old.setting.slots (label_of e) in
    let lt = bucket_within old.setting.slots (label_of e) (omega (arith, slots_are, c.slot_count-slots.ensures.some)) in
    let read = c.in_ok-word.ensures.ok in
    let both = looks_trans _ _ _ c.loop.invariant.looks read.looks in
    let m1 = matches_back _ _ st (onward_trans _ _ _ (writes_onward _ _ _ _ c.write.ensures)
    (writes_onward _ _ _ _ c.write-then-member-slot.ensures)) m in
    let m0 = matches_back _ _ st read.looks.onward m1 in
    let word_is = sym (read.value st m1 ∙ ap (λ (x : State). x.value c.loop.before) (after_looks _ _ st both)) in
    let found = c.in-Some.ensures.1 in
    let own = c.if-member-slot.true in
    let link : c.next_cell-then-member-slot.result ≡ next_cell old.setting.slots c.args.slot =
    omega (arith, c.next_cell-then-member-slot.ensures, slots_are) in
    taken_out old _ _ _ st c.loop.before c.next_cell-then-member-slot.result c.in_ok-next.next c.args.slot held e b
    (after_looks _ _ st both) c.write.ensures
    c.write-then-member-slot.ensures link
    (c.loop.invariant.next st m0 ∙ ap (λ (x : State). x.value (next_cell old.setting.slots c.args.slot))
    (after_looks _ _ st c.loop.invariant.looks)
    ∙ ap (after old st).value (sym link))
    lt chained distinct (has_bucket old.setting.slots held (record { slot = c.args.slot; entry = e }) has)
    (walk_found old.setting.slots c.args.slot (after old st) _ c.loop.before c.loop.counter
    (c.loop.invariant.walks st held e m0 chained distinct has label_is lt few) (omega (arith, word_is, found, own)))

pub loop-preserved : goal.loop-preserved
loop-preserved g c =
    let old = g.C.Cells.sight c.args.cells.now in
    let slots_are = c.slot_count-slots.ensures.value in
    let read = c.in_ok-word.ensures.ok in
    let both = looks_trans _ _ _ c.loop.invariant.looks read.looks in
    let found = c.in-Some.ensures in
    let link : c.next_cell-before.result ≡ next_cell old.setting.slots c.in-Some.member =
    omega (arith, c.next_cell-before.ensures, slots_are) in
    record {
      looks = both;
      reads = where_more c.loop.invariant.reads read.looks.onward c.read-in-loop.ensures.reads
          (λ st m k is. inr (subst (λ (n : ℕ). IsOnChain old.setting.slots (bucket old.setting.slots c.args.label.now) (after old st) n)
          (sym is)
          (c.loop.invariant.stands st m)));
      stands = λ st m.
          let word_is = sym (read.value st m ∙ ap (λ (x : State). x.value c.loop.before) (after_looks _ _ st both)) in
          inr (
            c.in-Some.member,
            member_of old.setting.slots (bucket old.setting.slots c.args.label.now) c.loop.before c.in-Some.member (after old st)
                (c.loop.invariant.stands st (matches_back _ _ st read.looks.onward m))
                (subst (λ (n : ℕ). c.in-Some.member < n) slots_are found.0)
                (word_is ∙ found.1),
            link,
          );
      low = omega (arith, link);
      high = omega (arith, link, found.0, slots_are);
      read = read.looks.onward.read _ c.loop.invariant.read;
      next = λ st m. c.loop.invariant.next st (matches_back _ _ st read.looks.onward m)
          ∙ ap (λ (x : State). x.value (next_cell old.setting.slots c.args.slot)) (sym (after_looks _ _ st read.looks));
      walks = λ st held e m chained distinct has label_is lt few.
          let to = leading old.setting.slots c.args.slot (bucket_cell old.setting.slots (bucket old.setting.slots (label_of e)))
          (chained (bucket old.setting.slots (label_of e)) lt).chain in
          let word_is = sym (read.value st m ∙ ap (λ (x : State). x.value c.loop.before) (after_looks _ _ st both)) in
          subst (λ (n : ℕ). Walks old.setting.slots c.args.slot (after old st) to n (c.loop.counter + 1)) (sym link)
          (walk_on old.setting.slots c.args.slot (after old st) to c.loop.before c.loop.counter c.in-Some.member
          (c.loop.invariant.walks st held e (matches_back _ _ st read.looks.onward m) chained distinct has label_is lt few)
          (word_is ∙ found.1) c.if-member-slot.false);
    }

pub returns-clause-ok : goal.returns-clause-ok
returns-clause-ok g c st held e m chained distinct has label_is few =
    let old = g.C.Cells.sight c.args.cells.now in
    let slots_are = c.slot_count-slots.ensures.value in
    let lt = bucket_within old.setting.slots (label_of e) (omega (arith, slots_are, c.slot_count-slots.ensures.some)) in
    absurd (walk_ends old.setting.slots c.args.slot (after old st) _ c.loop.before c.loop.counter
    (c.loop.invariant.walks st held e m chained distinct has label_is lt few) (omega arith))

pub returns-in_default-clause-keeps : goal.returns-in_default-clause-keeps
returns-in_default-clause-keeps g c st m =
    let old = g.C.Cells.sight c.args.cells.now in
    keeps_same (IsOfLeaving old.setting.slots (after old st) c.args.slot) old (g.C.Cells.sight c.read-in-loop.new.self)
    (c.in_ok-word.ensures.ok.looks.writes ∙ c.loop.invariant.looks.writes)

pub returns-then-member-slot-clause-keeps : goal.returns-then-member-slot-clause-keeps
returns-then-member-slot-clause-keeps g c st m =
    let old = g.C.Cells.sight c.args.cells.now in
    let now = g.C.Cells.sight c.read-in-loop.new.self in
    let mid = g.C.Cells.sight c.write.new.self in
    let new = g.C.Cells.sight c.write-then-member-slot.new.self in
    let such = IsOfLeaving old.setting.slots (after old st) c.args.slot in
    let slots_are = c.slot_count-slots.ensures.value in
    let read = c.in_ok-word.ensures.ok in
    let both = looks_trans _ _ _ c.loop.invariant.looks read.looks in
    let m1 = matches_back _ _ st (onward_trans _ _ _ (writes_onward _ _ _ _ c.write.ensures)
    (writes_onward _ _ _ _ c.write-then-member-slot.ensures)) m in
    let word_is = sym (read.value st m1 ∙ ap (λ (x : State). x.value c.loop.before) (after_looks _ _ st both)) in
    let found = c.in-Some.ensures.1 in
    let own = c.if-member-slot.true in
    let leads : (after old st).value c.loop.before ≡ c.args.slot + 1 = omega (arith, word_is, found, own) in
    let link : c.next_cell-then-member-slot.result ≡ next_cell old.setting.slots c.args.slot =
    omega (arith, c.next_cell-then-member-slot.ensures, slots_are) in
    keeps_trans such old mid new
    (keeps_trans such old now mid (keeps_same such old now both.writes)
    (keeps_wider (λ k. k ≡ c.loop.before) such now mid
    (λ k is. inl (omega (arith, c.loop.invariant.low, is), ap (after old st).value is ∙ leads))
    (keeps_written _ _ now mid c.write.ensures)))
    (keeps_wider (λ k. k ≡ c.next_cell-then-member-slot.result) such mid new (λ k is. inr (is ∙ link))
    (keeps_written _ _ mid new c.write-then-member-slot.ensures))

pub returns-clause-keeps : goal.returns-clause-keeps
returns-clause-keeps g c st m =
    let old = g.C.Cells.sight c.args.cells.now in
    keeps_same (IsOfLeaving old.setting.slots (after old st) c.args.slot) old (g.C.Cells.sight c.loop.cells) c.loop.invariant.looks.writes

pub returns-in_err-next-clause-reads : goal.returns-in_err-next-clause-reads
returns-in_err-next-clause-reads g c =
    let old = g.C.Cells.sight c.args.cells.now in
    where_more (where_same old) c.in_err-next.ensures.err.onward c.read.ensures.reads
    (λ st m k is. inl (omega (arith, is, c.next_cell.ensures, c.slot_count-slots.ensures.value)))

pub returns-in_err-word-clause-reads : goal.returns-in_err-word-clause-reads
returns-in_err-word-clause-reads g c =
    let old = g.C.Cells.sight c.args.cells.now in
    where_more c.loop.invariant.reads c.in_err-word.ensures.err.onward c.read-in-loop.ensures.reads
    (λ st m k is. inr (subst (λ (n : ℕ). IsOnChain old.setting.slots (bucket old.setting.slots c.args.label.now) (after old st) n) (sym is)
    (c.loop.invariant.stands st m)))

pub returns-in_default-clause-reads : goal.returns-in_default-clause-reads
returns-in_default-clause-reads g c =
    let old = g.C.Cells.sight c.args.cells.now in
    where_more c.loop.invariant.reads c.in_ok-word.ensures.ok.looks.onward c.read-in-loop.ensures.reads
    (λ st m k is. inr (subst (λ (n : ℕ). IsOnChain old.setting.slots (bucket old.setting.slots c.args.label.now) (after old st) n) (sym is)
    (c.loop.invariant.stands st m)))

pub returns-then-member-slot-clause-reads : goal.returns-then-member-slot-clause-reads
returns-then-member-slot-clause-reads g c =
    let old = g.C.Cells.sight c.args.cells.now in
    where_still (where_more c.loop.invariant.reads c.in_ok-word.ensures.ok.looks.onward c.read-in-loop.ensures.reads
    (λ st m k is. inr (subst (λ (n : ℕ). IsOnChain old.setting.slots (bucket old.setting.slots c.args.label.now) (after old st) n) (sym is)
    (c.loop.invariant.stands st m))))
    (onward_trans _ _ _ (writes_onward _ _ _ _ c.write.ensures) (writes_onward _ _ _ _ c.write-then-member-slot.ensures))
    (nothing_trans (nothing_written c.write.ensures) (nothing_written c.write-then-member-slot.ensures))

pub returns-clause-reads : goal.returns-clause-reads
returns-clause-reads g c = c.loop.invariant.reads
