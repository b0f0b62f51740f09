use Rattle.std.proofs.Common.{◌≡◌, ◌<◌, ℕ, List, ◌∷◌, sym, subst, ◌∙◌, inl, inr, refl, arith}
use Rattle.std.proofs.lemmas.List.Sums.{count_by-le-length}
use Rattle.library.specs.declared.library.Ranked.{Ranked}
use Rattle.library.specs.Library.{Setting, label_of}
use Rattle.library.specs.Edits.{cites}
use Rattle.ranges.specs.Ranges.{Has}
use Rattle.cells.specs.State.{State}
use Rattle.cells.specs.Shows.{Held, slots_of, AreChained}
use Rattle.chains.specs.Chains.{Rechains}
use Rattle.cells.specs.Counts.{AreCitedSlots}
use Rattle.chains.specs.Filling.{MayFill, Fills}
use Rattle.cells.specs.Slots.{name_cell}
use Rattle.cells.specs.Aside.{KeepsAside, IsOfSlot, IsCitersOf, IsOfFront}
use Rattle.chains.specs.Filling.{IsOfFilling}
use Rattle.cells.proofs.Keeping.{keeps_trans, keeps_wider}
use Rattle.cells.proofs.Asking.{asks_wider, asks_more}
use Rattle.cells.specs.Sight.{Matches, Views, after}
use Rattle.cells.proofs.Sights.{onward_trans, matches_back, setting_kept}
use Rattle.ranges.proofs.Members.{all_from_has}
use Rattle.cells.proofs.Holding.{empty_free}
use Rattle.std.proofs.lemmas.Result.{MatchResult-weaker}
use Rattle.chains.proofs.Filled.{cited_few, still_chained, filled}
use Rattle.chains.proofs.filling.fill.Goals as goal

pub count_in-requires-clause-slots : goal.count_in-requires-clause-slots
count_in-requires-clause-slots g c =
    all_from_has (λ i. i < (g.C.Cells.sight c.lay_down.new.cells).setting.slots) c.as_slice.result.now (λ i h.
    subst (λ (s : Setting). i < s.slots) (sym (setting_kept c.lay_down.ensures.onward))
    (c.requires.fillable.within i (c.in_ok-cited.ensures.cited i (subst (Has i) c.as_slice.ensures.value h))))

pub returns-in_err-count_in-clause-onward : goal.returns-in_err-count_in-clause-onward
returns-in_err-count_in-clause-onward g c = onward_trans _ _ _ c.lay_down.ensures.onward c.count_in.ensures.onward

pub returns-clause-onward : goal.returns-clause-onward
returns-clause-onward g c =
    onward_trans _ _ _ c.lay_down.ensures.onward (onward_trans _ _ _ c.count_in.ensures.onward c.put_in.ensures.onward)

pub returns-clause-ok : goal.returns-clause-ok
returns-clause-ok g c =
    let old = g.C.Cells.sight c.args.cells.now in
    let s1 = g.C.Cells.sight c.lay_down.new.cells in
    let s2 = g.C.Cells.sight c.count_in.new.cells in
    let s3 = g.C.Cells.sight c.put_in.new.cells in
    let slots = (g.C.Cells.sight c.args.cells.now).setting.slots in
    let a = c.args.assertion.now in
    let steps = c.args.steps.now in
    let cited = c.as_slice.result.now in
    let counting = c.in_ok-count_in.ensures.ok in
    let setting = (setting_kept c.count_in.ensures.onward) ∙ (setting_kept c.lay_down.ensures.onward) in
    let cites_are = subst (AreCitedSlots c.args.steps.now) (sym c.as_slice.ensures.value) c.in_ok-cited.ensures in
    let then : (x : Unit {0}) → ((st : State) (held : List Held) (e : Ranked) → Matches s3 st
    → AreChained s2.setting.slots (after s2 st) held
    → label_of e ≡ c.as_slice-2.result.now → (Has c.args.slot (slots_of held) → ⊥)
    → Rechains s2.setting.slots (after s2 st) (after s3 st) held (record { slot = c.args.slot; entry = e } ∷ held))
    → (st : State) (lib : List Ranked) → Matches s3 st → (shown : Views old st lib)
    → MayFill old.setting.slots (after old st) lib c.args.slot c.args.assertion.now c.args.steps.now
    → Fills old.setting.slots (after s3 st) lib shown.shows.held c.args.slot c.args.rank c.args.assertion.now =
    λ x put st lib m views may.
    let m2 = matches_back s2 s3 st c.put_in.ensures.onward m in
    let m1 = matches_back s1 s2 st c.count_in.ensures.onward m2 in
    let lays = c.in_ok-lay_down.ensures.ok st m1 in
    let shows = views.shows in
    let store = views.matches.store in
    let few = views.verifies.setting.few in
    let room = views.verifies.library.room in
    let small = cited_few slots (after old st) (after s1 st) lib shows store c.args.slot c.args.rank a steps cited c.requires.slot lays
    cites_are may 4096
    (λ label. omega (arith, few, room, count_by-le-length (cites label) lib)) in
    let here : Held = record { slot = c.args.slot; entry = record { rank = c.args.rank; assertion = c.args.assertion.now } } in
    let counts = counting st m2 (λ i h. let n = small i h in omega (arith, n)) cites_are.apart in
    let chained = still_chained slots (after old st)
    (after s1 st) lib shows store c.args.slot c.args.rank a steps cited c.requires.slot lays
    cites_are (after s2 st) counts c.requires.fillable in
    let chains = put st shows.held (record { rank = c.args.rank; assertion = c.args.assertion.now }) m
    (subst (λ (s : Setting). AreChained s.slots (after s2 st) shows.held) (sym setting) chained) (sym c.as_slice-2.ensures)
    (empty_free slots (after old st) lib shows store c.args.slot may.empty) in
    filled slots (after old st) (after s1 st) lib shows store c.args.slot c.args.rank a steps cited c.requires.slot lays cites_are
    (after s2 st) counts c.requires.fillable (after s3 st) refl refl views.verifies.library.distinct may
    (subst (λ (s : Setting). Rechains s.slots (after s2 st) (after s3 st) shows.held (here ∷ shows.held)) setting chains) in
    MatchResult-weaker c.put_in.result c.put_in.ensures.ok then (λ _ t. t)

pub returns-clause-written : goal.returns-clause-written
returns-clause-written g c =
    let s2 = g.C.Cells.sight c.count_in.new.cells in
    let s3 = g.C.Cells.sight c.put_in.new.cells in
    let later = onward_trans _ _ _ c.count_in.ensures.onward c.put_in.ensures.onward in
    let done = later.written (name_cell c.args.slot) c.in_ok-lay_down.ensures.written in
    MatchResult-weaker c.put_in.result c.put_in.ensures.ok (λ x put. done) (λ _ t. t)

pub returns-clause-keeps : goal.returns-clause-keeps
returns-clause-keeps g c =
    let s0 = g.C.Cells.sight c.args.cells.now in
    let s1 = g.C.Cells.sight c.lay_down.new.cells in
    let s2 = g.C.Cells.sight c.count_in.new.cells in
    let s3 = g.C.Cells.sight c.put_in.new.cells in
    let i = c.args.slot in
    let label = c.args.assertion.now.label in
    let steps = c.args.steps.now in
    let cited = c.as_slice.result.now in
    let such = IsOfFilling s0.setting.slots c.args.slot c.args.assertion.now.label c.args.steps.now in
    let setting = (setting_kept c.count_in.ensures.onward) ∙ (setting_kept c.lay_down.ensures.onward) in
    let own = keeps_wider (IsOfSlot c.args.slot) such s0 s1 (λ k is. inl is) c.in_ok-lay_down.ensures.keeps in
    let counted = keeps_wider (IsCitersOf c.as_slice.result.now) such s1 s2
    (λ k is. inr (inr (is.0, c.in_ok-cited.ensures.cited is.0 (subst (Has is.0) c.as_slice.ensures.value is.1), is.2)))
    c.in_ok-count_in.ensures.keeps in
    MatchResult-weaker c.put_in.result {P' = λ _. KeepsAside such s0 s3} c.put_in.ensures.keeps (λ _ front.
    keeps_trans such s0 s2 s3 (keeps_trans such s0 s1 s2 own counted)
    (keeps_wider (IsOfFront s2.setting.slots c.args.slot c.as_slice-2.result.now) such s2 s3
    (λ k is. inr (inl (subst (λ (l : List ℕ). IsOfFront s0.setting.slots c.args.slot l k) c.as_slice-2.ensures
    (subst (λ (s : Setting). IsOfFront s.slots c.args.slot c.as_slice-2.result.now k) setting is)))) front)) (λ _ t. t)

pub returns-in_err-lay_down-clause-reads : goal.returns-in_err-lay_down-clause-reads
returns-in_err-lay_down-clause-reads g c = asks_wider (λ k is. inl is) c.lay_down.ensures.reads

pub returns-in_err-cited-clause-reads : goal.returns-in_err-cited-clause-reads
returns-in_err-cited-clause-reads g c = asks_wider (λ k is. inl is) c.lay_down.ensures.reads

pub returns-in_err-count_in-clause-reads : goal.returns-in_err-count_in-clause-reads
returns-in_err-count_in-clause-reads g c =
    asks_more (asks_wider (λ k is. inl is) c.lay_down.ensures.reads)
    (λ k is. inr (inr (is.0, c.in_ok-cited.ensures.cited is.0 (subst (Has is.0) c.as_slice.ensures.value is.1), is.2)))
    c.count_in.ensures.reads

pub returns-clause-reads : goal.returns-clause-reads
returns-clause-reads g c =
    let s0 = g.C.Cells.sight c.args.cells.now in
    asks_more (asks_more (asks_wider (λ k is. inl is) c.lay_down.ensures.reads)
    (λ k is. inr (inr (is.0, c.in_ok-cited.ensures.cited is.0 (subst (Has is.0) c.as_slice.ensures.value is.1), is.2)))
    c.count_in.ensures.reads)
    (λ k is. inr (inl (subst (λ (l : List ℕ). IsOfFront s0.setting.slots c.args.slot l k) c.as_slice-2.ensures
    (subst (λ (s : Setting). IsOfFront s.slots c.args.slot c.as_slice-2.result.now k)
    ((setting_kept c.count_in.ensures.onward) ∙ (setting_kept c.lay_down.ensures.onward)) is)))) c.put_in.ensures.reads
