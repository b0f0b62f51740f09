use Rattle.std.proofs.Common.{◌≡◌, sym, ap, subst, ◌∙◌}
use Rattle.library.specs.Library.{Setting, Verifies}
use Rattle.lawful.specs.Lawful.{setting_given}
use Rattle.transaction.specs.Members.{Home}
use Rattle.transaction.proofs.Looked.{entries_verify, entries_shown}
use Rattle.transaction.proofs.looking.read_all.Goals as goal
use Rattle.cells.proofs.Sights.{setting_kept}

pub sorted-requires : goal.sorted-requires
sorted-requires c =
    let run = c.entries.new.cells.run in
    let looks = c.entries.ensures.looks in
    let lending = c.place-place.ensures.stands in
    let given = c.requires.given ∙ sym (ap (λ (h : Home). h.given) c.library.view_is) in
    let slots = c.library.inside.given.slots in
    let setting : setting_given run.given ≡ record { prelude = c.in_ok-prelude.prelude; slots = slots } =
    setting_kept looks.onward ∙ ap setting_given given
    ∙ (λ i. record { prelude = sym (c.in_ok-prelude.ensures ∙ c.library.invariant.prelude_is) i; slots = slots }) in
    subst (λ (s : Setting). Verifies s c.in_ok-entries.entries.items) setting
    (entries_verify run lending.0 lending.1 c.in_ok-entries.entries.items lending.2 (looks.writes ∙ c.requires.blank)
    c.in_ok-entries.ensures.ok)

pub returns-clause-ok : goal.returns-clause-ok
returns-clause-ok c =
    entries_shown c.entries.new.cells.run c.in_ok-entries.entries.items c.sorted.result.entries c.in_ok-entries.ensures.ok
    c.sorted.ensures.shown
