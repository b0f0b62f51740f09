use Rattle.std.proofs.Common.{◌≡◌, ◌+◌, List, get_or, Option, Some, None, Vec, Global, sym, ap, subst, ◌∙◌}
use Rattle.std.specs.Prelude.{option_map}
use Rattle.mmsyntax.specs.declared.statement.Assertion.{Assertion}
use Rattle.bodystore.specs.declared.stored.StoredStep.{StoredStep}
use Rattle.library.specs.Library.{Setting, opening}
use Rattle.cells.specs.State.{State}
use Rattle.cells.specs.Shows.{ShowsHeld}
use Rattle.plaincells.specs.Plain.{plain_state}
use Rattle.plaincells.specs.Opening.{front, held_from}
use Rattle.cells.specs.Lookups.{Resolves}
use Rattle.cells.proofs.Sights.{room_kept, setting_kept}
use Rattle.plaincells.proofs.Opened.{cells_setting, cells_sight, now_state, none_unknown, resolved_fillable, filled_held, shows_some}
use Rattle.plaincells.proofs.opening.put_next.Goals as goal

pub unreachable-requires : goal.unreachable-requires
unreachable-requires c =
    let p = c.args.cells.now in
    let q = c.resolve.new.cells in
    let a = c.index-assertions-index.result in
    let db = c.args.database.now in
    let at : a ≡ get_or db.assertions c.args.index a =
    c.index-assertions-index.is ∙ ap (λ (xs : List Assertion). get_or xs c.args.index a) c.assertions-assertions.ensures.value in
    let unknown : Resolves (cells_sight q) a.proof None =
    subst (λ (o : Option (Vec StoredStep Global)). Resolves (cells_sight q) a.proof (option_map (λ (v : Vec StoredStep Global). v.items) o))
    c.in-Ok-None.field-0-is c.in-Ok-None.ensures.ok in
    none_unknown db c.args.index a c.requires.next at c.assertions-assertions.ensures.sound c.requires.checks p c.requires.fits
    c.requires.opened q c.in-Ok-None.ensures.looks unknown

pub fill-requires-clause-fillable : goal.fill-requires-clause-fillable
fill-requires-clause-fillable c =
    let p = c.args.cells.now in
    let q = c.resolve.new.cells in
    let a = c.index-assertions-index.result in
    let db = c.args.database.now in
    let kept : List StoredStep = c.as_slice.result.now in
    let at : a ≡ get_or db.assertions c.args.index a =
    c.index-assertions-index.is ∙ ap (λ (xs : List Assertion). get_or xs c.args.index a) c.assertions-assertions.ensures.value in
    let resolved : Resolves (cells_sight q) a.proof (Some kept) =
    subst (λ (ys : List StoredStep). Resolves (cells_sight q) a.proof (Some ys)) (sym c.as_slice.ensures.value)
    (subst (λ (o : Option (Vec StoredStep Global)). Resolves (cells_sight q) a.proof
    (option_map (λ (v : Vec StoredStep Global). v.items) o))
    c.in-Ok-Some.field-0-is c.in-Ok-Some.ensures.ok) in
    resolved_fillable db c.args.index a c.requires.next at c.assertions-assertions.ensures.sound c.requires.checks p c.requires.fits
    c.requires.opened q kept c.in-Ok-Some.ensures.looks resolved

pub keep-requires : goal.keep-requires
keep-requires c =
    let p = c.args.cells.now in
    let q = c.resolve.new.cells in
    let r = c.fill.new.cells in
    let a = c.index-assertions-index.result in
    let db = c.args.database.now in
    let k = c.args.index in
    let kept : List StoredStep = c.as_slice.result.now in
    let looks = c.in-Ok-Some.ensures.looks in
    let onward = c.in-Ok.ensures.onward in
    let at : a ≡ get_or db.assertions k a =
    c.index-assertions-index.is ∙ ap (λ (xs : List Assertion). get_or xs k a) c.assertions-assertions.ensures.value in
    let resolved : Resolves (cells_sight q) a.proof (Some kept) =
    subst (λ (ys : List StoredStep). Resolves (cells_sight q) a.proof (Some ys)) (sym c.as_slice.ensures.value)
    (subst (λ (o : Option (Vec StoredStep Global)). Resolves (cells_sight q) a.proof
    (option_map (λ (v : Vec StoredStep Global). v.items) o))
    c.in-Ok-Some.field-0-is c.in-Ok-Some.ensures.ok) in
    let setting : cells_setting r ≡ cells_setting p = (setting_kept onward) ∙ (setting_kept looks.onward) in
    let held : ShowsHeld p.slots (now_state r) (opening (front (k + 1) db)) (held_from 0 (opening (front (k + 1) db))) =
    filled_held db k a c.requires.next at c.assertions-assertions.ensures.sound c.requires.checks p c.requires.fits c.requires.opened q r
    kept looks onward resolved c.in-Ok.ensures.ok in
    ∣ shows_some db k a c.requires.next at c.assertions-assertions.ensures.sound c.requires.checks p c.requires.fits c.requires.opened r
    setting held ∣₁

pub returns-in-Ok : goal.returns-in-Ok
returns-in-Ok c =
    let p = c.args.cells.now in
    let q = c.resolve.new.cells in
    let r = c.fill.new.cells in
    let a = c.index-assertions-index.result in
    let db = c.args.database.now in
    let k = c.args.index in
    let kept : List StoredStep = c.as_slice.result.now in
    let looks = c.in-Ok-Some.ensures.looks in
    let onward = c.in-Ok.ensures.onward in
    let at : a ≡ get_or db.assertions k a =
    c.index-assertions-index.is ∙ ap (λ (xs : List Assertion). get_or xs k a) c.assertions-assertions.ensures.value in
    let resolved : Resolves (cells_sight q) a.proof (Some kept) =
    subst (λ (ys : List StoredStep). Resolves (cells_sight q) a.proof (Some ys)) (sym c.as_slice.ensures.value)
    (subst (λ (o : Option (Vec StoredStep Global)). Resolves (cells_sight q) a.proof
    (option_map (λ (v : Vec StoredStep Global). v.items) o))
    c.in-Ok-Some.field-0-is c.in-Ok-Some.ensures.ok) in
    let setting : cells_setting r ≡ cells_setting p = (setting_kept onward) ∙ (setting_kept looks.onward) in
    let held : ShowsHeld p.slots (now_state r) (opening (front (k + 1) db)) (held_from 0 (opening (front (k + 1) db))) =
    filled_held db k a c.requires.next at c.assertions-assertions.ensures.sound c.requires.checks p c.requires.fits c.requires.opened q r
    kept looks onward resolved c.in-Ok.ensures.ok in
    let made = c.keep.new.self in
    let same = c.keep.ensures.same in
    let e : now_state made ≡ now_state r = λ i. plain_state (same.0 i).items (same.1 i).items (same.2 i).items in
    record {
      prelude = same.3 ∙ ap (λ (s : Setting). s.prelude) setting ∙ c.requires.opened.prelude;
      slots_are = same.4 ∙ ap (λ (s : Setting). s.slots) setting;
      room_is = same.5 ∙ room_kept onward ∙ room_kept looks.onward;
      kept = c.keep.ensures.log;
      fresh = c.keep.ensures.fresh;
      shows = subst (λ (x : State). ShowsHeld p.slots x (opening (front (k + 1) db)) (held_from 0 (opening (front (k + 1) db))))
          (sym e) held;
    }
