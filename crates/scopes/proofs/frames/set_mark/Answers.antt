-- What is left to show of `set_mark`.
use Rattle.std.proofs.Common.{◌≡◌, Some, get_or, refl, rules}
use Rattle.std.specs.List.{slice_get}
use Rattle.std.proofs.lemmas.Option.{slice_get_read}
use Rattle.scopes.specs.declared.tables.Active.{Active}
use Rattle.scopes.specs.Views.{kept_of}
use Rattle.scopes.specs.Sound.{looks_up}
use Rattle.scopes.proofs.Marks.{marked_sound, marked_stand, set_numbers, set_marks}
use Rattle.scopes.proofs.frames.set_mark.Goals as goal

pub returns-clause-sound : goal.returns-clause-sound
returns-clause-sound c =
    let t = c.args.tables.now in
    let a = c.index_mut.result.now in
    let b : Active = record { link = a.link; is_mandatory = c.args.mark } in
    let read : a ≡ get_or t.active.items c.args.place a = search rules in
    let at : slice_get t.active.items c.args.place ≡ Some a = slice_get_read t.active.items _ c.args.place a refl c.requires.within read in
    marked_sound (looks_up t.names) (kept_of t) _ c.requires.sound (set_numbers t.active.items c.args.place a b at refl)

pub returns-clause-stand : goal.returns-clause-stand
returns-clause-stand c =
    let t = c.args.tables.now in
    let a = c.index_mut.result.now in
    let b : Active = record { link = a.link; is_mandatory = c.args.mark } in
    let read : a ≡ get_or t.active.items c.args.place a = search rules in
    let at : slice_get t.active.items c.args.place ≡ Some a = slice_get_read t.active.items _ c.args.place a refl c.requires.within read in
    marked_stand (looks_up t.names) (kept_of t) _ c.requires.sound (set_numbers t.active.items c.args.place a b at refl)

pub returns-clause-marks : goal.returns-clause-marks
returns-clause-marks c =
    let b : Active = record { link = c.index_mut.result.now.link; is_mandatory = c.args.mark } in
    set_marks c.args.tables.now.active.items c.args.place b
