-- What is left to show of `is_assertion_at`.
use Rattle.std.proofs.Common.{◌≡◌, refl, Some, ap, ◌∙◌, sym, false, map}
use Rattle.std.specs.List.{slice_get}
use Rattle.std.specs.Option.{option_map, option_map_or}
use Rattle.std.proofs.lemmas.Option.{slice_get-map, slice_get_read}
use Rattle.std.specs.Str.{bytes_eq}
use Rattle.scopes.specs.Views.{linked, set_apart, entry_of, assertion_of}
use Rattle.scopes.proofs.sorts.is_assertion_at.Goals as goal

pub returns-in-Some : goal.returns-in-Some
returns-in-Some c =
    let t = c.args.tables.now in
    let links = map linked t.links.items in
    let aparts = map set_apart t.aparts.items in
    let read = c.in-Some.ensures.lookup in
    let at : slice_get t.assertions.items c.args.place ≡ Some c.in-Some.assertion.now =
    ap (λ xs. slice_get xs c.args.place) (sym c.deref.ensures.value)
    ∙ slice_get_read c.deref.result.now _ c.args.place c.in-Some.assertion.now refl read.3.0 read.1 in
    let one = slice_get-map entry_of t.assertions.items c.args.place ∙ ap (option_map entry_of) at in
    let two = slice_get-map (assertion_of links aparts) (map entry_of t.assertions.items) c.args.place
    ∙ ap (option_map (assertion_of links aparts)) one in
    c.eq.ensures ∙ sym (ap (λ o. option_map_or (λ a. bytes_eq c.args.word.now a.label) o false) two)
