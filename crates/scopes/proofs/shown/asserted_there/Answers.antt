-- What is left to show of `asserted_there`.
use Rattle.std.proofs.Common.{◌≡◌, ◌∙◌, ◌<◌, length, map, ap, refl, subst, get_or, rules}
use Rattle.std.specs.Option.{option_map}
use Rattle.std.proofs.lemmas.List.{length-map}
use Rattle.std.proofs.lemmas.Option.{slice_get-map, slice_get_read}
use Rattle.scopes.specs.Views.{linked, set_apart, entry_of, assertion_of}
use Rattle.scopes.proofs.shown.asserted_there.Goals as goal

pub returns-clause-entry : goal.returns-clause-entry
returns-clause-entry c =
    let t = c.args.tables.now in
    let i = c.args.place in
    let a = c.index.result.now in
    let links = map linked t.links.items in
    let aparts = map set_apart t.aparts.items in
    let size = length-map (map entry_of t.assertions.items) (assertion_of links aparts) ∙ length-map t.assertions.items entry_of in
    let within : i < length t.assertions.items = subst (λ n. i < n) size c.requires in
    let read : a ≡ get_or t.assertions.items i a = search rules in
    let at = slice_get_read t.assertions.items (length t.assertions.items) i a refl within read in
    slice_get-map entry_of t.assertions.items i ∙ ap (option_map entry_of) at

pub returns-clause-stands : goal.returns-clause-stands
returns-clause-stands c =
    let t = c.args.tables.now in
    let f = assertion_of (map linked t.links.items) (map set_apart t.aparts.items) in
    slice_get-map f (map entry_of t.assertions.items) c.args.place ∙ ap (option_map f) (returns-clause-entry c)
