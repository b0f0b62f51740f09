-- What is left to show of `asserted`.
use Rattle.std.proofs.Common.{◌≡◌, ◌∙◌, List, Bor, Option, Some, None, map, ap, refl, sym}
use Rattle.std.specs.List.{slice_get}
use Rattle.std.specs.Option.{option_map}
use Rattle.std.proofs.lemmas.Option.{slice_get-map}
use Rattle.scopes.specs.declared.tables.Asserted.{Asserted}
use Rattle.scopes.specs.Views.{Linked, SetApart, linked, set_apart, entry_of, assertion_of}
use Rattle.source.proofs.Lent.{got_lent}
use Rattle.scopes.proofs.shown.asserted.Goals as goal

-- a look behind a reference, and then at the assertion
split : (links : List Linked) (aparts : List SetApart) (o : Option (Bor Asserted))
    → option_map (λ e. assertion_of links aparts (entry_of e.now)) o
    ≡ option_map (assertion_of links aparts) (option_map entry_of (option_map (λ e. e.now) o))
split links aparts None = refl
split links aparts (Some e) = refl

pub returns : goal.returns
returns c =
    let t = c.args.tables.now in
    let i = c.args.place in
    let links = map linked t.links.items in
    let aparts = map set_apart t.aparts.items in
    split links aparts c.get.result
    ∙ ap (λ o. option_map (assertion_of links aparts) (option_map entry_of o))
    (got_lent c.deref.result.now i c.get.result c.get.ensures.lookup ∙ ap (λ xs. slice_get xs i) c.deref.ensures.value)
    ∙ ap (option_map (assertion_of links aparts)) (sym (slice_get-map entry_of t.assertions.items i))
    ∙ sym (slice_get-map (assertion_of links aparts) (map entry_of t.assertions.items) i)
