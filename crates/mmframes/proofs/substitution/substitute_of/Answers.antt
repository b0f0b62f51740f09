use Rattle.std.proofs.Common.{◌≡◌, None, Some, sym, ◌∙◌}
use Rattle.std.specs.Ordering.{nat_cmp}
use Rattle.std.specs.BTreeMap.{get}
use Rattle.mmframes.proofs.Places.{place-of}
use Rattle.mmframes.proofs.substitution.substitute_of.Goals as goal

pub returns-in-Some : goal.returns-in-Some
returns-in-Some c =
    let found : get nat_cmp c.args.places.now c.args.variable ≡ Some c.in-Some.place.now = sym c.in-Some.ensures.value in
    let first = rw found at (c.requires c.args.variable) in
    let here = place-of c.args.pairs.now c.args.variable (Some c.in-Some.place.now) first in
    here.1 c.index-pairs-place.result ∙ sym c.as_slice.ensures

pub returns-in-None : goal.returns-in-None
returns-in-None c =
    let found : get nat_cmp c.args.places.now c.args.variable ≡ None = sym c.in-None.ensures.value in
    let first = rw found at (c.requires c.args.variable) in
    place-of c.args.pairs.now c.args.variable None first
