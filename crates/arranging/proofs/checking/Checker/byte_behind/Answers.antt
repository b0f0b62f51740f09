use Rattle.std.proofs.Common.{◌≡◌, ◌∙◌, ◌-◌, ◌≤◌, suc, length, refl, sym, ap, arith}
use Rattle.std.proofs.lemmas.Option.{slice_get_read}
use Rattle.arranging.specs.Places.{end_behind}
use Rattle.arranging.proofs.Under.{end_behind_one}
use Rattle.arranging.proofs.checking.Checker.byte_behind.Goals as goal

pub returns-clause-is : goal.returns-clause-is
returns-clause-is c =
    let items = c.args.self.now.items.now in
    let found = c.in_ok-end.field-0.now in
    let last = c.args.count - 1 in
    let some = c.if-count-eq0.false in
    let at = c.in_ok-end.ensures.lookup.3 in
    let lt = at.0 in
    let more : suc last ≡ c.args.count = omega (arith, some) in
    let le : c.args.count ≤ length items = omega (arith, lt) in (
      sym (end_behind_one 0 items last found (slice_get_read items (length items) last found refl lt (at.1 found)))
          ∙ ap (end_behind 0 items) more,
      le,
    )
