-- What is left to show of `take_outside`.
use Rattle.std.proofs.Common.{◌≡◌, true, false, Some, codes, refl, sym, ap, subst, rules}
use Rattle.std.specs.Str.{bytes_eq}
use Rattle.items.specs.declared.place.WordPlace.{WordPlace}
use Rattle.items.specs.Machine.{TakesWord}
use Rattle.items.proofs.Placed.{opens, stands_outside}
use Rattle.items.proofs.place.WordPlace.take_outside.Goals as goal

pub returns-then-eq : goal.returns-then-eq
returns-then-eq c =
    let opening : bytes_eq c.args.word.now (codes "$(") ≡ true = search rules in
    let new : WordPlace = record { comment = _; part = c.args.self.part } in
    subst (λ v. TakesWord c.args.changes.now c.args.self c.args.word.now v new) (sym c.of.ensures)
    (opens c.args.changes.now c.args.self new c.args.word.now c.requires opening (ap (λ s. Some s) c.at_first.ensures) refl)

pub returns : goal.returns
returns c =
    let opening : bytes_eq c.args.word.now (codes "$(") ≡ false = search rules in
    subst (λ v. TakesWord c.args.changes.now c.args.self c.args.word.now v c.at.result) (sym c.of-2.ensures)
    (stands_outside c.args.changes.now c.args.self c.at.result c.args.word.now c.take-part.result.0.now c.take-part.result.1 c.requires
    opening
    c.take-part.ensures c.at.ensures.comment c.at.ensures.part)
