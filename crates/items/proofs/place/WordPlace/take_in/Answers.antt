-- What is left to show of `take_in`.
use Rattle.std.proofs.Common.{◌≡◌, ◌∷◌, true, false, codes, Some, refl, sym, ap, subst, rules, ◌∙◌}
use Rattle.std.specs.Str.{bytes_eq}
use Rattle.items.specs.declared.place.WordPlace.{WordPlace}
use Rattle.items.specs.Machine.{place_then, TakesWord}
use Rattle.items.proofs.Placed.{closes, goes_on}
use Rattle.items.proofs.place.WordPlace.take_in.Goals as goal

pub returns-then-eq : goal.returns-then-eq
returns-then-eq c =
    let closing : bytes_eq c.args.word.now (codes "$)") ≡ true = search rules in
    subst (λ v. TakesWord c.args.changes.now c.args.self c.args.word.now v c.at.result) (sym c.of.ensures)
    (closes c.args.changes.now c.args.self c.at.result c.args.word.now c.args.standing c.requires closing c.at.ensures.comment
    c.at.ensures.part)

pub returns : goal.returns
returns c = λ ws.
    let closing : bytes_eq c.args.word.now (codes "$)") ≡ false = search rules in
    let new : WordPlace = record { comment = _; part = c.args.self.part } in
    goes_on c.args.changes.now c.args.self new c.args.word.now c.args.standing c.requires closing
    (ap (λ s. Some s) c.behind.ensures) refl ws
    ∙ ap (λ v. v ∷ place_then c.args.changes.now new ws) (sym c.word_then.ensures)
