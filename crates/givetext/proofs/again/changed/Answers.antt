-- What is left to show of `changed`.
use Rattle.std.proofs.Common.{◌≡◌, ◌∙◌, Option, Some, None, refl, sym, ap, ap₂}
use Rattle.std.specs.Prelude.{slice_get}
use Rattle.std.specs.Borrow.{Bor}
use Rattle.std.specs.Option.{option_map}
use Rattle.std.proofs.Common.{List, ℕ, Bool}
use Rattle.mmtext.specs.Words.{Word}
use Rattle.source.specs.Scopes.{Assertion, Scope}
use Rattle.giving.specs.Staying.{others}
use Rattle.givetext.proofs.again.changed.Goals as goal

some_of : (o : Option Assertion) (w : Word) → Some w ≡ option_map (λ (x : Assertion). x.label) o
    → (x : Assertion) × (o ≡ Some x) × (x.label ≡ w)
some_of None w h = absurd cc
some_of (Some x) w h = let same : x.label ≡ w = cc in (x, refl, same)

pub returns-in_ok-from_slice-in-Some : goal.returns-in_ok-from_slice-in-Some
returns-in_ok-from_slice-in-Some g c = λ k source old own unfit.
    let n = c.args.number in
    let others_are : others k.own k.old.assertions ≡ others c.args.own.now (g.D.Declared.scope c.args.declared.now).assertions =
    ap₂ (λ (fs : List Bool) (s : Scope). others fs s.assertions) own old in
    let found = some_of (slice_get (others c.args.own.now (g.D.Declared.scope c.args.declared.now).assertions) n) c.in-Some.label.now
    (ap (option_map (λ (w : Bor (List ℕ)). w.now)) (sym c.in-Some.is) ∙ c.other_at.ensures) in (
      found.0,
      (n, ap (λ xs. slice_get xs n) others_are ∙ found.1, unfit),
      found.2 ∙ sym c.in_ok-from_slice-in-Some.ensures,
    )
