-- What is left to show of `entry_at`: what `get` and `as_ref` give is what stands at the place.
use Rattle.std.proofs.Common.{◌≡◌, ℕ, Option, Bor, None, Some, sym, ap, ◌∙◌}
use Rattle.std.specs.List.{slice_get}
use Rattle.std.specs.Option.{option_copied, IfNone, IfSome}
use Rattle.library.specs.declared.library.Ranked.{Ranked}
use Rattle.catalog.specs.Entries.{Entries, StandsIn}
use Rattle.catalog.proofs.Reading.{item-past, item-read}
use Rattle.catalog.proofs.places.entry_at.Goals as goal

none-at : (es : Entries) (p : ℕ) (o : Option Ranked) (r : Option (Bor Ranked)) → slice_get es p ≡ Some o → option_copied r ≡ o
    → IfNone r ((e : Ranked) → StandsIn es p e → ⊥)
none-at es p o None at read = λ e here.
    let both : Some o ≡ Some (Some e) = sym at ∙ here in
    let none : None ≡ o = read in
    absurd cc
none-at es p o (Some x) at read = tt

some-at : (es : Entries) (p : ℕ) (o : Option Ranked) (r : Option (Bor Ranked)) → slice_get es p ≡ Some o → option_copied r ≡ o
    → IfSome r (λ e. StandsIn es p e.now)
some-at es p o None at read = tt
some-at es p o (Some x) at read = at ∙ ap (λ a. Some a) (sym read)

pub returns-in_err-get-clause-none : goal.returns-in_err-get-clause-none
returns-in_err-get-clause-none c =
    let past = item-past c.args.entries.now c.args.place c.in_err-get.ensures.lookup in
    rw c.from_residual.ensures (λ e here. let both : None ≡ Some (Some e) = sym past ∙ here in absurd cc)

pub returns-clause-none : goal.returns-clause-none
returns-clause-none c =
    none-at c.args.entries.now c.args.place c.in_ok-get.field-0.now c.as_ref.result
    (item-read c.args.entries.now c.args.place c.in_ok-get.field-0 c.in_ok-get.ensures.lookup) c.as_ref.ensures.value

pub returns-clause-some : goal.returns-clause-some
returns-clause-some c =
    some-at c.args.entries.now c.args.place c.in_ok-get.field-0.now c.as_ref.result
    (item-read c.args.entries.now c.args.place c.in_ok-get.field-0 c.in_ok-get.ensures.lookup) c.as_ref.ensures.value
