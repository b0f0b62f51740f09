-- What is left to show of `put`.
use Rattle.std.proofs.Common.{◌≡◌, ◌+◌, ℕ, Bool, true, false, [], refl, sym, subst, append-nil}
use Rattle.std.specs.Prelude.{IfSome, MatchOption, take, drop, ◌∷◌}
use Rattle.std.specs.Bool.{then_some}
use Rattle.items.specs.Machine.{IsPut}
use Rattle.arranging.specs.Printing.{SaysNext}
use Rattle.arranging.specs.Arranged.{IsLayout}
use Rattle.items.specs.Bare.{HasBare}
use Rattle.arranging.proofs.Printed.{stays_next, goes_next, stays_on, goes_on, none_stays, none_goes}
use Rattle.arranging.proofs.printing.Source.put.Goals as goal

some_holds : {A : Type 0} (b : Bool) (v : A) (P : A → Type 0) → (b ≡ true → P v) → IfSome (then_some b v) P
some_holds true v P f = f refl
some_holds false v P f = tt

pub returns-in_ok-put_items-in-Stays-clause-put : goal.returns-in_ok-put_items-in-Stays-clause-put
returns-in_ok-put_items-in-Stays-clause-put c = λ old h.
    let cs = c.args.self.changes.now in
    let proofs = c.args.self.proofs.now in
    let place = c.args.place in
    let says = λ (next : ℕ). IsPut c.args.out.now.items c.put_items.new.out.items (SaysNext cs proofs old c.args.placed place next) in
    subst (λ made. IfSome made says) (sym c.then_some-in-Stays.ensures)
    (some_holds c.in_ok-put_items-in-Stays.field-0 (place + 1) says (λ yes.
    let put = c.in_ok-put_items-in-Stays.ensures.put old h yes in (
      put.0,
      put.1,
      subst (λ p. SaysNext cs proofs old p place (place + 1) put.0) (sym c.in-Stays.is)
          (stays_next cs proofs c.args.self.text.now c.args.self.items.now old h place c.if-place-self.true put.0 put.2),
    )))

pub returns-in-Goes-clause-put : goal.returns-in-Goes-clause-put
returns-in-Goes-clause-put c = λ old h.
    let cs = c.args.self.changes.now in
    let proofs = c.args.self.proofs.now in
    let place = c.args.place in (
      [],
      sym (append-nil c.args.out.now.items),
      subst (λ p. SaysNext cs proofs old p place (place + 1) []) (sym c.in-Goes.is)
          (goes_next cs proofs c.args.self.text.now c.args.self.items.now old h place c.if-place-self-2.true),
    )

some_or : {A : Type 0} (b : Bool) (v : A) (P : Type 0) (Q : A → Type 0) → (b ≡ false → P) → Q v → MatchOption (then_some b v) P Q
some_or true v P Q f q = q
some_or false v P Q f q = f refl

pub returns-in_ok-put_items-in-Stays-clause-bare : goal.returns-in_ok-put_items-in-Stays-clause-bare
returns-in_ok-put_items-in-Stays-clause-bare c = λ e old ps found h.
    let text = c.args.self.text.now in
    let place = c.args.place in
    let next = λ (n : ℕ). IsLayout e (take n old) (drop n old) ps in
    let bare = HasBare c.args.self.proofs.now text in
    subst (λ made. MatchOption made bare next) (sym c.then_some-in-Stays.ensures)
    (some_or c.in_ok-put_items-in-Stays.field-0 (place + 1) bare next c.in_ok-put_items-in-Stays.ensures.bare
    (stays_on e text c.args.self.items.now old found place ps c.if-place-self.true
    (subst (λ p. IsLayout e (take place old) (drop place old) (p ∷ ps)) c.in-Stays.is h)))

pub returns-in-Goes-clause-bare : goal.returns-in-Goes-clause-bare
returns-in-Goes-clause-bare c = λ e old ps found h.
    let place = c.args.place in
    goes_on e c.args.self.text.now c.args.self.items.now old found place ps c.if-place-self-2.true
    (subst (λ p. IsLayout e (take place old) (drop place old) (p ∷ ps)) c.in-Goes.is h)

pub returns-in_default-clause-bare : goal.returns-in_default-clause-bare
returns-in_default-clause-bare c = λ e old ps found h.
    let place = c.args.place in
    absurd (none_stays e c.args.self.text.now c.args.self.items.now old found place ps c.if-place-self.false
    (subst (λ p. IsLayout e (take place old) (drop place old) (p ∷ ps)) c.in-Stays.is h))

pub returns-in_default-2-clause-bare : goal.returns-in_default-2-clause-bare
returns-in_default-2-clause-bare c = λ e old ps found h.
    let place = c.args.place in
    absurd (none_goes e c.args.self.text.now c.args.self.items.now old found place ps c.if-place-self-2.false
    (subst (λ p. IsLayout e (take place old) (drop place old) (p ∷ ps)) c.in-Goes.is h))
