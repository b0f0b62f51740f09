-- What is left to show of `read_items`.
use Rattle.std.proofs.Common.{◌≡◌, ◌∷◌, ◌∙◌, [], Bool, true, false, Option, Some, None, refl, sym, subst}
use Rattle.std.specs.Prelude.{IfSome, IfNone, IsSome, is_some}
use Rattle.std.specs.Bool.{then_some}
use mathlib.Core.Bool.{not}
use Rattle.mmtext.specs.Views.{seen}
use Rattle.items.specs.Reading.{AreItems, tokens_at, end_of}
use Rattle.items.proofs.Found.{AreFoundTo, one_found, all_found}
use Rattle.items.proofs.reading.read_items.Goals as goal

pub loop-item-preserved : goal.loop-item-preserved
loop-item-preserved c =
    let is = c.in-Some.ensures in record {
      within = is.within;
      found =
          subst (AreFoundTo c.args.text.now c.in-Some.item.end) (sym c.in_ok-push.ensures.items)
          (one_found c.args.text.now c.loop-item.at c.loop-item.items.items c.in-Some.item c.loop-item.invariant.found is.item is.later
          is.within);
      divided = λ d. is.divided (c.loop-item.invariant.divided d);
    }

-- what follows where nothing is left holds of what is made only then
then_holds : {A B : Type 0} {Q : Type 0} (left : Option A) (is_none : Bool) (v : B) (P : B → Type 0) → is_some left ≡ not is_none
    → IfNone left Q → (Q → P v) → IfSome (then_some is_none v) P
then_holds None true v P e q f = f q
then_holds None false v P e q f = absurd cc
then_holds (Some t) true v P e q f = absurd cc
then_holds (Some t) false v P e q f = tt

pub returns-clause-found : goal.returns-clause-found
returns-clause-found c =
    subst (λ made. IfSome made (λ found. AreItems c.args.text.now found.items)) (sym c.then_some.ensures)
    (then_holds c.next_token.result c.is_none.result c.loop-item.items (λ found. AreItems c.args.text.now found.items) c.is_none.ensures
    c.next_token.ensures.none (all_found c.args.text.now c.loop-item.at c.loop-item.items.items c.loop-item.invariant.found))

-- it is made where nothing can be left
then_made : {A B : Type 0} (left : Option A) (is_none : Bool) (v : B) (P : A → Type 0) → is_some left ≡ not is_none → IfSome left P
    → ((t : A) → P t → ⊥) → IsSome (then_some is_none v)
then_made None true v P e left never = refl
then_made None false v P e left never = absurd cc
then_made (Some t) b v P e left never = absurd (never t left)

pub returns-clause-all : goal.returns-clause-all
returns-clause-all c = λ d.
    let text = c.args.text.now in
    let at = c.loop-item.at in
    let over : tokens_at text at ≡ [] = c.in_default.ensures.divided (c.loop-item.invariant.divided d) in
    subst (λ made. IsSome made) (sym c.then_some.ensures)
    (then_made c.next_token.result c.is_none.result c.loop-item.items (λ t. tokens_at text at ≡ seen t ∷ tokens_at text (end_of (seen t)))
    c.is_none.ensures c.next_token.ensures.some
    (λ t h. let e : seen t ∷ tokens_at text (end_of (seen t)) ≡ [] = sym h ∙ over in cc))
