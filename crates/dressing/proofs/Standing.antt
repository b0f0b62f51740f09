-- A quotation that is quotable, and its text.
use Rattle.std.proofs.Common.{◌≡◌, ◌<◌, ℕ, List, Option, Some, None, inl, inr, arith, length}
use Rattle.std.specs.Prelude.{IfOk, IfSome, IsTrue, MatchOption, Result, Ok, Err, is_some, slice_get}
use Rattle.std.specs.Str.{bytes_eq}
use Rattle.std.proofs.lemmas.Option.{slice_get_cases}
use Rattle.mmsyntax.specs.Tables.{place_of}
use Rattle.source.specs.Scopes.{Assertion, Scope}
use Rattle.items.specs.Items.{Item}
use Rattle.pasting.specs.Quotes.{GivenProof}
use Rattle.prooftrees.proofs.Found.{first_is}
use Rattle.dressing.specs.Parts.{SaysTheSame}
use Rattle.dressing.specs.Quoted.{IsQuotedAs, IsTextOf, indentation_for}

module _ (s : Scope) (q : GivenProof) (place : ℕ) (stands : place_of (λ x. bytes_eq q.label x.label) s.assertions ≡ Some place) where
  pub within : place < length s.assertions
  within = (first_is (λ (x : Assertion). bytes_eq q.label x.label) s.assertions place place stands).within

  pub there : (x : Assertion) × (slice_get s.assertions place ≡ Some x)
  there =
      let lt = within in
      elim (slice_get_cases s.assertions place).1 [ inl y ↦ (y.0, y.2) | inr past ↦ absurd (omega arith) ]

  pub quoted_as : (items : List Item) (x : Assertion) → slice_get s.assertions place ≡ Some x → SaysTheSame s place x q.proof
      → (text : List ℕ) → IsTextOf (indentation_for items q.label x) q.proof text → IsQuotedAs s items q text
  quoted_as items x at says text is = record {
    quotable = record {
      place = place;
      stands = stands;
      theorem = x;
      is = at;
      written = says.written;
      was = says.was;
      others = says.others;
      steps = says.steps;
      lists_now = says.lists_now;
      lists_then = says.lists_then;
    };
    text_is = is;
  }

-- a text, where there can be one
pub texts_are : {A E : Type 0} (Q C : Type 0) (P R : A → Type 0) (r : Result (Option A) E) → (C → IfOk r (λ o. IsTrue (is_some o)))
    → IfOk r (λ o. IfSome o P) → ((t : A) → P t → R t) → IfOk r (λ o. MatchOption o (Q → C → ⊥) R)
texts_are Q C P R (Ok None) can text f = λ _ k. let h = can k in cc
texts_are Q C P R (Ok (Some t)) can text f = f t text
texts_are Q C P R (Err e) can text f = tt
