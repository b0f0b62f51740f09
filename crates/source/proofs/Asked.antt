-- What a source answers of the assertion at a place.
use Rattle.std.proofs.Common.{◌≡◌, ◌∙◌, ℕ, zero, suc, List, [], ◌∷◌, ◌++◌, take, Option, Some, sym, ap, subst, append_assoc, append-nil}
use Rattle.std.specs.Prelude.{slice_get}
use Rattle.std.specs.Option.{option_map, option_and_then}
use Rattle.mmtext.specs.Words.{Word}
use Rattle.source.specs.Statements.{Proof}
use Rattle.source.specs.Scopes.{Hypothesis, Pair, Assertion, Scope}
use Rattle.source.specs.Whole.{IsAssertionWhole, AreAssertionsWhole, IsWhole}

module _ (xs : List Assertion) (place : ℕ) (x : Assertion) (at : slice_get xs place ≡ Some x) where
  pub hypotheses_are : (hs : List Hypothesis) → option_map (λ a. a.hypotheses) (slice_get xs place) ≡ Some hs → x.hypotheses ≡ hs
  hypotheses_are hs h =
      let e : Some x.hypotheses ≡ Some hs = sym (ap (option_map (λ (a : Assertion). a.hypotheses)) at) ∙ h in cc

  pub active_are : (hs : List Hypothesis) → option_map (λ a. a.active) (slice_get xs place) ≡ Some hs → x.active ≡ hs
  active_are hs h = let e : Some x.active ≡ Some hs = sym (ap (option_map (λ (a : Assertion). a.active)) at) ∙ h in cc

  pub pairs_are : (ps : List Pair) → option_map (λ a. a.pairs) (slice_get xs place) ≡ Some ps → x.pairs ≡ ps
  pairs_are ps h = let e : Some x.pairs ≡ Some ps = sym (ap (option_map (λ (a : Assertion). a.pairs)) at) ∙ h in cc

  pub statement_is : (ws : List Word) → option_map (λ a. a.statement) (slice_get xs place) ≡ Some ws → ws ≡ x.statement
  statement_is ws h =
      let e : Some x.statement ≡ Some ws = sym (ap (option_map (λ (a : Assertion). a.statement)) at) ∙ h in cc

  pub proof_is : (o : Option Proof) → o ≡ option_and_then (λ a. a.proof) (slice_get xs place) → x.proof ≡ o
  proof_is o h = sym (h ∙ ap (option_and_then (λ (a : Assertion). a.proof)) at)

-- ---- in a source that is whole

whole_behind : (s : Scope) (earlier xs : List Assertion) (k : ℕ) (x : Assertion) → AreAssertionsWhole s earlier xs
    → slice_get xs k ≡ Some x → IsAssertionWhole s (earlier ++ take k xs) x
whole_behind s earlier [] k x a at = absurd cc
whole_behind s earlier (y ∷ ys) zero x a at =
    let e : y ≡ x = cc in
    subst (λ (es : List Assertion). IsAssertionWhole s es x) (sym (append-nil earlier))
    (subst (λ (z : Assertion). IsAssertionWhole s earlier z) e a.0)
whole_behind s earlier (y ∷ ys) (suc k) x a at =
    subst (λ (es : List Assertion). IsAssertionWhole s es x) (append_assoc earlier (y ∷ []) (take k ys))
    (whole_behind s (earlier ++ y ∷ []) ys k x a.1 at)

pub whole_at : (s : Scope) (place : ℕ) (x : Assertion) → IsWhole s → slice_get s.assertions place ≡ Some x
    → IsAssertionWhole s (take place s.assertions) x
whole_at s place x w at = whole_behind s [] s.assertions place x w.assertions at
