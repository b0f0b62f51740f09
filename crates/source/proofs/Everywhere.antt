-- What is so of each hypothesis of a scope: of those that are active there, and of those that are active at its assertions.
use Rattle.std.proofs.Common.{List, [], ◌++◌, length, refl, subst}
use Rattle.std.specs.Prelude.{All, Option, None}
use Rattle.std.proofs.lemmas.List.{take_at}
use Rattle.std.proofs.lemmas.List.Elements.{All-push, All-take}
use Rattle.mmtext.specs.Words.{Word}
use Rattle.source.specs.Statements.{Proof}
use Rattle.source.specs.Scopes.{Hypothesis, Assertion, Scope, with_hypothesis, with_assertion, mandatory, leave}
use Rattle.source.proofs.Growing.{Extends}

-- ---- lists

pub all_both : {A : Type 0} (P Q R : A → Type 0) → ((x : A) → P x → Q x → R x) → (xs : List A) → All P xs → All Q xs → All R xs
all_both P Q R f xs p q = λ k d lt. f _ (p k d lt) (q k d lt)

-- ---- hypotheses

abbrev pub Everywhere : (Hypothesis → Type 0) → Scope → Type 0
Everywhere P s = All P s.hypotheses × All (λ x. All P x.active) s.assertions

-- what a scope gives an assertion
abbrev pub asserting : Scope → Word → List Word → Option Proof → Assertion
asserting s label ws proof = record {
  label = label;
  hypotheses = mandatory s.hypotheses ws;
  pairs = s.pairs;
  statement = ws;
  proof = proof;
  active = s.hypotheses;
}

-- an assertion of no words, where the same is active
abbrev pub bare : Scope → Assertion
bare s = asserting s [] [] None

module _ (P : Hypothesis → Type 0) (s : Scope) where
  pub everywhere_both : (Q R : Hypothesis → Type 0) → ((h : Hypothesis) → P h → Q h → R h) → Everywhere P s → Everywhere Q s
      → Everywhere R s
  everywhere_both Q R f p q = (
    all_both P Q R f s.hypotheses p.0 q.0,
    all_both (λ (x : Assertion). All P x.active) (λ (x : Assertion). All Q x.active) (λ (x : Assertion). All R x.active)
        (λ x p q. all_both P Q R f x.active p q) s.assertions p.1 q.1,
  )

  pub everywhere_weaker : (Q : Hypothesis → Type 0) → ((h : Hypothesis) → P h → Q h) → Everywhere P s → Everywhere Q s
  everywhere_weaker Q f p = everywhere_both P Q (λ h p q. f h p) p p

  -- one more hypothesis
  pub everywhere_more : (h : Hypothesis) → Everywhere P s → P h → Everywhere P (with_hypothesis s h)
  everywhere_more h p q = (All-push P s.hypotheses h p.0 q, p.1)

  -- one more assertion: what is active there is active in the scope
  pub everywhere_asserted : (label : Word) (ws : List Word) (proof : Option Proof) → Everywhere P s
      → Everywhere P (with_assertion s label ws proof)
  everywhere_asserted label ws proof p =
      (p.0, All-push (λ (x : Assertion). All P x.active) s.assertions (asserting s label ws proof) p.1 p.0)

  -- behind a block: what was active in front of it is active at its end
  pub everywhere_left : (before : Scope) → Extends before.hypotheses s.hypotheses → Everywhere P s → Everywhere P (leave before s)
  everywhere_left before e p =
      let n = length before.hypotheses in
      (subst (All P) (take_at before.hypotheses e.0 n refl) (All-take P n (before.hypotheses ++ e.0) (subst (All P) e.1 p.0)), p.1)
