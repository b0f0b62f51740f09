-- What is left to show of `are_uncited`.
use Rattle.std.proofs.Common.{◌≡◌, ◌∙◌, ◌≤◌, List, ℕ, Bool, true, false, inl, inr, length, take, refl, sym, ap, subst, arith, Option}
use Rattle.std.specs.Prelude.{All, IsTrue, is_some}
use mathlib.Core.Bool.{not}
use Rattle.std.specs.Borrow.{Bor}
use Rattle.std.proofs.lemmas.List.{take_all}
use Rattle.std.proofs.lemmas.Option.{MatchOption-at_some, slice_get_cases}
use Rattle.mmtext.specs.Words.{Word}
use Rattle.source.specs.Scopes.{Assertion, is_in}
use Rattle.source.specs.Views.{seen_words}
use Rattle.giving.specs.Staying.{others}
use Rattle.sourceediting.specs.Following.{names_none}
use Rattle.sourceediting.proofs.Marks.{firsts, firsts_marked}
use Rattle.sourceediting.specs.Refusals.{names, IsCitedCause}
use Rattle.sourceediting.proofs.Origins.{label_is}
use Rattle.sourceediting.proofs.Others.{own_passes, other_passes, other_there}
use Rattle.sourceediting.proofs.citing.are_uncited.Goals as goal

abbrev IsUncited : List Word → Assertion → Type 0
IsUncited gone x = IsTrue (names_none gone x.proof)

opposite : (b : Bool) → false ≡ not b → b ≡ true
opposite true e = refl
opposite false e = absurd cc

pub loop-place-preserved-then-is_own : goal.loop-place-preserved-then-is_own
loop-place-preserved-then-is_own g c =
    let xs : List Assertion = (g.D.Declared.scope c.args.declared.now).assertions in
    let i = c.loop-place.place in
    elim (slice_get_cases xs i).1 [
      | inl x ↦
          own_passes (IsUncited (seen_words c.args.gone.now)) c.args.own.now xs i x.0 c.loop-place-test.true x.2 c.loop-place.invariant
          c.if-is_own.true
      | inr m ↦ absurd (let past : length xs ≤ i = m.0 in omega (arith, c.requires))
    ]

pub loop-place-preserved : goal.loop-place-preserved
loop-place-preserved g c =
    let xs : List Assertion = (g.D.Declared.scope c.args.declared.now).assertions in
    let i = c.loop-place.place in
    let gone = seen_words c.args.gone.now in
    let firsts_gone = firsts c.in_ok-gone.gone in
    let among : firsts_gone ≡ gone = ap firsts c.in_ok-gone.ensures ∙ firsts_marked gone in
    elim (slice_get_cases xs i).1 [
      | inl x ↦
          let said : is_some c.first_gone_at.result ≡ not (names_none firsts_gone x.0.proof) =
          MatchOption-at_some _ (λ (x : Assertion). is_some c.first_gone_at.result ≡ not (names_none firsts_gone x.proof)) x.0 x.2
          c.first_gone_at.ensures.some in
          let none : IsUncited gone x.0 =
          ap (λ (ws : List Word). names_none ws x.0.proof) (sym among)
          ∙ opposite (names_none firsts_gone x.0.proof) (ap (λ (o : Option (Bor (List ℕ))). is_some o) (sym c.in_default.is) ∙ said) in
          other_passes (IsUncited gone) c.args.own.now xs i x.0 c.loop-place-test.true x.2 c.loop-place.invariant c.if-is_own.false none
      | inr m ↦ absurd (let past : length xs ≤ i = m.0 in omega (arith, c.requires))
    ]

pub returns-in-Some-clause-cited : goal.returns-in-Some-clause-cited
returns-in-Some-clause-cited g c =
    let xs : List Assertion = (g.D.Declared.scope c.args.declared.now).assertions in
    let own = c.args.own.now in
    let gone = seen_words c.args.gone.now in
    let i = c.loop-place.place in
    let label = c.in-Some.label.now in
    let by = c.in-Some-label.by in
    let among : firsts c.in_ok-gone.gone ≡ gone = ap firsts c.in_ok-gone.ensures ∙ firsts_marked gone in
    elim (slice_get_cases xs i).1 [
      | inl x ↦
          subst (IsCitedCause gone (others own xs)) (sym c.in_ok-still_cited.ensures) (record {
            citing = x.0;
            there = other_there own xs i x.0 c.loop-place-test.true x.2 c.if-is_own.false;
            labelled = sym (label_is by c.label.result x.0 _ c.in-Some-label.is c.label.ensures x.2);
            cites =
                MatchOption-at_some _ (λ (y : Assertion). IsTrue (names label y.proof)) x.0 x.2 c.in-Some.ensures.named;
            deleted = subst (λ (ws : List Word). IsTrue (is_in ws label)) among c.in-Some.ensures.gone;
          })
      | inr m ↦ absurd (let past : length xs ≤ i = m.0 in omega (arith, c.requires))
    ]

pub returns-clause-uncited : goal.returns-clause-uncited
returns-clause-uncited g c =
    let xs : List Assertion = (g.D.Declared.scope c.args.declared.now).assertions in
    let i = c.loop-place.place in
    let flags : take i c.args.own.now ≡ c.args.own.now = take_all i c.args.own.now c.loop-place-test.false in
    let all : take i xs ≡ xs = take_all i xs (omega (arith, c.requires)) in
    subst (λ (l : List Assertion). All (IsUncited (seen_words c.args.gone.now)) l)
    (ap (λ (fs : List Bool). others fs (take i xs)) flags ∙ ap (others c.args.own.now) all) c.loop-place.invariant
