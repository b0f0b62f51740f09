-- What is joined for a node of a tree: its parts, and lists one after another.
use Rattle.std.proofs.Common.{◌≡◌, ◌≤◌, ◌<◌, ◌-◌, ◌⊎◌, inl, inr, ℕ, List, [], ◌∷◌, ◌++◌, length, take, drop, refl, sym, ap, ◌∙◌}
use Rattle.std.proofs.Common.{arith, length-append, append_assoc, Ok, Err}
use Rattle.std.proofs.Math.Seq.{take-append_seam, drop-append_seam}
use mathlib.Core.Path.{ap₂}
use Rattle.std.specs.Prelude.{Option, Some, None, Result, nat_lt}
use Rattle.std.specs.List.{flat_map}
use Rattle.std.proofs.lemmas.Bool.{cases_Bool, ltb-true, ltb-false}
use Rattle.std.proofs.lemmas.Grind.{flat_map-append}
use Rattle.std.proofs.lemmas.Option.{same_Some}
use Rattle.mmsyntax.specs.declared.statement.Symbol.{Symbol}
use Rattle.mmsyntax.specs.declared.statement.Step.{Step}
use Rattle.mmsyntax.specs.declared.statement.Frame.{Frame}
use Rattle.derivation.specs.declared.fault.ProofFaultKind.{ProofFaultKind}
use Rattle.derivation.specs.Derivation.{arity}
use Rattle.derivation.specs.Faults.{last}
use Rattle.source.specs.Scopes.{Hypothesis, Assertion}
use Rattle.source.specs.Proofs.{Trees, none, some}
use Rattle.taking.specs.Lengths.{how_many}
use Rattle.taking.specs.Listings.{in_profile_order, joined}
use Rattle.verifying.specs.Citations.{Expression}
use Rattle.verifying.specs.Verifies.{Entry, cited, before, made_of}

-- ---- parts of what is joined

pub record JoinedOf (o : Option (List Hypothesis)) (ps : Option (List (List Step))) (own : Option Step) (steps : List Step) : Type 0 where
  pub hypotheses : List Hypothesis
  pub parts : List (List Step)
  pub step : Step
  pub takes : o ≡ Some hypotheses
  pub parts_are : ps ≡ Some parts
  pub own_is : own ≡ Some step
  pub steps_are : steps ≡ flat_map (λ x. x) (in_profile_order hypotheses parts) ++ step ∷ []

pub joined_parts : (o : Option (List Hypothesis)) (ps : Option (List (List Step))) (own : Option Step) (steps : List Step)
    → joined o ps own ≡ Some steps → JoinedOf o ps own steps
joined_parts None ps own steps h = absurd cc
joined_parts (Some hs) None own steps h = absurd cc
joined_parts (Some hs) (Some parts) None steps h = absurd cc
joined_parts (Some hs) (Some parts) (Some step) steps h = record {
  hypotheses = hs;
  parts = parts;
  step = step;
  takes = refl;
  parts_are = refl;
  own_is = refl;
  steps_are = sym (same_Some _ steps h);
}

pub record BothOk (y : Entry) (r : Result (List Expression) ProofFaultKind) (es : List Expression) : Type 0 where
  pub first : Expression
  pub others : List Expression
  pub first_is : y ≡ Ok first
  pub others_are : r ≡ Ok others
  pub all_are : es ≡ first ∷ others

pub before_parts : (y : Entry) (r : Result (List Expression) ProofFaultKind) (es : List Expression) → before y r ≡ Ok es → BothOk y r es
before_parts (Err k) r es h = absurd cc
before_parts (Ok e) (Err k) es h = absurd cc
before_parts (Ok e) (Ok ds) es h =
    let same : e ∷ ds ≡ es = cc in
    record { first = e; others = ds; first_is = refl; others_are = refl; all_are = sym same }

pub made_parts : (x c : Assertion) (r : Result (List Expression) ProofFaultKind) (e : Expression) → made_of x c r ≡ Ok e
    → (es : List Expression) × (r ≡ Ok es) × (cited x c es ≡ Ok e)
made_parts x c (Err k) e h = absurd cc
made_parts x c (Ok es) e h = (es, refl, h)

pub no_trees : (ts : Trees) → how_many ts ≡ 0 → ts ≡ none
no_trees none h = refl
no_trees (some t ts) h = absurd (omega arith)

pub none_ordered : {A : Type 0} (xs : List A) → in_profile_order [] xs ≡ []
none_ordered [] = refl
none_ordered (x ∷ xs) = refl

-- two lists with ends of one length
pub ends_agree : {A : Type 0} (xs ys us vs : List A) → xs ++ ys ≡ us ++ vs → length ys ≡ length vs → (xs ≡ us) × (ys ≡ vs)
ends_agree xs ys us vs e n =
    let long : length xs ≡ length us = omega (arith, ap length e, length-append xs ys, length-append us vs, n) in (
      sym (take-append_seam xs ys) ∙ ap (take (length xs)) e ∙ ap (λ k. take k (us ++ vs)) long ∙ take-append_seam us vs,
      sym (drop-append_seam xs ys) ∙ ap (drop (length xs)) e ∙ ap (λ k. drop k (us ++ vs)) long ∙ drop-append_seam us vs,
    )

-- the last items of a list
pub last_items : (xs ys : List (List Symbol)) (n : ℕ) → length ys ≡ n → last n (xs ++ ys) ≡ ys
last_items xs ys n e =
    let at : length (xs ++ ys) - n ≡ length xs = omega (arith, length-append xs ys, e) in
    ap (λ k. drop k (xs ++ ys)) at ∙ drop-append_seam xs ys

pub which : (n most : ℕ) → (n ≤ most) ⊎ (most < n)
which n most = elim (cases_Bool (nat_lt most n)) [ inl y ↦ inr (ltb-true most n y) | inr f ↦ inl (ltb-false most n f) ]

pub not_both : (n most : ℕ) → n ≤ most → most < n → ⊥
not_both n most le lt = omega arith

pub same_stack : {A : Type 0} (st fs ps xs ys below args : List A) → fs ≡ xs → ps ≡ ys → (st ++ xs) ++ ys ≡ below ++ args
    → st ++ (fs ++ ps) ≡ below ++ args
same_stack st fs ps xs ys below args e f h =
    ap (λ l. st ++ l) (ap₂ (λ p q. p ++ q) e f) ∙ sym (append_assoc st xs ys) ∙ h

pub as_many : (f g : Frame) (n k : ℕ) → n ≡ arity g → f ≡ g → k ≡ arity f → n ≡ k
as_many f g n k e same h = e ∙ ap arity (sym same) ∙ sym h

-- steps one after the other
abbrev pub flat : List (List Step) → List Step
flat ps = flat_map (λ p. p) ps

pub listed_as : (hs ks : List Hypothesis) (parts : List (List Step)) (s own : Step) (steps : List Step)
    → steps ≡ flat (in_profile_order hs parts) ++ s ∷ [] → hs ≡ ks → s ≡ own → steps ≡ flat (in_profile_order ks parts) ++ own ∷ []
listed_as hs ks parts s own steps e h k =
    e ∙ ap₂ (λ gs o. flat (in_profile_order gs parts) ++ o ∷ []) h k

pub split_steps : (fs ps : List (List Step)) (s : Step) (steps rest : List Step) → steps ≡ flat (fs ++ ps) ++ s ∷ []
    → steps ++ rest ≡ flat fs ++ (flat ps ++ s ∷ rest)
split_steps fs ps s steps rest e =
    ap (λ ss. ss ++ rest) e
    ∙ append_assoc (flat (fs ++ ps)) (s ∷ []) rest
    ∙ ap (λ ss. ss ++ s ∷ rest) (flat_map-append (λ (p : List Step). p) fs ps)
    ∙ append_assoc (flat fs) (flat ps) (s ∷ rest)
