-- The tests of a citation: what the first misfit says, and what comes of a test that fails.
use Rattle.std.proofs.Common.{◌≡◌, ◌∙◌, ℕ, Bool, true, false, List, [], ◌∷◌, Option, Some, None, Ok, Err, refl, sym, ap}
use Rattle.std.specs.Prelude.{◌&&◌, find, is_some, if◌then◌else◌}
use mathlib.Core.Bool.{not}
use Rattle.std.specs.List.{list_all}
use Rattle.std.specs.Borrow.{Bor}
use Rattle.mmtext.specs.Words.{Word}
use Rattle.derivation.specs.declared.fault.ProofFaultKind.{ProofFaultKind}
use Rattle.derivation.specs.declared.fault.ProofFaultKind.TheVariants.{WrongType, HypothesisDiffers, NotDisjoint}
use Rattle.source.specs.Scopes.{Hypothesis, Assertion}
use Rattle.verifying.specs.Citations.{Expression, subst, substitution, types_fit, hypotheses_fit, pairs_fit, symbols_apart}
use Rattle.verifying.specs.Verifies.{Entry, cited}
use Rattle.explaining.specs.declared.finding.Finding.{Finding}
use Rattle.explaining.specs.Shown.{AreMeeting, Tests, FailsToCite}

-- ---- misfits

module _ {A : Type 0} (q : A → Bool) where
  fits_next : (z : A) (zs : List A) (b : Bool) → q z ≡ b → (find (λ z. not (q z)) zs ≡ None → list_all q zs ≡ true)
      → (if not b then Some z else find (λ z. not (q z)) zs) ≡ None → (q z && list_all q zs) ≡ true
  fits_next z zs true e rest h = ap (λ b. b && list_all q zs) e ∙ rest h
  fits_next z zs false e rest h = absurd cc

  pub all_fit : (zs : List A) → find (λ z. not (q z)) zs ≡ None → list_all q zs ≡ true
  all_fit [] h = refl
  all_fit (z ∷ zs) h = fits_next z zs (q z) refl (λ k. all_fit zs k) h

  misfits_next : (z : A) (zs : List A) (y : A) (b : Bool) → q z ≡ b
      → (find (λ z. not (q z)) zs ≡ Some y → (list_all q zs ≡ false) × (q y ≡ false))
      → (if not b then Some z else find (λ z. not (q z)) zs) ≡ Some y → ((q z && list_all q zs) ≡ false) × (q y ≡ false)
  misfits_next z zs y true e rest h = let r = rest h in (ap (λ b. b && list_all q zs) e ∙ r.0, r.1)
  misfits_next z zs y false e rest h = let same : z ≡ y = cc in (ap (λ b. b && list_all q zs) e, ap q (sym same) ∙ e)

  pub one_misfits : (zs : List A) (y : A) → find (λ z. not (q z)) zs ≡ Some y → (list_all q zs ≡ false) × (q y ≡ false)
  one_misfits [] y h = absurd cc
  one_misfits (z ∷ zs) y h = misfits_next z zs y (q z) refl (λ k. one_misfits zs y k) h

some : Hypothesis × Expression → Option (Hypothesis × Expression)
some p = Some p

pub same_misfit : (h k : Hypothesis) (e d : Expression) → h ≡ k → e ≡ d
    → Some (let p : Hypothesis × Expression = (h, e) in p) ≡ Some (let p : Hypothesis × Expression = (k, d) in p)
unfolding some
same_misfit h k e d p r = ap (λ h. some (h, e)) p ∙ ap (λ e. some (k, e)) r

-- ---- what comes of them

module _ (x c : Assertion) (es : List Expression) where
  abbrev made : Entry
  made = Ok (subst (substitution c es) c.statement)

  abbrev behind_premises : Entry
  behind_premises = if not (pairs_fit x c es) then Err NotDisjoint else made

  abbrev behind_types : Entry
  behind_types = if not (hypotheses_fit c es) then Err HypothesisDiffers else behind_premises

  failed_by : (finding : Finding) (fits : Bool) (kind : ProofFaultKind) → Tests x c es fits kind (Some finding)
      → cited x c es ≡ Err kind → FailsToCite x c es finding
  failed_by finding fits kind h e = record { finds = h.1; fails = e ∙ ap (λ k. Err k) (sym h.2) }

  pub fails_types : (finding : Finding) → Tests x c es (types_fit c es) WrongType (Some finding) → FailsToCite x c es finding
  fails_types finding h =
      failed_by finding (types_fit c es) WrongType h (ap (λ b. if not b then Err WrongType else behind_types) h.0)

  module _ (types : types_fit c es ≡ true) where
    typed : cited x c es ≡ behind_types
    typed = ap (λ b. if not b then Err WrongType else behind_types) types

    pub fails_premises : (finding : Finding) → Tests x c es (hypotheses_fit c es) HypothesisDiffers (Some finding)
        → FailsToCite x c es finding
    fails_premises finding h =
        failed_by finding (hypotheses_fit c es) HypothesisDiffers h
        (typed ∙ ap (λ b. if not b then Err HypothesisDiffers else behind_premises) h.0)

    module _ (premises : hypotheses_fit c es ≡ true) where
      substituted : cited x c es ≡ behind_premises
      substituted = typed ∙ ap (λ b. if not b then Err HypothesisDiffers else behind_premises) premises

      pub fails_pairs : (finding : Finding) → Tests x c es (pairs_fit x c es) NotDisjoint (Some finding) → FailsToCite x c es finding
      fails_pairs finding h =
          failed_by finding (pairs_fit x c es) NotDisjoint h (substituted ∙ ap (λ b. if not b then Err NotDisjoint else made) h.0)

      pub passes : pairs_fit x c es ≡ true → cited x c es ≡ Ok (subst (substitution c es) c.statement)
      passes h = substituted ∙ ap (λ b. if not b then Err NotDisjoint else made) h

-- ---- variables

pub meeting_is : (x : Assertion) (us vs : List Word) (o : Option (Bor (List ℕ) × Bor (List ℕ))) → AreMeeting x us vs o
    → is_some o ≡ not (list_all (λ u. list_all (symbols_apart x u) vs) us)
meeting_is x us vs None h = sym (ap not h)
meeting_is x us vs (Some p) h = sym (ap not (one_misfits (λ u. list_all (symbols_apart x u) vs) us p.0.now h.0).0)
