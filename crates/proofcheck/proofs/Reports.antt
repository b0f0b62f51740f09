-- What is found by all who check is the first fault.
use Rattle.std.proofs.Common.{◌≡◌, ◌≢◌, ℕ, ◌<◌, ◌≤◌, List, [], ◌∷◌, ◌++◌, Option, None, Some, length, map, true, false, cond, All}
use Rattle.std.proofs.Common.{arith, ◌⊎◌, inl, inr, ⊎_elim, ltb, refl, sym, ap, subst, append_assoc}
use Rattle.std.specs.Option.{is_some}
use Rattle.std.proofs.lemmas.List.{append-nil}
use Rattle.std.proofs.lemmas.List.Elements.{All-head, All-tail, All-map, All-weaker}
use Rattle.std.proofs.lemmas.List.Sorted.{IsPermutation-sym}
use Rattle.std.proofs.lemmas.Option.{slice_get_within}
use Rattle.std.proofs.lemmas.Bool.{cases_lt, ltb-true, ltb-false}
use Rattle.mmsyntax.specs.Tables.{Contents}
use Rattle.ranges.specs.Ranges.{Has}
use Rattle.ranges.proofs.Members.{all_has, has_append_left, has_append_right, has_append_cases, has_permutation}
use Rattle.claims.specs.Claims.{Counting, Claimant, AreClaimed, Claims, IsClaimantOf, IsNewOf, claims_of, up_to}
use Rattle.claims.proofs.UpTo.{each_below, below_has}
use Rattle.derivation.specs.declared.fault.ProofFault.{ProofFault}
use Rattle.derivation.specs.declared.fault.ProofFaultKind.TheVariants.{NoMemory}
use Rattle.derivation.specs.Databases.{ChecksAt, IsFirstFault, AllCheck}
use Rattle.proofcheck.specs.declared.checkers.Checker.{Checker}
use Rattle.proofcheck.specs.Reports.{FoundAmong, earlier, earliest}
use Rattle.proofcheck.specs.Checkers.{checker_of, IsReady, HasChecked}

abbrev Found : Type 0
Found = Option (ℕ × ProofFault)

-- of one more
pub earliest_last : (found : Found) (others : List Found) (last : Found)
    → earliest found (others ++ last ∷ []) ≡ earlier (earliest found others) last
earliest_last found [] last = refl
earliest_last found (other ∷ others) last = earliest_last (earlier found other) others last

pub all_ready : (home : Counting) (cs : List Claimant) → All (IsNewOf home) cs → All (IsReady home) (map checker_of cs)
all_ready home cs new =
    All-map (IsReady home) checker_of cs (All-weaker (IsNewOf home) (λ c. IsReady home (checker_of c)) (λ c is. (is, refl)) cs new)

module _ (db : Contents) where
  -- of the same places
  among_same : (P Q : ℕ → Type 0) (found : Found) → ((k : ℕ) → P k → Q k) → ((k : ℕ) → Q k → P k) → FoundAmong db P found
      → FoundAmong db Q found
  among_same P Q None to from f = λ k here. f k (from k here)
  among_same P Q (Some a) to from f = (f.0, to f.0 f.1, f.2, f.3, λ j lt here. f.4 j lt (from j here))

  -- of the places of both
  module _ (P Q R : ℕ → Type 0) (left : (k : ℕ) → P k → R k) (right : (k : ℕ) → Q k → R k) (split : (k : ℕ) → R k → P k ⊎ Q k) where
    checks_both : (k : ℕ) → R k → (P k → ChecksAt db k) → (Q k → ChecksAt db k) → ChecksAt db k
    checks_both k here one other = ⊎_elim one other (split k here)

    among_both : (found other : Found) → FoundAmong db P found → FoundAmong db Q other → FoundAmong db R (earlier found other)
    among_both None None f o = λ k here. checks_both k here (f k) (o k)
    among_both None (Some b) f o = (o.0, right o.0 o.1, o.2, o.3, λ j lt here. checks_both j here (f j) (o.4 j lt))
    among_both (Some a) None f o = (f.0, left f.0 f.1, f.2, f.3, λ j lt here. checks_both j here (f.4 j lt) (o j))
    among_both (Some a) (Some b) f o =
        elim (ltb b.0 a.0) as (λ t. ltb b.0 a.0 ≡ t → FoundAmong db R (cond t (Some b) (Some a))) [
          | true ↦ λ e. let less = ltb-true b.0 a.0 e in
              (o.0, right o.0 o.1, o.2, o.3, λ j lt here. checks_both j here (f.4 j (omega (arith, less, lt, o.2, f.2))) (o.4 j lt))
          | false ↦ λ e. let less = ltb-false b.0 a.0 e in
              (f.0, left f.0 f.1, f.2, f.3, λ j lt here. checks_both j here (f.4 j lt) (o.4 j (omega (arith, less, lt, o.2, f.2))))
        ] refl

  -- of the places of two lists
  among_lists : (xs ys : List ℕ) (found other : Found) → FoundAmong db (λ k. Has k xs) found → FoundAmong db (λ k. Has k ys) other
      → FoundAmong db (λ k. Has k (xs ++ ys)) (earlier found other)
  among_lists xs ys =
      among_both (λ k. Has k xs) (λ k. Has k ys) (λ k. Has k (xs ++ ys)) (λ k has. has_append_left xs ys k has)
      (λ k has. has_append_right xs ys k has) (λ k has. has_append_cases xs ys k has)

  -- one more place is claimed, behind those before it, and is checked where no fault was found before
  module _ (home : Counting) (n : ℕ) (old new : Claimant) (claims : Claims home n old new) where
    abbrev Before : ℕ → Type 0
    Before k = Has k old.claimed

    abbrev After : ℕ → Type 0
    After k = Has k new.claimed

    is_last : new.claimed ≡ old.claimed ++ n ∷ []
    is_last = ap (λ (c : Claimant). c.claimed) claims.is

    was_before : (k : ℕ) → Before k → After k
    was_before k has = subst (λ (l : List ℕ). Has k l) (sym is_last) (has_append_left old.claimed (n ∷ []) k has)

    is_after : (k : ℕ) → k ≡ n → After k
    is_after k is = subst (λ (l : List ℕ). Has k l) (sym is_last) (has_append_right old.claimed (n ∷ []) k (inl is))

    before_or_last : (k : ℕ) → After k → Before k ⊎ (k ≡ n)
    before_or_last k has =
        ⊎_elim (λ h. inl h) (λ h. ⊎_elim (λ e. inr e) (λ none. absurd none) h)
        (has_append_cases old.claimed (n ∷ []) k (subst (λ (l : List ℕ). Has k l) is_last has))

    pub claimed_checked : (found other : Found) → is_some found ≡ false → FoundAmong db Before found → FoundAmong db (λ k. k ≡ n) other
        → FoundAmong db After other
    claimed_checked None None e f o = among_both Before (λ k. k ≡ n) After was_before is_after before_or_last None None f o
    claimed_checked None (Some b) e f o = among_both Before (λ k. k ≡ n) After was_before is_after before_or_last None (Some b) f o
    claimed_checked (Some a) other e f o = let none : ⊥ = cc in absurd none

    pub claimed_behind : (found : Found) → is_some found ≡ true → FoundAmong db Before found → FoundAmong db After found
    claimed_behind None e f = let none : ⊥ = cc in absurd none
    claimed_behind (Some found) e f =
        let below : f.0 < n = all_has (λ m. m < n) old.claimed f.0 claims.later f.1 in (
          f.0,
          was_before f.0 f.1,
          f.2,
          f.3,
          λ j lt here.
              ⊎_elim (λ h. f.4 j lt h) (λ (e : j ≡ n). absurd (omega (arith, below, lt, e))) (before_or_last j here),
        )

    pub claimed_own : IsClaimantOf home old → IsClaimantOf home new
    claimed_own own = subst (IsClaimantOf home) (sym claims.is) own

  -- ---- all who check

  module _ (home : Counting) where
    all_checkers : (before : List ℕ) (found : Found) (cs : List Checker) → All (HasChecked db home) cs
        → FoundAmong db (λ k. Has k before) found
        → FoundAmong db (λ k. Has k (before ++ claims_of (map (λ c. c.claimant) cs))) (earliest found (map (λ c. c.found) cs))
    all_checkers before found [] checked f =
        subst (λ (l : List ℕ). FoundAmong db (λ k. Has k l) found) (sym (append-nil before)) f
    all_checkers before found (c ∷ cs) checked f =
        let own = All-head (HasChecked db home) c cs checked in
        let further = claims_of (map (λ c. c.claimant) cs) in
        let first = earliest (earlier found c.found) (map (λ c. c.found) cs) in
        subst (λ (l : List ℕ). FoundAmong db (λ k. Has k l) first) (append_assoc before c.claimant.claimed further)
        (all_checkers (before ++ c.claimant.claimed) (earlier found c.found) cs (All-tail (HasChecked db home) c cs checked)
        (among_lists before c.claimant.claimed found c.found f own.found))

    all_claimed : (cs : List Checker) → All (HasChecked db home) cs → 0 < length cs
        → (claimed : AreClaimed home (map (λ c. c.claimant) cs)) → claimed.many ≡ home.count
    all_claimed [] checked some claimed = absurd (omega (arith, some))
    all_claimed (c ∷ cs) checked some claimed = claimed.all c.claimant (inl refl) (All-head (HasChecked db home) c cs checked).ended

    -- together they claimed each place, and nothing else
    pub found_everywhere : (cs : List Checker) → All (HasChecked db home) cs → 0 < length cs → home.count ≡ length db.assertions
        → AreClaimed home (map (λ c. c.claimant) cs)
        → FoundAmong db (λ k. k < length db.assertions) (earliest None (map (λ c. c.found) cs))
    found_everywhere cs checked some count claimed =
        let claims = claims_of (map (λ c. c.claimant) cs) in
        let many = all_claimed cs checked some claimed in
        let back = IsPermutation-sym (up_to claimed.many) claims claimed.each in
        among_same (λ k. Has k claims) (λ k. k < length db.assertions) (earliest None (map (λ c. c.found) cs))
        (λ k has.
        let below = all_has (λ m. m < claimed.many) (up_to claimed.many) k (each_below claimed.many)
        (has_permutation claims (up_to claimed.many) k back has) in
        omega (arith, below, many, count))
        (λ k lt. has_permutation (up_to claimed.many) claims k claimed.each
        (below_has claimed.many k (omega (arith, lt, many, count))))
        (all_checkers [] None cs checked (λ k has. absurd has))

  -- ---- what is found among all assertions

  -- behind the last assertion nothing is to be checked
  past_last : (k : ℕ) → length db.assertions ≤ k → ChecksAt db k
  past_last k le = λ a at. let lt = slice_get_within db.assertions k a at in absurd (omega arith)

  pub none_found : FoundAmong db (λ k. k < length db.assertions) None → AllCheck db
  none_found f = λ k. elim (cases_lt k (length db.assertions)) [ inl lt ↦ f k lt | inr le ↦ past_last k le ]

  pub first_found : (found : ℕ × ProofFault) → FoundAmong db (λ k. k < length db.assertions) (Some found) → found.1.kind ≢ NoMemory
      → IsFirstFault db found.0 found.1
  first_found found f n = (f.0, f.2, f.3 n, λ j lt. f.4 j lt (omega (arith, lt, f.1)))
