-- Disjoint variables, from the variables found in the expressions.
use Rattle.std.proofs.Common.{◌≡◌, ◌≢◌, ◌↔◌, [], ◌∷◌, ◌++◌, ◌⊎◌, inl, inr, ℕ, ◌+◌, ◌<◌, ◌≤◌, List, All, Contains, length, take, get_or, subst}
use Rattle.std.proofs.Common.{refl, sym, ap, ◌∙◌, Bool, true, false, cond, ltb}
use Rattle.std.proofs.Common.{⊎_elim, arith}
use Rattle.std.proofs.Math.Seq.{take-length}
use Rattle.std.specs.List.{AllWithin}
use Rattle.std.proofs.lemmas.Bool.{ltb-true, ltb-false}
use Rattle.std.proofs.lemmas.List.{get_or_default, take_more}
use Rattle.std.proofs.lemmas.List.Elements.{AllWithin-more, All-contains, Contains-push, Contains-push_cases, Contains-append_left}
use Rattle.std.proofs.lemmas.List.Elements.{Contains-get_or}
use Rattle.mmsyntax.specs.declared.statement.Symbol.{Symbol}
use Rattle.mmsyntax.specs.declared.statement.Symbol.TheVariants.{Var}
use Rattle.mmsyntax.specs.Blocks.{in_order}
use Rattle.derivation.specs.Derivation.{Expression, IsApart, AreApart}
use Rattle.derivation.specs.Lookups.{PassesAbove}

-- what holds of the elements so far and of the next
pub within_one_more : {X : Type 0} (P : X → Type 0) (xs : List X) (i : ℕ) (e : X) → i < length xs → AllWithin P xs 0 i → P (get_or xs i e)
    → AllWithin P xs 0 (i + 1)
within_one_more P xs i e lt all here = AllWithin-more P xs 0 i all (λ d. subst P (get_or_default xs i e d lt) here)

-- one number more, of the next symbol, which is a variable; or none, since it isn't
pub noted : (found found' : List ℕ) (x : Symbol) (v : ℕ) → x ≡ Var v → found' ≡ found ++ v ∷ []
    → (u : ℕ) → Contains found' u ↔ (Contains found u ⊎ (x ≡ Var u))
noted found found' x v is grown u = rw grown (
  λ h. ⊎_elim (λ old. inl old) (λ same. inr (is ∙ ap Var same)) (Contains-push_cases found v u h),
  λ h. ⊎_elim (λ old. Contains-append_left found _ u old)
      (λ e. let same : v ≡ u = cc in subst (λ n. Contains (found ++ v ∷ []) n) same (Contains-push found v)) h,
)

pub noted_none : (found found' : List ℕ) (x : Symbol) → ((v : ℕ) → x ≢ Var v) → found' ≡ found
    → (u : ℕ) → Contains found' u ↔ (Contains found u ⊎ (x ≡ Var u))
noted_none found found' x other same u = rw same (λ h. inl h, λ h. ⊎_elim (λ old. old) (λ e. absurd (other u e)) h)

-- the numbers found stand for the variables so far; after one more symbol
pub found_more : (found found' : List ℕ) (e : Expression) (i : ℕ) (d : Symbol) → i < length e
    → ((u : ℕ) → Contains found u ↔ Contains (take i e) (Var u))
    → ((u : ℕ) → Contains found' u ↔ (Contains found u ⊎ (get_or e i d ≡ Var u)))
    → (u : ℕ) → Contains found' u ↔ Contains (take (i + 1) e) (Var u)
found_more found found' e i d lt so_far next u =
    rw (take_more e i d lt) (
      λ h. ⊎_elim (λ old. Contains-append_left (take i e) _ (Var u) ((so_far u).0 old))
          (λ new. rw new (Contains-push (take i e) (Var u))) ((next u).0 h),
      λ h. (next u).1 (⊎_elim (λ old. inl ((so_far u).1 old)) (λ new. inr new) (Contains-push_cases (take i e) (get_or e i d) (Var u) h)),
    )

-- all of the ones against all of the others
pub apart-from_all : (pairs : List (ℕ × ℕ)) (us vs : List ℕ) (d e : Expression)
    → ((u : ℕ) → Contains us u ↔ Contains d (Var u)) → ((v : ℕ) → Contains vs v ↔ Contains e (Var v))
    → All (λ u. All (λ v. IsApart pairs u v) vs) us ↔ AreApart pairs d e
apart-from_all pairs us vs d e hu hv = (
  λ all. record {
    apart = λ u v cu cv. All-contains (λ w. IsApart pairs u w) vs v
        (All-contains (λ w. All (λ x. IsApart pairs w x) vs) us u all ((hu u).1 cu)) ((hv v).1 cv);
  },
  λ h. λ k x lt. λ m y lt'. h.apart _ _ ((hu _).0 (Contains-get_or us k x lt)) ((hv _).0 (Contains-get_or vs m y lt')),
)

pub found_all : (found : List ℕ) (e : Expression) (i : ℕ) → length e ≤ i → i ≤ length e
    → ((u : ℕ) → Contains found u ↔ Contains (take i e) (Var u)) → (u : ℕ) → Contains found u ↔ Contains e (Var u)
found_all found e i low high h u =
    let end : i ≡ length e = omega arith in
    let whole : take i e ≡ e = ap (λ k. take k e) end ∙ take-length e in
    rw whole at (h u)

-- the lower of two variables that differ is restricted with the higher, whichever list it is of
pub apart-both : (ps : List (ℕ × ℕ)) (us vs : List ℕ) → All (λ u. All (λ v. PassesAbove ps u v) vs) us
    → All (λ v. All (λ u. PassesAbove ps v u) us) vs ↔ All (λ u. All (λ v. IsApart ps u v) vs) us
apart-both ps us vs low = (
  λ high. λ k d lt. λ m e lt'.
      let u = get_or us k d in
      let v = get_or vs m e in
      apart u v (low k d lt m e lt') (high m e lt' k d lt),
  λ all. λ m e lt'. λ k d lt.
      let h = all k d lt m e lt' in
      (λ same. h.differ (sym same), λ below. swapped _ _ below h.paired),
)
  where
    apart : (u v : ℕ) → PassesAbove ps u v → PassesAbove ps v u → IsApart ps u v
    apart u v here there = record { differ = here.0; paired = pick (ltb u v) refl }
      where
        pick : (b : Bool) → ltb u v ≡ b → Contains ps (cond b (u, v) (v, u))
        pick true e = here.1 (ltb-true u v e)
        pick false e = there.1 (let above = ltb-false u v e in let differ = here.0 in omega arith)

    swapped : (u v : ℕ) → v < u → Contains ps (in_order u v) → Contains ps (v, u)
    swapped u v below h = pick (ltb u v) refl h
      where
        pick : (b : Bool) → ltb u v ≡ b → Contains ps (cond b (u, v) (v, u)) → Contains ps (v, u)
        pick true e there = absurd (let above = ltb-true u v e in omega arith)
        pick false e there = there

-- so that the first list passes the second
pub apart-low : (ps : List (ℕ × ℕ)) (us vs : List ℕ) → All (λ u. All (λ v. IsApart ps u v) vs) us
    → All (λ u. All (λ v. PassesAbove ps u v) vs) us
apart-low ps us vs all = λ k d lt. λ m e lt'. let h = all k d lt m e lt' in (h.differ, λ above. ordered _ _ above h.paired)
  where
    ordered : (u v : ℕ) → u < v → Contains ps (in_order u v) → Contains ps (u, v)
    ordered u v above h = pick (ltb u v) refl h
      where
        pick : (b : Bool) → ltb u v ≡ b → Contains ps (cond b (u, v) (v, u)) → Contains ps (u, v)
        pick true e there = there
        pick false e there = absurd (let below = ltb-false u v e in omega (arith, above, below))
