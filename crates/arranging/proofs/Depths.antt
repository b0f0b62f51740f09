-- How many blocks are open behind items, one item after the other.
use Rattle.std.proofs.Common.{◌≡◌, ◌∙◌, ℕ, zero, suc, ◌<◌, ◌≤◌, ◌+◌, ◌-◌, Bool, true, false, List, [], ◌∷◌, ◌++◌}
use Rattle.std.proofs.Common.{Option, Some, None, IfSome, length, take, get_or, refl, sym, ap, subst, arith, inl, inr, length-append}
use Rattle.std.specs.Prelude.{slice_get}
use Rattle.std.proofs.Math.ListN.{get_or-append}
use Rattle.std.proofs.Math.Seq.{get_or-append_seam}
use Rattle.std.proofs.lemmas.Bool.{cases_lt}
use Rattle.std.proofs.lemmas.List.{take_all, take_more, take-append-le}
use Rattle.std.proofs.lemmas.Option.{slice_get_within, slice_get-get_or, get_or_from_slice_get}
use Rattle.leaving.specs.declared.part.Part.{Part}
use Rattle.leaving.specs.declared.part.Part.TheVariants.{Description, Heading, Opening, Closing, Assertion, Other}
use Rattle.leaving.specs.Leaving.{open_behind}
use Rattle.arranging.specs.Arranged.{ends_described}
use Rattle.arranging.specs.Places.{AreDepths}

pub open_both : (n d : ℕ) (xs ys : List Part) → open_behind n xs ≡ Some d → open_behind n (xs ++ ys) ≡ open_behind d ys
open_both n d [] ys h = let e : n ≡ d = cc in ap (λ k. open_behind k ys) e
open_both n d (Description ∷ xs) ys h = open_both n d xs ys h
open_both n d (Heading ∷ xs) ys h = open_both n d xs ys h
open_both n d (Opening ∷ xs) ys h = open_both (suc n) d xs ys h
open_both zero d (Closing ∷ xs) ys h = absurd cc
open_both (suc n) d (Closing ∷ xs) ys h = open_both n d xs ys h
open_both n d (Assertion f ∷ xs) ys h = open_both n d xs ys h
open_both n d (Other ∷ xs) ys h = open_both n d xs ys h

module _ (ps : List Part) (ds : List (Option ℕ)) (x : Part) (o : Option ℕ) (h : AreDepths ps ds)
    (now : IfSome o (λ d. open_behind 0 (ps ++ x ∷ []) ≡ Some d)) where
  many : length (ds ++ o ∷ []) ≡ suc (length (ps ++ x ∷ []))
  many = omega (arith, length-append ds (o ∷ []), length-append ps (x ∷ []), h.many)

  each : (k d : ℕ) → slice_get (ds ++ o ∷ []) k ≡ Some (Some d) → open_behind 0 (take k (ps ++ x ∷ [])) ≡ Some d
  each k d at =
      let lt = slice_get_within (ds ++ o ∷ []) k (Some d) at in
      let is : get_or (ds ++ o ∷ []) k None ≡ Some d = get_or_from_slice_get (ds ++ o ∷ []) k (Some d) None at in
      elim (cases_lt k (length ds)) [
        | inl less ↦
            let before : slice_get ds k ≡ Some (Some d) =
            slice_get-get_or ds k None less ∙ ap (λ v. Some v) (sym (get_or-append ds (o ∷ []) None k less) ∙ is) in
            let within : k ≤ length ps = omega (arith, less, h.many) in
            ap (open_behind 0) (take-append-le k ps (x ∷ []) within) ∙ h.each k d before
        | inr more ↦
            let last : k ≡ length ds = omega (arith, lt, more, length-append ds (o ∷ [])) in
            let here : o ≡ Some d = sym (get_or-append_seam ds o [] None) ∙ subst (λ i. get_or (ds ++ o ∷ []) i None ≡ Some d) last is in
            let all : length (ps ++ x ∷ []) ≤ k = omega (arith, last, h.many, length-append ps (x ∷ [])) in
            ap (open_behind 0) (take_all k (ps ++ x ∷ []) all) ∙ subst (λ v. IfSome v (λ d. open_behind 0 (ps ++ x ∷ []) ≡ Some d)) here now
      ]

  pub one_deeper : AreDepths (ps ++ x ∷ []) (ds ++ o ∷ [])
  one_deeper = record { many = many; each = each }

-- ---- one more of them

module _ (xs : List Part) (i : ℕ) (x : Part) (lt : i < length xs) where
  pub open_more : (d n : ℕ) → open_behind 0 (take i xs) ≡ Some d → open_behind d (get_or xs i x ∷ []) ≡ Some n
      → open_behind 0 (take (i + 1) xs) ≡ Some n
  open_more d n before now =
      ap (open_behind 0) (take_more xs i x lt) ∙ (open_both 0 d (take i xs) (get_or xs i x ∷ []) before ∙ now)

  abbrev pub IsStep : Option ℕ → Option ℕ → Type 0
  IsStep was o = IfSome o (λ now. (d : ℕ) × (was ≡ Some d) × (open_behind d (get_or xs i x ∷ []) ≡ Some now))

  pub now_more : (was o : Option ℕ) → IfSome was (λ d. open_behind 0 (take i xs) ≡ Some d) → IsStep was o
      → IfSome o (λ d. open_behind 0 (take (i + 1) xs) ≡ Some d)
  now_more was None before step = tt
  now_more was (Some now) before step =
      open_more step.0 now (subst (λ v. IfSome v (λ d. open_behind 0 (take i xs) ≡ Some d)) step.1 before) step.2

  pub depths_more : (ds : List (Option ℕ)) (was o : Option ℕ) → AreDepths (take i xs) ds
      → IfSome was (λ d. open_behind 0 (take i xs) ≡ Some d) → IsStep was o → AreDepths (take (i + 1) xs) (ds ++ o ∷ [])
  depths_more ds was o h before step =
      let more = take_more xs i x lt in
      subst (λ ys. AreDepths ys (ds ++ o ∷ [])) (sym more)
      (one_deeper (take i xs) ds (get_or xs i x) o h
      (subst (λ ys. IfSome o (λ d. open_behind 0 ys ≡ Some d)) more (now_more was o before step)))

-- ---- the last of them

abbrev pub describes : Option Part → Bool
describes (Some Description) = true
describes _ = false

ends_one : (p : Part) → ends_described (p ∷ []) ≡ describes (Some p)
ends_one Description = refl
ends_one Heading = refl
ends_one Opening = refl
ends_one Closing = refl
ends_one (Assertion f) = refl
ends_one Other = refl

ends_later : (p q : Part) (ps : List Part) → ends_described (p ∷ (q ∷ ps)) ≡ ends_described (q ∷ ps)
ends_later Description q ps = refl
ends_later Heading q ps = refl
ends_later Opening q ps = refl
ends_later Closing q ps = refl
ends_later (Assertion f) q ps = refl
ends_later Other q ps = refl

ends_by : (p : Part) (ps : List Part) → ends_described (p ∷ ps) ≡ describes (slice_get (p ∷ ps) (length ps))
ends_by p [] = ends_one p
ends_by p (q ∷ ps) = ends_later p q ps ∙ ends_by q ps

pub ends_last : (ps : List Part) → ends_described ps ≡ describes (slice_get ps (length ps - 1))
ends_last [] = refl
ends_last (p ∷ ps) =
    let last : length ps ≡ length (p ∷ ps) - 1 = omega arith in
    ends_by p ps ∙ ap (λ i. describes (slice_get (p ∷ ps) i)) last

pub last_of : (ps : List Part) → 1 ≤ length ps → (p : Part) × (ps ≡ take (length ps - 1) ps ++ p ∷ [])
last_of ps some =
    let last = length ps - 1 in
    (get_or ps last Description, sym (take_all (last + 1) ps (omega (arith, some))) ∙ take_more ps last Description (omega (arith, some)))

pub undescribing : (p : Part) → (p ≡ Description → ⊥) → describes (Some p) ≡ false
undescribing Description not_one = absurd (not_one refl)
undescribing Heading not_one = refl
undescribing Opening not_one = refl
undescribing Closing not_one = refl
undescribing (Assertion f) not_one = refl
undescribing Other not_one = refl
