-- Frames by place, below a limit, are the frames of the assertions before it.
use Rattle.std.proofs.Common.{◌≡◌, ℕ, zero, suc, ◌+◌, ◌<◌, ◌≤◌, Bool, true, false, cond, List, [], ◌∷◌, ◌++◌, Option, None, Some, length}
use Rattle.std.proofs.Common.{take, map, slice_get, refl, sym, ap, subst, ◌∙◌, append_assoc, arith, length-append, ltb, get_or}
use Rattle.std.specs.Str.{bytes_eq}
use Rattle.std.proofs.lemmas.List.{take_more, length-take-le}
use Rattle.std.proofs.lemmas.Bool.Decides.{Decides-ltb}
use Rattle.mmsyntax.specs.Tables.{Tables}
use Rattle.mmsyntax.specs.declared.statement.Frame.{Frame}
use Rattle.mmsyntax.specs.declared.statement.Assertion.{Assertion}
use Rattle.mmframes.specs.Frames.{frame}
use Rattle.derivation.specs.Databases.{frame_in, citable_at, ChecksAt, HasFaultAt}
use Rattle.proofcheck.specs.Reports.{place_from, frame_below, first_of_two}
use Rattle.derivation.specs.Derivation.{Citable, Checks}
use Rattle.derivation.specs.Faults.{HasProofFault}
use Rattle.derivation.specs.declared.fault.ProofFault.{ProofFault}
use Rattle.mmsyntax.specs.Tables.{Contents}
use Rattle.derivation.proofs.Plain.{at_seam}

pub place_from-push : (n : ℕ) (label : List ℕ) (xs : List Assertion) (a : Assertion)
    → place_from n label (xs ++ a ∷ []) ≡ first_of_two (place_from n label xs)
    (cond (bytes_eq a.label label) (Some (n + length xs)) None)
place_from-push n label [] a =
    ap (λ m. cond (bytes_eq a.label label) (Some m) None) (let e : n ≡ n + 0 = omega arith in e)
place_from-push n label (x ∷ xs) a =
    elim (bytes_eq x.label label)
    as (λ b. cond b (Some n) (place_from (n + 1) label (xs ++ a ∷ []))
    ≡ first_of_two (cond b (Some n) (place_from (n + 1) label xs))
    (cond (bytes_eq a.label label) (Some (n + length (x ∷ xs))) None)) [
      | true ↦ refl
      | false ↦ place_from-push (n + 1) label xs a
          ∙ ap (λ m. first_of_two (place_from (n + 1) label xs) (cond (bytes_eq a.label label) (Some m) None))
          (let e : n + 1 + length xs ≡ n + length (x ∷ xs) = omega arith in e)
    ]

pub place_from-low : (n : ℕ) (label : List ℕ) (xs : List Assertion) (m : ℕ) → place_from n label xs ≡ Some m → n ≤ m
place_from-low n label [] m e = cc
place_from-low n label (x ∷ xs) m e =
    elim (bytes_eq x.label label) as (λ b. cond b (Some n) (place_from (n + 1) label xs) ≡ Some m → n ≤ m) [
      | true ↦ λ h. let same : n ≡ m = cc in omega arith
      | false ↦ λ h. let low = place_from-low (n + 1) label xs m h in omega arith
    ] e

none-below : (frames : List Frame) (limit : ℕ) (o : Option ℕ) → ((m : ℕ) → o ≡ Some m → limit ≤ m) → frame_below frames limit o ≡ None
none-below frames limit None h = refl
none-below frames limit (Some m) h =
    elim (ltb m limit) as (λ b. ltb m limit ≡ b → cond b (slice_get frames m) None ≡ None)
    [ true ↦ λ e. let le = h m refl in let lt : m < limit = (Decides-ltb m limit).0 e in absurd (omega arith) | false ↦ λ e. refl ] refl

-- the frames below a limit, found by the places of the labels, are those of the first assertions
below-general : (p : Tables) (label : List ℕ) (xs : List Assertion) (pre : List Frame) (k : ℕ)
    → frame_below (pre ++ map (frame p) xs) (length pre + k) (place_from (length pre) label xs) ≡ frame_in p (take k xs) label
below-general p label xs pre zero = none-below _ _ _ (λ m e. let low = place_from-low (length pre) label xs m e in omega arith)
below-general p label [] pre (suc k) = refl
below-general p label (x ∷ xs) pre (suc k) =
    elim (bytes_eq x.label label)
    as (λ b. frame_below (pre ++ map (frame p) (x ∷ xs)) (length pre + suc k)
    (cond b (Some (length pre)) (place_from (length pre + 1) label xs))
    ≡ cond b (Some (frame p x)) (frame_in p (take k xs) label)) [
      | true ↦ let lt : length pre < length pre + suc k = omega arith in
          rw ((Decides-ltb (length pre) (length pre + suc k)).1 lt) (at_seam pre (frame p x) (map (frame p) xs))
      | false ↦ let more : length (pre ++ frame p x ∷ []) ≡ length pre + 1 = length-append pre (frame p x ∷ []) in
          let limit : length pre + suc k ≡ length (pre ++ frame p x ∷ []) + k = omega arith in
          let list : pre ++ map (frame p) (x ∷ xs) ≡ (pre ++ frame p x ∷ []) ++ map (frame p) xs = rw append_assoc refl in
          rw (list, limit, ← more) (below-general p label xs (pre ++ frame p x ∷ []) k)
    ]

pub below-cited : (p : Tables) (xs : List Assertion) (k : ℕ) (label : List ℕ)
    → frame_below (map (frame p) xs) k (place_from 0 label xs) ≡ frame_in p (take k xs) label
below-cited p xs k label = ap (λ n. frame_below (map (frame p) xs) n (place_from 0 label xs)) (let e : k ≡ 0 + k = omega arith in e)
    ∙ below-general p label xs [] k

-- one more place noted
pub places_more : (found found' : Option ℕ) (label : List ℕ) (xs : List Assertion) (i : ℕ) (a : Assertion) → i < length xs → a
    ≡ get_or xs i a
    → found ≡ place_from 0 label (take i xs) → found' ≡ first_of_two found (cond (bytes_eq a.label label) (Some i) None)
    → found' ≡ place_from 0 label (take (i + 1) xs)
places_more found found' label xs i a lt is so_far next =
    let front : take (i + 1) xs ≡ take i xs ++ a ∷ [] = take_more xs i a lt ∙ ap (λ x. take i xs ++ x ∷ []) (sym is) in
    let place : 0 + length (take i xs) ≡ i = omega (arith, length-take-le i xs) in
    rw (front, place_from-push 0 label (take i xs) a, place, ← so_far) next

pub note_one : (b : Bool) (old new : Option ℕ) (place : ℕ) → new ≡ cond b (Some place) old → (b ≡ true → old ≡ None)
    → new ≡ first_of_two old (cond b (Some place) None)
note_one true old new place e h = rw (h refl) e
note_one false None new place e h = e
note_one false (Some m) new place e h = e

module _ (db : Contents) (i : ℕ) (a : Assertion) (lib : Citable) (same_lib : lib ≡ citable_at db i)
    (at : slice_get db.assertions i ≡ Some a) where
  pub checks-at : Checks lib db.prelude a → ChecksAt db i
  checks-at h = λ b at'.
      let same : a ≡ b = cc in
      subst (λ x. Checks (citable_at db i) db.prelude x) same (subst (λ l. Checks l db.prelude a) same_lib h)

  pub fault-at : (fault : ProofFault) → HasProofFault lib db.prelude a fault → HasFaultAt db i fault
  fault-at fault h = (a, at, subst (λ l. HasProofFault l db.prelude a fault) same_lib h)
