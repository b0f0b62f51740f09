-- A source whose assertions are checked one after the other.
use Rattle.std.proofs.Common.{◌≡◌, ℕ, zero, suc, ◌+◌, ◌<◌, Bool, true, false, cond, List, [], ◌∷◌, ◌++◌, length, filter, take, refl, sym, ap}
use Rattle.std.proofs.Common.{subst as transport, ◌∙◌, append_assoc, append-nil, inl, inr, arith}
use Rattle.std.specs.Prelude.{slice_get, Some, None}
use Rattle.std.specs.Option.{option_map, option_or}
use Rattle.std.proofs.lemmas.Option.{slice_get_within}
use Rattle.mmtext.specs.Words.{Word}
use Rattle.mmsyntax.proofs.Items.{take_next, there_is}
use Rattle.derivation.specs.declared.fault.ProofFault.{ProofFault}
use Rattle.source.specs.Scopes.{Assertion, Scope}
use Rattle.source.specs.Whole.{AreAssertionsWhole, IsWhole}
use Rattle.verifying.specs.Verifies.{IsVerified, AreVerified}
use Rattle.verifying.specs.Faults.{fault_of, first_fault, fault_in}
use Rattle.verifying.proofs.Verified.{parts_verify}
use Rattle.verifying.proofs.Faulty.{verified_is}
use Rattle.sourceframes.specs.declared.frame.Frame.{Frame}
use Rattle.sourceframes.specs.Frames.{IsFrameOf, AreFrames}
use Rattle.sourcecheck.specs.declared.sources.Unverified.{Unverified}
use Rattle.sourcecheck.specs.declared.sources.Unverified.TheVariants as unverified
use Rattle.sourcecheck.specs.Answers.{IsRefusedAt, IsRefusedIn}
use Rattle.sourceframes.proofs.Numbered.{got_of}

-- one more that is verified
pub verified_more : (xs : List Assertion) (n : ℕ) (x : Assertion) → slice_get xs n ≡ Some x → AreVerified [] (take n xs)
    → IsVerified (take n xs) x → AreVerified [] (take (n + 1) xs)
verified_more xs n x at all one =
    transport (AreVerified []) (sym (take_next xs n x at)) ((parts_verify [] (take n xs) (x ∷ [])).1 (all, (one, tt)))

-- one more frame
pub frames_more : (name : ℕ → Word) (xs : List Assertion) (n : ℕ) (x : Assertion) (fs : List Frame) (f : Frame)
    → slice_get xs n ≡ Some x → length fs ≡ length (take n xs) → AreFrames name (take n xs) fs → IsFrameOf name f x
    → AreFrames name (take (n + 1) xs) (fs ++ f ∷ [])
frames_more name xs n x fs f at long all one =
    transport (λ ys. AreFrames name ys (fs ++ f ∷ [])) (sym (take_next xs n x at)) more
  where
    more : AreFrames name (take n xs ++ x ∷ []) (fs ++ f ∷ [])
    more k c g h e =
        elim (got_of (take n xs) x c k h) [
          | inl p ↦ elim (got_of fs f g k e) [
            | inl q ↦ all k c g p q
            | inr q ↦ let lt = slice_get_within (take n xs) k c p in let is = q.0 in absurd (omega (arith, lt, is, long))
          ]
          | inr p ↦ elim (got_of fs f g k e) [
            | inl q ↦ let lt = slice_get_within fs k g q in let is = p.0 in absurd (omega (arith, lt, is, long))
            | inr q ↦ transport (λ (y : Assertion). IsFrameOf name g y) p.1 (transport (λ (h : Frame). IsFrameOf name h x) q.1 one)
          ]
        ]

-- the first fault stands behind what is verified
first_behind : (s : Scope) (earlier xs : List Assertion) (k : ℕ) (x : Assertion) (f : ProofFault) → AreAssertionsWhole s earlier xs
    → AreVerified earlier (take k xs) → slice_get xs k ≡ Some x → fault_of (earlier ++ take k xs) x ≡ Some f
    → first_fault earlier xs ≡ Some (x.label, f)
first_behind s earlier [] k x f w v at h = absurd cc
first_behind s earlier (y ∷ ys) zero x f w v at h =
    let e : y ≡ x = cc in
    let here : fault_of earlier y ≡ Some f =
    ap (fault_of earlier) e ∙ ap (λ es. fault_of es x) (sym (append-nil earlier)) ∙ h in
    ap (λ o. option_or (option_map (λ g. (y.label, g)) o) (first_fault (earlier ++ y ∷ []) ys)) here
    ∙ ap (λ (z : Assertion). Some (z.label, f)) e
first_behind s earlier (y ∷ ys) (suc k) x f w v at h =
    let here : fault_of earlier y ≡ None = (verified_is earlier y y.proof refl w.0.proof).0 v.0 in
    ap (λ o. option_or (option_map (λ g. (y.label, g)) o) (first_fault (earlier ++ y ∷ []) ys)) here
    ∙ first_behind s (earlier ++ y ∷ []) ys k x f w.1 v.1 at
    (ap (λ es. fault_of es x) (append_assoc earlier (y ∷ []) (take k ys)) ∙ h)

pub first_found : (s : Scope) (k : ℕ) (x : Assertion) (f : ProofFault) → IsWhole s → AreVerified [] (take k s.assertions)
    → slice_get s.assertions k ≡ Some x → fault_of (take k s.assertions) x ≡ Some f → fault_in s ≡ Some (x.label, f)
first_found s k x f whole v at h = first_behind s [] s.assertions k x f whole.assertions v at h

-- ---- what is told of a source

pub refused_in : (s : Scope) (k : ℕ) (u : Unverified) → IsWhole s → k < length s.assertions → AreVerified [] (take k s.assertions)
    → ((j : ℕ) (y : Assertion) → j < k → slice_get s.assertions j ≡ Some y → IsVerified (take j s.assertions) y)
    → IsRefusedAt s.assertions k u → IsRefusedIn s u
refused_in s k (unverified.Fault label f) whole lt v each h =
    let there = there_is s.assertions k lt in
    let told = h there.0 there.1 in
    first_found s k there.0 f whole v there.1 told.1 ∙ ap (λ w. Some (w, f)) (sym told.0)
refused_in s k (unverified.TooLong label) whole lt v each h =
    let there = there_is s.assertions k lt in
    let told = h there.0 there.1 in
    record {
      place = k;
      assertion = there.0;
      stands = there.1;
      labelled = sym told.0;
      long = told.1;
      verified = λ j y less at. each j y less at;
    }
refused_in s k unverified.NoMemory whole lt v each h = tt

-- ---- how many pass a test

filter_more : {A : Type 0} (p : A → Bool) (xs : List A) (x : A) → length (filter p (xs ++ x ∷ [])) ≡ length (filter p xs) + length
    (filter p (x ∷ []))
filter_more p [] x = omega arith
filter_more {A} p (y ∷ ys) x =
    let rest = filter_more p ys x in
    elim (p y) as (λ b. length (cond b (y ∷ filter p (ys ++ x ∷ [])) (filter p (ys ++ x ∷ [])))
    ≡ length (cond b (y ∷ filter p ys) (filter p ys)) + length (filter p (x ∷ []))) [
      | true ↦ omega (arith, rest)
      | false ↦ rest
    ]

counted_front : {A : Type 0} (p : A → Bool) (xs : List A) (n : ℕ) (x : A) → slice_get xs n ≡ Some x
    → length (filter p (take (n + 1) xs)) ≡ length (filter p (take n xs)) + length (filter p (x ∷ []))
counted_front p xs n x at = ap (λ l. length (filter p l)) (take_next xs n x at) ∙ filter_more p (take n xs) x

pub counted_on : {A : Type 0} (p : A → Bool) (xs : List A) (n : ℕ) (x : A) (a b : ℕ) → slice_get xs n ≡ Some x
    → a ≡ length (filter p (take n xs)) → p x ≡ true → b ≡ a + 1 → b ≡ length (filter p (take (n + 1) xs))
counted_on p xs n x a b at is passes more =
    let one : length (filter p (x ∷ [])) ≡ 1 = ap (λ c. length (cond c (x ∷ []) [])) passes in
    let whole = counted_front p xs n x at in
    omega (arith, one, whole, is, more)

pub counted_off : {A : Type 0} (p : A → Bool) (xs : List A) (n : ℕ) (x : A) (a b : ℕ) → slice_get xs n ≡ Some x
    → a ≡ length (filter p (take n xs)) → p x ≡ false → b ≡ a → b ≡ length (filter p (take (n + 1) xs))
counted_off p xs n x a b at is fails same =
    let none : length (filter p (x ∷ [])) ≡ 0 = ap (λ c. length (cond c (x ∷ []) [])) fails in
    let whole = counted_front p xs n x at in
    omega (arith, none, whole, is, same)
