-- What all who check the assertions of a source find is its first fault.
use Rattle.std.proofs.Common.{◌≡◌, ℕ, zero, suc, ◌+◌, ◌<◌, ◌≤◌, List, [], ◌∷◌, ◌++◌, Option, None, Some, length, map, take, All, arith, inl}
use Rattle.std.proofs.Common.{refl, sym, ap, subst, append_assoc}
use Rattle.std.specs.Prelude.{slice_get, Result, Ok, Err, IfOk, IfSome, IfNone}
use Rattle.std.specs.Result.{result_ok}
use Rattle.std.proofs.lemmas.List.{append-nil, take_all}
use Rattle.std.proofs.lemmas.List.Elements.{All-head, All-tail, All-map, All-weaker}
use Rattle.std.proofs.lemmas.List.Sorted.{IsPermutation-sym}
use Rattle.ranges.specs.Ranges.{Has}
use Rattle.ranges.proofs.Members.{all_has, has_permutation}
use Rattle.claims.specs.Claims.{Counting, Claimant, AreClaimed, IsClaimantOf, IsNewOf, claims_of, up_to}
use Rattle.claims.proofs.UpTo.{each_below, below_has}
use Rattle.mmtext.specs.Words.{Word}
use Rattle.mmsyntax.proofs.Items.{there_is}
use Rattle.derivation.specs.declared.fault.ProofFault.{ProofFault}
use Rattle.source.specs.Scopes.{Assertion, Scope}
use Rattle.source.specs.Whole.{IsWhole}
use Rattle.verifying.specs.Verifies.{AreVerified, Verifies}
use Rattle.sourcecheck.specs.declared.checkers.Checker.{Checker}
use Rattle.sourceframes.specs.declared.frame.Frame.{Frame}
use Rattle.sourceframes.specs.declared.table.Table.{Table}
use Rattle.sourceframes.specs.Names.{words_of, IsSound, Lasts, Keeps}
use Rattle.sourceframes.specs.Frames.{AreFrames}
use Rattle.sourcecheck.specs.declared.sources.Unverified.{Unverified}
use Rattle.sourcecheck.specs.Answers.{IsRefusedAt, IsRefusedIn}
use Rattle.sourcecheck.specs.Found.{earlier, earliest}
use Rattle.sourcecheck.specs.Checkers.{PassesAt, FailsAt, IsFoundAmong, checker_of, IsReady, HasChecked, Knows}
use Rattle.sourcecheck.proofs.Found.{among_same, among_lists}
use Rattle.sourceframes.proofs.Numbered.{lasts_on}
use Rattle.sourcecheck.proofs.Sourced.{verified_more, refused_in}

pub all_ready : (home : Counting) (cs : List Claimant) → All (IsNewOf home) cs → All (IsReady home) (map checker_of cs)
all_ready home cs new =
    All-map (IsReady home) checker_of cs (All-weaker (IsNewOf home) (λ c. IsReady home (checker_of c)) (λ c is. (is, refl)) cs new)

module _ (xs : List Assertion) where
  module _ (home : Counting) where
    all_checkers : (before : List ℕ) (found : Option (ℕ × ProofFault)) (cs : List Checker) → All (HasChecked xs home) cs
        → IsFoundAmong xs (λ k. Has k before) found
        → IsFoundAmong xs (λ k. Has k (before ++ claims_of (map (λ c. c.claimant) cs))) (earliest found (map (λ c. c.found) cs))
    all_checkers before found [] checked f =
        subst (λ (l : List ℕ). IsFoundAmong xs (λ k. Has k l) found) (sym (append-nil before)) f
    all_checkers before found (c ∷ cs) checked f =
        let own = All-head (HasChecked xs home) c cs checked in
        let further = claims_of (map (λ c. c.claimant) cs) in
        let first = earliest (earlier found c.found) (map (λ c. c.found) cs) in
        subst (λ (l : List ℕ). IsFoundAmong xs (λ k. Has k l) first) (append_assoc before c.claimant.claimed further)
        (all_checkers (before ++ c.claimant.claimed) (earlier found c.found) cs (All-tail (HasChecked xs home) c cs checked)
        (among_lists (PassesAt xs) (FailsAt xs) before c.claimant.claimed found c.found f own.found))

    all_claimed : (cs : List Checker) → All (HasChecked xs home) cs → 0 < length cs
        → (claimed : AreClaimed home (map (λ c. c.claimant) cs)) → claimed.many ≡ home.count
    all_claimed [] checked some claimed = absurd (omega (arith, some))
    all_claimed (c ∷ cs) checked some claimed = claimed.all c.claimant (inl refl) (All-head (HasChecked xs home) c cs checked).ended

    -- together they claimed each place, and nothing else
    pub found_everywhere : (cs : List Checker) → All (HasChecked xs home) cs → 0 < length cs → home.count ≡ length xs
        → AreClaimed home (map (λ c. c.claimant) cs)
        → IsFoundAmong xs (λ k. k < length xs) (earliest None (map (λ c. c.found) cs))
    found_everywhere cs checked some count claimed =
        let claims = claims_of (map (λ c. c.claimant) cs) in
        let many = all_claimed cs checked some claimed in
        let back = IsPermutation-sym (up_to claimed.many) claims claimed.each in
        among_same (PassesAt xs) (FailsAt xs) (λ k. Has k claims) (λ k. k < length xs) (earliest None (map (λ c. c.found) cs))
        (λ k has.
        let below = all_has (λ m. m < claimed.many) (up_to claimed.many) k (each_below claimed.many)
        (has_permutation claims (up_to claimed.many) k back has) in
        omega (arith, below, many, count))
        (λ k lt. has_permutation (up_to claimed.many) claims k claimed.each
        (below_has claimed.many k (omega (arith, lt, many, count))))
        (all_checkers [] None cs checked (λ k has. absurd has))

  -- ---- what is found among all assertions

  -- those in front of a place are verified where each of them passes
  pub front_verified : (n : ℕ) → n ≤ length xs → ((k : ℕ) → k < n → PassesAt xs k) → AreVerified [] (take n xs)
  front_verified zero le each = tt
  front_verified (suc n) le each =
      let there = there_is xs n (omega (arith, le)) in
      let more : n + 1 ≡ suc n = omega arith in
      subst (λ (m : ℕ). AreVerified [] (take m xs)) more
      (verified_more xs n there.0 there.1 (front_verified n (omega (arith, le)) (λ k lt. each k (omega (arith, lt))))
      (each n (omega arith) there.0 there.1))

  -- ---- numbers of words

  pub knows_same : (fs : List Frame) (t u : Table) → Knows xs fs t → IsSound u → words_of u ≡ words_of t → Knows xs fs u
  knows_same fs t u k sound same = record {
    sound = sound;
    many = k.many;
    frames = subst (λ (ws : List Word). Lasts ws (λ name. AreFrames name xs fs)) (sym same) k.frames;
  }

  got_whole : (ys : List Assertion) (n k : ℕ) (c : Assertion) → slice_get (take n ys) k ≡ Some c → slice_get ys k ≡ Some c
  got_whole ys zero k c h = absurd cc
  got_whole [] (suc n) k c h = absurd cc
  got_whole (y ∷ ys) (suc n) zero c h = h
  got_whole (y ∷ ys) (suc n) (suc k) c h = got_whole ys n k c h

  pub knows_front : (fs : List Frame) (t : Table) (n : ℕ) → Knows xs fs t
      → Lasts (words_of t) (λ name. AreFrames name (take n xs) fs)
  knows_front fs t n k = λ more j c f at is. k.frames more j c f (got_whole xs n j c at) is

  pub knows_more : (fs : List Frame) (t u : Table) → Knows xs fs t → Keeps t u → Knows xs fs u
  knows_more fs t u k keeps = record {
    sound = keeps.sound;
    many = k.many;
    frames = lasts_on (words_of t) (words_of u) (λ name. AreFrames name xs fs) keeps.grows k.frames;
  }

  pub knows_copy : {E : Type 0} (fs : List Frame) (t : Table) (r : Result Table E) → Knows xs fs t → IfOk r IsSound
      → IfOk r (λ u. words_of u ≡ words_of t) → IfSome (result_ok r) (Knows xs fs)
  knows_copy fs t (Ok u) k sound same = knows_same fs t u k sound same
  knows_copy fs t (Err e) k sound same = tt

  -- ---- before anything is claimed

  pub ready_own : (home : Counting) (c : Checker) → IsReady home c → IsClaimantOf home c.claimant
  ready_own home c ready = (ap (λ (m : Claimant). m.table) ready.0, ap (λ (m : Claimant). m.count) ready.0)

  pub ready_found : (home : Counting) (c : Checker) → IsReady home c → IsFoundAmong xs (λ k. Has k c.claimant.claimed) c.found
  ready_found home c ready =
      subst (λ (o : Option (ℕ × ProofFault)). IsFoundAmong xs (λ k. Has k c.claimant.claimed) o) (sym ready.1)
      (λ k has. absurd (subst (λ (l : List ℕ). Has k l) (ap (λ (m : Claimant). m.claimed) ready.0) has))

pub if_none : {A P : Type 0} (o : Option A) → P → IfNone o P
if_none None p = p
if_none (Some a) p = tt

pub none_found : (s : Scope) → IsFoundAmong s.assertions (λ k. k < length s.assertions) None → Verifies s
none_found s found =
    let n = length s.assertions in
    subst (AreVerified []) (take_all n s.assertions (omega arith)) (front_verified s.assertions n (omega arith) found)

pub one_found : (s : Scope) (k : ℕ) (f : ProofFault) (u : Unverified) → IsWhole s
    → IsFoundAmong s.assertions (λ k. k < length s.assertions) (Some (k, f)) → IsRefusedAt s.assertions k u → IsRefusedIn s u
one_found s k f u whole found told =
    let lt = found.0 in
    refused_in s k u whole lt
    (front_verified s.assertions k (omega (arith, lt)) (λ j less. found.2 j less (omega (arith, less, lt))))
    (λ j y less at. found.2 j less (omega (arith, less, lt)) y at) told
