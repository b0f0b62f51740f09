-- What is so of the shares of scripts, all of them together, is so of each script.
use Rattle.std.proofs.Common.{◌≡◌, ℕ, zero, suc, List, [], ◌∷◌, length, flat_map, subst, arith}
use Rattle.std.specs.Prelude.{All, IsPermutation, slice_index_or}
use Rattle.std.proofs.lemmas.List.{get_or_default}
use Rattle.std.proofs.lemmas.List.Elements.{All-nil, All-head, All-tail, All-append}
use Rattle.ranges.specs.Ranges.{Has}
use Rattle.ranges.proofs.Members.{all_has, all_from_has, has_permutation, has_flat, flat_has}
use Rattle.claims.specs.Claims.{up_to}
use Rattle.claims.proofs.UpTo.{below_has}
use Rattle.workers.specs.Works.{all_of}

module _ {A : Type 0} (P : A → Type 0) where
  -- ---- of each script, and so of a share

  at_each : (rows : List (List A)) → All (All P) rows → (n : ℕ) → All P (slice_index_or rows n [])
  at_each [] all n = All-nil P
  at_each (row ∷ rows) all zero = All-head (All P) row rows all
  at_each (row ∷ rows) all (suc n) = at_each rows (All-tail (All P) row rows all) n

  pub of_share : (rows : List (List A)) → All (All P) rows → (share : List ℕ) → All P (all_of rows share)
  of_share rows all [] = All-nil P
  of_share rows all (n ∷ share) =
      All-append P (slice_index_or rows n []) (all_of rows share) (at_each rows all n) (of_share rows all share)

  -- ---- of all shares, into one of which each script falls, and so of each script

  in_share : (rows : List (List A)) (share : List ℕ) (n : ℕ) → Has n share → All P (all_of rows share) → All P (slice_index_or rows n [])
  in_share rows share n has all =
      all_from_has P (slice_index_or rows n []) (λ x own.
      all_has P (all_of rows share) x all (has_flat (λ m. slice_index_or rows m []) share n x has own))

  pub of_each : (rows : List (List A)) (count : ℕ) (shares : List (List ℕ)) → length rows ≡ count
      → IsPermutation (up_to count) (flat_map (λ share. share) shares) → ((share : List ℕ) → Has share shares → All P (all_of rows share))
      → All (All P) rows
  of_each rows count shares long parts each k d within =
      let there = has_permutation (up_to count) (flat_map (λ share. share) shares) k parts
      (below_has count k (omega (arith, long, within))) in
      let share = flat_has (λ (share : List ℕ). share) shares k there in
      subst (All P) (get_or_default rows k [] d within) (in_share rows share.0 k share.2 (each share.0 share.1))
