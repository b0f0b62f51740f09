-- Items that were walked over.
use Rattle.std.proofs.Common.{◌≡◌, ℕ, zero, suc, ◌+◌, ◌≤◌, max, Bool, true, false, cond, List, [], ◌∷◌, ◌++◌, Option, Some, None, length}
use Rattle.std.proofs.Common.{get_or, refl, ap, arith}
use Rattle.std.specs.Prelude.{IfSome}
use Rattle.std.proofs.lemmas.Option.{IfSome_then}
use Rattle.leaving.specs.declared.part.Part.{Part}
use Rattle.leaving.specs.declared.part.Part.TheVariants.{Description, Heading, Opening, Closing, Assertion, Other}
use Rattle.leaving.specs.declared.blocks.Left.{Left}
use Rattle.leaving.specs.declared.going.Reach.{Reach}
use Rattle.leaving.specs.Leaving.{open_behind}
use Rattle.leaving.specs.Ends.{left_at, lefts, open_after, takes_comments, reach_at}
use Rattle.leaving.proofs.Reaching.{reach_to, end_of, commented_end}

-- ---- the blocks that begin

pub length-lefts : (total : ℕ) (xs : List Part) → length (lefts total xs) ≡ length xs
length-lefts total [] = refl
length-lefts total (x ∷ xs) = ap suc (length-lefts total xs)

pub lefts_at : (total : ℕ) (before : List Part) (x : Part) (after : List Part) (d : Option Left)
    → get_or (lefts total (before ++ x ∷ after)) (length before) d ≡ left_at total x after
lefts_at total [] x after d = refl
lefts_at total (b ∷ bs) x after d = lefts_at total bs x after d

-- ---- how many are open

pub open_more : (xs : List Part) (x : Part) (n : ℕ) → open_behind n (xs ++ x ∷ []) ≡ open_after (open_behind n xs) x
open_more [] Opening n = refl
open_more [] Closing zero = refl
open_more [] Closing (suc n) = refl
open_more [] Description n = refl
open_more [] Heading n = refl
open_more [] (Assertion f) n = refl
open_more [] Other n = refl
open_more (Opening ∷ xs) x n = open_more xs x (suc n)
open_more (Closing ∷ xs) x zero = refl
open_more (Closing ∷ xs) x (suc n) = open_more xs x n
open_more (Description ∷ xs) x n = open_more xs x n
open_more (Heading ∷ xs) x n = open_more xs x n
open_more (Assertion f ∷ xs) x n = open_more xs x n
open_more (Other ∷ xs) x n = open_more xs x n

pub open_few : (xs : List Part) (n : ℕ) → IfSome (open_behind n xs) (λ m. m ≤ n + length xs)
open_few [] n = omega arith
open_few (Opening ∷ xs) n = IfSome_then (open_behind (suc n) xs) (open_few xs (suc n)) (λ m h. omega arith)
open_few (Closing ∷ xs) zero = tt
open_few (Closing ∷ xs) (suc n) = IfSome_then (open_behind n xs) (open_few xs n) (λ m h. omega arith)
open_few (Description ∷ xs) n = IfSome_then (open_behind n xs) (open_few xs n) (λ m h. omega arith)
open_few (Heading ∷ xs) n = IfSome_then (open_behind n xs) (open_few xs n) (λ m h. omega arith)
open_few (Assertion f ∷ xs) n = IfSome_then (open_behind n xs) (open_few xs n) (λ m h. omega arith)
open_few (Other ∷ xs) n = IfSome_then (open_behind n xs) (open_few xs n) (λ m h. omega arith)

-- ---- how far they reach

pub any_at : (r : Reach) (o : Option Left) → (reach_at r o).any ≡ reach_to r.any (end_of o)
any_at r None = refl
any_at r (Some l) = refl

farther : (takes : Bool) (c e : ℕ) → cond takes (max c e) c ≡ reach_to c (cond takes (Some e) None)
farther true c e = refl
farther false c e = refl

pub commented_at : (r : Reach) (o : Option Left) → (reach_at r o).commented ≡ reach_to r.commented (commented_end r.depth o)
commented_at r None = refl
commented_at r (Some l) = farther (takes_comments r.depth l) r.commented l.end

pub depth_at : (r : Reach) (o : Option Left) → (reach_at r o).depth ≡ r.depth
depth_at r None = refl
depth_at r (Some l) = refl
