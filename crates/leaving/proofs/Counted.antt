-- How many assertions stand among items, and what that says of them.
use Rattle.std.proofs.Common.{◌≡◌, ◌∙◌, ℕ, ◌+◌, ◌≤◌, Bool, true, false, List, [], ◌∷◌, ◌++◌, length, refl, ap, arith, length-append}
use Rattle.std.specs.Prelude.{◌==◌}
use Rattle.std.specs.List.{count_by, list_all}
use Rattle.std.proofs.lemmas.Bool.{ne_eqb, eq-eqb}
use Rattle.std.proofs.lemmas.Grind.{flat_map-append}
use Rattle.std.proofs.lemmas.List.Sums.{sum_by-append}
use Rattle.leaving.specs.declared.part.Fate.{Fate}
use Rattle.leaving.specs.declared.part.Fate.TheVariants.{Stays, Deleted, Moves}
use Rattle.leaving.specs.declared.part.Part.{Part}
use Rattle.leaving.specs.declared.part.Part.TheVariants.{Description, Heading, Opening, Closing, Assertion, Other}
use Rattle.leaving.specs.Leaving.{fate_of, fates, leaves, is_deleted}
use Rattle.leaving.specs.Ends.{stays, moves, counts_of}

-- ---- few

pub counts_within : (xs : List Part) → (counts_of xs).all ≤ length xs
counts_within [] = omega arith
counts_within (Description ∷ xs) = omega (arith, counts_within xs)
counts_within (Heading ∷ xs) = omega (arith, counts_within xs)
counts_within (Opening ∷ xs) = omega (arith, counts_within xs)
counts_within (Closing ∷ xs) = omega (arith, counts_within xs)
counts_within (Assertion f ∷ xs) = omega (arith, counts_within xs)
counts_within (Other ∷ xs) = omega (arith, counts_within xs)

-- ---- in a block, and behind it

pub fates_both : (xs ys : List Part) → fates (xs ++ ys) ≡ fates xs ++ fates ys
fates_both xs ys = flat_map-append fate_of xs ys

pub all_both : (xs rest : List Part) → (counts_of (xs ++ Closing ∷ rest)).all ≡ length (fates xs) + (counts_of rest).all
all_both xs rest = ap length (fates_both xs (Closing ∷ rest)) ∙ length-append (fates xs) (fates rest)

pub staying_both : (xs rest : List Part) → (counts_of (xs ++ Closing ∷ rest)).staying ≡ count_by stays (fates xs) + (counts_of rest).staying
staying_both xs rest = ap (count_by stays) (fates_both xs (Closing ∷ rest)) ∙ sum_by-append _ (fates xs) (fates rest)

pub moving_both : (xs rest : List Part) → (counts_of (xs ++ Closing ∷ rest)).moving ≡ count_by moves (fates xs) + (counts_of rest).moving
moving_both xs rest = ap (count_by moves) (fates_both xs (Closing ∷ rest)) ∙ sum_by-append _ (fates xs) (fates rest)

-- ---- none

count_more : (p : Fate → Bool) (f : Fate) (fs : List Fate) → count_by p (f ∷ fs) ≡ count_by p (f ∷ []) + count_by p fs
count_more p f fs = sum_by-append _ (f ∷ []) fs

pub none_stays : (fs : List Fate) → list_all leaves fs ≡ true → count_by stays fs ≡ 0
none_stays [] h = refl
none_stays (Stays ∷ fs) h = absurd cc
none_stays (Deleted ∷ fs) h = omega (arith, count_more stays Deleted fs, none_stays fs h)
none_stays (Moves ∷ fs) h = omega (arith, count_more stays Moves fs, none_stays fs h)

pub all_leave : (fs : List Fate) → count_by stays fs ≡ 0 → list_all leaves fs ≡ true
all_leave [] h = refl
all_leave (Stays ∷ fs) h = absurd (omega (arith, count_more stays Stays fs))
all_leave (Deleted ∷ fs) h = all_leave fs (omega (arith, count_more stays Deleted fs))
all_leave (Moves ∷ fs) h = all_leave fs (omega (arith, count_more stays Moves fs))

pub none_moves : (fs : List Fate) → list_all is_deleted fs ≡ true → count_by moves fs ≡ 0
none_moves [] h = refl
none_moves (Stays ∷ fs) h = absurd cc
none_moves (Deleted ∷ fs) h = omega (arith, count_more moves Deleted fs, none_moves fs h)
none_moves (Moves ∷ fs) h = absurd cc

pub all_deleted : (fs : List Fate) → list_all leaves fs ≡ true → count_by moves fs ≡ 0 → list_all is_deleted fs ≡ true
all_deleted [] leave h = refl
all_deleted (Stays ∷ fs) leave h = absurd cc
all_deleted (Deleted ∷ fs) leave h = all_deleted fs leave (omega (arith, count_more moves Deleted fs))
all_deleted (Moves ∷ fs) leave h = absurd (omega (arith, count_more moves Moves fs))

pub told : (x y : ℕ) (b : Bool) → (x ≡ y → b ≡ true) → (b ≡ true → x ≡ y) → (x == y) ≡ b
told x y true then back = eq-eqb x y (back refl)
told x y false then back = ne_eqb x y (λ e. let no : false ≡ true = then e in absurd cc)
