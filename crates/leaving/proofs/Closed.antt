-- Where blocks close, and which of them have nothing left.
use Rattle.std.proofs.Common.{◌≡◌, ◌≢◌, ◌∙◌, ℕ, zero, suc, ◌+◌, ◌-◌, Bool, true, false, cond, List, [], ◌∷◌, ◌++◌, Option, Some, None, map}
use Rattle.std.proofs.Common.{length, refl, sym, ap, subst, arith, append-nil, append_assoc}
use Rattle.std.specs.Prelude.{◌==◌, ◌&&◌, not}
use Rattle.std.specs.List.{count_by, list_all}
use Rattle.std.proofs.lemmas.Bool.{eq-eqb, ne_eqb, eqb-true, eqb-false}
use Rattle.std.proofs.lemmas.List.{nil_from_length}
use Rattle.leaving.specs.declared.part.Fate.{Fate}
use Rattle.leaving.specs.declared.part.Part.{Part}
use Rattle.leaving.specs.declared.part.Part.TheVariants.{Description, Heading, Opening, Closing, Assertion, Other}
use Rattle.leaving.specs.declared.blocks.Counts.{Counts}
use Rattle.leaving.specs.declared.blocks.BlockEnd.{BlockEnd}
use Rattle.leaving.specs.declared.blocks.Left.{Left}
use Rattle.leaving.specs.Leaving.{fates, leaves, is_deleted, open_behind, IsLeft}
use Rattle.leaving.specs.Ends.{stays, moves, counts_of, rest_of, ends_of, end_at, left_of, first_left, left_at}
use Rattle.leaving.proofs.Counted.{fates_both, all_both, staying_both, moving_both, none_stays, all_leave, none_moves, all_deleted, told}

-- ---- where

abbrev nth : ℕ → List (List Part) → Option (List Part)
nth n [] = None
nth zero (x ∷ xs) = Some x
nth (suc n) (x ∷ xs) = nth n xs

nth_rest : (n : ℕ) (xs : List (List Part)) → nth n (rest_of xs) ≡ nth (suc n) xs
nth_rest n [] = refl
nth_rest n (x ∷ xs) = refl

-- the $} that closes the innermost block but so many
pub record ClosesAt (depth : ℕ) (xs rest : List Part) : Type 0 where
  pub inside : List Part
  pub whole : xs ≡ inside ++ Closing ∷ rest
  pub balanced : open_behind depth inside ≡ Some 0

closes : (xs : List Part) (d : ℕ) (rest : List Part) → nth d (ends_of xs) ≡ Some rest → ClosesAt d xs rest
closes [] d rest e = absurd cc
closes (Closing ∷ xs) zero rest e = let same : xs ≡ rest = cc in record { inside = []; whole = ap (λ r. Closing ∷ r) same; balanced = refl }
closes (Closing ∷ xs) (suc d) rest e =
    let c = closes xs d rest e in
    record { inside = Closing ∷ c.inside; whole = ap (λ r. Closing ∷ r) c.whole; balanced = c.balanced }
closes (Opening ∷ xs) d rest e =
    let c = closes xs (suc d) rest (sym (nth_rest d (ends_of xs)) ∙ e) in
    record { inside = Opening ∷ c.inside; whole = ap (λ r. Opening ∷ r) c.whole; balanced = c.balanced }
closes (Description ∷ xs) d rest e =
    let c = closes xs d rest e in
    record { inside = Description ∷ c.inside; whole = ap (λ r. Description ∷ r) c.whole; balanced = c.balanced }
closes (Heading ∷ xs) d rest e =
    let c = closes xs d rest e in
    record { inside = Heading ∷ c.inside; whole = ap (λ r. Heading ∷ r) c.whole; balanced = c.balanced }
closes (Assertion f ∷ xs) d rest e =
    let c = closes xs d rest e in
    record { inside = Assertion f ∷ c.inside; whole = ap (λ r. Assertion f ∷ r) c.whole; balanced = c.balanced }
closes (Other ∷ xs) d rest e =
    let c = closes xs d rest e in
    record { inside = Other ∷ c.inside; whole = ap (λ r. Other ∷ r) c.whole; balanced = c.balanced }

closed : (inside rest : List Part) (d : ℕ) → open_behind d inside ≡ Some 0 → nth d (ends_of (inside ++ Closing ∷ rest)) ≡ Some rest
closed [] rest zero e = refl
closed [] rest (suc d) e = absurd cc
closed (Closing ∷ xs) rest zero e = absurd cc
closed (Closing ∷ xs) rest (suc d) e = closed xs rest d e
closed (Opening ∷ xs) rest d e = nth_rest d (ends_of (xs ++ Closing ∷ rest)) ∙ closed xs rest (suc d) e
closed (Description ∷ xs) rest d e = closed xs rest d e
closed (Heading ∷ xs) rest d e = closed xs rest d e
closed (Assertion f ∷ xs) rest d e = closed xs rest d e
closed (Other ∷ xs) rest d e = closed xs rest d e

-- ---- which

tests : (same other : Bool) (v l : Left) → cond (same && not other) (Some v) None ≡ Some l → (same ≡ true) × (other ≡ false)
tests true false v l e = (refl, refl)
tests true true v l e = absurd cc
tests false other v l e = absurd cc

abbrev left_from : List Fate → ℕ → Left
left_from fs end = record { end = end; is_deleted = list_all is_deleted fs; is_single = length fs == 1 }

module _ (fs : List Fate) (b : BlockEnd) (c : Counts) (all_is : c.all ≡ length fs + b.behind.all)
    (staying_is : c.staying ≡ count_by stays fs + b.behind.staying) (moving_is : c.moving ≡ count_by moves fs + b.behind.moving) where
  left_when : fs ≢ [] → list_all leaves fs ≡ true → left_of b c ≡ Some (left_from fs b.end)
  left_when some leave =
      let none = none_stays fs leave in
      let staying : (c.staying == b.behind.staying) ≡ true = eq-eqb c.staying b.behind.staying (omega arith) in
      let all : (c.all == b.behind.all) ≡ false = ne_eqb c.all b.behind.all (λ e. some (nil_from_length fs (omega arith))) in
      let moving : (c.moving == b.behind.moving) ≡ list_all is_deleted fs =
      told c.moving b.behind.moving (list_all is_deleted fs) (λ e. all_deleted fs leave (omega arith))
      (λ h. omega (arith, none_moves fs h)) in
      let one : c.all - b.behind.all ≡ length fs = omega arith in
      rw (staying, all, moving, one)

  when_left : (l : Left) → left_of b c ≡ Some l → (fs ≢ []) × (list_all leaves fs ≡ true)
  when_left l e =
      let t = tests (c.staying == b.behind.staying) (c.all == b.behind.all) _ l e in
      let staying = eqb-true c.staying b.behind.staying t.0 in
      let all = eqb-false c.all b.behind.all t.1 in (
        λ none. all (let empty : length fs ≡ 0 = ap length none in omega arith),
        all_leave fs (omega arith),
      )

-- what is known of it
pub record IsLeftAs (total : ℕ) (block rest : List Part) (l : Left) : Type 0 where
  pub left : IsLeft block
  pub end : l.end ≡ total - length rest
  pub deleted : l.is_deleted ≡ list_all is_deleted (fates block)
  pub single : l.is_single ≡ (length (fates block) == 1)

first_nth : (total : ℕ) (es : List (List Part)) (rest : List Part) (c : Counts) → nth 0 es ≡ Some rest
    → first_left (map (end_at total) es) c ≡ left_of (end_at total rest) c
first_nth total [] rest c e = absurd cc
first_nth total (r ∷ es) rest c e = let same : r ≡ rest = cc in ap (λ y. left_of (end_at total y) c) same

nth_first : (total : ℕ) (es : List (List Part)) (c : Counts) (l : Left) → first_left (map (end_at total) es) c ≡ Some l
    → (rest : List Part) × (nth 0 es ≡ Some rest)
nth_first total [] c l e = absurd cc
nth_first total (r ∷ es) c l e = (r, refl)

module _ (total : ℕ) (inside rest : List Part) where
  fates_inside : fates (Opening ∷ (inside ++ Closing ∷ [])) ≡ fates inside
  fates_inside = fates_both inside (Closing ∷ []) ∙ append-nil (fates inside)

  left_as : open_behind 0 inside ≡ Some 0 → fates inside ≢ [] → list_all leaves (fates inside) ≡ true
      → IsLeftAs total (Opening ∷ (inside ++ Closing ∷ [])) rest (left_from (fates inside) (total - length rest))
  left_as balanced some leave = record {
    left = record {
      block = record { inside = inside; whole = refl; balanced = balanced };
      some = λ none. some (sym fates_inside ∙ none);
      each = ap (list_all leaves) fates_inside ∙ leave;
    };
    end = refl;
    deleted = sym (ap (list_all is_deleted) fates_inside);
    single = sym (ap (λ fs. length fs == 1) fates_inside);
  }

  -- as it is found
  abbrev found : Option Left
  found = left_of (end_at total rest) (counts_of (inside ++ Closing ∷ rest))

  at_opening : open_behind 0 inside ≡ Some 0 → left_at total Opening (inside ++ Closing ∷ rest) ≡ found
  at_opening balanced =
      first_nth total (ends_of (inside ++ Closing ∷ rest)) rest (counts_of (inside ++ Closing ∷ rest)) (closed inside rest 0 balanced)

  found_when : fates inside ≢ [] → list_all leaves (fates inside) ≡ true → found ≡ Some (left_from (fates inside) (total - length rest))
  found_when =
      left_when (fates inside) (end_at total rest) (counts_of (inside ++ Closing ∷ rest)) (all_both inside rest) (staying_both inside rest)
      (moving_both inside rest)

  when_found : (l : Left) → found ≡ Some l → (fates inside ≢ []) × (list_all leaves (fates inside) ≡ true)
  when_found =
      when_left (fates inside) (end_at total rest) (counts_of (inside ++ Closing ∷ rest)) (all_both inside rest) (staying_both inside rest)
      (moving_both inside rest)

whole_block : (inside rest : List Part) → Opening ∷ (inside ++ Closing ∷ rest) ≡ (Opening ∷ (inside ++ Closing ∷ [])) ++ rest
whole_block inside rest = sym (ap (λ y. Opening ∷ y) (append_assoc inside (Closing ∷ []) rest))

-- a block that has nothing left is found
pub left_there : (total : ℕ) (block rest : List Part) (x : Part) (after : List Part) → IsLeft block → x ∷ after ≡ block ++ rest
    → (l : Left) × (left_at total x after ≡ Some l) × IsLeftAs total block rest l
left_there total block rest x after is e =
    let inside = is.block.inside in
    let same : x ∷ after ≡ Opening ∷ (inside ++ Closing ∷ rest) =
    e ∙ (ap (λ y. y ++ rest) is.block.whole ∙ sym (whole_block inside rest)) in
    let opens : x ≡ Opening = cc in
    let behind : after ≡ inside ++ Closing ∷ rest = cc in
    let here = fates_inside total inside rest in
    let of_block : fates block ≡ fates inside = ap fates is.block.whole ∙ here in
    let some : fates inside ≢ [] = λ none. is.some (of_block ∙ none) in
    let leave : list_all leaves (fates inside) ≡ true = sym (ap (list_all leaves) of_block) ∙ is.each in (
      left_from (fates inside) (total - length rest),
      ap (λ y. left_at total y after) opens
          ∙ (ap (left_at total Opening) behind
          ∙ (at_opening total inside rest is.block.balanced ∙ found_when total inside rest some leave)),
      subst (λ b. IsLeftAs total b rest (left_from (fates inside) (total - length rest))) (sym is.block.whole)
          (left_as total inside rest is.block.balanced some leave),
    )

at_block : (total : ℕ) (after : List Part) (l : Left) → left_at total Opening after ≡ Some l
    → (block : List Part) × (rest : List Part) × (Opening ∷ after ≡ block ++ rest) × IsLeftAs total block rest l
at_block total after l e =
    let (rest, first) = nth_first total (ends_of after) (counts_of after) l e in
    let c = closes after 0 rest first in
    let is = sym (at_opening total c.inside rest c.balanced) ∙ (sym (ap (left_at total Opening) c.whole) ∙ e) in
    let (some, leave) = when_found total c.inside rest l is in
    let same : left_from (fates c.inside) (total - length rest) ≡ l =
    let both = sym (found_when total c.inside rest some leave) ∙ is in cc in (
      Opening ∷ (c.inside ++ Closing ∷ []),
      rest,
      ap (λ y. Opening ∷ y) c.whole ∙ whole_block c.inside rest,
      subst (IsLeftAs total (Opening ∷ (c.inside ++ Closing ∷ [])) rest) same (left_as total c.inside rest c.balanced some leave),
    )

-- what is found is one
pub left_found : (total : ℕ) (x : Part) (after : List Part) (l : Left) → left_at total x after ≡ Some l
    → (block : List Part) × (rest : List Part) × (x ∷ after ≡ block ++ rest) × IsLeftAs total block rest l
left_found total Opening after l e = at_block total after l e
left_found total Closing after l e = absurd cc
left_found total Description after l e = absurd cc
left_found total Heading after l e = absurd cc
left_found total (Assertion f) after l e = absurd cc
left_found total Other after l e = absurd cc
