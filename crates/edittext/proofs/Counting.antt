-- How many transactions of a run were done, one more of them.
use Rattle.std.proofs.Common.{◌≡◌, ◌∙◌, ◌+◌, ◌-◌, ◌^◌, ◌<◌, ℕ, Bool, true, false, cond, List, [], ◌∷◌, ◌++◌, ap, arith, append_assoc, get_or, length, map, min, refl, sym, take, Vec, Global}
use Rattle.std.specs.List.{count_by, flat_map}
use Rattle.std.proofs.lemmas.List.{append-nil, map_more, take_more}
use Rattle.std.proofs.lemmas.List.Sums.{sum_by-append}
use Rattle.std.proofs.lemmas.Grind.{flat_map-append}
use mathlib.Core.Bool.{not}
use Rattle.transaction.specs.declared.outcome.Outcome.{Outcome}
use Rattle.transaction.specs.declared.outcome.Outcome.TheVariants.{Committed, Read, Refused, Conflict, StoreFull, NumbersUsed, TooManyCommands, NoMemory}
use Rattle.transaction.specs.Closings.{lists_of}
use Rattle.editscripts.specs.Undone.{is_done}
use Rattle.edittext.specs.Counts.{all_of, count_of, counted, is_committed, is_read}
use Rattle.edittext.specs.declared.counts.Counts.{Counts}

-- the largest number that a usize has
abbrev most : ℕ
most = 2 ^ 64 - 1

one_more : (is : Outcome → Bool) (xs : List Outcome) (x : Outcome) → count_by is (xs ++ x ∷ []) ≡ count_by is xs + cond (is x) 1 0
one_more is xs x = sum_by-append (λ y. cond (is y) 1 0) xs (x ∷ []) ∙ ap (λ n. count_by is xs + n) (only (cond (is x) 1 0)) where
  only : (n : ℕ) → 0 + n ≡ n
  only n = omega arith

capped : (n : ℕ) → min (n + 1) most ≡ min (min n most + 1) most
capped n = omega arith

pub one_of : (is : Outcome → Bool) (xs : List Outcome) (x : Outcome) → is x ≡ true
    → count_of is (xs ++ x ∷ []) ≡ min (count_of is xs + 1) most
one_of is xs x so =
    ap (λ n. min n most) (one_more is xs x ∙ ap (λ b. count_by is xs + cond b 1 0) so) ∙ capped (count_by is xs)

pub none_of : (is : Outcome → Bool) (xs : List Outcome) (x : Outcome) → is x ≡ false → count_of is (xs ++ x ∷ []) ≡ count_of is xs
none_of is xs x so =
    ap (λ n. min n most) (one_more is xs x ∙ ap (λ b. count_by is xs + cond b 1 0) so ∙ plus (count_by is xs)) where
      plus : (n : ℕ) → n + 0 ≡ n
      plus n = omega arith

abbrev three : ℕ → ℕ → ℕ → Counts
three a b c = record { committed = a; read = b; undone = c }

same_three : (a b c k l m : ℕ) → a ≡ k → b ≡ l → c ≡ m → three a b c ≡ three k l m
same_three a b c k l m e f g = ap (λ x. three x b c) e ∙ ap (λ x. three k x c) f ∙ ap (λ x. three k l x) g

-- with one more
abbrev pub with_one : Counts → Outcome → Counts
with_one c (Committed number replies) = record c { committed = min (c.committed + 1) most }
with_one c (Read place replies) = record c { read = min (c.read + 1) most }
with_one c _ = record c { undone = min (c.undone + 1) most }

abbrev is_undone : Outcome → Bool
is_undone o = not (is_done o)

module _ (xs : List Outcome) (x : Outcome) where
  committed_then : is_committed x ≡ true → is_read x ≡ false → is_undone x ≡ false
      → counted (xs ++ x ∷ []) ≡ record (counted xs) { committed = min ((counted xs).committed + 1) most }
  committed_then a b c = same_three _ _ _ _ _ _ (one_of is_committed xs x a) (none_of is_read xs x b) (none_of is_undone xs x c)

  read_then : is_committed x ≡ false → is_read x ≡ true → is_undone x ≡ false
      → counted (xs ++ x ∷ []) ≡ record (counted xs) { read = min ((counted xs).read + 1) most }
  read_then a b c = same_three _ _ _ _ _ _ (none_of is_committed xs x a) (one_of is_read xs x b) (none_of is_undone xs x c)

  undone_then : is_committed x ≡ false → is_read x ≡ false → is_undone x ≡ true
      → counted (xs ++ x ∷ []) ≡ record (counted xs) { undone = min ((counted xs).undone + 1) most }
  undone_then a b c = same_three _ _ _ _ _ _ (none_of is_committed xs x a) (none_of is_read xs x b) (one_of is_undone xs x c)

pub counted-push : (xs : List Outcome) (x : Outcome) → counted (xs ++ x ∷ []) ≡ with_one (counted xs) x
counted-push xs (Committed number replies) = committed_then xs (Committed number replies) refl refl refl
counted-push xs (Read place replies) = read_then xs (Read place replies) refl refl refl
counted-push xs (Refused place index reason) = undone_then xs (Refused place index reason) refl refl refl
counted-push xs (Conflict place cell word before) = undone_then xs (Conflict place cell word before) refl refl refl
counted-push xs StoreFull = undone_then xs StoreFull refl refl refl
counted-push xs NumbersUsed = undone_then xs NumbersUsed refl refl refl
counted-push xs TooManyCommands = undone_then xs TooManyCommands refl refl refl
counted-push xs NoMemory = undone_then xs NoMemory refl refl refl

-- those of one script more
pub rows_more : (rows : List (Vec Outcome Global)) (i : ℕ) (d : Vec Outcome Global) → i < length rows
    → all_of (lists_of (take (i + 1) rows)) ≡ all_of (lists_of (take i rows)) ++ (get_or rows i d).items
rows_more rows i d lt =
    ap all_of (map_more (λ (r : Vec Outcome Global). r.items) rows i d lt)
    ∙ flat_map-append (λ row. row) (lists_of (take i rows)) ((get_or rows i d).items ∷ [])
    ∙ ap (λ os. all_of (lists_of (take i rows)) ++ os) (append-nil (get_or rows i d).items)

-- one transaction more of a script
pub script_more : (before outcomes : List Outcome) (i : ℕ) (d : Outcome) → i < length outcomes
    → before ++ take (i + 1) outcomes ≡ (before ++ take i outcomes) ++ get_or outcomes i d ∷ []
script_more before outcomes i d lt =
    ap (λ os. before ++ os) (take_more outcomes i d lt) ∙ sym (append_assoc before (take i outcomes) (get_or outcomes i d ∷ []))
