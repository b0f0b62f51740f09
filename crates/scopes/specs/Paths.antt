-- Lists that share their fronts: each item that is put behind others is noted with the number of the last item before it.
use Rattle.std.specs.Prelude.{◌<◌, ℕ, suc, nat_lt, if◌then◌else◌, List, [], ◌∷◌, ◌++◌, Option, Some, None}
use Rattle.std.proofs.Common.{get_or}

-- the list that ends with the item of a number; none ends before all
abbrev pub list_at : {A : Type 0} → List (List A) → Option ℕ → List A
list_at lists None = []
list_at lists (Some i) = get_or lists i []

-- for each item the list that ends with it
abbrev pub lists_of : {A : Type 0} → List (List A) → List (Option ℕ × A) → List (List A)
lists_of lists [] = lists
lists_of lists (p ∷ ps) = lists_of (lists ++ (list_at lists p.0 ++ p.1 ∷ []) ∷ []) ps

-- the list that ends with the item of a number
unfoldable pub path : {A : Type 0} → List (Option ℕ × A) → Option ℕ → List A
path items last = list_at (lists_of [] items) last

-- the number is that of an item
abbrev pub IsWithin : Option ℕ → ℕ → Type 0
IsWithin None n = Unit {0}
IsWithin (Some i) n = i < n

-- the number of an item before another, if it is below that
abbrev pub earlier : ℕ → Option ℕ → Option ℕ
earlier n None = None
earlier n (Some i) = if nat_lt i n then Some i else None

-- how many items there are up to one
abbrev pub count_to : Option ℕ → ℕ
count_to None = 0
count_to (Some i) = suc i
