-- The assertions of lower rank in a library.
use Rattle.std.proofs.Common.{◌≡◌, ◌<◌, ◌≤◌, ℕ, List, [], ◌∷◌, get_or, map, refl, sym, ap, subst}
use Rattle.std.specs.Prelude.{nat_lt, filter}
use Rattle.std.specs.List.{Contains, All}
use Rattle.std.specs.Str.{bytes_eq}
use Rattle.std.proofs.lemmas.Bool.{cond-true, cond-false, le-ltb}
use Rattle.std.proofs.lemmas.Bool.Decides.{Decides-ltb}
use Rattle.std.proofs.lemmas.List.Elements.{All-map, All-filter, All-contains_itself, filter_passes}
use Rattle.mmsyntax.specs.declared.statement.Assertion.{Assertion}
use Rattle.mmsyntax.specs.Assertions.{Distinct}
use Rattle.library.specs.declared.library.Ranked.{Ranked}
use Rattle.library.specs.Library.{label_of, lower}
use Rattle.library.proofs.Filtered.{contains_filtered, contains_mapped, distinct_filtered}
use Rattle.library.proofs.Frames.{labels}

-- what holds of each entry of lower rank holds of the assertions of lower rank
pub lower_all : (P : Assertion → Type 0) (lib : List Ranked) (rank : ℕ)
    → ((e : Ranked) → Contains lib e → e.rank < rank → P e.assertion) → All P (lower lib rank)
lower_all P lib rank h =
    let is_lower = λ (e : Ranked). nat_lt e.rank rank in
    All-map P (λ e. e.assertion) (filter is_lower lib) (λ i d lt.
    let e = get_or (filter is_lower lib) i d in
    h e (All-filter is_lower (Contains lib) lib (All-contains_itself lib) i d lt)
    ((Decides-ltb e.rank rank).0 (filter_passes is_lower lib i d lt)))

-- each entry of lower rank is among them
pub lower_has : (lib : List Ranked) (rank : ℕ) (e : Ranked) → Contains lib e → e.rank < rank → Contains (lower lib rank) e.assertion
lower_has lib rank e at lt =
    let is_lower = λ (f : Ranked). nat_lt f.rank rank in
    contains_mapped (λ f. f.assertion) (filter is_lower lib) e (contains_filtered is_lower lib e at ((Decides-ltb e.rank rank).1 lt))

-- ---- their labels

pub labels-assertions : (lib : List Ranked) → map (λ a. a.label) (map (λ e. e.assertion) lib) ≡ map label_of lib
labels-assertions [] = refl
labels-assertions (e ∷ lib) = ap (λ ls. label_of e ∷ ls) (labels-assertions lib)

-- they differ where those of the library do
pub lower_distinct : (lib : List Ranked) (rank : ℕ) → Distinct bytes_eq (map label_of lib) → Distinct bytes_eq (labels (lower lib rank))
lower_distinct lib rank apart =
    let is_lower = λ (f : Ranked). nat_lt f.rank rank in
    subst (Distinct bytes_eq) (sym (labels-assertions (filter is_lower lib))) (distinct_filtered label_of is_lower lib apart)

-- ---- by the first entry

-- a first entry of no lower rank is not among them
pub lower_none : (e : Ranked) (lib : List Ranked) (rank : ℕ) → rank ≤ e.rank → lower (e ∷ lib) rank ≡ lower lib rank
lower_none e lib rank le =
    let rest = filter (λ (f : Ranked). nat_lt f.rank rank) lib in
    ap (λ (es : List Ranked). map (λ f. f.assertion) es) (cond-false (nat_lt e.rank rank) (e ∷ rest) rest (le-ltb e.rank rank le))

-- one of lower rank is the first of them
pub lower_first : (e : Ranked) (lib : List Ranked) (rank : ℕ) → e.rank < rank → lower (e ∷ lib) rank ≡ e.assertion ∷ lower lib rank
lower_first e lib rank lt =
    let rest = filter (λ (f : Ranked). nat_lt f.rank rank) lib in
    ap (λ (es : List Ranked). map (λ f. f.assertion) es) (cond-true (nat_lt e.rank rank) (e ∷ rest) rest ((Decides-ltb e.rank rank).1 lt))
