-- The words of a world: which word is whose, and what a store of one word does.
use Rattle.std.proofs.Common.{◌≡◌, ℕ, zero, suc, ◌+◌, ◌-◌, ◌*◌, ◌<◌, Some, List, [], ◌∷◌, length, map, slice_get, slice_set, slice_index, sym, refl, ap, ◌∙◌, arith}
use Rattle.std.proofs.lemmas.List.{get_or-append_right, set-append_right}
use mathlib.Core.Option as maybe
use lib.ListN.{get_elem?}
use Rattle.tlcore.specs.Machine.{World}
use Rattle.tlcore.proofs.Lists.{get_within}
use Rattle.tlcore.specs.declared.cells.Cell.{Cell}
use Rattle.tlwords.specs.Layout.{clock_at, lock_at, value_at, front_size, paired, front_of, words_of}

pub get_same : {A : Type 0} (xs : List A) (i : ℕ) (x : A) → get_elem? xs i ≡ maybe.some x → slice_get xs i ≡ Some x
get_same [] i x e = cc
get_same (y ∷ xs) zero x e = let q : y ≡ x = cc in ap (λ (z : _). Some z) q
get_same (y ∷ xs) (suc i) x e = get_same xs i x e

pub get_map : {A B : Type 0} (f : A → B) (xs : List A) (i : ℕ) (x : A) → slice_get xs i ≡ Some x → slice_get (map f xs) i ≡ Some (f x)
get_map f [] i x e = cc
get_map f (y ∷ xs) zero x e = let q : y ≡ x = cc in ap (λ (z : _). Some (f z)) q
get_map f (y ∷ xs) (suc i) x e = get_map f xs i x e

pub map_set : {A B : Type 0} (f : A → B) (xs : List A) (i : ℕ) (x : A) → map f (slice_set xs i x) ≡ slice_set (map f xs) i (f x)
map_set f [] i x = refl
map_set f (y ∷ xs) zero x = refl
map_set f (y ∷ xs) (suc i) x = ap (λ l. f y ∷ l) (map_set f xs i x)

pub set_same : {A : Type 0} (xs : List A) (i : ℕ) (x : A) → slice_get xs i ≡ Some x → slice_set xs i x ≡ xs
set_same [] i x e = refl
set_same (y ∷ xs) zero x e = let q : y ≡ x = cc in ap (λ z. z ∷ xs) (sym q)
set_same (y ∷ xs) (suc i) x e = ap (λ l. y ∷ l) (set_same xs i x e)

double : (c : ℕ) → 2 * suc c ≡ suc (suc (2 * c))
double c = omega arith

doubled : (c : ℕ) → 2 * suc c + 1 ≡ suc (suc (2 * c + 1))
doubled c = omega arith

get_lock : (xs : List Cell) (c : ℕ) (x : Cell) → slice_get xs c ≡ Some x → slice_index (paired xs) (2 * c) ≡ x.lock
get_lock [] c x e = cc
get_lock (y ∷ xs) zero x e = let q : y ≡ x = cc in ap (λ (z : Cell). z.lock) q
get_lock (y ∷ xs) (suc c) x e = ap (λ (i : ℕ). slice_index (paired (y ∷ xs)) i) (double c) ∙ get_lock xs c x e

get_value : (xs : List Cell) (c : ℕ) (x : Cell) → slice_get xs c ≡ Some x → slice_index (paired xs) (2 * c + 1) ≡ x.value
get_value [] c x e = cc
get_value (y ∷ xs) zero x e = let q : y ≡ x = cc in ap (λ (z : Cell). z.value) q
get_value (y ∷ xs) (suc c) x e = ap (λ (i : ℕ). slice_index (paired (y ∷ xs)) i) (doubled c) ∙ get_value xs c x e

set_lock : (xs : List Cell) (c n : ℕ) (x : Cell) → slice_get xs c ≡ Some x
    → slice_set (paired xs) (2 * c) n ≡ paired (slice_set xs c (record x { lock = n }))
set_lock [] c n x e = cc
set_lock (y ∷ xs) zero n x e = let q : y ≡ x = cc in ap (λ (z : Cell). n ∷ z.value ∷ paired xs) q
set_lock (y ∷ xs) (suc c) n x e =
    ap (λ (i : ℕ). slice_set (paired (y ∷ xs)) i n) (double c) ∙ ap (λ (l : List ℕ). y.lock ∷ y.value ∷ l) (set_lock xs c n x e)

set_value : (xs : List Cell) (c n : ℕ) (x : Cell) → slice_get xs c ≡ Some x
    → slice_set (paired xs) (2 * c + 1) n ≡ paired (slice_set xs c (record x { value = n }))
set_value [] c n x e = cc
set_value (y ∷ xs) zero n x e = let q : y ≡ x = cc in ap (λ (z : Cell). z.lock ∷ n ∷ paired xs) q
set_value (y ∷ xs) (suc c) n x e =
    ap (λ (i : ℕ). slice_set (paired (y ∷ xs)) i n) (doubled c) ∙ ap (λ (l : List ℕ). y.lock ∷ y.value ∷ l) (set_value xs c n x e)

-- a word of the cells, among those of the front
in_cells : (clock : ℕ) (cells : List ℕ) (i k : ℕ) → i ≡ k + 16 → slice_index (front_of clock cells) i ≡ slice_index cells k
in_cells clock cells i k e =
    get_or-append_right (front_of clock []) cells 16 i 0 refl (omega arith)
    ∙ ap (λ (j : ℕ). slice_index cells j) (let f : i - 16 ≡ k = omega arith in f)

set_cells : (clock : ℕ) (cells : List ℕ) (i k n : ℕ) → i ≡ k + 16
    → slice_set (front_of clock cells) i n ≡ front_of clock (slice_set cells k n)
set_cells clock cells i k n e =
    set-append_right (front_of clock []) cells 16 i n refl (omega arith)
    ∙ ap (λ (j : ℕ). front_of clock (slice_set cells j n)) (let f : i - 16 ≡ k = omega arith in f)

value_index : (c : ℕ) → value_at c ≡ (2 * c + 1) + 16
value_index c = omega arith

paired_length : (xs : List Cell) → length (paired xs) ≡ 2 * length xs
paired_length [] = refl
paired_length (x ∷ xs) = let r : length (paired xs) ≡ 2 * length xs = paired_length xs in omega (arith, r)

-- which word is whose, in a table whose words are those of a world
module _ (ws : List ℕ) (w : World) (e : ws ≡ words_of w) where
  pub clock_word : slice_index ws clock_at ≡ w.clock
  clock_word = ap (λ (l : List ℕ). slice_index l clock_at) e

  pub word_count : length ws ≡ front_size (length w.cells)
  word_count = let l : length (paired w.cells) ≡ 2 * length w.cells = paired_length w.cells in ap length e ∙ omega (arith, l)

  pub lock_within : (c : ℕ) (x : Cell) → slice_get w.cells c ≡ Some x → lock_at c < length ws
  lock_within c x f = let m : c < length w.cells = get_within w.cells c x f in let n = word_count in omega (arith, m, n)

  pub value_within : (c : ℕ) (x : Cell) → slice_get w.cells c ≡ Some x → value_at c < length ws
  value_within c x f = let m : c < length w.cells = get_within w.cells c x f in let n = word_count in omega (arith, m, n)

  pub lock_word : (c : ℕ) (x : Cell) → slice_get w.cells c ≡ Some x → slice_index ws (lock_at c) ≡ x.lock
  lock_word c x f =
      ap (λ (l : List ℕ). slice_index l (lock_at c)) e
      ∙ (in_cells w.clock (paired w.cells) (lock_at c) (2 * c) refl ∙ get_lock w.cells c x f)

  pub value_word : (c : ℕ) (x : Cell) → slice_get w.cells c ≡ Some x → slice_index ws (value_at c) ≡ x.value
  value_word c x f =
      ap (λ (l : List ℕ). slice_index l (value_at c)) e
      ∙ (in_cells w.clock (paired w.cells) (value_at c) (2 * c + 1) (value_index c) ∙ get_value w.cells c x f)

  pub lock_is_set : (c n : ℕ) (x : Cell) → slice_get w.cells c ≡ Some x
      → slice_set ws (lock_at c) n ≡ words_of (record w { cells = slice_set w.cells c (record x { lock = n }) })
  lock_is_set c n x f =
      ap (λ (l : List ℕ). slice_set l (lock_at c) n) e
      ∙ (set_cells w.clock (paired w.cells) (lock_at c) (2 * c) n refl
      ∙ ap (λ (l : List ℕ). front_of w.clock l) (set_lock w.cells c n x f))

  pub value_is_set : (c n : ℕ) (x : Cell) → slice_get w.cells c ≡ Some x
      → slice_set ws (value_at c) n ≡ words_of (record w { cells = slice_set w.cells c (record x { value = n }) })
  value_is_set c n x f =
      ap (λ (l : List ℕ). slice_set l (value_at c) n) e
      ∙ (set_cells w.clock (paired w.cells) (value_at c) (2 * c + 1) n (value_index c)
      ∙ ap (λ (l : List ℕ). front_of w.clock l) (set_value w.cells c n x f))
