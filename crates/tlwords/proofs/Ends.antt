-- What the closed words show.
use Rattle.std.proofs.Common.{◌≡◌, ◌≢◌, ⊎_elim, Bool, true, false, ◌/◌, ◌%◌, ◌^◌, map, ℕ, zero, suc, ◌+◌, ◌*◌, ◌<◌, ◌≤◌, Some, List, []}
use Rattle.std.proofs.Common.{◌∷◌, ◌++◌, length, slice_get, slice_index, min, sym, refl, ap, ◌∙◌, subst, arith}
use mathlib.Core.Option.{some, some-injective, some-ne-none}
use lib.ListN.{get_elem?}
use Rattle.std.proofs.lemmas.List.{length-append, length-map, nil_from_length}
use Rattle.atomic_table.specs.Table.{State}
use Rattle.tlcore.specs.History.{Will, version, value, deed}
use Rattle.std.specs.Prelude.{if◌then◌else◌}
use Rattle.tlcore.specs.Seats.{Seat, is_nil, is_resting}
use Rattle.tlcore.specs.declared.seats.Held.{Held}
use Rattle.tlcore.specs.Invariant.{Holds}
use Rattle.tlcore.specs.Machine.{World}
use Rattle.tlcore.proofs.Growth.{get_exists}
use Rattle.tlcore.proofs.Lists.{get_within, same_or_not}
use Rattle.tlcore.specs.declared.cells.Cell.{Cell}
use Rattle.tlwords.specs.declared.closing.ClosedCell.{ClosedCell}
use Rattle.tlwords.specs.declared.closing.ClosedWords.{ClosedWords}
use Rattle.ranges.specs.Ranges.{Range, Has, Names, IsStored, AreOfOneStore}
use Rattle.tlwords.specs.Terms.{Terms}
use Rattle.tlwords.specs.Seen.{Seen, Legal}
use Rattle.tlwords.specs.Views.{Gone, View}
use Rattle.tlwords.specs.Layout.{clock_at, lock_at, value_at, front_size, tail_at, store_at, shelf_of}
use Rattle.tlwords.specs.Known.{Known, known_of, gone_known}
use Rattle.atomic_table.specs.Seated.{TableId}
use Rattle.tlwords.specs.Rule.{total_of, Start, rights_of, numbers_of, moved_of, Adds, Kept, Ruled}
use Rattle.tlwords.specs.Closing.{AreGathered, Shows, IsWorldOf, Closes, EndsIn, IsStill, ClosesAll, IsHeldIn, holders_in}
use Rattle.tlwords.proofs.Keeps.{now, seat_at, legal_of}
use Rattle.tlwords.proofs.Gathers.{nothing_held, rests_unheld}
use Rattle.tlwords.proofs.ReadSteps.{half_of, half_written}
use Rattle.tlwords.proofs.Shelves.{tail_least, total_snoc}
use Rattle.ranges.proofs.Members.{has_mapped}
use Rattle.tlwords.proofs.Once.{OwnsWhatItDrew, has_snoc, none_left_out}
use Rattle.tlwords.proofs.Paired.{word_count, clock_word, lock_word, lock_within, value_word, value_within}

pub index_same : (xs : List ℕ) (i x : ℕ) → get_elem? xs i ≡ some x → slice_index xs i ≡ x
index_same [] i x e = absurd (none_some x e)
  where
    none_some : (x : ℕ) → get_elem? [] i ≡ some x → ⊥
    none_some x e = cc
index_same (y ∷ ys) zero x e = some-injective y x e
index_same (y ∷ ys) (suc i) x e = index_same ys i x e

elem_left : (xs ys : List ℕ) (i : ℕ) → i < length xs → get_elem? (xs ++ ys) i ≡ get_elem? xs i
elem_left [] ys i l = absurd (omega arith)
elem_left (x ∷ xs) ys zero l = refl
elem_left (x ∷ xs) ys (suc i) l = elem_left xs ys i (omega arith)

elem_right : (xs ys : List ℕ) (o : ℕ) → get_elem? (xs ++ ys) (length xs + o) ≡ get_elem? ys o
elem_right [] ys o = let e : length {A = ℕ} [] + o ≡ o = omega arith in ap (λ (k : ℕ). get_elem? ys k) e
elem_right (x ∷ xs) ys o =
    let e : length (x ∷ xs) + o ≡ suc (length xs + o) = omega arith in
    ap (λ (k : ℕ). get_elem? (x ∷ (xs ++ ys)) k) e ∙ elem_right xs ys o

elem_of : (xs : List ℕ) (i x : ℕ) → slice_get xs i ≡ Some x → get_elem? xs i ≡ some x
elem_of [] i x e = absurd (cc)
elem_of (y ∷ ys) zero x e = let q : y ≡ x = cc in ap some q
elem_of (y ∷ ys) (suc i) x e = elem_of ys i x e

-- one of them is at most all of them together
total_has : {V : Type 0} (f : V → ℕ) (vs : List V) (id : ℕ) (v : V) → get_elem? vs id ≡ some v → f v ≤ total_of f vs
total_has f [] id v at = absurd (some-ne-none v (sym at))
total_has f (u ∷ vs) zero v at = let e : f u ≡ f v = ap f (some-injective u v at) in omega (arith, e)
total_has f (u ∷ vs) (suc id) v at = let r : f v ≤ total_of f vs = total_has f vs id v at in omega (arith, r)

-- where one of them is all together, the others are nothing
others_none : {V : Type 0} (f : V → ℕ) (vs : List V) (id : ℕ) (v : V) → get_elem? vs id ≡ some v → total_of f vs ≡ f v
    → (j : ℕ) (u : V) → j ≢ id → get_elem? vs j ≡ some u → f u ≡ 0
others_none f [] id v at e j u other there = absurd (some-ne-none v (sym at))
others_none f (x ∷ xs) zero v at e zero u other there = absurd (other refl)
others_none f (x ∷ xs) zero v at e (suc j) u other there =
    let a : f x ≡ f v = ap f (some-injective x v at) in
    let b : f u ≤ total_of f xs = total_has f xs j u there in
    omega (arith, a, b, e)
others_none f (x ∷ xs) (suc id) v at e zero u other there =
    let a : f x ≡ f u = ap f (some-injective x u there) in
    let b : f v ≤ total_of f xs = total_has f xs id v at in
    omega (arith, a, b, e)
others_none f (x ∷ xs) (suc id) v at e (suc j) u other there =
    let b : f v ≤ total_of f xs = total_has f xs id v at in
    others_none f xs id v at (omega (arith, b, e)) j u (λ p. other (ap suc p)) there

none_total : {V : Type 0} (f : V → ℕ) (vs : List V) → ((j : ℕ) (u : V) → get_elem? vs j ≡ some u → f u ≡ 0) → total_of f vs ≡ 0
none_total f [] each = refl
none_total f (x ∷ xs) each =
    let a : f x ≡ 0 = each 0 x refl in
    let b : total_of f xs ≡ 0 = none_total f xs (λ j u at. each (suc j) u at) in
    omega (arith, a, b)

-- where the others are nothing, one of them is all together
only_one : {V : Type 0} (f : V → ℕ) (vs : List V) (id : ℕ) (v : V) → get_elem? vs id ≡ some v
    → ((j : ℕ) (u : V) → j ≢ id → get_elem? vs j ≡ some u → f u ≡ 0) → total_of f vs ≡ f v
only_one f [] id v at each = absurd (some-ne-none v (sym at))
only_one f (x ∷ xs) zero v at each =
    let a : f x ≡ f v = ap f (some-injective x v at) in
    let b : total_of f xs ≡ 0 = none_total f xs (λ j u there. each (suc j) u (λ p. omega (arith, p)) there) in
    omega (arith, a, b)
only_one f (x ∷ xs) (suc id) v at each =
    let a : f x ≡ 0 = each 0 x (λ p. omega (arith, p)) refl in
    let b : total_of f xs ≡ f v = only_one f xs id v at (λ j u other there. each (suc j) u (λ p. other (omega (arith, p))) there) in
    omega (arith, a, b)

-- where each is at most another, so are all together; and where one leaves so many, all do
total_most : {V : Type 0} (f g : V → ℕ) (vs : List V) → ((j : ℕ) (u : V) → get_elem? vs j ≡ some u → f u ≤ g u) → total_of f vs ≤
    total_of g vs
total_most f g [] each = omega arith
total_most f g (x ∷ xs) each =
    let a : f x ≤ g x = each 0 x refl in
    let b : total_of f xs ≤ total_of g xs = total_most f g xs (λ j u at. each (suc j) u at) in
    omega (arith, a, b)

total_leaves : {V : Type 0} (f g : V → ℕ) (vs : List V) (id : ℕ) (v : V) (k : ℕ) → get_elem? vs id ≡ some v → f v + k ≤ g v
    → ((j : ℕ) (u : V) → get_elem? vs j ≡ some u → f u ≤ g u) → total_of f vs + k ≤ total_of g vs
total_leaves f g [] id v k at leaves each = absurd (some-ne-none v (sym at))
total_leaves f g (x ∷ xs) zero v k at leaves each =
    let a : f x + k ≤ g x = subst (λ y. f y + k ≤ g y) (sym (some-injective x v at)) leaves in
    let b : total_of f xs ≤ total_of g xs = total_most f g xs (λ j u there. each (suc j) u there) in
    omega (arith, a, b)
total_leaves f g (x ∷ xs) (suc id) v k at leaves each =
    let a : f x ≤ g x = each 0 x refl in
    let b : total_of f xs + k ≤ total_of g xs = total_leaves f g xs id v k at leaves (λ j u there. each (suc j) u there) in
    omega (arith, a, b)

-- the view of a seat
seat_view : {V X : Type 0} (f : V → X) (vs : List V) (i : ℕ) (x : X) → slice_get (map f vs) i ≡ Some x
    → (v : V) × (get_elem? vs i ≡ some v) × (f v ≡ x)
seat_view f [] i x e = absurd (cc)
seat_view f (v ∷ vs) zero x e = let q : f v ≡ x = cc in (v, refl, q)
seat_view f (v ∷ vs) (suc i) x e = seat_view f vs i x e

total_map : {U V : Type 0} (f : V → ℕ) (g : U → V) (us : List U) → total_of f (map g us) ≡ total_of (λ (u : U). f (g u)) us
total_map f g [] = refl
total_map f g (u ∷ us) = ap (λ (n : ℕ). f (g u) + n) (total_map f g us)

-- 1 where it holds a cell
abbrev holder_of : Seat → ℕ
holder_of t = if is_nil t.held then 0 else 1

holds_none : (t : Seat) → t.held ≡ [] → holder_of t ≡ 0
holds_none t e = ap (λ (ks : List Held). if is_nil ks then 0 else 1) e

holds_few : (ks : List Held) (n : ℕ) → (n ≡ 0 → ks ≡ []) → (if is_nil ks then 0 else 1) ≤ n
holds_few [] n unheld = omega arith
holds_few (x ∷ ks) zero unheld = let e : x ∷ ks ≡ [] = unheld refl in absurd (cc)
holds_few (x ∷ ks) (suc n) unheld = omega arith

-- a pass has moved the tail with those that were given up to it
given_moved : {S N : Type 0} (table : TableId) (v : View S N) (gs : List (Gone S N)) (us : List (Known S N)) → gs ≡ map gone_known us
    → moved_of (record v { gone = gs }) ≡ total_of (λ (x : Known S N). x.taken + x.added) (us ++ known_of table v ∷ [])
given_moved {S} {N} table v gs us gone =
    let a : total_of (λ (g : Gone S N). g.taken + g.added) gs ≡ total_of (λ (x : Known S N). x.taken + x.added) us =
    ap (total_of (λ (g : Gone S N). g.taken + g.added)) gone ∙ total_map (λ (g : Gone S N). g.taken + g.added) gone_known us in
    let b : total_of (λ (x : Known S N). x.taken + x.added) (us ++ known_of table v ∷ []) ≡ total_of
    (λ (x : Known S N). x.taken + x.added) us + (v.taken + v.added) =
    total_snoc (λ (x : Known S N). x.taken + x.added) us (known_of table v) in
    omega (arith, a, b)

module _ {S N : Type 0} (terms : Terms S N) (setting : S) (base : List ℕ) (room : ℕ) (opened : Start) (s : State (Unit {0}) (View S N))
    (r : Ruled terms setting base room opened s)
    (n : ℕ) (closed : ClosedWords) (long : length s.words ≡ store_at n room) (gathered : AreGathered s.words n room closed) where
  abbrev k : Kept terms setting base room r.ranges r.front s.views
  k = r.kept

  abbrev w : World
  w = k.world

  abbrev last : Seen N
  last = now terms setting base room r.ranges r.front s.views r.kept

  front_count : length r.front ≡ front_size (length w.cells)
  front_count = word_count r.front w k.words_are

  many : n ≡ length w.cells
  many =
      let a : length s.words ≡ length (r.front ++ shelf_of r.tail r.store) = ap length r.words_are in
      let b : length (r.front ++ shelf_of r.tail r.store) ≡ length r.front + length (shelf_of r.tail r.store) = length-append r.front
      (shelf_of r.tail r.store) in
      let c : length r.store ≡ room = (r.shelf).long in
      let d : length r.front ≡ front_size (length w.cells) = front_count in
      omega (arith, a, b, c, d, long)

  front_word : (i x : ℕ) → i < length r.front → get_elem? s.words i ≡ some x → slice_index r.front i ≡ x
  front_word i x l e =
      index_same r.front i x
      (sym (elem_left r.front (shelf_of r.tail r.store) i l) ∙ (ap (λ (l : List ℕ). get_elem? l i) (sym r.words_are) ∙ e))

  tail_same : closed.tail ≡ r.tail
  tail_same =
      let at : tail_at n ≡ length r.front + 7 = let a : n ≡ length w.cells = many in let b : length r.front ≡ front_size
      (length w.cells) = front_count in omega (arith, a, b) in
      some-injective closed.tail r.tail
      (sym gathered.tail_is ∙ (ap (λ (l : List ℕ). get_elem? l (tail_at n)) r.words_are
      ∙ (ap (λ (i : ℕ). get_elem? (r.front ++ shelf_of r.tail r.store) i) at ∙ elem_right r.front (shelf_of r.tail r.store) 7)))

  store_word : (o x y : ℕ) → slice_get closed.store.items o ≡ Some x → slice_get r.store o ≡ Some y → x ≡ y
  store_word o x y e f =
      let at : store_at n o ≡ length r.front + (15 + o) = let a : n ≡ length w.cells = many in let b : length r.front ≡ front_size
      (length w.cells) = front_count in omega (arith, a, b) in
      some-injective x y
      (sym (gathered.store_is o x e) ∙ (ap (λ (l : List ℕ). get_elem? l (store_at n o)) r.words_are
      ∙ (ap (λ (i : ℕ). get_elem? (r.front ++ shelf_of r.tail r.store) i) at ∙ (elem_right r.front (shelf_of r.tail r.store) (15 + o)
      ∙ (elem_right (shelf_of r.tail []) r.store o ∙ elem_of r.store o y f)))))

  store_same : (o y : ℕ) → o < closed.tail → slice_get r.store o ≡ Some y → slice_get closed.store.items o ≡ Some y
  store_same o y below f =
      let l : o < length r.store = get_within r.store o y f in
      let c : length r.store ≡ room = (r.shelf).long in
      let d : min closed.tail room ≤ length closed.store.items = gathered.reaches in
      let x : (x : ℕ) × (slice_get closed.store.items o ≡ Some x) = get_exists closed.store.items o (omega (arith, l, c, d, below)) in
      x.1 ∙ ap (λ (v : ℕ). Some v) (store_word o x.0 y x.1 f)

  stored : (range : Range) → Has range r.ranges → IsStored closed.tail closed.store.items range
  stored range has i x e =
      let b : (slice_get r.store (range.start + i) ≡ Some x) × (range.start + i < r.tail) = (r.shelf).finished range has i x e in
      let l : range.start + i < closed.tail = subst (λ (t : ℕ). range.start + i < t) (sym tail_same) b.1 in
      (store_same (range.start + i) x l b.0, l)

  -- each word of a finished range is one of those up to the tail
  one_store : AreOfOneStore (length closed.store.items) r.ranges
  one_store = (
    λ range has i lt.
        let w : (w : ℕ) × (slice_get range.words i ≡ Some w) = get_exists range.words i lt in
        get_within closed.store.items (range.start + i) w.0 (stored range has i w.0 w.1).0,
    (k.lie).1,
  )

  refused : closed.tail ≤ closed.room + (closed.room + 1) * 64
  refused =
      let same : closed.tail ≡ r.tail = tail_same in
      let l : r.tail ≤ room + (room + 1) * 64 = tail_least (length opened.store) room r.tail s.views (r.shelf).tail_is k.rights in
      let least : closed.tail ≤ room + (room + 1) * 64 = omega (arith, l, same) in
      subst (λ (m : ℕ). closed.tail ≤ m + (m + 1) * 64) (sym gathered.room_is) least

  -- the cell as the machine has it
  cell_same : (c : ℕ) (x : ClosedCell) → slice_get closed.cells.items c ≡ Some x
      → (y : Cell) × (slice_get w.cells c ≡ Some y) × (y.lock ≡ x.lock) × (y.value ≡ x.value)
  cell_same c x f =
      let l : c < length closed.cells.items = get_within closed.cells.items c x f in
      let m : n ≡ length w.cells = many in
      let y : (y : Cell) × (slice_get w.cells c ≡ Some y) = get_exists w.cells c (omega (arith, l, m, gathered.cells_count)) in
      let lock : (y.0).lock ≡ x.lock =
      sym (lock_word r.front w k.words_are c y.0 y.1)
      ∙ front_word (lock_at c) x.lock (lock_within r.front w k.words_are c y.0 y.1) (gathered.cells_are c x f).0 in
      let shows : (y.0).value ≡ x.value =
      sym (value_word r.front w k.words_are c y.0 y.1)
      ∙ front_word (value_at c) x.value (value_within r.front w k.words_are c y.0 y.1) (gathered.cells_are c x f).1 in
      (y.0, y.1, lock, shows)

  shown : Shows base w.history closed.clock closed.cells.items
  shown =
      record {
        clock_is =
            let l : clock_at < length r.front = let b : length r.front ≡ front_size (length w.cells) = front_count in omega (arith, b) in
            sym ((k.invariant).consistent.clock) ∙ (sym (clock_word r.front w k.words_are)
            ∙ front_word clock_at closed.clock l gathered.clock_is);
        count = gathered.cells_count ∙ (many ∙ k.cells_are);
        free = λ c v x f e.
            let y : (y : Cell) × (slice_get w.cells c ≡ Some y) × (y.lock ≡ x.lock) × (y.value ≡ x.value) = cell_same c x f in
            let ok : (v ≡ version w.history c) × ((y.0).value ≡ value base w.history c) × ((i u : ℕ) → deed w.history c i ≡ Will u → ⊥) =
            (k.invariant).consistent.cells c v y.0 y.1 (y.2 ∙ e) in
            (ok.0, sym y.3 ∙ ok.1, ok.2);
        written = λ c x f.
            let y : (y : Cell) × (slice_get w.cells c ≡ Some y) × (y.lock ≡ x.lock) × (y.value ≡ x.value) = cell_same c x f in
            half_written terms setting base room r.ranges r.front s.views r.kept c x.lock y.0 y.1 (sym y.2);
      }

  named : (c : ℕ) (x : ClosedCell) → slice_get closed.cells.items c ≡ Some x → terms.ranged setting c ≡ true → Names r.ranges x.value
  named c x f is =
      let y : (y : Cell) × (slice_get w.cells c ≡ Some y) × (y.lock ≡ x.lock) × (y.value ≡ x.value) = cell_same c x f in
      subst (λ (v : ℕ). Names r.ranges v) y.3 (k.named c y.0 y.1 is)

  -- a lock that is held is that of a seat in the middle of a run
  held : (c : ℕ) (x : ClosedCell) → slice_get closed.cells.items c ≡ Some x → x.lock % 2 ≡ 1 → IsHeldIn w c
  held c x f odd =
      let y : (y : Cell) × (slice_get w.cells c ≡ Some y) × (y.lock ≡ x.lock) × (y.value ≡ x.value) = cell_same c x f in
      let lock : x.lock ≡ suc (2 * (x.lock / 2)) = omega (arith, odd) in
      let b = (k.invariant).locked_are_held c (x.lock / 2) y.0 y.1 (y.2 ∙ lock) in
      record { index = b.0; seat = b.1; here = b.2; holds = b.3; busy = busy b.0 b.1 b.2 b.3 (is_resting b.1.phase) refl }
    where
      busy : (id : ℕ) (t : Seat) → slice_get w.seats id ≡ Some t → Holds t c → (v : Bool) → is_resting t.phase ≡ v
          → is_resting t.phase ≡ false
      busy id t at holds true rest = absurd (nothing_held t c (rests_unheld base w id t k.invariant at rest) holds)
      busy id t at holds false rest = rest

  -- a view whose seat holds a cell has a part of the right to draw
  few_held : (j : ℕ) (u : View S N) → get_elem? s.views j ≡ some u → holder_of u.seat ≤ rights_of u
  few_held j u at =
      let a : holder_of u.seat ≤ u.rights = holds_few u.seat.held u.rights (k.suits j u at).unheld in
      omega (arith, a)

  holders : holders_in w ≡ total_of (λ (u : View S N). holder_of u.seat) s.views
  holders = ap (total_of holder_of) (sym k.seats_are) ∙ total_map holder_of (λ (u : View S N). u.seat) s.views

  legal : Legal terms setting base last
  legal = legal_of terms setting base room r.ranges w k.notes k.invariant k.entries

  is_world : IsWorldOf base w.history closed.clock closed.cells.items w
  is_world = record {
    invariant = k.invariant;
    reached = k.reached;
    history_is = refl;
    clock_is = (k.invariant).consistent.clock ∙ shown.clock_is;
    count = let m : n ≡ length w.cells = many in omega (arith, m, gathered.cells_count);
    cells_are = λ c x f.
        let y : (y : Cell) × (slice_get w.cells c ≡ Some y) × (y.lock ≡ x.lock) × (y.value ≡ x.value) = cell_same c x f in
        y.1 ∙ (λ i. Some (record { lock = y.2 i; value = y.3 i }));
  }

  behind : length opened.store ≤ closed.tail
  behind =
      let t : closed.tail ≡ r.tail = tail_same in
      let a : r.tail ≡ length opened.store + total_of moved_of s.views = (r.shelf).tail_is.is in
      omega (arith, t, a)

  left : (o x : ℕ) → slice_get opened.store o ≡ Some x → slice_get closed.store.items o ≡ Some x
  left o x e =
      let l : o < length opened.store = get_within opened.store o x e in
      store_same o x (omega (arith, l, behind)) ((r.shelf).left.opening o x e)

  blank : (o x : ℕ) → closed.tail ≤ o → slice_get closed.store.items o ≡ Some x → x ≡ 0
  blank o x past e =
      let l : o < length closed.store.items = get_within closed.store.items o x e in
      let m : length closed.store.items ≤ room = gathered.within in
      let t : closed.tail ≡ r.tail = tail_same in
      store_word o x 0 e ((r.shelf).left.blank o (omega (arith, t, past)) (omega (arith, l, m)))

  pub closes : Closes terms setting base opened.store closed
  closes = record {
    seen = last;
    world = w;
    is_world = is_world;
    noted = k.notes_are;
    legal = legal;
    shows = shown;
    stored = stored;
    ranges = one_store;
    reaches = subst (λ (m : ℕ). min closed.tail m ≤ length closed.store.items) (sym gathered.room_is) gathered.reaches;
    within = subst (λ (m : ℕ). length closed.store.items ≤ m) (sym gathered.room_is) gathered.within;
    blank = blank;
    left = left;
    behind = behind;
    refused = refused;
    opening = k.opening;
    named = named;
    held = held;
  }

  found_of : (m count : ℕ) → m + min count (room + 1) ≤ r.tail → m + min count (closed.room + 1) ≤ closed.tail
  found_of m count b =
      let t : closed.tail ≡ r.tail = tail_same in
      subst (λ (z : ℕ × ℕ). m + min count (z.0 + 1) ≤ z.1) (λ i. (sym gathered.room_is i, sym t i)) b

  -- a view's own pass
  own_ends : (table : TableId) (id : ℕ) (v : View S N) → get_elem? s.views id ≡ some v
      → EndsIn terms setting base opened.store closed closes (known_of table v)
  unfolding closes
  own_ends table id v there =
      let f = k.suits id v there in
      let a : Adds room r.tail v = (r.shelf).tail_is.each id v there in
      record { same = f.own.setting_is; grows = f.own.grows; mine = f.mine; found = λ m count e. found_of m count (a.found m count e) }

  -- a pass that was given up to it
  gone_ends : (id : ℕ) (v : View S N) (u : Known S N) → get_elem? s.views id ≡ some v → Has (gone_known u) v.gone
      → EndsIn terms setting base opened.store closed closes u
  unfolding closes
  gone_ends id v u there has =
      let f = (k.suits id v there).gone (gone_known u) has in
      let a : Adds room r.tail v = (r.shelf).tail_is.each id v there in
      record {
        same = f.told.setting_is;
        grows = f.told.grows;
        mine = f.mine;
        found = λ m count e. found_of m count
            ((a.gone (gone_known u) has).1 m count e);
      }

  -- no other seat can have anything: it has no part of the right to draw
  module _ (table : TableId) (id : ℕ) (last_pass : View S N) (gs : List (Gone S N))
      (there : get_elem? s.views id ≡ some (record last_pass { gone = gs }))
      (unheld : last_pass.seat.held ≡ []) (us : List (Known S N)) (one : last_pass.rights ≡ 1) (gone : gs ≡ map gone_known us)
      (every : length (us ++ known_of table last_pass ∷ []) ≡ opened.sessions) where
    abbrev v : View S N
    v = record last_pass { gone = gs }

    all_rights : total_of rights_of s.views ≡ rights_of v
    all_rights =
        let a : total_of rights_of s.views ≡ opened.sessions = r.dealt in
        let b : length (us ++ known_of table last_pass ∷ []) ≡ length us + 1 = length-append us (known_of table last_pass ∷ []) in
        let c : length gs ≡ length us = ap length gone ∙ length-map us gone_known in
        omega (arith, a, b, c, one, every)

    poor : (j : ℕ) (u : View S N) → j ≢ id → get_elem? s.views j ≡ some u → (u.rights ≡ 0) × (u.gone ≡ [])
    poor j u other at =
        let a : rights_of u ≡ 0 = others_none rights_of s.views id v there all_rights j u other at in
        (omega (arith, a), nil_from_length u.gone (let b : length u.gone ≡ 0 = omega (arith, a) in b))

    all_unheld : (j : ℕ) (u : View S N) → get_elem? s.views j ≡ some u → u.seat.held ≡ []
    all_unheld j u at = ⊎_elim
        (λ (p : j ≡ id). ap (λ (x : View S N). x.seat.held) (some-injective u v
        (sym at ∙ (ap (λ (i : ℕ). get_elem? s.views i) p ∙ there))) ∙ unheld)
        (λ (p : j ≢ id). (k.suits j u at).unheld (poor j u p at).0)
        (same_or_not id j)

    free : (c : ℕ) (x : ClosedCell) → slice_get closed.cells.items c ≡ Some x → x.lock % 2 ≡ 0
    free c x f =
        let y : (y : Cell) × (slice_get w.cells c ≡ Some y) × (y.lock ≡ x.lock) × (y.value ≡ x.value) = cell_same c x f in
        ⊎_elim (λ (e : x.lock ≡ 2 * (x.lock / 2)). omega (arith, e))
        (λ (e : x.lock ≡ suc (2 * (x.lock / 2))).
        let b = (k.invariant).locked_are_held c (x.lock / 2) y.0 y.1 (y.2 ∙ e) in
        let u = seat_view (λ (x : View S N). x.seat) s.views b.0 b.1 (ap (λ (l : List Seat). slice_get l b.0) k.seats_are ∙ b.2) in
        absurd (nothing_held b.1 c (ap (λ (t : Seat). t.held) (sym u.2) ∙ all_unheld b.0 u.0 u.1) b.3))
        (half_of x.lock)

    abbrev given : List (Known S N)
    given = us ++ known_of table last_pass ∷ []

    abbrev Owns : Known S N → Type 0
    Owns = OwnsWhatItDrew (λ (u : Known S N). u.drawn) (λ u. u.name) k.owner (length w.history)

    owns : (u : Known S N) → Has u given → Owns u
    owns u has =
        let f = k.suits id v there in
        ⊎_elim
        (λ (p : Has u us).
        let told = (f.gone (gone_known u) (subst (λ (gs : List (Gone S N)). Has (gone_known u) gs) (sym gone)
        (has_mapped gone_known us u p))).told in
        (told.owned, told.once))
        (λ (p : u ≡ known_of table last_pass). subst Owns (sym p) (f.own.owned, f.own.once))
        (has_snoc u us (known_of table last_pass) has)

    drawn_all : total_of (λ (x : Known S N). length x.drawn) given ≡ length w.history
    drawn_all =
        let a : total_of numbers_of s.views ≡ length w.history = k.numbers in
        let b : total_of numbers_of s.views ≡ numbers_of v = only_one numbers_of s.views id v there (λ j u other at.
        let p = poor j u other at in
        let c : length u.drawn ≤ 2 ^ 40 * u.rights = (k.suits j u at).few in
        let z : total_of (λ (g : Gone S N). length g.told.drawn) u.gone ≡ 0 = ap (total_of (λ (g : Gone S N). length g.told.drawn)) p.1 in
        let q : u.rights ≡ 0 = p.0 in
        omega (arith, c, z, q)) in
        let c : total_of (λ (x : Known S N). length x.drawn) given ≡ total_of (λ (x : Known S N). length x.drawn) us + length
        last_pass.drawn =
        total_snoc (λ (x : Known S N). length x.drawn) us (known_of table last_pass) in
        let d : total_of (λ (g : Gone S N). length g.told.drawn) gs ≡ total_of (λ (x : Known S N). length x.drawn) us =
        ap (total_of (λ (g : Gone S N). length g.told.drawn)) gone ∙ total_map (λ (g : Gone S N). length g.told.drawn) gone_known us in
        omega (arith, a, b, c, d)

    pub still : IsStill opened.store closed given
    still = record {
      free = free;
      clock =
          let a : total_of (λ (x : Known S N). length x.drawn) given ≡ length w.history = drawn_all in
          let e : length w.history ≡ closed.clock = shown.clock_is in
          omega (arith, a, e);
      every = λ names n some within.
          let e : length w.history ≡ closed.clock = shown.clock_is in
          none_left_out (λ (u : Known S N). u.drawn) (λ u. u.name) k.owner (length w.history) given owns names drawn_all n some
          (omega (arith, e, within));
      tail =
          let a : r.tail ≡ length opened.store + total_of moved_of s.views = (r.shelf).tail_is.is in
          let b : total_of moved_of s.views ≡ moved_of v = only_one moved_of s.views id v there (λ j u other at.
          let p = poor j u other at in
          let h : Adds room r.tail u = (r.shelf).tail_is.each j u at in
          let c : u.taken ≡ 0 = h.untaken p.0 in
          let d : u.added ≤ (room + 1) * 0 = subst (λ (n : ℕ). u.added ≤ (room + 1) * n) p.0 h.once in
          let z : total_of (λ (g : Gone S N). g.taken + g.added) u.gone ≡ 0 = ap (total_of (λ (g : Gone S N). g.taken + g.added)) p.1 in
          omega (arith, c, d, z)) in
          let c : moved_of v ≡ total_of (λ (x : Known S N). x.taken + x.added) (us ++ known_of table last_pass ∷ []) = given_moved table
          last_pass gs us gone in
          let t : closed.tail ≡ r.tail = tail_same in
          omega (arith, a, b, c, t);
    }

  -- the seats that hold a cell are not those of the passes given
  others : (id : ℕ) (x : View S N) (gs : List (Gone S N)) → get_elem? s.views id ≡ some (record x { gone = gs }) → x.seat.held ≡ []
      → x.rights ≡ 1 → (count : ℕ) → length gs + 1 ≡ count → holders_in closes.world + count ≤ opened.sessions
  unfolding closes
  others id x gs there unheld one count is =
      let none : holder_of x.seat ≡ 0 = holds_none x.seat unheld in
      let l : total_of (λ (u : View S N). holder_of u.seat) s.views + count ≤ total_of rights_of s.views =
      total_leaves (λ (u : View S N). holder_of u.seat) rights_of s.views id (record x { gone = gs }) count there
      (omega (arith, none, one, is)) few_held in
      let a : total_of rights_of s.views ≡ opened.sessions = r.dealt in
      let b : holders_in w ≡ total_of (λ (u : View S N). holder_of u.seat) s.views = holders in
      omega (arith, l, a, b)

  others_alone : holders_in closes.world ≤ opened.sessions
  unfolding closes
  others_alone =
      let l : total_of (λ (u : View S N). holder_of u.seat) s.views ≤ total_of rights_of s.views =
      total_most (λ (u : View S N). holder_of u.seat) rights_of s.views few_held in
      let a : total_of rights_of s.views ≡ opened.sessions = r.dealt in
      let b : holders_in w ≡ total_of (λ (u : View S N). holder_of u.seat) s.views = holders in
      omega (arith, l, a, b)

  pub closes_all : (table : TableId) (id : ℕ) (x : View S N) (gs : List (Gone S N)) → get_elem? s.views id ≡ some
      (record x { gone = gs }) → is_resting x.seat.phase ≡ true
      → x.rights ≡ 1
      → (us : List (Known S N)) → gs ≡ map gone_known us → ClosesAll terms setting base opened.store opened.sessions
      (us ++ known_of table x ∷ []) closed
  closes_all table id x gs there rest one us gone =
      let v : View S N = record x { gone = gs } in
      let unheld : x.seat.held ≡ [] =
      rests_unheld base w id x.seat k.invariant (seat_at terms setting base room r.ranges r.front s.views r.kept id v there) rest in
      let own : EndsIn terms setting base opened.store closed closes (known_of table v) = own_ends table id v there in
      let mine : EndsIn terms setting base opened.store closed closes (known_of table x) =
      record { same = own.same; grows = own.grows; mine = own.mine; found = own.found } in
      record {
        closes = closes;
        each = λ u has. ⊎_elim
            (λ (p : Has u us). gone_ends id v u there (subst (λ (gs : List (Gone S N)). Has (gone_known u) gs) (sym gone)
            (has_mapped gone_known us u p)))
            (λ (p : u ≡ known_of table x). subst (λ (z : Known S N). EndsIn terms setting base opened.store closed closes z) (sym p) mine)
            (has_snoc u us (known_of table x) has);
        moved =
            let t : closed.tail ≡ r.tail = tail_same in
            let a : r.tail ≡ length opened.store + total_of moved_of s.views = (r.shelf).tail_is.is in
            let b : moved_of v ≤ total_of moved_of s.views = total_has moved_of s.views id v there in
            let c : moved_of v ≡ total_of (λ (x : Known S N). x.taken + x.added) (us ++ known_of table x ∷ []) = given_moved table x gs
            us gone in
            omega (arith, t, a, b, c);
        others = others id x gs there unheld one (length (us ++ known_of table x ∷ []))
            (let b : length (us ++ known_of table x ∷ []) ≡ length us + 1 = length-append us (known_of table x ∷ []) in
            let c : length gs ≡ length us = ap length gone ∙ length-map us gone_known in
            omega (arith, b, c));
        still = still table id x gs there unheld us one gone;
      }

  pub closes_alone : 1 ≤ opened.sessions → ClosesAll {S = S} {N = N} terms setting base opened.store opened.sessions [] closed
  closes_alone some_sessions = record {
    closes = closes;
    each = λ u has. absurd has;
    moved = let b : length opened.store ≤ closed.tail = behind in omega (arith, b);
    others = let b : holders_in closes.world ≤ opened.sessions = others_alone in omega (arith, b);
    still = λ e. absurd (omega (arith, e, some_sessions));
  }

-- what a seat knows after all these passes were given up to it
pub gone_all : {S N : Type 0} (ps : List (Known S N)) (gs : List (Gone S N)) → gs ≡ [] → map gone_known ps ++ gs ≡ map gone_known ps
gone_all [] gs e = e
gone_all {S} {N} (p ∷ ps) gs e = ap (λ (l : List (Gone S N)). gone_known p ∷ l) (gone_all ps gs e)
