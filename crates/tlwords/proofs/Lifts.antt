-- Where the front, the tail and the store stand among the table's words, and steps on the front as steps of the whole table.
use Rattle.std.proofs.Common.{◌≡◌, ℕ, ◌-◌, ◌*◌, List, [], ◌∷◌, ◌++◌, length, slice_set, slice_index, sym, refl, ap, ◌∙◌, subst, arith}
use Rattle.std.proofs.lemmas.List.{get_or_append_left, get_or-append_right, set-append_left, set-append_right}
use Rattle.atomic_table.specs.Table.{keeps, Allows}
use Rattle.tlcore.specs.declared.cells.Cell.{Cell}
use Rattle.tlwords.specs.Terms.{Terms}
use Rattle.tlwords.specs.Views.{View}
use Rattle.tlwords.specs.Layout.{front_size, tail_at, store_at, paired, words_of, shelf_of}
use Rattle.tlwords.specs.Rule.{Start, Kept, Ruled}
use Rattle.tlwords.specs.Plays.{Mine}
use Rattle.tlwords.proofs.Keeps.{AllowsFront}
use Rattle.tlwords.proofs.Shelves.{dealt_same, shelf_same}

length-paired : (xs : List Cell) → length (paired xs) ≡ 2 * length xs
length-paired [] = refl
length-paired (x ∷ xs) = let r : length (paired xs) ≡ 2 * length xs = length-paired xs in omega (arith, r)

-- ---- words

module _ (front : List ℕ) (tail : ℕ) (store : List ℕ) (n : ℕ) (long : length front ≡ front_size n) where
  to_tail : tail_at n - front_size n ≡ 7
  to_tail = omega arith

  pub tail_word : slice_index (front ++ shelf_of tail store) (tail_at n) ≡ tail
  tail_word =
      get_or-append_right front (shelf_of tail store) (front_size n) (tail_at n) 0 long (omega arith)
      ∙ ap (λ (i : ℕ). slice_index (shelf_of tail store) i) to_tail

  pub tail_is_set : (later : ℕ) → slice_set (front ++ shelf_of tail store) (tail_at n) later ≡ front ++ shelf_of later store
  tail_is_set later =
      set-append_right front (shelf_of tail store) (front_size n) (tail_at n) later long (omega arith)
      ∙ ap (λ (i : ℕ). front ++ slice_set (shelf_of tail store) i later) to_tail

  to_store : (o : ℕ) → (store_at n o - front_size n) - 15 ≡ o
  to_store o = omega arith

  pub store_word : (o : ℕ) → slice_index (front ++ shelf_of tail store) (store_at n o) ≡ slice_index store o
  store_word o =
      get_or-append_right front (shelf_of tail store) (front_size n) (store_at n o) 0 long (omega arith)
      ∙ (get_or-append_right (shelf_of tail []) store 15 (store_at n o - front_size n) 0 refl (omega arith)
      ∙ ap (λ (i : ℕ). slice_index store i) (to_store o))

  pub store_is_set : (o word : ℕ) → slice_set (front ++ shelf_of tail store) (store_at n o) word ≡ front
      ++ shelf_of tail (slice_set store o word)
  store_is_set o word =
      set-append_right front (shelf_of tail store) (front_size n) (store_at n o) word long (omega arith)
      ∙ ap (λ (l : List ℕ). front ++ l)
      (set-append_right (shelf_of tail []) store 15 (store_at n o - front_size n) word refl (omega arith)
      ∙ ap (λ (i : ℕ). shelf_of tail (slice_set store i word)) (to_store o))

module _ {S N : Type 0} (terms : Terms S N) (setting : S) (base : List ℕ) (room : ℕ) where
  -- the front has the spare word, the clock and two words for each cell
  pub front_long : (ranges : _) (front : List ℕ) (vs : List (View S N)) → Kept terms setting base room ranges front vs
      → length front ≡ front_size (length base)
  front_long ranges front vs r =
      let a : length front ≡ length (words_of r.world) = ap length r.words_are in
      let b : length (paired (r.world).cells) ≡ 2 * length (r.world).cells = length-paired (r.world).cells in
      let c : length (r.world).cells ≡ length base = r.cells_are in
      omega (arith, a, b, c)

  -- a step on the front is one of the table
  pub lifted : (opened : Start) (slots id i : ℕ) (me : Mine S N) (f : ℕ → ℕ) (then : ℕ → Mine S N → Type 0)
      → AllowsFront terms setting base room id me i f then
      → Allows (Ruled terms setting base room opened) slots id me i f (λ n r. then n r × (r.1 ≡ me.1))
  lifted opened slots id i me f then allows s r _ at _ =
      let q = allows r.ranges r.front s.views r.kept at in
      let u : View S N = q.1 in
      let same : slice_index s.words i ≡ slice_index r.front i =
      ap (λ (ws : List ℕ). slice_index ws i) r.words_are ∙ get_or_append_left r.front (shelf_of r.tail r.store) 0 i q.0 in (
        u,
        keeps,
        tt,
        record {
          front = slice_set r.front i (f (slice_index r.front i));
          tail = r.tail;
          store = r.store;
          ranges = r.ranges;
          words_are =
              ap (λ (ws : List ℕ). slice_set ws i (f (slice_index s.words i))) r.words_are
              ∙ (ap (λ (n : ℕ). slice_set (r.front ++ shelf_of r.tail r.store) i (f n)) same
              ∙ set-append_left r.front (shelf_of r.tail r.store) i (f (slice_index r.front i)) q.0);
          kept = q.3;
          dealt =
              let a : u.rights ≡ me.0.rights = q.2.2 in
              let b : length u.gone ≡ length me.0.gone = ap (λ m. length m.3) q.2.1 in
              dealt_same s.views id me.0 u at (omega (arith, a, b)) ∙ r.dealt;
          shelf = shelf_same room opened.store r.tail r.ranges r.store s.views id me.0 u r.shelf at q.2;
        },
        (subst (λ (n : ℕ). then n (u, me.1)) (sym same) q.4, refl),
      )
