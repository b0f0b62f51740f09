-- Arguments that are put one after another in the order of the source.
use Rattle.std.proofs.Common.{◌≡◌, ℕ, ◌+◌, ◌-◌, ◌<◌, ◌≤◌, Bool, true, false, cond, List, [], ◌∷◌, ◌++◌, length, get_or, take, drop}
use Rattle.std.proofs.Common.{refl, sym, ap, ◌∙◌, append-nil, length-append, arith}
use Rattle.std.specs.Prelude.{count_by}
use Rattle.std.proofs.lemmas.List.{take_more, length-take-le, length-drop, get_or-drop, take_all, take_rest, drop_all, take-append-drop}
use Rattle.std.proofs.lemmas.List.Sums.{sum_by-drop_more, sum_by-take-drop, count_by-le-length}
use Rattle.taking.specs.Walks.{is_wanted, in_front, picked, arranged}

-- how many are of a `$f`
abbrev pub count_of : List Bool → ℕ
count_of kinds = count_by (λ k. k) kinds

-- as many kinds as were looked at, with the arguments that were put for them
pub record ArePlaced (kinds : List Bool) (arguments : List ℕ) (i floats premises : ℕ) (made : List ℕ) : Type 0 where
  pub as_many : length made ≡ i
  pub floats_left : floats + count_of (drop i kinds) ≡ count_of kinds
  pub premises_left : premises ≡ count_of (drop i kinds) + i
  pub at_floats : picked true (take i kinds) made ≡ take floats arguments
  pub at_premises : picked false (take i kinds) made ≡ take (premises - count_of kinds) (drop (count_of kinds) arguments)

-- before any
pub none_placed : (kinds : List Bool) (arguments : List ℕ) (premises : ℕ) (made : List ℕ) → premises ≡ count_of kinds → made ≡ []
    → ArePlaced kinds arguments 0 0 premises made
none_placed kinds arguments premises made all none =
    let no_premise : 0 ≡ premises - count_of kinds = omega (arith, all) in
    record {
      as_many = ap length none;
      floats_left = omega arith;
      premises_left = omega (arith, all);
      at_floats = refl;
      at_premises = ap (λ n. take n (drop (count_of kinds) arguments)) no_premise;
    }

-- behind all
pub all_placed : (kinds : List Bool) (arguments : List ℕ) (i floats premises : ℕ) (made : List ℕ)
    → ArePlaced kinds arguments i floats premises made → length kinds ≤ i → i ≤ length kinds → length kinds ≡ length arguments
    → arranged kinds made ≡ arguments
all_placed kinds arguments i floats premises made placed at_end within same =
    let c = count_of kinds in
    let none : count_of (drop i kinds) ≡ 0 = ap count_of (drop_all i kinds at_end) in
    let all : take i kinds ≡ kinds = take_all i kinds at_end in
    let front : floats ≡ c = omega (arith, none, placed.floats_left) in
    let rest : premises - c ≡ length arguments - c = omega (arith, none, placed.premises_left, same) in
    ap (λ (ks : List Bool). picked true ks made ++ picked false kinds made) (sym all)
    ∙ ap (λ (xs : List ℕ). xs ++ picked false kinds made) (placed.at_floats ∙ ap (λ (n : ℕ). take n arguments) front)
    ∙ ap (λ (ks : List Bool). take c arguments ++ picked false ks made) (sym all)
    ∙ ap (λ (xs : List ℕ). take c arguments ++ xs)
    (placed.at_premises ∙ ap (λ (n : ℕ). take n (drop c arguments)) rest ∙ take_rest arguments c)
    ∙ take-append-drop c arguments

front_append : (b : Bool) (x : ℕ) (xs ys : List ℕ) → in_front b x (xs ++ ys) ≡ in_front b x xs ++ ys
front_append true x xs ys = refl
front_append false x xs ys = refl

-- one more kind and argument
picked_push : (b : Bool) (kinds : List Bool) (xs : List ℕ) (kind : Bool) (x : ℕ) → length xs ≡ length kinds
    → picked b (kinds ++ kind ∷ []) (xs ++ x ∷ []) ≡ picked b kinds xs ++ in_front (is_wanted b kind) x []
picked_push b [] [] kind x e = refl
picked_push b [] (y ∷ xs) kind x e = absurd (omega arith)
picked_push b (k ∷ kinds) [] kind x e = absurd (omega arith)
picked_push b (k ∷ kinds) (y ∷ xs) kind x e =
    ap (in_front (is_wanted b k) y) (picked_push b kinds xs kind x (omega arith))
    ∙ front_append (is_wanted b k) y (picked b kinds xs) (in_front (is_wanted b kind) x [])

module _ (kinds : List Bool) (arguments : List ℕ) (i floats premises : ℕ) (made new : List ℕ)
    (placed : ArePlaced kinds arguments i floats premises made) (within : i < length kinds) (same : length kinds ≡ length arguments) where
  -- the kinds that are left, with and without the next
  left : (kind : Bool) → get_or kinds i false ≡ kind → count_of (drop i kinds) ≡ cond kind 1 0 + count_of (drop (i + 1) kinds)
  left kind is = sum_by-drop_more (λ k. cond k 1 0) kinds i false within ∙ ap (λ k. cond k 1 0 + count_of (drop (i + 1) kinds)) is

  few : count_of kinds ≤ length kinds
  few = count_by-le-length (λ k. k) kinds

  few_left : count_of (drop (i + 1) kinds) + (i + 1) ≤ length kinds
  few_left = omega (arith, count_by-le-length (λ k. k) (drop (i + 1) kinds), length-drop (i + 1) kinds)

  pub float_there : get_or kinds i false ≡ true → floats < length arguments
  float_there kind-is = omega (arith, few, same, left true kind-is, placed.floats_left)

  pub premise_there : get_or kinds i false ≡ false → premises < length arguments
  premise_there kind-is = omega (arith, few_left, same, left false kind-is, placed.premises_left)

  as_many : (x : ℕ) → new ≡ made ++ x ∷ [] → length new ≡ i + 1
  as_many x is = ap length is ∙ length-append made (x ∷ []) ∙ ap (λ n. n + 1) placed.as_many

  pushed : (b kind : Bool) (x : ℕ) → get_or kinds i false ≡ kind → new ≡ made ++ x ∷ []
      → picked b (take (i + 1) kinds) new ≡ picked b (take i kinds) made ++ in_front (is_wanted b kind) x []
  pushed b kind x kind-is is =
      ap (λ ks. picked b ks new) (take_more kinds i false within ∙ ap (λ k. take i kinds ++ k ∷ []) kind-is)
      ∙ ap (λ xs. picked b (take i kinds ++ kind ∷ []) xs) is
      ∙ picked_push b (take i kinds) made kind x (placed.as_many ∙ sym (length-take-le i kinds (omega arith)))

  pub float_placed : get_or kinds i false ≡ true → new ≡ made ++ get_or arguments floats 0 ∷ []
      → ArePlaced kinds arguments (i + 1) (floats + 1) premises new
  float_placed kind-is is =
      let more : count_of (drop i kinds) ≡ 1 + count_of (drop (i + 1) kinds) = left true kind-is in
      let there : floats < length arguments = float_there kind-is in
      record {
        as_many = as_many (get_or arguments floats 0) is;
        floats_left = omega (arith, more, placed.floats_left);
        premises_left = omega (arith, more, placed.premises_left);
        at_floats = pushed true true (get_or arguments floats 0) kind-is is
            ∙ ap (λ xs. xs ++ get_or arguments floats 0 ∷ []) placed.at_floats
            ∙ sym (take_more arguments floats 0 there);
        at_premises = pushed false true (get_or arguments floats 0) kind-is is ∙ append-nil (picked false (take i kinds) made)
            ∙ placed.at_premises;
      }

  pub premise_placed : get_or kinds i false ≡ false → new ≡ made ++ get_or arguments premises 0 ∷ []
      → ArePlaced kinds arguments (i + 1) floats (premises + 1) new
  premise_placed kind-is is =
      let c = count_of kinds in
      let less : count_of (drop i kinds) ≡ 0 + count_of (drop (i + 1) kinds) = left false kind-is in
      let few_before : count_of (take i kinds) ≤ i =
      omega (arith, count_by-le-length (λ k. k) (take i kinds), length-take-le i kinds (omega arith)) in
      let after : c ≤ premises = omega (arith, few_before, sum_by-take-drop (λ k. cond k 1 0) kinds i, placed.premises_left) in
      let there : premises - c < length (drop c arguments) =
      omega (arith, few_left, less, same, placed.premises_left, length-drop c arguments) in
      let one : premises + 1 - c ≡ premises - c + 1 = omega (arith, after) in
      let place : c + (premises - c) ≡ premises = omega (arith, after) in
      record {
        as_many = as_many (get_or arguments premises 0) is;
        floats_left = omega (arith, less, placed.floats_left);
        premises_left = omega (arith, less, placed.premises_left);
        at_floats = pushed true false (get_or arguments premises 0) kind-is is ∙ append-nil (picked true (take i kinds) made)
            ∙ placed.at_floats;
        at_premises = pushed false false (get_or arguments premises 0) kind-is is
            ∙ ap (λ xs. xs ++ get_or arguments premises 0 ∷ []) placed.at_premises
            ∙ sym (ap (λ n. take n (drop c arguments)) one ∙ take_more (drop c arguments) (premises - c) 0 there
            ∙ ap (λ x. take (premises - c) (drop c arguments) ++ x ∷ []) (get_or-drop c arguments (premises - c) 0
            ∙ ap (λ n. get_or arguments n 0) place));
      }
