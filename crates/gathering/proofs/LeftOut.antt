-- A label that isn't chosen, by the first assertion with it and the flags of assertions.
use Rattle.std.proofs.Common.{◌≡◌, ◌<◌, ◌≤◌, ℕ, zero, suc, Bool, true, false, List, [], ◌∷◌, length, map, take, get_or}
use Rattle.std.proofs.Common.{◌+◌, sym, ap, subst, ◌∙◌, arith, inl, inr}
use Rattle.std.specs.Prelude.{Some, None, slice_get, slice_index_or, ◌&&◌, All}
use Rattle.std.specs.Borrow.{Bor}
use mathlib.Core.Bool.{not}
use Rattle.std.specs.Option.{option_map}
use Rattle.std.specs.List.{list_any}
use Rattle.std.specs.Str.{bytes_eq}
use Rattle.std.proofs.lemmas.Bool.{cases_Bool, cond-true, cond-false, or_left, or_right, or_from, and_left}
use Rattle.std.proofs.lemmas.List.{get_or-map}
use Rattle.std.proofs.lemmas.List.Elements.{recursion_from_All}
use Rattle.std.proofs.lemmas.List.Folds.{list_any_more}
use Rattle.std.proofs.lemmas.Map.Keys.{any_passes_from_place}
use Rattle.std.proofs.lemmas.Option.{same_Some, slice_get-map, slice_get_within, get_or_from_slice_get}
use Rattle.mmtext.specs.Words.{Word}
use Rattle.mmsyntax.specs.Tables.{place_of}
use Rattle.mmsyntax.proofs.Names.{same_bytes}
use Rattle.mmsyntax.proofs.FirstPlace.{first_behind, none_before}
use Rattle.source.specs.Scopes.{Assertion, is_in}
use Rattle.source.specs.Views.{seen_words}
use Rattle.taking.specs.Nodes.{Shared}
use Rattle.taking.specs.Reasons.{is_left_out}
use Rattle.taking.proofs.Listed.{all_at}
use Rattle.taking.proofs.Values.{mapped}

-- ---- the first item that passes

module _ {A : Type 0} (test : A → Bool) where
  -- it passes, and one before each further place does
  pub first_passes : (xs : List A) (i n : ℕ) → place_of test xs ≡ Some i → i < n
      → (x : A) × (slice_get xs i ≡ Some x) × (test x ≡ true) × (list_any test (take n xs) ≡ true)
  first_passes [] i n e h = absurd cc
  first_passes (x ∷ xs) i zero e h = absurd (omega arith)
  first_passes (x ∷ xs) i (suc n) e h =
      elim (cases_Bool (test x)) [
        | inl passes ↦
            let zero-is : i ≡ 0 = same_Some i 0 (sym e ∙ cond-true (test x) (Some 0) _ passes) in
            (x, ap (slice_get (x ∷ xs)) zero-is, passes, or_left (test x) _ passes)
        | inr fails ↦
            let p = mapped (λ (n : ℕ). suc n) (place_of test xs) i (sym (cond-false (test x) (Some 0) _ fails) ∙ e) in
            let s : suc p.0 ≡ i = p.2 in
            let rest = first_passes xs p.0 n p.1 (omega arith) in
            (rest.0, ap (slice_get (x ∷ xs)) (sym s) ∙ rest.1, rest.2, or_right (test x) _ rest.3)
      ]

-- ---- labels

module _ (xs : List Assertion) (chosen : List Word) (flags : List Bool) (are : map (λ x. is_in chosen x.label) xs ≡ flags) where
  -- the flag of an assertion
  flag_at : (i : ℕ) (x : Assertion) → slice_get xs i ≡ Some x → slice_get flags i ≡ Some (is_in chosen x.label)
  flag_at i x e =
      ap (λ fs. slice_get fs i) (sym are)
      ∙ slice_get-map (λ (x : Assertion). is_in chosen x.label) xs i
      ∙ ap (option_map (λ (x : Assertion). is_in chosen x.label)) e

  pub flag_is : (i : ℕ) (x : Assertion) → slice_get xs i ≡ Some x → get_or flags i false ≡ is_in chosen x.label
  flag_is i x e = get_or_from_slice_get flags i (is_in chosen x.label) false (flag_at i x e)

  pub left_out_by_flag : (w : Word) (i n : ℕ) → place_of (λ a. bytes_eq w a.label) xs ≡ Some i → i < n
      → not (get_or flags i false) ≡ is_left_out (take n xs) chosen w
  left_out_by_flag w i n e h =
      let first = first_passes (λ (a : Assertion). bytes_eq w a.label) xs i n e h in
      let flag = flag_is i first.0 first.1 in
      let same : first.0.label ≡ w = sym (same_bytes w first.0.label first.2) in
      ap not (flag ∙ ap (is_in chosen) same) ∙ ap (λ b. b && not (is_in chosen w)) (sym first.3)

  pub not_left_out_before : (w : Word) (i n : ℕ) → place_of (λ a. bytes_eq w a.label) xs ≡ Some i → n ≤ i
      → false ≡ is_left_out (take n xs) chosen w
  not_left_out_before w i n e h =
      sym (and_left _ (not (is_in chosen w)) (first_behind (λ (a : Assertion). bytes_eq w a.label) xs i n e h))

  pub not_left_out : (w : Word) (n : ℕ) → place_of (λ a. bytes_eq w a.label) xs ≡ None → false ≡ is_left_out (take n xs) chosen w
  not_left_out w n e = sym (and_left _ (not (is_in chosen w)) (none_before (λ (a : Assertion). bytes_eq w a.label) xs n e))

-- ---- what nodes name

pub named_within : (many : ℕ) (nodes : List Shared) (i a : ℕ) → All (λ n. n.named < many) nodes
    → option_map (λ n. n.named) (slice_get nodes i) ≡ Some a → a < many
named_within many nodes i a all names =
    let n : (n : Shared) × (slice_get nodes i ≡ Some n) × (n.named ≡ a) = mapped (λ n. n.named) (slice_get nodes i) a names in
    subst (λ (k : ℕ). k < many) n.2
    (all_at (λ (n : Shared). n.named < many) nodes i n.0 (recursion_from_All (λ n. n.named < many) nodes all) n.1)

module _ (test : Word → Bool) (words : List (Bor (List ℕ))) (nodes : List Shared) (i a : ℕ) (label : Bor (List ℕ))
    (all : All (λ n. n.named < length words) nodes) (names : option_map (λ n. n.named) (slice_get nodes i) ≡ Some a)
    (is : label ≡ get_or words a label) where
  abbrev names_such : Shared → Bool
  names_such n = test (slice_index_or (seen_words words) n.named [])

  node_there : (n : Shared) × (slice_get nodes i ≡ Some n) × (n.named ≡ a)
  node_there = mapped (λ n. n.named) (slice_get nodes i) a names

  named_label : names_such node_there.0 ≡ test label.now
  named_label =
      let n = node_there in
      let within : a < length words = named_within (length words) nodes i a all names in
      ap test (ap (λ k. slice_index_or (seen_words words) k []) n.2
      ∙ get_or-map (λ (w : Bor (List ℕ)). w.now) words a label [] within
      ∙ ap (λ (w : Bor (List ℕ)). w.now) (sym is))

  pub node_names : test label.now ≡ true → true ≡ list_any (λ n. test (slice_index_or (seen_words words) n.named [])) nodes
  node_names passes = sym (any_passes_from_place names_such nodes i node_there.0 node_there.1 (named_label ∙ passes))

  pub no_node_more : test label.now ≡ false → list_any (λ n. test (slice_index_or (seen_words words) n.named [])) (take i nodes) ≡ false
      → list_any (λ n. test (slice_index_or (seen_words words) n.named [])) (take (i + 1) nodes) ≡ false
  no_node_more fails before =
      let n = node_there in
      list_any_more names_such nodes i n.0 (slice_get_within nodes i n.0 n.1)
      ∙ or_from _ _ before (ap names_such (get_or_from_slice_get nodes i n.0 n.0 n.1) ∙ named_label ∙ fails)
