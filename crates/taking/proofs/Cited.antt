-- A label takes the last entries.
use Rattle.std.proofs.Common.{◌≡◌, ◌<◌, ℕ, ◌+◌, ◌-◌, List, [], ◌∷◌, ◌++◌, length, take, drop, sym, ap, ◌∙◌, subst, arith}
use Rattle.std.specs.Prelude.{Option, Some, slice_get, slice_index_or, All, MatchOption}
use Rattle.std.specs.List.{AllByRecursion, list_any, flat_map}
use Rattle.std.proofs.lemmas.List.{take_all, take-append-drop, length-drop, length_push}
use Rattle.std.proofs.lemmas.List.Elements.{All-from_recursion, recursion_from_All}
use Rattle.source.specs.Proofs.{taken_by, cite}
use Rattle.taking.specs.declared.named.Named.{Named}
use Rattle.taking.specs.Settings.{Setting, AreNamed}
use Rattle.taking.specs.Nodes.{Shared, AreBelow}
use Rattle.taking.specs.Walks.{TakesAll}
use Rattle.taking.specs.Reasons.{labels_cited}
use Rattle.taking.specs.Decoding.{grown, stack_on, trees_at, AreCovered}
use Rattle.mmsyntax.proofs.Distinct.{all_append, all_left, all_right}
use Rattle.taking.proofs.Values.{all_more}
use Rattle.taking.proofs.Stacked.{cites}
use Rattle.taking.proofs.Covered.{over_entries}

pub last_args : (es' es : List ℕ) (n : ℕ) → es' ≡ es → take (length es' - n) (drop n es') ≡ drop n es
last_args es' es n e =
    ap (λ xs. take (length xs - n) (drop n xs)) e ∙ take_all (length es - n) (drop n es) (omega (arith, length-drop n es))

module _ (named : List Named) (ns : List Shared) (es ms : List ℕ) (n place : ℕ) (x : Named) (is : slice_get named place ≡ Some x)
    (in_es : AreBelow (length ns) es) (in_ms : AreBelow (length ns) ms) (long : length es ≡ n + length x.floats) where
  front : AllByRecursion (λ k. k < length ns) (take n es)
  front =
      all_left (λ k. k < length ns) (take n es) (drop n es)
      (subst (AllByRecursion (λ k. k < length ns)) (sym (take-append-drop n es)) (recursion_from_All (λ k. k < length ns) es in_es))

  back : AllByRecursion (λ k. k < length ns) (drop n es)
  back =
      all_right (λ k. k < length ns) (take n es) (drop n es)
      (subst (AllByRecursion (λ k. k < length ns)) (sym (take-append-drop n es)) (recursion_from_All (λ k. k < length ns) es in_es))

  whole : length (drop n es) ≡ length x.floats
  whole = omega (arith, length-drop n es)

  pub last_cited : (s : Setting) → AreNamed s named
      → cite grown (slice_index_or s.labels place []) (stack_on s.labels ns es ms)
      (taken_by s.earlier s.active (slice_index_or s.labels place []))
      ≡ Some (stack_on s.labels (ns ++ record { named = place; arguments = drop n es } ∷ []) (take n es ++ length ns ∷ []) ms)
  last_cited s are =
      subst
      (λ (fs : List ℕ). cite grown (slice_index_or s.labels place []) (stack_on s.labels ns fs ms)
      (taken_by s.earlier s.active (slice_index_or s.labels place []))
      ≡ Some (stack_on s.labels (ns ++ record { named = place; arguments = drop n es } ∷ []) (take n es ++ length ns ∷ []) ms))
      (take-append-drop n es)
      (cites s named are place x is ns ms (take n es) (drop n es) front back (recursion_from_All (λ k. k < length ns) ms in_ms) whole)

  own : Shared
  own = record { named = place; arguments = drop n es }

  more : (ks : List ℕ) → AllByRecursion (λ k. k < length ns) ks → AllByRecursion (λ k. k < length (ns ++ own ∷ [])) ks
  more ks a = let e = length_push ns own in all_more (λ k h. omega arith) ks a

  -- the entries are nodes
  pub entries_stand : AreBelow (length (ns ++ record { named = place; arguments = drop n es } ∷ [])) (take n es ++ length ns ∷ [])
  unfolding own
  entries_stand =
      let e = length_push ns own in
      let last : length ns < length (ns ++ own ∷ []) = omega arith in
      All-from_recursion (λ k. k < length (ns ++ own ∷ [])) (take n es ++ length ns ∷ [])
      (all_append (λ k. k < length (ns ++ own ∷ [])) (take n es) (length ns ∷ []) (more (take n es) front) (last, tt))

  pub marked_stand : AreBelow (length (ns ++ record { named = place; arguments = drop n es } ∷ [])) ms
  unfolding own
  marked_stand =
      All-from_recursion (λ k. k < length (ns ++ own ∷ [])) ms (more ms (recursion_from_All (λ k. k < length ns) ms in_ms))

  pub nodes_stand : All (TakesAll named) ns → All (TakesAll named) (ns ++ record { named = place; arguments = drop n es } ∷ [])
  unfolding own
  nodes_stand a =
      let here : TakesAll named own =
      subst (λ (o : Option Named). MatchOption o ⊥ (λ y. length (drop n es) ≡ length y.floats)) (sym is) whole in
      All-from_recursion (TakesAll named) (ns ++ own ∷ [])
      (all_append (TakesAll named) ns (own ∷ []) (recursion_from_All (TakesAll named) ns a) (here, tt))

  pub covered_stand : AreCovered ns es
      → AreCovered (ns ++ record { named = place; arguments = drop n es } ∷ []) (take n es ++ length ns ∷ [])
  covered_stand a = λ labels test.
      over_entries labels test ns (take n es) (drop n es) place front
      (subst
      (λ (fs : List ℕ). list_any test (flat_map labels_cited (trees_at labels ns fs))
      ≡ list_any (λ m. test (slice_index_or labels m.named [])) ns)
      (sym (take-append-drop n es)) (a labels test))
