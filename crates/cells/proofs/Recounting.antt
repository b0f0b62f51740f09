-- How many citers the labels of a library have after an edit.
use Rattle.std.proofs.Common.{◌≡◌, ℕ, ◌+◌, true, false, cond, List, [], ◌∷◌, map, refl, sym, ap, subst, ◌∙◌, inl, inr, arith}
use Rattle.std.specs.Prelude.{IsPermutation}
use mathlib.Core.Bool.{not}
use Rattle.std.specs.List.{list_any, sum_by}
use Rattle.std.specs.Str.{bytes_eq}
use Rattle.std.proofs.lemmas.Bool.{cases_Bool, cond-true, cond-false, cond_both, or_from, or_parts, not-true}
use Rattle.std.proofs.lemmas.List.Sorted.{IsPermutation-map, sum_by_popped}
use Rattle.std.proofs.lemmas.List.Sums.{sum_by-cons}
use Rattle.mmsyntax.specs.declared.statement.Step.{Step}
use Rattle.mmsyntax.specs.declared.statement.Step.TheVariants.{Float, Hyp, Cite}
use Rattle.mmsyntax.specs.Assertions.{Distinct}
use Rattle.mmsyntax.proofs.Names.{same_bytes, bytes_eq-same}
use Rattle.derivation.specs.Laws.{replacing, step_relabelled}
use Rattle.library.specs.declared.library.Ranked.{Ranked}
use Rattle.library.specs.Library.{label_of}
use Rattle.library.specs.Edits.{is_labelled, is_citation, cites, citers, with_rank, changed, rename, without}
use Rattle.library.proofs.Changing.{change_at}
use Rattle.library.proofs.Counts.{one_if}
use Rattle.library.proofs.Labels.{distinct_replaced}
use Rattle.library.proofs.Places.{is_labelled-own}
use Rattle.library.proofs.Renaming.{renamed_entry}
use Rattle.ranges.specs.Ranges.{Has}
use Rattle.ranges.proofs.Members.{filtered_has}
use Rattle.cells.proofs.Ones.{map_same, label_and_others}
use Rattle.cells.proofs.Tallies.{sum_by-map}

-- ---- another rank

pub citers-moved : (lib : List Ranked) (label l : List ℕ) (rank : ℕ) → citers (changed label (with_rank rank) lib) l ≡ citers lib l
citers-moved lib label l rank =
    sum_by-map (one_if (cites l)) (change_at label (with_rank rank)) lib
    ∙ ap (λ (f : Ranked → ℕ). sum_by f lib) all
  where
    one : (e : Ranked) → one_if (cites l) (change_at label (with_rank rank) e) ≡ one_if (cites l) e
    one e = cond_both (is_labelled label e) (with_rank rank e) e (λ x. one_if (cites l) x ≡ one_if (cites l) e) (λ y. refl) (λ n. refl)

    all : ◌≡◌ {A = Ranked → ℕ} (λ e. one_if (cites l) (change_at label (with_rank rank) e)) (λ e. one_if (cites l) e)
    all = λ k e. one e k

-- ---- one assertion gone, or changed

module _ (lib : List Ranked) (label : List ℕ) (e : Ranked) (apart : Distinct bytes_eq (map label_of lib)) (at : Has e lib)
    (is : label_of e ≡ label) where
  pub citers-without : (l : List ℕ) → citers (without label lib) l + one_if (cites l) e ≡ citers lib l
  citers-without l = sum_by_popped (one_if (cites l)) e lib (without label lib) (label_and_others lib label e apart at is)

  pub citers-changed : (change : Ranked → Ranked) (l : List ℕ)
      → citers (changed label change lib) l + one_if (cites l) e ≡ citers lib l + one_if (cites l) (change e)
  citers-changed change l =
      let g = change_at label change in
      let others = without label lib in
      let own : g e ≡ change e = cond-true (is_labelled label e) (change e) e (is_labelled-own label e is) in
      let same : map g others ≡ others =
      map_same g others (λ x h. cond-false (is_labelled label x) (change x) x
      (not-true (is_labelled label x) (filtered_has (λ y. not (is_labelled label y)) lib x h).1)) in
      let both : map g (e ∷ others) ≡ change e ∷ others = λ k. own k ∷ same k in
      let moved : IsPermutation (map g lib) (change e ∷ others) =
      subst (λ (l' : List Ranked). IsPermutation (map g lib) l') both
      (IsPermutation-map g lib (e ∷ others) (label_and_others lib label e apart at is)) in
      let more = sum_by_popped (one_if (cites l)) (change e) (map g lib) others moved in
      omega (arith, more, citers-without l)

-- ---- another label

-- labels that are not the new one are the same exactly where they were
replaced_same : (old new k l : List ℕ) → bytes_eq new k ≡ false → bytes_eq new l ≡ false
    → bytes_eq (replacing old new k) (replacing old new l) ≡ bytes_eq k l
replaced_same old new k l p q =
    elim (cases_Bool (bytes_eq k l)) [
      | inl same ↦
          subst (λ x. bytes_eq (replacing old new k) (replacing old new x) ≡ true) (same_bytes k l same)
          (bytes_eq-same (replacing old new k)) ∙ sym same
      | inr other ↦
          let d = distinct_replaced old new (k ∷ l ∷ []) (or_from (bytes_eq k l) false other refl, (refl, tt))
          (or_from (bytes_eq new k) (list_any (bytes_eq new) (l ∷ [])) p (or_from (bytes_eq new l) false q refl)) in
          (or_parts (bytes_eq (replacing old new k) (replacing old new l)) false d.0).0 ∙ sym other
    ]

module _ (old new l : List ℕ) (free : bytes_eq new l ≡ false) where
  cites_replaced : (steps : List Step) → list_any (is_citation new) steps ≡ false
      → list_any (is_citation (replacing old new l)) (map (step_relabelled (replacing old new)) steps) ≡ list_any (is_citation l) steps
  cites_replaced [] none = refl
  cites_replaced (x ∷ steps) none =
      let both = or_parts (is_citation new x) (list_any (is_citation new) steps) none in
      let first = one x both.0 in
      let rest = cites_replaced steps both.1 in
      rw (first, rest) refl
    where
      one : (x : Step) → is_citation new x ≡ false
          → is_citation (replacing old new l) (step_relabelled (replacing old new) x) ≡ is_citation l x
      one (Float i) h = refl
      one (Hyp k) h = refl
      one (Cite c) h = replaced_same old new l c free h

  pub citers-renamed : (lib : List Ranked) → ((e : Ranked) → Has e lib → cites new e ≡ false)
      → citers (rename old new lib) (replacing old new l) ≡ citers lib l
  citers-renamed lib none = sum_by-map (one_if (cites (replacing old new l))) (renamed_entry old new) lib ∙ along lib none
    where
      along : (es : List Ranked) → ((e : Ranked) → Has e es → cites new e ≡ false)
          → sum_by (λ e. one_if (cites (replacing old new l)) (renamed_entry old new e)) es ≡ sum_by (one_if (cites l)) es
      along [] each = refl
      along (e ∷ es) each =
          let first : one_if (cites (replacing old new l)) (renamed_entry old new e) ≡ one_if (cites l) e =
          ap (λ b. cond b 1 0) (cites_replaced e.assertion.proof (each e (inl refl))) in
          let rest = along es (λ x h. each x (inr h)) in
          omega (
            arith,
            first,
            rest,
            sum_by-cons (λ (x : Ranked). one_if (cites (replacing old new l)) (renamed_entry old new x)) e es,
            sum_by-cons (one_if (cites l)) e es,
          )
