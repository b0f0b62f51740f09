-- How often each assertion is cited, counted by places: one step more, and one proof more.
use Rattle.std.proofs.Common.{◌≡◌, ◌<◌, ◌≤◌, ◌+◌, ℕ, true, false, cond, List, [], ◌∷◌, ◌++◌, Option, None, Some, length, get_or, take, set}
use Rattle.std.proofs.Common.{Bor, refl, sym, ap, subst, ◌∙◌, inl, inr, arith}
use Rattle.std.specs.Prelude.{◌||◌, slice_index}
use Rattle.std.specs.List.{count_by, slice_get}
use Rattle.std.specs.Str.{bytes_eq}
use Rattle.std.proofs.lemmas.Bool.{cases_Bool, cases_eq, cond-true, cond-false, both_ways}
use Rattle.std.proofs.lemmas.List.{get_or-set_same, get_or-set_other}
use Rattle.std.proofs.lemmas.List.Sums.{sum_by_more}
use Rattle.std.proofs.lemmas.Option.{slice_get_within}
use Rattle.mmsyntax.specs.declared.statement.Step.{Step}
use Rattle.mmsyntax.specs.declared.statement.Step.TheVariants.{Cite}
use Rattle.mmsyntax.specs.declared.step_ref.StepRef.{StepRef}
use Rattle.mmsyntax.specs.declared.step_ref.StepRef.TheVariants as lent
use Rattle.mmsyntax.specs.ProofWords.{seen_step}
use Rattle.mmsyntax.proofs.Names.{same_bytes, bytes_eq-same}
use Rattle.library.specs.declared.library.Ranked.{Ranked}
use Rattle.library.specs.Library.{label_of}
use Rattle.library.specs.Edits.{is_citation, cites}
use Rattle.library.proofs.Counts.{one_if}
use Rattle.catalog.specs.Entries.{Entries, StandsIn}
use Rattle.catalog.specs.Places.{Places, IsIndex, StandsAt}
use Rattle.catalog.specs.Testing.{passes_there}
use Rattle.catalog.specs.Listing.{some_cites, AreNoted}
use Rattle.catalog.proofs.Living.{one-place}

-- ---- one step more

-- a step more that cites the label, and one that does not
push_cites : (steps : List Step) (s : Step) (w : List ℕ) → is_citation w s ≡ true → some_cites (steps ++ s ∷ []) w ≡ true
push_cites [] s w h = ap (λ b. b || false) h
push_cites (t ∷ ts) s w h =
    elim (is_citation w t) as (λ b. (b || some_cites (ts ++ s ∷ []) w) ≡ true) [ true ↦ refl | false ↦ push_cites ts s w h ]

push_else : (steps : List Step) (s : Step) (w : List ℕ) → is_citation w s ≡ false → some_cites (steps ++ s ∷ []) w ≡ some_cites steps w
push_else [] s w h = ap (λ b. b || false) h
push_else (t ∷ ts) s w h = ap (λ b. is_citation w t || b) (push_else ts s w h)

-- a step that cites no label
pub no-citation : (s : StepRef) (w : List ℕ) → ((l : Bor (List ℕ)) → s ≡ lent.Cite l → ⊥) → is_citation w (seen_step s) ≡ false
no-citation (lent.Float i) w h = refl
no-citation (lent.Hyp k) w h = refl
no-citation (lent.Cite l) w h = absurd (h l refl)

-- a place is within what is kept for each place
pub place-within : (xs : Entries) (w : List ℕ) (place : ℕ) (kept : List ℕ) → StandsAt xs w place → length kept ≡ length xs
    → place < length kept
place-within xs w place kept stands long = let within = slice_get_within xs place (Some stands.entry) stands.at in omega (arith, long)

module _ (xs : Entries) (n : ℕ) (steps : List Step) (first counts stamps : List ℕ) where
  -- it is noted where the same labels are cited with it
  noted_same : (s : Step) → AreNoted xs n steps first counts stamps
      → ((p : ℕ) (e : Ranked) → StandsIn xs p e → some_cites (steps ++ s ∷ []) (label_of e) ≡ some_cites steps (label_of e))
      → AreNoted xs n (steps ++ s ∷ []) first counts stamps
  noted_same s h same = record {
    counted = λ p e at. h.counted p e at ∙ ap (λ b. get_or first p 0 + cond b 1 0) (sym (same p e at));
    stamped = λ p e at y. h.stamped p e at (sym (same p e at) ∙ y);
    older = λ p e at y. h.older p e at (sym (same p e at) ∙ y);
  }

  -- as it is where it cites no assertion
  pub noted-else : (s : Step) → AreNoted xs n steps first counts stamps
      → ((p : ℕ) (e : Ranked) → StandsIn xs p e → is_citation (label_of e) s ≡ false) → AreNoted xs n (steps ++ s ∷ []) first counts stamps
  noted-else s h none = noted_same s h (λ p e at. push_else steps s (label_of e) (none p e at))

  module _ (m : Places) (x : IsIndex m xs) (w : List ℕ) (place : ℕ) (stands : StandsAt xs w place) where
    cited_here : (p : ℕ) (e : Ranked) → StandsIn xs p e → p ≡ place → bytes_eq (label_of e) w ≡ true
    cited_here p e at same =
        let both : Some (Some e) ≡ Some (Some stands.entry) = sym at ∙ ap (slice_get xs) same ∙ stands.at in
        let one : e ≡ stands.entry = cc in
        subst (λ l. bytes_eq l w ≡ true) (sym (ap label_of one ∙ stands.labelled)) (bytes_eq-same w)

    cited_elsewhere : (p : ℕ) (e : Ranked) → StandsIn xs p e → (p ≡ place → ⊥) → bytes_eq (label_of e) w ≡ false
    cited_elsewhere p e at ne =
        elim (cases_Bool (bytes_eq (label_of e) w)) [
          | inl y ↦ absurd (ne (one-place m xs p place e stands.entry x at stands.at (same_bytes (label_of e) w y ∙ sym stands.labelled)))
          | inr none ↦ none
        ]

    -- whether the steps so far cite the assertion at the place is told by its stamp
    not_yet : AreNoted xs n steps first counts stamps → get_or stamps place 0 < n → (e : Ranked) → StandsIn xs place e
        → some_cites steps (label_of e) ≡ false
    not_yet h lt e at = elim (cases_Bool (some_cites steps (label_of e))) [
      | inl y ↦ absurd (let stamp = h.stamped place e at y in omega arith)
      | inr none ↦ none
    ]

    already : AreNoted xs n steps first counts stamps → n ≤ get_or stamps place 0 → (e : Ranked) → StandsIn xs place e
        → some_cites steps (label_of e) ≡ true
    already h le e at = elim (cases_Bool (some_cites steps (label_of e))) [
      | inl y ↦ y
      | inr none ↦ absurd (let stamp = h.older place e at none in omega arith)
    ]

    -- as it is where it cites an assertion again
    pub noted-again : AreNoted xs n steps first counts stamps → n ≤ get_or stamps place 0
        → AreNoted xs n (steps ++ Cite w ∷ []) first counts stamps
    noted-again h le = noted_same (Cite w) h (λ p e at.
        elim (cases_eq p place) [
          | inl same ↦
              let at' : StandsIn xs place e = subst (λ (k : ℕ). StandsIn xs k e) same at in
              push_cites steps (Cite w) (label_of e) (cited_here p e at same) ∙ sym (already h le e at')
          | inr ne ↦ push_else steps (Cite w) (label_of e) (cited_elsewhere p e at ne)
        ])

    -- and counted where it cites one for the first time
    pub noted-new : AreNoted xs n steps first counts stamps → get_or stamps place 0 < n → place < length counts → place < length stamps
        → AreNoted xs n (steps ++ Cite w ∷ []) first (set counts place (get_or counts place 0 + 1)) (set stamps place n)
    noted-new h lt c_in s_in = record {
      counted = λ p e at. elim (cases_eq p place) [
        | inl same ↦
            let at' : StandsIn xs place e = subst (λ (k : ℕ). StandsIn xs k e) same at in
            let before = h.counted place e at' in
            let none = cond-false {A = ℕ} (some_cites steps (label_of e)) 1 0 (not_yet h lt e at') in
            let some = cond-true {A = ℕ} (some_cites (steps ++ Cite w ∷ []) (label_of e)) 1 0
            (push_cites steps (Cite w) (label_of e) (cited_here p e at same)) in
            let set_here = get_or-set_same counts place (get_or counts place 0 + 1) 0 c_in in
            subst (λ (k : ℕ). get_or (set counts place (get_or counts place 0 + 1)) k 0
            ≡ get_or first k 0 + cond (some_cites (steps ++ Cite w ∷ []) (label_of e)) 1 0) (sym same) (omega arith)
        | inr ne ↦
            get_or-set_other counts place p (get_or counts place 0 + 1) 0 ne ∙ h.counted p e at
            ∙ ap (λ b. get_or first p 0 + cond b 1 0) (sym (push_else steps (Cite w) (label_of e) (cited_elsewhere p e at ne)))
      ];
      stamped = λ p e at y. elim (cases_eq p place) [
        | inl same ↦ ap (λ k. get_or (set stamps place n) k 0) same ∙ get_or-set_same stamps place n 0 s_in
        | inr ne ↦
            get_or-set_other stamps place p n 0 ne
            ∙ h.stamped p e at (sym (push_else steps (Cite w) (label_of e) (cited_elsewhere p e at ne)) ∙ y)
      ];
      older = λ p e at none. elim (cases_eq p place) [
        | inl same ↦ absurd (both_ways (some_cites (steps ++ Cite w ∷ []) (label_of e)) none
            (push_cites steps (Cite w) (label_of e) (cited_here p e at same)))
        | inr ne ↦
            subst (λ (k : ℕ). k < n) (sym (get_or-set_other stamps place p n 0 ne))
            (h.older p e at (sym (push_else steps (Cite w) (label_of e) (cited_elsewhere p e at ne)) ∙ none))
      ];
    }

-- ---- one proof more

-- what is kept by place while the proofs of the first k entries are counted: how many of them cite each assertion, and an older stamp
pub record AreCountedBefore (entries : Entries) (k : ℕ) (counts stamps : List ℕ) : Type 0 where
  pub counts_long : length counts ≡ length entries
  pub stamps_long : length stamps ≡ length entries
  pub counted : (p : ℕ) (e : Ranked) → StandsIn entries p e
      → slice_index counts p ≡ count_by (passes_there (cites (label_of e))) (take k entries)
  pub older : (p : ℕ) (e : Ranked) → StandsIn entries p e → slice_index stamps p ≤ k

module _ (xs : Entries) (k : ℕ) (o : Option Ranked) (k_in : k < length xs) (here : get_or xs k o ≡ o) where
  -- the count of the first entries, with one more
  count_more : (w : List ℕ) → count_by (passes_there (cites w)) (take (k + 1) xs)
      ≡ count_by (passes_there (cites w)) (take k xs) + one_if (passes_there (cites w)) o
  count_more w =
      sum_by_more (one_if (passes_there (cites w))) xs k o k_in
      ∙ ap (λ y. count_by (passes_there (cites w)) (take k xs) + one_if (passes_there (cites w)) y) here

  -- an empty place has no proof
  pub counted-empty : (counts stamps : List ℕ) → o ≡ None → AreCountedBefore xs k counts stamps → AreCountedBefore xs (k + 1) counts stamps
  counted-empty counts stamps empty h = record {
    counts_long = h.counts_long;
    stamps_long = h.stamps_long;
    counted = λ p e at.
        let test = passes_there (cites (label_of e)) in
        let more : count_by test (take (k + 1) xs) ≡ count_by test (take k xs) + one_if test None =
        count_more (label_of e) ∙ ap (λ y. count_by test (take k xs) + one_if test y) empty in
        let before = h.counted p e at in
        omega arith;
    older = λ p e at. let before = h.older p e at in omega arith;
  }

  pub counted-proof : (counts stamps counts' stamps' : List ℕ) (g : Ranked) → o ≡ Some g → AreCountedBefore xs k counts stamps
      → AreNoted xs (k + 1) g.assertion.proof counts counts' stamps' → length counts' ≡ length counts → length stamps' ≡ length stamps
      → AreCountedBefore xs (k + 1) counts' stamps'
  counted-proof counts stamps counts' stamps' g full h noted counts_kept stamps_kept = record {
    counts_long = counts_kept ∙ h.counts_long;
    stamps_long = stamps_kept ∙ h.stamps_long;
    counted = λ p e at.
        let test = passes_there (cites (label_of e)) in
        let more : count_by test (take (k + 1) xs) ≡ count_by test (take k xs) + one_if test (Some g) =
        count_more (label_of e) ∙ ap (λ y. count_by test (take k xs) + one_if test y) full in
        noted.counted p e at ∙ ap (λ n. n + one_if test (Some g)) (h.counted p e at) ∙ sym more;
    older = λ p e at. elim (cases_Bool (some_cites g.assertion.proof (label_of e))) [
      | inl y ↦ let stamp = noted.stamped p e at y in omega arith
      | inr none ↦ let stamp = noted.older p e at none in omega arith
    ];
  }
