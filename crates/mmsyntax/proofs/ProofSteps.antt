-- The steps of words: each kind of word, one more word, one more label.
use Rattle.std.proofs.Common.{◌≡◌, ℕ, ◌+◌, ◌*◌, ◌/◌, ◌%◌, ◌<◌, ◌≤◌, ◌^◌, List, [], ◌∷◌, ◌++◌, map, take, length, get_or}
use Rattle.std.proofs.Common.{refl, sym, ap, subst, ◌∙◌, inl, inr, arith}
use Rattle.std.specs.Prelude.{All}
use Rattle.std.proofs.lemmas.Bool.Decides.{nat_tests}
use Rattle.std.proofs.lemmas.Bool.{cases_eq}
use Rattle.std.proofs.lemmas.Simd.{map-map}
use Rattle.std.proofs.lemmas.List.{map_push, get_or-map, get_or-take, get_or_default, get_or_read, length-take, length-map}
use Rattle.std.proofs.lemmas.List.Elements.{All-push, All-weaker, All-map, recursion_from_All}
use Rattle.std.specs.List.{AllByRecursion as ByRecursion}
use Rattle.mmsyntax.specs.declared.statement.Step.{Step}
use Rattle.mmsyntax.specs.declared.statement.Step.TheVariants.{Float, Hyp, Cite}
use Rattle.mmsyntax.specs.ProofWords.{step_of, steps_of, IsWord, AreWords, IsSmall, IsCitedIn, step_relabelled}

-- ---- the step of a word by its remainder

pub float_at : (cited : List (List ℕ)) (w : ℕ) → w % 3 ≡ 0 → step_of cited w ≡ Float (w / 3)
unfolding step_of
float_at cited w h = grind (arith, nat_tests)

pub hyp_at : (cited : List (List ℕ)) (w : ℕ) → w % 3 ≡ 1 → step_of cited w ≡ Hyp (w / 3)
unfolding step_of
hyp_at cited w h = grind (arith, nat_tests)

pub cite_at : (cited : List (List ℕ)) (w : ℕ) → w % 3 ≡ 2 → step_of cited w ≡ Cite (get_or cited (w / 3) [])
unfolding step_of
cite_at cited w h = grind (arith, nat_tests)

-- ---- the step of the word of a place

pub float_word : (cited : List (List ℕ)) (i : ℕ) → step_of cited (3 * i) ≡ Float i
float_word cited i =
    let r : (3 * i) % 3 ≡ 0 = omega arith in
    let q : (3 * i) / 3 ≡ i = omega arith in
    float_at cited (3 * i) r ∙ ap (λ n. Float n) q

pub hyp_word : (cited : List (List ℕ)) (k : ℕ) → step_of cited (3 * k + 1) ≡ Hyp k
hyp_word cited k =
    let r : (3 * k + 1) % 3 ≡ 1 = omega arith in
    let q : (3 * k + 1) / 3 ≡ k = omega arith in
    hyp_at cited (3 * k + 1) r ∙ ap (λ n. Hyp n) q

pub cite_word : (cited : List (List ℕ)) (n : ℕ) → step_of cited (3 * n + 2) ≡ Cite (get_or cited n [])
cite_word cited n =
    let r : (3 * n + 2) % 3 ≡ 2 = omega arith in
    let q : (3 * n + 2) / 3 ≡ n = omega arith in
    cite_at cited (3 * n + 2) r ∙ ap (λ n. Cite (get_or cited n [])) q

-- ---- words that are in order

-- ---- one more word

pub push_float_steps : (cited : List (List ℕ)) (words : List ℕ) (i : ℕ)
    → steps_of cited (words ++ (3 * i) ∷ []) ≡ steps_of cited words ++ Float i ∷ []
push_float_steps cited words i = map_push (step_of cited) words (3 * i) ∙ ap (λ s. steps_of cited words ++ s ∷ []) (float_word cited i)

pub push_hyp_steps : (cited : List (List ℕ)) (words : List ℕ) (k : ℕ)
    → steps_of cited (words ++ (3 * k + 1) ∷ []) ≡ steps_of cited words ++ Hyp k ∷ []
push_hyp_steps cited words k = map_push (step_of cited) words (3 * k + 1) ∙ ap (λ s. steps_of cited words ++ s ∷ []) (hyp_word cited k)

-- ---- by the kind of a word

by_kind : (w : ℕ) (P : Type 0) → (w % 3 ≡ 0 → P) → (w % 3 ≡ 1 → P) → (w % 3 ≡ 2 → P) → P
by_kind w P f h c = elim (cases_eq (w % 3) 0) [
  | inl e ↦ f e
  | inr ne0 ↦ elim (cases_eq (w % 3) 1) [ inl e ↦ h e | inr ne1 ↦ c (omega arith) ]
]

-- what holds of a step holds by its kind
step_by_kind : (cited : List (List ℕ)) (w : ℕ) (P : Step → Type 0)
    → (w % 3 ≡ 0 → P (Float (w / 3))) → (w % 3 ≡ 1 → P (Hyp (w / 3))) → (w % 3 ≡ 2 → P (Cite (get_or cited (w / 3) [])))
    → P (step_of cited w)
step_by_kind cited w P f h c = by_kind w (P (step_of cited w))
    (λ e. subst P (sym (float_at cited w e)) (f e))
    (λ e. subst P (sym (hyp_at cited w e)) (h e))
    (λ e. subst P (sym (cite_at cited w e)) (c e))

small_step : (cited : List (List ℕ)) (w : ℕ) → IsWord (length cited) w → IsSmall (step_of cited w)
small_step cited w h = step_by_kind cited w IsSmall (λ _. h.small) (λ _. h.small) (λ _. tt)

pub small_steps : (cited : List (List ℕ)) (words : List ℕ) → AreWords cited words → All IsSmall (steps_of cited words)
small_steps cited words all = All-map IsSmall (step_of cited) words
    (All-weaker (IsWord (length cited)) (λ w. IsSmall (step_of cited w)) (λ w h. small_step cited w h) words all)

cited_step : (cited : List (List ℕ)) (w : ℕ) → IsWord (length cited) w → IsCitedIn cited (step_of cited w)
cited_step cited w h = step_by_kind cited w (IsCitedIn cited) (λ _. tt) (λ _. tt)
    (λ e. (w / 3, h.within e, get_or_default cited (w / 3) (get_or cited (w / 3) []) [] (h.within e)))

pub cited_steps : (cited : List (List ℕ)) (words : List ℕ) → AreWords cited words → All (IsCitedIn cited) (steps_of cited words)
cited_steps cited words all = All-map (IsCitedIn cited) (step_of cited) words
    (All-weaker (IsWord (length cited)) (λ w. IsCitedIn cited (step_of cited w)) (λ w h. cited_step cited w h) words all)

-- ---- two lists of labels

-- words in order over one list stand for what they stand for over another, up to a change of each step
same_map : (P : ℕ → Type 0) (f g : ℕ → Step) → ((w : ℕ) → P w → f w ≡ g w) → (words : List ℕ) → ByRecursion P words
    → map f words ≡ map g words
same_map P f g h [] all = refl
same_map P f g h (w ∷ words) all = ap (λ s. s ∷ map f words) (h w all.0) ∙ ap (λ ss. g w ∷ ss) (same_map P f g h words all.1)

kept_label : (cited more : List (List ℕ)) (n : ℕ) → take (length cited) more ≡ cited → n < length cited
    → get_or more n [] ≡ get_or cited n []
kept_label cited more n kept lt = sym (get_or-take (length cited) more n [] lt) ∙ ap (λ ls. get_or ls n []) kept

kept_step : (cited more : List (List ℕ)) (w : ℕ) → take (length cited) more ≡ cited → IsWord (length cited) w
    → step_of more w ≡ step_of cited w
kept_step cited more w kept h = by_kind w (step_of more w ≡ step_of cited w)
    (λ e. float_at more w e ∙ sym (float_at cited w e))
    (λ e. hyp_at more w e ∙ sym (hyp_at cited w e))
    (λ e. cite_at more w e ∙ ap (λ l. Cite l) (kept_label cited more (w / 3) kept (h.within e)) ∙ sym (cite_at cited w e))

-- more labels behind those that are there change no step
pub kept_steps : (cited more : List (List ℕ)) (words : List ℕ) → take (length cited) more ≡ cited → AreWords cited words
    → steps_of more words ≡ steps_of cited words
kept_steps cited more words kept all = same_map (IsWord (length cited)) (step_of more) (step_of cited)
    (λ w h. kept_step cited more w kept h) words (recursion_from_All (IsWord (length cited)) words all)

kept_length : (cited more : List (List ℕ)) → take (length cited) more ≡ cited → length cited ≤ length more
kept_length cited more kept = omega (arith, simp length-take at (ap length kept))

pub kept_words : (cited more : List (List ℕ)) (words : List ℕ) → take (length cited) more ≡ cited → AreWords cited words
    → AreWords more words
kept_words cited more words kept all = All-weaker (IsWord (length cited)) (IsWord (length more))
    (λ w h. record { small = h.small; within = λ e. let lt = h.within e in omega (arith, kept_length cited more kept) }) words all

pub push_cite_steps : (cited : List (List ℕ)) (words : List ℕ) (n : ℕ)
    → steps_of cited (words ++ (3 * n + 2) ∷ []) ≡ steps_of cited words ++ Cite (get_or cited n []) ∷ []
push_cite_steps cited words n =
    map_push (step_of cited) words (3 * n + 2) ∙ ap (λ s. steps_of cited words ++ s ∷ []) (cite_word cited n)

-- ---- changed labels

relabelled_step : (change : List ℕ → List ℕ) (cited : List (List ℕ)) (w : ℕ) → IsWord (length cited) w
    → step_of (map change cited) w ≡ step_relabelled change (step_of cited w)
relabelled_step change cited w h = by_kind w (step_of (map change cited) w ≡ step_relabelled change (step_of cited w))
    (λ e. float_at (map change cited) w e ∙ sym (ap (step_relabelled change) (float_at cited w e)))
    (λ e. hyp_at (map change cited) w e ∙ sym (ap (step_relabelled change) (hyp_at cited w e)))
    (λ e. cite_at (map change cited) w e ∙ ap (λ l. Cite l) (get_or-map change cited (w / 3) [] [] (h.within e))
    ∙ sym (ap (step_relabelled change) (cite_at cited w e)))

pub relabelled_steps : (change : List ℕ → List ℕ) (cited : List (List ℕ)) (words : List ℕ) → AreWords cited words
    → steps_of (map change cited) words ≡ map (step_relabelled change) (steps_of cited words)
relabelled_steps change cited words all =
    same_map (IsWord (length cited)) (step_of (map change cited)) (λ w. step_relabelled change (step_of cited w))
    (λ w h. relabelled_step change cited w h) words (recursion_from_All (IsWord (length cited)) words all)
    ∙ sym (map-map (step_relabelled change) (step_of cited) words)

pub relabelled_words : (change : List ℕ → List ℕ) (cited : List (List ℕ)) (words : List ℕ) → AreWords cited words
    → AreWords (map change cited) words
relabelled_words change cited words all = All-weaker (IsWord (length cited)) (IsWord (length (map change cited)))
    (λ w h. record { small = h.small; within = λ e. let lt = h.within e in omega (arith, length-map cited change) }) words all

-- ---- the step at a place

pub step_at : (cited : List (List ℕ)) (words : List ℕ) (i w : ℕ) (d : Step) → i < length words → w ≡ get_or words i w
    → get_or (steps_of cited words) i d ≡ step_of cited w
step_at cited words i w d lt e = get_or-map (step_of cited) words i w d lt ∙ ap (step_of cited) (sym e)

pub float_seen : (cited : List (List ℕ)) (words : List ℕ) (i w : ℕ) → i < length words → w ≡ get_or words i w → w % 3 ≡ 0
    → Float (w / 3) ≡ get_or (steps_of cited words) i (Float (w / 3))
float_seen cited words i w lt e r = sym (step_at cited words i w (Float (w / 3)) lt e ∙ float_at cited w r)

pub hyp_seen : (cited : List (List ℕ)) (words : List ℕ) (i w : ℕ) → i < length words → w ≡ get_or words i w → w % 3 ≡ 1
    → Hyp (w / 3) ≡ get_or (steps_of cited words) i (Hyp (w / 3))
hyp_seen cited words i w lt e r = sym (step_at cited words i w (Hyp (w / 3)) lt e ∙ hyp_at cited w r)

pub cite_seen : (cited : List (List ℕ)) (words : List ℕ) (i w : ℕ) (l : List ℕ) → AreWords cited words → i < length words
    → w ≡ get_or words i w → (w % 3 ≡ 0 → ⊥) → (w % 3 ≡ 1 → ⊥) → l ≡ get_or cited (w / 3) l
    → Cite l ≡ get_or (steps_of cited words) i (Cite l)
cite_seen cited words i w l all lt e ne0 ne1 is =
    let r : w % 3 ≡ 2 = omega arith in
    let word : IsWord (length cited) w = subst (IsWord (length cited)) (sym e) (all i w lt) in
    sym (step_at cited words i w (Cite l) lt e ∙ cite_at cited w r
    ∙ ap (λ l. Cite l) (sym (get_or_read cited (w / 3) l (word.within r) is [])))

pub cite_placed : (cited : List (List ℕ)) (words : List ℕ) (i w : ℕ) → i < length words → w ≡ get_or words i w
    → (w % 3 ≡ 0 → ⊥) → (w % 3 ≡ 1 → ⊥)
    → Cite (get_or cited (w / 3) []) ≡ get_or (steps_of cited words) i (Cite (get_or cited (w / 3) []))
cite_placed cited words i w lt e ne0 ne1 =
    let r : w % 3 ≡ 2 = omega arith in
    sym (step_at cited words i w (Cite (get_or cited (w / 3) [])) lt e ∙ cite_at cited w r)
