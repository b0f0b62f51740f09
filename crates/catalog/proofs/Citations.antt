-- Labels replaced in proofs: one assertion of a renamed library has another label, and each has its proof renamed.
use Rattle.std.proofs.Common.{◌≡◌, ℕ, zero, suc, Bool, true, false, ◌⊎◌, inl, inr, List, [], ◌∷◌, None, Some, map, set, refl, sym, ap}
use Rattle.std.proofs.Common.{subst, ◌∙◌, arith}
use Rattle.std.specs.Prelude.{◌||◌}
use Rattle.std.proofs.lemmas.Bool.{cases_Bool}
use Rattle.mmsyntax.proofs.Names.{same_bytes}
use Rattle.std.specs.List.{list_any}
use Rattle.std.specs.Str.{bytes_eq}
use Rattle.mmsyntax.specs.declared.statement.Step.{Step}
use Rattle.mmsyntax.specs.declared.statement.Step.TheVariants.{Float, Hyp, Cite}
use Rattle.mmsyntax.proofs.Distinct.{or_false}
use Rattle.library.specs.declared.library.Ranked.{Ranked}
use Rattle.library.specs.Library.{label_of}
use Rattle.derivation.specs.Laws.{replacing, step_relabelled}
use Rattle.library.specs.Edits.{rename, is_citation, cites, has, is_labelled, with_proof}
use Rattle.library.proofs.Labels.{replacing-old, replacing-other}
use Rattle.library.proofs.Renaming.{renamed_entry}
use Rattle.catalog.specs.Entries.{Entries, living, StandsIn}
use Rattle.catalog.specs.Changes.{IsAlone, with_label, citing, changed_all}
use Rattle.catalog.proofs.Changing.{alone-first, alone-later, living-all}

-- ---- proofs that do not cite the label

steps_alone : (old new : List ℕ) (steps : List Step) → list_any (is_citation old) steps ≡ false
    → map (step_relabelled (replacing old new)) steps ≡ steps
steps_alone old new [] h = refl
steps_alone old new (Float i ∷ steps) h = ap (λ xs. Float i ∷ xs) (steps_alone old new steps h)
steps_alone old new (Hyp k ∷ steps) h = ap (λ xs. Hyp k ∷ xs) (steps_alone old new steps h)
steps_alone old new (Cite l ∷ steps) h =
    let both = or_false (bytes_eq old l) (list_any (is_citation old) steps) h in
    ap (λ k. Cite k ∷ map (step_relabelled (replacing old new)) steps) (replacing-other old new l both.0)
    ∙ ap (λ xs. Cite l ∷ xs) (steps_alone old new steps both.1)

pub citing-alone : (old new : List ℕ) (e : Ranked) → cites old e ≡ false → citing old new e ≡ e
citing-alone old new e h = ap (λ steps. with_proof steps e) (steps_alone old new e.assertion.proof h)

-- ---- a library

relabelling : (old new w : List ℕ) (e : Ranked) → replacing old new (label_of e) ≡ w
    → renamed_entry old new e ≡ citing old new (with_label w e)
relabelling old new w e h = ap (λ (k : List ℕ). citing old new (with_label k e)) h

rename_free : (old new : List ℕ) (lib : List Ranked) → has lib old ≡ false → rename old new lib ≡ map (citing old new) lib
rename_free old new [] h = refl
rename_free old new (e ∷ es) h =
    let both = or_false (is_labelled old e) (has es old) h in
    ap (λ x. x ∷ rename old new es) (relabelling old new (label_of e) e (replacing-other old new (label_of e) both.0))
    ∙ ap (λ xs. citing old new e ∷ xs) (rename_free old new es both.1)

-- a renaming gives one assertion the new label, and renames each proof
pub rename_place : (old new : List ℕ) (es : Entries) (p : ℕ) (e : Ranked) → StandsIn es p e → is_labelled old e ≡ true → IsAlone es old p
    → rename old new (living es) ≡ living (changed_all (citing old new) (set es p (Some (with_label new e))))
rename_place old new [] p e at own alone = absurd cc
rename_place old new (None ∷ es) zero e at own alone = absurd cc
rename_place old new (None ∷ es) (suc p) e at own alone = rename_place old new es p e at own (alone-later None es old p alone)
rename_place old new (Some x ∷ es) zero e at own alone =
    let same : e ≡ x = cc in
    let here : is_labelled old x ≡ true = subst (λ (y : Ranked). is_labelled old y ≡ true) same own in
    ap (λ y. y ∷ rename old new (living es)) (relabelling old new new x (replacing-old old new (label_of x) here))
    ∙ ap (λ ys. citing old new (with_label new x) ∷ ys)
    (rename_free old new (living es) (alone-first (Some x) es old alone) ∙ sym (living-all (citing old new) es))
    ∙ ap (λ y. citing old new (with_label new y) ∷ living (changed_all (citing old new) es)) (sym same)
rename_place old new (Some x ∷ es) (suc p) e at own alone =
    let other = alone.others zero x refl (λ z. omega arith) in
    ap (λ y. y ∷ rename old new (living es)) (relabelling old new (label_of x) x (replacing-other old new (label_of x) other))
    ∙ ap (λ ys. citing old new x ∷ ys) (rename_place old new es p e at own (alone-later (Some x) es old p alone))

-- ---- what is cited then

-- steps with a label in the place of another cite the new label, or what they cited before
steps_renamed : (old new w : List ℕ) (steps : List Step) → list_any (is_citation w) (map (step_relabelled (replacing old new)) steps) ≡ true
    → (w ≡ new) ⊎ (list_any (is_citation w) steps ≡ true)
steps_renamed old new w [] h = absurd cc
steps_renamed old new w (Float i ∷ steps) h = steps_renamed old new w steps h
steps_renamed old new w (Hyp k ∷ steps) h = steps_renamed old new w steps h
steps_renamed old new w (Cite l ∷ steps) h =
    let rest = list_any (is_citation w) steps in
    let rest' = list_any (is_citation w) (map (step_relabelled (replacing old new)) steps) in
    elim (cases_Bool (bytes_eq old l)) [
      | inl y ↦ elim (cases_Bool (bytes_eq w new)) [
        | inl own ↦ inl (same_bytes w new own)
        | inr other ↦
            let here : bytes_eq w (replacing old new l) ≡ false = ap (bytes_eq w) (replacing-old old new l y) ∙ other in
            later (bytes_eq w l) rest (steps_renamed old new w steps (ap (λ b. b || rest') (sym here) ∙ h))
      ]
      | inr n ↦
          let kept : bytes_eq w (replacing old new l) ≡ bytes_eq w l = ap (bytes_eq w) (replacing-other old new l n) in
          elim (cases_Bool (bytes_eq w l)) [
            | inl y ↦ inr (ap (λ b. b || rest) y)
            | inr other ↦
                later (bytes_eq w l) rest (steps_renamed old new w steps (ap (λ b. b || rest') (sym (kept ∙ other)) ∙ h))
          ]
    ]
  where
    later : (b r : Bool) → (w ≡ new) ⊎ (r ≡ true) → (w ≡ new) ⊎ ((b || r) ≡ true)
    later b r (inl own) = inl own
    later true r (inr there) = inr refl
    later false r (inr there) = inr there

pub cites-renamed : (old new w : List ℕ) (e : Ranked) → cites w (citing old new e) ≡ true → (w ≡ new) ⊎ (cites w e ≡ true)
cites-renamed old new w e h = steps_renamed old new w e.assertion.proof h
