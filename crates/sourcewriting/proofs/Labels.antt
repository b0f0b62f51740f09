-- Labels are no parentheses.
use Rattle.std.proofs.Common.{◌≡◌, ◌||◌, Bool, true, false, List, [], ◌∷◌, ◌++◌, IsTrue, refl, subst, codes}
use Rattle.std.specs.List.{list_all}
use Rattle.std.specs.Str.{bytes_eq}
use Rattle.std.proofs.lemmas.List.Folds.{list_all-append, list_any-append}
use Rattle.std.proofs.lemmas.Slice.Eq.{bytes_eq-Decides}
use Rattle.std.proofs.lemmas.Bool.{and_parts}
use Rattle.mmtext.specs.Words.{Word, is_label}
use Rattle.items.specs.Layout.{is_compressed}
use Rattle.sourcewriting.specs.Laid.{has_closing}

false_if : (b : Bool) → (b ≡ true → ⊥) → b ≡ false
false_if true h = absurd (h refl)
false_if false h = refl

no_opening : (w : Word) → IsTrue (is_label w) → bytes_eq w (codes "(") ≡ false
no_opening w h = false_if _ (λ e. let k : is_label (codes "(") ≡ true = subst (λ v. IsTrue (is_label v)) ((bytes_eq-Decides w (codes "(")).0 e) h in cc)

no_closing : (w : Word) → IsTrue (is_label w) → bytes_eq w (codes ")") ≡ false
no_closing w h = false_if _ (λ e. let k : is_label (codes ")") ≡ true = subst (λ v. IsTrue (is_label v)) ((bytes_eq-Decides w (codes ")")).0 e) h in cc)

-- no label is )
pub closed_none : (labels : List Word) → IsTrue (list_all is_label labels) → has_closing labels ≡ false
closed_none [] h = refl
closed_none (w ∷ ws) h =
    let rest = closed_none ws (and_parts (is_label w) (list_all is_label ws) h).1 in
    let here = no_closing w (and_parts (is_label w) (list_all is_label ws) h).0 in
    rw (here, rest) refl

pub closed_none_behind : (front labels : List Word) → has_closing front ≡ false → IsTrue (list_all is_label labels)
    → has_closing (front ++ labels) ≡ false
closed_none_behind front labels closed h =
    let e : has_closing (front ++ labels) ≡ (has_closing front || has_closing labels) = list_any-append _ front labels in
    let k = closed_none labels h in
    rw (e, closed, k) refl

-- no label is (
pub form_of_labels : (labels : List Word) → IsTrue (list_all is_label labels) → is_compressed labels ≡ false
form_of_labels [] h = refl
form_of_labels (w ∷ ws) h = no_opening w (and_parts (is_label w) (list_all is_label ws) h).0

pub labels_more : (labels : List Word) (label : Word) → IsTrue (list_all is_label labels) → IsTrue (is_label label)
    → IsTrue (list_all is_label (labels ++ label ∷ []))
labels_more labels label h g = rw (list_all-append is_label labels (label ∷ []), h, g) refl
