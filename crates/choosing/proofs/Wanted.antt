-- What the proofs of those between two places need: one more place.
use Rattle.std.proofs.Common.{◌≡◌, ◌<◌, ◌≤◌, ◌+◌, ℕ, Bool, false, List, [], ◌∷◌, ◌++◌, length, take, drop, sym, ap, subst}
use Rattle.std.proofs.Common.{◌∙◌, arith, append_assoc, add-one, Some, inl, inr}
use Rattle.std.specs.Prelude.{◌||◌, slice_get, replicate}
use Rattle.std.specs.Str.{bytes_eq}
use Rattle.std.proofs.Math.Bool.{or_comm}
use Rattle.std.proofs.Math.ListN.{drop_of_length-le}
use Rattle.std.proofs.lemmas.List.{append-nil, drop-append-le, length-take, length-take-le}
use Rattle.std.proofs.lemmas.List.Folds.{list_any-append}
use Rattle.std.proofs.lemmas.Option.{slice_get_cases}
use Rattle.mmtext.specs.Words.{Word}
use Rattle.source.specs.Scopes.{Assertion, is_in}
use Rattle.taking.specs.Reasons.{needed}
use Rattle.choosing.specs.Choices.{needed_by_all}
use Rattle.choosing.specs.Marks.{AreMarked, AreMarkedToo, from_to}
use Rattle.choosing.proofs.Marked.{marks_agree}
use Rattle.choosing.proofs.Going.{unmarked_all, one_more}
use Rattle.choosing.proofs.Parts.{first}

needed_more : (earlier ys : List Assertion) (x : Assertion)
    → needed_by_all earlier (ys ++ x ∷ []) ≡ needed_by_all earlier ys ++ needed (earlier ++ ys) x
needed_more earlier [] x = append-nil (needed earlier x) ∙ ap (λ zs. needed zs x) (sym (append-nil earlier))
needed_more earlier (y ∷ ys) x =
    ap (λ ws. needed earlier y ++ ws) (needed_more (earlier ++ y ∷ []) ys x)
    ∙ sym (append_assoc (needed earlier y) (needed_by_all (earlier ++ y ∷ []) ys) (needed ((earlier ++ y ∷ []) ++ ys) x))
    ∙ ap (λ zs. (needed earlier y ++ needed_by_all (earlier ++ y ∷ []) ys) ++ needed zs x) (append_assoc earlier (y ∷ []) ys)

-- nothing is wanted yet
pub wanted_none : (xs : List Assertion) (i n : ℕ) (marks : List Bool) → n ≡ length xs → marks ≡ replicate n false
    → AreMarked xs (is_in (needed_by_all (take i xs) (from_to i i xs))) marks
wanted_none xs i n marks h is =
    let short : length (take i xs) ≤ i = let e = length-take i xs in omega arith in
    let e : from_to i i xs ≡ [] = drop_of_length-le (take i xs) short in
    subst (λ (ys : List Assertion). AreMarked xs (is_in (needed_by_all (take i xs) ys)) marks) (sym e) (unmarked_all xs n h ∙ sym is)

-- one more place
pub wanted_more : (xs : List Assertion) (i k : ℕ) (marks after : List Bool) → i ≤ k → k < length xs
    → AreMarked xs (is_in (needed_by_all (take i xs) (from_to i k xs))) marks
    → ((test : Word → Bool) → AreMarked xs test marks → AreMarkedToo xs k test after (slice_get xs k))
    → AreMarked xs (is_in (needed_by_all (take i xs) (from_to i (k + 1) xs))) after
wanted_more xs i k marks after order within are too =
    let x : (x : Assertion) × (slice_get xs k ≡ Some x) =
    elim (slice_get_cases xs k).1 [ inl y ↦ (y.0, y.2) | inr past ↦ absurd (omega arith) ] in
    let old = needed_by_all (take i xs) (from_to i k xs) in
    let long : i ≤ length (take k xs) = let e = length-take-le k xs (omega arith) in omega arith in
    let grown : from_to i (k + 1) xs ≡ from_to i k xs ++ x.0 ∷ [] =
    ap (λ j. drop i (take j xs)) (add-one k)
    ∙ ap (drop i) (one_more xs k x.0 x.1)
    ∙ drop-append-le i (take k xs) (x.0 ∷ []) long in
    let made : needed_by_all (take i xs) (from_to i (k + 1) xs) ≡ old ++ needed (take k xs) x.0 =
    ap (needed_by_all (take i xs)) grown
    ∙ needed_more (take i xs) (from_to i k xs) x.0
    ∙ ap (λ zs. old ++ needed zs x.0) (first xs i k order) in
    marks_agree xs (λ w. is_in (needed (take k xs) x.0) w || is_in old w) (is_in (needed_by_all (take i xs) (from_to i (k + 1) xs))) after
    (λ w.
    or_comm (is_in (needed (take k xs) x.0) w) (is_in old w)
    ∙ sym (list_any-append (bytes_eq w) old (needed (take k xs) x.0))
    ∙ ap (λ ws. is_in ws w) (sym made))
    (subst (AreMarkedToo xs k (is_in old) after) x.1 (too (is_in old) are))
