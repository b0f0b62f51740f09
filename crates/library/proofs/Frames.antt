-- The frames that assertions of different labels give for labels.
use Rattle.std.proofs.Common.{◌≡◌, ◌<◌, ℕ, zero, suc, true, false, cond, List, [], ◌∷◌, Some, length, get_or, map, refl, sym, ap, subst}
use Rattle.std.proofs.Common.{◌∙◌, arith}
use Rattle.std.specs.List.{Contains, All}
use Rattle.std.specs.Str.{bytes_eq}
use Rattle.std.proofs.lemmas.Bool.{cond-true, cond-false}
use Rattle.std.proofs.lemmas.List.{length-map, get_or-map}
use Rattle.std.proofs.lemmas.List.Elements.{All-contains, Contains-append_right}
use Rattle.mmsyntax.specs.declared.statement.Frame.{Frame}
use Rattle.mmsyntax.specs.declared.statement.Assertion.{Assertion}
use Rattle.mmsyntax.specs.Tables.{Tables}
use Rattle.mmsyntax.specs.Assertions.{Distinct}
use Rattle.mmsyntax.proofs.Names.{same_bytes, bytes_eq-same}
use Rattle.mmsyntax.proofs.Distinct.{any_at}
use Rattle.mmframes.specs.Frames.{frame}
use Rattle.derivation.specs.Databases.{frame_in}
use Rattle.library.proofs.Derivations.{Within}

-- a frame that is given is that of an assertion with the label
pub frame_found : (p : Tables) (xs : List Assertion) (label : List ℕ) (f : Frame) → frame_in p xs label ≡ Some f
    → (a : Assertion) × Contains xs a × (a.label ≡ label) × (frame p a ≡ f)
frame_found p [] label f h = absurd cc
frame_found p (x ∷ xs) label f h =
    elim (bytes_eq x.label label)
    as (λ b. bytes_eq x.label label ≡ b → cond b (Some (frame p x)) (frame_in p xs label) ≡ Some f
    → (a : Assertion) × Contains (x ∷ xs) a × (a.label ≡ label) × (frame p a ≡ f)) [
      | true ↦ λ e k. (x, (0, omega arith, refl), same_bytes x.label label e, cc)
      | false ↦ λ e k.
          let later = frame_found p xs label f k in
          (later.0, Contains-append_right (x ∷ []) xs later.0 later.1, later.2, later.3)
    ] refl h

-- the labels of assertions
abbrev pub labels : List Assertion → List (List ℕ)
labels xs = map (λ a. a.label) xs

frame_at : (p : Tables) (xs : List Assertion) → Distinct bytes_eq (labels xs) → (i : ℕ) (d : Assertion) → i < length xs
    → frame_in p xs (get_or xs i d).label ≡ Some (frame p (get_or xs i d))
frame_at p [] apart i d lt = absurd (omega arith)
frame_at p (x ∷ xs) apart zero d lt = cond-true (bytes_eq x.label x.label) (Some (frame p x)) _ (bytes_eq-same x.label)
frame_at p (x ∷ xs) apart (suc i) d lt =
    let a = get_or xs i d in
    let lt' : i < length xs = omega arith in
    let other : bytes_eq x.label a.label ≡ false =
    ap (bytes_eq x.label) (sym (get_or-map (λ (b : Assertion). b.label) xs i d d.label lt'))
    ∙ any_at (bytes_eq x.label) (labels xs) i d.label apart.0 (omega (arith, length-map xs (λ (b : Assertion). b.label))) in
    cond-false (bytes_eq x.label a.label) (Some (frame p x)) (frame_in p xs a.label) other ∙ frame_at p xs apart.1 i d lt'

-- where labels differ, each assertion gives its frame for its label
pub frame_given : (p : Tables) (xs : List Assertion) (a : Assertion) → Distinct bytes_eq (labels xs) → Contains xs a
    → frame_in p xs a.label ≡ Some (frame p a)
frame_given p xs a apart at = subst (λ b. frame_in p xs b.label ≡ Some (frame p b)) at.2 (frame_at p xs apart at.0 a at.1)

-- what some assertions of a list of different labels give, the list gives
pub frames_within : (p : Tables) (xs ys : List Assertion) → Distinct bytes_eq (labels ys) → All (Contains ys) xs
    → Within (frame_in p xs) (frame_in p ys)
frames_within p xs ys apart among label f h =
    let found = frame_found p xs label f h in
    let given = frame_given p ys found.0 apart (All-contains (Contains ys) xs found.0 among found.1) in
    ap (frame_in p ys) (sym found.2) ∙ given ∙ ap (λ g. Some g) found.3
