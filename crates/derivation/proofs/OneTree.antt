-- Steps list one tree, which derives one expression.
use Rattle.std.proofs.Common.{◌≡◌, ℕ, suc, List, [], ◌∷◌, ◌++◌, Some, length, drop, take, refl, sym, ap, ◌∙◌, append_assoc}
use Rattle.std.proofs.Common.{append-nil, arith, length-append}
use Rattle.std.proofs.Math.Seq.{take-append_seam, drop-append_seam}
use Rattle.mmsyntax.specs.Tables.{Tables}
use Rattle.mmsyntax.specs.declared.statement.Frame.{Frame}
use Rattle.mmsyntax.specs.declared.statement.Assertion.{Assertion}
use Rattle.mmsyntax.specs.declared.statement.Step.{Step}
use Rattle.mmsyntax.specs.declared.statement.Step.TheVariants.{Float, Hyp, Cite}
use Rattle.derivation.specs.Derivation.{Expression, Citable, Tree, Trees, float, hyp, node, none, some, Derives, DeriveEach, listing}
use Rattle.derivation.specs.Derivation.{listings, arity}
use Rattle.derivation.specs.Laws.{TreeIsOne}
use Rattle.derivation.proofs.Forests.{Runs-same, tree-runs}
use Rattle.derivation.proofs.Plain.{Some-same}

abbrev count : Trees → ℕ
count none = 0
count (some t ts) = suc (count ts)

abbrev mutual
  -- each node has as many subtrees as what it cites has mandatory hypotheses
  Shaped : Citable → Tree → Type 0
  Shaped lib (float i) = Unit {0}
  Shaped lib (hyp k) = Unit {0}
  Shaped lib (node label ts) = (f : Frame) × (lib label ≡ Some f) × (count ts ≡ arity f) × AllShaped lib ts

  AllShaped : Citable → Trees → Type 0
  AllShaped lib none = Unit {0}
  AllShaped lib (some t ts) = Shaped lib t × AllShaped lib ts

-- two lists that end alike
ends-alike : (xs ys : List Step) (x y : Step) → xs ++ x ∷ [] ≡ ys ++ y ∷ [] → (xs ≡ ys) × (x ≡ y)
ends-alike xs ys x y e =
    let long : length xs ≡ length ys = omega (arith, ap length e, length-append xs (x ∷ []), length-append ys (y ∷ [])) in
    let back : x ∷ [] ≡ y ∷ [] = sym (drop-append_seam xs (x ∷ [])) ∙ ap (drop (length xs)) e ∙ ap (λ k. drop k (ys ++ y ∷ [])) long
    ∙ drop-append_seam ys (y ∷ []) in
    let last : x ≡ y = cc in (
      sym (take-append_seam xs (x ∷ [])) ∙ ap (take (length xs)) e ∙ ap (λ k. take k (ys ++ y ∷ [])) long ∙ take-append_seam ys (y ∷ []),
      last,
    )

float-back : (i : ℕ) (u : Tree) (xs ys : List Step) → xs ++ Float i ∷ [] ≡ ys ++ listing u → (float i ≡ u) × (xs ≡ ys)
float-back i (float j) xs ys e = let ends = ends-alike xs ys (Float i) (Float j) e in let last = ends.1 in let same : i ≡ j = cc in
    (ap float same, ends.0)
float-back i (hyp j) xs ys e = let ends = ends-alike xs ys (Float i) (Hyp j) e in let last = ends.1 in cc
float-back i (node label us) xs ys e =
    let ends = ends-alike xs (ys ++ listings us) (Float i) (Cite label) (e ∙ sym (append_assoc ys (listings us) (Cite label ∷ []))) in
    let last = ends.1 in cc

hyp-back : (i : ℕ) (u : Tree) (xs ys : List Step) → xs ++ Hyp i ∷ [] ≡ ys ++ listing u → (hyp i ≡ u) × (xs ≡ ys)
hyp-back i (float j) xs ys e = let ends = ends-alike xs ys (Hyp i) (Float j) e in let last = ends.1 in cc
hyp-back i (hyp j) xs ys e = let ends = ends-alike xs ys (Hyp i) (Hyp j) e in let last = ends.1 in let same : i ≡ j = cc in
    (ap hyp same, ends.0)
hyp-back i (node label us) xs ys e =
    let ends = ends-alike xs (ys ++ listings us) (Hyp i) (Cite label) (e ∙ sym (append_assoc ys (listings us) (Cite label ∷ []))) in
    let last = ends.1 in cc

module _ (lib : Citable) (p : Tables) (a : Assertion) where
  mutual
    shaped : (t : Tree) (e : Expression) → Derives lib p a t e → Shaped lib t
    shaped (float i) e h = tt
    shaped (hyp k) e h = tt
    shaped (node label ts) e h = (h.0, h.2, counted ts h.1 h.3 ∙ h.4.one_each, all_shaped ts h.1 h.3)

    all_shaped : (ts : Trees) (es : List Expression) → DeriveEach lib p a ts es → AllShaped lib ts
    all_shaped none es h = tt
    all_shaped (some t ts) es h = (shaped t h.0 h.3, all_shaped ts h.1 h.4)

    counted : (ts : Trees) (es : List Expression) → DeriveEach lib p a ts es → count ts ≡ length es
    counted none es h = rw h refl
    counted (some t ts) es h = rw h.2 (ap suc (counted ts h.1 h.4))

  mutual
    -- lists that end in the listings of shaped trees, from the back
    tree-back : (t u : Tree) (xs ys : List Step) → Shaped lib t → Shaped lib u → xs ++ listing t ≡ ys ++ listing u → (t ≡ u) × (xs ≡ ys)
    tree-back (float i) u xs ys h k e = float-back i u xs ys e
    tree-back (hyp i) u xs ys h k e = hyp-back i u xs ys e
    tree-back (node label ts) (float j) xs ys h k e =
        let ends = ends-alike (xs ++ listings ts) ys (Cite label) (Float j) (append_assoc xs (listings ts) (Cite label ∷ []) ∙ e) in
        let last = ends.1 in cc
    tree-back (node label ts) (hyp j) xs ys h k e =
        let ends = ends-alike (xs ++ listings ts) ys (Cite label) (Hyp j) (append_assoc xs (listings ts) (Cite label ∷ []) ∙ e) in
        let last = ends.1 in cc
    tree-back (node label ts) (node other us) xs ys h k e =
        let ends = ends-alike (xs ++ listings ts) (ys ++ listings us) (Cite label) (Cite other)
        (append_assoc xs (listings ts) (Cite label ∷ []) ∙ e ∙ sym (append_assoc ys (listings us) (Cite other ∷ []))) in
        let last = ends.1 in
        let same : label ≡ other = cc in
        let frames = Some-same h.0 k.0 (lib other) (rw same at h.1) k.1 in
        let rest = trees-back ts us xs ys h.3 k.3 (h.2 ∙ ap arity frames ∙ sym k.2) ends.0 in
        ((λ i. node (same i) (rest.0 i)), rest.1)

    trees-back : (ts us : Trees) (xs ys : List Step) → AllShaped lib ts → AllShaped lib us → count ts ≡ count us
        → xs ++ listings ts ≡ ys ++ listings us → (ts ≡ us) × (xs ≡ ys)
    trees-back none none xs ys h k n e = (refl, sym (append-nil xs) ∙ e ∙ append-nil ys)
    trees-back none (some u us) xs ys h k n e = absurd (omega arith)
    trees-back (some t ts) none xs ys h k n e = absurd (omega arith)
    trees-back (some t ts) (some u us) xs ys h k n e =
        let later = trees-back ts us (xs ++ listing t) (ys ++ listing u) h.1 k.1 (omega arith)
        (append_assoc xs (listing t) (listings ts) ∙ e ∙ sym (append_assoc ys (listing u) (listings us))) in
        let first = tree-back t u xs ys h.0 k.0 later.1 in
        ((λ i. some (first.0 i) (later.0 i)), first.1)

  -- a tree derives one expression
  one-expression : (t : Tree) (d e : Expression) → Derives lib p a t d → Derives lib p a t e → d ≡ e
  one-expression t d e h k =
      let same = Runs-same lib p a (listing t ++ []) [] (d ∷ []) (e ∷ []) (tree-runs lib p a t d [] [] (d ∷ []) h refl)
      (tree-runs lib p a t e [] [] (e ∷ []) k refl) in
      cc

pub tree-is-one : TreeIsOne
tree-is-one lib p a t u d e h k l =
    let same = tree-back lib p a t u [] [] (shaped lib p a t d h) (shaped lib p a u e k) l in
    (same.0, one-expression lib p a u d e (rw same.0 at h) k)
