-- The labels that a proof counts, where each of its words names what is there.
use Rattle.std.proofs.Common.{◌≡◌, ◌∙◌, ℕ, suc, Bool, true, false, cond, List, [], ◌∷◌, ◌++◌, map, take, drop, Option, Some, None}
use Rattle.std.proofs.Common.{refl, sym, ap, subst, append_assoc}
use Rattle.std.specs.Prelude.{◌||◌, All, find, filter}
use mathlib.Core.Bool.{not}
use Rattle.std.specs.List.{AllByRecursion, list_any}
use Rattle.std.specs.Str.{bytes_eq}
use Rattle.std.proofs.lemmas.Bool.{or_left, or_right}
use Rattle.std.proofs.lemmas.List.Elements.{All-from_recursion}
use Rattle.std.proofs.lemmas.List.Folds.{list_any-append}
use Rattle.mmtext.specs.Text.{Token}
use Rattle.mmtext.specs.Words.{Word}
use Rattle.mmsyntax.proofs.Names.{bytes_eq-same}
use Rattle.mmsyntax.proofs.Distinct.{all_append}
use Rattle.source.specs.Statements.{Proof, normal, compressed}
use Rattle.source.specs.Scopes.{Hypothesis, label_of, Assertion, is_mandatory, mandatory}
use Rattle.source.specs.Whole.{labels_in}
use Rattle.taking.specs.Counted.{counted_labels}
use Rattle.prooftrees.specs.Names.{IsKnown}
use Rattle.prooftrees.proofs.Whole.{known_active}
use Rattle.expanding.specs.Asking.{spoken_in}
use Rattle.pasting.specs.Proofs.{is_compressed, closing_in, compressed_at, proof_of, labels_at, labels_among, is_unnamed}

-- ---- the words of a proof that are labels

module _ (ts : List Token) where
  by_place : (o : Option ℕ) (proof : Proof) → compressed_at ts o ≡ Some proof → labels_in proof ≡ spoken_in (labels_at ts o)
  by_place None proof e = absurd cc
  by_place (Some n) proof e =
      let same : compressed (spoken_in (take n ts)) (spoken_in (drop (suc n) ts)) ≡ proof = cc in
      ap labels_in (sym same)

by_form : (ts : List Token) (b : Bool) (proof : Proof)
    → cond b (compressed_at (drop 1 ts) (closing_in (drop 1 ts))) (Some (normal (spoken_in ts))) ≡ Some proof
    → labels_in proof ≡ spoken_in (cond b (labels_at (drop 1 ts) (closing_in (drop 1 ts))) ts)
by_form ts true proof e = by_place (drop 1 ts) (closing_in (drop 1 ts)) proof e
by_form ts false proof e = let same : normal (spoken_in ts) ≡ proof = cc in ap labels_in (sym same)

labels_are : (ts : List Token) (proof : Proof) → proof_of ts ≡ Some proof → labels_in proof ≡ spoken_in (labels_among ts)
labels_are ts proof e = by_form ts (is_compressed ts) proof e

-- ---- each of them names what is there

passed : (b : Bool) (t : Token) (o : Option Token) → cond (not b) (Some t) o ≡ None → (b ≡ true) × (o ≡ None)
passed true t o e = (refl, e)
passed false t o e = absurd cc

all_named : (earlier : List Assertion) (x : Assertion) (ts : List Token) → find (is_unnamed earlier x) ts ≡ None
    → AllByRecursion (IsKnown earlier x.active) (spoken_in ts)
all_named earlier x [] none = tt
all_named earlier x (t ∷ ts) none =
    let p = passed _ t (find (is_unnamed earlier x) ts) none in (p.0, all_named earlier x ts p.1)

-- ---- so does each mandatory hypothesis

module _ (earlier : List Assertion) (active : List Hypothesis) (keeps : Hypothesis → Bool) where
  one_known : (h : Hypothesis) (hs : List Hypothesis) → IsKnown earlier active (label_of h)
      → AllByRecursion (IsKnown earlier active) (map label_of hs)
      → (b : Bool) → AllByRecursion (IsKnown earlier active) (map label_of (cond b (h ∷ hs) hs))
  one_known h hs known all true = (known, all)
  one_known h hs known all false = all

  kept_known : (front hs : List Hypothesis) → active ≡ front ++ hs
      → AllByRecursion (IsKnown earlier active) (map label_of (filter keeps hs))
  kept_known front [] e = tt
  kept_known front (h ∷ hs) e =
      let w = label_of h in
      let test = λ (k : Hypothesis). bytes_eq w (label_of k) in
      let there : list_any test active ≡ true =
      ap (list_any test) e
      ∙ list_any-append test front (h ∷ hs)
      ∙ or_right (list_any test front) (bytes_eq w w || list_any test hs) (or_left (bytes_eq w w) (list_any test hs) (bytes_eq-same w)) in
      one_known h (filter keeps hs) (known_active earlier active w there)
      (kept_known (front ++ h ∷ []) hs (e ∙ sym (append_assoc front (h ∷ []) hs))) (keeps h)

-- ---- all that it counts

counted_by : (P : Word → Type 0) (hs : List Hypothesis) (proof : Proof) → AllByRecursion P (map label_of hs)
    → AllByRecursion P (labels_in proof) → AllByRecursion P (counted_labels hs proof)
counted_by P hs (normal ws) mandatory named = named
counted_by P hs (compressed labels letters) mandatory named = all_append P (map label_of hs) labels mandatory named

-- where its own labels name what is there
pub known_counted : (earlier : List Assertion) (x : Assertion) → mandatory x.active x.statement ≡ x.hypotheses → (proof : Proof)
    → AllByRecursion (IsKnown earlier x.active) (labels_in proof) → All (IsKnown earlier x.active) (counted_labels x.hypotheses proof)
known_counted earlier x are proof named =
    All-from_recursion (IsKnown earlier x.active) (counted_labels x.hypotheses proof)
    (counted_by (IsKnown earlier x.active) x.hypotheses proof
    (subst (λ (hs : List Hypothesis). AllByRecursion (IsKnown earlier x.active) (map label_of hs)) are
    (kept_known earlier x.active (is_mandatory x.active x.statement) [] x.active refl)) named)

pub counted_known : (earlier : List Assertion) (x : Assertion) → mandatory x.active x.statement ≡ x.hypotheses → (ts : List Token)
    → (proof : Proof) → proof_of ts ≡ Some proof → find (is_unnamed earlier x) (labels_among ts) ≡ None
    → All (IsKnown earlier x.active) (counted_labels x.hypotheses proof)
counted_known earlier x are ts proof is none =
    known_counted earlier x are proof
    (subst (AllByRecursion (IsKnown earlier x.active)) (sym (labels_are ts proof is)) (all_named earlier x (labels_among ts) none))
