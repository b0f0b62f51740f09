-- What is so of one assertion of a source.
use Rattle.std.proofs.Common.{◌≡◌, Bool, true, false, List, [], ◌∷◌, ◌++◌, map, Option, Some, None}
use Rattle.std.proofs.Common.{refl, sym, ap, subst, ◌∙◌, append_assoc}
use Rattle.std.specs.Prelude.{◌||◌, All, IfSome, is_some, filter, cond, find}
use Rattle.std.specs.List.{AllByRecursion, list_any}
use Rattle.std.specs.Option.{option_map, option_and_then}
use Rattle.std.specs.Str.{bytes_eq}
use Rattle.std.proofs.lemmas.Bool.{or_left, or_right}
use Rattle.std.proofs.lemmas.List.Folds.{list_any-append}
use Rattle.std.proofs.lemmas.List.Elements.{All-from_recursion, recursion_from_All}
use Rattle.mmtext.specs.Words.{Word}
use Rattle.mmsyntax.proofs.Names.{bytes_eq-same}
use Rattle.mmsyntax.proofs.Distinct.{all_append}
use Rattle.source.specs.Statements.{Proof, normal, compressed}
use Rattle.source.specs.Scopes.{Hypothesis, label_of, Assertion, Scope, is_mandatory, mandatory}
use Rattle.source.specs.Proofs.{Tree, Step, node, over, there, denoted, denoted_by, made, steps_of, is_unfinished}
use Rattle.source.specs.Whole.{IsProofWhole, IsAssertionWhole, labels_in}
use Rattle.source.proofs.Alike.{made_alike}
use Rattle.source.proofs.Finished.{made_there}
use Rattle.taking.proofs.Values.{all_more}
use Rattle.taking.specs.Counted.{counted_labels}
use Rattle.prooftrees.specs.Names.{IsKnown}

-- ---- the assertion at a place

-- ---- what its labels name

pub known_active : (earlier : List Assertion) (active : List Hypothesis) (w : Word)
    → list_any (λ h. bytes_eq w (label_of h)) active ≡ true → IsKnown earlier active w
known_active earlier active w h =
    ap (λ b. is_some (cond b (Some []) (option_map (λ (a : Assertion). a.hypotheses) (find (λ a. bytes_eq w a.label) earlier)))) h

-- each item passes a test for which it stands
all_stand : {A : Type 0} (test : A → A → Bool) → ((x : A) → test x x ≡ true) → (front xs : List A)
    → AllByRecursion (λ x. list_any (test x) (front ++ xs) ≡ true) xs
all_stand test same front [] = tt
all_stand {A} test same front (x ∷ xs) = (
  list_any-append (test x) front (x ∷ xs)
      ∙ or_right (list_any (test x) front) (test x x || list_any (test x) xs) (or_left (test x x) (list_any (test x) xs) (same x)),
  subst (λ (ys : List A). AllByRecursion (λ y. list_any (test y) ys ≡ true) xs) (append_assoc front (x ∷ []) xs)
      (all_stand test same (front ++ x ∷ []) xs),
)

-- what holds of the labels of all holds of those that are kept
all_kept : (P : Word → Type 0) (p : Hypothesis → Bool) (hs : List Hypothesis) → AllByRecursion (λ h. P (label_of h)) hs
    → AllByRecursion P (map label_of (filter p hs))
all_kept P p [] a = tt
all_kept P p (h ∷ hs) a =
    let rest = all_kept P p hs a.1 in
    elim (p h) as (λ b. AllByRecursion P (map label_of (cond b (h ∷ filter p hs) (filter p hs)))) [
      | true ↦ (a.0, rest)
      | false ↦ rest
    ]

mandatory_known : (earlier : List Assertion) (active : List Hypothesis) (statement : List Word)
    → AllByRecursion (IsKnown earlier active) (map label_of (mandatory active statement))
mandatory_known earlier active statement =
    all_kept (IsKnown earlier active) (is_mandatory active statement) active
    (all_more (λ h a. known_active earlier active (label_of h) a) active
    (all_stand (λ h k. bytes_eq (label_of h) (label_of k)) (λ h. bytes_eq-same (label_of h)) [] active))

-- ---- the proof of an assertion

module _ (s : Scope) (earlier : List Assertion) (x : Assertion) (proof : Proof) (whole : IsAssertionWhole s earlier x)
    (is : x.proof ≡ Some proof) (finished : is_unfinished proof ≡ false) where
  proof_whole : IsProofWhole earlier x proof
  proof_whole = subst (λ (o : Option Proof). IfSome o (IsProofWhole earlier x)) is whole.proof

  labels_known : (p : Proof) → AllByRecursion (IsKnown earlier x.active) (labels_in p)
      → AllByRecursion (IsKnown earlier x.active) (counted_labels x.hypotheses p)
  labels_known (normal ws) a = a
  labels_known (compressed labels letters) a =
      all_append (IsKnown earlier x.active) (map label_of x.hypotheses) labels
      (subst (λ (hs : List Hypothesis). AllByRecursion (IsKnown earlier x.active) (map label_of hs)) whole.mandatory
      (mandatory_known earlier x.active x.statement)) a

  -- each label that a number counts names what is there
  pub counted_known : All (IsKnown earlier x.active) (counted_labels x.hypotheses proof)
  counted_known =
      All-from_recursion (IsKnown earlier x.active) (counted_labels x.hypotheses proof)
      (labels_known proof (recursion_from_All (IsKnown earlier x.active) (labels_in proof) (proof_whole.named finished)))

  as_there : (o : Option (List Step)) → is_some (option_and_then (made there earlier x.active) o) ≡ true
      → option_and_then (denoted_by earlier x.active) o ≡ None → ⊥
  as_there None h e = absurd cc
  as_there (Some steps) h e =
      let f : Tree → Unit {0} = λ t. tt in
      let alike = made_alike f (λ w ts. node w (over ts)) there (λ w ts. refl) earlier x.active steps in
      let none : made there earlier x.active steps ≡ None = alike ∙ ap (option_map f) e in
      absurd cc

  denoted_is : denoted earlier x ≡ option_and_then (denoted_by earlier x.active) (steps_of x.hypotheses proof)
  denoted_is = ap (λ o. option_and_then (λ p. option_and_then (denoted_by earlier x.active) (steps_of x.hypotheses p)) o) is

  -- it denotes a tree
  pub tree_there : denoted earlier x ≡ None → ⊥
  tree_there e =
      as_there (steps_of x.hypotheses proof) (made_there earlier x.active x.hypotheses proof proof_whole.leaves_one) (sym denoted_is ∙ e)

  pub steps_there : steps_of x.hypotheses proof ≡ None → ⊥
  steps_there e = tree_there (denoted_is ∙ ap (option_and_then (denoted_by earlier x.active)) e)

  -- what codes denote is what it denotes
  pub denoted_steps : (steps : List Step) → steps_of x.hypotheses proof ≡ Some steps → denoted_by earlier x.active steps ≡ denoted earlier x
  denoted_steps steps e = sym (denoted_is ∙ ap (option_and_then (denoted_by earlier x.active)) e)
