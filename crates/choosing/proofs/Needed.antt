-- What a proof needs: the labels that its nodes name, unless it is too long.
use Rattle.std.proofs.Common.{◌≡◌, ◌<◌, ◌≤◌, ℕ, Bool, true, false, List, [], length, map, take, Option, Some, None}
use Rattle.std.proofs.Common.{refl, sym, ap, subst, ◌∙◌, arith, inl, inr}
use Rattle.std.proofs.Common.{Bor}
use Rattle.std.specs.Prelude.{slice_get, nat_lt, All, IfSome, ◌||◌}
use Rattle.std.specs.Option.{option_map}
use Rattle.std.specs.Str.{bytes_eq}
use Rattle.std.proofs.lemmas.Bool.{cond-true, cond-false}
use Rattle.std.proofs.lemmas.Bool.Decides.{nat_tests}
use Rattle.std.proofs.lemmas.Option.{slice_get_cases}
use Rattle.std.proofs.lemmas.List.{length-map}
use Rattle.mmtext.specs.Words.{Word}
use Rattle.source.specs.Statements.{Proof}
use Rattle.source.specs.Scopes.{Assertion, is_in}
use Rattle.source.specs.Views.{seen_words}
use Rattle.source.specs.Proofs.{Tree, denoted, is_unfinished, size, taken_by}
use Rattle.taking.specs.declared.named.Named.{Named}
use Rattle.taking.specs.Names.{Map}
use Rattle.taking.specs.Nodes.{counted}
use Rattle.taking.specs.Nodes as nodes
use Rattle.taking.specs.Reasons.{labels_cited, needed, needed_by, needed_by_tree}
use Rattle.taking.specs.Settings.{is_float}
use Rattle.prooftrees.specs.declared.form.ProofTree.{ProofTree}
use Rattle.prooftrees.specs.declared.form.ProofForm.{ProofForm}
use Rattle.prooftrees.specs.declared.form.ProofForm.TheVariants as form
use Rattle.prooftrees.specs.Forms.{IsForm, IsTree}
use Rattle.prooftrees.proofs.Trees.{nodes_are_labelled, counted_is}
use Rattle.choosing.specs.Marks.{AreMarked, AreMarkedToo, is_named}
use Rattle.choosing.proofs.Marked.{marks_agree}

-- ---- what is needed

pub needs_nothing : (earlier : List Assertion) (x : Assertion) → x.proof ≡ None → needed earlier x ≡ []
needs_nothing earlier x none = ap (needed_by earlier x) none

pub unfinished_needs_nothing : (earlier : List Assertion) (x : Assertion) (proof : Proof) → x.proof ≡ Some proof
    → is_unfinished proof ≡ true
    → needed earlier x ≡ []
unfinished_needs_nothing earlier x proof is unfinished =
    ap (needed_by earlier x) is ∙ cond-true (is_unfinished proof) [] (needed_by_tree (denoted earlier x)) unfinished

finished : (earlier : List Assertion) (x : Assertion) (proof : Proof) (tree : Tree) → x.proof ≡ Some proof → is_unfinished proof ≡ false
    → denoted earlier x ≡ Some tree → needed earlier x ≡ needed_by_tree (Some tree)
finished earlier x proof tree is done denotes =
    ap (needed_by earlier x) is
    ∙ cond-false (is_unfinished proof) [] (needed_by_tree (denoted earlier x)) done
    ∙ ap needed_by_tree denotes

module _ (m : Map) (earlier : List Assertion) (x : Assertion) (t : ProofTree) (k : ℕ) (is : IsForm m earlier x (form.Tree t))
    (told : option_map counted (slice_get (nodes.sizes t.proof.nodes) t.proof.root) ≡ Some k) where
  whole : IsTree m earlier x t
  whole = is.3

  number : counted (size whole.tree) ≡ k
  number = counted_is (seen_words t.labels.items) t.proof.nodes t.proof.root k whole.tree whole.stands told

  needs : needed earlier x ≡ needed_by_tree (Some whole.tree)
  needs = finished earlier x is.0 whole.tree is.1 is.2 whole.denotes

  -- too long a proof
  pub long_needs_nothing : 16384 < k → needed earlier x ≡ []
  long_needs_nothing long =
      let e = number in
      let h : 16384 < size whole.tree = omega arith in
      needs ∙ cond-true (nat_lt 16384 (size whole.tree)) [] (labels_cited whole.tree) (grind (arith, nat_tests))

  pub short_needs : k ≤ 16384 → (w : Word) → is_named (seen_words t.labels.items) t.proof.nodes w ≡ is_in (needed earlier x) w
  short_needs short w =
      let e = number in
      let h : size whole.tree ≤ 16384 = omega arith in
      sym (ap (λ ws. is_in ws w)
      (needs ∙ cond-false (nat_lt 16384 (size whole.tree)) [] (labels_cited whole.tree) (grind (arith, nat_tests)))
      ∙ whole.cites (bytes_eq w))

-- ---- what nodes name is there

-- what is named stands for the labels
as_many : (m : Map) (earlier : List Assertion) (x : Assertion) (t : ProofTree) → IsTree m earlier x t
    → length t.named.items ≡ length t.labels.items
as_many m earlier x t is =
    let F : Word → Option (List Bool) = λ w. option_map (map is_float) (taken_by earlier x.active w) in
    let G : Named → Option (List Bool) = λ n. Some n.floats in
    sym (length-map t.named.items G)
    ∙ ap length (sym is.named.floats)
    ∙ length-map (seen_words t.labels.items) F
    ∙ length-map t.labels.items (λ w. w.now)

pub named_within : (m : Map) (earlier : List Assertion) (x : Assertion) (t : ProofTree) → IsForm m earlier x (form.Tree t)
    → All (λ n. n.named < length t.labels.items) t.proof.nodes
named_within m earlier x t is = nodes_are_labelled t is.3.whole (sym (as_many m earlier x t is.3))

-- ---- what is marked

form_of : (m : Map) (earlier : List Assertion) (f : ProofForm) (o : Option Assertion) (x : Assertion) → o ≡ Some x
    → IfSome o (λ x. IsForm m earlier x f) → IsForm m earlier x f
form_of m earlier f o x is h = subst (λ (p : Option Assertion). IfSome p (λ x. IsForm m earlier x f)) is h

module _ (m : Map) (xs : List Assertion) (place : ℕ) (f : ProofForm) (within : place < length xs)
    (is : IfSome (slice_get xs place) (λ x. IsForm m (take place xs) x f)) where
  here : (x : Assertion) × (slice_get xs place ≡ Some x)
  here = elim (slice_get_cases xs place).1 [ inl y ↦ (y.0, y.2) | inr past ↦ absurd (omega arith) ]

  read : IsForm m (take place xs) here.0 f
  read = form_of m (take place xs) f (slice_get xs place) here.0 here.1 is

  too : (test : Word → Bool) (marks : List Bool) → AreMarked xs (λ w. is_in (needed (take place xs) here.0) w || test w) marks
      → AreMarkedToo xs place test marks (slice_get xs place)
  too test marks are = subst (AreMarkedToo xs place test marks) (sym here.1) are

  unchanged : (test : Word → Bool) (marks : List Bool) → needed (take place xs) here.0 ≡ [] → AreMarked xs test marks
      → AreMarkedToo xs place test marks (slice_get xs place)
  unchanged test marks none are =
      too test marks (subst (λ (ws : List Word). AreMarked xs (λ w. is_in ws w || test w) marks) (sym none) are)

  module _ (t : ProofTree) (form-is : f ≡ form.Tree t) where
    tree_read : IsForm m (take place xs) here.0 (form.Tree t)
    tree_read = subst (IsForm m (take place xs) here.0) form-is read

    pub all_within : (labels : List (Bor (List ℕ))) → labels ≡ t.labels.items → All (λ n. n.named < length labels) t.proof.nodes
    all_within labels same =
        subst (λ (ls : List (Bor (List ℕ))). All (λ n. n.named < length ls) t.proof.nodes) (sym same)
        (named_within m (take place xs) here.0 t tree_read)

    pub marked_long : (k : ℕ) → option_map counted (slice_get (nodes.sizes t.proof.nodes) t.proof.root) ≡ Some k → 16384 < k
        → (test : Word → Bool) (marks : List Bool) → AreMarked xs test marks → AreMarkedToo xs place test marks (slice_get xs place)
    marked_long k told long test marks are =
        unchanged test marks (long_needs_nothing m (take place xs) here.0 t k tree_read told long) are

    pub marked_short : (k : ℕ) → option_map counted (slice_get (nodes.sizes t.proof.nodes) t.proof.root) ≡ Some k → k ≤ 16384
        → (labels : List (Bor (List ℕ))) → labels ≡ t.labels.items → (test : Word → Bool) (marks : List Bool)
        → AreMarked xs (λ w. is_named (seen_words labels) t.proof.nodes w || test w) marks
        → AreMarkedToo xs place test marks (slice_get xs place)
    marked_short k told short labels same test marks are =
        too test marks
        (marks_agree xs (λ w. is_named (seen_words labels) t.proof.nodes w || test w)
        (λ w. is_in (needed (take place xs) here.0) w || test w) marks
        (λ w.
        ap (λ ls. is_named (seen_words ls) t.proof.nodes w || test w) same
        ∙ ap (λ b. b || test w) (short_needs m (take place xs) here.0 t k tree_read told short w)) are)

  -- no tree
  nothing_read : (g : ProofForm) → f ≡ g → ((t : ProofTree) → g ≡ form.Tree t → ⊥) → needed (take place xs) here.0 ≡ []
  nothing_read form.Absent e other = needs_nothing (take place xs) here.0 (subst (IsForm m (take place xs) here.0) e read)
  nothing_read form.Unfinished e other =
      let r : IsForm m (take place xs) here.0 form.Unfinished = subst (IsForm m (take place xs) here.0) e read in
      unfinished_needs_nothing (take place xs) here.0 r.0 r.1 r.2
  nothing_read (form.Tree t) e other = absurd (other t refl)

  pub marked_nothing : ((t : ProofTree) → f ≡ form.Tree t → ⊥) → (test : Word → Bool) (marks : List Bool) → AreMarked xs test marks
      → AreMarkedToo xs place test marks (slice_get xs place)
  marked_nothing other test marks are = unchanged test marks (nothing_read f refl other) are
