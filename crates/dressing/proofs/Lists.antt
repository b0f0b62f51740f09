-- The steps that a proof lists.
use Rattle.std.proofs.Common.{◌≡◌, ◌∙◌, ◌<◌, ◌≤◌, ℕ, Bool, true, false, List, Option, Some, None, refl, sym, ap, subst, arith}
use Rattle.std.specs.Prelude.{◌||◌, if◌then◌else◌, min, nat_le, slice_get, Result, Ok, Err, IfOk, IfSome}
use Rattle.std.specs.List.{list_any}
use Rattle.std.specs.Option.{option_map}
use Rattle.std.proofs.lemmas.Bool.{cond-true, cond-false, le-leb, lt-leb}
use Rattle.mmsyntax.specs.declared.statement.Step.{Step}
use Rattle.source.specs.Scopes.{Assertion, Scope}
use Rattle.source.specs.Statements.{Proof}
use Rattle.mmtext.specs.Words.{Word}
use Rattle.source.specs.Proofs.{Tree, denoted, is_unfinished, size}
use Rattle.source.specs.Views.{seen_words}
use Rattle.source.specs.Whole.{labels_in}
use Rattle.taking.specs.Names.{Map}
use Rattle.taking.specs.Nodes.{sizes, counted}
use Rattle.taking.specs.Listings.{listing}
use Rattle.taking.specs.Walks.{IsListing}
use Rattle.prooftrees.specs.declared.form.ProofTree.{ProofTree}
use Rattle.prooftrees.specs.Forms.{IsTree}
use Rattle.prooftrees.proofs.Trees.{counted_is}
use Rattle.dressing.specs.Quoted.{is_unnamed, listed_tree, lists, own_names}

-- ---- a tree

module _ (m : Map) (earlier : List Assertion) (x : Assertion) (t : ProofTree) (is : IsTree m earlier x t) (n : ℕ)
    (told : option_map counted (slice_get (sizes t.proof.nodes) t.proof.root) ≡ Some n) where
  size_is : n ≡ min 16385 (size is.tree)
  size_is = sym (counted_is (seen_words t.labels.items) t.proof.nodes t.proof.root n is.tree is.stands told)

  pub long_lists : 16384 < n → None ≡ listed_tree m earlier x (Some is.tree)
  long_lists long =
      let e = size_is in
      sym (cond-false (nat_le (size is.tree) 16384) (listing m earlier x.active is.tree) None (lt-leb (size is.tree) 16384 (omega arith)))

  pub short_lists : n ≤ 16384 → (o : Option (List Step)) → IsListing t.named.items t.proof.nodes t.proof.root o
      → o ≡ listed_tree m earlier x (Some is.tree)
  short_lists short o lists =
      let e = size_is in
      sym (lists _ is.tree is.named is.stands)
      ∙ sym (cond-true (nat_le (size is.tree) 16384) (listing m earlier x.active is.tree) None (le-leb (size is.tree) 16384 (omega arith)))

-- ---- a proof

either : (a b : Bool) (o : Option (List Step)) → b ≡ true → None ≡ (if a || b then None else o)
either true b o e = refl
either false true o e = refl
either false false o e = absurd cc

neither : (a b : Bool) (o : Option (List Step)) → a ≡ false → b ≡ false → o ≡ (if a || b then None else o)
neither false false o e f = refl
neither true b o e f = absurd cc
neither false true o e f = absurd cc

module _ (s : Scope) (earlier : List Assertion) (x : Assertion) (own : Proof) where
  abbrev rest : Option (List Step)
  rest = listed_tree (own_names s.labels) earlier x (denoted earlier (record x { proof = Some own }))

  pub unfinished_lists : is_unfinished own ≡ true → None ≡ lists s earlier x own
  unfinished_lists e = ap (λ (b : Bool). if b || list_any (is_unnamed earlier x) (labels_in own) then None else rest) (sym e)

  pub unnamed_lists : list_any (is_unnamed earlier x) (labels_in own) ≡ true → None ≡ lists s earlier x own
  unnamed_lists e = either (is_unfinished own) (list_any (is_unnamed earlier x) (labels_in own)) rest e

  pub named_lists : is_unfinished own ≡ false → list_any (is_unnamed earlier x) (labels_in own) ≡ false
      → listed_tree (own_names s.labels) earlier x (denoted earlier (record x { proof = Some own })) ≡ lists s earlier x own
  named_lists e f = neither (is_unfinished own) (list_any (is_unnamed earlier x) (labels_in own)) rest e f

  -- by the tree that it denotes
  pub tree_lists : (labels : List Word) (t : Tree) → labels ≡ s.labels → is_unfinished own ≡ false
      → list_any (is_unnamed earlier x) (labels_in own) ≡ false → denoted earlier (record x { proof = Some own }) ≡ Some t
      → listed_tree (own_names labels) earlier x (Some t) ≡ lists s earlier x own
  tree_lists labels t same e f is =
      ap (λ ls. listed_tree (own_names ls) earlier x (Some t)) same
      ∙ ap (listed_tree (own_names s.labels) earlier x) (sym is)
      ∙ named_lists e f

  pub none_lists : is_unfinished own ≡ false → list_any (is_unnamed earlier x) (labels_in own) ≡ false
      → denoted earlier (record x { proof = Some own }) ≡ None → None ≡ lists s earlier x own
  none_lists e f is = ap (listed_tree (own_names s.labels) earlier x) (sym is) ∙ named_lists e f

-- ---- of what may be there

pub for_there : {A B E : Type 0} (r : Result A E) (o : Option B) (Q : A → B → Type 0) → ((x : B) → o ≡ Some x → IfOk r (λ a. Q a x))
    → IfOk r (λ a. IfSome o (Q a))
for_there (Ok a) None Q f = tt
for_there (Ok a) (Some x) Q f = f x refl
for_there (Err e) o Q f = tt

pub if_at : {A : Type 0} (P : A → Type 0) (o : Option A) (x : A) → o ≡ Some x → IfSome o P → P x
if_at {A} P o x at h = subst (λ (o : Option A). IfSome o P) at h
