-- A tree by the number that is told of its size, and its listing.
use Rattle.std.proofs.Common.{◌≡◌, ◌∙◌, ◌<◌, ◌≤◌, ℕ, Option, Some, sym, ap, subst, arith, get_or, List}
use Rattle.std.specs.Prelude.{min, slice_get, nat_le}
use Rattle.std.specs.Option.{option_map}
use Rattle.std.proofs.lemmas.Bool.{cond-true, cond-false, le-leb, lt-leb}
use Rattle.std.proofs.lemmas.Option.{get_or_from_slice_get}
use Rattle.mmtext.specs.Text.{Token}
use Rattle.mmtext.specs.declared.fault.FaultKind.TheVariants.{TooLong}
use Rattle.mmsyntax.specs.declared.statement.Step.{Step}
use Rattle.source.specs.Scopes.{Assertion}
use Rattle.source.specs.Proofs.{size}
use Rattle.source.specs.Views.{seen_words}
use Rattle.taking.specs.Names.{Map}
use Rattle.taking.specs.Nodes.{Shared, sizes, counted}
use Rattle.taking.specs.Listings.{listing}
use Rattle.taking.specs.Walks.{IsListing}
use Rattle.taking.proofs.Values.{mapped}
use Rattle.prooftrees.specs.declared.form.ProofTree.{ProofTree}
use Rattle.prooftrees.specs.Forms.{IsTree}
use Rattle.prooftrees.proofs.Trees.{counted_is}
use Rattle.pasting.specs.Proofs.{faulty, given_by_listing, given_by_tree}

-- a node of which few steps are told has few
pub few_steps : (ns : List Shared) (root n : ℕ) → option_map counted (slice_get (sizes ns) root) ≡ Some n → n ≤ 16384
    → get_or (sizes ns) root 0 ≤ 16384
few_steps ns root n e h =
    let there = mapped counted (slice_get (sizes ns) root) n e in
    let is : min 16385 there.0 ≡ n = there.2 in
    subst (λ (k : ℕ). k ≤ 16384) (sym (get_or_from_slice_get (sizes ns) root there.0 0 there.1)) (omega arith)

module _ (m : Map) (earlier : List Assertion) (x : Assertion) (t : ProofTree) (is : IsTree m earlier x t) (n : ℕ)
    (told : option_map counted (slice_get (sizes t.proof.nodes) t.proof.root) ≡ Some n) (first last : Token) where
  size_is : n ≡ min 16385 (size is.tree)
  size_is = sym (counted_is (seen_words t.labels.items) t.proof.nodes t.proof.root n is.tree is.stands told)

  pub long_is : 16384 < n → faulty first TooLong ≡ given_by_tree m earlier x first last (Some is.tree)
  long_is long =
      let e = size_is in
      sym (cond-false (nat_le (size is.tree) 16384) (given_by_listing (listing m earlier x.active is.tree)) (faulty first TooLong)
      (lt-leb (size is.tree) 16384 (omega arith)))

  pub short_is : n ≤ 16384 → (o : Option (List Step)) → IsListing t.named.items t.proof.nodes t.proof.root o
      → given_by_listing o ≡ given_by_tree m earlier x first last (Some is.tree)
  short_is short o lists =
      let e = size_is in
      ap given_by_listing (sym (lists _ is.tree is.named is.stands))
      ∙ sym (cond-true (nat_le (size is.tree) 16384) (given_by_listing (listing m earlier x.active is.tree)) (faulty first TooLong)
      (le-leb (size is.tree) 16384 (omega arith)))
