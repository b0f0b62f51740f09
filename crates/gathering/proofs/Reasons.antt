-- Why the theorem of a tree is taken as an axiom, by the size of its root, by flags and by what its nodes name.
use Rattle.std.proofs.Common.{◌≡◌, ◌<◌, ◌≤◌, ℕ, Bool, true, false, List, [], take, get_or, cond}
use Rattle.std.proofs.Common.{sym, ap, subst, ◌∙◌, arith}
use Rattle.std.specs.Prelude.{Option, Some, None, slice_get, slice_index_or, min, nat_lt, is_some}
use Rattle.std.specs.Option.{option_map}
use Rattle.std.specs.List.{list_any}
use Rattle.std.proofs.lemmas.Bool.{cond-true, cond-false, lt-ltb, le-ltb}
use Rattle.std.proofs.lemmas.Option.{get_or_from_slice_get}
use Rattle.mmsyntax.specs.declared.statement.Step.{Step}
use Rattle.source.specs.Scopes.{Assertion, Scope, is_in}
use Rattle.source.specs.Proofs.{Tree, size, is_unfinished}
use Rattle.source.specs.Proofs as tree
use Rattle.source.specs.Views.{seen_words}
use Rattle.taking.specs.declared.reason.Reason.TheVariants.{Unfinished, TooLong, InFront, CitesUnchosen, LongExpression}
use Rattle.taking.specs.Names.{Map}
use Rattle.taking.specs.Nodes.{Shared, sizes, counted}
use Rattle.taking.specs.Reasons.{Choice, is_left_out, cites_left_out, reason_of_tree, reason_of_finished, reason_of, reason}
use Rattle.taking.specs.Walks.{IsListing}
use Rattle.taking.proofs.Values.{mapped}
use Rattle.taking.proofs.LongListings.{denoted_enough}
use Rattle.prooftrees.specs.declared.form.ProofTree.{ProofTree}
use Rattle.prooftrees.specs.declared.form.ProofForm.TheVariants as form
use Rattle.prooftrees.specs.Forms.{IsForm}
use Rattle.prooftrees.proofs.Trees.{counted_is}
use Rattle.gathering.specs.Outcomes.{HasStepsFor, AreSteps}
use Rattle.gathering.proofs.Listable.{listing_there}

-- ---- sizes

few : (o : Option ℕ) (n : ℕ) → option_map counted o ≡ Some n → n ≤ 16384 → (k : ℕ) × (o ≡ Some k) × (k ≤ 16384)
few o n e h =
    let there = mapped counted o n e in
    let is : min 16385 there.0 ≡ n = there.2 in
    (there.0, there.1, omega arith)

-- a small root is small enough to be listed
pub few_at : (ns : List Shared) (root n : ℕ) → option_map counted (slice_get (sizes ns) root) ≡ Some n → n ≤ 16384
    → get_or (sizes ns) root 0 ≤ 16384
few_at ns root n e h =
    let there = few (slice_get (sizes ns) root) n e h in
    subst (λ (k : ℕ). k ≤ 16384) (sym (get_or_from_slice_get (sizes ns) root there.0 0 there.1)) there.2

-- ---- reasons

module _ (m : Map) (choice : Choice) (s : Scope) (place : ℕ) (x : Assertion) (t : ProofTree)
    (f : IsForm m (take place s.assertions) x (form.Tree t)) where
  earlier : List Assertion
  earlier = take place s.assertions

  denoted : Tree
  denoted = f.3.tree

  by_tree : reason choice earlier x ≡ reason_of_tree choice earlier x.label denoted
  unfolding earlier denoted
  by_tree =
      ap (reason_of choice earlier x) f.1
      ∙ cond-false (is_unfinished f.0) (Some Unfinished) (reason_of_finished choice earlier x.label (tree.denoted earlier x)) f.2
      ∙ ap (reason_of_finished choice earlier x.label) f.3.denotes

  -- what the nodes name is what the tree cites
  cited : (b : Bool) → b ≡ list_any (λ n. is_left_out (take place s.assertions) choice.chosen (slice_index_or (seen_words t.labels.items)
      n.named [])) t.proof.nodes
      → cites_left_out (take place s.assertions) choice.chosen denoted ≡ b
  unfolding denoted
  cited b is = f.3.cites (is_left_out (take place s.assertions) choice.chosen) ∙ sym is

  module _ (n : ℕ) (counts : option_map counted (slice_get (sizes t.proof.nodes) t.proof.root) ≡ Some n) where
    root_is : n ≡ min 16385 (size denoted)
    unfolding denoted
    root_is = sym (counted_is (seen_words t.labels.items) t.proof.nodes t.proof.root n f.3.tree f.3.stands counts)

    pub reason_of_long : 16384 < n → reason choice (take place s.assertions) x ≡ Some TooLong
    unfolding earlier
    reason_of_long long =
        let is = root_is in
        by_tree ∙ cond-true (nat_lt 16384 (size denoted)) (Some TooLong) _ (lt-ltb 16384 (size denoted) (omega arith))

    module _ (small : n ≤ 16384) where
      not_long : reason choice earlier x ≡ (cond (is_in choice.front x.label) (Some InFront) (cond (cites_left_out earlier choice.chosen
          denoted) (Some CitesUnchosen) (cond (is_in choice.long x.label) (Some LongExpression) None)))
      not_long =
          let is = root_is in
          by_tree ∙ cond-false (nat_lt 16384 (size denoted)) (Some TooLong) _ (le-ltb 16384 (size denoted) (omega arith))

      pub reason_in_front : is_in choice.front x.label ≡ true → reason choice (take place s.assertions) x ≡ Some InFront
      unfolding earlier
      reason_in_front front = not_long ∙ cond-true (is_in choice.front x.label) (Some InFront) _ front

      module _ (chosen : is_in choice.front x.label ≡ false) (cites : Bool) (are : cites ≡ list_any (λ n. is_left_out (take place
          s.assertions) choice.chosen (slice_index_or (seen_words t.labels.items) n.named [])) t.proof.nodes) where
        pub reason_of_citing : cites ≡ true → reason choice (take place s.assertions) x ≡ Some CitesUnchosen
        unfolding earlier
        reason_of_citing is =
            not_long
            ∙ cond-false (is_in choice.front x.label) (Some InFront) _ chosen
            ∙ cond-true (cites_left_out earlier choice.chosen denoted) (Some CitesUnchosen) _ (cited cites are ∙ is)

        module _ (none : cites ≡ false) where
          not_citing : reason choice earlier x ≡ (cond (is_in choice.long x.label) (Some LongExpression) None)
          unfolding earlier
          not_citing =
              not_long
              ∙ cond-false (is_in choice.front x.label) (Some InFront) _ chosen
              ∙ cond-false (cites_left_out earlier choice.chosen denoted) (Some CitesUnchosen) _ (cited cites are ∙ none)

          pub reason_of_long_expression : is_in choice.long x.label ≡ true
              → reason choice (take place s.assertions) x ≡ Some LongExpression
          unfolding earlier
          reason_of_long_expression is = not_citing ∙ cond-true (is_in choice.long x.label) (Some LongExpression) None is

          without : is_in choice.long x.label ≡ false → reason choice (take place s.assertions) x ≡ None
          unfolding earlier
          without short = not_citing ∙ cond-false (is_in choice.long x.label) (Some LongExpression) None short

          pub listed_steps : is_in choice.long x.label ≡ false → (steps : List Step)
              → IsListing t.named.items t.proof.nodes t.proof.root (Some steps)
              → AreSteps m choice (take place s.assertions) x steps
          listed_steps short steps lists = record {
            proof = f.0;
            has_proof = f.1;
            no_reason = without short;
            tree = f.3.tree;
            denotes = f.3.denotes;
            lists = lists _ f.3.tree f.3.named f.3.stands;
          }

          -- there is a listing
          pub unlisted : HasStepsFor m choice s x → IsListing t.named.items t.proof.nodes t.proof.root None → ⊥
          unfolding denoted
          unlisted known lists =
              let there = listing_there m choice s x place known f.3.tree
              (denoted_enough (take place s.assertions) x f.0 f.3.tree f.1 f.2 f.3.denotes) (cited cites are ∙ none) in
              let is = lists _ f.3.tree f.3.named f.3.stands in
              let no : false ≡ true = ap is_some (sym is) ∙ there in
              absurd cc
