-- A proof that is decoded is the tree that the steps denote.
use Rattle.std.proofs.Common.{◌≡◌, ℕ, suc, ◌<◌, List, length, map, false, Option, Some, None, sym, ap, ◌∙◌, subst, arith, inl, inr}
use Rattle.std.specs.Prelude.{All, MatchOption, slice_get, slice_index_or, []}
use Rattle.std.specs.Option.{option_and_then, option_map}
use Rattle.std.specs.List.{list_any}
use Rattle.std.proofs.lemmas.Bool.{cond-false}
use Rattle.std.proofs.lemmas.List.Elements.{All-weaker, recursion_from_All}
use Rattle.std.proofs.lemmas.Option.{same_Some, slice_get-map, slice_get_cases}
use Rattle.mmtext.specs.Words.{Word}
use Rattle.source.specs.declared.letters.Code.{Code}
use Rattle.source.specs.Statements.{Proof}
use Rattle.source.specs.Scopes.{Hypothesis, Assertion}
use Rattle.source.specs.Letters.{is_absent}
use Rattle.source.specs.Proofs.{Tree, node, over, size, total, step_of, steps_of, denoted, denoted_by, is_unfinished}
use Rattle.source.specs.Proofs as tree
use Rattle.source.specs.Views.{seen_words}
use Rattle.source.proofs.Sizes.{each_size}
use Rattle.taking.specs.declared.named.Named.{Named}
use Rattle.taking.specs.Names.{Map}
use Rattle.taking.specs.Nodes.{Shared, trees, sizes, counted}
use Rattle.taking.specs.Walks.{TakesAll}
use Rattle.taking.specs.Decoded.{AreDecoded, AreLabelsOf, tree_of}
use Rattle.taking.proofs.Numbering.{codes_there}
use Rattle.taking.proofs.Values.{as_many, natural}
use Rattle.prooftrees.specs.declared.form.ProofTree.{ProofTree}
use Rattle.taking.specs.declared.counting.Counted.{Counted}
use Rattle.taking.specs.Counted.{IsCounted}
use Rattle.prooftrees.specs.Forms.{IsTree}
use Rattle.prooftrees.proofs.Named.{NamesOf}

-- ---- nodes

-- each names a label, where what is named stands for the labels
pub nodes_are_labelled : (t : ProofTree) → All (TakesAll t.named.items) t.proof.nodes → length t.labels.items ≡ length t.named.items
    → All (λ n. n.named < length t.labels.items) t.proof.nodes
nodes_are_labelled t all same =
    All-weaker (TakesAll t.named.items) (λ n. n.named < length t.labels.items)
    (λ n h. subst (λ (k : ℕ). n.named < k) (sym same)
    (elim (slice_get_cases t.named.items n.named).1 [
      | inl y ↦ y.1
      | inr past ↦ absurd (subst (λ (o : Option Named). MatchOption o ⊥ (λ y. length n.arguments ≡ length y.floats)) past.1 h)
    ])) t.proof.nodes all

-- their sizes are those of their trees
sizes_of_trees : (labels : List Word) (ns : List Shared) → map size (trees labels ns) ≡ sizes ns
sizes_of_trees labels ns =
    natural size (λ n ts. node (slice_index_or labels n []) (over ts)) (λ n ks. suc (total ks)) ns
    (recursion_from_All (λ (n : Shared). (ts : List Tree) → suc (tree.sizes (over ts)) ≡ suc (total (map size ts))) ns
    (λ k d h ts. ap suc (each_size ts)))

-- the number that is told of one
pub counted_is : (labels : List Word) (ns : List Shared) (root k : ℕ) (tree : Tree) → slice_get (trees labels ns) root ≡ Some tree
    → option_map counted (slice_get (sizes ns) root) ≡ Some k → counted (size tree) ≡ k
counted_is labels ns root k tree stands told =
    let e : slice_get (sizes ns) root ≡ Some (size tree) =
    ap (λ ks. slice_get ks root) (sym (sizes_of_trees labels ns))
    ∙ slice_get-map size (trees labels ns) root
    ∙ ap (option_map size) stands in
    same_Some (counted (size tree)) k (ap (option_map counted) (sym e) ∙ told)

-- ---- trees

pub tree_is : (m : Map) (earlier : List Assertion) (x : Assertion) (codes : List Code) (t : ProofTree)
    → t.proof.root < length t.proof.nodes
    → denoted_by earlier x.active (map (step_of (seen_words t.labels.items)) codes) ≡ denoted earlier x
    → NamesOf m earlier x.active (seen_words t.labels.items) t.named.items
    → All (TakesAll t.named.items) t.proof.nodes
    → list_any is_absent codes ≡ false
    → AreDecoded t.named.items codes (Some t.proof)
    → ((labels : List Word) (u : Tree) → tree_of labels t.proof ≡ Some u → AreLabelsOf labels t.proof.nodes u)
    → IsTree m earlier x t
tree_is m earlier x codes t within steps named whole known decoded cites =
    let ws = seen_words t.labels.items in
    let many = as_many (λ n ts. node (slice_index_or ws n []) (over ts)) t.proof.nodes in
    let there : (u : Tree) × (slice_get (trees ws t.proof.nodes) t.proof.root ≡ Some u) =
    elim (slice_get_cases (trees ws t.proof.nodes) t.proof.root).1 [ inl y ↦ (y.0, y.2) | inr past ↦ absurd (omega arith) ] in
    record {
      tree = there.0;
      denotes = sym steps
          ∙ sym (cond-false (list_any is_absent codes) None (denoted_by earlier x.active (map (step_of ws) codes)) known)
          ∙ decoded (record { places = m; earlier = earlier; active = x.active; labels = ws }) named
          ∙ there.1;
      stands = there.1;
      named = named;
      whole = whole;
      cites = cites ws there.0 there.1;
    }

-- what the codes denote is what the proof denotes
pub counted_denoted : (earlier : List Assertion) (x : Assertion) (proof : Proof) (c : Counted) → x.proof ≡ Some proof
    → IsCounted x.hypotheses proof c
    → denoted_by earlier x.active (map (step_of (seen_words c.labels.items)) c.codes) ≡ denoted earlier x
counted_denoted earlier x proof c is counted =
    sym (ap (option_and_then (λ p. option_and_then (denoted_by earlier x.active) (steps_of x.hypotheses p))) is
    ∙ ap (option_and_then (denoted_by earlier x.active)) counted.steps_are)

-- of a finished proof all are there
pub counted_there : (hs : List Hypothesis) (proof : Proof) (c : Counted) → IsCounted hs proof c → is_unfinished proof ≡ false
    → list_any is_absent c.codes ≡ false
counted_there hs proof c counted finished =
    codes_there hs proof (seen_words c.labels.items) c.codes finished counted.steps_are

-- where they denote none
pub tree_is_none : (m : Map) (earlier : List Assertion) (x : Assertion) (ws : List Word) (named : List Named) (codes : List Code)
    → denoted_by earlier x.active (map (step_of ws) codes) ≡ denoted earlier x
    → NamesOf m earlier x.active ws named → list_any is_absent codes ≡ false → AreDecoded named codes None
    → denoted earlier x ≡ None
tree_is_none m earlier x ws named codes steps names known decoded =
    sym steps ∙ sym (cond-false (list_any is_absent codes) None (denoted_by earlier x.active (map (step_of ws) codes)) known)
    ∙ decoded (record { places = m; earlier = earlier; active = x.active; labels = ws }) names

-- where its letters may not stand so
pub uncounted_is_none : (earlier : List Assertion) (x : Assertion) (proof : Proof) → x.proof ≡ Some proof
    → steps_of x.hypotheses proof ≡ None → denoted earlier x ≡ None
uncounted_is_none earlier x proof is none =
    ap (option_and_then (λ p. option_and_then (denoted_by earlier x.active) (steps_of x.hypotheses p))) is
    ∙ ap (option_and_then (denoted_by earlier x.active)) none
