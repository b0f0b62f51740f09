-- The nodes of a proof name just the labels of the trees of the entries.
use Rattle.std.proofs.Common.{◌≡◌, ◌<◌, ℕ, zero, suc, Bool, true, false, List, [], ◌∷◌, ◌++◌, length, refl, sym, ap, ◌∙◌}
use Rattle.std.proofs.Common.{append-nil}
use Rattle.std.specs.Prelude.{◌||◌, Option, Some, None, slice_get, slice_index_or, filter_map}
use Rattle.std.specs.List.{AllByRecursion, list_any, flat_map, cons_option}
use Rattle.std.proofs.Math.Bool.{or-false}
use Rattle.std.proofs.lemmas.Bool.{or_left, or_right}
use Rattle.std.proofs.lemmas.List.Folds.{list_any-append}
use Rattle.std.proofs.lemmas.List.Elements.{filter_map-append}
use Rattle.std.proofs.lemmas.Grind.{flat_map-append}
use Rattle.mmtext.specs.Words.{Word}
use Rattle.source.specs.Proofs.{Tree, node, over}
use Rattle.taking.specs.Nodes.{Shared, trees, values, values_behind}
use Rattle.taking.specs.Reasons.{labels_cited, labels_cited_by_each}
use Rattle.taking.specs.Decoding.{trees_at}
use Rattle.taking.proofs.Stacked.{kept_trees, new_tree}

-- ---- tests

or_either : (a b c : Bool) → (a ≡ true → c ≡ true) → (b ≡ true → c ≡ true) → (a || b) ≡ true → c ≡ true
or_either true b c f g h = f refl
or_either false b c f g h = g h

or_kept : (a b c : Bool) → a ≡ c → (b ≡ true → c ≡ true) → (a || b) ≡ c
or_kept true b c e f = e
or_kept false true c e f = sym (f refl)
or_kept false false c e f = e

-- what is taken comes behind what takes it
or_turned : (f w a : Bool) → (f || ((w || a) || false)) ≡ ((f || a) || (w || false))
or_turned true w a = refl
or_turned false true true = refl
or_turned false true false = refl
or_turned false false true = refl
or_turned false false false = refl

-- ---- labels

each_label : (ts : List Tree) → labels_cited_by_each (over ts) ≡ flat_map labels_cited ts
each_label [] = refl
each_label (t ∷ ts) = ap (λ ws. labels_cited t ++ ws) (each_label ts)

module _ (labels : List Word) (test : Word → Bool) where
  -- a test passes for a label of these trees
  labelled : List Tree → Bool
  labelled ts = list_any test (flat_map labels_cited ts)

  -- or for what one of these nodes names
  names : List Shared → Bool
  names ns = list_any (λ n. test (slice_index_or labels n.named [])) ns

  labelled_both : (ts us : List Tree) → labelled (ts ++ us) ≡ (labelled ts || labelled us)
  unfolding labelled
  labelled_both ts us =
      ap (list_any test) (flat_map-append labels_cited ts us) ∙ list_any-append test (flat_map labels_cited ts) (flat_map labels_cited us)

  labelled_node : (w : Word) (ts : List Tree) → labelled (node w (over ts) ∷ []) ≡ ((test w || labelled ts) || false)
  unfolding labelled
  labelled_node w ts =
      ap (list_any test) (append-nil (labels_cited (node w (over ts))))
      ∙ ap (λ ws. test w || list_any test ws) (each_label ts)
      ∙ sym (or-false (test w || list_any test (flat_map labels_cited ts)))

  -- ---- each label is one that a node names

  labelled_at : (ts : List Tree) (k : ℕ) (t : Tree) → slice_get ts k ≡ Some t → list_any test (labels_cited t) ≡ true → labelled ts ≡ true
  unfolding labelled
  labelled_at [] k t at h = absurd cc
  labelled_at (u ∷ us) zero t at h =
      let e : u ≡ t = cc in
      list_any-append test (labels_cited u) (flat_map labels_cited us)
      ∙ or_left (list_any test (labels_cited u)) (list_any test (flat_map labels_cited us)) (ap (λ x. list_any test (labels_cited x)) e ∙ h)
  labelled_at (u ∷ us) (suc k) t at h =
      list_any-append test (labels_cited u) (flat_map labels_cited us)
      ∙ or_right (list_any test (labels_cited u)) (list_any test (flat_map labels_cited us)) (labelled_at us k t at h)

  one_got : (ts : List Tree) (k : ℕ) (o : Option Tree) (us : List Tree) → slice_get ts k ≡ o → (labelled us ≡ true → labelled ts ≡ true)
      → labelled (cons_option o us) ≡ true → labelled ts ≡ true
  unfolding labelled
  one_got ts k None us at rest h = rest h
  one_got ts k (Some t) us at rest h =
      or_either (list_any test (labels_cited t)) (labelled us) (labelled ts) (labelled_at ts k t at) rest
      (sym (list_any-append test (labels_cited t) (flat_map labels_cited us)) ∙ h)

  labelled_got : (ts : List Tree) (ks : List ℕ) → labelled (filter_map (slice_get ts) ks) ≡ true → labelled ts ≡ true
  unfolding labelled
  labelled_got ts [] h = absurd cc
  labelled_got ts (k ∷ ks) h = one_got ts k (slice_get ts k) (filter_map (slice_get ts) ks) refl (labelled_got ts ks) h

  make : ℕ → List Tree → Tree
  make n ts = node (slice_index_or labels n []) (over ts)

  labelled_behind : (front : List Tree) (ns : List Shared) (b : Bool) → (labelled front ≡ true → b ≡ true) → (names ns ≡ true → b ≡ true)
      → labelled (values_behind make front ns) ≡ true → b ≡ true
  unfolding names make
  labelled_behind front [] b f g h = f h
  labelled_behind front (n ∷ ns) b f g h =
      let w = slice_index_or labels n.named [] in
      let args = filter_map (slice_get front) n.arguments in
      let taken : labelled args ≡ true → b ≡ true = λ a. f (labelled_got front n.arguments a) in
      let own : test w ≡ true → b ≡ true = λ a. g (or_left (test w) (names ns) a) in
      let more : labelled (front ++ make n.named args ∷ []) ≡ true → b ≡ true =
      λ a.
      or_either (labelled front) ((test w || labelled args) || false) b f
      (λ z. or_either (test w) (labelled args) b own taken (sym (or-false (test w || labelled args)) ∙ z))
      (sym (ap (λ z. labelled front || z) (labelled_node w args)) ∙ sym (labelled_both front (make n.named args ∷ [])) ∙ a) in
      labelled_behind (front ++ make n.named args ∷ []) ns b more (λ a. g (or_right (test w) (names ns) a)) h

  labelled_named : (ns : List Shared) (ks : List ℕ) → labelled (trees_at labels ns ks) ≡ true → names ns ≡ true
  unfolding make labelled values
  labelled_named ns ks h =
      labelled_behind [] ns (names ns) (λ a. absurd cc) (λ a. a) (labelled_got (trees labels ns) ks h)

  -- ---- steps

  -- an entry that is a node already
  pub again : (ns : List Shared) (es : List ℕ) (k : ℕ)
      → list_any test (flat_map labels_cited (trees_at labels ns es)) ≡ list_any (λ n. test (slice_index_or labels n.named [])) ns
      → list_any test (flat_map labels_cited (trees_at labels ns (es ++ k ∷ [])))
      ≡ list_any (λ n. test (slice_index_or labels n.named [])) ns
  unfolding labelled names
  again ns es k h =
      ap labelled (filter_map-append (slice_get (trees labels ns)) es (k ∷ []))
      ∙ labelled_both (trees_at labels ns es) (trees_at labels ns (k ∷ []))
      ∙ or_kept (labelled (trees_at labels ns es)) (labelled (trees_at labels ns (k ∷ []))) (names ns) h (labelled_named ns (k ∷ []))

  -- a node over entries
  pub over_entries : (ns : List Shared) (front args : List ℕ) (place : ℕ) → AllByRecursion (λ k. k < length ns) front
      → list_any test (flat_map labels_cited (trees_at labels ns (front ++ args)))
      ≡ list_any (λ n. test (slice_index_or labels n.named [])) ns
      → list_any test (flat_map labels_cited (trees_at labels (ns ++ record { named = place; arguments = args } ∷ []) (front ++ length ns
      ∷ [])))
      ≡ list_any (λ n. test (slice_index_or labels n.named [])) (ns ++ record { named = place; arguments = args } ∷ [])
  unfolding labelled names
  over_entries ns front args place below h =
      let own : Shared = record { named = place; arguments = args } in
      let w = slice_index_or labels place [] in
      let F = trees_at labels ns front in
      let A = trees_at labels ns args in
      let more = ns ++ own ∷ [] in
      ap labelled (filter_map-append (slice_get (trees labels more)) front (length ns ∷ []))
      ∙ labelled_both (trees_at labels more front) (trees_at labels more (length ns ∷ []))
      ∙ ap (λ ts. labelled ts || labelled (trees_at labels more (length ns ∷ []))) (kept_trees labels ns own front below)
      ∙ ap (λ o. labelled F || labelled (cons_option o [])) (new_tree labels ns own)
      ∙ ap (λ b. labelled F || b) (labelled_node w A)
      ∙ or_turned (labelled F) (test w) (labelled A)
      ∙ ap (λ b. b || (test w || false)) (sym (labelled_both F A)
      ∙ sym (ap labelled (filter_map-append (slice_get (trees labels ns)) front args))
      ∙ h)
      ∙ sym (list_any-append (λ n. test (slice_index_or labels n.named [])) ns (own ∷ []))

  -- one entry alone
  pub alone : (ns : List Shared) (es : List ℕ) (root : ℕ) (t : Tree) → es ≡ root ∷ [] → slice_get (trees labels ns) root ≡ Some t
      → list_any test (flat_map labels_cited (trees_at labels ns es)) ≡ list_any (λ n. test (slice_index_or labels n.named [])) ns
      → list_any test (labels_cited t) ≡ list_any (λ n. test (slice_index_or labels n.named [])) ns
  alone ns es root t one at h =
      sym (ap (λ ks. list_any test (flat_map labels_cited (trees_at labels ns ks))) one
      ∙ ap (λ o. list_any test (flat_map labels_cited (cons_option o []))) at
      ∙ ap (list_any test) (append-nil (labels_cited t)))
      ∙ h
