-- What is named: a node takes as much as that asks for, and the listing of its tree is that by what is named alone.
use Rattle.std.proofs.Common.{◌≡◌, ◌<◌, ℕ, Bool, List, [], ◌∷◌, ◌++◌, length, map, get_or, true, false, refl, sym, ap, subst, ◌∙◌}
use Rattle.std.specs.Prelude.{Option, Some, None, slice_get, slice_index_or, MatchOption, All}
use Rattle.std.specs.Option.{option_map}
use Rattle.std.specs.List.{AllByRecursion, flat_map}
use Rattle.std.proofs.lemmas.Option.{slice_get-map, slice_get_within, get_or_from_slice_get}
use Rattle.std.proofs.lemmas.List.Elements.{recursion_from_All}
use Rattle.mmtext.specs.Words.{Word}
use Rattle.mmsyntax.specs.declared.statement.Step.{Step}
use Rattle.source.specs.Scopes.{Hypothesis, typing, premise}
use Rattle.source.specs.Proofs.{Tree, node, over, taken_by}
use Rattle.taking.specs.declared.named.Named.{Named}
use Rattle.taking.specs.Says.{both}
use Rattle.taking.specs.Listings.{at_floats, at_premises, in_profile_order, joined, listing, listings, step_in}
use Rattle.taking.specs.Settings.{Setting, AreNamed, is_float}
use Rattle.taking.specs.Nodes.{Shared, AreBelow, trees}
use Rattle.taking.specs.Walks.{TakesAll, picked, arranged, IsListing}
use Rattle.taking.proofs.Values.{mapped, natural, all_more}
use Rattle.taking.proofs.Gathered.{gathered}
use Rattle.taking.proofs.Listed.{all_at, joined_by, listed_by, listed, listed_at, Goes, weight, turn, stop, lighter}

-- ---- nodes

same_node : (o : Option Shared) (a : ℕ) (ks : List ℕ) → option_map (λ n. n.named) o ≡ Some a → option_map (λ n. n.arguments) o ≡ Some ks
    → o ≡ Some (record { named = a; arguments = ks })
same_node None a ks h g = absurd cc
same_node (Some n) a ks h g =
    let e : n.named ≡ a = cc in
    let f : n.arguments ≡ ks = cc in
    ap (λ z. Some (record { named = z; arguments = n.arguments })) e ∙ ap (λ zs. Some (record { named = a; arguments = zs })) f

-- a node by its parts
pub node_at : (ns : List Shared) (k a : ℕ) (ks : List ℕ) → option_map (λ n. n.named) (slice_get ns k) ≡ Some a
    → option_map (λ n. n.arguments) (slice_get ns k) ≡ Some ks → slice_get ns k ≡ Some (record { named = a; arguments = ks })
node_at ns k a ks h g = same_node (slice_get ns k) a ks h g

there : (named : List Named) (a : ℕ) (n : ℕ) (o : Option Named) → slice_get named a ≡ o → MatchOption o ⊥ (λ y. n ≡ length y.floats)
    → (y : Named) × (slice_get named a ≡ Some y) × (n ≡ length y.floats)
there named a n None is h = absurd h
there named a n (Some y) is h = (y, is, h)

-- what a node names
pub names_at : (named : List Named) (ns : List Shared) (k : ℕ) (n : Shared) → All (TakesAll named) ns → slice_get ns k ≡ Some n
    → (y : Named) × (slice_get named n.named ≡ Some y) × (length n.arguments ≡ length y.floats)
names_at named ns k n a is =
    there named n.named (length n.arguments) (slice_get named n.named) refl
    (all_at (TakesAll named) ns k n (recursion_from_All (TakesAll named) ns a) is)

-- what a node names is there
pub named_within : (named : List Named) (ns : List Shared) (k a : ℕ) (ks : List ℕ) → All (TakesAll named) ns
    → option_map (λ n. n.named) (slice_get ns k) ≡ Some a → option_map (λ n. n.arguments) (slice_get ns k) ≡ Some ks → a < length named
named_within named ns k a ks whole names takes =
    let y = names_at named ns k (record { named = a; arguments = ks }) whole (node_at ns k a ks names takes) in
    slice_get_within named a y.0 y.1

-- ---- the profile's order

picked_floats : {A : Type 0} (hs : List Hypothesis) (xs : List A) → at_floats hs xs ≡ picked true (map is_float hs) xs
picked_floats [] xs = refl
picked_floats (typing l c v ∷ hs) [] = refl
picked_floats (premise l ws ∷ hs) [] = refl
picked_floats (typing l c v ∷ hs) (x ∷ xs) = ap (λ ys. x ∷ ys) (picked_floats hs xs)
picked_floats (premise l ws ∷ hs) (x ∷ xs) = picked_floats hs xs

picked_premises : {A : Type 0} (hs : List Hypothesis) (xs : List A) → at_premises hs xs ≡ picked false (map is_float hs) xs
picked_premises [] xs = refl
picked_premises (typing l c v ∷ hs) [] = refl
picked_premises (premise l ws ∷ hs) [] = refl
picked_premises (typing l c v ∷ hs) (x ∷ xs) = picked_premises hs xs
picked_premises (premise l ws ∷ hs) (x ∷ xs) = ap (λ ys. x ∷ ys) (picked_premises hs xs)

ordered : {A : Type 0} (hs : List Hypothesis) (xs : List A) → in_profile_order hs xs ≡ arranged (map is_float hs) xs
ordered hs xs =
    ap (λ ys. ys ++ at_premises hs xs) (picked_floats hs xs) ∙ ap (λ ys. picked true (map is_float hs) xs ++ ys) (picked_premises hs xs)

joined_as : (hs : List Hypothesis) (parts : Option (List (List Step))) (own : Option Step)
    → joined (Some hs) parts own ≡ joined_by (map is_float hs) parts own
joined_as hs None own = refl
joined_as hs (Some parts) None = refl
joined_as hs (Some parts) (Some own) = ap (λ ys. Some (flat_map (λ x. x) ys ++ own ∷ [])) (ordered hs parts)

-- ---- listings

module _ (s : Setting) (named : List Named) (are : AreNamed s named) where
  lists : Tree → Option (List Step)
  lists t = listing s.places s.earlier s.active t

  each_listed : (ts : List Tree) → listings s.places s.earlier s.active (over ts) ≡ gathered (map lists ts)
  unfolding lists
  each_listed [] = refl
  each_listed (t ∷ ts) = ap (both (lists t)) (each_listed ts)

  taken : (o : Option (List Hypothesis)) (fs : List Bool) → option_map (map is_float) o ≡ Some fs
      → (hs : List Hypothesis) × (o ≡ Some hs) × (map is_float hs ≡ fs)
  taken o fs h = mapped (map is_float) o fs h

  -- the label with a number takes and is what is named
  pub label_at : (a : ℕ) (y : Named) → slice_get named a ≡ Some y
      → (hs : List Hypothesis) × (taken_by s.earlier s.active (slice_index_or s.labels a []) ≡ Some hs) × (map is_float hs ≡ y.floats)
      × (step_in s.places s.active (slice_index_or s.labels a []) ≡ y.step)
  label_at a y is =
      let F : Word → Option (List Bool) = λ w. option_map (map is_float) (taken_by s.earlier s.active w) in
      let f : option_map F (slice_get s.labels a) ≡ Some (Some y.floats) =
      sym (slice_get-map F s.labels a)
      ∙ ap (λ xs. slice_get xs a) are.floats
      ∙ slice_get-map (λ n. Some n.floats) named a
      ∙ ap (option_map (λ n. Some n.floats)) is in
      let w = mapped F (slice_get s.labels a) (Some y.floats) f in
      let e : slice_index_or s.labels a [] ≡ w.0 = get_or_from_slice_get s.labels a w.0 [] w.1 in
      let t = taken (taken_by s.earlier s.active w.0) y.floats w.2 in
      let g : option_map (step_in s.places s.active) (slice_get s.labels a) ≡ Some y.step =
      sym (slice_get-map (step_in s.places s.active) s.labels a)
      ∙ ap (λ xs. slice_get xs a) are.steps
      ∙ slice_get-map (λ n. n.step) named a
      ∙ ap (option_map (λ n. n.step)) is in
      let own : Some (step_in s.places s.active w.0) ≡ Some y.step = ap (option_map (step_in s.places s.active)) (sym w.1) ∙ g in
      (t.0, ap (taken_by s.earlier s.active) e ∙ t.1, t.2, ap (step_in s.places s.active) e ∙ cc)

  one : (a : ℕ) (y : Named) → slice_get named a ≡ Some y → (ts : List Tree)
      → lists (node (slice_index_or s.labels a []) (over ts)) ≡ listed_by (slice_get named a) (map lists ts)
  unfolding lists
  one a y is ts =
      let w = slice_index_or s.labels a [] in
      let l = label_at a y is in
      let parts = listings s.places s.earlier s.active (over ts) in
      ap (λ o. joined o parts (step_in s.places s.active w)) l.1
      ∙ joined_as l.0 parts (step_in s.places s.active w)
      ∙ ap (λ fs. joined_by fs parts (step_in s.places s.active w)) l.2
      ∙ ap (λ o. joined_by y.floats o (step_in s.places s.active w)) (each_listed ts)
      ∙ ap (joined_by y.floats (gathered (map lists ts))) l.3
      ∙ ap (λ o. listed_by o (map lists ts)) (sym is)

  all_listed : (ns : List Shared) → All (TakesAll named) ns → map lists (trees s.labels ns) ≡ listed named ns
  all_listed ns a =
      natural lists (λ n ts. node (slice_index_or s.labels n []) (over ts)) (λ n parts. listed_by (slice_get named n) parts) ns
      (all_more (λ n h. let y = there named n.named (length n.arguments) (slice_get named n.named) refl h in λ ts. one n.named y.0 y.1 ts)
      ns (recursion_from_All (TakesAll named) ns a))

  listed_tree : (ns : List Shared) (root : ℕ) (t : Tree) → All (TakesAll named) ns → slice_get (trees s.labels ns) root ≡ Some t
      → lists t ≡ listed_at named ns root
  listed_tree ns root t a is =
      sym (get_or_from_slice_get (listed named ns) root (lists t) None
      (ap (λ xs. slice_get xs root) (sym (all_listed ns a))
      ∙ slice_get-map lists (trees s.labels ns) root
      ∙ ap (option_map lists) is))

-- the steps of a node by what is named are those of its tree
pub is_listing : (named : List Named) (ns : List Shared) (root : ℕ) (steps : Option (List Step)) → All (TakesAll named) ns
    → listed_at named ns root ≡ steps → IsListing named ns root steps
unfolding lists
is_listing named ns root steps a is = λ s t are at. listed_tree s named are ns root t a at ∙ is

-- ---- turns of a walk

last_holds : {A : Type 0} (P : A → Type 0) (xs : List A) (x : A) → AllByRecursion P (xs ++ x ∷ []) → P x
last_holds P [] x a = a.0
last_holds P (y ∷ ys) x a = last_holds P ys x a.1

-- what comes off is a node
pub popped_within : (named : List Named) (ns : List Shared) (root : ℕ) (pending front : List ℕ) (k : ℕ) (steps : List Step)
    → Goes named ns root pending steps → pending ≡ front ++ k ∷ [] → k < length ns
popped_within named ns root pending front k steps g e =
    last_holds (λ i. i < length ns) front k (subst (λ (ps : List ℕ). AllByRecursion (λ i. i < length ns) ps) e g.within)

module _ (named : List Named) (ns : List Shared) (root : ℕ) (pending front : List ℕ) (k : ℕ) (steps : List Step) (a : ℕ) (ks : List ℕ)
    (x : Named) (whole : All (TakesAll named) ns) (goes : Goes named ns root pending steps) (popped : pending ≡ front ++ k ∷ [])
    (names : option_map (λ n. n.named) (slice_get ns k) ≡ Some a) (takes : option_map (λ n. n.arguments) (slice_get ns k) ≡ Some ks)
    (below : AreBelow k ks) (is : x ≡ get_or named a x) where
  n : Shared
  n = record { named = a; arguments = ks }

  known : (slice_get named a ≡ Some x) × (length ks ≡ length x.floats)
  unfolding n
  known =
      let y = names_at named ns k n whole (node_at ns k a ks names takes) in
      let same : y.0 ≡ x = sym (is ∙ get_or_from_slice_get named a y.0 x y.1) in
      (y.1 ∙ ap Some same, y.2 ∙ ap (λ (z : Named). length z.floats) same)

  at_node : Goes named ns root (front ++ k ∷ []) steps
  at_node = subst (λ (ps : List ℕ). Goes named ns root ps steps) popped goes

  pub turn_on : (own : Step) → x.step ≡ Some own → Goes named ns root (front ++ arranged x.floats ks) (steps ++ own ∷ [])
  unfolding n
  turn_on own step =
      turn named ns root front k steps n x at_node (node_at ns k a ks names takes) known.0 (recursion_from_All (λ i. i < k) ks below)
      known.1
      own step

  pub stop_on : x.step ≡ None → IsListing named ns root None
  unfolding n
  stop_on step =
      is_listing named ns root None whole
      (stop named ns root front k steps n x at_node (node_at ns k a ks names takes) known.0 (recursion_from_All (λ i. i < k) ks below)
      known.1
      step)

  pub lighter_on : weight ns (front ++ arranged x.floats ks) < weight ns pending
  unfolding n
  lighter_on =
      subst (λ (ps : List ℕ). weight ns (front ++ arranged x.floats ks) < weight ns ps) (sym popped)
      (lighter named ns root front k steps n x at_node (node_at ns k a ks names takes) known.0 (recursion_from_All (λ i. i < k) ks below)
      known.1)
