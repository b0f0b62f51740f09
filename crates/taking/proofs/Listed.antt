-- Walks over nodes: what is pending, before the steps so far in turned order, lists the root.
use Rattle.std.proofs.Common.{◌≡◌, ◌<◌, ℕ, zero, suc, ◌+◌, Bool, List, [], ◌∷◌, ◌++◌, length, map, reverse, get_or, refl, sym, ap}
use Rattle.std.proofs.Common.{◌∙◌, arith, append_assoc, append-nil, subst, true, false}
use Rattle.std.specs.Prelude.{Option, Some, None, slice_get, filter_map}
use Rattle.std.specs.Option.{option_map}
use Rattle.std.specs.List.{AllByRecursion, flat_map}
use Rattle.std.proofs.lemmas.List.{map-append, reverse-append, length-map}
use Rattle.std.proofs.lemmas.Grind.{flat_map-append}
use Rattle.std.proofs.lemmas.Option.{get_or_from_slice_get, slice_get_within}
use Rattle.mmsyntax.specs.declared.statement.Step.{Step}
use Rattle.mmsyntax.proofs.Distinct.{all_append, all_left}
use Rattle.source.specs.Proofs.{total}
use Rattle.taking.specs.declared.named.Named.{Named}
use Rattle.taking.specs.Nodes.{Shared, values, sizes}
use Rattle.taking.specs.Walks.{picked, arranged}
use Rattle.taking.proofs.Values.{unrolled, as_many, all_more}
use Rattle.taking.proofs.Picked.{picked_hold, arranged_map, arranged_weigh, total_append}
use Rattle.taking.proofs.Gathered.{gathered, with_rest, gathered_append, gathered_arranged, got_all}

-- ---- lists

pub all_at : {A : Type 0} (P : A → Type 0) (xs : List A) (k : ℕ) (x : A) → AllByRecursion P xs → slice_get xs k ≡ Some x → P x
all_at P [] k x a h = absurd cc
all_at P (y ∷ ys) zero x a h = let e : y ≡ x = cc in subst P e a.0
all_at P (y ∷ ys) (suc k) x a h = all_at P ys k x a.1 h

-- ---- values at places

module _ {A : Type 0} (make : ℕ → List A → A) (d : A) (ns : List Shared) where
  -- a value comes from those at the places of arguments
  pub value_at : (k : ℕ) (n : Shared) → slice_get ns k ≡ Some n → AllByRecursion (λ i. i < k) n.arguments
      → get_or (values make ns) k d ≡ make n.named (map (λ i. get_or (values make ns) i d) n.arguments)
  value_at k n is below =
      let vs = values make ns in
      let many = as_many make ns in
      let inside = slice_get_within ns k n is in
      get_or_from_slice_get vs k (make n.named (filter_map (slice_get vs) n.arguments)) d (unrolled make ns k n is below)
      ∙ ap (make n.named) (got_all vs d n.arguments (all_more (λ i h. omega arith) n.arguments below))

-- ---- listings

abbrev pub joined_by : List Bool → Option (List (List Step)) → Option Step → Option (List Step)
joined_by fs None own = None
joined_by fs (Some parts) None = None
joined_by fs (Some parts) (Some own) = Some (flat_map (λ x. x) (arranged fs parts) ++ own ∷ [])

abbrev pub listed_by : Option Named → List (Option (List Step)) → Option (List Step)
listed_by None parts = None
listed_by (Some x) parts = joined_by x.floats (gathered parts) x.step

-- the steps of each node
abbrev pub listed : List Named → List Shared → List (Option (List Step))
listed named ns = values (λ n parts. listed_by (slice_get named n) parts) ns

abbrev pub listed_at : List Named → List Shared → ℕ → Option (List Step)
listed_at named ns k = get_or (listed named ns) k None

-- how many steps nodes have
abbrev pub weight : List Shared → List ℕ → ℕ
weight ns ks = total (map (λ k. get_or (sizes ns) k 0) ks)

-- parts, before steps
abbrev pub before : Option (List (List Step)) → List Step → Option (List Step)
before None rest = None
before (Some parts) rest = Some (flat_map (λ x. x) parts ++ rest)

pub record Goes (named : List Named) (ns : List Shared) (root : ℕ) (pending : List ℕ) (steps : List Step) : Type 0 where
  pub within : AllByRecursion (λ k. k < length ns) pending
  pub goes : before (gathered (map (listed_at named ns) pending)) (reverse steps) ≡ listed_at named ns root

-- ---- turns

started : (o : Option (List Step)) → before (gathered (o ∷ [])) [] ≡ o
started None = refl
started (Some xs) = ap Some (append-nil (xs ++ []) ∙ append-nil xs)

pub start : (named : List Named) (ns : List Shared) (root : ℕ) → root < length ns → Goes named ns root (root ∷ []) []
start named ns root h = record { within = (h, tt); goes = started (listed_at named ns root) }

-- a node comes off whose step is there
turned : (F G : Option (List (List Step))) (fs : List Bool) (own : Step) (rest : List Step)
    → before (with_rest F (gathered (joined_by fs G (Some own) ∷ []))) rest ≡ before (with_rest F (option_map (arranged fs) G)) (own ∷ rest)
turned None G fs own rest = refl
turned (Some ps) None fs own rest = refl
turned (Some ps) (Some gs) fs own rest =
    ap Some (simp (flat_map-append {X = List Step} {A = Step}, append_assoc {A = Step}, append-nil {A = Step}))

-- a node comes off whose step is not there
stopped : (F G : Option (List (List Step))) (fs : List Bool) (rest : List Step)
    → before (with_rest F (gathered (joined_by fs G None ∷ []))) rest ≡ None
stopped None G fs rest = refl
stopped (Some ps) None fs rest = refl
stopped (Some ps) (Some gs) fs rest = refl

module _ (named : List Named) (ns : List Shared) (root : ℕ) (front : List ℕ) (k : ℕ) (steps : List Step) (n : Shared) (x : Named)
    (g : Goes named ns root (front ++ k ∷ []) steps) (is : slice_get ns k ≡ Some n) (names : slice_get named n.named ≡ Some x)
    (below : AllByRecursion (λ i. i < k) n.arguments) (whole : length n.arguments ≡ length x.floats) where
  parts : Option (List (List Step))
  parts = gathered (map (listed_at named ns) n.arguments)

  ahead : Option (List (List Step))
  ahead = gathered (map (listed_at named ns) front)

  here : listed_at named ns k ≡ joined_by x.floats parts x.step
  unfolding parts
  here =
      value_at (λ n parts. listed_by (slice_get named n) parts) None ns k n is below
      ∙ ap (λ o. listed_by o (map (listed_at named ns) n.arguments)) names

  all : gathered (map (listed_at named ns) (front ++ k ∷ [])) ≡ with_rest ahead (gathered (joined_by x.floats parts x.step ∷ []))
  unfolding ahead
  all =
      ap gathered (map-append (listed_at named ns) front (k ∷ []))
      ∙ gathered_append (map (listed_at named ns) front) (listed_at named ns k ∷ [])
      ∙ ap (λ o. with_rest ahead (gathered (o ∷ []))) here

  later : gathered (map (listed_at named ns) (front ++ arranged x.floats n.arguments)) ≡ with_rest ahead (option_map (arranged
      x.floats) parts)
  unfolding ahead parts
  later =
      let args = map (listed_at named ns) n.arguments in
      let long : length x.floats ≡ length args = simp length-map (sym whole) in
      ap gathered (map-append (listed_at named ns) front (arranged x.floats n.arguments))
      ∙ gathered_append (map (listed_at named ns) front) (map (listed_at named ns) (arranged x.floats n.arguments))
      ∙ ap (λ os. with_rest ahead (gathered os)) (sym (arranged_map (listed_at named ns) x.floats n.arguments))
      ∙ ap (with_rest ahead) (gathered_arranged x.floats args long)

  -- its step goes to the front, and its arguments are pending
  pub turn : (own : Step) → x.step ≡ Some own → Goes named ns root (front ++ arranged x.floats n.arguments) (steps ++ own ∷ [])
  turn own step =
      let inside = slice_get_within ns k n is in
      let args : AllByRecursion (λ i. i < length ns) n.arguments = all_more (λ i h. omega arith) n.arguments below in
      record {
        within = all_append (λ i. i < length ns) front (arranged x.floats n.arguments) (all_left (λ i. i < length ns) front (k ∷ [])
            g.within)
            (all_append (λ i. i < length ns) (picked true x.floats n.arguments) (picked false x.floats n.arguments)
            (picked_hold (λ i. i < length ns) true x.floats n.arguments args)
            (picked_hold (λ i. i < length ns) false x.floats n.arguments args));
        goes =
            ap (before (gathered (map (listed_at named ns) (front ++ arranged x.floats n.arguments)))) (reverse-append steps (own ∷ []))
            ∙ ap (λ o. before o (own ∷ reverse steps)) later
            ∙ sym (turned ahead parts x.floats own (reverse steps))
            ∙ ap (λ s. before (with_rest ahead (gathered (joined_by x.floats parts s ∷ []))) (reverse steps)) (sym step)
            ∙ ap (λ o. before o (reverse steps)) (sym all)
            ∙ g.goes;
      }

  pub stop : x.step ≡ None → listed_at named ns root ≡ None
  stop step =
      sym g.goes
      ∙ ap (λ o. before o (reverse steps)) all
      ∙ ap (λ s. before (with_rest ahead (gathered (joined_by x.floats parts s ∷ []))) (reverse steps)) step
      ∙ stopped ahead parts x.floats (reverse steps)

  -- what is pending weighs less
  pub lighter : weight ns (front ++ arranged x.floats n.arguments) < weight ns (front ++ k ∷ [])
  lighter =
      let size = λ (i : ℕ). get_or (sizes ns) i 0 in
      let one : size k ≡ suc (total (map size n.arguments)) = value_at (λ n ks. suc (total ks)) 0 ns k n is below in
      let a : total (map size (front ++ k ∷ [])) ≡ total (map size front) + total (size k ∷ []) =
      ap total (map-append size front (k ∷ [])) ∙ total_append (map size front) (size k ∷ []) in
      let b : total (map size (front ++ arranged x.floats n.arguments)) ≡ total (map size front) + total (arranged x.floats (map size
      n.arguments)) =
      ap total (map-append size front (arranged x.floats n.arguments))
      ∙ total_append (map size front) (map size (arranged x.floats n.arguments))
      ∙ ap (λ zs. total (map size front) + total zs) (sym (arranged_map size x.floats n.arguments)) in
      let w = arranged_weigh x.floats (map size n.arguments) in
      omega arith

-- nothing is pending
pub finish : (named : List Named) (ns : List Shared) (root : ℕ) (steps : List Step) → Goes named ns root [] steps
    → listed_at named ns root ≡ Some (reverse steps)
finish named ns root steps g = sym g.goes
