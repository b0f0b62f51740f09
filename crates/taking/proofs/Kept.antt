-- What the code keeps of nodes: one more node leaves the others as they are.
use Rattle.std.proofs.Common.{◌≡◌, ◌<◌, ◌≤◌, ℕ, suc, ◌+◌, ◌-◌, List, [], ◌∷◌, ◌++◌, length, map, take, drop, refl, sym, ap, ◌∙◌, subst}
use Rattle.std.proofs.Common.{arith, get_or, inl, inr}
use Rattle.std.specs.Prelude.{Some, slice_get, slice_range, filter_map, min}
use Rattle.std.specs.Option.{option_map}
use Rattle.std.specs.List.{AllByRecursion, cons_option}
use Rattle.std.proofs.lemmas.List.{map-append, length-append, length-map, length-drop, drop-append-le, take-append-le}
use Rattle.std.proofs.Math.Seq.{drop-append_seam}
use Rattle.std.proofs.lemmas.Bool.{cases_lt}
use Rattle.std.proofs.lemmas.List.Elements.{filter_map-append}
use Rattle.std.proofs.lemmas.List.{take_all, length_push}
use Rattle.std.proofs.lemmas.List.Elements.{All-from_recursion, recursion_from_All}
use Rattle.std.proofs.lemmas.Option.{slice_get-map, slice_get_read, slice_get_within}
use Rattle.source.specs.Proofs.{total}
use Rattle.taking.specs.declared.nodes.Node.{Node}
use Rattle.taking.specs.Nodes.{AreBelow, Shared, values, sizes, counted}
use Rattle.taking.specs.Views.{seen_node, seen_nodes, AreSound, size_over}
use Rattle.mmsyntax.proofs.Distinct.{all_append}
use Rattle.taking.proofs.Values.{mapped, get_front, get_last, values_more}
use Rattle.taking.proofs.Listed.{all_at}
use Rattle.taking.proofs.Picked.{total_append}

pub sound_none : AreSound [] []
unfolding values
sound_none = record {
  within = All-from_recursion (λ n. (n.begin ≤ n.end) × (n.end ≤ 0)) [] tt;
  below = λ k n is. absurd cc;
  sizes_are = refl;
}

-- the node that is read at a place of those that are seen
pub node_at : (args : List ℕ) (ns : List Node) (seen : List Shared) (k : ℕ) (x : Node) → seen_nodes args ns ≡ seen → k < length seen
    → x ≡ get_or ns k x → slice_get ns k ≡ Some x
node_at args ns seen k x same within is =
    let long : length ns ≡ length seen = sym (length-map ns (seen_node args)) ∙ ap length same in
    slice_get_read ns (length ns) k x refl (subst (λ n. k < n) (sym long) within) is

-- the size that is kept
pub size_kept : (ns : List Node) (ss : List ℕ) (k : ℕ) (x : Node) → map (λ n. n.size) ns ≡ map counted ss → slice_get ns k ≡ Some x
    → option_map counted (slice_get ss k) ≡ Some x.size
size_kept ns ss k x same is =
    sym (slice_get-map counted ss k)
    ∙ ap (λ zs. slice_get zs k) (sym same)
    ∙ slice_get-map (λ (n : Node). n.size) ns k
    ∙ ap (option_map (λ (n : Node). n.size)) is

-- ---- one more

-- what lies within is the same in front of more
pub range_front : (xs ys : List ℕ) (b e : ℕ) → b ≤ e → e ≤ length xs → slice_range (xs ++ ys) b e ≡ slice_range xs b e
range_front xs ys b e h g =
    let long : e - b ≤ length (drop b xs) = omega (arith, length-drop b xs) in
    ap (take (e - b)) (drop-append-le b xs ys (omega arith)) ∙ take-append-le (e - b) (drop b xs) ys long

range_behind : (xs ys : List ℕ) → slice_range (xs ++ ys) (length xs) (length xs + length ys) ≡ ys
range_behind xs ys =
    let n : length xs + length ys - length xs ≡ length ys = omega arith in
    ap (take (length xs + length ys - length xs)) (drop-append_seam xs ys)
    ∙ ap (λ m. take m ys) n
    ∙ take_all (length ys) ys (omega arith)

seen_front : (args ks : List ℕ) (ns : List Node) → AllByRecursion (λ n. (n.begin ≤ n.end) × (n.end ≤ length args)) ns
    → seen_nodes (args ++ ks) ns ≡ seen_nodes args ns
seen_front args ks [] a = refl
seen_front args ks (n ∷ ns) a =
    ap (λ xs. record { named = n.named; arguments = xs } ∷ seen_nodes (args ++ ks) ns) (range_front args ks n.begin n.end a.0.0 a.0.1)
    ∙ ap (λ ms. seen_node args n ∷ ms) (seen_front args ks ns a.1)

wider : (args ks : List ℕ) (n : Node) → (n.begin ≤ n.end) × (n.end ≤ length args) → (n.begin ≤ n.end) × (n.end ≤ length (args ++ ks))
wider args ks n h = (h.0, omega (arith, length-append args ks, h.1))

all_wider : (args ks : List ℕ) (ns : List Node) → AllByRecursion (λ n. (n.begin ≤ n.end) × (n.end ≤ length args)) ns
    → AllByRecursion (λ n. (n.begin ≤ n.end) × (n.end ≤ length (args ++ ks))) ns
all_wider args ks [] a = tt
all_wider args ks (n ∷ ns) a = (wider args ks n a.0, all_wider args ks ns a.1)

-- more arguments alone
pub sound_wider : (args ks : List ℕ) (ns : List Node) → AreSound args ns → AreSound (args ++ ks) ns
sound_wider args ks ns sound =
    let inside = recursion_from_All (λ n. (n.begin ≤ n.end) × (n.end ≤ length args)) ns sound.within in
    record {
      within = All-from_recursion (λ n. (n.begin ≤ n.end) × (n.end ≤ length (args ++ ks))) ns (all_wider args ks ns inside);
      below =
          λ k n is.
          let w = all_at (λ n. (n.begin ≤ n.end) × (n.end ≤ length args)) ns k n inside is in
          subst (AreBelow k) (sym (range_front args ks n.begin n.end w.0 w.1)) (sound.below k n is);
      sizes_are = sound.sizes_are ∙ ap (λ ms. map counted (sizes ms)) (sym (seen_front args ks ns inside));
    }

pub seen_wider : (args ks : List ℕ) (ns : List Node) → AreSound args ns → seen_nodes (args ++ ks) ns ≡ seen_nodes args ns
seen_wider args ks ns sound =
    seen_front args ks ns (recursion_from_All (λ n. (n.begin ≤ n.end) × (n.end ≤ length args)) ns sound.within)

module _ (args ks : List ℕ) (ns : List Node) (x : Node) (sound : AreSound args ns) (begin : x.begin ≡ length args)
    (end : x.end ≡ length args + length ks) (size : x.size ≡ size_over (seen_nodes args ns) ks) (below : AreBelow (length ns) ks) where
  own : slice_range (args ++ ks) x.begin x.end ≡ ks
  own =
      ap (λ b. slice_range (args ++ ks) b x.end) begin
      ∙ ap (slice_range (args ++ ks) (length args)) end
      ∙ range_behind args ks

  inside : AllByRecursion (λ n. (n.begin ≤ n.end) × (n.end ≤ length args)) ns
  inside = recursion_from_All (λ n. (n.begin ≤ n.end) × (n.end ≤ length args)) ns sound.within

  -- contracts see one more node
  pub seen_more : seen_nodes (args ++ ks) (ns ++ x ∷ []) ≡ seen_nodes args ns ++ record { named = x.named; arguments = ks } ∷ []
  seen_more =
      map-append (seen_node (args ++ ks)) ns (x ∷ [])
      ∙ ap (λ ms. ms ++ seen_node (args ++ ks) x ∷ []) (seen_front args ks ns inside)
      ∙ ap (λ zs. seen_nodes args ns ++ record { named = x.named; arguments = zs } ∷ []) own

  sizes_more : sizes (seen_nodes (args ++ ks) (ns ++ x ∷ []))
      ≡ sizes (seen_nodes args ns) ++ suc (total (filter_map (slice_get (sizes (seen_nodes args ns))) ks)) ∷ []
  sizes_more =
      ap sizes seen_more
      ∙ values_more (λ n ms. suc (total ms)) (seen_nodes args ns) (record { named = x.named; arguments = ks })

  below_at : (k : ℕ) (n : Node) → slice_get (ns ++ x ∷ []) k ≡ Some n → AreBelow k (slice_range (args ++ ks) n.begin n.end)
  below_at k n is =
      let more = length_push ns x in
      let within = slice_get_within (ns ++ x ∷ []) k n is in
      elim (cases_lt k (length ns)) [
        | inl h ↦
            let at : slice_get ns k ≡ Some n = sym (get_front ns x k h) ∙ is in
            let w = all_at (λ n. (n.begin ≤ n.end) × (n.end ≤ length args)) ns k n inside at in
            subst (AreBelow k) (sym (range_front args ks n.begin n.end w.0 w.1)) (sound.below k n at)
        | inr g ↦
            let h : k ≡ length ns = omega arith in
            let at : Some x ≡ Some n = sym (get_last ns x) ∙ ap (slice_get (ns ++ x ∷ [])) (sym h) ∙ is in
            let same : x ≡ n = cc in
            subst (λ (m : Node). AreBelow k (slice_range (args ++ ks) m.begin m.end)) same
            (subst (AreBelow k) (sym own) (subst (λ (i : ℕ). AreBelow i ks) (sym h) below))
      ]

  -- and they are sound
  pub sound_more : AreSound (args ++ ks) (ns ++ x ∷ [])
  sound_more = record {
    within = All-from_recursion (λ n. (n.begin ≤ n.end) × (n.end ≤ length (args ++ ks))) (ns ++ x ∷ [])
        (all_append (λ n. (n.begin ≤ n.end) × (n.end ≤ length (args ++ ks))) ns (x ∷ []) (all_wider args ks ns inside)
        ((omega arith, omega (arith, length-append args ks)), tt));
    below = below_at;
    sizes_are =
        map-append (λ (n : Node). n.size) ns (x ∷ [])
        ∙ ap (λ ms. ms ++ x.size ∷ []) sound.sizes_are
        ∙ ap (λ m. map counted (sizes (seen_nodes args ns)) ++ m ∷ []) size
        ∙ sym (ap (map counted) sizes_more ∙ map-append counted (sizes (seen_nodes args ns)) (suc (total (filter_map (slice_get (sizes
        (seen_nodes args ns))) ks)) ∷ []));
  }

-- ---- sizes over arguments

-- one more argument
pub size_more : (ss : List ℕ) (ks : List ℕ) (k r : ℕ) → option_map counted (slice_get ss k) ≡ Some r
    → counted (suc (total (filter_map (slice_get ss) (ks ++ k ∷ [])))) ≡ min (counted (suc (total (filter_map (slice_get ss) ks))) + r)
    16385
size_more ss ks k r is =
    let v = mapped counted (slice_get ss k) r is in
    let e : filter_map (slice_get ss) (ks ++ k ∷ []) ≡ filter_map (slice_get ss) ks ++ v.0 ∷ [] =
    filter_map-append (slice_get ss) ks (k ∷ []) ∙ ap (λ o. filter_map (slice_get ss) ks ++ cons_option o []) v.1 in
    let t : total (filter_map (slice_get ss) (ks ++ k ∷ [])) ≡ total (filter_map (slice_get ss) ks) + (v.0 + 0) =
    ap total e ∙ total_append (filter_map (slice_get ss) ks) (v.0 ∷ []) in
    let c : min 16385 v.0 ≡ r = v.2 in
    omega arith
