-- Faults that are put by their keys: one more of them.
use Rattle.std.proofs.Common.{◌≡◌, ◌∙◌, ◌⊎◌, inl, inr, ◌<◌, ◌+◌, ℕ, zero, suc, List, [], ◌∷◌, ◌++◌, length, map, take, get_or, refl, sym, ap, ap₂, subst, arith}
use Rattle.std.specs.Prelude.{Contains}
use Rattle.std.specs.declared.cmp.Ordering.{Ordering}
use Rattle.std.specs.declared.cmp.Ordering.TheVariants.{Less, Equal, Greater}
use Rattle.std.specs.Ordering.{nat_cmp, ordering_then, match_ordering}
use Rattle.std.specs.Cmp.Lexicographic.{slice_cmp}
use Rattle.std.specs.FinMap.{nat_cmp-IsAntisymmetric, slice_cmp-IsAntisymmetric}
use Rattle.std.specs.BTreeMap.{insert_entry}
use Rattle.std.specs.Map.{keys_of, values_of}
use Rattle.std.specs.List.{AllByRecursion}
use Rattle.std.specs.List.Sorted.{IsStrictlySortedBy}
use Rattle.std.proofs.lemmas.List.{map_more}
use Rattle.std.proofs.lemmas.List.Elements.{Contains-append_left, Contains-append_right, Contains-append_cases}
use Rattle.editscripts.specs.Faults.{ScriptFault, Key, key_of, order, AreOrdered}
use Rattle.editscripts.specs.Gathered.{CodeKey, code_order, Entry, AreKeyed, faults_of, ArePlaced}
use Rattle.editscripts.specs.Views.{seen_fault, seen_key}
use Rattle.editscripts.specs.declared.faults.ScriptFault.{ScriptFault as CodeFault}

-- ---- keys

then_equal : (a b : Ordering) → ordering_then a b ≡ Equal → (a ≡ Equal) × (b ≡ Equal)
then_equal Less b h = absurd cc
then_equal Equal b h = (refl, h)
then_equal Greater b h = absurd cc

same_key : (x y : Key) → order x y ≡ Equal → x ≡ y
same_key x y h =
    let last = then_equal (ordering_then (ordering_then (nat_cmp x.0 y.0) (nat_cmp x.1 y.1)) (nat_cmp x.2 y.2))
    (slice_cmp nat_cmp x.3 y.3) h in
    let third = then_equal (ordering_then (nat_cmp x.0 y.0) (nat_cmp x.1 y.1)) (nat_cmp x.2 y.2) last.0 in
    let second = then_equal (nat_cmp x.0 y.0) (nat_cmp x.1 y.1) third.0 in
    let a : x.0 ≡ y.0 = nat_cmp-IsAntisymmetric x.0 y.0 second.0 in
    let b : x.1 ≡ y.1 = nat_cmp-IsAntisymmetric x.1 y.1 second.1 in
    let c : x.2 ≡ y.2 = nat_cmp-IsAntisymmetric x.2 y.2 third.1 in
    let d : x.3 ≡ y.3 = slice_cmp-IsAntisymmetric nat_cmp-IsAntisymmetric x.3 y.3 last.1 in
    ap₂ (λ (m n : ℕ). let k : Key = (m, n, x.2, x.3) in k) a b ∙ ap₂ (λ (m : ℕ) (w : List ℕ). let k : Key = (y.0, y.1, m, w) in k) c d

-- ---- one more

first_of : {A : Type 0} (x : A) (xs : List A) → Contains (x ∷ xs) x
first_of x xs = (0, omega arith, refl)

later_of : {A : Type 0} (x y : A) (xs : List A) → Contains xs y → Contains (x ∷ xs) y
later_of x y xs h = (suc h.0, omega (arith, h.1), h.2)

module _ (k : CodeKey) (v : CodeFault) (is : seen_key k ≡ key_of (seen_fault v)) where
  abbrev put : List Entry → List Entry
  put es = insert_entry code_order es k v

  abbrev put_at : Ordering → Entry → List Entry → List Entry
  put_at o e es = match_ordering o ((k, v) ∷ e ∷ es) ((e.0, v) ∷ es) (e ∷ put es)

  keyed_at : (o : Ordering) (e : Entry) (es : List Entry) → code_order k e.0 ≡ o → AreKeyed (e ∷ es) → AreKeyed (put es)
      → AreKeyed (put_at o e es)
  keyed_at Less e es at h rest = (is, h)
  keyed_at Equal e es at h rest = (sym (same_key (seen_key k) (seen_key e.0) at) ∙ is, h.1)
  keyed_at Greater e es at h rest = (h.0, rest)

  keyed_more : (es : List Entry) → AreKeyed es → AreKeyed (put es)
  keyed_more [] h = (is, tt)
  keyed_more (e ∷ es) h = keyed_at (code_order k e.0) e es refl h (keyed_more es h.1)

  abbrev Either : List Entry → ScriptFault → Type 0
  Either es f = Contains (faults_of es) f ⊎ (seen_fault v ≡ f)

  from_rest : (e : Entry) (es : List Entry) (f : ScriptFault) → Either es f → Either (e ∷ es) f
  from_rest e es f (inl h) = inl (later_of (seen_fault e.1) f (faults_of es) h)
  from_rest e es f (inr h) = inr h

  sound_at : (o : Ordering) (e : Entry) (es : List Entry) (f : ScriptFault) → (Contains (faults_of (put es)) f → Either es f)
      → Contains (faults_of (put_at o e es)) f → Either (e ∷ es) f
  sound_at Less e es f rest (zero, lt, at) = inr at
  sound_at Less e es f rest (suc n, lt, at) = inl (n, omega (arith, lt), at)
  sound_at Equal e es f rest (zero, lt, at) = inr at
  sound_at Equal e es f rest (suc n, lt, at) = inl (suc n, omega (arith, lt), at)
  sound_at Greater e es f rest (zero, lt, at) = inl (0, omega arith, at)
  sound_at Greater e es f rest (suc n, lt, at) = from_rest e es f (rest (n, omega (arith, lt), at))

  sound_more : (es : List Entry) (f : ScriptFault) → Contains (faults_of (put es)) f → Either es f
  sound_more [] f (zero, lt, at) = inr at
  sound_more [] f (suc n, lt, at) = absurd (omega (arith, lt))
  sound_more (e ∷ es) f h = sound_at (code_order k e.0) e es f (sound_more es f) h

  has_at : (o : Ordering) (e : Entry) (es : List Entry) → Contains (faults_of (put es)) (seen_fault v)
      → Contains (faults_of (put_at o e es)) (seen_fault v)
  has_at Less e es rest = first_of (seen_fault v) (faults_of (e ∷ es))
  has_at Equal e es rest = first_of (seen_fault v) (faults_of es)
  has_at Greater e es rest = later_of (seen_fault e.1) (seen_fault v) (faults_of (put es)) rest

  has_it : (es : List Entry) → Contains (faults_of (put es)) (seen_fault v)
  has_it [] = first_of (seen_fault v) []
  has_it (e ∷ es) = has_at (code_order k e.0) e es (has_it es)

  abbrev Named : List Entry → ScriptFault → Type 0
  Named es f = (g : ScriptFault) × Contains (faults_of es) g × (key_of g ≡ key_of f)

  named_later : (e : Entry) (es : List Entry) (f : ScriptFault) → Named es f → Named (e ∷ es) f
  named_later e es f h = (h.0, later_of (seen_fault e.1) h.0 (faults_of es) h.1, h.2)

  keeps_at : (o : Ordering) (e : Entry) (es : List Entry) (f : ScriptFault) → code_order k e.0 ≡ o → AreKeyed (e ∷ es)
      → (Contains (faults_of es) f → Named (put es) f) → Contains (faults_of (e ∷ es)) f → Named (put_at o e es) f
  keeps_at Less e es f same h rest among = (f, later_of (seen_fault v) f (faults_of (e ∷ es)) among, refl)
  keeps_at Equal e es f same h rest (zero, lt, at) = (
    seen_fault v,
    first_of (seen_fault v) (faults_of es),
    sym is ∙ (same_key (seen_key k) (seen_key e.0) same ∙ (h.0 ∙ ap key_of at)),
  )
  keeps_at Equal e es f same h rest (suc n, lt, at) =
      (f, later_of (seen_fault v) f (faults_of es) (n, omega (arith, lt), at), refl)
  keeps_at Greater e es f same h rest (zero, lt, at) = (seen_fault e.1, first_of (seen_fault e.1) (faults_of (put es)), ap key_of at)
  keeps_at Greater e es f same h rest (suc n, lt, at) = named_later e (put es) f (rest (n, omega (arith, lt), at))

  keeps : (es : List Entry) (f : ScriptFault) → AreKeyed es → Contains (faults_of es) f → Named (put es) f
  keeps [] f h among = absurd (omega (arith, among.1))
  keeps (e ∷ es) f h among = keeps_at (code_order k e.0) e es f refl h (keeps es f h.1) among

  sound_then : (all : List ScriptFault) (es : List Entry) (f : ScriptFault) → ArePlaced all es → Either es f
      → Contains (all ++ seen_fault v ∷ []) f
  sound_then all es f h (inl among) = Contains-append_left all (seen_fault v ∷ []) f (h.sound f among)
  sound_then all es f h (inr same) =
      Contains-append_right all (seen_fault v ∷ []) f (subst (Contains (seen_fault v ∷ [])) same (first_of (seen_fault v) []))

  complete_then : (all : List ScriptFault) (es : List Entry) (f : ScriptFault) → ArePlaced all es
      → Contains all f ⊎ Contains (seen_fault v ∷ []) f → Named (put es) f
  complete_then all es f h (inl among) =
      let g = h.complete f among in
      let now = keeps es g.0 h.keyed g.1 in (now.0, now.1, now.2 ∙ g.2)
  complete_then all es f h (inr (zero, lt, at)) = (seen_fault v, has_it es, ap key_of at)
  complete_then all es f h (inr (suc n, lt, at)) = absurd (omega (arith, lt))

  pub placed_more : (all : List ScriptFault) (es : List Entry) → ArePlaced all es
      → ArePlaced (all ++ seen_fault v ∷ []) (insert_entry code_order es k v)
  placed_more all es h = record {
    keyed = keyed_more es h.keyed;
    sound = λ f among. sound_then all es f h (sound_more es f among);
    complete = λ f among. complete_then all es f h (Contains-append_cases all (seen_fault v ∷ []) f among);
  }

pub none_placed : ArePlaced [] []
none_placed = record {
  keyed = tt;
  sound = λ f among. among;
  complete = λ f among. absurd (omega (arith, among.1));
}

-- ---- all of them

abbrev values_key : Entry → Key
values_key e = key_of (seen_fault e.1)

below_seen : (x : CodeKey) (k : Key) (es : List Entry) → seen_key x ≡ k → AreKeyed es
    → AllByRecursion (λ y. code_order x y ≡ Less) (keys_of es) → AllByRecursion (λ y. order k y ≡ Less) (map values_key es)
below_seen x k [] same keyed h = tt
below_seen x k (e ∷ es) same keyed h = (ap₂ order (sym same) (sym keyed.0) ∙ h.0, below_seen x k es same keyed.1 h.1)

sorted_seen : (es : List Entry) → AreKeyed es → IsStrictlySortedBy code_order (keys_of es) → IsStrictlySortedBy order (map values_key es)
unfolding IsStrictlySortedBy
sorted_seen [] keyed h = tt
sorted_seen (e ∷ es) keyed h = (below_seen e.0 (key_of (seen_fault e.1)) es keyed.0 keyed.1 h.0, sorted_seen es keyed.1 h.1)

map_twice : {A B C : Type 0} (f : A → B) (g : B → C) (xs : List A) → map g (map f xs) ≡ map (λ x. g (f x)) xs
map_twice f g [] = refl
map_twice f g (x ∷ xs) = ap (λ ys. g (f x) ∷ ys) (map_twice f g xs)

pub ordered_of : (all : List ScriptFault) (es : List Entry) → ArePlaced all es → IsStrictlySortedBy code_order (keys_of es)
    → AreOrdered all (faults_of es)
ordered_of all es h sorted = record {
  sound = h.sound;
  complete = h.complete;
  in_order =
      subst (IsStrictlySortedBy order) (sym (map_twice (λ (e : Entry). seen_fault e.1) key_of es)) (sorted_seen es h.keyed sorted);
}

pub faults_are : (es : List Entry) → map seen_fault (values_of es) ≡ faults_of es
faults_are [] = refl
faults_are (e ∷ es) = ap (λ fs. seen_fault e.1 ∷ fs) (faults_are es)

pub placed_next : (faults : List CodeFault) (i : ℕ) (d : CodeFault) (k : CodeKey) (es new : List Entry)
    → new ≡ insert_entry code_order es k (get_or faults i d) → i < length faults → seen_key k ≡ key_of (seen_fault (get_or faults i d))
    → ArePlaced (map seen_fault (take i faults)) es → ArePlaced (map seen_fault (take (i + 1) faults)) new
placed_next faults i d k es new put within is h =
    subst (ArePlaced (map seen_fault (take (i + 1) faults))) (sym put)
    (subst (λ fs. ArePlaced fs (insert_entry code_order es k (get_or faults i d))) (sym (map_more seen_fault faults i d within))
    (placed_more k (get_or faults i d) is (map seen_fault (take i faults)) es h))
