-- The stack of trees for which a stack of places stands.
use Rattle.std.proofs.Common.{◌≡◌, ◌<◌, ℕ, zero, suc, ◌+◌, List, [], ◌∷◌, ◌++◌, length, map, reverse, get_or, refl, sym, ap, ◌∙◌}
use Rattle.std.proofs.Common.{arith, append_assoc, append-nil}
use Rattle.std.specs.Prelude.{Option, Some, None, slice_get, slice_index_or, filter_map}
use Rattle.std.specs.Option.{option_map}
use Rattle.std.specs.List.{AllByRecursion, cons_option}
use Rattle.std.proofs.lemmas.List.{reverse-append, length-reverse, length-map}
use Rattle.std.proofs.lemmas.List.Elements.{filter_map-append}
use Rattle.std.proofs.lemmas.Option.{slice_get-get_or, slice_get-map}
use Rattle.mmtext.specs.Words.{Word}
use Rattle.source.specs.Scopes.{Hypothesis}
use Rattle.source.specs.Proofs.{Tree, node, over, none, again, pop, put, cite, repeat, mark, only, numbered, taken_by}
use Rattle.taking.specs.declared.named.Named.{Named}
use Rattle.taking.specs.Settings.{Setting, AreNamed, is_float}
use Rattle.taking.specs.Nodes.{Shared, trees}
use Rattle.taking.specs.Decoding.{grown, trees_at, stack_on}
use Rattle.taking.proofs.Values.{get_front, get_last, same_filter_map, all_more, as_many, values_more}
use Rattle.taking.proofs.Gathered.{got_all}
use Rattle.taking.proofs.Listed.{all_at}
use Rattle.taking.proofs.Labels.{label_at}
use Rattle.taking.proofs.Turned.{turned_cons, turned_back, all_turned, turned_filter_map}

-- ---- what comes off

pub popped : {A : Type 0} (hs : List Hypothesis) (xs rest off : List A) → length hs ≡ length xs
    → pop hs (xs ++ rest) off ≡ Some (reverse xs ++ off, rest)
popped [] [] rest off e = refl
popped [] (x ∷ xs) rest off e = absurd (omega arith)
popped (h ∷ hs) [] rest off e = absurd (omega arith)
popped (h ∷ hs) (x ∷ xs) rest off e =
    popped hs xs rest (x ∷ off) (omega arith)
    ∙ ap (λ ys. Some (ys, rest)) (sym (ap (λ ys. ys ++ off) (turned_cons x xs) ∙ append_assoc (reverse xs) (x ∷ []) off))

pub short : {A : Type 0} (hs : List Hypothesis) (xs off : List A) → length xs < length hs → pop hs xs off ≡ None
short [] xs off h = absurd (omega arith)
short (g ∷ hs) [] off h = refl
short (g ∷ hs) (x ∷ xs) off h = short hs xs (x ∷ off) (omega arith)

-- ---- numbers

pub names_mark : (ws : List Word) (n m : ℕ) → n ≡ length ws + m → numbered ws n ≡ again m
names_mark [] n m h = let e : n ≡ m = omega arith in ap again e
names_mark (w ∷ ws) zero m h = absurd (omega arith)
names_mark (w ∷ ws) (suc n) m h = names_mark ws n m (omega arith)

-- ---- trees at places

-- whatever tree stands past the end
past : Tree
past = node [] none

module _ (labels : List Word) (ns : List Shared) where
  tree_at : ℕ → Tree
  tree_at k = get_or (trees labels ns) k past

  as_long : length (trees labels ns) ≡ length ns
  as_long = as_many (λ n ts. node (slice_index_or labels n []) (over ts)) ns

  got : (ks : List ℕ) → AllByRecursion (λ k. k < length ns) ks → trees_at labels ns ks ≡ map tree_at ks
  unfolding tree_at
  got ks a = let e = as_long in got_all (trees labels ns) past ks (all_more (λ k h. omega arith) ks a)

  got_one : (k : ℕ) → k < length ns → slice_get (trees labels ns) k ≡ Some (tree_at k)
  unfolding tree_at
  got_one k h = let e = as_long in slice_get-get_or (trees labels ns) k past (omega arith)

  got_length : (ks : List ℕ) → AllByRecursion (λ k. k < length ns) ks → length (trees_at labels ns ks) ≡ length ks
  got_length ks a = ap length (got ks a) ∙ length-map ks tree_at

  -- the entries, one more
  one_more : (es : List ℕ) (k : ℕ) → k < length ns
      → trees_at labels ns (reverse (es ++ k ∷ [])) ≡ tree_at k ∷ trees_at labels ns (reverse es)
  one_more es k h =
      ap (trees_at labels ns) (reverse-append es (k ∷ [])) ∙ ap (λ o. cons_option o (trees_at labels ns (reverse es))) (got_one k h)

  -- a node behind the others leaves their trees
  pub kept_trees : (n : Shared) (ks : List ℕ) → AllByRecursion (λ k. k < length ns) ks
      → trees_at labels (ns ++ n ∷ []) ks ≡ trees_at labels ns ks
  kept_trees n ks a =
      let e = as_long in
      let ts = trees labels ns in
      let t = node (slice_index_or labels n.named []) (over (trees_at labels ns n.arguments)) in
      ap (λ us. filter_map (slice_get us) ks) (values_more (λ n ts. node (slice_index_or labels n []) (over ts)) ns n)
      ∙ same_filter_map (slice_get (ts ++ t ∷ [])) (slice_get ts) ks (all_more (λ k h. get_front ts t k (omega arith)) ks a)

  -- and has its own
  pub new_tree : (n : Shared) → slice_get (trees labels (ns ++ n ∷ [])) (length ns)
      ≡ Some (node (slice_index_or labels n.named []) (over (trees_at labels ns n.arguments)))
  new_tree n =
      let ts = trees labels ns in
      let t = node (slice_index_or labels n.named []) (over (trees_at labels ns n.arguments)) in
      ap (λ us. slice_get us (length ns)) (values_more (λ n ts. node (slice_index_or labels n []) (over ts)) ns n)
      ∙ ap (slice_get (ts ++ t ∷ [])) (sym as_long)
      ∙ get_last ts t

-- as many trees as entries
pub as_many_trees : (labels : List Word) (ns : List Shared) (es : List ℕ) → AllByRecursion (λ k. k < length ns) es
    → length (trees_at labels ns (reverse es)) ≡ length es
as_many_trees labels ns es a = got_length labels ns (reverse es) (all_turned (λ k. k < length ns) es a) ∙ length-reverse es

pub only_none : (ts : List Tree) → (length ts ≡ 1 → ⊥) → only ts ≡ None
only_none [] h = refl
only_none (t ∷ []) h = absurd (h refl)
only_none (t ∷ u ∷ ts) h = refl

-- one entry alone
pub only_one : (labels : List Word) (ns : List Shared) (es : List ℕ) (root : ℕ) → es ≡ root ∷ [] → root < length ns
    → only (trees_at labels ns (reverse es)) ≡ slice_get (trees labels ns) root
only_one labels ns es root is h =
    ap (λ ks. only (trees_at labels ns (reverse ks))) is
    ∙ ap (λ o. only (cons_option o [])) (got_one labels ns root h)
    ∙ sym (got_one labels ns root h)

-- ---- marks

module _ (labels : List Word) (ns : List Shared) (es ms : List ℕ) (below : AllByRecursion (λ k. k < length ns) ms) where
  marked_at : (m : ℕ) (o : Option ℕ) → slice_get ms m ≡ o → slice_get (trees_at labels ns ms) m ≡ option_map (tree_at labels ns) o
  marked_at m o h =
      ap (λ ts. slice_get ts m) (got labels ns ms below) ∙ slice_get-map (tree_at labels ns) ms m ∙ ap (option_map (tree_at labels ns)) h

  pub repeats : (m k : ℕ) → slice_get ms m ≡ Some k
      → repeat (stack_on labels ns es ms) (slice_get (trees_at labels ns ms) m) ≡ Some (stack_on labels ns (es ++ k ∷ []) ms)
  repeats m k h =
      let in' : k < length ns = all_at (λ k. k < length ns) ms m k below h in
      ap (repeat (stack_on labels ns es ms)) (marked_at m (Some k) h)
      ∙ ap (λ ts. Some (record { entries = ts; marked = trees_at labels ns ms })) (sym (one_more labels ns es k in'))

  pub repeats_none : (m : ℕ) → slice_get ms m ≡ None → repeat (stack_on labels ns es ms) (slice_get (trees_at labels ns ms) m) ≡ None
  repeats_none m h = ap (repeat (stack_on labels ns es ms)) (marked_at m None h)

pub marks_last : (labels : List Word) (ns : List Shared) (front ms : List ℕ) (k : ℕ) → k < length ns
    → mark (trees_at labels ns (reverse (front ++ k ∷ []))) (trees_at labels ns ms)
    ≡ Some (stack_on labels ns (front ++ k ∷ []) (ms ++ k ∷ []))
marks_last labels ns front ms k h =
    let R = trees_at labels ns (reverse front) in
    let M = trees_at labels ns ms in
    let t = tree_at labels ns k in
    let e : trees_at labels ns (ms ++ k ∷ []) ≡ M ++ t ∷ [] =
    filter_map-append (slice_get (trees labels ns)) ms (k ∷ []) ∙ ap (λ o. M ++ cons_option o []) (got_one labels ns k h) in
    ap (λ ts. mark ts M) (one_more labels ns front k h)
    ∙ ap (λ us. Some (record { entries = t ∷ R; marked = us })) (sym e)
    ∙ ap (λ ts. Some (record { entries = ts; marked = trees_at labels ns (ms ++ k ∷ []) })) (sym (one_more labels ns front k h))

-- ---- labels

module _ (s : Setting) (named : List Named) (are : AreNamed s named) (place : ℕ) (x : Named) (is : slice_get named place ≡ Some x)
    (ns : List Shared) (ms : List ℕ) where
  word : Word
  word = slice_index_or s.labels place []

  hypotheses : List Hypothesis
  hypotheses = (label_at s named are place x is).0

  takes : taken_by s.earlier s.active word ≡ Some hypotheses
  unfolding word hypotheses
  takes = (label_at s named are place x is).1

  as_many_hypotheses : length hypotheses ≡ length x.floats
  unfolding hypotheses
  as_many_hypotheses = sym (length-map hypotheses is_float) ∙ ap length (label_at s named are place x is).2

  pub cites_none : (es : List ℕ) → AllByRecursion (λ k. k < length ns) es → length es < length x.floats
      → cite grown (slice_index_or s.labels place []) (stack_on s.labels ns es ms)
      (taken_by s.earlier s.active (slice_index_or s.labels place [])) ≡ None
  unfolding word
  cites_none es a few =
      let many = as_many_hypotheses in
      let long = as_many_trees s.labels ns es a in
      ap (cite grown word (stack_on s.labels ns es ms)) takes
      ∙ ap (put grown word (trees_at s.labels ns ms)) (short hypotheses (trees_at s.labels ns (reverse es)) [] (omega arith))

  module _ (front args : List ℕ) (in_front : AllByRecursion (λ k. k < length ns) front) (in_args : AllByRecursion (λ k. k < length ns) args)
      (in_marked : AllByRecursion (λ k. k < length ns) ms) (whole : length args ≡ length x.floats) where
    own : Shared
    own = record { named = place; arguments = args }

    off : List Tree
    off = trees_at s.labels ns args

    left : List Tree
    left = trees_at s.labels ns (reverse front)

    split : trees_at s.labels ns (reverse (front ++ args)) ≡ reverse off ++ left
    unfolding off left
    split =
        ap (trees_at s.labels ns) (reverse-append front args)
        ∙ filter_map-append (slice_get (trees s.labels ns)) (reverse args) (reverse front)
        ∙ ap (λ ts. ts ++ trees_at s.labels ns (reverse front)) (turned_filter_map (slice_get (trees s.labels ns)) args)

    off_length : length off ≡ length args
    unfolding off
    off_length = got_length s.labels ns args in_args

    off_is : pop hypotheses (reverse off ++ left) [] ≡ Some (off, left)
    off_is =
        let many = as_many_hypotheses in
        let long : length (reverse off) ≡ length args = length-reverse off ∙ off_length in
        popped hypotheses (reverse off) left [] (omega arith)
        ∙ ap (λ ts. Some (ts, left)) (append-nil (reverse (reverse off)) ∙ turned_back off)

    new_entries : trees_at s.labels (ns ++ own ∷ []) (reverse (front ++ length ns ∷ [])) ≡ node word (over off) ∷ left
    unfolding own off left word
    new_entries =
        ap (trees_at s.labels (ns ++ own ∷ [])) (reverse-append front (length ns ∷ []))
        ∙ ap (λ o. cons_option o (trees_at s.labels (ns ++ own ∷ []) (reverse front))) (new_tree s.labels ns own)
        ∙ ap (λ ts. node word (over off) ∷ ts) (kept_trees s.labels ns own (reverse front) (all_turned (λ k. k < length ns) front in_front))

    pub cites : cite grown (slice_index_or s.labels place []) (stack_on s.labels ns (front ++ args) ms)
        (taken_by s.earlier s.active (slice_index_or s.labels place []))
        ≡ Some (stack_on s.labels (ns ++ record { named = place; arguments = args } ∷ []) (front ++ length ns ∷ []) ms)
    unfolding word own
    cites =
        let M = trees_at s.labels ns ms in
        ap (cite grown word (stack_on s.labels ns (front ++ args) ms)) takes
        ∙ ap (λ ts. put grown word M (pop hypotheses ts [])) split
        ∙ ap (put grown word M) off_is
        ∙ ap (λ us. Some (record { entries = node word (over off) ∷ left; marked = us })) (sym (kept_trees s.labels ns own ms in_marked))
        ∙ ap (λ ts. Some (record { entries = ts; marked = trees_at s.labels (ns ++ own ∷ []) ms })) (sym new_entries)
