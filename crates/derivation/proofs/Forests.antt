-- Steps as moves over the expressions of the trees so far: what derives runs, what runs lists a forest, and a run has one end.
use Rattle.std.proofs.Common.{◌≡◌, ℕ, List, [], ◌∷◌, ◌++◌, length, drop, take, slice_get, refl, sym, ap, ◌∙◌, append_assoc}
use Rattle.std.proofs.Common.{append-nil, arith, length-append}
use Rattle.std.proofs.Math.Seq.{take-append_seam, drop-append_seam}
use Rattle.mmsyntax.specs.Tables.{Tables}
use Rattle.mmsyntax.specs.declared.statement.Assertion.{Assertion}
use Rattle.mmsyntax.specs.declared.statement.Step.{Step}
use Rattle.mmsyntax.specs.declared.statement.Step.TheVariants.{Float, Hyp, Cite}
use Rattle.derivation.specs.Derivation.{Expression, Citable, Tree, Trees, float, hyp, node, none, some, Derives, DeriveEach, listing}
use Rattle.derivation.specs.Derivation.{listings, ListForest, arity}
use Rattle.derivation.specs.Moves.{Moves}
use Rattle.derivation.proofs.Plain.{Some-same}

-- one list of trees after another
abbrev pub join : Trees → Trees → Trees
join none us = us
join (some t ts) us = some t (join ts us)

pub listings-join : (ts us : Trees) → listings (join ts us) ≡ listings ts ++ listings us
listings-join none us = refl
listings-join (some t ts) us = rw (listings-join ts us, append_assoc) refl

module _ (lib : Citable) (p : Tables) (a : Assertion) where
  pub DeriveEach-join : (ts us : Trees) (es ds : List Expression) → DeriveEach lib p a ts es → DeriveEach lib p a us ds
      → DeriveEach lib p a (join ts us) (es ++ ds)
  DeriveEach-join none us es ds h k = rw h k
  DeriveEach-join (some t ts) us es ds h k =
      (h.0, h.1 ++ ds, ap (λ xs. xs ++ ds) h.2, h.3, DeriveEach-join ts us h.1 ds h.4 k)

  pub DeriveEach-split : (es ds : List Expression) (ts : Trees) → DeriveEach lib p a ts (es ++ ds)
      → (us vs : Trees) × (ts ≡ join us vs) × DeriveEach lib p a us es × DeriveEach lib p a vs ds
  DeriveEach-split [] ds ts h = (none, ts, refl, refl, h)
  DeriveEach-split (e ∷ es) ds none h = cc
  DeriveEach-split (e ∷ es) ds (some t ts) h =
      let same : h.1 ≡ es ++ ds = cc in
      let first : h.0 ≡ e = cc in
      let rest = DeriveEach-split es ds ts (rw same at h.4) in
      (some t rest.0, rest.1, ap (some t) rest.2, (e, es, refl, rw first at h.3, rest.3), rest.4)

  abbrev pub Runs : List Expression → List Step → List Expression → Type 0
  Runs st [] st' = st' ≡ st
  Runs st (s ∷ ss) st' = (mid : List Expression) × Moves lib p a st s mid × Runs mid ss st'

  mutual
    pub tree-runs : (t : Tree) (e : Expression) (st : List Expression) (rest : List Step) (st' : List Expression) → Derives lib p a t e
        → Runs (st ++ e ∷ []) rest st' → Runs st (listing t ++ rest) st'
    tree-runs (float i) e st rest st' h k = (st ++ e ∷ [], (e, h, refl), k)
    tree-runs (hyp i) e st rest st' h k = (st ++ e ∷ [], (e, h, refl), k)
    tree-runs (node label ts) e st rest st' h k =
        rw append_assoc (trees-run ts h.1 st (Cite label ∷ rest) st' h.3 (st ++ e ∷ [], (h.0, h.2, (st, h.1, e, refl, h.4, refl)), k))

    pub trees-run : (ts : Trees) (es : List Expression) (st : List Expression) (rest : List Step) (st' : List Expression)
        → DeriveEach lib p a ts es
        → Runs (st ++ es) rest st' → Runs st (listings ts ++ rest) st'
    trees-run none es st rest st' h k = rw (h, append-nil) at k
    trees-run (some t ts) es st rest st' h k =
        rw append_assoc (tree-runs t h.0 st (listings ts ++ rest) st' h.3
        (trees-run ts h.1 (st ++ h.0 ∷ []) rest st' h.4 (rw append_assoc (rw h.2 at k))))

tails-agree : (xs xs' ys ys' : List Expression) → xs ++ ys ≡ xs' ++ ys' → length ys ≡ length ys' → (xs ≡ xs') × (ys ≡ ys')
tails-agree xs xs' ys ys' e n =
    let long : length xs ≡ length xs' = omega (arith, ap length e, length-append xs ys, length-append xs' ys', n) in (
      sym (take-append_seam xs ys) ∙ ap (take (length xs)) e ∙ ap (λ k. take k (xs' ++ ys')) long ∙ take-append_seam xs' ys',
      sym (drop-append_seam xs ys) ∙ ap (drop (length xs)) e ∙ ap (λ k. drop k (xs' ++ ys')) long ∙ drop-append_seam xs' ys',
    )

-- a node over the last trees lists what they list, and then its own step
listings-grown : (ts us vs : Trees) (label : List ℕ) (ss : List Step) → ts ≡ join us vs
    → listings (join us (some (node label vs) none)) ++ ss ≡ listings ts ++ Cite label ∷ ss
listings-grown ts us vs label ss e = rw (e, listings-join us vs, listings-join us (some (node label vs) none)) (simp append_assoc)

module _ (lib : Citable) (p : Tables) (a : Assertion) where
  Moves-same : (st : List Expression) (s : Step) (x y : List Expression) → Moves lib p a st s x → Moves lib p a st s y → x ≡ y
  Moves-same st (Float i) x y h k =
      let same = Some-same _ _ (slice_get p.floats i) h.1.1 k.1.1 in
      let e : h.0 ≡ k.0 = rw (h.1.2, k.1.2, same) refl in
      rw (h.2, k.2, e) refl
  Moves-same st (Hyp i) x y h k =
      let e = Some-same _ _ (slice_get a.hyps i) h.1 k.1 in
      rw (h.2, k.2, e) refl
  Moves-same st (Cite label) x y h k =
      let f = Some-same _ _ (lib label) h.1 k.1 in
      let g = h.2 in
      let m = k.2 in
      let n : length g.1 ≡ length m.1 = g.4.one_each ∙ ap arity f ∙ sym m.4.one_each in
      let parts = tails-agree g.0 m.0 g.1 m.1 (sym g.3 ∙ m.3) n in
      let e : g.2 ≡ m.2 = g.4.is_conclusion ∙ rw (f, parts.1) refl ∙ sym m.4.is_conclusion in
      rw (g.5, m.5, parts.0, e) refl

  pub Runs-same : (ss : List Step) (st x y : List Expression) → Runs lib p a st ss x → Runs lib p a st ss y → x ≡ y
  Runs-same [] st x y h k = h ∙ sym k
  Runs-same (s ∷ ss) st x y h k =
      let mid = Moves-same st s h.0 k.0 h.1 k.1 in
      Runs-same ss h.0 x y h.2 (rw (← mid) at k.2)

  pub Runs-parts : (ss : List Step) (later : List Step) (st x : List Expression) → Runs lib p a st (ss ++ later) x
      → (mid : List Expression) × Runs lib p a st ss mid × Runs lib p a mid later x
  Runs-parts [] later st x h = (st, refl, h)
  Runs-parts (s ∷ ss) later st x h =
      let rest = Runs-parts ss later h.0 x h.2 in
      (rest.0, (h.0, h.1, rest.1), rest.2)

  pub Runs-more : (ss : List Step) (later : List Step) (st mid x : List Expression) → Runs lib p a st ss mid → Runs lib p a mid later x
      → Runs lib p a st (ss ++ later) x
  Runs-more [] later st mid x h k = rw h at k
  Runs-more (s ∷ ss) later st mid x h k = (h.0, h.1, Runs-more ss later h.0 mid x h.2 k)

  -- what a list of steps makes of trees is trees
  pub Runs-forest : (ss : List Step) (st x : List Expression) (ts : Trees) → DeriveEach lib p a ts st → Runs lib p a st ss x
      → (us : Trees) × (listings us ≡ listings ts ++ ss) × DeriveEach lib p a us x
  Runs-forest [] st x ts h k = (ts, sym (append-nil (listings ts)), rw k h)
  Runs-forest (Float i ∷ ss) st x ts h k =
      let leaf : DeriveEach lib p a (some (float i) none) (k.1.0 ∷ []) = (k.1.0, [], refl, k.1.1, refl) in
      let rest = Runs-forest ss k.0 x (join ts (some (float i) none)) (rw k.1.2 (DeriveEach-join lib p a ts _ st _ h leaf)) k.2 in
      (rest.0, rest.1 ∙ rw (listings-join, append_assoc) refl, rest.2)
  Runs-forest (Hyp i ∷ ss) st x ts h k =
      let leaf : DeriveEach lib p a (some (hyp i) none) (k.1.0 ∷ []) = (k.1.0, [], refl, k.1.1, refl) in
      let rest = Runs-forest ss k.0 x (join ts (some (hyp i) none)) (rw k.1.2 (DeriveEach-join lib p a ts _ st _ h leaf)) k.2 in
      (rest.0, rest.1 ∙ rw (listings-join, append_assoc) refl, rest.2)
  Runs-forest (Cite label ∷ ss) st x ts h k =
      let m = k.1.2 in
      let parts = DeriveEach-split lib p a m.0 m.1 ts (rw m.3 at h) in
      let grown : DeriveEach lib p a (some (node label parts.1) none) (m.2 ∷ []) =
      (m.2, [], refl, (k.1.0, m.1, k.1.1, parts.4, m.4), refl) in
      let rest = Runs-forest ss k.0 x (join parts.0 (some (node label parts.1) none))
      (rw m.5 (DeriveEach-join lib p a parts.0 _ m.0 _ parts.3 grown)) k.2 in
      (rest.0, rest.1 ∙ listings-grown ts parts.0 parts.1 label ss parts.2, rest.2)

  -- the steps list a forest exactly where they run, and only with these expressions
  pub Runs-lists : (ss : List Step) (x : List Expression) → Runs lib p a [] ss x → ListForest lib p a ss x
  Runs-lists ss x h = let f = Runs-forest ss [] x none refl h in (f.0, f.1, f.2)

  pub lists-Runs : (ss : List Step) (x : List Expression) → ListForest lib p a ss x → Runs lib p a [] ss x
  lists-Runs ss x h = rw (append-nil, h.1) at (trees-run lib p a h.0 x [] [] x h.2 refl)
