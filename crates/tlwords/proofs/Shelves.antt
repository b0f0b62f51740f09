-- The laws of the store: what the steps of one seat do to the tail, the store's words and the finished ranges, whatever the others stage.
use Rattle.std.proofs.Common.{◌≡◌, ◌≢◌, ℕ, suc, ◌+◌, ◌*◌, ◌%◌, ◌^◌, ◌<◌, ◌≤◌, ◌⊎◌, inl, inr, ⊎_elim, Option, Some, None, List, [], ◌∷◌, ◌++◌, length, slice_get, slice_set, sym, refl, ap, ◌∙◌, subst, min, mul-le-mul_left, arith}
use Rattle.std.proofs.Math.Nat.{mul-add, min-le_right}
use mathlib.Core.Option.{some}
use lib.ListN.{get_elem?}
use Rattle.atomic_table.proofs.Lists.{at_set, at_snoc}
use Rattle.std.proofs.lemmas.Option.{none-some, slice_get-get_or}
use Rattle.tlcore.proofs.Lists.{get-set_same, get-set_other, get_within, length-slice_set, same_or_not}
use Rattle.ranges.proofs.Stored.{stored_coherent, stored_on, below_tail}
use Rattle.ranges.specs.Ranges.{Range, Has, IsStored, AreOfOneStore}
use Rattle.tlwords.specs.Views.{Staging, Gone, View}
use Rattle.tlwords.specs.Rule.{total_of, IsBeingFilled, IsApart, IsLeft, rights_of, moved_of, added_of, Adds, IsTail, Shelf}
use Rattle.tlwords.proofs.Keeps.{total_set, moves_of}

-- the two have no word in common
abbrev pub AreApart : Staging → Staging → Type 0
AreApart s t = (s.start + length s.words ≤ t.start) ⊎ (t.start + length t.words ≤ s.start)

pub one_staging : (o : Option Staging) (s t : Staging) → o ≡ Some s → o ≡ Some t → s ≡ t
one_staging o s t p q = let b : Some s ≡ Some t = sym p ∙ q in cc

-- ---- a tail and words that go on

pub taken_on : (low room tail later : ℕ) (store : List ℕ) (s : Staging) → tail ≤ later → IsBeingFilled low room tail store s
    → IsBeingFilled low room later store s
taken_on low room tail later store s l f =
    let b : s.start + length s.words ≤ tail = f.below in
    record { behind = f.behind; inside = f.inside; below = omega (arith, b, l); left = f.left; stored = f.stored }

left_on : (opened : List ℕ) (room tail later : ℕ) (store : List ℕ) → tail ≤ later → IsLeft opened room tail store
    → IsLeft opened room later store
left_on opened room tail later store l f = record { opening = f.opening; blank = λ o m n. f.blank o (omega (arith, l, m)) n }

pub total_snoc : {V : Type 0} (f : V → ℕ) (vs : List V) (u : V) → total_of f (vs ++ u ∷ []) ≡ total_of f vs + f u
total_snoc f [] u = omega arith
total_snoc f (v ∷ vs) u = let r : total_of f (vs ++ u ∷ []) ≡ total_of f vs + f u = total_snoc f vs u in omega (arith, r)

module _ {S N : Type 0} where
  -- what the change of one seat leaves the others
  pub record Others (low room tail : ℕ) (ranges : List Range) (store : List ℕ) (vs : List (View S N)) (id : ℕ) : Type 0 where
    pub taken : (j : ℕ) (u : View S N) (t : Staging) → j ≢ id → get_elem? vs j ≡ some u → u.staging ≡ Some t
        → IsBeingFilled low room tail store t
    pub apart : (j : ℕ) (u : View S N) (t : Staging) (r : Range) → j ≢ id → get_elem? vs j ≡ some u → u.staging ≡ Some t → Has r ranges
        → IsApart t r

  -- what the seat itself has then
  pub record Own (low room tail : ℕ) (ranges : List Range) (store : List ℕ) (vs : List (View S N)) (id : ℕ) (s : Staging) : Type 0 where
    pub taken : IsBeingFilled low room tail store s
    pub apart : (r : Range) → Has r ranges → IsApart s r
    pub alone : (j : ℕ) (u : View S N) (t : Staging) → j ≢ id → get_elem? vs j ≡ some u → u.staging ≡ Some t → AreApart s t

  -- the seat id goes on with the view w, where the tail is `later`, the store's words are `words` and the finished ranges qs
  shelf_set : (room : ℕ) (opened : List ℕ) (tail later : ℕ) (ranges qs : List Range) (store words : List ℕ) (vs : List (View S N)) (id : ℕ)
      (w : View S N)
      → Shelf room opened ranges tail store vs → length words ≡ room → IsLeft opened room later words
      → IsTail (length opened) room later (slice_set vs id w)
      → ((r : Range) → Has r qs → IsStored later words r)
      → Others (length opened) room later qs words vs id
      → ((s : Staging) → w.staging ≡ Some s → Own (length opened) room later qs words vs id s)
      → Shelf room opened qs later words (slice_set vs id w)
  shelf_set room opened tail later ranges qs store words vs id w h long left counted finished others own = record {
    long = long;
    small = h.small;
    left = left;
    tail_is = counted;
    finished = finished;
    taken = λ j u s there e. ⊎_elim
        (λ (t : (j ≡ id) × (w ≡ u)). (own s (ap (λ (x : View S N). x.staging) t.1 ∙ e)).taken)
        (λ (t : (j ≢ id) × (get_elem? vs j ≡ some u)). others.taken j u s t.0 t.1 e) (at_set vs id j w u there);
    apart = λ j u s r there e has. ⊎_elim
        (λ (t : (j ≡ id) × (w ≡ u)). (own s (ap (λ (x : View S N). x.staging) t.1 ∙ e)).apart r has)
        (λ (t : (j ≢ id) × (get_elem? vs j ≡ some u)). others.apart j u s r t.0 t.1 e has) (at_set vs id j w u there);
    alone = λ j k u v s t other p q e f. both j k u v s t other e f (at_set vs id j w u p) (at_set vs id k w v q);
  }
    where
      both : (j k : ℕ) (u v : View S N) (s t : Staging) → j ≢ k → u.staging ≡ Some s → v.staging ≡ Some t
          → ((j ≡ id) × (w ≡ u)) ⊎ ((j ≢ id) × (get_elem? vs j ≡ some u)) → ((k ≡ id) × (w ≡ v)) ⊎ ((k ≢ id) × (get_elem? vs k ≡ some v))
          → AreApart s t
      both j k u v s t other e f (inl p) (inl q) = absurd (other (p.0 ∙ sym q.0))
      both j k u v s t other e f (inl p) (inr q) = (own s (ap (λ (x : View S N). x.staging) p.1 ∙ e)).alone k v t q.0 q.1 f
      both j k u v s t other e f (inr p) (inl q) =
          ⊎_elim (λ (a : t.start + length t.words ≤ s.start). inr a) (λ (a : s.start + length s.words ≤ t.start). inl a)
          ((own t (ap (λ (x : View S N). x.staging) q.1 ∙ f)).alone j u s p.0 p.1 e)
      both j k u v s t other e f (inr p) (inr q) = h.alone j k u v s t other p.1 q.1 e f

  -- ---- how far the tail was moved

  total_least : (k : ℕ) (f g : View S N → ℕ) (vs : List (View S N)) → ((j : ℕ) (v : View S N) → get_elem? vs j ≡ some v → f v ≤ k * g v)
      → total_of f vs ≤ k * total_of g vs
  total_least k f g [] each = omega arith
  total_least k f g (v ∷ vs) each =
      let a : f v ≤ k * g v = each 0 v refl in
      let b : total_of f vs ≤ k * total_of g vs = total_least k f g vs (λ j u at. each (suc j) u at) in
      let c : k * (g v + total_of g vs) ≡ k * g v + k * total_of g vs = mul-add k (g v) (total_of g vs) in
      omega (arith, a, b, c)

  pub dealt_same : (vs : List (View S N)) (id : ℕ) (v w : View S N) → get_elem? vs id ≡ some v → rights_of w ≡ rights_of v
      → total_of rights_of (slice_set vs id w) ≡ total_of rights_of vs
  dealt_same vs id v w at e =
      let t : total_of rights_of (slice_set vs id w) + rights_of v ≡ total_of rights_of vs + rights_of w =
      total_set rights_of vs id v w at in
      omega (arith, t, e)

  gone_least : (k : ℕ) (gs : List (Gone S N)) → ((g : Gone S N) → Has g gs → g.added ≤ k)
      → total_of (λ (g : Gone S N). g.added) gs ≤ k * length gs
  gone_least k [] each = omega arith
  gone_least k (g ∷ gs) each =
      let a : g.added ≤ k = each g (inl refl) in
      let b : total_of (λ (g : Gone S N). g.added) gs ≤ k * length gs = gone_least k gs (λ x has. each x (inr has)) in
      let c : k * (1 + length gs) ≡ k * 1 + k * length gs = mul-add k 1 (length gs) in
      let d : k * suc (length gs) ≡ k * (1 + length gs) =
      ap (λ (n : ℕ). k * n) (let e : suc (length gs) ≡ 1 + length gs = omega arith in e) in
      omega (arith, a, b, c, d)

  adds_least : (room tail : ℕ) (v : View S N) → Adds room tail v → added_of v ≤ (room + 1) * rights_of v
  adds_least room tail v f =
      let a : v.added ≤ (room + 1) * v.rights = f.once in
      let b : total_of (λ (g : Gone S N). g.added) v.gone ≤ (room + 1) * length v.gone =
      gone_least (room + 1) v.gone (λ g has. (f.gone g has).0) in
      let c : (room + 1) * (v.rights + length v.gone) ≡ (room + 1) * v.rights + (room + 1) * length v.gone =
      mul-add (room + 1) v.rights (length v.gone) in
      omega (arith, a, b, c)

  -- each of the 64 parts of the right moves the tail beyond the room once at most
  pub tail_least : (opened room tail : ℕ) (vs : List (View S N)) → IsTail opened room tail vs
      → total_of rights_of vs ≤ 64 → tail ≤ room + (room + 1) * 64
  tail_least opened room tail vs h rights =
      let few : total_of added_of vs ≤ (room + 1) * total_of rights_of vs =
      total_least (room + 1) added_of rights_of vs (λ j v at. adds_least room tail v (h.each j v at)) in
      let many : (room + 1) * total_of rights_of vs ≤ (room + 1) * 64 = mul-le-mul_left (room + 1) rights in
      let least : total_of added_of vs ≤ (room + 1) * 64 = omega (arith, few, many) in
      let most : tail ≤ room + total_of added_of vs = h.most in
      omega (arith, least, most)

  -- so an advance by the room and one at most doesn't wrap
  pub tail_stays : (opened room tail count : ℕ) (vs : List (View S N)) → IsTail opened room tail vs → room ≤ 2 ^ 24
      → total_of rights_of vs ≤ 64 → count ≤ room + 1 → (tail + count) % 2 ^ 64 ≡ tail + count
  tail_stays opened room tail count vs h small rights least =
      let a : tail ≤ room + (room + 1) * 64 = tail_least opened room tail vs h rights in
      omega (arith, a, small, least)

  adds_on : (room tail later : ℕ) (v : View S N) → tail ≤ later → Adds room tail v → Adds room later v
  adds_on room tail later v l f = record {
    once = f.once;
    unrefused = f.unrefused;
    found = λ n count e. let a : n + min count (room + 1) ≤ tail = f.found n count e in omega (arith, a, l);
    untaken = f.untaken;
    gone = λ g has. (
      (f.gone g has).0,
      λ n count e. let a : n + min count (room + 1) ≤ tail =
          (f.gone g has).1 n count e in omega (arith, a, l),
    );
  }

  -- the seat id goes on with the view w, and the tail with it
  tail_set : (opened room tail later : ℕ) (vs : List (View S N)) (id : ℕ) (v w : View S N) → IsTail opened room tail vs
      → get_elem? vs id ≡ some v
      → tail ≤ later → later + moved_of v ≡ tail + moved_of w
      → later ≤ room + total_of added_of (slice_set vs id w) → Adds room later w → IsTail opened room later (slice_set vs id w)
  tail_set opened room tail later vs id v w h at l moves most adds = record {
    is =
        let a : tail ≡ opened + total_of moved_of vs = h.is in
        let b : total_of moved_of (slice_set vs id w) + moved_of v ≡ total_of moved_of vs + moved_of w = total_set moved_of vs id v w at in
        omega (arith, a, b, moves);
    most = most;
    each = λ j u there. ⊎_elim
        (λ (t : (j ≡ id) × (w ≡ u)). subst (λ (x : View S N). Adds room later x) t.1 adds)
        (λ (t : (j ≢ id) × (get_elem? vs j ≡ some u)). adds_on room tail later u l (h.each j u t.1)) (at_set vs id j w u there);
  }

  -- the view w has moved the tail as far as v, and has parts of the right to draw enough
  tail_kept : (opened room tail : ℕ) (vs : List (View S N)) (id : ℕ) (v w : View S N) → IsTail opened room tail vs
      → get_elem? vs id ≡ some v
      → moves_of w ≡ moves_of v → w.added ≤ (room + 1) * w.rights → (w.rights ≡ 0 → w.taken ≡ 0)
      → IsTail opened room tail (slice_set vs id w)
  tail_kept opened room tail vs id v w h at same once untaken =
      let full : w.full ≡ v.full = ap (λ m. m.0) same in
      let added : w.added ≡ v.added = ap (λ m. m.2) same in
      let f : Adds room tail v = h.each id v at in
      let most : tail ≤ room + total_of added_of vs = h.most in
      let moved : moved_of w ≡ moved_of v = ap (λ m. (m.1 + m.2) + total_of (λ (g : Gone S N). g.taken + g.added) m.3) same in
      let more : added_of w ≡ added_of v = ap (λ m. m.2 + total_of (λ (g : Gone S N). g.added) m.3) same in
      let t : total_of added_of (slice_set vs id w) + added_of v ≡ total_of added_of vs + added_of w = total_set added_of vs id v w at in
      tail_set opened room tail tail vs id v w h at (omega arith) (omega (arith, moved)) (omega (arith, most, t, more))
      (record {
        once = once;
        unrefused = λ e. added ∙ f.unrefused (sym full ∙ e);
        found = λ n count e. f.found n count (sym full ∙ e);
        untaken = untaken;
        gone = λ g has. f.gone g (subst (λ (gs : List (Gone S N)). Has g gs) (ap (λ m. m.3) same) has);
      })

  tail_same : (opened room tail : ℕ) (vs : List (View S N)) (id : ℕ) (v w : View S N) → IsTail opened room tail vs
      → get_elem? vs id ≡ some v
      → moves_of w ≡ moves_of v → w.rights ≡ v.rights → IsTail opened room tail (slice_set vs id w)
  tail_same opened room tail vs id v w h at same rights =
      let once : v.added ≤ (room + 1) * v.rights = (h.each id v at).once in
      let added : w.added ≡ v.added = ap (λ m. m.2) same in
      tail_kept opened room tail vs id v w h at same
      (subst (λ (n : ℕ × ℕ). n.0 ≤ (room + 1) * n.1) (λ i. (sym added i, sym rights i)) once)
      (λ e. ap (λ m. m.1) same ∙ (h.each id v at).untaken (sym rights ∙ e))

  -- ---- seats

  -- the others are as they were, where the tail goes on and the store and the ranges stay
  others_stay : (room : ℕ) (opened : List ℕ) (tail later : ℕ) (ranges : List Range) (store : List ℕ) (vs : List (View S N)) (id : ℕ)
      → tail ≤ later
      → Shelf room opened ranges tail store vs → Others (length opened) room later ranges store vs id
  others_stay room opened tail later ranges store vs id l h = record {
    taken = λ j u t other there e. taken_on (length opened) room tail later store t l (h.taken j u t there e);
    apart = λ j u t r other there e has. h.apart j u t r there e has;
  }

  own_stays : (room : ℕ) (opened : List ℕ) (tail later : ℕ) (ranges : List Range) (store : List ℕ) (vs : List (View S N)) (id : ℕ)
      (v : View S N) (s : Staging)
      → tail ≤ later → Shelf room opened ranges tail store vs → get_elem? vs id ≡ some v → v.staging ≡ Some s
      → Own (length opened) room later ranges store vs id s
  own_stays room opened tail later ranges store vs id v s l h at e = record {
    taken = taken_on (length opened) room tail later store s l (h.taken id v s at e);
    apart = λ r has. h.apart id v s r at e has;
    alone = λ j u t other there f. h.alone id j v u s t (λ p. other (sym p)) at there e f;
  }

  -- the seat id goes on with a view of the same range
  shelf_kept : (room : ℕ) (opened : List ℕ) (tail : ℕ) (ranges : List Range) (store : List ℕ) (vs : List (View S N)) (id : ℕ)
      (v w : View S N)
      → Shelf room opened ranges tail store vs → get_elem? vs id ≡ some v → w.staging ≡ v.staging
      → IsTail (length opened) room tail (slice_set vs id w)
      → Shelf room opened ranges tail store (slice_set vs id w)
  shelf_kept room opened tail ranges store vs id v w h at staging counted =
      shelf_set room opened tail tail ranges ranges store store vs id w h h.long h.left counted h.finished
      (others_stay room opened tail tail ranges store vs id (omega arith) h)
      (λ s e. own_stays room opened tail tail ranges store vs id v s (omega arith) h at (sym staging ∙ e))

  pub shelf_same : (room : ℕ) (opened : List ℕ) (tail : ℕ) (ranges : List Range) (store : List ℕ) (vs : List (View S N)) (id : ℕ)
      (v w : View S N)
      → Shelf room opened ranges tail store vs → get_elem? vs id ≡ some v
      → (w.staging ≡ v.staging) × (moves_of w ≡ moves_of v) × (w.rights ≡ v.rights)
      → Shelf room opened ranges tail store (slice_set vs id w)
  shelf_same room opened tail ranges store vs id v w h at same =
      shelf_kept room opened tail ranges store vs id v w h at same.0
      (tail_same (length opened) room tail vs id v w h.tail_is at same.1 same.2)

  -- it has staged nothing, and wasn't refused
  abbrev pub IsUnused : View S N → Type 0
  IsUnused u = (u.staging ≡ None) × (moves_of u ≡ (None, 0, 0, []))

  -- a new seat that has staged nothing
  shelf_snoc : (room : ℕ) (opened : List ℕ) (tail : ℕ) (ranges : List Range) (store : List ℕ) (vs : List (View S N)) (u : View S N)
      → Shelf room opened ranges tail store vs → IsUnused u → Shelf room opened ranges tail store (vs ++ u ∷ [])
  shelf_snoc room opened tail ranges store vs u h unused = record {
    long = h.long;
    small = h.small;
    left = h.left;
    tail_is =
        let taken : u.taken ≡ 0 = ap (λ m. m.1) unused.1 in
        let added : u.added ≡ 0 = ap (λ m. m.2) unused.1 in
        let full : u.full ≡ None = ap (λ m. m.0) unused.1 in
        record {
          is =
              let a : tail ≡ length opened + total_of moved_of vs = h.tail_is.is in
              let b : total_of moved_of (vs ++ u ∷ []) ≡ total_of moved_of vs + moved_of u = total_snoc moved_of vs u in
              let c : moved_of u ≡ 0 = ap (λ m. (m.1 + m.2) + total_of (λ (g : Gone S N). g.taken + g.added) m.3) unused.1 in
              omega (arith, a, b, c);
          most =
              let a : tail ≤ room + total_of added_of vs = h.tail_is.most in
              let b : total_of added_of (vs ++ u ∷ []) ≡ total_of added_of vs + added_of u = total_snoc added_of vs u in
              omega (arith, a, b);
          each = λ j v there. ⊎_elim (λ (p : get_elem? vs j ≡ some v). h.tail_is.each j v p)
              (λ (p : u ≡ v). subst (λ (x : View S N). Adds room tail x) p (record {
                once = omega (arith, added);
                unrefused = λ _. added;
                found = λ n count e. absurd (none-some (n, count) (sym full ∙ e));
                untaken = λ _. taken;
                gone = λ g has. absurd (subst (λ (gs : List (Gone S N)). Has g gs) (ap (λ m. m.3) unused.1) has);
              }))
              (at_snoc vs u v j there);
        };
    finished = h.finished;
    taken = λ j v s there e. h.taken j v s (old j v s there e) e;
    apart = λ j v s r there e has. h.apart j v s r (old j v s there e) e has;
    alone = λ j k v w s t other p q e f. h.alone j k v w s t other (old j v s p e) (old k w t q f) e f;
  }
    where
      old : (j : ℕ) (v : View S N) (s : Staging) → get_elem? (vs ++ u ∷ []) j ≡ some v → v.staging ≡ Some s → get_elem? vs j ≡ some v
      old j v s there e = ⊎_elim (λ (p : get_elem? vs j ≡ some v). p)
          (λ (p : u ≡ v). absurd (none-some s (sym unused.0 ∙ ap (λ (x : View S N). x.staging) p ∙ e))) (at_snoc vs u v j there)

  pub shelf_shared : (room : ℕ) (opened : List ℕ) (tail : ℕ) (ranges : List Range) (store : List ℕ) (vs : List (View S N)) (id : ℕ)
      (v w u : View S N)
      → Shelf room opened ranges tail store vs → get_elem? vs id ≡ some v → w.staging ≡ v.staging → moves_of w ≡ moves_of v
      → w.added ≤ (room + 1) * w.rights → (w.rights ≡ 0 → w.taken ≡ 0) → IsUnused u
      → Shelf room opened ranges tail store (slice_set vs id w ++ u ∷ [])
  shelf_shared room opened tail ranges store vs id v w u h at staging same once untaken unused =
      shelf_snoc room opened tail ranges store (slice_set vs id w) u
      (shelf_kept room opened tail ranges store vs id v w h at staging
      (tail_kept (length opened) room tail vs id v w h.tail_is at same once untaken)) unused

  -- ---- the tail moves

  -- the words up to the new tail are the seat's
  pub shelf_taken : (room : ℕ) (opened : List ℕ) (tail : ℕ) (ranges : List Range) (store : List ℕ) (vs : List (View S N)) (id : ℕ)
      (v w : View S N) (words : List ℕ)
      → Shelf room opened ranges tail store vs → get_elem? vs id ≡ some v → words ≢ [] → tail + length words ≤ room
      → w.staging ≡ Some (record { start = tail; words = words; done = 0 }) → moves_of w ≡ (v.full, v.taken + length words, v.added, v.gone)
      → w.rights ≡ v.rights → 1 ≤ v.rights
      → Shelf room opened ranges (tail + length words) store (slice_set vs id w)
  shelf_taken room opened tail ranges store vs id v w words h at some_words fits staging moves rights some_rights =
      shelf_set room opened tail (tail + length words) ranges ranges store store vs id w h h.long
      (left_on opened room tail (tail + length words) store (omega arith) h.left) counted
      (λ r has. stored_on tail (tail + length words) store r (omega arith) (h.finished r has))
      (others_stay room opened tail (tail + length words) ranges store vs id (omega arith) h)
      (λ s e. subst (λ (z : Staging). Own (length opened) room (tail + length words) ranges store vs id z)
      (one_staging w.staging (record { start = tail; words = words; done = 0 }) s staging e) own)
    where
      longer : (xs : List ℕ) → xs ≢ [] → 0 < length xs
      longer [] n = absurd (n refl)
      longer (x ∷ xs) n = omega arith

      counted : IsTail (length opened) room (tail + length words) (slice_set vs id w)
      counted =
          let full : w.full ≡ v.full = ap (λ m. m.0) moves in
          let added : w.added ≡ v.added = ap (λ m. m.2) moves in
          let all : moved_of w ≡ ((v.taken + length words) + v.added) + total_of (λ (g : Gone S N). g.taken + g.added) v.gone =
          ap (λ m. (m.1 + m.2) + total_of (λ (g : Gone S N). g.taken + g.added) m.3) moves in
          let moved : moved_of w ≡ moved_of v + length words = omega (arith, all) in
          let f : Adds room (tail + length words) v = adds_on room tail (tail + length words) v (omega arith) (h.tail_is.each id v at) in
          tail_set (length opened) room tail (tail + length words) vs id v w h.tail_is at (omega arith) (omega (arith, moved))
          (omega (arith, fits))
          (record {
            once = subst (λ (n : ℕ × ℕ). n.0 ≤ (room + 1) * n.1) (λ i. (sym added i, sym rights i)) f.once;
            unrefused = λ e. added ∙ f.unrefused (sym full ∙ e);
            found = λ n count e. f.found n count (sym full ∙ e);
            untaken = λ e. absurd (omega (arith, e, rights, some_rights));
            gone = λ g has. f.gone g (subst (λ (gs : List (Gone S N)). Has g gs) (ap (λ m. m.3) moves) has);
          })

      own : Own (length opened) room (tail + length words) ranges store vs id (record { start = tail; words = words; done = 0 })
      own = record {
        taken = record {
          behind = let a : tail ≡ length opened + total_of moved_of vs = h.tail_is.is in omega (arith, a);
          inside = fits;
          below = omega arith;
          left = longer words some_words;
          stored = λ i x l e. absurd (omega (arith, l));
        };
        apart = λ r has i l. inl (below_tail tail store r i (h.finished r has) l);
        alone = λ j u t other there e. inr ((h.taken j u t there e).below);
      }

  -- the tail is beyond the room
  pub shelf_refused : (room : ℕ) (opened : List ℕ) (tail : ℕ) (ranges : List Range) (store : List ℕ) (vs : List (View S N)) (id : ℕ)
      (v w : View S N) (many count : ℕ)
      → Shelf room opened ranges tail store vs → get_elem? vs id ≡ some v → v.full ≡ None → 1 ≤ v.rights → count ≡ min many (room + 1)
      → w.staging ≡ v.staging → moves_of w ≡ (Some (tail, many), v.taken, count, v.gone) → w.rights ≡ v.rights
      → Shelf room opened ranges (tail + count) store (slice_set vs id w)
  shelf_refused room opened tail ranges store vs id v w many count h at none_refused some_rights is_count staging moves rights =
      shelf_set room opened tail (tail + count) ranges ranges store store vs id w h h.long
      (left_on opened room tail (tail + count) store (omega arith) h.left) counted
      (λ r has. stored_on tail (tail + count) store r (omega arith) (h.finished r has))
      (others_stay room opened tail (tail + count) ranges store vs id (omega arith) h)
      (λ s e. own_stays room opened tail (tail + count) ranges store vs id v s (omega arith) h at (sym staging ∙ e))
    where
      found : (o : Option (ℕ × ℕ)) → o ≡ Some (tail, many) → (n k : ℕ) → o ≡ Some (n, k) → n + min k (room + 1) ≤ tail + count
      found o e n k f =
          let p : (tail, many) ≡ (n, k) = cc in
          subst (λ (p : ℕ × ℕ). p.0 + min p.1 (room + 1) ≤ tail + count) p (omega (arith, is_count))

      counted : IsTail (length opened) room (tail + count) (slice_set vs id w)
      counted =
          let full : w.full ≡ Some (tail, many) = ap (λ m. m.0) moves in
          let added : w.added ≡ count = ap (λ m. m.2) moves in
          let moved : moved_of w ≡ (v.taken + count) + total_of (λ (g : Gone S N). g.taken + g.added) v.gone =
          ap (λ m. (m.1 + m.2) + total_of (λ (g : Gone S N). g.taken + g.added) m.3) moves in
          let more : added_of w ≡ count + total_of (λ (g : Gone S N). g.added) v.gone =
          ap (λ m. m.2 + total_of (λ (g : Gone S N). g.added) m.3) moves in
          let none : v.added ≡ 0 = (h.tail_is.each id v at).unrefused none_refused in
          let most : tail ≤ room + total_of added_of vs = h.tail_is.most in
          let t : total_of added_of (slice_set vs id w) + added_of v ≡ total_of added_of vs + added_of w =
          total_set added_of vs id v w at in
          let least : min many (room + 1) ≤ room + 1 = min-le_right many (room + 1) in
          let product : (room + 1) * 1 ≤ (room + 1) * w.rights =
          mul-le-mul_left (room + 1) (let l : 1 ≤ w.rights = omega (arith, some_rights, rights) in l) in
          tail_set (length opened) room tail (tail + count) vs id v w h.tail_is at (omega arith) (omega (arith, moved, none))
          (omega (arith, most, t, more, none))
          (record {
            once = omega (arith, added, is_count, least, product);
            unrefused = λ e. absurd (none-some (tail, many) (sym e ∙ full));
            found = found w.full full;
            untaken = λ e. absurd (omega (arith, e, rights, some_rights));
            gone = λ g has. (adds_on room tail (tail + count) v (omega arith) (h.tail_is.each id v at)).gone g
                (subst (λ (gs : List (Gone S N)). Has g gs) (ap (λ m. m.3) moves) has);
          })

  -- ---- the seat's next word is stored

  module _ (room : ℕ) (opened : List ℕ) (tail : ℕ) (ranges : List Range) (store : List ℕ) (vs : List (View S N)) (id : ℕ) (v : View S N)
      (s : Staging) (word : ℕ)
      (h : Shelf room opened ranges tail store vs) (at : get_elem? vs id ≡ some v) (staging : v.staging ≡ Some s)
      (next : slice_get s.words s.done ≡ Some word) where
    -- the store then
    abbrev pub with_word : List ℕ
    with_word = slice_set store (s.start + s.done) word

    mine : IsBeingFilled (length opened) room tail store s
    mine = h.taken id v s at staging

    long : length with_word ≡ room
    long = length-slice_set store (s.start + s.done) word ∙ h.long

    there : slice_get with_word (s.start + s.done) ≡ Some word
    there =
        let a : s.start + length s.words ≤ room = mine.inside in
        let b : s.done < length s.words = mine.left in
        let c : length store ≡ room = h.long in
        get-set_same store (s.start + s.done) word _ (slice_get-get_or store (s.start + s.done) 0 (omega (arith, a, b, c)))

    elsewhere : (k x : ℕ) → k ≢ s.start + s.done → slice_get store k ≡ Some x → slice_get with_word k ≡ Some x
    elsewhere k x other e = get-set_other store (s.start + s.done) k word other ∙ e

    finished_stay : (r : Range) → Has r ranges → IsStored tail with_word r
    finished_stay r has i x e =
        let a : (slice_get store (r.start + i) ≡ Some x) × (r.start + i < tail) = h.finished r has i x e in
        let l : i < length r.words = get_within r.words i x e in
        let left : s.done < length s.words = mine.left in (
          elsewhere (r.start + i) x
              (⊎_elim (λ (b : r.start + i < s.start). λ p. omega (arith, b, p))
              (λ (b : s.start + length s.words ≤ r.start + i). λ p. omega (arith, b, p, left))
              (h.apart id v s r at staging has i l)) a.0,
          a.1,
        )

    others_taken : (j : ℕ) (u : View S N) (t : Staging) → j ≢ id → get_elem? vs j ≡ some u → u.staging ≡ Some t
        → IsBeingFilled (length opened) room tail with_word t
    others_taken j u t other at_u e =
        let f : IsBeingFilled (length opened) room tail store t = h.taken j u t at_u e in
        let left : s.done < length s.words = mine.left in
        let more : t.done < length t.words = f.left in
        record {
          behind = f.behind;
          inside = f.inside;
          below = f.below;
          left = f.left;
          stored = λ i x l here. elsewhere (t.start + i) x
              (⊎_elim (λ (b : s.start + length s.words ≤ t.start). λ p. omega (arith, b, p, left))
              (λ (b : t.start + length t.words ≤ s.start). λ p. omega (arith, b, p, l, more))
              (h.alone id j v u s t (λ p. other (sym p)) at at_u staging e)) (f.stored i x l here);
        }

    -- one word more of the range is stored
    stored_next : (i x : ℕ) → i < s.done + 1 → slice_get s.words i ≡ Some x → slice_get with_word (s.start + i) ≡ Some x
    stored_next i x l e = ⊎_elim
        (λ (p : i ≡ s.done).
        let a : Some word ≡ Some x = sym next ∙ (ap (λ (k : ℕ). slice_get s.words k) (sym p) ∙ e) in
        ap (λ (k : ℕ). slice_get with_word (s.start + k)) p ∙ (there ∙ a))
        (λ (p : i ≢ s.done). elsewhere (s.start + i) x (λ q. p (omega (arith, q))) (mine.stored i x (let m : i < s.done =
        grind (arith, l, p) in m) e))
        (same_or_not s.done i)

    left_stays : IsLeft opened room tail with_word
    left_stays = record {
      opening = λ o x e.
          let l : o < length opened = get_within opened o x e in
          let b : length opened ≤ s.start = mine.behind in
          elsewhere o x (λ p. omega (arith, l, b, p)) (h.left.opening o x e);
      blank = λ o l m.
          let b : s.start + length s.words ≤ tail = mine.below in
          let c : s.done < length s.words = mine.left in
          elsewhere o 0 (λ p. omega (arith, l, b, c, p)) (h.left.blank o l m);
    }

    -- more words are left
    pub shelf_filled : (w : View S N) → s.done + 1 < length s.words → w.staging ≡ Some (record s { done = s.done + 1 })
        → moves_of w ≡ moves_of v → w.rights ≡ v.rights
        → Shelf room opened ranges tail with_word (slice_set vs id w)
    shelf_filled w more after same rights =
        shelf_set room opened tail tail ranges ranges store with_word vs id w h long left_stays
        (tail_same (length opened) room tail vs id v w h.tail_is at same rights) finished_stay
        (record { taken = others_taken; apart = λ j u t r other at_u e has. h.apart j u t r at_u e has })
        (λ z e. subst (λ (z : Staging). Own (length opened) room tail ranges with_word vs id z)
        (one_staging w.staging (record s { done = s.done + 1 }) z after e) own)
      where
        own : Own (length opened) room tail ranges with_word vs id (record s { done = s.done + 1 })
        own = record {
          taken = record { behind = mine.behind; inside = mine.inside; below = mine.below; left = more; stored = stored_next };
          apart = λ r has. h.apart id v s r at staging has;
          alone = λ j u t other at_u e. h.alone id j v u s t (λ p. other (sym p)) at at_u staging e;
        }

    -- the finished ranges, with the seat's
    abbrev pub with_range : List Range
    with_range = (record { start = s.start; words = s.words }) ∷ ranges

    -- once the last word is stored, all of these are
    new_stored : s.done + 1 ≡ length s.words → IsStored tail with_word (record { start = s.start; words = s.words })
    new_stored last i x e =
        let l : i < length s.words = get_within s.words i x e in
        let below : s.start + length s.words ≤ tail = mine.below in
        (stored_next i x (omega (arith, l, last)) e, omega (arith, l, below))

    all_finished : s.done + 1 ≡ length s.words → (r : Range) → Has r with_range → IsStored tail with_word r
    all_finished last r (inl p) = subst (λ (r : Range). IsStored tail with_word r) (sym p) (new_stored last)
    all_finished last r (inr has) = finished_stay r has

    -- the range is finished
    pub shelf_finished : (w : View S N) → s.done + 1 ≡ length s.words → w.staging ≡ None → moves_of w ≡ moves_of v → w.rights ≡ v.rights
        → Shelf room opened with_range tail with_word (slice_set vs id w)
    shelf_finished w last after same rights =
        shelf_set room opened tail tail ranges with_range store with_word vs id w h long left_stays
        (tail_same (length opened) room tail vs id v w h.tail_is at same rights) (all_finished last)
        (record { taken = others_taken; apart = others_apart })
        (λ z e. absurd (none-some z (sym after ∙ e)))
      where
        new_apart : (j : ℕ) (u : View S N) (t : Staging) → j ≢ id → get_elem? vs j ≡ some u → u.staging ≡ Some t
            → IsApart t (record { start = s.start; words = s.words })
        new_apart j u t other at_u e i l = ⊎_elim
            (λ (b : s.start + length s.words ≤ t.start). inl (omega (arith, b, l)))
            (λ (b : t.start + length t.words ≤ s.start). inr (omega (arith, b)))
            (h.alone id j v u s t (λ p. other (sym p)) at at_u staging e)

        others_apart : (j : ℕ) (u : View S N) (t : Staging) (r : Range) → j ≢ id → get_elem? vs j ≡ some u → u.staging ≡ Some t
            → Has r with_range → IsApart t r
        others_apart j u t r other at_u e (inl p) = subst (λ (r : Range). IsApart t r) (sym p) (new_apart j u t other at_u e)
        others_apart j u t r other at_u e (inr has) = h.apart j u t r at_u e has

    -- each of them lies in the room
    lies_more : AreOfOneStore room ranges → (r : Range) → Has r with_range → (i : ℕ) → i < length r.words → r.start + i < room
    lies_more lie r (inl p) i l =
        let b : s.start + length s.words ≤ room = mine.inside in
        subst (λ (r : Range). (i : ℕ) → i < length r.words → r.start + i < room) (sym p) (λ i l. omega (arith, b, l)) i l
    lies_more lie r (inr has) i l = lie.0 r has i l

    pub lie_more : s.done + 1 ≡ length s.words → AreOfOneStore room ranges → AreOfOneStore room with_range
    lie_more last lie = (lies_more lie, stored_coherent tail with_word with_range (all_finished last))
