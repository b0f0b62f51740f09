-- How histories grow, and that one version stays one.
use Rattle.std.proofs.Common.{List, None, Option, Some, [], ap, arith, inl, inr, length, refl, slice_get, slice_index, suc, sym, zero, ℕ}
use Rattle.std.proofs.Common.{◌++◌, ◌<◌, ◌∙◌, ◌∷◌, ◌≡◌, ◌≢◌, ◌≤◌, ◌⊎◌}
use Rattle.tlcore.specs.History.{Did, Done, WordsEntry, EntryGrows, Grows, IsOne, Nothing, One, Open, Status, Void, IsVersionOf, Will, deed}
use Rattle.tlcore.specs.History.{deed_in, deed_of, settle}
use Rattle.ranges.specs.Pairs.{written}
use Rattle.tlcore.proofs.Deeds.{did, value-same}
use Rattle.tlcore.proofs.Lists.{get-append_left, get_within, length-append_one, same_or_not}
use Rattle.tlcore.proofs.Settling.{get-settle_other, get-settle_same, length-settle}

pub get_exists : {A : Type 0} (xs : List A) (i : ℕ) → i < length xs → (x : A) × (slice_get xs i ≡ Some x)
get_exists [] i h = absurd (omega arith)
get_exists (x ∷ xs) zero h = (x, refl)
get_exists (x ∷ xs) (suc i) h = get_exists xs i (omega arith)

deed_none : (s : Status) → deed_of s None ≡ Nothing
deed_none Open = refl
deed_none Void = refl
deed_none Done = refl

deed_settled : (s z : Status) (w : Option ℕ) → (s ≢ Open → z ≡ s) → ((v : ℕ) → deed_of s w ≡ Will v → ⊥) → deed_of z w ≡ deed_of s w
deed_settled Open z (Some v) k n = absurd (n v refl)
deed_settled Open z None k n = deed_none z
deed_settled Void z w k n = ap (λ (a : Status). deed_of a w) (k (λ e. cc))
deed_settled Done z w k n = ap (λ (a : Status). deed_of a w) (k (λ e. cc))

deed_grows : (c : ℕ) (e f : WordsEntry) → EntryGrows e f → ((v : ℕ) → deed_in c (Some e) ≡ Will v → ⊥)
    → deed_in c (Some f) ≡ deed_in c (Some e)
deed_grows c e f g n =
    ap (λ (ws : List (ℕ × ℕ)). deed_of f.status (written c ws)) g.1 ∙ deed_settled e.status f.status (written c e.writes) g.2 n

-- a deed that isn't awaited stays
pub deed-kept : (g h : List WordsEntry) (c i : ℕ) → Grows g h → i < length g → ((v : ℕ) → deed g c i ≡ Will v → ⊥) → deed h c i ≡ deed g c i
deed-kept g h c i r l n =
    let x : (e : WordsEntry) × (slice_get g i ≡ Some e) = get_exists g i l in
    let y : (f : WordsEntry) × (slice_get h i ≡ Some f) × EntryGrows x.0 f = r.1 i x.0 x.1 in
    ap (deed_in c) y.1 ∙ (deed_grows c x.0 y.0 y.2 (λ v e. n v (ap (deed_in c) x.1 ∙ e)) ∙ sym (ap (deed_in c) x.1))

pub IsOne-kept : (o : List ℕ) (g h : List WordsEntry) (k c v : ℕ) → Grows g h → k ≤ length g → IsOne o g k c v → IsOne o h k c v
IsOne-kept o g h k c v r l p =
    (value-same (deed g c) (deed h c) (slice_index o c) k (λ i m. ap did (same i m)) ∙ p.0, λ i u m e. p.1 i u m (sym (same i m) ∙ e))
  where
    same : (i : ℕ) → i < k → deed h c i ≡ deed g c i
    same i m = deed-kept g h c i r (omega arith) (λ u e. p.1 i u m e)

pub One-kept : (o : List ℕ) (g h : List WordsEntry) (k : ℕ) (rs : List (ℕ × ℕ)) → Grows g h → k ≤ length g → One o g k rs → One o h k rs
One-kept o g h k [] r l p = tt
One-kept o g h k (x ∷ rs) r l p = (IsOne-kept o g h k x.0 x.1 r l p.0, One-kept o g h k rs r l p.1)

pub EntryGrows-refl : (e : WordsEntry) → EntryGrows e e
EntryGrows-refl e = (refl, refl, λ n. refl)

pub Grows-refl : (h : List WordsEntry) → Grows h h
Grows-refl h = (omega arith, λ i e p. (e, p, EntryGrows-refl e))

EntryGrows-trans : (e f g : WordsEntry) → EntryGrows e f → EntryGrows f g → EntryGrows e g
EntryGrows-trans e f g p q = (q.0 ∙ p.0, q.1 ∙ p.1, λ n. q.2 (λ o. n (sym (p.2 n) ∙ o)) ∙ p.2 n)

pub Grows-trans : (f g h : List WordsEntry) → Grows f g → Grows g h → Grows f h
Grows-trans f g h p q = (omega (arith, p.0, q.0), λ i e a. step i e (p.1 i e a))
  where
    step : (i : ℕ) (e : WordsEntry) → (d : WordsEntry) × (slice_get g i ≡ Some d) × EntryGrows e d
        → (d : WordsEntry) × (slice_get h i ≡ Some d) × EntryGrows e d
    step i e x =
        let y : (d : WordsEntry) × (slice_get h i ≡ Some d) × EntryGrows x.0 d = q.1 i x.0 x.1 in
        (y.0, y.1, EntryGrows-trans e x.0 y.0 x.2 y.2)

pub Grows-append : (h : List WordsEntry) (e : WordsEntry) → Grows h (h ++ e ∷ [])
Grows-append h e =
    (omega (arith, length-append_one h e), λ i d p. (d, get-append_left h (e ∷ []) i (get_within h i d p) ∙ p, EntryGrows-refl d))

-- an entry is settled where it is Open, or has that status
pub Grows-settle : (h : List WordsEntry) (i : ℕ) (s : Status) → ((e : WordsEntry) → slice_get h i ≡ Some e → e.status ≢ Open → s ≡ e.status)
    → Grows h (settle h i s)
Grows-settle h i s k = (omega (arith, length-settle h i s), λ j e p. step j e p (same_or_not i j))
  where
    step : (j : ℕ) (e : WordsEntry) → slice_get h j ≡ Some e → (j ≡ i) ⊎ (j ≢ i)
        → (d : WordsEntry) × (slice_get (settle h i s) j ≡ Some d) × EntryGrows e d
    step j e p (inl q) =
        let a : slice_get h i ≡ Some e = rw q at p in
        (record e { status = s }, ap (slice_get (settle h i s)) q ∙ get-settle_same h i s e a, (refl, refl, λ n. k e a n))
    step j e p (inr q) = (e, get-settle_other h i j s q ∙ p, EntryGrows-refl e)

deed_within : (h : List WordsEntry) (c i x : ℕ) → deed h c i ≡ Did x → i < length h
deed_within [] c i x e = cc
deed_within (d ∷ h) c zero x e = omega arith
deed_within (d ∷ h) c (suc i) x e = let r : i < length h = deed_within h c i x e in omega arith

pub WasWritten-kept : (g h : List WordsEntry) (c v : ℕ) → Grows g h → IsVersionOf g c v → IsVersionOf h c v
WasWritten-kept g h c v r (inl p) = inl p
WasWritten-kept g h c v r (inr p) =
    inr (p.0, p.1, p.2, deed-kept g h c p.0 r (deed_within g c p.0 p.1 p.3) (λ u e. apart u (sym p.3 ∙ e)) ∙ p.3)
  where
    apart : (u : ℕ) → Did p.1 ≡ Will u → ⊥
    apart u e = cc
