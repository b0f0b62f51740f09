-- The release of a cell keeps what the parts say of each other: after its store, and after a conflict.
use Rattle.std.proofs.Common.{List, None, Option, Some, ap, arith, inl, inr, length, refl, slice_get, slice_set, subst, suc, sym, true, ℕ}
use Rattle.std.proofs.Common.{◌*◌, ◌<◌, ◌∙◌, ◌≡◌, ◌≢◌, ◌⊎◌}
use Rattle.tlcore.specs.History.{Done, WordsEntry, Grows, One, Open, Status, Void, Will, deed, deed_of, settle, value}
use Rattle.ranges.specs.Pairs.{written}
use Rattle.tlcore.specs.Seats.{Failing, Held, Phase, Seat, Storing, Voiding, find_held, number_at, without}
use Rattle.tlcore.specs.Machine.{Cell, World, release}
use Rattle.tlcore.specs.Invariant.{Consistent, HeldOk, HistoryOk, PhaseOk, SeatOk}
use Rattle.tlcore.proofs.Deeds.{did}
use Rattle.tlcore.proofs.GivenBack.{release_goes}
use Rattle.tlcore.proofs.Growth.{Grows-refl, Grows-settle, One-kept}
use Rattle.tlcore.proofs.Lists.{get_within, same_or_not}
use Rattle.tlcore.proofs.Settling.{deed_elsewhere, deed_now, deed_there, get-settle_cases, get-settle_other, get-settle_same, length-settle}
use Rattle.tlcore.proofs.Stays.{Stays-refl, alike_stays}

done_will : (ws : Option ℕ) (u : ℕ) → deed_of Done ws ≡ Will u → ⊥
done_will None u e = cc
done_will (Some v) u e = cc

void_will : (ws : Option ℕ) (u : ℕ) → deed_of Void ws ≡ Will u → ⊥
void_will None u e = cc
void_will (Some v) u e = cc

void_did : (ws : Option ℕ) → did (deed_of Void ws) ≡ None
void_did None = refl
void_did (Some v) = refl

undone_did : (z : Status) (ws : Option ℕ) → z ≢ Done → did (deed_of z ws) ≡ None
undone_did Open None n = refl
undone_did Open (Some v) n = refl
undone_did Void None n = refl
undone_did Void (Some v) n = refl
undone_did Done ws n = absurd (n refl)

open_or_void : (z : Status) → z ≢ Done → z ≢ Open → Void ≡ z
open_or_void Open n m = absurd (m refl)
open_or_void Void n m = refl
open_or_void Done n m = absurd (n refl)

-- the held cell as the step finds it
found_cell : (o : List ℕ) (xs : List Cell) (h : List WordsEntry) (rv : ℕ) (p r : Phase) (c : ℕ) (k : Held) (x : Cell) → r ≡ p
    → slice_get xs c ≡ Some x → (y : Cell) × (slice_get xs c ≡ Some y) × HeldOk o h rv r c k y → HeldOk o h rv p c k x
found_cell o xs h rv p r c k x e f a =
    let b : Some a.0 ≡ Some x = sym a.1 ∙ f in
    let d : a.0 ≡ x = cc in
    subst (λ (y : Phase). HeldOk o h rv y c k x) e (subst (λ (y : Cell). HeldOk o h rv r c k y) d a.2)

module _ (o : List ℕ) (w : World) (s : ℕ) (t : Seat) (c : ℕ) (k : Held) (x : Cell)
    (I : Consistent o w) (e : slice_get w.seats s ≡ Some t) (f : find_held c t.held ≡ Some k) (j : slice_get w.cells c ≡ Some x) where
  q : SeatOk o w.cells w.history t
  q = I.seats s t e

  pub release_done : (i : ℕ) → t.phase ≡ Storing i → k.stored ≡ true → Consistent o (release w s t c (2 * suc i) x w.history)
  release_done i p st =
      release_goes o w s t c (2 * suc i) k x w.history I e f j (Grows-refl w.history) (Stays-refl o w.history) refl
      (λ d m u a. a) (λ m a n b. b) (λ v a. (omega (arith, a, b.shows.0), shown)) (λ a. shown) none I.history
      (subst (λ (y : Phase). PhaseOk o (slice_set w.cells c (record x { lock = 2 * suc i })) w.history
      (record t { phase = t.phase; held = without c t.held }) y) (sym p) r)
    where
      r : (d : WordsEntry) × (slice_get w.history i ≡ Some d) × (d.status ≡ Done)
      r = subst (λ (y : Phase). PhaseOk o w.cells w.history t y) p q.phase

      b : HeldOk o w.history t.rv (Storing i) c k x
      b = found_cell o w.cells w.history t.rv (Storing i) t.phase c k x p j (q.held c k f)

      shown : x.value ≡ value o w.history c
      shown = b.shows.2 st ∙ sym b.shows.1

      none : (m u : ℕ) → deed w.history c m ≡ Will u → ⊥
      none m u a =
          let n : Some i ≡ Some m = b.mine m u a in
          let l : i ≡ m = cc in
          done_will (written c (r.0).writes) u (ap (λ (z : Status). deed_of z (written c (r.0).writes)) (sym r.2)
          ∙ (sym (deed_now w.history i c r.0 r.1) ∙ (ap (deed w.history c) l ∙ a)))

  pub release_failed : t.phase ≡ Failing → Consistent o (release w s t c k.word x w.history)
  release_failed p =
      release_goes o w s t c k.word k x w.history I e f j (Grows-refl w.history) (Stays-refl o w.history) refl
      (λ d m u a. a) (λ m a n b. b) (λ v a. (omega (arith, a, b.shows.0), b.shows.1)) (λ a. b.shows.1) none I.history
      (subst (λ (y : Phase). PhaseOk o (slice_set w.cells c (record x { lock = k.word })) w.history
      (record t { phase = t.phase; held = without c t.held }) y) (sym p) tt)
    where
      b : HeldOk o w.history t.rv Failing c k x
      b = found_cell o w.cells w.history t.rv Failing t.phase c k x p j (q.held c k f)

      none : (m u : ℕ) → deed w.history c m ≡ Will u → ⊥
      none m u a = let n : None ≡ Some m = b.mine m u a in cc

  module _ (i : ℕ) (p : t.phase ≡ Voiding i) where
    abbrev later : List WordsEntry
    later = settle w.history i Void

    r : (d : WordsEntry) × (slice_get w.history i ≡ Some d) × (d.status ≢ Done)
    r = subst (λ (y : Phase). PhaseOk o w.cells w.history t y) p q.phase

    b : HeldOk o w.history t.rv (Voiding i) c k x
    b = found_cell o w.cells w.history t.rv (Voiding i) t.phase c k x p j (q.held c k f)

    pub void_grows : Grows w.history later
    void_grows = Grows-settle w.history i Void (λ d a n. at_entry d (sym r.1 ∙ a) n)
      where
        at_entry : (d : WordsEntry) → Some r.0 ≡ Some d → d.status ≢ Open → Void ≡ d.status
        at_entry d a n =
            let m : r.0 ≡ d = cc in
            open_or_void d.status (λ z. r.2 (ap (λ (y : WordsEntry). y.status) m ∙ z)) n

    void_deed : (d m : ℕ) → did (deed later d m) ≡ did (deed w.history d m)
    void_deed d m = go (same_or_not i m)
      where
        go : (m ≡ i) ⊎ (m ≢ i) → did (deed later d m) ≡ did (deed w.history d m)
        go (inl a) =
            let y : did (deed later d i) ≡ None = ap did (deed_there w.history i Void d r.0 r.1) ∙ void_did (written d (r.0).writes) in
            let z : did (deed w.history d i) ≡ None =
            ap did (deed_now w.history i d r.0 r.1) ∙ undone_did (r.0).status (written d (r.0).writes) r.2 in
            ap (λ (v : ℕ). did (deed later d v)) a ∙ (y ∙ sym (ap (λ (v : ℕ). did (deed w.history d v)) a ∙ z))
        go (inr a) = ap did (deed_elsewhere w.history i Void d m a)

    void_at : (d u : ℕ) → deed later d i ≡ Will u → ⊥
    void_at d u a = void_will (written d (r.0).writes) u (sym (deed_there w.history i Void d r.0 r.1) ∙ a)

    void_awaits : (d m u : ℕ) → deed later d m ≡ Will u → deed w.history d m ≡ Will u
    void_awaits d m u a = go (same_or_not i m)
      where
        go : (m ≡ i) ⊎ (m ≢ i) → deed w.history d m ≡ Will u
        go (inl n) = absurd (void_at d u (ap (deed later d) (sym n) ∙ a))
        go (inr n) = sym (deed_elsewhere w.history i Void d m n) ∙ a

    void_history : HistoryOk o later
    void_history m d a st = go (get-settle_cases w.history i m Void d a)
      where
        go :
            ((m ≡ i) × ((y : WordsEntry) × (slice_get w.history i ≡ Some y) × (d ≡ record y { status = Void })))
            ⊎ ((m ≢ i) × (slice_get w.history m ≡ Some d))
            → One o later m d.reads
        go (inl n) = let z : Void ≡ Done = sym (ap (λ (y : WordsEntry). y.status) n.1.2) ∙ st in cc
        go (inr n) =
            let l : m < length w.history = get_within w.history m d n.1 in
            One-kept o w.history later m d.reads void_grows (omega arith) (I.history m d n.1 st)

    pub release_void : Consistent o (release w s t c k.word x later)
    release_void =
        release_goes o w s t c k.word k x later I e f j void_grows
        (alike_stays o w.history later (length-settle w.history i Void) void_deed) (length-settle w.history i Void)
        void_awaits (λ m a n d. get-settle_other w.history i m Void (λ y. n (ap number_at p ∙ ap (λ (v : ℕ). Some v) (sym y))) ∙ d)
        (λ v a. (omega (arith, a, b.shows.0), b.shows.1)) (λ a. b.shows.1) none void_history
        (subst (λ (y : Phase). PhaseOk o (slice_set w.cells c (record x { lock = k.word })) later
        (record t { phase = t.phase; held = without c t.held }) y) (sym p)
        (record (r.0) { status = Void }, get-settle_same w.history i Void r.0 r.1, λ z. void_done z))
      where
        void_done : Void ≡ Done → ⊥
        void_done z = cc

        none : (m u : ℕ) → deed later c m ≡ Will u → ⊥
        none m u a =
            let n : Some i ≡ Some m = b.mine m u (void_awaits c m u a) in
            let l : i ≡ m = cc in
            void_at c u (ap (deed later c) l ∙ a)
