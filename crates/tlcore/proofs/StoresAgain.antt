-- A further store of a value keeps what the parts say of each other.
use Rattle.std.proofs.Common.{List, Option, Some, ap, arith, inl, inr, slice_get, slice_set, subst, suc, sym, ℕ, ◌∙◌, ◌≡◌, ◌≢◌, ◌⊎◌}
use Rattle.tlcore.specs.History.{Done, WordsEntry, Will, deed, settle, value, version}
use Rattle.tlcore.specs.Seats.{Held, Phase, Seat, Storing, find_held, number_at, with_stored}
use Rattle.tlcore.specs.Machine.{Cell, World, store}
use Rattle.tlcore.specs.Invariant.{CellsOk, Consistent, HeldOk, IsOld, PhaseOk, SeatOk}
use Rattle.tlcore.proofs.AfterEvent.{Consistent-step, Others, others-own}
use Rattle.tlcore.proofs.Frame.{Frame, set_frame}
use Rattle.tlcore.proofs.Growth.{Grows-refl}
use Rattle.tlcore.proofs.Lists.{get-set_cases, get-set_other, get-set_same, odd_even, same_or_not}
use Rattle.tlcore.proofs.SeatParts.{stored-find}
use Rattle.tlcore.proofs.Settling.{settle_same}
use Rattle.tlcore.proofs.Stays.{Stays-refl}

module _ (o : List ℕ) (w : World) (s : ℕ) (t : Seat) (i c : ℕ) (k : Held) (x : Cell)
    (I : Consistent o w) (e : slice_get w.seats s ≡ Some t) (p : t.phase ≡ Storing i)
    (f : find_held c t.held ≡ Some k) (g : slice_get w.cells c ≡ Some x) where
  abbrev xs : List Cell
  xs = slice_set w.cells c (record x { value = k.value })

  q : SeatOk o w.cells w.history t
  q = I.seats s t e

  r : (d : WordsEntry) × (slice_get w.history i ≡ Some d) × (d.status ≡ Done)
  r = subst (λ (y : Phase). PhaseOk o w.cells w.history t y) p q.phase

  held_ok : (d : ℕ) (l : Held) → find_held d t.held ≡ Some l
      → (y : Cell) × (slice_get w.cells d ≡ Some y) × HeldOk o w.history t.rv (Storing i) d l y
  held_ok d l a = let b : (y : Cell) × (slice_get w.cells d ≡ Some y) × HeldOk o w.history t.rv t.phase d l y = q.held d l a in
      (b.0, b.1, subst (λ (z : Phase). HeldOk o w.history t.rv z d l b.0) p b.2)

  again_frame : Frame o w.cells xs w.history w.history t.held (Some i)
  again_frame =
      set_frame o w.cells w.history w.history t.held (Some i) c (record x { value = k.value })
      (Grows-refl w.history) (Stays-refl o w.history) (λ d j v a. a) (λ j d n a. a) k f
      (λ a. sym ((held_ok c k f).2.shows.1))

  again_cells : CellsOk o xs w.history
  again_cells d v y a j = go (get-set_cases w.cells c d (record x { value = k.value }) y a)
    where
      go : ((d ≡ c) × (y ≡ record x { value = k.value })) ⊎ ((d ≢ c) × (slice_get w.cells d ≡ Some y))
          → (v ≡ version w.history d) × (y.value ≡ value o w.history d) × ((i u : ℕ) → deed w.history d i ≡ Will u → ⊥)
      go (inl n) =
          let z : (y : Cell) × (slice_get w.cells c ≡ Some y) × HeldOk o w.history t.rv (Storing i) c k y = held_ok c k f in
          let m : Some x ≡ Some z.0 = sym g ∙ z.1 in
          let b : x ≡ z.0 = cc in
          let l : y.lock ≡ suc k.word = ap (λ (a : Cell). a.lock) n.1 ∙ (ap (λ (a : Cell). a.lock) b ∙ z.2.locked) in
          absurd (odd_even z.2.old.0 v (omega (arith, l, j, z.2.old.1)))
      go (inr n) = I.cells d v y n.1 j

  again_seat : SeatOk o xs w.history (record t { phase = Storing i; held = with_stored c t.held })
  again_seat =
      record {
        phase = r;
        rv = q.rv;
        reads = q.reads;
        held = λ d l a. go d l (stored-find c d t.held l a) (same_or_not c d);
      }
    where
      go : (d : ℕ) (l : Held) → (m : Held) × (find_held d t.held ≡ Some m) × (l.word ≡ m.word) × (l.value ≡ m.value) × (d ≢ c → l ≡ m)
          → (d ≡ c) ⊎ (d ≢ c)
          → (y : Cell) × (slice_get xs d ≡ Some y) × HeldOk o w.history t.rv (Storing i) d l y
      go d l a b = at_cell (held_ok d a.0 a.1) b
        where
          at_cell : (y : Cell) × (slice_get w.cells d ≡ Some y) × HeldOk o w.history t.rv (Storing i) d a.0 y → (d ≡ c) ⊎ (d ≢ c)
              → (y : Cell) × (slice_get xs d ≡ Some y) × HeldOk o w.history t.rv (Storing i) d l y
          at_cell z (inl b) =
              let same : Some z.0 ≡ Some x = sym z.1 ∙ (ap (slice_get w.cells) b ∙ g) in
              let y : z.0 ≡ x = cc in
              let fk : Some a.0 ≡ Some k = sym a.1 ∙ (ap (λ (y : ℕ). find_held y t.held) b ∙ f) in
              let ke : a.0 ≡ k = cc in (
                record x { value = k.value },
                ap (slice_get xs) b ∙ get-set_same w.cells c (record x { value = k.value }) x g,
                record {
                  locked = ap (λ (v : Cell). v.lock) (sym y) ∙ (z.2.locked ∙ ap suc (sym a.2));
                  old = subst (λ (v : ℕ). IsOld v t.rv) (sym a.2) z.2.old;
                  shows = (z.2.shows.0, z.2.shows.1 ∙ sym a.3, λ m. ap (λ (v : Held). v.value) (sym ke) ∙ sym a.3);
                  was = λ v m. z.2.was v (sym a.2 ∙ m);
                  mine = z.2.mine;
                },
              )
          at_cell z (inr b) =
              let ke : l ≡ a.0 = a.4 b in (
                z.0,
                get-set_other w.cells c d (record x { value = k.value }) b
                    ∙ z.1,
                subst (λ (v : Held). HeldOk o w.history t.rv (Storing i) d v z.0) (sym ke) z.2,
              )

  pub again_same : settle w.history i Done ≡ w.history
  again_same = ap (settle w.history i) (sym r.2) ∙ settle_same w.history i r.0 r.1

  pub store_keeps : Consistent o (store w s t i c k x)
  store_keeps =
      subst (λ (h : List WordsEntry). Consistent o (record {
        clock = w.clock;
        cells = xs;
        seats = slice_set w.seats s (record t {
          phase =
              Storing i;
          held = with_stored c t.held;
        });
        history = h;
      })) (sym again_same)
      (Consistent-step o w s t (record t { phase = Storing i; held = with_stored c t.held }) xs w.history w.clock t.held (Some i) I e
      again_frame others I.clock again_cells I.history again_seat
      (λ d l a. let b : (m : Held) × (find_held d t.held ≡ Some m) × (l.word ≡ m.word) × (l.value ≡ m.value) × (d ≢ c → l ≡ m) =
      stored-find c d t.held l a in (b.0, b.1))
      (λ j a. a))
    where
      others : Others w.seats s t.held (Some i)
      others = subst (λ (y : Option ℕ). Others w.seats s t.held y) (ap number_at p) (others-own o w s t I e)
