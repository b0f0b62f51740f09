-- What the parts say of each other after an event, from what it left.
use Rattle.std.proofs.Common.{List, None, Option, Some, ap, inl, inr, length, refl, slice_get, slice_set, subst, sym, ℕ, ◌∙◌, ◌≡◌, ◌≢◌, ◌⊎◌}
use Rattle.tlcore.specs.History.{WordsEntry}
use Rattle.tlcore.specs.Seats.{Held, Seat, find_held, number_at}
use Rattle.tlcore.specs.Machine.{Cell, World, with_seat}
use Rattle.tlcore.specs.Invariant.{CellsOk, Consistent, HistoryOk, SeatOk}
use Rattle.tlcore.proofs.Frame.{Frame, SeatOk-kept, Untouched-evolves, Untouched-refl}
use Rattle.tlcore.proofs.Growth.{Grows-refl}
use Rattle.tlcore.proofs.Lists.{get-set_cases}

-- the other seats hold none of ks, and have another number than n
abbrev pub Others : List Seat → ℕ → List Held → Option ℕ → Type 0
Others ts s ks n =
    (q : ℕ) (u : Seat) → q ≢ s → slice_get ts q ≡ Some u
    → ((c : ℕ) (k l : Held) → find_held c ks ≡ Some k → find_held c u.held ≡ Some l → ⊥) × (number_at u.phase ≡ n → n ≡ None)

pub others-own : (o : List ℕ) (w : World) (s : ℕ) (t : Seat) → Consistent o w → slice_get w.seats s ≡ Some t
    → Others w.seats s t.held (number_at t.phase)
others-own o w s t I e q u ne f =
    (λ c k l a b. ne (sym (I.held_apart s q t u c k l e f a b)), λ p. alone (number_at t.phase) refl p)
  where
    alone : (n : Option ℕ) → number_at t.phase ≡ n → number_at u.phase ≡ n → n ≡ None
    alone None a b = refl
    alone (Some i) a b = absurd (ne (sym (I.numbers_apart s q t u i e f a b)))

module _ (o : List ℕ) (w : World) (s : ℕ) (t z : Seat) (ys : List Cell) (g : List WordsEntry) (m : ℕ) (ks : List Held) (n : Option ℕ) where
  pub Consistent-step : Consistent o w → slice_get w.seats s ≡ Some t → Frame o w.cells ys w.history g ks n → Others w.seats s ks n
      → m ≡ length g → CellsOk o ys g → HistoryOk o g → SeatOk o ys g z
      → ((c : ℕ) (k : Held) → find_held c z.held ≡ Some k → (l : Held) × (find_held c ks ≡ Some l))
      → ((i : ℕ) → number_at z.phase ≡ Some i → n ≡ Some i)
      → Consistent o (record { clock = m; cells = ys; seats = slice_set w.seats s z; history = g })
  Consistent-step I e f others clock cells history seat held number =
      record {
        clock = clock;
        cells = cells;
        history = history;
        seats = λ q u p. elim (get-set_cases w.seats s q z u p) [
          | inl a ↦ subst (λ (x : Seat). SeatOk o ys g x) (sym a.1) seat
          | inr b ↦ SeatOk-kept o w.cells ys w.history g ks n f u (others q u b.0 b.1).1 (others q u b.0 b.1).0 (I.seats q u b.1)
        ];
        held_apart =
            λ a b x y c k l p r h j. held_case a b x y c k l h j (get-set_cases w.seats s a z x p) (get-set_cases w.seats s b z y r);
        numbers_apart = λ a b x y i p r h j. number_case a b x y i h j (get-set_cases w.seats s a z x p) (get-set_cases w.seats s b z y r);
      }
    where
      held_case : (a b : ℕ) (x y : Seat) (c : ℕ) (k l : Held) → find_held c x.held ≡ Some k → find_held c y.held ≡ Some l
          → ((a ≡ s) × (x ≡ z)) ⊎ ((a ≢ s) × (slice_get w.seats a ≡ Some x))
          → ((b ≡ s) × (y ≡ z)) ⊎ ((b ≢ s) × (slice_get w.seats b ≡ Some y)) → a ≡ b
      held_case a b x y c k l h j (inl p) (inl r) = p.0 ∙ sym r.0
      held_case a b x y c k l h j (inl p) (inr r) =
          let q : find_held c z.held ≡ Some k = ap (λ (v : Seat). find_held c v.held) (sym p.1) ∙ h in
          let i : (d : Held) × (find_held c ks ≡ Some d) = held c k q in
          absurd ((others b y r.0 r.1).0 c i.0 l i.1 j)
      held_case a b x y c k l h j (inr p) (inl r) =
          let q : find_held c z.held ≡ Some l = ap (λ (v : Seat). find_held c v.held) (sym r.1) ∙ j in
          let i : (d : Held) × (find_held c ks ≡ Some d) = held c l q in
          absurd ((others a x p.0 p.1).0 c i.0 k i.1 h)
      held_case a b x y c k l h j (inr p) (inr r) = I.held_apart a b x y c k l p.1 r.1 h j

      taken_number : (i : ℕ) → n ≡ Some i → n ≡ None → ⊥
      taken_number i p q = cc

      number_case : (a b : ℕ) (x y : Seat) (i : ℕ) → number_at x.phase ≡ Some i → number_at y.phase ≡ Some i
          → ((a ≡ s) × (x ≡ z)) ⊎ ((a ≢ s) × (slice_get w.seats a ≡ Some x))
          → ((b ≡ s) × (y ≡ z)) ⊎ ((b ≢ s) × (slice_get w.seats b ≡ Some y)) → a ≡ b
      number_case a b x y i h j (inl p) (inl r) = p.0 ∙ sym r.0
      number_case a b x y i h j (inl p) (inr r) =
          let q : n ≡ Some i = number i (ap (λ (v : Seat). number_at v.phase) (sym p.1) ∙ h) in
          absurd (taken_number i q ((others b y r.0 r.1).1 (j ∙ sym q)))
      number_case a b x y i h j (inr p) (inl r) =
          let q : n ≡ Some i = number i (ap (λ (v : Seat). number_at v.phase) (sym r.1) ∙ j) in
          absurd (taken_number i q ((others a x p.0 p.1).1 (h ∙ sym q)))
      number_case a b x y i h j (inr p) (inr r) = I.numbers_apart a b x y i p.1 r.1 h j

Frame-refl : (o : List ℕ) (xs : List Cell) (h : List WordsEntry) (ks : List Held) (n : Option ℕ) → Frame o xs xs h h ks n
Frame-refl o xs h ks n =
    record {
      grows = Grows-refl h;
      same = λ c f. Untouched-refl o xs h c;
      evolves = λ c. Untouched-evolves o xs xs h h c (Untouched-refl o xs h c);
      entries = λ i e f p. p;
    }

-- a step that changes nothing but its seat
pub Consistent-seat : (o : List ℕ) (w : World) (s : ℕ) (t z : Seat) → Consistent o w → slice_get w.seats s ≡ Some t
    → SeatOk o w.cells w.history z
    → ((c : ℕ) (k : Held) → find_held c z.held ≡ Some k → (l : Held) × (find_held c t.held ≡ Some l))
    → ((i : ℕ) → number_at z.phase ≡ Some i → number_at t.phase ≡ Some i)
    → Consistent o (with_seat w s z)
Consistent-seat o w s t z I e ok held number =
    Consistent-step o w s t z w.cells w.history w.clock t.held (number_at t.phase) I e
    (Frame-refl o w.cells w.history t.held (number_at t.phase))
    (others-own o w s t I e) I.clock I.cells I.history ok held number
