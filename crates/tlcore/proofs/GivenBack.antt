-- A held cell's lock word is set to a word that shows the history: what the parts say of each other is kept.
use Rattle.std.proofs.Common.{Bool, List, None, Some, [], ap, arith, false, if◌then◌else◌, inl, inr, length, refl, slice_get, slice_set}
use Rattle.std.proofs.Common.{subst, sym, true, ℕ, ◌*◌, ◌∙◌, ◌≡◌, ◌≢◌, ◌⊎◌}
use Rattle.tlcore.specs.History.{WordsEntry, Grows, Will, deed, value, version}
use Rattle.tlcore.specs.Seats.{Held, Idle, Phase, Seat, find_held, is_nil, number_at, without}
use Rattle.tlcore.specs.Machine.{Cell, World, release}
use Rattle.tlcore.specs.Invariant.{CellsOk, Consistent, HeldOk, HistoryOk, PhaseOk, SeatOk}
use Rattle.tlcore.proofs.AfterEvent.{Consistent-step, others-own}
use Rattle.tlcore.proofs.Frame.{Frame, HeldOk-kept, ReadsOk-kept, Untouched, set_frame}
use Rattle.tlcore.proofs.Lists.{get-set_cases, get-set_other, known}
use Rattle.tlcore.proofs.Quiet.{empty_held}
use Rattle.tlcore.proofs.SeatParts.{is_nil-nil, without-find}
use Rattle.tlcore.proofs.Stays.{Stays}

-- the seat goes on without the cell
module _ (o : List ℕ) (w : World) (s : ℕ) (t : Seat) (c word : ℕ) (k : Held) (x : Cell) (g : List WordsEntry)
    (I : Consistent o w) (e : slice_get w.seats s ≡ Some t) (f : find_held c t.held ≡ Some k) (j : slice_get w.cells c ≡ Some x)
    (grows : Grows w.history g) (stays : Stays o w.history g) (len : length g ≡ length w.history)
    (will : (d i u : ℕ) → deed g d i ≡ Will u → deed w.history d i ≡ Will u)
    (entries : (i : ℕ) (e : WordsEntry) → (number_at t.phase ≡ Some i → ⊥) → slice_get w.history i ≡ Some e → slice_get g i ≡ Some e)
    (shows : (v : ℕ) → word ≡ 2 * v → (v ≡ version w.history c) × (x.value ≡ value o w.history c))
    (keeps : ((y : Cell) → slice_get w.cells c ≡ Some y → y.value ≡ value o w.history c) → x.value ≡ value o w.history c)
    (none : (i u : ℕ) → deed g c i ≡ Will u → ⊥)
    (history : HistoryOk o g) where
  abbrev xs : List Cell
  xs = slice_set w.cells c (record x { lock = word })

  q : SeatOk o w.cells w.history t
  q = I.seats s t e

  release_cells : CellsOk o xs g
  release_cells d v y a b = go (get-set_cases w.cells c d (record x { lock = word }) y a)
    where
      go : ((d ≡ c) × (y ≡ record x { lock = word })) ⊎ ((d ≢ c) × (slice_get w.cells d ≡ Some y))
          → (v ≡ version g d) × (y.value ≡ value o g d) × ((i u : ℕ) → deed g d i ≡ Will u → ⊥)
      go (inl n) =
          let l : word ≡ 2 * v = sym (ap (λ (a : Cell). a.lock) n.1) ∙ b in
          let r : (v ≡ version w.history c) × (x.value ≡ value o w.history c) = shows v l in
          subst (λ (z : ℕ). (v ≡ version g z) × (y.value ≡ value o g z) × ((i u : ℕ) → deed g z i ≡ Will u → ⊥)) (sym n.0)
          (r.0 ∙ sym (stays.of_version c), ap (λ (a : Cell). a.value) n.1 ∙ (r.1 ∙ sym (stays.of_value c)), none)
      go (inr n) =
          let r : (v ≡ version w.history d) × (y.value ≡ value o w.history d) × ((i u : ℕ) → deed w.history d i ≡ Will u → ⊥) =
          I.cells d v y n.1 b in
          (r.0 ∙ sym (stays.of_version d), r.1 ∙ sym (stays.of_value d), λ i u a. r.2 i u (will d i u a))

  release_frame : Frame o w.cells xs w.history g t.held (number_at t.phase)
  release_frame = set_frame o w.cells w.history g t.held (number_at t.phase) c (record x { lock = word }) grows stays will entries k f keeps

  held_after : (d : ℕ) (l : Held) → find_held d (without c t.held) ≡ Some l
      → (y : Cell) × (slice_get xs d ≡ Some y) × HeldOk o g t.rv t.phase d l y
  held_after d l a =
      let b : (d ≢ c) × (find_held d t.held ≡ Some l) = without-find c d t.held l a in
      let z : (y : Cell) × (slice_get w.cells d ≡ Some y) × HeldOk o w.history t.rv t.phase d l y = q.held d l b.1 in
      let un : Untouched o w.cells xs w.history g d = record {
        cell = get-set_other w.cells c d (record x { lock = word }) b.0;
        same_version = stays.of_version d;
        same_value =
            stays.of_value d;
        will = will d;
      } in
      (z.0, un.cell ∙ z.1, HeldOk-kept o w.cells xs w.history g t.rv t.phase d l z.0 grows un z.2)

  pub release_to : (p : Phase) → PhaseOk o xs g (record t { phase = p; held = without c t.held }) p
      → (p ≡ t.phase) ⊎ ((p ≡ Idle) × (without c t.held ≡ []))
      → Consistent o (record {
        clock = w.clock;
        cells = xs;
        seats =
            slice_set w.seats s (record t { phase = p; held = without c t.held });
        history = g;
      })
  release_to p ok same =
      Consistent-step o w s t (record t { phase = p; held = without c t.held }) xs g w.clock t.held (number_at t.phase) I e
      release_frame (others-own o w s t I e) (I.clock ∙ sym len) release_cells history
      (record {
        phase = ok;
        rv = omega (arith, q.rv, len);
        reads = ReadsOk-kept o w.history g t.rv t.reads grows q.rv q.reads;
        held = λ d l a. held_as d l a same;
      })
      (λ d l a. let b : (d ≢ c) × (find_held d t.held ≡ Some l) = without-find c d t.held l a in (l, b.1))
      (λ i a. number i a same)
    where
      held_as : (d : ℕ) (l : Held) → find_held d (without c t.held) ≡ Some l → (p ≡ t.phase) ⊎ ((p ≡ Idle) × (without c t.held ≡ []))
          → (y : Cell) × (slice_get xs d ≡ Some y) × HeldOk o g t.rv p d l y
      held_as d l a (inl b) = let z : (y : Cell) × (slice_get xs d ≡ Some y) × HeldOk o g t.rv t.phase d l y = held_after d l a in
          (z.0, z.1, subst (λ (m : Phase). HeldOk o g t.rv m d l z.0) (sym b) z.2)
      held_as d l a (inr b) = absurd (empty_held (without c t.held) b.1 d l a)

      number : (i : ℕ) → number_at p ≡ Some i → (p ≡ t.phase) ⊎ ((p ≡ Idle) × (without c t.held ≡ [])) → number_at t.phase ≡ Some i
      number i a (inl b) = ap number_at (sym b) ∙ a
      number i a (inr b) = let m : None ≡ Some i = ap number_at (sym b.0) ∙ a in cc

  pub release_goes : PhaseOk o xs g (record t { phase = t.phase; held = without c t.held }) t.phase
      → Consistent o (release w s t c word x g)
  release_goes ok = go (known (is_nil (without c t.held)))
    where
      go : (is_nil (without c t.held) ≡ true) ⊎ (is_nil (without c t.held) ≡ false) → Consistent o (release w s t c word x g)
      go (inl m) =
          let n : without c t.held ≡ [] = is_nil-nil (without c t.held) m in
          let b : Consistent o (record {
            clock = w.clock;
            cells = xs;
            seats = slice_set w.seats s (record t {
              phase = Idle;
              held =
                  without c t.held;
            });
            history = g;
          }) = release_to Idle n (inr (refl, n)) in
          subst (λ (v : Bool). Consistent o (record {
            clock = w.clock;
            cells = xs;
            seats = slice_set w.seats s (record t {
              phase =
                  (if v then Idle else t.phase);
              held = without c t.held;
            });
            history = g;
          })) (sym m) b
      go (inr m) =
          let b : Consistent o (record {
            clock = w.clock;
            cells = xs;
            seats = slice_set w.seats s (record t {
              phase = t.phase;
              held =
                  without c t.held;
            });
            history = g;
          }) = release_to t.phase ok (inl refl) in
          subst (λ (v : Bool). Consistent o (record {
            clock = w.clock;
            cells = xs;
            seats = slice_set w.seats s (record t {
              phase =
                  (if v then Idle else t.phase);
              held = without c t.held;
            });
            history = g;
          })) (sym m) b
