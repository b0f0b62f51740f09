-- The first store of a value, which makes the entry Done, keeps what the parts say of each other.
use Rattle.std.proofs.Common.{List, None, Option, Some, [], ap, arith, inl, inr, length, refl, slice_get, slice_index, slice_set, subst, suc, sym, true, ℕ, ◌*◌, ◌<◌, ◌∙◌, ◌∷◌, ◌≡◌, ◌≢◌, ◌≤◌, ◌⊎◌}
use Rattle.std.proofs.lemmas.Bool.{true≢false}
use Rattle.std.proofs.lemmas.Option.{none-some}
use Rattle.tlcore.specs.History.{Did, Done, WordsEntry, Grows, Nothing, One, Status, Will, deed, deed_of, settle, value, value_after, version, version_after}
use Rattle.ranges.specs.Pairs.{written}
use Rattle.tlcore.specs.Seats.{Checking, Held, Phase, Read, Seat, Storing, all_settled, find_held, is_settled, number_at, reads_of, with_stored}
use Rattle.tlcore.specs.Machine.{Cell, World, store}
use Rattle.tlcore.specs.Invariant.{CellsOk, CheckingOk, Consistent, HeldOk, HistoryOk, IsOld, PhaseOk, SeatOk, SettledOk}
use Rattle.tlcore.proofs.AfterEvent.{Consistent-step, Others, others-own}
use Rattle.tlcore.proofs.Deeds.{did, value-newest, value-same, version-same}
use Rattle.tlcore.proofs.Frame.{Evolves, Frame, ReadsOk-kept, Untouched, Untouched-evolves}
use Rattle.tlcore.proofs.Growth.{Grows-settle, One-kept, WasWritten-kept}
use Rattle.tlcore.proofs.Lists.{both_left, both_right, get-set_cases, get-set_other, get-set_same, get_within, odd_even, option_known, same_or_not}
use Rattle.tlcore.proofs.SeatParts.{stored-find, written-find, written-held}
use Rattle.tlcore.proofs.Settling.{deed_elsewhere, deed_now, deed_there, get-settle_cases, get-settle_other, get-settle_same, length-settle}

pub all_one : (o : List ℕ) (h : List WordsEntry) (i u : ℕ) (ks : List Held) (rs : List Read) → SettledOk o h i ks u rs
    → all_settled ks u rs ≡ true → One o h i (reads_of rs)
all_one o h i u ks [] a b = tt
all_one o h i u ks (r ∷ rs) a b = (
  a.0 (both_left (is_settled ks u r.cell) (all_settled ks u rs) b),
  all_one o h i u ks rs a.1 (both_right (is_settled ks u r.cell) (all_settled ks u rs) b),
)

module _ (o : List ℕ) (w : World) (s : ℕ) (t : Seat) (i u c : ℕ) (k : Held) (x : Cell)
    (I : Consistent o w) (e : slice_get w.seats s ≡ Some t) (p : t.phase ≡ Checking i u) (alls : One o w.history i (reads_of t.reads))
    (f : find_held c t.held ≡ Some k) (g : slice_get w.cells c ≡ Some x) where
  abbrev xs : List Cell
  xs = slice_set w.cells c (record x { value = k.value })

  abbrev later : List WordsEntry
  later = settle w.history i Done

  q : SeatOk o w.cells w.history t
  q = I.seats s t e

  r : CheckingOk o w.history t i u
  r = subst (λ (y : Phase). PhaseOk o w.cells w.history t y) p q.phase

  within : i < length w.history
  within = get_within w.history i r.entry r.here

  len : length later ≡ length w.history
  len = length-settle w.history i Done

  pub first_grows : Grows w.history later
  first_grows = Grows-settle w.history i Done (λ d a n. absurd (n (same d a ∙ r.status)))
    where
      same : (d : WordsEntry) → slice_get w.history i ≡ Some d → d.status ≡ r.entry.status
      same d a = let b : Some d ≡ Some r.entry = sym a ∙ r.here in let y : d ≡ r.entry = cc in ap (λ (z : WordsEntry). z.status) y

  held_ok : (d : ℕ) (l : Held) → find_held d t.held ≡ Some l
      → (y : Cell) × (slice_get w.cells d ≡ Some y) × HeldOk o w.history t.rv (Checking i u) d l y
  held_ok d l a = let b : (y : Cell) × (slice_get w.cells d ≡ Some y) × HeldOk o w.history t.rv t.phase d l y = q.held d l a in
      (b.0, b.1, subst (λ (z : Phase). HeldOk o w.history t.rv z d l b.0) p b.2)

  -- a cell that isn't held keeps its deeds
  deed_free : (d j : ℕ) → ((l : Held) → find_held d t.held ≡ Some l → ⊥) → deed later d j ≡ deed w.history d j
  deed_free d j a = go (same_or_not i j)
    where
      none : written d r.entry.writes ≡ None
      none = ap (written d) r.writes ∙ written-find d t.held a

      go : (j ≡ i) ⊎ (j ≢ i) → deed later d j ≡ deed w.history d j
      go (inl b) =
          let m : deed later d i ≡ Nothing = deed_there w.history i Done d r.entry r.here ∙ ap (deed_of Done) none in
          let n : deed w.history d i ≡ Nothing =
          deed_now w.history i d r.entry r.here ∙ (ap (deed_of r.entry.status) none ∙ ap (λ (z : Status). deed_of z None) r.status) in
          ap (deed later d) b ∙ (m ∙ sym (ap (deed w.history d) b ∙ n))
      go (inr b) = deed_elsewhere w.history i Done d j b

  -- a cell that is held now shows the entry
  newest : (d : ℕ) (l : Held) → find_held d t.held ≡ Some l → (version later d ≡ suc i) × (value o later d ≡ l.value)
  newest d l a =
      let b : (y : Cell) × (slice_get w.cells d ≡ Some y) × HeldOk o w.history t.rv (Checking i u) d l y = held_ok d l a in
      let old : version w.history d ≤ i = omega (arith, b.2.shows.0, b.2.old.1, b.2.old.2, r.after) in
      let did_it : deed later d i ≡ Did l.value =
      deed_there w.history i Done d r.entry r.here ∙ ap (deed_of Done) (ap (written d) r.writes ∙ written-held d t.held l a) in
      let n : (version_after (deed later d) (length w.history) ≡ suc i)
      × (value_after (deed later d) (slice_index o d) (length w.history) ≡ l.value) =
      value-newest (deed w.history d) (deed later d) (slice_index o d) i l.value (length w.history)
      (λ j m. deed_elsewhere w.history i Done d j m) did_it old within in
      (ap (version_after (deed later d)) len ∙ n.0, ap (value_after (deed later d) (slice_index o d)) len ∙ n.1)

  untouched : (d : ℕ) → ((l : Held) → find_held d t.held ≡ Some l → ⊥) → Untouched o w.cells xs w.history later d
  untouched d a =
      record {
        cell = get-set_other w.cells c d (record x { value = k.value }) (λ b. a k (ap (λ (y : ℕ). find_held y t.held) b ∙ f));
        same_version =
            ap (version_after (deed later d)) len ∙ version-same (deed w.history d) (deed later d) (length w.history)
            (λ j m. ap did (deed_free d j a));
        same_value =
            ap (value_after (deed later d) (slice_index o d)) len
            ∙ value-same (deed w.history d) (deed later d) (slice_index o d) (length w.history) (λ j m. ap did (deed_free d j a));
        will = λ j v b. sym (deed_free d j a) ∙ b;
      }

  evolves : (d : ℕ) → Evolves o w.cells xs w.history later d
  evolves d = go (option_known (find_held d t.held))
    where
      go : ((l : Held) × (find_held d t.held ≡ Some l)) ⊎ (find_held d t.held ≡ None) → Evolves o w.cells xs w.history later d
      go (inl a) =
          let b : (y : Cell) × (slice_get w.cells d ≡ Some y) × HeldOk o w.history t.rv (Checking i u) d a.0 y = held_ok d a.0 a.1 in
          let old : version w.history d ≤ i = omega (arith, b.2.shows.0, b.2.old.1, b.2.old.2, r.after) in
          let n : (version later d ≡ suc i) × (value o later d ≡ a.0.value) = newest d a.0 a.1 in
          record {
            up = omega (arith, n.0);
            same_value = λ m. absurd (omega (arith, n.0));
            word = λ m before y z. absurd (omega (arith, n.0));
          }
      go (inr a) = Untouched-evolves o w.cells xs w.history later d (untouched d (λ l b. none-some l (sym a ∙ b)))

  store_frame : Frame o w.cells xs w.history later t.held (Some i)
  store_frame =
      record {
        grows = first_grows;
        same = untouched;
        evolves = evolves;
        entries = λ j d n a. get-settle_other w.history i j Done (λ b. n (ap (λ (y : ℕ). Some y) (sym b))) ∙ a;
      }

  free_not_held : (d v : ℕ) (y : Cell) → slice_get xs d ≡ Some y → y.lock ≡ 2 * v → (l : Held) → find_held d t.held ≡ Some l → ⊥
  free_not_held d v y a j l b = go (get-set_cases w.cells c d (record x { value = k.value }) y a)
    where
      at_old : (y : Cell) → slice_get w.cells d ≡ Some y → y.lock ≡ 2 * v → ⊥
      at_old y a j =
          let z : (y : Cell) × (slice_get w.cells d ≡ Some y) × HeldOk o w.history t.rv (Checking i u) d l y = held_ok d l b in
          let m : Some y ≡ Some z.0 = sym a ∙ z.1 in
          let n : y ≡ z.0 = cc in
          let o : y.lock ≡ suc l.word = ap (λ (a : Cell). a.lock) n ∙ z.2.locked in
          odd_even z.2.old.0 v (omega (arith, o, j, z.2.old.1))

      go : ((d ≡ c) × (y ≡ record x { value = k.value })) ⊎ ((d ≢ c) × (slice_get w.cells d ≡ Some y)) → ⊥
      go (inl n) = at_old x (ap (slice_get w.cells) n.0 ∙ g) (sym (ap (λ (a : Cell). a.lock) n.1) ∙ j)
      go (inr n) = at_old y n.1 j

  store_cells : CellsOk o xs later
  store_cells d v y a j =
      let un : Untouched o w.cells xs w.history later d = untouched d (free_not_held d v y a j) in
      let b : (v ≡ version w.history d) × (y.value ≡ value o w.history d) × ((i u : ℕ) → deed w.history d i ≡ Will u → ⊥) =
      I.cells d v y (sym un.cell ∙ a) j in
      (b.0 ∙ sym un.same_version, b.1 ∙ sym un.same_value, λ m n z. b.2 m n (un.will m n z))

  store_history : HistoryOk o later
  store_history j d a st = go (get-settle_cases w.history i j Done d a)
    where
      go :
          ((j ≡ i) × ((m : WordsEntry) × (slice_get w.history i ≡ Some m) × (d ≡ record m { status = Done })))
          ⊎ ((j ≢ i) × (slice_get w.history j ≡ Some d))
          → One o later j d.reads
      go (inl b) =
          let m : Some b.1.0 ≡ Some r.entry = sym b.1.1 ∙ r.here in
          let n : b.1.0 ≡ r.entry = cc in
          let reads : d.reads ≡ reads_of t.reads = ap (λ (y : WordsEntry). y.reads) b.1.2
          ∙ (ap (λ (y : WordsEntry). y.reads) n ∙ r.reads) in
          let one : One o later i (reads_of t.reads) =
          One-kept o w.history later i (reads_of t.reads) first_grows (omega (arith, within)) alls in
          subst (λ (y : ℕ). One o later y d.reads) (sym b.0) (subst (λ (y : List (ℕ × ℕ)). One o later i y) (sym reads) one)
      go (inr b) =
          let l : j < length w.history = get_within w.history j d b.1 in
          One-kept o w.history later j d.reads first_grows (omega arith) (I.history j d b.1 st)

  store_seat : SeatOk o xs later (record t { phase = Storing i; held = with_stored c t.held })
  store_seat =
      record {
        phase = (record (r.entry) { status = Done }, get-settle_same w.history i Done r.entry r.here, refl);
        rv = omega (arith, q.rv, len);
        reads = ReadsOk-kept o w.history later t.rv t.reads first_grows q.rv q.reads;
        held = λ d l a. go d l (stored-find c d t.held l a) (same_or_not c d);
      }
    where
      go : (d : ℕ) (l : Held) → (m : Held) × (find_held d t.held ≡ Some m) × (l.word ≡ m.word) × (l.value ≡ m.value) × (d ≢ c → l ≡ m)
          → (d ≡ c) ⊎ (d ≢ c)
          → (y : Cell) × (slice_get xs d ≡ Some y) × HeldOk o later t.rv (Storing i) d l y
      go d l a b =
          let z : (y : Cell) × (slice_get w.cells d ≡ Some y) × HeldOk o w.history t.rv (Checking i u) d a.0 y = held_ok d a.0 a.1 in
          at_cell z b
        where
          n : (version later d ≡ suc i) × (value o later d ≡ a.0.value)
          n = newest d a.0 a.1

          mine : (j v : ℕ) → ((j' v' : ℕ) → deed w.history d j' ≡ Will v' → Some i ≡ Some j') → deed later d j ≡ Will v → Some i ≡ Some j
          mine j v m b = by (same_or_not i j)
            where
              by : (j ≡ i) ⊎ (j ≢ i) → Some i ≡ Some j
              by (inl y) = ap (λ (y : ℕ). Some y) (sym y)
              by (inr y) = m j v (sym (deed_elsewhere w.history i Done d j y) ∙ b)

          at_cell : (y : Cell) × (slice_get w.cells d ≡ Some y) × HeldOk o w.history t.rv (Checking i u) d a.0 y → (d ≡ c) ⊎ (d ≢ c)
              → (y : Cell) × (slice_get xs d ≡ Some y) × HeldOk o later t.rv (Storing i) d l y
          at_cell z (inl b) =
              let same : Some z.0 ≡ Some x = sym z.1 ∙ (ap (slice_get w.cells) b ∙ g) in
              let y : z.0 ≡ x = cc in
              let fk : Some a.0 ≡ Some k = sym a.1 ∙ (ap (λ (y : ℕ). find_held y t.held) b ∙ f) in
              let ke : a.0 ≡ k = cc in (
                record x { value = k.value },
                ap (slice_get xs) b ∙ get-set_same w.cells c (record x { value = k.value }) x g,
                record {
                  locked = ap (λ (v : Cell). v.lock) (sym y) ∙ (z.2.locked ∙ ap suc (sym a.2));
                  old = subst (λ (v : ℕ). IsOld v t.rv) (sym a.2) z.2.old;
                  shows = (n.0, n.1 ∙ sym a.3, λ m. ap (λ (v : Held). v.value) (sym ke) ∙ sym a.3);
                  was = λ v m. WasWritten-kept w.history later d v first_grows (z.2.was v (sym a.2 ∙ m));
                  mine = λ j v m. mine j v z.2.mine m;
                },
              )
          at_cell z (inr b) =
              let ke : l ≡ a.0 = a.4 b in (
                z.0,
                get-set_other w.cells c d (record x { value = k.value }) b ∙ z.1,
                record {
                  locked = z.2.locked ∙ ap suc (sym a.2);
                  old = subst (λ (v : ℕ). IsOld v t.rv) (sym a.2) z.2.old;
                  shows = (n.0, n.1 ∙ sym a.3, λ m. absurd (true≢false (sym m ∙ (ap (λ (v : Held). v.stored) ke ∙ z.2.shows.2))));
                  was = λ v m. WasWritten-kept w.history later d v first_grows (z.2.was v (sym a.2 ∙ m));
                  mine = λ j v m. mine j v z.2.mine m;
                },
              )

  pub first_store_keeps : Consistent o (store w s t i c k x)
  first_store_keeps =
      Consistent-step o w s t (record t { phase = Storing i; held = with_stored c t.held }) xs later w.clock t.held (Some i) I e
      store_frame (others o w s t I e (Some i) (ap number_at p)) (I.clock ∙ sym len) store_cells store_history store_seat
      (λ d l a. let b : (m : Held) × (find_held d t.held ≡ Some m) × (l.word ≡ m.word) × (l.value ≡ m.value) × (d ≢ c → l ≡ m) =
      stored-find c d t.held l a in (b.0, b.1))
      (λ j a. a)
    where
      others : (o : List ℕ) (w : World) (s : ℕ) (t : Seat) → Consistent o w → slice_get w.seats s ≡ Some t → (n : Option ℕ)
          → number_at t.phase ≡ n → Others w.seats s t.held n
      others o w s t I e n b = subst (λ (y : Option ℕ). Others w.seats s t.held y) b (others-own o w s t I e)
