-- What an event of one seat leaves to the others, which keep what holds of them.
use Rattle.std.proofs.Common.{List, None, Option, Some, [], ap, arith, inl, inr, length, refl, slice_get, slice_set, subst, sym, ℕ, ◌*◌}
use Rattle.std.proofs.Common.{◌<◌, ◌∙◌, ◌∷◌, ◌≡◌, ◌≢◌, ◌≤◌, ◌⊎◌}
use Rattle.tlcore.specs.History.{WordsEntry, Grows, Will, deed, value, version}
use Rattle.tlcore.specs.Seats.{Checking, Failing, Held, Idle, Loaded, Looked, Phase, Read, Reading, Seat, Storing, Taking, Voiding}
use Rattle.tlcore.specs.Seats.{find_held, number_at}
use Rattle.tlcore.specs.Machine.{Cell}
use Rattle.tlcore.specs.Invariant.{HeldOk, HeldShows, PhaseOk, ReadsOk, SeatOk, SettledOk, done_at}
use Rattle.tlcore.proofs.Growth.{IsOne-kept, WasWritten-kept}
use Rattle.tlcore.proofs.Lists.{get-set_cases, get-set_other, get_within}
use Rattle.tlcore.proofs.Stays.{Stays}

-- nothing of the cell changes, and no further Open entry writes it
pub record Untouched (o : List ℕ) (xs ys : List Cell) (h g : List WordsEntry) (c : ℕ) : Type 0 where
  pub cell : slice_get ys c ≡ slice_get xs c
  pub same_version : version g c ≡ version h c
  pub same_value : value o g c ≡ value o h c
  pub will : (i u : ℕ) → deed g c i ≡ Will u → deed h c i ≡ Will u

-- the cell goes on to a later version; where the version stays, so does the value, and a value word that showed it still does
pub record Evolves (o : List ℕ) (xs ys : List Cell) (h g : List WordsEntry) (c : ℕ) : Type 0 where
  pub up : version h c ≤ version g c
  pub same_value : version g c ≡ version h c → value o g c ≡ value o h c
  pub word : version g c ≡ version h c → ((x : Cell) → slice_get xs c ≡ Some x → x.value ≡ value o h c) → (y : Cell)
      → slice_get ys c ≡ Some y → y.value ≡ value o g c

-- what an event leaves: ks are the cells of its seat, n the index of that run's entry
pub record Frame (o : List ℕ) (xs ys : List Cell) (h g : List WordsEntry) (ks : List Held) (n : Option ℕ) : Type 0 where
  pub grows : Grows h g
  pub same : (c : ℕ) → ((k : Held) → find_held c ks ≡ Some k → ⊥) → Untouched o xs ys h g c
  pub evolves : (c : ℕ) → Evolves o xs ys h g c
  pub entries : (i : ℕ) (e : WordsEntry) → (n ≡ Some i → ⊥) → slice_get h i ≡ Some e → slice_get g i ≡ Some e

pub Untouched-evolves : (o : List ℕ) (xs ys : List Cell) (h g : List WordsEntry) (c : ℕ) → Untouched o xs ys h g c → Evolves o xs ys h g c
Untouched-evolves o xs ys h g c u =
    record {
      up = omega (arith, u.same_version);
      same_value = λ e. u.same_value;
      word = λ e f y p. f y (sym u.cell ∙ p) ∙ sym u.same_value;
    }

pub Untouched-refl : (o : List ℕ) (xs : List Cell) (h : List WordsEntry) (c : ℕ) → Untouched o xs xs h h c
Untouched-refl o xs h c = record { cell = refl; same_version = refl; same_value = refl; will = λ i u e. e }

pub ReadsOk-kept : (o : List ℕ) (h g : List WordsEntry) (rv : ℕ) (rs : List Read) → Grows h g → rv ≤ length h → ReadsOk o h rv rs
    → ReadsOk o g rv rs
ReadsOk-kept o h g rv [] r l p = tt
ReadsOk-kept o h g rv (x ∷ rs) r l p = ((p.0.0, IsOne-kept o h g rv x.cell x.value r l p.0.1), ReadsOk-kept o h g rv rs r l p.1)

pub SettledOk-kept : (o : List ℕ) (h g : List WordsEntry) (i : ℕ) (ks : List Held) (u : ℕ) (rs : List Read) → Grows h g → i ≤ length h
    → SettledOk o h i ks u rs → SettledOk o g i ks u rs
SettledOk-kept o h g i ks u [] r l p = tt
SettledOk-kept o h g i ks u (x ∷ rs) r l p = (λ e. IsOne-kept o h g i x.cell x.value r l (p.0 e), SettledOk-kept o h g i ks u rs r l p.1)

pub HeldShows-kept : (o : List ℕ) (xs ys : List Cell) (h g : List WordsEntry) (d : Option ℕ) (c : ℕ) (k : Held) (x : Cell)
    → Untouched o xs ys h g c → HeldShows o h d c k x → HeldShows o g d c k x
HeldShows-kept o xs ys h g None c k x u p = (omega (arith, u.same_version, p.0), p.1 ∙ sym u.same_value, p.2)
HeldShows-kept o xs ys h g (Some i) c k x u p = (u.same_version ∙ p.0, u.same_value ∙ p.1, p.2)

pub HeldOk-kept : (o : List ℕ) (xs ys : List Cell) (h g : List WordsEntry) (rv : ℕ) (p : Phase) (c : ℕ) (k : Held) (x : Cell) → Grows h g
    → Untouched o xs ys h g c → HeldOk o h rv p c k x → HeldOk o g rv p c k x
HeldOk-kept o xs ys h g rv p c k x r u q =
    record {
      locked = q.locked;
      old = q.old;
      shows = HeldShows-kept o xs ys h g (done_at p) c k x u q.shows;
      was = λ v e. WasWritten-kept h g c v r (q.was v e);
      mine = λ i v e. q.mine i v (u.will i v e);
    }

module _ (o : List ℕ) (xs ys : List Cell) (h g : List WordsEntry) (ks : List Held) (n : Option ℕ) (f : Frame o xs ys h g ks n) where
  looked_kept : (c word : ℕ) (v : ℕ) → word ≤ 2 * version h c → (word ≡ 2 * version h c → v ≡ value o h c)
      → (word ≤ 2 * version g c) × (word ≡ 2 * version g c → v ≡ value o g c)
  looked_kept c word v l e =
      let up : version h c ≤ version g c = (f.evolves c).up in
      (omega arith, λ q. e (omega arith) ∙ sym ((f.evolves c).same_value (omega arith)))

  PhaseOk-kept : (t : Seat) (p : Phase) → (number_at p ≡ n → n ≡ None) → PhaseOk o xs h t p → PhaseOk o ys g t p
  PhaseOk-kept t Idle a q = q
  PhaseOk-kept t Reading a q = q
  PhaseOk-kept t (Looked c word) a q =
      let up : version h c ≤ version g c = (f.evolves c).up in
      let l : word ≤ 2 * version h c = q.2 in
      (q.0, q.1, omega arith, λ e. (f.evolves c).word (omega arith) (q.3 (omega arith)))
  PhaseOk-kept t (Loaded c word v) a q =
      let r : (word ≤ 2 * version g c) × (word ≡ 2 * version g c → v ≡ value o g c) = looked_kept c word v q.2 q.3 in
      (q.0, q.1, r.0, r.1)
  PhaseOk-kept t Taking a q = tt
  PhaseOk-kept t (Checking i u) a q =
      let l : i < length h = get_within h i q.entry q.here in
      record {
        entry = q.entry;
        here = f.entries i q.entry (λ e. absurd_some i n (a (sym e)) e) q.here;
        status = q.status;
        reads = q.reads;
        writes = q.writes;
        after = q.after;
        settled = SettledOk-kept o h g i t.held u t.reads f.grows (omega arith) q.settled;
      }
    where
      absurd_some : (i : ℕ) (n : Option ℕ) → n ≡ None → n ≡ Some i → ⊥
      absurd_some i n x y = cc
  PhaseOk-kept t (Storing i) a q = (q.0, f.entries i q.0 (λ e. absurd_some (a (sym e)) e) q.1, q.2)
    where
      absurd_some : n ≡ None → n ≡ Some i → ⊥
      absurd_some x y = cc
  PhaseOk-kept t Failing a q = tt
  PhaseOk-kept t (Voiding i) a q = (q.0, f.entries i q.0 (λ e. absurd_some (a (sym e)) e) q.1, q.2)
    where
      absurd_some : n ≡ None → n ≡ Some i → ⊥
      absurd_some x y = cc

  -- another seat keeps what it has
  pub SeatOk-kept : (t : Seat) → (number_at t.phase ≡ n → n ≡ None)
      → ((c : ℕ) (k l : Held) → find_held c ks ≡ Some k → find_held c t.held ≡ Some l → ⊥) → SeatOk o xs h t → SeatOk o ys g t
  SeatOk-kept t a d q =
      let up : length h ≤ length g = f.grows.0 in
      let l : t.rv ≤ length h = q.rv in
      record {
        phase = PhaseOk-kept t t.phase a q.phase;
        rv = omega arith;
        reads = ReadsOk-kept o h g t.rv t.reads f.grows l q.reads;
        held = λ c k e.
            let u : Untouched o xs ys h g c = f.same c (λ m r. d c m k r e) in
            let b : (x : Cell) × (slice_get xs c ≡ Some x) × HeldOk o h t.rv t.phase c k x = q.held c k e in
            (b.0, u.cell ∙ b.1, HeldOk-kept o xs ys h g t.rv t.phase c k b.0 f.grows u b.2);
      }

-- ---- one cell of the seat is set

-- one cell of the seat is set, and a value word that showed its value still does
pub set_frame : (o : List ℕ) (xs : List Cell) (h g : List WordsEntry) (ks : List Held) (n : Option ℕ) (c : ℕ) (x : Cell)
    → Grows h g → Stays o h g → ((d i u : ℕ) → deed g d i ≡ Will u → deed h d i ≡ Will u)
    → ((i : ℕ) (e : WordsEntry) → (n ≡ Some i → ⊥) → slice_get h i ≡ Some e → slice_get g i ≡ Some e)
    → (k : Held) → find_held c ks ≡ Some k
    → (((y : Cell) → slice_get xs c ≡ Some y → y.value ≡ value o h c) → x.value ≡ value o h c)
    → Frame o xs (slice_set xs c x) h g ks n
set_frame o xs h g ks n c x r s will entries k f shows =
    record {
      grows = r;
      same = λ d free. record {
        cell = get-set_other xs c d x (λ e. free k (ap (λ (y : ℕ). find_held y ks) e ∙ f));
        same_version = s.of_version d;
        same_value = s.of_value d;
        will = will d;
      };
      evolves = λ d. record {
        up = omega (arith, s.of_version d);
        same_value = λ e. s.of_value d;
        word = λ e old y p. word d old y (get-set_cases xs c d x y p);
      };
      entries = entries;
    }
  where
    word : (d : ℕ) → ((y : Cell) → slice_get xs d ≡ Some y → y.value ≡ value o h d) → (y : Cell)
        → ((d ≡ c) × (y ≡ x)) ⊎ ((d ≢ c) × (slice_get xs d ≡ Some y)) → y.value ≡ value o g d
    word d old y (inl p) =
        let at_c : (a : Cell) → slice_get xs c ≡ Some a → a.value ≡ value o h c =
        subst (λ (j : ℕ). (a : Cell) → slice_get xs j ≡ Some a → a.value ≡ value o h j) p.0 old in
        ap (λ (a : Cell). a.value) p.1 ∙ (shows at_c ∙ (ap (value o h) (sym p.0) ∙ sym (s.of_value d)))
    word d old y (inr p) = old y p.1 ∙ sym (s.of_value d)
