-- The theorem over all schedules.
use Rattle.std.proofs.Common.{List, None, Option, Some, [], ap, arith, inl, inr, length, refl, slice_get, slice_index, slice_set, subst}
use Rattle.std.proofs.Common.{suc, sym, zero, ℕ, ◌*◌, ◌<◌, ◌∙◌, ◌∷◌, ◌≡◌, ◌≢◌, ◌⊎◌}
use Rattle.tlcore.specs.History.{Done, WordsEntry, Grows, Open, Will, deed, value, version}
use Rattle.tlcore.specs.Seats.{Held, Phase, Seat, find_held, idle, number_at, reads_of}
use Rattle.tlcore.specs.Machine.{Action, Cell, World, given, next, store}
use Rattle.tlcore.specs.Schedules.{Event, opened, run, seated, start}
use Rattle.tlcore.specs.Opacity.{Always, AtEachEvent, DoneAreOne, HistoryGrows, NowAndLater, ReadsAreOne, StoresAreDone, WordsShow}
use Rattle.tlcore.specs.Invariant.{CheckingOk, Consistent, Invariant, PhaseOk, SeatOk}
use Rattle.tlcore.specs.Laws.{Keeps}
use Rattle.tlcore.proofs.Events.{event_keeps}
use Rattle.tlcore.proofs.Growth.{Grows-refl, Grows-trans, One-kept}
use Rattle.tlcore.proofs.Lists.{get-set_cases, get_within}
use Rattle.tlcore.proofs.Rows.{Row, begins, check_conflicts, checks, draws, loads, look_conflicts, looks, releases_done, releases_failed}
use Rattle.tlcore.proofs.Rows.{releases_void, relook_conflicts, relooks, row_of, stores, take_conflicts, takes}
use Rattle.tlcore.proofs.SeatParts.{ReadsOk-one}
use Rattle.tlcore.proofs.Settling.{get-settle_same}

pub given_some : {A B : Type 0} (x : Option A) (f : A → Option B) (b : B) → given x f ≡ Some b → (a : A) × (x ≡ Some a) × (f a ≡ Some b)
given_some None f b e = cc
given_some (Some a) f b e = (a, refl, e)

-- a schedule keeps the invariant, and its history grows
pub run_keeps : (o : List ℕ) (es : List Event) (w v : World) → Invariant o w → run es w ≡ Some v → Keeps o w v
run_keeps o [] w v I r = let q : w ≡ v = cc in subst (Keeps o w) q (record { invariant = I; grows = Grows-refl w.history })
run_keeps o (e ∷ es) w v I r = first (given_some (next w e.0 e.1) (λ u. run es u) v r) (run_keeps o es)
  where
    first : (u : World) × (next w e.0 e.1 ≡ Some u) × (run es u ≡ Some v)
        → ((w v : World) → Invariant o w → run es w ≡ Some v → Keeps o w v) → Keeps o w v
    first m ih =
        let a : Keeps o w m.0 = event_keeps o w m.0 e.0 e.1 I m.1 in
        let b : Keeps o m.0 v = ih m.0 v a.invariant m.2 in
        record { invariant = b.invariant; grows = Grows-trans w.history (m.0).history v.history a.grows b.grows }

pub opened_cell : (vs : List ℕ) (c : ℕ) (x : Cell) → slice_get (opened vs) c ≡ Some x → (x.lock ≡ 0) × (x.value ≡ slice_index vs c)
opened_cell [] c x e = cc
opened_cell (v ∷ vs) zero x e = let q : record { lock = 0; value = v } ≡ x = cc in
    (ap (λ (y : Cell). y.lock) (sym q), ap (λ (y : Cell). y.value) (sym q))
opened_cell (v ∷ vs) (suc c) x e = opened_cell vs c x e

seated_idle : (n s : ℕ) (t : Seat) → slice_get (seated n) s ≡ Some t → t ≡ idle
seated_idle zero s t e = cc
seated_idle (suc n) zero t e = let q : idle ≡ t = cc in sym q
seated_idle (suc n) (suc s) t e = seated_idle n s t e

start_consistent : (vs : List ℕ) (n : ℕ) → Consistent vs (start vs n)
start_consistent vs n =
    record {
      clock = refl;
      cells = λ c v x e j.
          let q : (x.lock ≡ 0) × (x.value ≡ slice_index vs c) = opened_cell vs c x e in
          (omega (arith, q.0), q.1, λ i u d. cc);
      history = λ i e a b. cc;
      seats = λ s t e. subst (λ (y : Seat). SeatOk vs (opened vs) [] y) (sym (seated_idle n s t e)) idle_ok;
      held_apart = λ s z t u c k l a b f g.
          let m : find_held c (idle).held ≡ Some k = subst (λ (y : Seat). find_held c y.held ≡ Some k) (seated_idle n s t a) f in
          cc;
      numbers_apart = λ s z t u i a b f g.
          let m : number_at (idle).phase ≡ Some i = subst (λ (y : Seat). number_at y.phase ≡ Some i) (seated_idle n s t a) f in
          cc;
    }
  where
    idle_ok : SeatOk vs (opened vs) [] idle
    idle_ok = record { phase = refl; rv = omega arith; reads = tt; held = λ c k f. cc }

-- the opening world meets the invariant
pub start_ok : (vs : List ℕ) (n : ℕ) → Invariant vs (start vs n)
start_ok vs n =
    record {
      consistent = start_consistent vs n;
      locked_are_held =
          λ c v x f j. let q : (x.lock ≡ 0) × (x.value ≡ slice_index vs c) = opened_cell vs c x f in absurd (omega (arith, q.0, j));
    }

-- ---- (a) to (c)

module _ (o : List ℕ) (now later : World) (I : Consistent o now) (g : Grows now.history later.history) where
  pub reads_are_one : ReadsAreOne o now later
  reads_are_one s t e =
      let q : SeatOk o now.cells now.history t = I.seats s t e in
      One-kept o now.history later.history t.rv (reads_of t.reads) g q.rv (ReadsOk-one o now.history t.rv t.reads q.reads)

  pub done_are_one : DoneAreOne o now later
  done_are_one i e a d =
      let l : i < length now.history = get_within now.history i e a in
      One-kept o now.history later.history i e.reads g (omega arith) (I.history i e a d)

pub odd_or_even : (n : ℕ) → ((u : ℕ) × (n ≡ 2 * u)) ⊎ ((u : ℕ) × (n ≡ suc (2 * u)))
odd_or_even zero = inl (0, refl)
odd_or_even (suc n) = elim (odd_or_even n) [ inl p ↦ inr (p.0, ap suc p.1) | inr p ↦ inl (suc p.0, omega (arith, p.1)) ]

pub words_show : (o : List ℕ) (w : World) → Consistent o w → WordsShow o w
words_show o w I = record {
  free =
      λ c v x e j. let b : (v ≡ version w.history c) × (x.value ≡ value o w.history c) × ((i u : ℕ) → deed w.history c i ≡ Will u → ⊥) =
      I.cells c v x e j in (b.0, b.1);
  locked = λ c i v x e d. go c i v x e d (odd_or_even x.lock);
}
  where
    go : (c i v : ℕ) (x : Cell) → slice_get w.cells c ≡ Some x → deed w.history c i ≡ Will v
        → ((u : ℕ) × (x.lock ≡ 2 * u)) ⊎ ((u : ℕ) × (x.lock ≡ suc (2 * u))) → (u : ℕ) × (x.lock ≡ suc (2 * u))
    go c i v x e d (inl p) = absurd ((I.cells c p.0 x e p.1).2 i v d)
    go c i v x e d (inr p) = p

-- ---- (d)

-- where a value word has changed from w to v, the entry of the seat t is Done in v
abbrev pub Wrote : World → Seat → World → Type 0
Wrote w t v =
    (c : ℕ) (x y : Cell) → slice_get w.cells c ≡ Some x → slice_get v.cells c ≡ Some y → y.value ≢ x.value
    → (i : ℕ) × (e : WordsEntry) × (number_at t.phase ≡ Some i) × (slice_get v.history i ≡ Some e) × (e.status ≡ Done)

module _ (o : List ℕ) (w : World) (s : ℕ) (t : Seat) (I : Consistent o w) (e : slice_get w.seats s ≡ Some t) where
  -- no value word changes
  quiet : (v : World) → v.cells ≡ w.cells → Wrote w t v
  quiet v a c x y f g n =
      let b : Some x ≡ Some y = sym f ∙ (ap (λ (z : List Cell). slice_get z c) (sym a) ∙ g) in
      let d : x ≡ y = cc in
      absurd (n (ap (λ (z : Cell). z.value) (sym d)))

  locks : (v : World) (d : ℕ) (z : Cell) (word : ℕ) → slice_get w.cells d ≡ Some z
      → v.cells ≡ slice_set w.cells d (record z { lock = word }) → Wrote w t v
  locks v d z word h a c x y f g n =
      absurd (n (go (get-set_cases w.cells d c (record z { lock = word }) y (ap (λ (z : List Cell). slice_get z c) (sym a) ∙ g))))
    where
      go : ((c ≡ d) × (y ≡ record z { lock = word })) ⊎ ((c ≢ d) × (slice_get w.cells c ≡ Some y)) → y.value ≡ x.value
      go (inl p) =
          let b : Some z ≡ Some x = sym h ∙ (ap (slice_get w.cells) (sym p.0) ∙ f) in
          let m : z ≡ x = cc in
          ap (λ (r : Cell). r.value) p.1 ∙ ap (λ (r : Cell). r.value) m
      go (inr p) =
          let b : Some y ≡ Some x = sym p.1 ∙ f in
          let m : y ≡ x = cc in
          ap (λ (r : Cell). r.value) m

  written_by : (i c : ℕ) (k : Held) (x : Cell) (d : WordsEntry) → number_at t.phase ≡ Some i → slice_get w.history i ≡ Some d
      → Wrote w t (store w s t i c k x)
  written_by i c k x d n h a y z f g m = (i, record d { status = Done }, n, get-settle_same w.history i Done d h, refl)

  row_wrote : (a : Action) (v : World) → Row w s t a v → Wrote w t v
  row_wrote a v (begins p) = quiet v refl
  row_wrote a v (looks p f m) = quiet v refl
  row_wrote a v (look_conflicts p f m) = quiet v refl
  row_wrote a v (loads p f) = quiet v refl
  row_wrote a v (relooks p f m) = quiet v refl
  row_wrote a v (relook_conflicts p f m) = quiet v refl
  row_wrote a v (takes {c} {r = r} {x} p f g m) = locks v c x (suc r.word) g refl
  row_wrote a v (take_conflicts p f g m) = quiet v refl
  row_wrote a v (draws p) = quiet v refl
  row_wrote a v (checks p d f m) = quiet v refl
  row_wrote a v (check_conflicts p d f m) = quiet v refl
  row_wrote a v (stores {i} {c} {k} {x} (inl p) f g) =
      let r : CheckingOk o w.history t i p.0 = subst (λ (y : Phase). PhaseOk o w.cells w.history t y) p.1 (I.seats s t e).phase in
      written_by i c k x r.entry (ap number_at p.1) r.here
  row_wrote a v (stores {i} {c} {k} {x} (inr p) f g) =
      let r : (d : WordsEntry) × (slice_get w.history i ≡ Some d) × (d.status ≡ Done) =
      subst (λ (y : Phase). PhaseOk o w.cells w.history t y) p (I.seats s t e).phase in
      written_by i c k x r.0 (ap number_at p) r.1
  row_wrote a v (releases_done {i} {c} {x = x} p f st g) = locks v c x (2 * suc i) g refl
  row_wrote a v (releases_failed {c} {k} {x} p f g) = locks v c x k.word g refl
  row_wrote a v (releases_void {c = c} {k} {x} p f g) = locks v c x k.word g refl

-- an entry that is Done stays Done
done_stays : (g h : List WordsEntry) (i : ℕ) (e : WordsEntry) → Grows g h → slice_get g i ≡ Some e → e.status ≡ Done
    → (f : WordsEntry) × (slice_get h i ≡ Some f) × (f.status ≡ Done)
done_stays g h i e r p d =
    let a : (f : WordsEntry) × (slice_get h i ≡ Some f) × (f.reads ≡ e.reads) × (f.writes ≡ e.writes)
    × (e.status ≢ Open → f.status ≡ e.status) =
    let b : (f : WordsEntry) × (slice_get h i ≡ Some f) × ((f.reads ≡ e.reads) × (f.writes ≡ e.writes)
    × (e.status ≢ Open → f.status ≡ e.status)) = r.1 i e p in
    (b.0, b.1, b.2.0, b.2.1, b.2.2)
    in
    (a.0, a.1, a.4 (λ n. open_done (sym n ∙ d)) ∙ d)
  where
    open_done : Open ≡ Done → ⊥
    open_done x = cc

next_wrote : (o : List ℕ) (w v : World) (s : ℕ) (a : Action) (t : Seat) → Consistent o w → slice_get w.seats s ≡ Some t
    → next w s a ≡ Some v → Wrote w t v
next_wrote o w v s a t I e n =
    let r : (d : Seat) × (slice_get w.seats s ≡ Some d) × Row w s d a v = row_of w v s a n in
    let p : Some r.0 ≡ Some t = sym r.1 ∙ e in
    let q : r.0 ≡ t = cc in
    row_wrote o w s t I e a v (subst (λ (y : Seat). Row w s y a v) q r.2)

pub stores_are_done : (o : List ℕ) (w v later : World) (s : ℕ) (a : Action) → Consistent o w → next w s a ≡ Some v
    → Grows v.history later.history → StoresAreDone w s v later
stores_are_done o w v later s a I n g c x y t f j m e =
    let b : (i : ℕ) × (d : WordsEntry) × (number_at t.phase ≡ Some i) × (slice_get v.history i ≡ Some d) × (d.status ≡ Done) =
    next_wrote o w v s a t I e n c x y f j m in
    let d : (f : WordsEntry) × (slice_get later.history b.0 ≡ Some f) × (f.status ≡ Done) =
    done_stays v.history later.history b.0 b.1 g b.3 b.4 in
    (b.0, d.0, b.2, d.1, d.2)

-- ---- over all schedules

pub reached : (o : List ℕ) (n : ℕ) (front : List Event) (now : World) → run front (start o n) ≡ Some now → Invariant o now
reached o n front now e = (run_keeps o front (start o n) now (start_ok o n) e).invariant

pub schedule_grows : NowAndLater HistoryGrows
schedule_grows o n front rest now later e f = (run_keeps o rest now later (reached o n front now e) f).grows

pub schedule_reads : NowAndLater ReadsAreOne
schedule_reads o n front rest now later e f =
    reads_are_one o now later (reached o n front now e).consistent (schedule_grows o n front rest now later e f)

pub schedule_done : NowAndLater DoneAreOne
schedule_done o n front rest now later e f =
    done_are_one o now later (reached o n front now e).consistent (schedule_grows o n front rest now later e f)

pub schedule_words : Always WordsShow
schedule_words o n front now e = words_show o now (reached o n front now e).consistent

pub schedule_stores : AtEachEvent StoresAreDone
schedule_stores o n front rest s a before after later e f g =
    let I : Invariant o before = reached o n front before e in
    let k : Keeps o before after = event_keeps o before after s a I f in
    stores_are_done o before after later s a I.consistent f (run_keeps o rest after later k.invariant g).grows
