-- Each conflict has its own cause.
use Rattle.std.proofs.Common.{Bool, List, None, Option, Some, [], ap, arith, eq-eqb, false, if◌then◌else◌, inl, inr, le-leb, length, nat_le, nat_lt, not, refl, slice_get, slice_set, subst, suc, sym, true, ℕ, ◌%◌, ◌&&◌, ◌*◌, ◌/◌, ◌<◌, ◌==◌, ◌||◌, ◌∙◌, ◌∷◌, ◌≡◌, ◌≢◌, ◌≤◌, ◌⊎◌}
use Rattle.std.proofs.lemmas.Bool.{both_ways}
use Rattle.std.proofs.lemmas.Option.{none-some}
use Rattle.tlcore.specs.History.{Will, deed, value, version}
use Rattle.tlcore.specs.Seats.{Checking, Held, Idle, Loaded, Looked, Phase, Reading, Seat, Storing, Taking, all_below, find_held, is_held, is_nil, is_settled, passes, settled_below, with_stored, without}
use Rattle.tlcore.specs.Machine.{Action, Begin, Cell, World, begun, given, next, in_phase, saw, with_seat}
use Rattle.tlcore.specs.Schedules.{Event, run}
use Rattle.tlcore.specs.Conflicts.{ConflictsHaveCause, HeldByOther, HeldMeanwhile, NoBegin, cell_of}
use Rattle.tlcore.specs.Invariant.{Consistent, Holds, Invariant, IsOld}
use Rattle.tlcore.proofs.Deeds.{version-bound}
use Rattle.tlcore.proofs.Events.{event_keeps}
use Rattle.tlcore.proofs.Lists.{both_left, both_right, equal_numbers, get-set_other, get-set_same, known, less_numbers, option_known, other_numbers, same_or_not}
use Rattle.tlcore.proofs.Moves.{Moves, none_held, row_moves}
use Rattle.tlcore.proofs.Opacity.{given_some, odd_or_even, reached, run_keeps}
use Rattle.tlcore.proofs.Quiet.{empty_held}
use Rattle.tlcore.proofs.Rows.{Row, begins, check_conflicts, checks, draws, loads, look_conflicts, looks, releases_done, releases_failed, releases_void, relook_conflicts, relooks, row_of, stores, take_conflicts, takes}
use Rattle.tlcore.proofs.Since.{Active, Steady, other_step, own_step}

-- ---- a conflict contradicts that the lock word stayed

old-passes : (word rv : ℕ) → IsOld word rv → passes word rv ≡ true
old-passes word rv b =
    let e : word % 2 ≡ 0 = omega (arith, b.1) in
    let l : word / 2 ≤ rv = omega (arith, b.1, b.2) in
    both_true (word % 2 == 0) (nat_le (word / 2) rv) (eq-eqb (word % 2) 0 e) (le-leb (word / 2) rv l)
  where
    both_true : (a b : Bool) → a ≡ true → b ≡ true → (a && b) ≡ true
    both_true true b p q = q
    both_true false b p q = cc

below_free : (c : ℕ) (ks : List Held) (k : Held) → all_below c ks ≡ true → find_held c ks ≡ Some k → ⊥
below_free c [] k a e = cc
below_free c (x ∷ ks) k a e = go (known (x.cell == c)) (below_free c ks k (both_right (nat_lt x.cell c) (all_below c ks) a))
  where
    l : x.cell < c
    l = less_numbers x.cell c (both_left (nat_lt x.cell c) (all_below c ks) a)

    go : ((x.cell == c) ≡ true) ⊎ ((x.cell == c) ≡ false) → (find_held c ks ≡ Some k → ⊥) → ⊥
    go (inl p) ih = let n : x.cell ≡ c = equal_numbers x.cell c p in omega (arith, l)
    go (inr p) ih = ih (rw p at e)

find-is_held : (c : ℕ) (ks : List Held) (k : Held) → find_held c ks ≡ Some k → is_held c ks ≡ true
find-is_held c [] k e = cc
find-is_held c (x ∷ ks) k e = go (known (x.cell == c)) (find-is_held c ks k)
  where
    go : ((x.cell == c) ≡ true) ⊎ ((x.cell == c) ≡ false) → (find_held c ks ≡ Some k → is_held c ks ≡ true) → is_held c (x ∷ ks) ≡ true
    go (inl p) ih = rw p refl
    go (inr p) ih = rw p (ih (rw p at e))

due_free : (c u : ℕ) (ks : List Held) (b : Bool) (k : Held) → (not (is_settled ks u c) && b) ≡ true → find_held c ks ≡ Some k → ⊥
due_free c u ks b k d e = go (is_held c ks) (nat_lt c u) (both_left (not (is_settled ks u c)) b d) (find-is_held c ks k e)
  where
    go : (x y : Bool) → not (x || y) ≡ true → x ≡ true → ⊥
    go true y p q = cc
    go false y p q = cc

module _ (o : List ℕ) (w : World) (s : ℕ) (t : Seat) (I : Consistent o w) (e : slice_get w.seats s ≡ Some t) (calm : t.conflicted
    ≡ false) where
  abbrev Cause : Action → Type 0
  Cause a = (c : ℕ) × (cell_of a ≡ Some c) × ((L : ℕ) → Active L w.cells t c t.phase → ⊥)

  seat_now : (z u : Seat) → slice_get (slice_set w.seats s z) s ≡ Some u → u.conflicted ≡ true → z.conflicted ≡ true
  seat_now z u f g =
      let a : Some z ≡ Some u = sym (get-set_same w.seats s z t e) ∙ f in
      let b : z ≡ u = cc in
      ap (λ (y : Seat). y.conflicted) b ∙ g

  no_conflict : (z u : Seat) (a : Action) → z.conflicted ≡ false → slice_get (slice_set w.seats s z) s ≡ Some u → u.conflicted ≡ true
      → Cause a
  no_conflict z u a m f g = absurd (both_ways z.conflicted m (seat_now z u f g))

  active_at : (L c : ℕ) (p : Phase) → t.phase ≡ p → Active L w.cells t c t.phase → Active L w.cells t c p
  active_at L c p q a = subst (λ (y : Phase). Active L w.cells t c y) q a

  stale : (L c : ℕ) (x : Cell) → Steady L w.cells t.rv t.held t.reads c → slice_get w.cells c ≡ Some x
      → ((k : Held) → find_held c t.held ≡ Some k → ⊥) → passes x.lock t.rv ≡ false → ⊥
  stale L c x st f n m =
      both_ways (passes x.lock t.rv) m (old-passes x.lock t.rv (subst (λ (y : ℕ). IsOld y t.rv) (sym (st.lock x f n)) st.old))

  row_cause : (a : Action) (v : World) (u : Seat) → Row w s t a v → slice_get v.seats s ≡ Some u → u.conflicted ≡ true → Cause a
  row_cause a v u (begins p) f g = no_conflict (begun w t) u a refl f g
  row_cause a v u (looks {c} {x} p h m) f g = no_conflict (in_phase (saw t c x.lock) (Looked c x.lock)) u a calm f g
  row_cause a v u (look_conflicts {c} {x} p h m) f g =
      (c, refl, λ L b. stale L c x (active_at L c Reading p b) h (λ k i. none_held o w s t I e Reading p (λ y. y) c (k, i)) m)
  row_cause a v u (loads {c} {word} {x} p h) f g = no_conflict (in_phase t (Loaded c word x.value)) u a calm f g
  row_cause a v u (relooks {c} {word} {v = y} {x} p h m) f g =
      no_conflict (record (saw t c x.lock) { phase = Reading; reads = record { cell = c; word = word; value = y } ∷ t.reads }) u a calm f g
  row_cause a v u (relook_conflicts {c} {word} {v = y} {x} p h m) f g = (c, refl, go)
    where
      go : (L : ℕ) → Active L w.cells t c t.phase → ⊥
      go L b =
          let st : Steady L w.cells t.rv t.held t.reads c × (c ≡ c → word ≡ L) = active_at L c (Loaded c word y) p b in
          other_numbers x.lock word m
          (st.0.lock x h (λ k i. none_held o w s t I e (Loaded c word y) p (λ q. q.0) c (k, i)) ∙ sym (st.1 refl))
  row_cause a v u (takes {c} {v = y} {r} {x} p i h m) f g =
      no_conflict (record (saw t c x.lock) {
        phase = Taking;
        held =
            record { cell = c; word = r.word; value = y; stored = false } ∷ t.held;
        locked = c ∷ t.locked;
      }) u a calm f g
  row_cause a v u (take_conflicts {c} {r = r} {x} p i h m) f g = (c, refl, λ L b. go L b p)
    where
      at_last : (L : ℕ) → Steady L w.cells t.rv t.held t.reads c → ((k : Held) → find_held c t.held ≡ Some k → ⊥) → ⊥
      at_last L st n = other_numbers x.lock r.word m (st.lock x h n ∙ sym (st.words r i))

      go : (L : ℕ) → Active L w.cells t c t.phase → (t.phase ≡ Reading) ⊎ ((t.phase ≡ Taking) × (all_below c t.held ≡ true)) → ⊥
      go L b (inl q) = at_last L (active_at L c Reading q b) (λ k j. none_held o w s t I e Reading q (λ y. y) c (k, j))
      go L b (inr q) = at_last L (active_at L c Taking q.0 b) (λ k j. below_free c t.held k q.1 j)
  row_cause a v u (draws p) f g = no_conflict (in_phase t (Checking w.clock 0)) u a calm f g
  row_cause a v u (checks {i} {u = n} {c} {x} p d h m) f g = no_conflict (in_phase (saw t c x.lock) (Checking i (suc c))) u a calm f g
  row_cause a v u (check_conflicts {i} {u = n} {c} {x} p d h m) f g = (
    c,
    refl,
    λ L b. stale L c x (active_at L c (Checking i n) p b) h
        (λ k j. due_free c n t.held (settled_below c t.held n t.reads) k d j) m,
  )
  row_cause a v u (stores {i} {c} p h j) f g = no_conflict (record t { phase = Storing i; held = with_stored c t.held }) u a calm f g
  row_cause a v u (releases_done {i} {c} p h st j) f g =
      no_conflict (record t { phase = (if is_nil (without c t.held) then Idle else t.phase); held = without c t.held }) u a calm f g
  row_cause a v u (releases_failed {c} p h j) f g =
      no_conflict (record t { phase = (if is_nil (without c t.held) then Idle else t.phase); held = without c t.held }) u a calm f g
  row_cause a v u (releases_void {i} {c} p h j) f g =
      no_conflict (record t { phase = (if is_nil (without c t.held) then Idle else t.phase); held = without c t.held }) u a calm f g

-- ---- over a run

-- the seat runs, and the lock word of the cell is L since its run began
abbrev pub Since : ℕ → World → ℕ → ℕ → Type 0
Since L w s c = (t : Seat) × (slice_get w.seats s ≡ Some t) × Active L w.cells t c t.phase

sooner : (w v : World) (e : Event) (es : List Event) (s c : ℕ) → next w e.0 e.1 ≡ Some v → HeldMeanwhile v es s c
    → HeldMeanwhile w (e ∷ es) s c
sooner w v e es s c n m =
    (e ∷ m.0, m.1, m.2, ap (λ (y : List Event). e ∷ y) m.3, ap (λ (y : Option World). given y (λ u. run m.0 u)) n ∙ m.4, m.5)

at_once : (w : World) (es : List Event) (s c : ℕ) → HeldByOther w s c → HeldMeanwhile w es s c
at_once w es s c h = ([], es, w, refl, refl, h)

pub since_run : (o : List ℕ) (L s c : ℕ) (es : List Event) (w v : World) → Invariant o w → NoBegin s es → run es w ≡ Some v → Since L w s c
    → HeldMeanwhile w es s c ⊎ Since L v s c
since_run o L s c [] w v I nb r b = let q : w ≡ v = cc in inr (subst (λ (y : World). Since L y s c) q b)
since_run o L s c (e ∷ es) w v I nb r b =
    first (given_some (next w e.0 e.1) (λ u. run es u) v r) (since_run o L s c es)
  where
    first : (u : World) × (next w e.0 e.1 ≡ Some u) × (run es u ≡ Some v)
        → ((w v : World) → Invariant o w → NoBegin s es → run es w ≡ Some v → Since L w s c → HeldMeanwhile w es s c ⊎ Since L v s c)
        → HeldMeanwhile w (e ∷ es) s c ⊎ Since L v s c
    first m ih = go (same_or_not s e.0)
      where
        row : (t : Seat) × (slice_get w.seats e.0 ≡ Some t) × Row w e.0 t e.1 m.0
        row = row_of w m.0 e.0 e.1 m.1

        J : Invariant o m.0
        J = (event_keeps o w m.0 e.0 e.1 I m.1).invariant

        on : Since L m.0 s c → HeldMeanwhile w (e ∷ es) s c ⊎ Since L v s c
        on a = elim (ih m.0 v J nb.1 m.2 a) [ inl y ↦ inl (sooner w m.0 e es s c m.1 y) | inr y ↦ inr y ]

        own : e.0 ≡ s → Since L m.0 s c
        own q =
            let f : slice_get w.seats s ≡ Some row.0 = ap (slice_get w.seats) (sym q) ∙ row.1 in
            let g : Some row.0 ≡ Some b.0 = sym f ∙ b.1 in
            let h : row.0 ≡ b.0 = cc in
            let d : Row w s row.0 e.1 m.0 = subst (λ (y : ℕ). Row w y row.0 e.1 m.0) q row.2 in
            own_step o L w s c row.0 I.consistent f (subst (λ (y : Seat). Active L w.cells y c y.phase) (sym h) b.2) e.1 m.0 (nb.0 q) d

        go : (e.0 ≡ s) ⊎ (e.0 ≢ s) → HeldMeanwhile w (e ∷ es) s c ⊎ Since L v s c
        go (inl q) = on (own q)
        go (inr q) =
            let mv : Moves w e.0 row.0 m.0 = row_moves o w e.0 row.0 I.consistent row.1 e.1 m.0 row.2 in
            elim (other_step L w m.0 s e.0 c b.0 row.0 q row.1 mv b.1 b.2) [
              | inl y ↦ inl (at_once w (e ∷ es) s c y)
              | inr (inl y) ↦ inl (sooner w m.0 e es s c m.1 (at_once m.0 es s c y))
              | inr (inr y) ↦ on (
                b.0,
                ap (λ (l : List Seat). slice_get l s) mv.1
                    ∙ (get-set_other w.seats e.0 s mv.0 (λ i. q (sym i)) ∙ b.1),
                y,
              )
            ]

-- ---- from the Begin of the run

begin_row : (w : World) (s : ℕ) (t : Seat) (v : World) → Row w s t Begin v → v ≡ with_seat w s (begun w t)
begin_row w s t v (begins p) = refl

begin_since : (o : List ℕ) (w : World) (s : ℕ) (t : Seat) → slice_get w.seats s ≡ Some t → Invariant o (with_seat w s (begun w t)) → (c : ℕ)
    → HeldByOther (with_seat w s (begun w t)) s c ⊎ ((L : ℕ) × Since L (with_seat w s (begun w t)) s c)
begin_since o w s t e I c = go (option_known (slice_get w.cells c))
  where
    v : World
    v = with_seat w s (begun w t)

    at_s : slice_get (slice_set w.seats s (begun w t)) s ≡ Some (begun w t)
    at_s = get-set_same w.seats s (begun w t) t e

    since : (L : ℕ) → IsOld L w.clock → ((x : Cell) → slice_get w.cells c ≡ Some x → x.lock ≡ L) → Since L (with_seat w s (begun w t)) s c
    since L old f = (begun w t, at_s, record { old = old; lock = λ x g n. f x g; words = λ r g. cc })

    locked : (x : Cell) (u : ℕ) → (s' : ℕ) × (d : Seat) × (slice_get (slice_set w.seats s (begun w t)) s' ≡ Some d) × Holds d c
        → HeldByOther (with_seat w s (begun w t)) s c ⊎ ((L : ℕ) × Since L (with_seat w s (begun w t)) s c)
    locked x u b = by (same_or_not s b.0)
      where
        by : (b.0 ≡ s) ⊎ (b.0 ≢ s) → HeldByOther (with_seat w s (begun w t)) s c ⊎ ((L : ℕ) × Since L (with_seat w s (begun w t)) s c)
        by (inl q) =
            let g : Some (begun w t) ≡ Some b.1 = sym at_s ∙ (ap (slice_get (slice_set w.seats s (begun w t))) (sym q) ∙ b.2) in
            let h : begun w t ≡ b.1 = cc in
            absurd (empty_held (b.1).held (ap (λ (y : Seat). y.held) (sym h)) c b.3.0 b.3.1)
        by (inr q) = inl (b.0, b.1, b.3.0, q, b.2, b.3.1)

    parity : (x : Cell) → slice_get w.cells c ≡ Some x → ((u : ℕ) × (x.lock ≡ 2 * u)) ⊎ ((u : ℕ) × (x.lock ≡ suc (2 * u)))
        → HeldByOther (with_seat w s (begun w t)) s c ⊎ ((L : ℕ) × Since L (with_seat w s (begun w t)) s c)
    parity x f (inl p) =
        let b : (p.0 ≡ version w.history c) × (x.value ≡ value o w.history c) × ((i u : ℕ) → deed w.history c i ≡ Will u → ⊥) =
        I.consistent.cells c p.0 x f p.1 in
        let l : version w.history c ≤ length w.history = version-bound (deed w.history c) (length w.history) in
        inr (x.lock, since x.lock (p.0, p.1, omega (arith, b.0, l, I.consistent.clock)) (λ y g. same y x (sym g ∙ f)))
      where
        same : (y x : Cell) → Some y ≡ Some x → y.lock ≡ x.lock
        same y x g = let h : y ≡ x = cc in ap (λ (r : Cell). r.lock) h
    parity x f (inr p) = locked x p.0 (I.locked_are_held c p.0 x f p.1)

    go : ((x : Cell) × (slice_get w.cells c ≡ Some x)) ⊎ (slice_get w.cells c ≡ None)
        → HeldByOther (with_seat w s (begun w t)) s c ⊎ ((L : ℕ) × Since L (with_seat w s (begun w t)) s c)
    go (inl x) = parity x.0 x.1 (odd_or_even (x.0).lock)
    go (inr n) = inr (0, since 0 (0, refl, omega arith) (λ x g. absurd (none-some x (sym n ∙ g))))

pub schedule_causes : ConflictsHaveCause
schedule_causes o n front es s a w w1 before after r0 b nb r1 st t u f g calm met =
    go (row_cause o before s t K.consistent f calm a after u (same_seat row) g met)
  where
    I : Invariant o w
    I = reached o n front w r0

    J : Invariant o w1
    J = (event_keeps o w w1 s Begin I b).invariant

    K : Invariant o before
    K = (run_keeps o es w1 before J r1).invariant

    row : (d : Seat) × (slice_get before.seats s ≡ Some d) × Row before s d a after
    row = row_of before after s a st

    same_seat : (d : Seat) × (slice_get before.seats s ≡ Some d) × Row before s d a after → Row before s t a after
    same_seat d =
        let p : Some d.0 ≡ Some t = sym d.1 ∙ f in
        let q : d.0 ≡ t = cc in
        subst (λ (y : Seat). Row before s y a after) q d.2

    first : (d : Seat) × (slice_get w.seats s ≡ Some d) × Row w s d Begin w1
    first = row_of w w1 s Begin b

    is : w1 ≡ with_seat w s (begun w first.0)
    is = begin_row w s first.0 w1 first.2

    starts : (c : ℕ) → HeldByOther w1 s c ⊎ ((L : ℕ) × Since L w1 s c)
    starts c =
        subst (λ (y : World). HeldByOther y s c ⊎ ((L : ℕ) × Since L y s c)) (sym is)
        (begin_since o w s first.0 first.1 (subst (Invariant o) is J) c)

    go : (c : ℕ) × (cell_of a ≡ Some c) × ((L : ℕ) → Active L before.cells t c t.phase → ⊥)
        → (c : ℕ) × (cell_of a ≡ Some c) × HeldMeanwhile w1 es s c
    go k = (k.0, k.1, by (starts k.0))
      where
        last : (L : ℕ) → HeldMeanwhile w1 es s k.0 ⊎ Since L before s k.0 → HeldMeanwhile w1 es s k.0
        last L (inl y) = y
        last L (inr y) =
            let p : Some (y.0) ≡ Some t = sym y.1 ∙ f in
            let q : y.0 ≡ t = cc in
            absurd (k.2 L (subst (λ (z : Seat). Active L before.cells z k.0 z.phase) q y.2))

        by : HeldByOther w1 s k.0 ⊎ ((L : ℕ) × Since L w1 s k.0) → HeldMeanwhile w1 es s k.0
        by (inl y) = at_once w1 es s k.0 y
        by (inr y) = last y.0 (since_run o y.0 s k.0 es w1 before J nb r1 y.1)
