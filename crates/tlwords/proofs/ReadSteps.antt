-- Begin, Look, Load and Relook keep the rule: each is one event of the machine.
use Rattle.std.proofs.Common.{◌≡◌, ◌≢◌, ℕ, suc, ◌-◌, ◌*◌, ◌/◌, ◌%◌, ◌<◌, ◌≤◌, ◌⊎◌, inl, inr, ⊎_elim, Bool, true, false, if◌then◌else◌, ◌==◌, Some, None, List, [], ◌∷◌, length, slice_get, slice_set, slice_index, sym, refl, ap, ◌∙◌, subst, arith}
use mathlib.Core.Logic.{dite}
use mathlib.Core.Option.{none, some}
use native.Mathlib.Decide.{ℕ_discrete, dec_lt}
use lib.ListN.{get_elem?}
use Rattle.std.proofs.lemmas.List.{set-get_or}
use Rattle.atomic_table.specs.Table.{step, Allows}
use Rattle.tlcore.specs.History.{WordsEntry, IsVersionOf, Will, deed, version, version_after, value}
use Rattle.tlcore.specs.Seats.{Seat, number_at, passes}
use Rattle.tlcore.specs.Machine.{World, with_seat, begun, in_phase, conflict, saw, look, load, relook}
use Rattle.tlcore.specs.Invariant.{Invariant, IsOld}
use Rattle.tlcore.specs.declared.actions.Action.TheVariants.{Begin, Look, Load, Relook}
use Rattle.tlcore.specs.Laws.{Leads}
use Rattle.tlcore.proofs.Growth.{get_exists}
use Rattle.tlcore.proofs.Halves.{halves}
use Rattle.tlcore.proofs.Laws.{begin_leads, look_leads, load_leads, relook_leads}
use Rattle.tlcore.proofs.SeatParts.{passes-old}
use Rattle.tlcore.specs.declared.cells.Cell.{Cell}
use Rattle.tlcore.specs.declared.seats.Phase.{Phase}
use Rattle.tlcore.specs.declared.seats.Phase.TheVariants.{Idle, Reading, Looked, Loaded}
use Rattle.tlcore.proofs.Words.{not_looking, looked_same, loaded_same, looked_not_loaded}
use Rattle.ranges.specs.Ranges.{Range, Names}
use Rattle.tlwords.specs.Terms.{Terms}
use Rattle.tlwords.specs.Seen.{Seen}
use Rattle.tlwords.specs.Views.{Told, View, untold}
use Rattle.tlwords.specs.Layout.{clock_at, lock_at, value_at}
use Rattle.tlwords.specs.Rule.{Start, IsFresh, LookIsFresh, IsTold, Suits, Ruled}
use Rattle.tlwords.specs.Plays.{Mine, Sees, Looks, began, after_look, after_relook, sampled, looked, loaded, relooked, bare}
use Rattle.tlwords.proofs.Reaching.{Follows, by_event}
use Rattle.tlwords.proofs.Paired.{clock_word, lock_word, value_word, word_count, lock_within, value_within}
use Rattle.tlwords.proofs.Seens.{version_settled}
use Rattle.tlwords.proofs.Lifts.{lifted}
use Rattle.tlwords.proofs.Keeps.{Rule, now, seat_at, after_step, goes, untold_is}

-- a place without a number
pub no_number : (p q : Phase) (i : ℕ) → p ≡ q → number_at q ≡ None → number_at p ≡ Some i → ⊥
no_number p q i e n s = let b : None ≡ Some i = sym n ∙ (sym (ap number_at e) ∙ s) in cc

-- ---- tests and halves

pub if_known : (P : Seat → Type 0) (b : Bool) (x y : Seat) → (b ≡ true → P x) → (b ≡ false → P y) → P (if b then x else y)
if_known P true x y f g = f refl
if_known P false x y f g = g refl

pub half_of : (n : ℕ) → (n ≡ 2 * (n / 2)) ⊎ (n ≡ suc (2 * (n / 2)))
half_of n = dite (ℕ_discrete (n % 2) 0) (λ e. inl (omega arith)) (λ e. inr (omega arith))

pub lock_back : (c : ℕ) → (lock_at c - lock_at 0) / 2 ≡ c
lock_back c = omega arith

pub value_back : (c : ℕ) → (value_at c - lock_at 0) / 2 ≡ c
value_back c = omega arith

-- ---- looks

looked_fresh : (h : List WordsEntry) (t : Seat) (c word : ℕ) → IsFresh h t.rv c word → LookIsFresh h (in_phase t (Looked c word))
looked_fresh h t c word f d other value (inl p) =
    let e : (c ≡ d) × (word ≡ other) = looked_same c word d other p in
    subst (λ (z : ℕ × ℕ). IsFresh h t.rv z.0 z.1) (λ j. (e.0 j, e.1 j)) f
looked_fresh h t c word f d other value (inr p) = absurd (looked_not_loaded c word d other value p)

loaded_fresh : (h : List WordsEntry) (t : Seat) (c word seen : ℕ) → IsFresh h t.rv c word → LookIsFresh h (in_phase t (Loaded c word seen))
loaded_fresh h t c word seen f d other value (inl p) = absurd (looked_not_loaded d other c word seen (sym p))
loaded_fresh h t c word seen f d other value (inr p) =
    let e : (c ≡ d) × (word ≡ other) = loaded_same c word seen d other value p in
    subst (λ (z : ℕ × ℕ). IsFresh h t.rv z.0 z.1) (λ j. (e.0 j, e.1 j)) f

-- a free lock word is twice the cell's version
pub free_word : (o : List ℕ) (w : World) (c n : ℕ) (x : Cell) → Invariant o w → slice_get w.cells c ≡ Some x → n ≡ x.lock → n % 2 ≡ 0
    → (n / 2 ≡ version w.history c) × ((i u : ℕ) → deed w.history c i ≡ Will u → ⊥)
free_word o w c n x I f is even =
    let e : x.lock ≡ 2 * (n / 2) = omega (arith, is, even) in
    let b : (n / 2 ≡ version w.history c) × (x.value ≡ value o w.history c) × ((i u : ℕ) → deed w.history c i ≡ Will u → ⊥) =
    I.consistent.cells c (n / 2) x f e in
    (b.0, b.2)

-- a look that passes finds a fresh word
pass_fresh : (o : List ℕ) (w : World) (c n rv : ℕ) (x : Cell) → Invariant o w → slice_get w.cells c ≡ Some x → n ≡ x.lock
    → rv ≤ length w.history → passes n rv ≡ true → IsFresh w.history rv c n
pass_fresh o w c n rv x I f is l p =
    let old : IsOld n rv = passes-old n rv p in
    let a : n ≡ 2 * old.0 = old.1 in
    let m : old.0 ≤ rv = old.2 in
    let even : n % 2 ≡ 0 = omega (arith, a) in
    let b : (n / 2 ≡ version w.history c) × ((i u : ℕ) → deed w.history c i ≡ Will u → ⊥) = free_word o w c n x I f is even in
    let low : version_after (deed w.history c) (length w.history) ≤ rv = omega (arith, a, m, b.0) in
    let same : version_after (deed w.history c) rv ≡ version_after (deed w.history c) (length w.history) =
    version_settled (deed w.history c) (length w.history) rv low l in
    (omega (arith, same, a, b.0), λ i u k e. b.1 i u e)

module _ {S N : Type 0} (terms : Terms S N) (setting : S) (base : List ℕ) (room : ℕ) where
  -- the cell is one of the world's
  pub cell_in : (ranges : List Range) (ws : List ℕ) (vs : List (View S N)) (r : Rule terms setting base room ranges ws vs) (id : ℕ)
      (v : View S N)
      → get_elem? vs id ≡ some v → (y : S) → v.setting ≡ Some y → (c : ℕ) → c < length v.base
      → (x : Cell) × (slice_get (r.world).cells c ≡ Some x)
  cell_in ranges ws vs r id v at y e c l =
      let f : Suits terms setting base room (now terms setting base room ranges ws vs r) r.owner v = r.suits id v at in
      let b : (y ≡ setting) × (v.base ≡ base) = f.own.setting_is y e in
      let same : length v.base ≡ length base = ap length b.1 in
      let cells : length (r.world).cells ≡ length base = r.cells_are in
      get_exists (r.world).cells c (omega (arith, l, same, cells))

  -- the half of a lock word is 0 or the number of a Done entry that writes the cell
  pub half_written : (ranges : List Range) (ws : List ℕ) (vs : List (View S N)) (r : Rule terms setting base room ranges ws vs) (c n : ℕ)
      (x : Cell)
      → slice_get (r.world).cells c ≡ Some x → n ≡ x.lock → IsVersionOf (r.world).history c (n / 2)
  half_written ranges ws vs r c n x f is =
      halves base r.world r.invariant c (n / 2) x f
      (⊎_elim (λ (e : n ≡ 2 * (n / 2)). inl (sym is ∙ e)) (λ (e : n ≡ suc (2 * (n / 2))). inr (sym is ∙ e)) (half_of n))

  -- a load, by an event that changes the seat alone
  pub quiet : (ranges : List Range) (ws : List ℕ) (vs : List (View S N)) (r : Rule terms setting base room ranges ws vs) (id : ℕ)
      (v : View S N) → get_elem? vs id ≡ some v
      → (i : ℕ) (z : Seat) (told : Told S N)
      → Follows base r.world (with_seat r.world id z) → IsTold setting base (now terms setting base room ranges ws vs r) r.owner told
      → ((k : ℕ) → number_at v.seat.phase ≡ Some k → number_at z.phase ≡ Some k)
      → ((k : ℕ) → number_at z.phase ≡ Some k → number_at v.seat.phase ≡ Some k)
      → LookIsFresh (r.world).history z → (v.rights ≡ 0 → v.seat.held ≡ [] → z.held ≡ [])
      → (w : View S N) → w ≡ after_step terms setting base room ranges ws vs r v (r.world) z v.mine told
      → Rule terms setting base room ranges (slice_set ws i (slice_index ws i)) (slice_set vs id w) × Sees terms v w
  quiet ranges ws vs r id v at i z told stays is_told on back look unheld w is =
      subst (λ (w : View S N). Rule terms setting base room ranges (slice_set ws i (slice_index ws i)) (slice_set vs id w)
      × Sees terms v w) (sym is)
      (goes terms setting base room ranges ws vs r id v at (slice_set ws i (slice_index ws i))
      (with_seat r.world id z) z v.mine told r.named stays refl
      (set-get_or ws i 0 ∙ r.words_are) refl refl (λ a. a) is_told (λ k p. inl (on k p)) back look unheld)

  pub samples : (opened : Start) (slots id : ℕ) (me : Mine S N) → (me.0.seat.phase ≡ Idle) ⊎ (me.0.seat.phase ≡ Reading)
      → Allows (Ruled terms setting base room opened) slots id me clock_at (λ n. n) (bare (sampled terms) (step slots clock_at 0 0 none) me)
  samples opened slots id me p =
      lifted terms setting base room opened slots id clock_at me (λ n. n)
      (sampled terms (step slots clock_at 0 0 none) me) λ ranges ws vs r at.
      let v : View S N = me.0 in
      let w : World = r.world in
      let n : ℕ = slice_index ws clock_at in
      let is : n ≡ w.clock = clock_word ws w r.words_are in
      let e : slice_get w.seats id ≡ Some v.seat = seat_at terms setting base room ranges ws vs r id v at in
      let lead : Leads base w id Begin (with_seat w id (begun w v.seat)) = begin_leads base w id v.seat r.invariant e p in
      let keep : Follows base w (with_seat w id (began v.seat n)) =
      subst (λ (k : ℕ). Follows base w (with_seat w id (began v.seat k))) (sym is) (by_event lead) in
      let h : Seen N = record { history = w.history; notes = r.notes; ranges = ranges } in
      let u : View S N = record v { seen = h; seat = began v.seat n; told = untold } in
      let q : Rule terms setting base room ranges (slice_set ws clock_at n) (slice_set vs id u) × Sees terms v u =
      quiet ranges ws vs r id v at clock_at (began v.seat n) untold keep (untold_is setting base h r.owner)
      (λ k a. absurd (⊎_elim (λ (b : v.seat.phase ≡ Idle). no_number v.seat.phase Idle k b refl a)
      (λ (b : v.seat.phase ≡ Reading). no_number v.seat.phase Reading k b refl a) p))
      (λ k a. absurd (no_number Reading Reading k refl refl a))
      (λ c word value a. absurd (not_looking Reading refl c word value a)) (λ _ _. refl) u refl in
      let f = r.suits id v at in (
        (let l = word_count ws w r.words_are in omega arith),
        u,
        (refl, refl, refl),
        q.0,
        record {
          sees = q.1;
          clock = sym ((r.invariant).consistent.clock) ∙ sym is;
          apart = λ d k a b. d (sym (f.own.owned k a).1 ∙ (f.told.owned k b).1);
          same = λ x y a b.
              let c : (x ≡ setting) × (v.base ≡ base) = f.own.setting_is x a in
              let d : (y ≡ setting) × (v.told.base ≡ base) = f.told.setting_is y b in
              (c.0 ∙ sym d.0, c.1 ∙ sym d.1);
          is = refl;
        },
      )

  pub looks : (opened : Start) (slots id c : ℕ) (me : Mine S N) (y : S) → me.0.setting ≡ Some y → c < length me.0.base
      → me.0.seat.phase ≡ Reading
      → Allows (Ruled terms setting base room opened) slots id me (lock_at c) (λ n. n)
      (bare (looked terms) (step slots (lock_at c) 0 0 none) me)
  looks opened slots id c me y set l p =
      lifted terms setting base room opened slots id (lock_at c) me (λ n. n)
      (looked terms (step slots (lock_at c) 0 0 none) me) λ ranges ws vs r at.
      let v : View S N = me.0 in
      let t : Seat = v.seat in
      let w : World = r.world in
      let n : ℕ = slice_index ws (lock_at c) in
      let x : (x : Cell) × (slice_get w.cells c ≡ Some x) = cell_in ranges ws vs r id v at y set c l in
      let is : n ≡ (x.0).lock = lock_word ws w r.words_are c x.0 x.1 in
      let e : slice_get w.seats id ≡ Some t = seat_at terms setting base room ranges ws vs r id v at in
      let lead : Leads base w id (Look c) (look w id t c x.0) = look_leads base w id t c x.0 r.invariant e p x.1 in
      let keep : Follows base w (with_seat w id (after_look t c n)) =
      subst (λ (k : ℕ). Follows base w (with_seat w id (after_look t c k))) (sym is) (by_event lead) in
      let h : Seen N = record { history = w.history; notes = r.notes; ranges = ranges } in
      let u : View S N = record v { seen = h; seat = after_look t c n } in
      let f : Suits terms setting base room h r.owner v = r.suits id v at in
      let rv : t.rv ≤ length w.history = ((r.invariant).consistent.seats id t e).rv in
      let q : Rule terms setting base room ranges (slice_set ws (lock_at c) n) (slice_set vs id u) × Sees terms v u =
      quiet ranges ws vs r id v at (lock_at c) (after_look t c n) v.told keep f.told
      (λ k a. absurd (no_number t.phase Reading k p refl a))
      (λ k a. absurd (if_known (λ (z : Seat). number_at z.phase ≡ Some k
      → ⊥) (passes n t.rv) (in_phase (saw t c n) (Looked c n)) (conflict (saw t c n) Idle)
      (λ _ b. no_number (Looked c n) (Looked c n) k refl refl b) (λ _ b. no_number Idle Idle k refl refl b) a))
      (if_known (λ (z : Seat). LookIsFresh w.history z) (passes n t.rv) (in_phase (saw t c n) (Looked c n)) (conflict (saw t c n) Idle)
      (λ b. looked_fresh w.history (saw t c n) c n (pass_fresh base w c n t.rv x.0 r.invariant x.1 is rv b))
      (λ _ d word value a. absurd (not_looking Idle refl d word value a)))
      (λ _ b. if_known (λ (z : Seat). z.held ≡ []) (passes n t.rv) (in_phase (saw t c n) (Looked c n)) (conflict (saw t c n) Idle) (λ _. b)
      (λ _. b)) u refl in (
        lock_within ws w r.words_are c x.0 x.1,
        u,
        (refl, refl, refl),
        q.0,
        subst (λ (k : ℕ). Looks terms k me n (u, me.1)) (sym (lock_back c))
            (record { sees = q.1; written = half_written ranges ws vs r c n x.0 x.1 is; is = refl }),
      )

  pub loads : (opened : Start) (slots id c word : ℕ) (me : Mine S N) (y : S) → me.0.setting ≡ Some y → c < length me.0.base
      → me.0.seat.phase ≡ Looked c word
      → Allows (Ruled terms setting base room opened) slots id me (value_at c) (λ n. n)
      (bare (loaded terms) (step slots (value_at c) 0 0 none) me)
  loads opened slots id c word me y set l p =
      lifted terms setting base room opened slots id (value_at c) me (λ n. n)
      (loaded terms (step slots (value_at c) 0 0 none) me) λ ranges ws vs r at.
      let v : View S N = me.0 in
      let t : Seat = v.seat in
      let w : World = r.world in
      let n : ℕ = slice_index ws (value_at c) in
      let x : (x : Cell) × (slice_get w.cells c ≡ Some x) = cell_in ranges ws vs r id v at y set c l in
      let is : n ≡ (x.0).value = value_word ws w r.words_are c x.0 x.1 in
      let e : slice_get w.seats id ≡ Some t = seat_at terms setting base room ranges ws vs r id v at in
      let lead : Leads base w id (Load c) (load w id t c word x.0) = load_leads base w id t c word x.0 r.invariant e p x.1 in
      let z : Seat = in_phase t (Loaded c word n) in
      let keep : Follows base w (with_seat w id z) =
      subst (λ (k : ℕ). Follows base w (with_seat w id (in_phase t (Loaded c word k)))) (sym is) (by_event lead) in
      let h : Seen N = record { history = w.history; notes = r.notes; ranges = ranges } in
      let u : View S N = record v { seen = h; seat = z } in
      let f : Suits terms setting base room h r.owner v = r.suits id v at in
      let q : Rule terms setting base room ranges (slice_set ws (value_at c) n) (slice_set vs id u) × Sees terms v u =
      quiet ranges ws vs r id v at (value_at c) z v.told keep f.told
      (λ k a. absurd (no_number t.phase (Looked c word) k p refl a))
      (λ k a. absurd (no_number (Loaded c word n) (Loaded c word n) k refl refl a))
      (loaded_fresh w.history t c word n (f.look c word 0 (inl p))) (λ _ b. b) u refl in (
        value_within ws w r.words_are c x.0 x.1,
        u,
        (refl, refl, refl),
        q.0,
        record {
          sees = q.1;
          named = λ z d other known a ranged.
              let b : (c ≡ d) × (word ≡ other) = looked_same c word d other (sym p ∙ a) in
              let e2 : z ≡ setting = (f.own.setting_is z known).0 in
              let at_setting : terms.ranged setting c ≡ true =
              subst (λ (k : S × ℕ). terms.ranged k.0 k.1 ≡ true) (λ j. (e2 j, sym b.0 j)) ranged in
              subst (λ (k : ℕ). Names ranges k) (sym is) (r.named c x.0 x.1 at_setting);
          is = λ d other a.
              let b : (c ≡ d) × (word ≡ other) = looked_same c word d other (sym p ∙ a) in
              ap (λ (k : ℕ × ℕ). let m : View S N = record v { seen = h; seat = in_phase t (Loaded k.0 k.1 n) } in m) (λ j. (b.0 j, b.1 j));
        },
      )

  pub relooks : (opened : Start) (slots id c word value : ℕ) (me : Mine S N) (y : S) → me.0.setting ≡ Some y → c < length me.0.base
      → me.0.seat.phase ≡ Loaded c word value
      → Allows (Ruled terms setting base room opened) slots id me (lock_at c) (λ n. n)
      (bare (relooked terms) (step slots (lock_at c) 0 0 none) me)
  relooks opened slots id c word value me y set l p =
      lifted terms setting base room opened slots id (lock_at c) me (λ n. n)
      (relooked terms (step slots (lock_at c) 0 0 none) me) λ ranges ws vs r at.
      let v : View S N = me.0 in
      let t : Seat = v.seat in
      let w : World = r.world in
      let n : ℕ = slice_index ws (lock_at c) in
      let x : (x : Cell) × (slice_get w.cells c ≡ Some x) = cell_in ranges ws vs r id v at y set c l in
      let is : n ≡ (x.0).lock = lock_word ws w r.words_are c x.0 x.1 in
      let e : slice_get w.seats id ≡ Some t = seat_at terms setting base room ranges ws vs r id v at in
      let lead : Leads base w id (Relook c) (relook w id t c word value x.0) =
      relook_leads base w id t c word value x.0 r.invariant e p x.1 in
      let z : Seat = after_relook t c word value n in
      let keep : Follows base w (with_seat w id z) =
      subst (λ (k : ℕ). Follows base w (with_seat w id (after_relook t c word value k))) (sym is) (by_event lead) in
      let h : Seen N = record { history = w.history; notes = r.notes; ranges = ranges } in
      let u : View S N = record v { seen = h; seat = z } in
      let f : Suits terms setting base room h r.owner v = r.suits id v at in
      let rv : t.rv ≤ length w.history = ((r.invariant).consistent.seats id t e).rv in
      let reads : Seat = record (saw t c n) { phase = Reading; reads = record { cell = c; word = word; value = value } ∷ t.reads } in
      let q : Rule terms setting base room ranges (slice_set ws (lock_at c) n) (slice_set vs id u) × Sees terms v u =
      quiet ranges ws vs r id v at (lock_at c) z v.told keep f.told
      (λ k a. absurd (no_number t.phase (Loaded c word value) k p refl a))
      (λ k a. absurd (if_known (λ (z : Seat). number_at z.phase ≡ Some k → ⊥) (n == word) reads (conflict (saw t c n) Idle)
      (λ _ b. no_number Reading Reading k refl refl b) (λ _ b. no_number Idle Idle k refl refl b) a))
      (if_known (λ (z : Seat). LookIsFresh w.history z) (n == word) reads (conflict (saw t c n) Idle)
      (λ _ d o a b. absurd (not_looking Reading refl d o a b)) (λ _ d o a b. absurd (not_looking Idle refl d o a b)))
      (λ _ b. if_known (λ (z : Seat). z.held ≡ []) (n == word) reads (conflict (saw t c n) Idle) (λ _. b) (λ _. b)) u refl in
      let same : (d other found : ℕ) → t.phase ≡ Loaded d other found → Loaded c word value ≡ Loaded d other found =
      λ d other found a. sym p ∙ a in
      let half : IsVersionOf w.history c (n / 2) = half_written ranges ws vs r c n x.0 x.1 is in
      let fresh : IsFresh w.history t.rv c word = f.look c word value (inr p) in
      let miss : n ≢ word → n % 2 ≡ 0 → t.rv < n / 2 = λ other even.
      let b : (n / 2 ≡ version w.history c) × ((i u : ℕ) → deed w.history c i ≡ Will u → ⊥) =
      free_word base w c n x.0 r.invariant x.1 is even in
      dite (dec_lt t.rv (n / 2)) (λ m. m) (λ m.
      let low : version_after (deed w.history c) (length w.history) ≤ t.rv = omega (arith, m, b.0) in
      let k : version_after (deed w.history c) t.rv ≡ version_after (deed w.history c) (length w.history) =
      version_settled (deed w.history c) (length w.history) t.rv low rv in
      let a : word ≡ 2 * version_after (deed w.history c) t.rv = fresh.0 in
      absurd (other (omega (arith, even, k, a, b.0)))) in (
        lock_within ws w r.words_are c x.0 x.1,
        u,
        (refl, refl, refl),
        q.0,
        record {
          sees = q.1;
          written = λ d other found a. subst (λ (k : ℕ). IsVersionOf w.history k (n / 2))
              (loaded_same c word value d other found (same d other found a)).0 half;
          missed = λ d other found a ne even. miss (λ k. ne (k ∙ (loaded_same c word value d other found (same d other found a)).1)) even;
          is = λ d other found a. is_at d other found (same d other found a) v h n;
        },
      )
    where
      is_at : (d other found : ℕ) → Loaded c word value ≡ Loaded d other found → (v : View S N) (h : Seen N) (n : ℕ)
          → record v { seen = h; seat = after_relook v.seat c word value n } ≡ record v {
            seen = h;
            seat =
                after_relook v.seat d other found n;
          }
      is_at d other found a v h n =
          let i : c ≡ d = cc in
          let j : word ≡ other = cc in
          let k : value ≡ found = cc in
          ap (λ (z : ℕ × ℕ × ℕ). let m : View S N =
          record v { seen = h; seat = after_relook v.seat z.0 z.1 z.2 n } in m) (λ g. (i g, j g, k g))
