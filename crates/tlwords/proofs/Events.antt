-- Each step on the clock or a cell's word is one event of the machine.
use Rattle.std.proofs.Common.{◌≡◌, ℕ, suc, ◌+◌, ◌*◌, ◌%◌, ◌^◌, ◌<◌, ◌≤◌, inl, inr, ⊎_elim, eq-eqb, ne_eqb, true, false, if◌then◌else◌, ◌==◌, ◌||◌, Some, List, ◌∷◌, ◌++◌, length, slice_get, slice_set, slice_index, sym, refl, ap, ◌∙◌, subst, arith}
use mathlib.Core.Logic.{dite}
use native.Mathlib.Decide.{ℕ_discrete}
use Rattle.std.proofs.lemmas.List.{set-get_or, get_or_append_left, set-append_left}
use Rattle.tlcore.specs.History.{WordsEntry, wv, settle}
use Rattle.tlcore.specs.Seats.{Seat, is_next, is_nil, all_settled, number_at}
use Rattle.tlcore.specs.Machine.{World, with_seat, begun, in_phase, conflict, saw, taken, drawn, store, release}
use Rattle.tlcore.specs.Laws.{Leads}
use Rattle.tlcore.specs.declared.actions.Action.{Action}
use Rattle.tlcore.specs.declared.actions.Action.TheVariants.{Begin, Look, Load, Relook, Take, Draw, Check, Store, Release}
use Rattle.tlcore.specs.declared.cells.Cell.{Cell}
use Rattle.tlcore.specs.declared.entries.Status.TheVariants.{Void}
use Rattle.tlcore.specs.declared.seats.Phase.TheVariants.{Idle, Loaded, Taking, Checking, Storing, Failing}
use Rattle.tlcore.proofs.Laws.{begin_leads, look_leads, load_leads, relook_leads, take_leads, draw_leads, check_leads, store_leads, release_leads, release_failed_leads, release_void_leads}
use Rattle.tlwords.specs.Terms.{Terms}
use Rattle.tlwords.specs.Views.{View}
use Rattle.tlwords.specs.Layout.{clock_at, lock_at, value_at, paired, front_of, words_of, shelf_of}
use Rattle.tlwords.specs.Rule.{Start}
use Rattle.tlwords.specs.Plays.{Mine, began, after_look, after_relook, after_take, after_check, after_store, after_release}
use Rattle.tlwords.specs.Events.{Moment, found, IsEvent, HasCell, ClockLoadIsEvent, LookIsEvent, LoadIsEvent, RelookIsEvent, TakeIsEvent, DrawIsEvent, CheckIsEvent, StoreIsEvent, ReleaseIsEvent}
use Rattle.tlwords.proofs.Paired.{map_set, clock_word, lock_word, value_word, word_count, lock_within, value_within, lock_is_set, value_is_set}
use Rattle.tlwords.proofs.Keeps.{Rule, seat_at}
use Rattle.tlwords.proofs.ReadSteps.{cell_in}
use Rattle.tlwords.proofs.RunSteps.{if_true, if_false}

module _ {S N : Type 0} (terms : Terms S N) (setting : S) (base : List ℕ) (room : ℕ) (opened : Start) where
  module _ (m r : Mine S N) (at : Moment terms setting base room opened m r) where
    abbrev k : Rule terms setting base room at.rule.ranges at.rule.front at.state.views
    k = at.rule.kept

    abbrev w : World
    w = k.world

    abbrev front : List ℕ
    front = at.rule.front

    here_seat : slice_get w.seats at.seat ≡ Some m.0.seat
    here_seat = seat_at terms setting base room at.rule.ranges front at.state.views k at.seat m.0 at.here

    here_cell : (c : ℕ) → HasCell terms setting base room opened m c → (x : Cell) × (slice_get w.cells c ≡ Some x)
    here_cell c h = cell_in terms setting base room at.rule.ranges front at.state.views k at.seat m.0 at.here h.0.0 h.0.1 c h.1

    -- a word of the front, as the step finds it
    found_front : (i : ℕ) → i < length front → found terms setting base room opened m r at i ≡ slice_index front i
    found_front i l =
        ap (λ (ws : List ℕ). slice_index ws i) at.rule.words_are ∙ get_or_append_left front (shelf_of at.rule.tail at.rule.store) 0 i l

    -- a step on the front, by an event that sets its word
    event : (action : Action) (i left : ℕ) (after : World) → i < length front → Leads base w at.seat action after
        → slice_set front i left ≡ words_of after → slice_set w.seats at.seat r.0.seat ≡ after.seats
        → IsEvent terms setting base room opened m r at action i left
    event action i left after l leads words seats =
        record {
          words_before = at.rule.words_are ∙ ap (λ (ws : List ℕ). ws ++ shelf_of at.rule.tail at.rule.store) k.words_are;
          seats_before = k.seats_are;
          after = after;
          leads = leads;
          words_after = ap (λ (ws : List ℕ). slice_set ws i left) at.rule.words_are
              ∙ (set-append_left front (shelf_of at.rule.tail at.rule.store) i left l
              ∙ ap (λ (ws : List ℕ). ws ++ shelf_of at.rule.tail at.rule.store) words);
          seats_after = map_set (λ (v : View S N). v.seat) at.state.views at.seat r.0
              ∙ (ap (λ (ts : List Seat). slice_set ts at.seat r.0.seat) k.seats_are ∙ seats);
        }

    -- a load of a word of the front, by an event that changes the seat alone
    quiet : (action : Action) (i : ℕ) (z : Seat) → i < length front → Leads base w at.seat action (with_seat w at.seat z) → r.0.seat ≡ z
        → IsEvent terms setting base room opened m r at action i (found terms setting base room opened m r at i)
    quiet action i z l leads is =
        event action i (found terms setting base room opened m r at i) (with_seat w at.seat z) l leads
        (ap (λ (n : ℕ). slice_set front i n) (found_front i l) ∙ (set-get_or front i 0 ∙ k.words_are))
        (ap (λ (t : Seat). slice_set w.seats at.seat t) is)

    clock_within : clock_at < length front
    clock_within = let l = word_count front w k.words_are in omega (arith, l)

    clock_is : found terms setting base room opened m r at clock_at ≡ w.clock
    clock_is = found_front clock_at clock_within ∙ clock_word front w k.words_are

    lock_is : (c : ℕ) (x : Cell) → slice_get w.cells c ≡ Some x → found terms setting base room opened m r at (lock_at c) ≡ x.lock
    lock_is c x e = found_front (lock_at c) (lock_within front w k.words_are c x e) ∙ lock_word front w k.words_are c x e

    value_is : (c : ℕ) (x : Cell) → slice_get w.cells c ≡ Some x → found terms setting base room opened m r at (value_at c) ≡ x.value
    value_is c x e = found_front (value_at c) (value_within front w k.words_are c x e) ∙ value_word front w k.words_are c x e

    -- a release with this word
    let_go : (c word : ℕ) (x : Cell) (h : List WordsEntry) → slice_get w.cells c ≡ Some x
        → Leads base w at.seat (Release c) (release w at.seat m.0.seat c word x h) → r.0.seat ≡ after_release m.0.seat c
        → IsEvent terms setting base room opened m r at (Release c) (lock_at c) word
    let_go c word x h e leads is =
        event (Release c) (lock_at c) word (release w at.seat m.0.seat c word x h) (lock_within front w k.words_are c x e) leads
        (lock_is_set front w k.words_are c word x e) (ap (λ (t : Seat). slice_set w.seats at.seat t) is)

  pub clock_loads : ClockLoadIsEvent terms setting base room opened
  clock_loads m r at place t =
      let w : World = at.rule.kept.world in
      quiet m r at Begin clock_at (begun w m.0.seat) (clock_within m r at)
      (begin_leads base w at.seat m.0.seat at.rule.kept.invariant (here_seat m r at) place)
      (ap (λ (v : View S N). v.seat) t.is ∙ ap (began m.0.seat) (clock_is m r at))

  pub looks_are : LookIsEvent terms setting base room opened
  looks_are m r at c has place t =
      let w : World = at.rule.kept.world in
      let x = here_cell m r at c has in
      quiet m r at (Look c) (lock_at c) (after_look m.0.seat c (x.0).lock) (lock_within at.rule.front w at.rule.kept.words_are c x.0 x.1)
      (look_leads base w at.seat m.0.seat c x.0 at.rule.kept.invariant (here_seat m r at) place x.1)
      (ap (λ (v : View S N). v.seat) t.is ∙ ap (after_look m.0.seat c) (lock_is m r at c x.0 x.1))

  pub loads_are : LoadIsEvent terms setting base room opened
  loads_are m r at c word has place t =
      let w : World = at.rule.kept.world in
      let x = here_cell m r at c has in
      quiet m r at (Load c) (value_at c) (in_phase m.0.seat (Loaded c word (x.0).value))
      (value_within at.rule.front w at.rule.kept.words_are c x.0 x.1)
      (load_leads base w at.seat m.0.seat c word x.0 at.rule.kept.invariant (here_seat m r at) place x.1)
      (ap (λ (v : View S N). v.seat) (t.is c word place) ∙ ap (λ (n : ℕ). in_phase m.0.seat (Loaded c word n)) (value_is m r at c x.0 x.1))

  pub relooks_are : RelookIsEvent terms setting base room opened
  relooks_are m r at c word value has place t =
      let w : World = at.rule.kept.world in
      let x = here_cell m r at c has in
      quiet m r at (Relook c) (lock_at c) (after_relook m.0.seat c word value (x.0).lock)
      (lock_within at.rule.front w at.rule.kept.words_are c x.0 x.1)
      (relook_leads base w at.seat m.0.seat c word value x.0 at.rule.kept.invariant (here_seat m r at) place x.1)
      (ap (λ (v : View S N). v.seat) (t.is c word value place) ∙ ap (after_relook m.0.seat c word value) (lock_is m r at c x.0 x.1))

  pub checks_are : CheckIsEvent terms setting base room opened
  checks_are m r at i upto c d has place other due read t =
      let w : World = at.rule.kept.world in
      let x = here_cell m r at c has in
      quiet m r at (Check c) (lock_at c) (after_check m.0.seat i c (x.0).lock)
      (lock_within at.rule.front w at.rule.kept.words_are c x.0 x.1)
      (check_leads base w at.seat m.0.seat i upto c d x.0 at.rule.kept.invariant (here_seat m r at) place other due read x.1)
      (ap (λ (v : View S N). v.seat) (t.is i upto place) ∙ ap (after_check m.0.seat i c) (lock_is m r at c x.0 x.1))

  pub takes_are : TakeIsEvent terms setting base room opened
  takes_are m r at c value d has place read t =
      let w : World = at.rule.kept.world in
      let s : Seat = m.0.seat in
      let x = here_cell m r at c has in
      let n : ℕ = found terms setting base room opened m r at (lock_at c) in
      let is : n ≡ (x.0).lock = lock_is m r at c x.0 x.1 in
      let l = lock_within at.rule.front w at.rule.kept.words_are c x.0 x.1 in
      let lead = take_leads base w at.seat s c value d x.0 at.rule.kept.invariant (here_seat m r at) place read x.1 in
      let held : ℕ → Seat = λ k. record (saw s c k) {
        phase = Taking;
        held =
            record { cell = c; word = d.word; value = value; stored = false } ∷ s.held;
        locked = c ∷ s.locked;
      } in
      let lost : ℕ → Seat = λ k. conflict (saw s c k) (if is_nil s.held then Idle else Failing) in
      let world : World = taken w at.seat s c value d.word x.0 in
      let seat : r.0.seat ≡ after_take s c value d.word n = ap (λ (v : View S N). v.seat) t.is in
      dite (ℕ_discrete n d.word)
      (λ hit.
      let same : ((x.0).lock == d.word) ≡ true = eq-eqb (x.0).lock d.word (sym is ∙ hit) in
      let up : d.word + 1 ≡ suc d.word = omega arith in
      subst (λ (left : ℕ). IsEvent terms setting base room opened m r at (Take c value) (lock_at c) left)
      (sym (if_true (n == d.word) (d.word + 1) n (eq-eqb n d.word hit)))
      (event m r at (Take c value) (lock_at c) (d.word + 1) world l
      (subst (λ (v : World). Leads base w at.seat (Take c value) v)
      (if_true ((x.0).lock == d.word) world (with_seat w at.seat (lost (x.0).lock)) same) lead)
      (ap (λ (k : ℕ). slice_set at.rule.front (lock_at c) k) up ∙ lock_is_set at.rule.front w at.rule.kept.words_are c (suc d.word) x.0 x.1)
      (ap (λ (t : Seat). slice_set w.seats at.seat t) (seat
      ∙ (if_true (n == d.word) (held n) (lost n) (eq-eqb n d.word hit) ∙ ap held is)))))
      (λ miss.
      let other : ((x.0).lock == d.word) ≡ false = ne_eqb (x.0).lock d.word (λ a. miss (is ∙ a)) in
      subst (λ (left : ℕ). IsEvent terms setting base room opened m r at (Take c value) (lock_at c) left)
      (sym (if_false (n == d.word) (d.word + 1) n (ne_eqb n d.word miss)))
      (quiet m r at (Take c value) (lock_at c) (lost (x.0).lock) l
      (subst (λ (v : World). Leads base w at.seat (Take c value) v)
      (if_false ((x.0).lock == d.word) world (with_seat w at.seat (lost (x.0).lock)) other) lead)
      (seat ∙ (if_false (n == d.word) (held n) (lost n) (ne_eqb n d.word miss) ∙ ap lost is))))

  pub draws_are : DrawIsEvent terms setting base room opened
  draws_are m r at note place t =
      let w : World = at.rule.kept.world in
      let n : ℕ = found terms setting base room opened m r at clock_at in
      let is : n ≡ w.clock = clock_is m r at in
      let few : n ≤ 2 ^ 46 = t.few in
      let wrap : (n + 1) % 2 ^ 64 ≡ suc w.clock = omega (arith, is, few) in
      event m r at Draw clock_at ((n + 1) % 2 ^ 64) (drawn w at.seat m.0.seat) (clock_within m r at)
      (draw_leads base w at.seat m.0.seat at.rule.kept.invariant (here_seat m r at) place)
      (ap (λ (l : List ℕ). slice_set l clock_at ((n + 1) % 2 ^ 64)) at.rule.kept.words_are
      ∙ ap (λ (k : ℕ). front_of k (paired w.cells)) wrap)
      (ap (λ (t : Seat). slice_set w.seats at.seat t)
      (ap (λ (v : View S N). v.seat) (t.is note refl) ∙ ap (λ (k : ℕ). in_phase m.0.seat (Checking k 0)) is))

  pub stores_are : StoreIsEvent terms setting base room opened
  stores_are m r at i c k has may holds t =
      let w : World = at.rule.kept.world in
      let x = here_cell m r at c has in
      let seat : r.0.seat ≡ after_store m.0.seat i c = ⊎_elim
      (λ (p : (upto : ℕ) × (m.0.seat.phase ≡ Checking i upto)
      × ((is_next m.0.seat i || all_settled m.0.seat.held upto m.0.seat.reads) ≡ true)).
      let noted = (at.rule.kept.suits at.seat m.0 at.here).noted i (ap number_at p.1) in
      ap (λ (v : View S N). v.seat) (t.first i p.0 noted.0 p.1 noted.1).1)
      (λ (p : m.0.seat.phase ≡ Storing i). ap (λ (v : View S N). v.seat) (t.next i p)) may in
      event m r at (Store c) (value_at c) k.value (store w at.seat m.0.seat i c k x.0)
      (value_within at.rule.front w at.rule.kept.words_are c x.0 x.1)
      (store_leads base w at.seat m.0.seat i c k x.0 at.rule.kept.invariant (here_seat m r at) may holds x.1)
      (value_is_set at.rule.front w at.rule.kept.words_are c k.value x.0 x.1) (ap (λ (t : Seat). slice_set w.seats at.seat t) seat)

  pub releases_are : ReleaseIsEvent terms setting base room opened
  releases_are m r at c word k has holds (inl p) t =
      let w : World = at.rule.kept.world in
      let x = here_cell m r at c has in
      let seat : r.0.seat ≡ after_release m.0.seat c = ap (λ (v : View S N). v.seat) t.is in
      subst (λ (left : ℕ). IsEvent terms setting base room opened m r at (Release c) (lock_at c) left) (sym p.3)
      (let_go m r at c (2 * wv p.0) x.0 w.history x.1
      (release_leads base w at.seat m.0.seat p.0 c k x.0 at.rule.kept.invariant (here_seat m r at) p.1 holds p.2 x.1) seat)
  releases_are m r at c word k has holds (inr (inl p)) t =
      let w : World = at.rule.kept.world in
      let x = here_cell m r at c has in
      let seat : r.0.seat ≡ after_release m.0.seat c = ap (λ (v : View S N). v.seat) t.is in
      subst (λ (left : ℕ). IsEvent terms setting base room opened m r at (Release c) (lock_at c) left) (sym p.1)
      (let_go m r at c k.word x.0 w.history x.1
      (release_failed_leads base w at.seat m.0.seat c k x.0 at.rule.kept.invariant (here_seat m r at) p.0 holds x.1) seat)
  releases_are m r at c word k has holds (inr (inr p)) t =
      let w : World = at.rule.kept.world in
      let x = here_cell m r at c has in
      let seat : r.0.seat ≡ after_release m.0.seat c = ap (λ (v : View S N). v.seat) t.is in
      subst (λ (left : ℕ). IsEvent terms setting base room opened m r at (Release c) (lock_at c) left) (sym p.2)
      (let_go m r at c k.word x.0 (settle w.history p.0 Void) x.1
      (release_void_leads base w at.seat m.0.seat p.0 c k x.0 at.rule.kept.invariant (here_seat m r at) p.1 holds x.1) seat)
