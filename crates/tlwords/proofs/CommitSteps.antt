-- Take, Draw, Check, Store and Release keep the rule: each is one event of the machine.
use Rattle.std.proofs.Common.{◌≡◌, ◌≢◌, ℕ, suc, ◌+◌, ◌*◌, ◌%◌, ◌^◌, ◌<◌, ◌≤◌, ◌⊎◌, inl, inr, ⊎_elim, eqb, eq-eqb, ne_eqb, Bool, true, false}
use Rattle.std.proofs.Common.{if◌then◌else◌, ◌==◌, ◌||◌, Some, List, [], ◌∷◌, ◌++◌, length, slice_get, slice_set, slice_index, sym, refl}
use Rattle.std.proofs.Common.{ap, ◌∙◌, subst, arith}
use Rattle.std.specs.Prelude as std
use mathlib.Core.Option.{none, some}
use lib.ListN.{get_elem?}
use prog.Atomic.{either}
use Rattle.std.proofs.lemmas.List.{length-append}
use Rattle.atomic_table.specs.Table.{step, Allows}
use Rattle.atomic_table.proofs.Lists.{exchanged}
use Rattle.tlcore.specs.History.{WordsEntry, wv, settle}
use Rattle.tlcore.specs.Seats.{Seat, number_at, passes, reads_of, writes_of, find_read, find_held, all_below, all_settled, is_due, is_next}
use Rattle.tlcore.specs.Seats.{is_nil, without, with_stored}
use Rattle.tlcore.specs.Machine.{World, with_seat, in_phase, conflict, saw, taken, take_cell, drawn, check, store, release}
use Rattle.tlcore.specs.Invariant.{PhaseOk, CheckingOk}
use Rattle.tlcore.specs.declared.actions.Action.TheVariants.{Take, Draw, Check, Store, Release}
use Rattle.tlcore.specs.Laws.{Leads}
use Rattle.tlcore.proofs.Laws.{take_leads, draw_leads, check_leads, store_leads, release_leads, release_failed_leads, release_void_leads}
use Rattle.tlcore.proofs.Lists.{get-append_cases, get-append_seam, get-append_left, get-set_same, get_within, length-append_one}
use Rattle.tlcore.proofs.Lists.{length-slice_set}
use Rattle.tlcore.proofs.Settling.{length-settle, get-settle_same}
use Rattle.tlcore.specs.declared.entries.Status.TheVariants.{Open, Done, Void}
use Rattle.tlcore.specs.declared.cells.Cell.{Cell}
use Rattle.tlcore.specs.declared.seats.Read.{Read}
use Rattle.tlcore.specs.declared.seats.Held.{Held}
use Rattle.tlcore.specs.declared.seats.Phase.{Phase}
use Rattle.tlcore.specs.declared.seats.Phase.TheVariants.{Idle, Reading, Taking, Checking, Storing, Failing, Voiding}
use Rattle.tlcore.proofs.Words.{landed_not_open, void_not_open, is_looking, not_looking}
use Rattle.ranges.specs.Ranges.{Range, Has, Names}
use Rattle.tlwords.specs.Terms.{Terms, Permits}
use Rattle.tlwords.specs.Seen.{Call, Committed, Seen, SeenGrows, IsSettled, IsDone, Agree}
use Rattle.tlwords.specs.Views.{Gone, View, tells, Sound}
use Rattle.tlwords.specs.Layout.{clock_at, lock_at, value_at, paired, front_of, words_of}
use Rattle.tlwords.specs.Rule.{Start, rights_of, numbers_of, total_of, LookIsFresh, EntriesAre, IsTold, Suits, Ruled}
use Rattle.tlwords.specs.Plays.{Mine, GivesBack, Sees, Takes, Checks, Stores, Releases, work_of, after_take, after_check, after_store}
use Rattle.tlwords.specs.Plays.{after_release, took, drew, checked, stored, released, bare}
use Rattle.tlwords.proofs.Reaching.{Follows, by_event}
use Rattle.tlwords.proofs.Paired.{clock_word, lock_word, lock_is_set, value_is_set, word_count, lock_within, value_within}
use Rattle.tlwords.proofs.Seens.{settled_grows, seen_refl, seen_trans, permits_grow, agree_grows, agree_snoc}
use Rattle.tlwords.proofs.Lifts.{lifted}
use Rattle.tlwords.proofs.Keeps.{Rule, gone_grows, now, seat_at, moved, sound_of, goes, told_grows}
use Rattle.tlwords.proofs.Fronts.{named_after, named_locked, held_named}
use Rattle.tlwords.proofs.ReadSteps.{if_known, lock_back, value_back, no_number, cell_in, half_written, quiet}
use Rattle.tlwords.proofs.Once.{number_drawn, drawn_below, has_snoc}
use Rattle.tlwords.proofs.RunSteps.{if_true, if_false}

phase_known : (P : Phase → Type 0) (b : Bool) (x y : Phase) → (b ≡ true → P x) → (b ≡ false → P y) → P (if b then x else y)
phase_known P true x y f g = f refl
phase_known P false x y f g = g refl

-- ---- Take

module _ {S N : Type 0} (terms : Terms S N) (setting : S) (base : List ℕ) (room : ℕ) where
  pub takes : (opened : Start) (slots id c value old new : ℕ) (me : Mine S N) (y : S) → me.0.setting ≡ Some y → c < length me.0.base
      → (me.0.seat.phase ≡ Reading) ⊎ ((me.0.seat.phase ≡ Taking) × (all_below c me.0.seat.held ≡ true))
      → (d : Read) → find_read c me.0.seat.reads ≡ Some d → d.word ≡ old → new ≡ old + 1 → 1 ≤ me.0.rights
      → Allows (Ruled terms setting base room opened) slots id me (lock_at c) (λ n. either (eqb n old) new n)
      (bare (took terms value) (step slots (lock_at c) old new none) me)
  takes opened slots id c value old new me y set l p d read word up some_rights =
      lifted terms setting base room opened slots id (lock_at c) me (λ n. either (eqb n old) new n)
      (took terms value (step slots (lock_at c) old new none) me) λ ranges ws vs r at.
      let v : View S N = me.0 in
      let t : Seat = v.seat in
      let w : World = r.world in
      let n : ℕ = slice_index ws (lock_at c) in
      let x : (x : Cell) × (slice_get w.cells c ≡ Some x) = cell_in terms setting base room ranges ws vs r id v at y set c l in
      let is : n ≡ (x.0).lock = lock_word ws w r.words_are c x.0 x.1 in
      let e : slice_get w.seats id ≡ Some t = seat_at terms setting base room ranges ws vs r id v at in
      let lead : Leads base w id (Take c value) (take_cell w id t c value d.word x.0) = take_leads base w id t c value d x.0 r.invariant
      e p read x.1 in
      let keep : Follows base w (take_cell w id t c value old x.0) = subst (λ (k : ℕ). Follows base w (take_cell w id t c value k x.0))
      word (by_event lead) in
      let h : Seen N = record { history = w.history; notes = r.notes; ranges = ranges } in
      let z : Seat = after_take t c value old n in
      let u : View S N = record v { seen = h; seat = z } in
      let f : Suits terms setting base room h r.owner v = r.suits id v at in
      let held : ℕ → Seat = λ k.
      record (saw t c k) {
        phase = Taking;
        held = record { cell = c; word = old; value = value; stored = false } ∷ t.held;
        locked = c ∷
            t.locked;
      } in
      let lost : ℕ → Seat = λ k. conflict (saw t c k) (if is_nil t.held then Idle else Failing) in
      let none_now : (k : ℕ) → number_at t.phase ≡ Some k → ⊥ = λ k a.
      ⊎_elim (λ (b : t.phase ≡ Reading). no_number t.phase Reading k b refl a)
      (λ (b : (t.phase ≡ Taking) × (all_below c t.held ≡ true)). no_number t.phase Taking k b.0 refl a) p in
      let P : ℕ → Seat → Type 0 = λ k z.
      Rule terms setting base room ranges (slice_set ws (lock_at c) k) (slice_set vs id (record v { seen = h; seat = z }))
      × Sees terms v (record v { seen = h; seat = z }) in
      let q : P (either (eqb n old) new n) z = exchanged n old new (λ (k : ℕ). P k z)
      (λ hit.
      let b : ((x.0).lock == old) ≡ true = eq-eqb (x.0).lock old (sym is ∙ hit) in
      let world : World = taken w id t c value old x.0 in
      let keep' : Follows base w world =
      subst (λ (v : World). Follows base w v) (if_true ((x.0).lock == old) world (with_seat w id (lost (x.0).lock)) b) keep in
      let words : slice_set ws (lock_at c) new ≡ words_of world =
      ap (λ (k : ℕ). slice_set ws (lock_at c) k) (let g : new ≡ suc old = omega (arith, up) in g) ∙ lock_is_set ws w r.words_are c
      (suc old) x.0 x.1 in
      subst (λ (z : Seat). P new z) (sym (if_true (n == old) (held n) (lost n) (eq-eqb n old hit)))
      (goes terms setting base room ranges ws vs r id v at (slice_set ws (lock_at c) new) world (held n) v.mine v.told
      (named_locked terms setting base room ranges ws vs r c (suc old) x.0 x.1) keep'
      (ap (λ (k : ℕ). slice_set w.seats id (held k)) (sym is)) words
      (length-slice_set w.cells c (record x.0 { lock = suc old })) refl (λ a. a) f.told
      (λ k a. absurd (none_now k a)) (λ k a. absurd (no_number Taking Taking k refl refl a))
      (λ d o a b. absurd (not_looking Taking refl d o a b)) (λ e _. absurd (omega (arith, e, some_rights)))))
      (λ miss.
      let b : ((x.0).lock == old) ≡ false = ne_eqb (x.0).lock old (λ a. miss (is ∙ a)) in
      let keep' : Follows base w (with_seat w id (lost n)) =
      subst (λ (k : ℕ). Follows base w (with_seat w id (lost k))) (sym is)
      (subst (λ (v : World). Follows base w v)
      (if_false ((x.0).lock == old) (taken w id t c value old x.0) (with_seat w id (lost (x.0).lock)) b) keep) in
      subst (λ (z : Seat). P n z) (sym (if_false (n == old) (held n) (lost n) (ne_eqb n old miss)))
      (quiet terms setting base room ranges ws vs r id v at (lock_at c) (lost n) v.told keep' f.told
      (λ k a. absurd (none_now k a))
      (λ k a. absurd (phase_known (λ (z : Phase). number_at z ≡ Some k → ⊥) (is_nil t.held) Idle Failing
      (λ _ b. no_number Idle Idle k refl refl b) (λ _ b. no_number Failing Failing k refl refl b) a))
      (phase_known (λ (z : Phase). LookIsFresh w.history (conflict (saw t c n) z)) (is_nil t.held) Idle Failing
      (λ _ d o a b. absurd (not_looking Idle refl d o a b)) (λ _ d o a b. absurd (not_looking Failing refl d o a b)))
      (λ _ b. b) (record v { seen = h; seat = lost n }) refl)) in (
        lock_within ws w r.words_are c x.0 x.1,
        u,
        (refl, refl, refl),
        q.0,
        subst (λ (k : ℕ). Takes terms k value old me n (u, me.1)) (sym (lock_back c))
            (record { sees = q.1; written = half_written terms setting base room ranges ws vs r c n x.0 x.1 is; is = refl }),
      )

-- ---- Draw

checking_same : (n i : ℕ) → number_at (Checking n 0) ≡ Some i → n ≡ i
checking_same n i e = cc

module _ {S N : Type 0} (terms : Terms S N) (setting : S) (base : List ℕ) (room : ℕ) where
  gone_few : (gs : List (Gone S N)) → ((g : Gone S N) → Has g gs → length g.told.drawn ≤ 2 ^ 40)
      → total_of (λ (g : Gone S N). length g.told.drawn) gs ≤ 2 ^ 40 * length gs
  gone_few [] each = omega arith
  gone_few (g ∷ gs) each =
      let a : length g.told.drawn ≤ 2 ^ 40 = each g (inl refl) in
      let b : total_of (λ (g : Gone S N). length g.told.drawn) gs ≤ 2 ^ 40 * length gs = gone_few gs (λ x has. each x (inr has)) in
      omega (arith, a, b)

  -- the numbers that the seats drew are no more than their rights allow
  total_few : (vs : List (View S N)) → ((j : ℕ) (v : View S N) → get_elem? vs j ≡ some v → numbers_of v ≤ 2 ^ 40 * rights_of v)
      → total_of numbers_of vs ≤ 2 ^ 40 * total_of rights_of vs
  total_few [] each = omega arith
  total_few (v ∷ vs) each =
      let a : numbers_of v ≤ 2 ^ 40 * rights_of v = each 0 v refl in
      let b : total_of numbers_of vs ≤ 2 ^ 40 * total_of rights_of vs = total_few vs (λ j u at. each (suc j) u at) in
      omega (arith, a, b)

  pub numbers_few : (g : Seen N) (owner : ℕ → ℕ) (v : View S N) → Suits terms setting base room g owner v → numbers_of v ≤ 2 ^ 40 *
      rights_of v
  numbers_few g owner v f =
      let a : length v.drawn ≤ 2 ^ 40 * v.rights = f.few in
      let b : total_of (λ (g : Gone S N). length g.told.drawn) v.gone ≤ 2 ^ 40 * length v.gone = gone_few v.gone
      (λ x has. (f.gone x has).few) in
      omega (arith, a, b)

  few_now : (ranges : List Range) (ws : List ℕ) (vs : List (View S N)) (r : Rule terms setting base room ranges ws vs)
      → length (r.world).history ≤ 2 ^ 46
  few_now ranges ws vs r =
      let a : total_of numbers_of vs ≤ 2 ^ 40 * total_of rights_of vs =
      total_few vs (λ j v at. numbers_few (now terms setting base room ranges ws vs r) r.owner v (r.suits j v at)) in
      let b : total_of rights_of vs ≤ 64 = r.rights in
      let c : total_of numbers_of vs ≡ length (r.world).history = r.numbers in
      omega (arith, a, b, c)

  -- one entry more, with its note
  more_entries : (ranges : List Range) (h : List WordsEntry) (ns : List N) (e : WordsEntry) (n : N) → length ns ≡ length h
      → EntriesAre terms setting (record { history = h; notes = ns; ranges = ranges }) → Permits terms setting ranges e.reads e.writes n
      → e.writes ≢ []
      → EntriesAre terms setting (record { history = h ++ e ∷ []; notes = ns ++ n ∷ []; ranges = ranges })
  more_entries ranges h ns e n len all law wrote i f m a b = go (get-append_cases h e i) (get-append_cases ns n i)
    where
      last : (i ≡ length h) × (slice_get (h ++ e ∷ []) i ≡ Some e) → (i ≡ length ns) × (slice_get (ns ++ n ∷ []) i ≡ Some n)
          → Permits terms setting ranges f.reads f.writes m × (f.writes ≢ [])
      last p q =
          let s : Some e ≡ Some f = sym p.1 ∙ a in
          let t : e ≡ f = cc in
          let u : Some n ≡ Some m = sym q.1 ∙ b in
          let k : n ≡ m = cc in (
            subst (λ (z : WordsEntry × N). Permits terms setting ranges (z.0).reads (z.0).writes z.1) (λ j. (t j, k j)) law,
            subst
                (λ (z : WordsEntry). z.writes ≢ []) t wrote,
          )

      go : (slice_get (h ++ e ∷ []) i ≡ slice_get h i) ⊎ ((i ≡ length h) × (slice_get (h ++ e ∷ []) i ≡ Some e))
          → (slice_get (ns ++ n ∷ []) i ≡ slice_get ns i) ⊎ ((i ≡ length ns) × (slice_get (ns ++ n ∷ []) i ≡ Some n))
          → Permits terms setting ranges f.reads f.writes m × (f.writes ≢ [])
      go (inl p) (inl q) = all i f m (sym p ∙ a) (sym q ∙ b)
      go (inl p) (inr q) =
          let w : i < length h = get_within h i f (sym p ∙ a) in
          let g : i ≡ length ns = q.0 in
          absurd (omega (arith, w, g, len))
      go (inr p) (inl q) =
          let w : i < length ns = get_within ns i m (sym q ∙ b) in
          let g : i ≡ length h = p.0 in
          absurd (omega (arith, w, g, len))
      go (inr p) (inr q) = last p q

  pub draws : (opened : Start) (slots id : ℕ) (me : Mine S N) (y : S) (note : N) → me.0.setting ≡ Some y → me.0.seat.phase ≡ Taking
      → Permits terms y me.0.seen.ranges (reads_of me.0.seat.reads) (writes_of me.0.seat.held) note → writes_of me.0.seat.held ≢ []
      → length me.0.drawn + 1 ≤ 2 ^ 40 * me.0.rights
      → Allows (Ruled terms setting base room opened) slots id me clock_at (λ n. (n + 1) % 2 ^ 64)
      (bare (drew terms (Some note)) (step slots clock_at 1 0 none) me)
  draws opened slots id me y note set p law some_writes left =
      lifted terms setting base room opened slots id clock_at me (λ n. (n + 1) % 2 ^ 64)
      (drew terms (Some note) (step slots clock_at 1 0 none) me) λ ranges ws vs r at.
      let v : View S N = me.0 in
      let t : Seat = v.seat in
      let w : World = r.world in
      let n : ℕ = slice_index ws clock_at in
      let is : n ≡ w.clock = clock_word ws w r.words_are in
      let clock : w.clock ≡ length w.history = (r.invariant).consistent.clock in
      let e : slice_get w.seats id ≡ Some t = seat_at terms setting base room ranges ws vs r id v at in
      let lead : Leads base w id Draw (drawn w id t) = draw_leads base w id t r.invariant e p in
      let world : World = drawn w id t in
      let f : Suits terms setting base room (now terms setting base room ranges ws vs r) r.owner v = r.suits id v at in
      let few : length w.history ≤ 2 ^ 46 = few_now ranges ws vs r in
      let g : Seen N = record { history = w.history; notes = r.notes; ranges = ranges } in
      let notes : List N = r.notes ++ note ∷ [] in
      let h : Seen N = record { history = world.history; notes = notes; ranges = ranges } in
      let len : length world.history ≡ suc (length w.history) = length-append_one w.history
      (record { status = Open; reads = reads_of t.reads; writes = writes_of t.held }) in
      let count : length notes ≡ suc (length r.notes) = length-append_one r.notes note in
      let same : length r.notes ≡ length w.history = r.notes_are in
      let grow : SeenGrows g h = (
        lead.keeps.grows,
        λ i m a. get-append_left r.notes (note ∷ []) i (get_within r.notes i m a)
            ∙ a,
        λ x has. has,
      ) in
      let z : Seat = in_phase t (Checking n 0) in
      let zz : z ≡ in_phase t (Checking w.clock 0) = ap (λ (k : ℕ). in_phase t (Checking k 0)) is in
      let u : View S N = record v { seen = h; seat = z; note = Some note; drawn = v.drawn ++ suc n ∷ [] } in
      let owner : ℕ → ℕ = λ i. std.cond (eqb i (suc n)) v.name (r.owner i) in
      let old : (i : ℕ) → i ≤ length w.history → owner i ≡ r.owner i = λ i l.
      ap (λ (b : Bool). std.cond b v.name (r.owner i)) (ne_eqb i (suc n) (λ a. omega (arith, a, l, is, clock))) in
      let own : IsTold setting base h owner (tells v) = told_grows setting base g h r.owner owner (tells v) grow old f.own in
      let more : length (v.drawn ++ suc n ∷ []) ≡ length v.drawn + 1 = length-append v.drawn (suc n ∷ []) in
      let there : slice_get notes n ≡ Some note =
      subst (λ (k : ℕ). slice_get notes k ≡ Some note) (let k : length r.notes ≡ n = omega (arith, same, is, clock) in k)
      (get-append_seam r.notes note) in
      let suit : Suits terms setting base room h owner u = record {
        own = record {
          setting_is = own.setting_is;
          grows = seen_refl h;
          owned = λ i has. ⊎_elim (λ (a : Has i v.drawn). own.owned i a)
              (λ (a : i ≡ suc n). (omega (arith, a, len, is, clock), ap (λ (b : Bool). std.cond b v.name (r.owner i)) (eq-eqb i (suc n) a)))
              (has_snoc i v.drawn (suc n) has);
          once = number_drawn (0 ∷ v.drawn) (suc n) (drawn_below n v.drawn (λ i a. let b = (f.own.owned i a).0 in omega
              (arith, b, is, clock))) f.own.once;
        };
        room_is = f.room_is;
        told = told_grows setting base g h r.owner owner v.told grow old f.told;
        mine = agree_grows terms setting base g h v.mine grow f.mine;
        settled = λ i has. ⊎_elim
            (λ (a : Has (suc i) v.drawn). ⊎_elim (λ (b : number_at t.phase ≡ Some i). absurd (no_number t.phase Taking i p refl b))
            (λ (b : IsSettled w.history i). inr (settled_grows w.history world.history i lead.keeps.grows b)) (f.settled i a))
            (λ (a : suc i ≡ suc n). let b : n ≡ i = omega (arith, a) in inl (ap (λ (k : ℕ). Some k) b))
            (has_snoc (suc i) v.drawn (suc n) has);
        noted = λ i a. (note, refl, subst (λ (k : ℕ). slice_get notes k ≡ Some note) (checking_same n i a) there);
        look = λ d o a b. absurd (not_looking (Checking n 0) refl d o a b);
        few = omega (arith, more, left);
        unheld = f.unheld;
        gone = gone_grows terms setting base room g h r.owner owner v.gone grow old f.gone;
      } in
      let entries : EntriesAre terms setting h =
      more_entries ranges w.history r.notes (record { status = Open; reads = reads_of t.reads; writes = writes_of t.held }) note same
      r.entries
      (subst (λ (x : S). Permits terms x ranges (reads_of t.reads) (writes_of t.held) note) (f.own.setting_is y set).0
      (permits_grow terms y v.seen.ranges ranges f.own.grows.2 law)) some_writes in
      let wrap : (n + 1) % 2 ^ 64 ≡ suc w.clock = omega (arith, is, clock, few) in
      let words : slice_set ws clock_at ((n + 1) % 2 ^ 64) ≡ words_of world =
      ap (λ (l : List ℕ). slice_set l clock_at ((n + 1) % 2 ^ 64)) r.words_are ∙ ap (λ (k : ℕ). front_of k (paired w.cells)) wrap in
      let rule : Rule terms setting base room ranges (slice_set ws clock_at ((n + 1) % 2 ^ 64)) (slice_set vs id u) =
      moved terms setting base room ranges ws vs r id v u at ranges (slice_set ws clock_at ((n + 1) % 2 ^ 64)) world notes owner
      (λ x has. has) r.lie
      r.named (by_event lead)
      (ap (λ (k : Seat). slice_set w.seats id k) (sym zz)) words refl grow.1 (omega (arith, count, same, len)) entries old suit refl
      (omega (arith, more, len)) in
      let sound : Sound terms u =
      sound_of terms setting base room ranges world notes owner id u lead.keeps.invariant (omega (arith, count, same, len)) entries
      r.opening r.lie suit
      (get-set_same w.seats id (in_phase t (Checking w.clock 0)) t e ∙ ap (λ (k : Seat). Some k) (sym zz)) refl in
      let before : length v.seen.history ≤ length w.history = f.own.grows.0.0 in (
        (let l = word_count ws w r.words_are in omega (arith, l)),
        u,
        (refl, refl, refl),
        rule,
        record {
          sees = record {
            own = seen_trans v.seen g h f.own.grows grow;
            told = seen_trans v.told.seen g h f.told.grows grow;
            sound =
                sound;
          };
          clock = omega (arith, len, is, clock);
          later = omega (arith, before, is, clock);
          few = omega (arith, few, is, clock);
          is = λ x a.
              let b : note ≡ x = cc in
              ap (λ (k : N). let m : View S N = record v { seen = h; seat = z; note = Some k; drawn = v.drawn ++ suc n ∷ [] } in m) b;
        },
      )

-- ---- Check

checking_is : (i upto j other : ℕ) → Checking i upto ≡ Checking j other → i ≡ j
checking_is i upto j other e = cc

module _ {S N : Type 0} (terms : Terms S N) (setting : S) (base : List ℕ) (room : ℕ) where
  pub checks : (opened : Start) (slots id c i upto : ℕ) (me : Mine S N) (y : S) → me.0.setting ≡ Some y → c < length me.0.base
      → me.0.seat.phase ≡ Checking i upto → is_next me.0.seat i ≡ false → is_due me.0.seat upto c ≡ true
      → (d : Read) → find_read c me.0.seat.reads ≡ Some d
      → Allows (Ruled terms setting base room opened) slots id me (lock_at c) (λ n. n)
      (bare (checked terms) (step slots (lock_at c) 0 0 none) me)
  checks opened slots id c i upto me y set l p further due d read =
      lifted terms setting base room opened slots id (lock_at c) me (λ n. n)
      (checked terms (step slots (lock_at c) 0 0 none) me) λ ranges ws vs r at.
      let v : View S N = me.0 in
      let t : Seat = v.seat in
      let w : World = r.world in
      let n : ℕ = slice_index ws (lock_at c) in
      let x : (x : Cell) × (slice_get w.cells c ≡ Some x) = cell_in terms setting base room ranges ws vs r id v at y set c l in
      let is : n ≡ (x.0).lock = lock_word ws w r.words_are c x.0 x.1 in
      let e : slice_get w.seats id ≡ Some t = seat_at terms setting base room ranges ws vs r id v at in
      let lead : Leads base w id (Check c) (check w id t i c x.0) = check_leads base w id t i upto c d x.0 r.invariant e p further due
      read x.1 in
      let keep : Follows base w (with_seat w id (after_check t i c n)) =
      subst (λ (k : ℕ). Follows base w (with_seat w id (after_check t i c k))) (sym is) (by_event lead) in
      let h : Seen N = record { history = w.history; notes = r.notes; ranges = ranges } in
      let z : Seat = after_check t i c n in
      let u : View S N = record v { seen = h; seat = z } in
      let f : Suits terms setting base room h r.owner v = r.suits id v at in
      let number : number_at z.phase ≡ Some i = if_known (λ (z : Seat). number_at z.phase ≡ Some i) (passes n t.rv)
      (in_phase (saw t c n) (Checking i (suc c))) (conflict (saw t c n) (Voiding i)) (λ _. refl) (λ _. refl) in
      let was : number_at t.phase ≡ Some i = ap number_at p in
      let q : Rule terms setting base room ranges (slice_set ws (lock_at c) n) (slice_set vs id u) × Sees terms v u =
      quiet terms setting base room ranges ws vs r id v at (lock_at c) z v.told keep f.told
      (λ k a. number ∙ (sym was ∙ a)) (λ k a. was ∙ (sym number ∙ a))
      (if_known (λ (z : Seat). LookIsFresh w.history z) (passes n t.rv) (in_phase (saw t c n) (Checking i (suc c)))
      (conflict (saw t c n) (Voiding i))
      (λ _ d o a b. absurd (not_looking (Checking i (suc c)) refl d o a b)) (λ _ d o a b. absurd (not_looking (Voiding i) refl d o a b)))
      (λ _ b. if_known (λ (z : Seat). z.held ≡ []) (passes n t.rv) (in_phase (saw t c n) (Checking i (suc c)))
      (conflict (saw t c n) (Voiding i)) (λ _. b) (λ _. b)) u refl in (
        lock_within ws w r.words_are c x.0 x.1,
        u,
        (refl, refl, refl),
        q.0,
        subst (λ (k : ℕ). Checks terms k me n (u, me.1)) (sym (lock_back c)) (record {
          sees = q.1;
          written = half_written terms setting base room ranges ws vs r c n x.0 x.1 is;
          is = λ j other a.
              let b : i ≡ j = checking_is i upto j other (sym p ∙ a) in
              ap (λ (k : ℕ). let m : View S N = record v { seen = h; seat = after_check t k c n } in m) b;
        }),
      )

-- ---- Store

storing_is : (i j : ℕ) → Storing i ≡ Storing j → i ≡ j
storing_is i j e = cc

storing_not_checking : (i j upto : ℕ) → Storing i ≡ Checking j upto → ⊥
storing_not_checking i j upto e = cc

module _ {S N : Type 0} (terms : Terms S N) (setting : S) (base : List ℕ) (room : ℕ) where
  -- the rule after a store, which adds to the pass's calls what agrees
  stores_go : (ranges : List Range) (ws : List ℕ) (vs : List (View S N)) (r : Rule terms setting base room ranges ws vs) (id : ℕ)
      (v : View S N) → get_elem? vs id ≡ some v
      → (c i : ℕ) (k : Held) (x : Cell) (mine : List (Call N)) → slice_get (r.world).cells c ≡ Some x
      → Follows base r.world (store r.world id v.seat i c k x) → number_at v.seat.phase ≡ Some i
      → (terms.ranged setting c ≡ true → Names ranges k.value)
      → (Agree terms setting base (record { history = settle (r.world).history i Done; notes = r.notes; ranges = ranges }) v.mine
      → Agree terms setting base (record { history = settle (r.world).history i Done; notes = r.notes; ranges = ranges }) mine)
      → (u : View S N)
      → u ≡ record v {
        seen = record { history = settle (r.world).history i Done; notes = r.notes; ranges = ranges };
        seat = after_store
            v.seat i c;
        mine = mine;
      }
      → Rule terms setting base room ranges (slice_set ws (value_at c) k.value) (slice_set vs id u) × Sees terms v u
  stores_go ranges ws vs r id v at c i k x mine f stays number names calls u is =
      let w : World = r.world in
      let world : World = store w id v.seat i c k x in
      let h : Seen N = record { history = world.history; notes = r.notes; ranges = ranges } in
      let suit : Suits terms setting base room (now terms setting base room ranges ws vs r) r.owner v = r.suits id v at in
      let len : length world.history ≡ length w.history = length-settle w.history i Done in
      let told : IsTold setting base h r.owner v.told =
      told_grows setting base (now terms setting base room ranges ws vs r) h r.owner r.owner v.told
      (stays.grows, λ i m a. a, λ y has. has) (λ n l. refl) suit.told in
      subst (λ (u : View S N). Rule terms setting base room ranges (slice_set ws (value_at c) k.value) (slice_set vs id u)
      × Sees terms v u) (sym is)
      (goes terms setting base room ranges ws vs r id v at (slice_set ws (value_at c) k.value) world (after_store v.seat i c) mine v.told
      (named_after terms setting base room ranges ws vs r c (record x { value = k.value }) names) stays refl
      (value_is_set ws w r.words_are c k.value x f) (length-slice_set w.cells c (record x { value = k.value })) len calls told
      (λ j a. inl (sym number ∙ a)) (λ j a. number ∙ a) (λ d o a b. absurd (not_looking (Storing i) refl d o a b))
      (λ _ b. ap (with_stored c) b))

  pub stores : (opened : Start) (slots id c i value : ℕ) (k : Held) (me : Mine S N) (y : S) → me.0.setting ≡ Some y → c < length me.0.base
      → ((upto : ℕ) × (me.0.seat.phase ≡ Checking i upto) × ((is_next me.0.seat i || all_settled me.0.seat.held upto
      me.0.seat.reads) ≡ true)) ⊎ (me.0.seat.phase ≡ Storing i)
      → find_held c me.0.seat.held ≡ Some k → k.value ≡ value
      → Allows (Ruled terms setting base room opened) slots id me (value_at c) (λ _. value)
      (λ _. bare (stored terms) (step slots (value_at c) value 0 none) me value)
  stores opened slots id c i value k me y set l (inl p) holds is_value =
      lifted terms setting base room opened slots id (value_at c) me (λ _. value)
      (λ _. stored terms (step slots (value_at c) value 0 none) me value) λ ranges ws vs r at.
      let v : View S N = me.0 in
      let t : Seat = v.seat in
      let w : World = r.world in
      let x : (x : Cell) × (slice_get w.cells c ≡ Some x) = cell_in terms setting base room ranges ws vs r id v at y set c l in
      let e : slice_get w.seats id ≡ Some t = seat_at terms setting base room ranges ws vs r id v at in
      let lead : Leads base w id (Store c) (store w id t i c k x.0) = store_leads base w id t i c k x.0 r.invariant e (inl p) holds x.1 in
      let h : Seen N = record { history = settle w.history i Done; notes = r.notes; ranges = ranges } in
      let f : Suits terms setting base room (now terms setting base room ranges ws vs r) r.owner v = r.suits id v at in
      let number : number_at t.phase ≡ Some i = ap number_at p.1 in
      let noted : (n : N) × (v.note ≡ Some n) × (slice_get r.notes i ≡ Some n) = f.noted i number in
      let ok : CheckingOk base w.history t i p.0 = subst (λ (z : Phase). PhaseOk base w.cells w.history t z) p.1
      ((r.invariant).consistent.seats id t e).phase in
      let done : IsDone h i (work_of t noted.0) = record {
        entry = record ok.entry { status = Done };
        here = get-settle_same w.history i Done ok.entry ok.here;
        done = refl;
        reads = ok.reads;
        writes = ok.writes;
        note = noted.2;
      } in
      let mine : List (Call N) = v.mine ++ Committed (suc i) (work_of t noted.0) ∷ [] in
      let u : View S N = record v { seen = h; seat = after_store t i c; mine = mine } in
      let q : Rule terms setting base room ranges (slice_set ws (value_at c) k.value) (slice_set vs id u) × Sees terms v u =
      stores_go ranges ws vs r id v at c i k x.0 mine x.1 (by_event lead) number
      (held_named terms setting base room ranges ws vs r id v at c i k (inl (p.0, p.1)) holds)
      (λ a. agree_snoc terms setting base h v.mine (Committed (suc i) (work_of t noted.0)) a (i, refl, done)) u refl in (
        value_within ws w r.words_are c x.0 x.1,
        u,
        (refl, refl, refl),
        subst (λ (z : ℕ). Rule terms setting base room ranges (slice_set ws (value_at c) z) (slice_set vs id u)) is_value q.0,
        subst (λ (z : ℕ). Stores terms z me (u, me.1)) (sym (value_back c)) (record {
          sees = q.1;
          first = λ j other n a b.
              let g : i ≡ j = checking_is i p.0 j other (sym p.1 ∙ a) in
              let o : Some noted.0 ≡ Some n = sym noted.1 ∙ b in
              let m : noted.0 ≡ n = cc in (
                subst (λ (z : ℕ × N). IsDone h z.0 (work_of t z.1)) (λ q. (g q, m q)) done,
                ap (λ (z : ℕ × N). let u : View S N = record v {
                  seen = h;
                  seat = after_store t z.0 c;
                  mine = v.mine ++ Committed
                      (suc z.0) (work_of t z.1) ∷ [];
                } in u) (λ q. (g q, m q)),
              );
          next = λ j a. absurd (storing_not_checking j i p.0 (sym a ∙ p.1));
        }),
      )
  stores opened slots id c i value k me y set l (inr p) holds is_value =
      lifted terms setting base room opened slots id (value_at c) me (λ _. value)
      (λ _. stored terms (step slots (value_at c) value 0 none) me value) λ ranges ws vs r at.
      let v : View S N = me.0 in
      let t : Seat = v.seat in
      let w : World = r.world in
      let x : (x : Cell) × (slice_get w.cells c ≡ Some x) = cell_in terms setting base room ranges ws vs r id v at y set c l in
      let e : slice_get w.seats id ≡ Some t = seat_at terms setting base room ranges ws vs r id v at in
      let lead : Leads base w id (Store c) (store w id t i c k x.0) = store_leads base w id t i c k x.0 r.invariant e (inr p) holds x.1 in
      let h : Seen N = record { history = settle w.history i Done; notes = r.notes; ranges = ranges } in
      let number : number_at t.phase ≡ Some i = ap number_at p in
      let u : View S N = record v { seen = h; seat = after_store t i c } in
      let q : Rule terms setting base room ranges (slice_set ws (value_at c) k.value) (slice_set vs id u) × Sees terms v u =
      stores_go ranges ws vs r id v at c i k x.0 v.mine x.1 (by_event lead) number
      (held_named terms setting base room ranges ws vs r id v at c i k (inr p) holds) (λ a. a) u refl in (
        value_within ws w r.words_are c x.0 x.1,
        u,
        (refl, refl, refl),
        subst (λ (z : ℕ). Rule terms setting base room ranges (slice_set ws (value_at c) z) (slice_set vs id u)) is_value q.0,
        subst (λ (z : ℕ). Stores terms z me (u, me.1)) (sym (value_back c)) (record {
          sees = q.1;
          first = λ j other n a b. absurd (storing_not_checking i j other (sym p ∙ a));
          next = λ j a.
              let g : i ≡ j = storing_is i j (sym p ∙ a) in
              ap (λ (z : ℕ). let u : View S N = record v { seen = h; seat = after_store t z c } in u) g;
        }),
      )

-- ---- Release

storing_not_voiding : (i j : ℕ) → Storing i ≡ Voiding j → ⊥
storing_not_voiding i j e = cc

failing_not_voiding : (j : ℕ) → Failing ≡ Voiding j → ⊥
failing_not_voiding j e = cc

some_same : (i j : ℕ) → Some i ≡ Some j → i ≡ j
some_same i j e = cc

voiding_is : (i j : ℕ) → Voiding i ≡ Voiding j → i ≡ j
voiding_is i j e = cc

module _ {S N : Type 0} (terms : Terms S N) (setting : S) (base : List ℕ) (room : ℕ) where
  -- the rule after a release with this word, where the history becomes h; the entry of a run that has drawn is settled
  releases_go : (ranges : List Range) (ws : List ℕ) (vs : List (View S N)) (r : Rule terms setting base room ranges ws vs) (id : ℕ)
      (v : View S N) → get_elem? vs id ≡ some v
      → (c word : ℕ) (x : Cell) (h : List WordsEntry) → slice_get (r.world).cells c ≡ Some x
      → Follows base r.world (release r.world id v.seat c word x h) → length h ≡ length (r.world).history
      → ((i : ℕ) → number_at v.seat.phase ≡ Some i → IsSettled h i)
      → ((d word value : ℕ) → is_looking v.seat.phase ≡ false)
      → Rule terms setting base room ranges (slice_set ws (lock_at c) word)
      (slice_set vs id (record v { seen = record { history = h; notes = r.notes; ranges = ranges }; seat = after_release v.seat c }))
      × Sees terms v (record v { seen = record { history = h; notes = r.notes; ranges = ranges }; seat = after_release v.seat c })
  releases_go ranges ws vs r id v at c word x h f stays len ends free =
      let w : World = r.world in
      let t : Seat = v.seat in
      let world : World = release w id t c word x h in
      let later : Seen N = record { history = h; notes = r.notes; ranges = ranges } in
      let suit : Suits terms setting base room (now terms setting base room ranges ws vs r) r.owner v = r.suits id v at in
      let told : IsTold setting base later r.owner v.told =
      told_grows setting base (now terms setting base room ranges ws vs r) later r.owner r.owner v.told
      (stays.grows, λ i m a. a, λ y has. has) (λ n l. refl) suit.told in
      goes terms setting base room ranges ws vs r id v at (slice_set ws (lock_at c) word) world (after_release t c) v.mine v.told
      (named_locked terms setting base room ranges ws vs r c word x f) stays refl
      (lock_is_set ws w r.words_are c word x f) (length-slice_set w.cells c (record x { lock = word })) len (λ a. a) told
      (λ i a. inr (ends i a))
      (λ i a. phase_known (λ (z : Phase). number_at z ≡ Some i → number_at t.phase ≡ Some i) (is_nil (without c t.held)) Idle t.phase
      (λ _ b. absurd (no_number Idle Idle i refl refl b)) (λ _ b. b) a)
      (phase_known (λ (z : Phase). LookIsFresh h (record t { phase = z; held = without c t.held })) (is_nil (without c t.held)) Idle t.phase
      (λ _ d o a b. absurd (not_looking Idle refl d o a b)) (λ _ d o a b. absurd (not_looking t.phase (free d o a) d o a b)))
      (λ _ b. ap (without c) b)

  pub releases : (opened : Start) (slots id c new : ℕ) (k : Held) (me : Mine S N) (y : S) → me.0.setting ≡ Some y → c < length me.0.base
      → find_held c me.0.seat.held ≡ Some k → GivesBack me.0.seat k new
      → Allows (Ruled terms setting base room opened) slots id me (lock_at c) (λ _. new)
      (λ _. bare (released terms) (step slots (lock_at c) new 0 none) me new)
  releases opened slots id c new k me y set l holds (inl p) =
      lifted terms setting base room opened slots id (lock_at c) me (λ _. new)
      (λ _. released terms (step slots (lock_at c) new 0 none) me new) λ ranges ws vs r at.
      let v : View S N = me.0 in
      let t : Seat = v.seat in
      let w : World = r.world in
      let x : (x : Cell) × (slice_get w.cells c ≡ Some x) = cell_in terms setting base room ranges ws vs r id v at y set c l in
      let e : slice_get w.seats id ≡ Some t = seat_at terms setting base room ranges ws vs r id v at in
      let lead : Leads base w id (Release c) (release w id t c (2 * wv p.0) x.0 w.history) = release_leads base w id t p.0 c k x.0
      r.invariant e p.1 holds p.2 x.1 in
      let ok : (e : WordsEntry) × (slice_get w.history p.0 ≡ Some e) × (e.status ≡ Done) =
      subst (λ (z : Phase). PhaseOk base w.cells w.history t z) p.1 ((r.invariant).consistent.seats id t e).phase in
      let u : View S N = record v { seen = record { history = w.history; notes = r.notes; ranges = ranges }; seat = after_release t c } in
      let q : Rule terms setting base room ranges (slice_set ws (lock_at c) (2 * wv p.0)) (slice_set vs id u) × Sees terms v u =
      releases_go ranges ws vs r id v at c (2 * wv p.0) x.0 w.history x.1 (by_event lead) refl
      (λ j a. subst (λ (z : ℕ). IsSettled w.history z) (some_same p.0 j (sym (ap number_at p.1) ∙ a))
      (ok.0, ok.1, λ b. landed_not_open (sym ok.2 ∙ b)))
      (λ d o a. ap is_looking p.1) in (
        lock_within ws w r.words_are c x.0 x.1,
        u,
        (refl, refl, refl),
        subst (λ (z : ℕ). Rule terms setting base room ranges (slice_set ws (lock_at c) z) (slice_set vs id u)) (sym p.3) q.0,
        subst (λ (z : ℕ). Releases terms z me (u, me.1)) (sym (lock_back c))
            (record { sees = q.1; void = λ j a. absurd (storing_not_voiding p.0 j (sym p.1 ∙ a)); is = refl }),
      )
  releases opened slots id c new k me y set l holds (inr (inl p)) =
      lifted terms setting base room opened slots id (lock_at c) me (λ _. new)
      (λ _. released terms (step slots (lock_at c) new 0 none) me new) λ ranges ws vs r at.
      let v : View S N = me.0 in
      let t : Seat = v.seat in
      let w : World = r.world in
      let x : (x : Cell) × (slice_get w.cells c ≡ Some x) = cell_in terms setting base room ranges ws vs r id v at y set c l in
      let e : slice_get w.seats id ≡ Some t = seat_at terms setting base room ranges ws vs r id v at in
      let lead : Leads base w id (Release c) (release w id t c k.word x.0 w.history) = release_failed_leads base w id t c k x.0
      r.invariant e p.0 holds x.1 in
      let u : View S N = record v { seen = record { history = w.history; notes = r.notes; ranges = ranges }; seat = after_release t c } in
      let q : Rule terms setting base room ranges (slice_set ws (lock_at c) k.word) (slice_set vs id u) × Sees terms v u =
      releases_go ranges ws vs r id v at c k.word x.0 w.history x.1 (by_event lead) refl
      (λ j a. absurd (no_number t.phase Failing j p.0 refl a)) (λ d o a. ap is_looking p.0) in (
        lock_within ws w r.words_are c x.0 x.1,
        u,
        (refl, refl, refl),
        subst (λ (z : ℕ). Rule terms setting base room ranges (slice_set ws (lock_at c) z) (slice_set vs id u)) (sym p.1) q.0,
        subst (λ (z : ℕ). Releases terms z me (u, me.1)) (sym (lock_back c))
            (record { sees = q.1; void = λ j a. absurd (failing_not_voiding j (sym p.0 ∙ a)); is = refl }),
      )
  releases opened slots id c new k me y set l holds (inr (inr p)) =
      lifted terms setting base room opened slots id (lock_at c) me (λ _. new)
      (λ _. released terms (step slots (lock_at c) new 0 none) me new) λ ranges ws vs r at.
      let v : View S N = me.0 in
      let t : Seat = v.seat in
      let w : World = r.world in
      let x : (x : Cell) × (slice_get w.cells c ≡ Some x) = cell_in terms setting base room ranges ws vs r id v at y set c l in
      let e : slice_get w.seats id ≡ Some t = seat_at terms setting base room ranges ws vs r id v at in
      let h : List WordsEntry = settle w.history p.0 Void in
      let lead : Leads base w id (Release c) (release w id t c k.word x.0 h) = release_void_leads base w id t p.0 c k x.0 r.invariant e
      p.1 holds x.1 in
      let ok : (e : WordsEntry) × (slice_get w.history p.0 ≡ Some e) × (e.status ≢ Done) =
      subst (λ (z : Phase). PhaseOk base w.cells w.history t z) p.1 ((r.invariant).consistent.seats id t e).phase in
      let there : slice_get h p.0 ≡ Some (record ok.0 { status = Void }) = get-settle_same w.history p.0 Void ok.0 ok.1 in
      let u : View S N = record v { seen = record { history = h; notes = r.notes; ranges = ranges }; seat = after_release t c } in
      let q : Rule terms setting base room ranges (slice_set ws (lock_at c) k.word) (slice_set vs id u) × Sees terms v u =
      releases_go ranges ws vs r id v at c k.word x.0 h x.1 (by_event lead) (length-settle w.history p.0 Void)
      (λ j a. subst (λ (z : ℕ). IsSettled h z) (some_same p.0 j (sym (ap number_at p.1) ∙ a))
      (record ok.0 { status = Void }, there, void_not_open))
      (λ d o a. ap is_looking p.1) in (
        lock_within ws w r.words_are c x.0 x.1,
        u,
        (refl, refl, refl),
        subst (λ (z : ℕ). Rule terms setting base room ranges (slice_set ws (lock_at c) z) (slice_set vs id u)) (sym p.2) q.0,
        subst (λ (z : ℕ). Releases terms z me (u, me.1)) (sym (lock_back c)) (record {
          sees = q.1;
          void = λ j a. subst (λ (z : ℕ). (e : WordsEntry) × (slice_get h z ≡ Some e) × (e.status ≡ Void)) (voiding_is p.0 j (sym p.1 ∙ a))
              (record ok.0 { status = Void }, there, refl);
          is = refl;
        }),
      )
