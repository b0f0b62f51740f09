-- The draw of a number keeps what the parts say of each other.
use Rattle.std.proofs.Common.{List, None, Option, Some, [], ap, arith, inl, inr, length, nat_lt, refl, slice_get, slice_index, subst, suc}
use Rattle.std.proofs.Common.{sym, true, ℕ, ◌*◌, ◌++◌, ◌<◌, ◌∙◌, ◌∷◌, ◌≡◌, ◌≤◌, ◌⊎◌}
use Rattle.tlcore.specs.History.{Deed, Did, Done, WordsEntry, Grows, IsOne, Nothing, One, Open, Will, deed, deed_in, deed_of, value, value_after}
use Rattle.tlcore.specs.History.{value_over, version, version_after, version_over}
use Rattle.ranges.specs.Pairs.{written}
use Rattle.tlcore.specs.Seats.{Checking, Held, Phase, Read, Seat, Taking, find_held, is_held, number_at, reads_of, writes_of}
use Rattle.tlcore.specs.Machine.{Cell, World, drawn, in_phase}
use Rattle.tlcore.specs.Invariant.{CellsOk, Consistent, HeldOk, HeldShows, HistoryOk, ReadsOk, SeatOk, SettledOk, done_at}
use Rattle.tlcore.proofs.AfterEvent.{Consistent-step, Others}
use Rattle.tlcore.proofs.Deeds.{did, value-same, version-same}
use Rattle.tlcore.proofs.Frame.{Frame, ReadsOk-kept}
use Rattle.tlcore.proofs.Growth.{Grows-append, IsOne-kept, One-kept, WasWritten-kept}
use Rattle.tlcore.proofs.Lists.{get-append_cases, get-append_left, get-append_seam, get_within, length-append_one, less_numbers, odd_even}
use Rattle.tlcore.proofs.Lists.{one_of}
use Rattle.tlcore.proofs.SeatParts.{is_held-find, number_within, one_on, written-find}
use Rattle.tlcore.proofs.Stays.{Stays}

-- the deed of an entry that was drawn is awaited, or none
open_did : (ws : Option ℕ) → did (deed_of Open ws) ≡ None
open_did None = refl
open_did (Some v) = refl

module _ (o : List ℕ) (h : List WordsEntry) (rs ws : List (ℕ × ℕ)) where
  abbrev g : List WordsEntry
  g = h ++ record { status = Open; reads = rs; writes = ws } ∷ []

  deed_new : (c i : ℕ) → (deed g c i ≡ deed h c i) ⊎ ((i ≡ length h) × (deed g c i ≡ deed_of Open (written c ws)))
  deed_new c i = elim (get-append_cases h (record { status = Open; reads = rs; writes = ws }) i) [
    | inl p ↦ inl (ap (deed_in c) p)
    | inr p ↦ inr (p.0, ap (deed_in c) p.1)
  ]

  deed_before : (c i : ℕ) → i < length h → deed g c i ≡ deed h c i
  deed_before c i l = ap (deed_in c) (get-append_left h (record { status = Open; reads = rs; writes = ws } ∷ []) i l)

  deed_at : (c : ℕ) → deed g c (length h) ≡ deed_of Open (written c ws)
  deed_at c = ap (deed_in c) (get-append_seam h (record { status = Open; reads = rs; writes = ws }))

  length_g : length g ≡ suc (length h)
  length_g = length-append_one h (record { status = Open; reads = rs; writes = ws })

  number_none : (d : Deed) (n v : ℕ) → did d ≡ None → version_over d n v ≡ v
  number_none Nothing n v e = refl
  number_none (Will a) n v e = refl
  number_none (Did a) n v e = cc

  over_none : (d : Deed) (v : ℕ) → did d ≡ None → value_over d v ≡ v
  over_none Nothing v e = refl
  over_none (Will a) v e = refl
  over_none (Did a) v e = cc

  pub draw_stays : Stays o h g
  draw_stays =
      record {
        of_version = λ c.
            ap (version_after (deed g c)) length_g
            ∙ (number_none (deed g c (length h)) (suc (length h)) (version_after (deed g c) (length h))
            (ap did (deed_at c) ∙ open_did (written c ws))
            ∙ version-same (deed h c) (deed g c) (length h) (λ i l. ap did (deed_before c i l)));
        of_value = λ c.
            ap (value_after (deed g c) (slice_index o c)) length_g
            ∙ (over_none (deed g c (length h)) (value_after (deed g c) (slice_index o c) (length h))
            (ap did (deed_at c) ∙ open_did (written c ws))
            ∙ value-same (deed h c) (deed g c) (slice_index o c) (length h) (λ i l. ap did (deed_before c i l)));
      }

module _ (o : List ℕ) (w : World) (s : ℕ) (t : Seat) (I : Consistent o w) (e : slice_get w.seats s ≡ Some t) (p : t.phase ≡ Taking) where
  abbrev entry : WordsEntry
  entry = record { status = Open; reads = reads_of t.reads; writes = writes_of t.held }

  abbrev later : List WordsEntry
  later = w.history ++ record { status = Open; reads = reads_of t.reads; writes = writes_of t.held } ∷ []

  q : SeatOk o w.cells w.history t
  q = I.seats s t e

  grows : Grows w.history later
  grows = Grows-append w.history entry

  stays : Stays o w.history later
  stays = draw_stays o w.history (reads_of t.reads) (writes_of t.held)

  not_held : (c : ℕ) → ((k : Held) → find_held c t.held ≡ Some k → ⊥) → deed_of Open (written c (writes_of t.held)) ≡ Nothing
  not_held c f = ap (deed_of Open) (written-find c t.held f)

  will_before : (c i u : ℕ) → ((k : Held) → find_held c t.held ≡ Some k → ⊥) → deed later c i ≡ Will u → deed w.history c i ≡ Will u
  will_before c i u f d = go (deed_new o w.history (reads_of t.reads) (writes_of t.held) c i)
    where
      go : (deed later c i ≡ deed w.history c i) ⊎ ((i ≡ length w.history) × (deed later c i ≡ deed_of Open (written c (writes_of t.held))))
          → deed w.history c i ≡ Will u
      go (inl a) = sym a ∙ d
      go (inr a) = let b : Nothing ≡ Will u = sym (not_held c f) ∙ (sym a.1 ∙ d) in cc

  draw_frame : Frame o w.cells w.cells w.history later t.held (Some w.clock)
  draw_frame =
      record {
        grows = grows;
        same =
            λ c f. record {
              cell = refl;
              same_version = stays.of_version c;
              same_value = stays.of_value c;
              will =
                  λ i u d. will_before c i u f d;
            };
        evolves = λ c. record {
          up = omega (arith, stays.of_version c);
          same_value = λ a. stays.of_value c;
          word = λ a old y g. old y g ∙ sym (stays.of_value c);
        };
        entries = λ i d n g. get-append_left w.history (entry ∷ []) i (get_within w.history i d g) ∙ g;
      }

  draw_others : Others w.seats s t.held (Some w.clock)
  draw_others z u ne g = (
    λ c k l a b. ne (sym (I.held_apart s z t u c k l e g a b)),
    λ a. absurd (late (number_within o w.cells w.history u u.phase w.clock (I.seats z u g).phase a)),
  )
    where
      late : w.clock < length w.history → ⊥
      late l = omega (arith, I.clock)

  -- a held cell is locked
  held_locked : (c : ℕ) (k : Held) → find_held c t.held ≡ Some k → (v : ℕ) (x : Cell) → slice_get w.cells c ≡ Some x → x.lock ≡ 2 * v → ⊥
  held_locked c k f v x g j =
      let r : (y : Cell) × (slice_get w.cells c ≡ Some y) × HeldOk o w.history t.rv t.phase c k y = q.held c k f in
      let i : Some x ≡ Some r.0 = sym g ∙ r.1 in
      let y : x ≡ r.0 = cc in
      let z : x.lock ≡ suc k.word = ap (λ (a : Cell). a.lock) y ∙ r.2.locked in
      odd_even r.2.old.0 v (omega (arith, z, j, r.2.old.1))

  draw_cells : CellsOk o w.cells later
  draw_cells c v x g j =
      let b : (v ≡ version w.history c) × (x.value ≡ value o w.history c) × ((i u : ℕ) → deed w.history c i ≡ Will u → ⊥) =
      I.cells c v x g j in (
        b.0 ∙ sym (stays.of_version c),
        b.1 ∙ sym (stays.of_value c),
        λ i u d. b.2 i u
            (will_before c i u (λ k f. held_locked c k f v x g j) d),
      )

  draw_history : HistoryOk o later
  draw_history i d g st = go (get-append_cases w.history entry i)
    where
      go : (slice_get later i ≡ slice_get w.history i) ⊎ ((i ≡ length w.history) × (slice_get later i ≡ Some entry)) → One o later i d.reads
      go (inl a) =
          let b : slice_get w.history i ≡ Some d = sym a ∙ g in
          let l : i < length w.history = get_within w.history i d b in
          One-kept o w.history later i d.reads grows (omega arith) (I.history i d b st)
      go (inr a) =
          let b : Some entry ≡ Some d = sym a.1 ∙ g in
          let c : entry ≡ d = cc in
          let f : Open ≡ Done = ap (λ (y : WordsEntry). y.status) c ∙ st in
          cc

  -- a read of a cell that is held is of the version at the draw
  draw_settled : (rs : List Read) → ReadsOk o w.history t.rv rs → SettledOk o later w.clock t.held 0 rs
  draw_settled [] a = tt
  draw_settled (r ∷ rs) a =
      (λ b. go (one_of (is_held r.cell t.held) (nat_lt r.cell 0) b), draw_settled rs a.1)
    where
      held : (k : Held) → find_held r.cell t.held ≡ Some k → IsOne o later w.clock r.cell r.value
      held k f =
          let d : (x : Cell) × (slice_get w.cells r.cell ≡ Some x) × HeldOk o w.history t.rv t.phase r.cell k x = q.held r.cell k f in
          let sh : HeldShows o w.history None r.cell k d.0 =
          subst (λ (y : Phase). HeldShows o w.history (done_at y) r.cell k d.0) p d.2.shows in
          let l : t.rv ≤ length w.history = q.rv in
          let one : IsOne o w.history w.clock r.cell r.value =
          one_on o w.history r.cell t.rv w.clock r.value a.0.1 (omega (arith, sh.0, d.2.old.1, d.2.old.2)) (omega (arith, I.clock))
          (omega (arith, I.clock))
          (λ i u m f. taking_none i (sym (ap number_at p) ∙ d.2.mine i u f))
          in IsOne-kept o w.history later w.clock r.cell r.value grows (omega (arith, I.clock)) one
        where
          taking_none : (i : ℕ) → None ≡ Some i → ⊥
          taking_none i y = cc

      go : (is_held r.cell t.held ≡ true) ⊎ (nat_lt r.cell 0 ≡ true) → IsOne o later w.clock r.cell r.value
      go (inl b) = let k : (k : Held) × (find_held r.cell t.held ≡ Some k) = is_held-find r.cell t.held b in held k.0 k.1
      go (inr b) = let l : r.cell < 0 = less_numbers r.cell 0 b in absurd (omega arith)

  draw_seat : SeatOk o w.cells later (in_phase t (Checking w.clock 0))
  draw_seat =
      record {
        phase = record {
          entry = entry;
          here = ap (slice_get later) I.clock ∙ get-append_seam w.history entry;
          status = refl;
          reads = refl;
          writes = refl;
          after = omega (arith, I.clock, q.rv);
          settled = draw_settled t.reads q.reads;
        };
        rv = omega (arith, q.rv, grows.0);
        reads = ReadsOk-kept o w.history later t.rv t.reads grows q.rv q.reads;
        held = λ c k f.
            let d : (x : Cell) × (slice_get w.cells c ≡ Some x) × HeldOk o w.history t.rv t.phase c k x = q.held c k f in
            let sh : HeldShows o w.history None c k d.0 = subst (λ (y : Phase). HeldShows o w.history (done_at y) c k d.0) p d.2.shows in (
              d.0,
              d.1,
              record {
                locked = d.2.locked;
                old = d.2.old;
                shows = (sh.0 ∙ ap (λ y. 2 * y) (sym (stays.of_version c)), sh.1 ∙ sym (stays.of_value c), sh.2);
                was = λ v b. WasWritten-kept w.history later c v grows (d.2.was v b);
                mine = λ i u b. own c k d.0 d.2 i u b (deed_new o w.history (reads_of t.reads) (writes_of t.held) c i);
              },
            );
      }
    where
      taking_none : (i : ℕ) → None ≡ Some i → ⊥
      taking_none i y = cc

      own : (c : ℕ) (k : Held) (x : Cell) → HeldOk o w.history t.rv t.phase c k x → (i u : ℕ) → deed later c i ≡ Will u
          → (deed later c i ≡ deed w.history c i) ⊎ ((i ≡ length w.history)
          × (deed later c i ≡ deed_of Open (written c (writes_of t.held))))
          → Some w.clock ≡ Some i
      own c k x r i u b (inl a) = absurd (taking_none i (sym (ap number_at p) ∙ r.mine i u (sym a ∙ b)))
      own c k x r i u b (inr a) = ap (λ (y : ℕ). Some y) (I.clock ∙ sym a.0)

  pub drawn_keeps : Consistent o (drawn w s t)
  drawn_keeps =
      Consistent-step o w s t (in_phase t (Checking w.clock 0)) w.cells later (suc w.clock) t.held (Some w.clock) I e
      draw_frame draw_others (ap suc I.clock ∙ sym (length-append_one w.history entry)) draw_cells draw_history draw_seat
      (λ c k f. (k, f)) (λ i f. f)
