-- A run that commits, step by step.
use Rattle.std.proofs.Common.{◌≡◌, ◌≢◌, ℕ, ◌+◌, ◌<◌, ◌≤◌, ◌⊎◌, inl, inr, eq-eqb, ne_eqb, Bool, true, false, ◌==◌, ◌&&◌, is_some}
use Rattle.std.proofs.Common.{if◌then◌else◌, Option, Some, None, List, ◌∷◌, ◌++◌, length, sym, refl, ap, ◌∙◌, subst}
use Rattle.std.specs.Option.{option_map}
use Rattle.atomic_table.specs.declared.shared.Seat.{Seat as TableSeat}
use Rattle.tlcore.specs.Seats.{Seat, find_read, is_nil, all_below, writes_of}
use Rattle.tlcore.specs.Machine.{conflict, saw}
use Rattle.tlcore.proofs.Lists.{known}
use Rattle.tlcore.specs.declared.seats.Read.{Read}
use Rattle.tlcore.specs.declared.seats.Held.{Held}
use Rattle.tlcore.specs.declared.seats.Phase.TheVariants.{Idle, Reading, Taking, Failing}
use Rattle.tlwords.specs.declared.log.Slot.{Slot}
use Rattle.tlwords.specs.declared.words.Words.{Words}
use Rattle.tlwords.specs.Terms.{Terms}
use Rattle.tlwords.specs.Seen.{SeenGrows}
use Rattle.tlwords.specs.Views.{View}
use Rattle.tlwords.specs.Plays.{Mine, Sees, Takes, after_take, IsSameSeat}
use Rattle.tlwords.specs.Runs.{word_seen, value_kept, was_read, IsKeptOf, IsSeated}
use Rattle.tlwords.specs.Commits.{cells_of}
use Rattle.tlwords.specs.Committing.{held_in, locking, Goes, FailsToTake}
use Rattle.tlwords.specs.Walks.{NoneWanted}
use Rattle.tlwords.proofs.Seens.{seen_refl, seen_trans}
use Rattle.tlwords.proofs.ReadSteps.{if_known}
use Rattle.tlwords.proofs.RunSteps.{if_true, if_false}
use Rattle.tlwords.proofs.Held.{NoneKept, held_on, held_more, held_below}

-- ---- what is kept

module _ (t : Seat) (slots : List Slot) (k : IsKeptOf t slots) where
  pub unkept_of : (a b : ℕ) → NoneWanted slots true a b → NoneKept slots a b
  unkept_of a b front c l m = go (value_kept slots c) (was_read slots c) (k.1 c) (front c l m)
    where
      go : (o : Option ℕ) (r : Bool) → (is_some o ≡ true → r ≡ true) → (r && is_some o) ≡ false → o ≡ None
      go None r f e = refl
      go (Some v) r f e = let a : (true && true) ≡ false = sym (ap (λ (b : Bool). b && true) (f refl)) ∙ e in cc

  -- the read under the word that was seen
  pub read_found : (c w : ℕ) → word_seen slots c ≡ Some w → (d : Read) × (find_read c t.reads ≡ Some d) × (d.word ≡ w)
  read_found c w e = go (find_read c t.reads) (sym (k.0 c) ∙ e)
    where
      go : (o : Option Read) → option_map (λ (r : Read). r.word) o ≡ Some w → (d : Read) × (o ≡ Some d) × (d.word ≡ w)
      go None e = cc
      go (Some d) e = (d, refl, let q : d.word ≡ w = cc in q)

pub seat_trans : {S N : Type 0} (p q r : TableSeat (Unit {0}) (View S N)) → IsSameSeat p q → IsSameSeat q r → IsSameSeat p r
seat_trans p q r a b = (b.0 ∙ a.0, b.1 ∙ a.1, b.2 ∙ a.2)

pub seated_on : {L S N : Type 0} (words : Words L S N) (p q : TableSeat (Unit {0}) (View S N)) → IsSeated words p → IsSameSeat p q
    → q.me.0.setting ≡ p.me.0.setting → length q.me.0.base ≡ length p.me.0.base → IsSeated words q
seated_on words p q seated same set size =
    record {
      table = same.0 ∙ seated.table;
      setting = (seated.setting.0, set ∙ seated.setting.1);
      cells = seated.cells ∙ sym size;
    }

module _ {S N : Type 0} (terms : Terms S N) where
  -- ---- steps, one after another

  abbrev pub Moves : Mine S N → Mine S N → Type 0
  Moves m r = (r ≡ m) ⊎ Sees terms m.0 r.0

  pub moves_then : (m r s : Mine S N) → Moves m r → Sees terms r.0 s.0 → Sees terms m.0 s.0
  moves_then m r s (inl e) p = subst (λ (z : Mine S N). Sees terms z.0 s.0) e p
  moves_then m r s (inr q) p =
      record {
        own = seen_trans m.0.seen r.0.seen s.0.seen q.own p.own;
        told = seen_trans m.0.told.seen r.0.seen s.0.seen q.told p.own;
        sound = p.sound;
      }

  pub sees_on : (m r s : Mine S N) → Sees terms m.0 r.0 → Moves r s → Sees terms m.0 s.0
  sees_on m r s p (inl e) = subst (λ (z : Mine S N). Sees terms m.0 z.0) (sym e) p
  sees_on m r s p (inr q) = moves_then m r s (inr p) q

  pub moves_grow : (m r : Mine S N) → Moves m r → SeenGrows m.0.seen r.0.seen
  moves_grow m r (inl e) = subst (λ (z : Mine S N). SeenGrows m.0.seen z.0.seen) (sym e) (seen_refl m.0.seen)
  moves_grow m r (inr p) = p.own

  pub goes_start : (m : Mine S N) (t : Seat) → t ≡ m.0.seat → Goes terms m t m
  goes_start m t e =
      record {
        moves = inl refl;
        is = ap (λ (t : Seat). let v : View S N = record m.0 { seat = record t { looked = m.0.seat.looked } } in v) (sym e);
      }

  -- a step that changes the seat by f, and its last look by l
  pub goes_by : (f : Seat → Seat) (l : Option (ℕ × ℕ) → Option (ℕ × ℕ)) (m r s : Mine S N) (t u : Seat) → Goes terms m t r
      → Sees terms r.0 s.0 → s.0 ≡ record r.0 { seen = s.0.seen; seat = f r.0.seat }
      → ((o : Option (ℕ × ℕ)) → f (record t { looked = o }) ≡ record u { looked = l o }) → Goes terms m u s
  goes_by f l m r s t u g p e q =
      let o : Option (ℕ × ℕ) = r.0.seat.looked in
      let a : s.0 ≡ record m.0 { seen = s.0.seen; seat = record u { looked = l o } } =
      e ∙ (ap (λ (v : View S N). let w : View S N = record v { seen = s.0.seen; seat = f v.seat } in w) g.is
      ∙ ap (λ (z : Seat). let w : View S N = record m.0 { seen = s.0.seen; seat = z } in w) (q o)) in
      record {
        moves = inr (moves_then m r s g.moves p);
        is = a ∙ ap (λ (k : Option (ℕ × ℕ)). let w : View S N = record m.0 { seen = s.0.seen; seat = record u { looked = k } } in w)
            (sym (ap (λ (v : View S N). v.seat.looked) a));
      }

  pub goes_seat : (m r : Mine S N) (t : Seat) → Goes terms m t r → r.0.seat ≡ record t { looked = r.0.seat.looked }
  goes_seat m r t g = ap (λ (v : View S N). v.seat) g.is

  pub goes_seated : {L : Type 0} (words : Words L S N) (p q : TableSeat (Unit {0}) (View S N)) (t : Seat) → IsSeated words p
      → IsSameSeat p q
      → Goes terms p.me t q.me → IsSeated words q
  goes_seated words p q t seated same g =
      seated_on words p q seated same (ap (λ (v : View S N). v.setting) g.is) (ap (λ (v : View S N). length v.base) g.is)

  pub goes_rights : (m r : Mine S N) (t : Seat) → Goes terms m t r → r.0.rights ≡ m.0.rights
  goes_rights m r t g = ap (λ (v : View S N). v.rights) g.is

  pub goes_read : (m r : Mine S N) (t : Seat) → Goes terms m t r → t.reads ≡ m.0.seat.reads → (c : ℕ) (d : Read)
      → find_read c m.0.seat.reads ≡ Some d → find_read c r.0.seat.reads ≡ Some d
  goes_read m r t g e c d f = ap (λ (v : View S N). find_read c v.seat.reads) g.is ∙ (ap (find_read c) e ∙ f)

  -- ---- the locks are taken

  module _ (slots : List Slot) (m r : Mine S N) (low : ℕ) where
    abbrev Before : Type 0
    Before = Goes terms m (locking m.0.seat Taking Reading (held_in slots 0 0 low)) r

    pub take_place : Before → (c : ℕ) → low ≤ c
        → (r.0.seat.phase ≡ Reading) ⊎ ((r.0.seat.phase ≡ Taking) × (all_below c r.0.seat.held ≡ true))
    take_place g c l = go (known (is_nil (held_in slots 0 0 low)))
      where
        go : (is_nil (held_in slots 0 0 low) ≡ true) ⊎ (is_nil (held_in slots 0 0 low) ≡ false)
            → (r.0.seat.phase ≡ Reading) ⊎ ((r.0.seat.phase ≡ Taking) × (all_below c r.0.seat.held ≡ true))
        go (inl e) = inl (ap (λ (v : View S N). v.seat.phase) g.is ∙ ap (λ (b : Bool). if b then Reading else Taking) e)
        go (inr e) = inr (
          ap (λ (v : View S N). v.seat.phase) g.is
              ∙ ap (λ (b : Bool). if b then Reading else Taking) e,
          ap (λ (v : View S N). all_below c v.seat.held) g.is
              ∙ held_below slots 0 0 low c l,
        )

    module _ (g : Before) (c v w n : ℕ) (s : Mine S N) (l : low ≤ c) (unkept : NoneKept slots low c) (t : Takes terms c v w r n s) where
      -- the seat after the take, where it found the word and where it didn't
      abbrev hit : Seat
      hit = record (saw m.0.seat c n) {
        phase = Taking;
        held = record { cell = c; word = w; value = v; stored = false } ∷ held_in slots 0 0 low;
        locked = c ∷ (cells_of (writes_of (held_in slots 0 0 low)) ++ m.0.seat.locked);
      }

      abbrev miss : Seat
      miss = conflict (saw (locking m.0.seat Taking Reading (held_in slots 0 0 low)) c n)
          (if is_nil (held_in slots 0 0 low) then Idle else Failing)

      pub take_goes : value_kept slots c ≡ Some v → word_seen slots c ≡ Some w → n ≡ w
          → Goes terms m (locking m.0.seat Taking Reading (held_in slots 0 0 (c + 1))) s
      take_goes e f same =
          goes_by (λ (t : Seat). after_take t c v w n) (λ _. Some (c, n)) m r s (locking m.0.seat Taking Reading (held_in slots 0 0 low))
          (locking m.0.seat Taking Reading (held_in slots 0 0 (c + 1))) g t.sees t.is
          (λ o. if_true (n == w) hit miss (eq-eqb n w same)
          ∙ ap (λ (ks : List Held). let z : Seat = record (locking m.0.seat Taking Reading ks) { looked = Some (c, n) } in z)
          (sym (held_more slots low c v w l unkept e f)))

      pub take_fails : (b : Option ℕ) → b ≡ Some w → c < length slots → word_seen slots c ≡ Some w → n ≢ w
          → FailsToTake terms slots (record { cell = c; word = n; before = b }) m s
      take_fails b is within f ne =
          record {
            goes = goes_by (λ (t : Seat). after_take t c v w n) (λ _. Some (c, n)) m r s
                (locking m.0.seat Taking Reading (held_in slots 0 0 low))
                (locking (conflict m.0.seat Idle) Failing Idle (held_in slots 0 0 c)) g t.sees t.is
                (λ o. if_false (n == w) hit miss (ne_eqb n w ne)
                ∙ ap (λ (ks : List Held). let z : Seat = record (locking (conflict m.0.seat Idle) Failing Idle ks)
                { looked = Some (c, n) } in z)
                (sym (held_on slots 0 0 low c l unkept)));
            meets = record {
              looked = ap (λ (v : View S N). v.seat.looked) t.is ∙ if_known (λ (z : Seat). z.looked ≡ Some (c, n)) (n == w)
                  (record (saw r.0.seat c n) {
                    phase = Taking;
                    held = record { cell = c; word = w; value = v; stored = false } ∷ r.0.seat.held;
                    locked = c ∷ r.0.seat.locked;
                  })
                  (conflict (saw r.0.seat c n) (if is_nil r.0.seat.held then Idle else Failing)) (λ _. refl) (λ _. refl);
              written = t.written;
              before = f ∙ sym is;
            };
            sees = moves_then m r s g.moves t.sees;
            differs = (w, is, λ z. ne (sym z));
            within = within;
          }
