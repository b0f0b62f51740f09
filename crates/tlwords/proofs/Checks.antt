-- A run that looks again at what it read.
use Rattle.std.proofs.Common.{◌≡◌, ◌≢◌, ℕ, suc, ◌+◌, ◌/◌, ◌%◌, ◌<◌, ◌≤◌, ◌⊎◌, inl, inr, ⊎_elim, eq-eqb, ne_eqb, Bool, true, false, not}
use Rattle.std.proofs.Common.{nat_lt, nat_le, ◌==◌, ◌&&◌, ◌||◌, is_some, if◌then◌else◌, Option, Some, None, List, [], ◌∷◌, length}
use Rattle.std.proofs.Common.{slice_get, sym, refl, ap, ◌∙◌, arith}
use Rattle.std.specs.List.{list_all}
use Rattle.std.proofs.lemmas.Bool.{or_left, or_right}
use Rattle.std.specs.Option.{option_map}
use Rattle.tlcore.specs.Seats.{Seat, find_read, is_held, is_settled, settled_below, all_settled, is_due, is_next, passes}
use Rattle.tlcore.specs.Machine.{in_phase, conflict, saw}
use Rattle.tlcore.proofs.Lists.{option_known, get_within}
use Rattle.tlcore.specs.declared.seats.Read.{Read}
use Rattle.tlcore.specs.declared.seats.Phase.TheVariants.{Checking, Voiding}
use Rattle.tlwords.specs.declared.log.Slot.{Slot}
use Rattle.tlwords.specs.Terms.{Terms}
use Rattle.tlwords.specs.Views.{View}
use Rattle.tlwords.specs.Plays.{Mine, Checks, after_check}
use Rattle.tlwords.specs.Runs.{word_seen, value_kept, was_read, IsKeptOf, HasCause}
use Rattle.tlwords.specs.Committing.{held_in, Goes, FailsTheCheck, Passes}
use Rattle.tlwords.specs.Walks.{is_wanted, NoneWanted}
use Rattle.tlwords.proofs.ReadSteps.{if_known}
use Rattle.tlwords.proofs.RunSteps.{if_true, if_false, passes_true, passes_false}
use Rattle.tlwords.proofs.Held.{held_yes, held_no, lt_yes, lt_no, le_yes, le_cases}
use Rattle.tlwords.proofs.Turns.{goes_start, goes_seat, goes_by}

-- what holds of each cell that was read holds of each read
reads_all : (p : ℕ → Bool) (rs : List Read) → ((c : ℕ) → is_some (find_read c rs) ≡ true → p c ≡ true) → list_all (λ r. p r.cell) rs ≡ true
reads_all p [] each = refl
reads_all p (r ∷ rs) each =
    λ j. here j && reads_all p rs (λ c e. each c (more c e)) j
  where
    here : p r.cell ≡ true
    here = each r.cell (ap (λ (b : Bool). is_some (if b then Some r else find_read r.cell rs)) (eq-eqb r.cell r.cell refl))

    more : (c : ℕ) → is_some (find_read c rs) ≡ true → is_some (find_read c (r ∷ rs)) ≡ true
    more c e = go (r.cell == c)
      where
        go : (b : Bool) → is_some (if b then Some r else find_read c rs) ≡ true
        go true = refl
        go false = e

read_within : (slots : List Slot) (c : ℕ) → was_read slots c ≡ true → c < length slots
read_within slots c e = go (option_known (slice_get slots c))
  where
    go : ((s : Slot) × (slice_get slots c ≡ Some s)) ⊎ (slice_get slots c ≡ None) → c < length slots
    go (inl s) = get_within slots c s.0 s.1
    go (inr n) = let a : false ≡ true = sym (ap (λ (o : Option Slot). is_some (elim o as (λ _. Option ℕ) [ None ↦ None | Some s ↦ s.word ]))
        n) ∙ e in cc

wanted_reads : (slots : List Slot) (c : ℕ) → is_wanted slots false c ≡ true → (was_read slots c ≡ true) × (value_kept slots c ≡ None)
wanted_reads slots c e = go (was_read slots c) (value_kept slots c) e
  where
    go : (b : Bool) (o : Option ℕ) → (b && not (is_some o)) ≡ true → (b ≡ true) × (o ≡ None)
    go true None e = (refl, refl)
    go true (Some v) e = cc
    go false o e = cc

unwanted_keeps : (slots : List Slot) (c : ℕ) → was_read slots c ≡ true → is_wanted slots false c ≡ false
    → (v : ℕ) × (value_kept slots c ≡ Some v)
unwanted_keeps slots c r e = go (was_read slots c) (value_kept slots c) r e
  where
    go : (b : Bool) (o : Option ℕ) → b ≡ true → (b && not (is_some o)) ≡ false → (v : ℕ) × (o ≡ Some v)
    go true None r e = cc
    go true (Some v) r e = (v, refl)
    go false o r e = cc

module _ {S N : Type 0} (terms : Terms S N) (slots : List Slot) (i : ℕ) (m : Mine S N)
    (k : IsKeptOf m.0.seat slots) where
  pub check_starts : m.0.seat.phase ≡ Checking i 0 → Goes terms m (in_phase m.0.seat (Checking i 0)) m
  check_starts e = goes_start terms m (in_phase m.0.seat (Checking i 0)) (λ j. let t : Seat = record m.0.seat { phase = sym e j } in t)

  pub check_skips : m.0.seat.phase ≡ Checking i 0 → i ≡ m.0.seat.rv → Passes terms i m m
  check_skips e n =
      record {
        upto = 0;
        goes = check_starts e;
        may = or_left (is_next m.0.seat i) (all_settled m.0.seat.held 0 m.0.seat.reads)
            (eq-eqb (suc m.0.seat.rv) (suc i) (ap suc (sym n)));
      }

  found_reads : (c : ℕ) → is_some (find_read c m.0.seat.reads) ≡ true → was_read slots c ≡ true
  found_reads c e = ap is_some (k.0 c) ∙ go (find_read c m.0.seat.reads) e
    where
      go : (o : Option Read) → is_some o ≡ true → is_some (option_map (λ (r : Read). r.word) o) ≡ true
      go None e = e
      go (Some r) e = refl

  module _ (held : m.0.seat.held ≡ held_in slots 0 0 (length slots)) (low : ℕ) where
    -- a cell below c that was read is held, or was looked at again
    settled_cell : (c x : ℕ) → NoneWanted slots false low c → x < c → was_read slots x ≡ true → is_settled m.0.seat.held low x ≡ true
    settled_cell c x front l r = ⊎_elim
        (λ (a : low ≤ x). let v : (v : ℕ) × (value_kept slots x ≡ Some v) = unwanted_keeps slots x r (front x a l) in
        or_left (is_held x m.0.seat.held) (nat_lt x low) (ap (is_held x) held
        ∙ held_yes slots 0 0 (length slots) x v.0 (omega arith) (read_within slots x r) v.1))
        (λ (a : x < low). or_right (is_held x m.0.seat.held) (nat_lt x low) (lt_yes x low a)) (le_cases low x)

    module _ (r : Mine S N) (g : Goes terms m (in_phase m.0.seat (Checking i low)) r) where
      pub check_place : (c : ℕ) → low ≤ c → is_wanted slots false c ≡ true → NoneWanted slots false low c → i ≢ m.0.seat.rv
          → (j : ℕ) × (upto : ℕ) × (r.0.seat.phase ≡ Checking j upto) × (is_next r.0.seat j ≡ false) × (is_due r.0.seat upto c ≡ true)
      check_place c l w front ne = (
        i,
        low,
        ap (λ (t : Seat). t.phase) at,
        ap (λ (t : Seat). is_next t i) at ∙ ne_eqb (suc m.0.seat.rv) (suc i) (λ e. ne (omega (arith, e))),
        ap (λ (t : Seat). is_due t low c) at ∙ (λ j. not (open_still j) && rest j),
      )
        where
          at : r.0.seat ≡ record (in_phase m.0.seat (Checking i low)) { looked = r.0.seat.looked }
          at = goes_seat terms m r (in_phase m.0.seat (Checking i low)) g

          open_still : is_settled m.0.seat.held low c ≡ false
          open_still =
              λ j. (ap (is_held c) held ∙ held_no slots 0 0 (length slots) c (wanted_reads slots c w).1) j || lt_no c low l j

          rest : settled_below c m.0.seat.held low m.0.seat.reads ≡ true
          rest = reads_all (λ x. nat_le c x || is_settled m.0.seat.held low x) m.0.seat.reads (λ x e. ⊎_elim
              (λ (a : c ≤ x). or_left (nat_le c x) (is_settled m.0.seat.held low x) (le_yes c x a))
              (λ (a : x < c). or_right (nat_le c x) (is_settled m.0.seat.held low x) (settled_cell c x front a (found_reads x e)))
              (le_cases c x))

      pub check_ends : NoneWanted slots false low (length slots) → Passes terms i m r
      check_ends front =
          record {
            upto = low;
            goes = g;
            may = or_right (is_next m.0.seat i) (all_settled m.0.seat.held low m.0.seat.reads)
                (reads_all (λ x. is_settled m.0.seat.held low x) m.0.seat.reads
                (λ x e. settled_cell (length slots) x front (read_within slots x (found_reads x e)) (found_reads x e)));
          }

      module _ (c n : ℕ) (s : Mine S N) (t : Checks terms c r n s) where
        looks : s.0 ≡ record r.0 { seen = s.0.seen; seat = after_check r.0.seat i c n }
        looks = t.is i low (ap (λ (t : Seat). t.phase) (goes_seat terms m r (in_phase m.0.seat (Checking i low)) g))

        pub check_goes : n % 2 ≡ 0 → n / 2 ≤ m.0.seat.rv → Goes terms m (in_phase m.0.seat (Checking i (c + 1))) s
        check_goes even l =
            goes_by terms (λ (t : Seat). after_check t i c n) (λ _. Some (c, n)) m r s (in_phase m.0.seat (Checking i low))
            (in_phase m.0.seat (Checking i (c + 1))) g t.sees looks
            (λ o. if_true (passes n m.0.seat.rv) (in_phase (saw m.0.seat c n) (Checking i (suc c)))
            (conflict (saw m.0.seat c n) (Voiding i)) (passes_true n m.0.seat.rv even l)
            ∙ ap (λ (x : ℕ). in_phase (saw m.0.seat c n) (Checking i x)) (let a : suc c ≡ c + 1 = omega arith in a))

        pub check_fails : (w : ℕ) (b : Option ℕ) → b ≡ Some w → word_seen slots c ≡ Some w → HasCause m.0.seat.rv n
            → FailsTheCheck terms slots i (record { cell = c; word = n; before = b }) m s
        check_fails w b is f cause =
            record {
              goes = goes_by terms (λ (t : Seat). after_check t i c n) (λ _. Some (c, n)) m r s (in_phase m.0.seat (Checking i low))
                  (conflict m.0.seat (Voiding i)) g t.sees looks
                  (λ o. if_false (passes n m.0.seat.rv) (in_phase (saw m.0.seat c n) (Checking i (suc c)))
                  (conflict (saw m.0.seat c n) (Voiding i)) (passes_false n m.0.seat.rv cause));
              meets = record {
                looked = ap (λ (v : View S N). v.seat.looked) looks
                    ∙ if_known (λ (z : Seat). z.looked ≡ Some (c, n)) (passes n r.0.seat.rv)
                    (in_phase (saw r.0.seat c n) (Checking i (suc c)))
                    (conflict (saw r.0.seat c n) (Voiding i)) (λ _. refl) (λ _. refl);
                written = t.written;
                before = f ∙ sym is;
              };
              read = ap is_some is;
              cause = cause;
            }
