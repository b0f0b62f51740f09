-- A run that gives its locks back, one after another.
use Rattle.std.proofs.Common.{◌≡◌, ℕ, suc, ◌+◌, ◌*◌, ◌<◌, ◌≤◌, ◌⊎◌, inl, inr, ⊎_elim, Bool, true, false, if◌then◌else◌, Option, Some, None}
use Rattle.std.proofs.Common.{List, [], ◌∷◌, sym, refl, ap, ◌∙◌, subst, arith}
use Rattle.std.specs.Option.{unwrap_or}
use Rattle.tlcore.specs.History.{wv}
use Rattle.tlcore.specs.Seats.{Seat, find_held, is_nil, without}
use Rattle.tlcore.proofs.Lists.{known}
use Rattle.tlcore.specs.declared.seats.Held.{Held}
use Rattle.tlcore.specs.declared.seats.Phase.TheVariants.{Idle, Failing, Voiding, Storing}
use Rattle.tlwords.specs.declared.log.Slot.{Slot}
use Rattle.tlwords.specs.Terms.{Terms}
use Rattle.tlwords.specs.Views.{View}
use Rattle.tlwords.specs.Plays.{Mine, Releases, GivesBack, after_release}
use Rattle.tlwords.specs.Runs.{word_seen, value_kept}
use Rattle.tlwords.specs.Commits.{IsVoid}
use Rattle.tlwords.specs.Committing.{word_or_zero, held_in, holding, Goes, Releasing, ReleasesAll}
use Rattle.tlwords.proofs.Held.{NoneKept, held_cell, held_find, held_none, held_without, lt_yes}
use Rattle.tlwords.proofs.Turns.{goes_seat, goes_by}

pub nil_not : (c : ℕ) (ks : List Held) (k : Held) → find_held c ks ≡ Some k → is_nil ks ≡ false
nil_not c [] k e = cc
nil_not c (x ∷ ks) k e = refl

idle_not_voiding : (i : ℕ) → Idle ≡ Voiding i → ⊥
idle_not_voiding i e = cc

module _ {S N : Type 0} (terms : Terms S N) (slots : List Slot) (high : ℕ) (new : Option ℕ) (low : ℕ) (m r : Mine S N)
    (g : Releasing terms slots high new low m r) where
  abbrev still : List Held
  still = held_in slots g.done low high

  module _ (c v : ℕ) (l : low ≤ c) (b : c < high) (e : value_kept slots c ≡ Some v) where
    some_held : is_nil still ≡ false
    some_held = nil_not c still (held_cell slots g.done c v) (held_find slots g.done low high c v l b e)

    still_at : r.0.seat.phase ≡ g.phase
    still_at =
        ap (λ (t : Seat). t.phase) (goes_seat terms m r (holding m.0.seat g.phase Idle still) g.goes)
        ∙ ap (λ (b : Bool). if b then Idle else g.phase) some_held

    pub release_held : (w n : ℕ) → word_seen slots c ≡ Some w → n ≡ unwrap_or new w
        → (k : Held) × (find_held c r.0.seat.held ≡ Some k) × GivesBack r.0.seat k n
    release_held w n f is = (
      held_cell slots g.done c v,
      ap (λ (t : Seat). find_held c t.held) (goes_seat terms m r (holding m.0.seat g.phase Idle still) g.goes)
          ∙ held_find slots g.done low high c v l b e,
      go g.gives,
    )
      where
        go : ((new ≡ None) × ((g.phase ≡ Failing) ⊎ ((i : ℕ) × (g.phase ≡ Voiding i))))
            ⊎ ((g.done ≡ high) × ((i : ℕ) × (g.phase ≡ Storing i) × (new ≡ Some (2 * wv i))))
            → GivesBack r.0.seat (held_cell slots g.done c v) n
        go (inl p) =
            let back : n ≡ word_or_zero (word_seen slots c) = is ∙ (ap (λ (o : Option ℕ). unwrap_or o w) p.0 ∙ sym (ap word_or_zero f)) in
            inr (⊎_elim (λ (q : g.phase ≡ Failing). inl (still_at ∙ q, back))
            (λ (q : (i : ℕ) × (g.phase ≡ Voiding i)). inr (q.0, still_at ∙ q.1, back)) p.1)
        go (inr p) = inl (
          p.1.0,
          still_at ∙ p.1.1,
          lt_yes c g.done (let a : g.done ≡ high = p.0 in omega (arith, a, b)),
          is
              ∙ ap (λ (o : Option ℕ). unwrap_or o w) p.1.2,
        )

    pub release_goes : (s : Mine S N) → NoneKept slots low c → Releases terms c r s → Releasing terms slots high new (c + 1) m s
    release_goes s unkept t =
        record {
          phase = g.phase;
          done = g.done;
          gives = g.gives;
          start = g.start;
          goes = goes_by terms (λ (t : Seat). after_release t c) (λ o. o) m r s (holding m.0.seat g.phase Idle still)
              (holding m.0.seat g.phase Idle (held_in slots g.done (c + 1) high)) g.goes t.sees t.is
              (λ o j. let z : Seat = record m.0.seat {
                phase = (if is_nil (left j) then Idle else (if some_held j then Idle else g.phase));
                held = left j;
                looked = o;
              } in z);
          looked = ap (λ (v : View S N). v.seat.looked) t.is ∙ g.looked;
          void = λ i p. inr (t.void i (still_at ∙ p));
        }
      where
        left : without c still ≡ held_in slots g.done (c + 1) high
        left = held_without slots g.done low high c l unkept
            ∙ ap (λ (x : ℕ). held_in slots g.done x high) (let a : suc c ≡ c + 1 = omega arith in a)

  pub release_end : NoneKept slots low high → ReleasesAll terms m r
  release_end unkept =
      record {
        goes = subst (λ (ks : List Held). Goes terms m (holding m.0.seat g.phase Idle ks) r) nothing g.goes;
        looked = g.looked;
        void = λ i e. was i e (known (is_nil (held_in slots g.done 0 high)));
      }
    where
      nothing : still ≡ []
      nothing = held_none slots g.done low high unkept

      stood : m.0.seat.phase ≡ (if is_nil (held_in slots g.done 0 high) then Idle else g.phase)
      stood = ap (λ (t : Seat). t.phase) g.start

      full : is_nil (held_in slots g.done 0 high) ≡ false → r.0.seat ≡ m.0.seat → ⊥
      full p q =
          let a : held_in slots g.done 0 high ≡ [] = sym (ap (λ (t : Seat). t.held) g.start) ∙ (sym (ap (λ (t : Seat). t.held) q)
          ∙ (ap (λ (t : Seat). t.held) (goes_seat terms m r (holding m.0.seat g.phase Idle still) g.goes) ∙ nothing)) in
          let b : true ≡ false = sym (ap is_nil a) ∙ p in cc

      was : (i : ℕ) → m.0.seat.phase ≡ Voiding i → (is_nil (held_in slots g.done 0 high) ≡ true)
          ⊎ (is_nil (held_in slots g.done 0 high) ≡ false) → IsVoid r.0.seen i
      was i e (inl p) = absurd (idle_not_voiding i (sym (ap (λ (b : Bool). if b then Idle else g.phase) p) ∙ (sym stood ∙ e)))
      was i e (inr p) =
          let at : g.phase ≡ Voiding i = sym (ap (λ (b : Bool). if b then Idle else g.phase) p) ∙ (sym stood ∙ e) in
          ⊎_elim (λ (q : r ≡ m). absurd (full p (ap (λ (z : Mine S N). z.0.seat) q))) (λ (q : IsVoid r.0.seen i). q) (g.void i at)
