-- A pass is given up to another one: its seat rests, and its view stays among those that are gone.
use Rattle.std.proofs.Common.{◌≡◌, ◌≢◌, ℕ, suc, ◌+◌, ◌*◌, ◌^◌, ◌≤◌, ◌⊎◌, inl, inr, ⊎_elim, true, Some, None, List, [], ◌∷◌, ◌++◌, All, length, map, slice_get, slice_set, sym, refl, ap, ◌∙◌, subst, arith}
use mathlib.Core.Option.{some}
use lib.ListN.{get_elem?}
use Rattle.std.proofs.lemmas.List.{length-append, get_or_append_left, map-append}
use Rattle.std.proofs.lemmas.Option.{none-some}
use Rattle.atomic_table.specs.Table.{Joins}
use Rattle.atomic_table.proofs.Lists.{at_set, set_else}
use Rattle.tlcore.specs.Seats.{Seat, idle, number_at, find_held}
use Rattle.tlcore.specs.Machine.{World, with_seat}
use Rattle.tlcore.specs.Invariant.{Invariant, SeatOk, PhaseOk, Holds}
use Rattle.tlcore.proofs.Lists.{get-set_cases, get-set_other, same_or_not}
use Rattle.tlcore.specs.Seats.{is_resting}
use Rattle.tlcore.specs.declared.seats.Phase.{Phase}
use Rattle.tlcore.specs.declared.seats.Phase.TheVariants.{Idle, Reading}
use Rattle.tlcore.proofs.Words.{resting_at}
use Rattle.ranges.specs.Ranges.{Range, Has}
use Rattle.tlwords.specs.Terms.{Terms}
use Rattle.tlwords.specs.Seen.{Seen}
use Rattle.tlwords.specs.Views.{Gone, Staging, View, gone_of, untold, nobody}
use Rattle.tlwords.specs.Rule.{by_leaving, total_of, Start, IsTold, IsGone, rights_of, numbers_of, moved_of, added_of, Suits, Adds, IsTail, Shelf, Ruled}
use Rattle.tlwords.specs.Plays.{given_up}
use Rattle.tlwords.proofs.Paired.{set_same, map_set}
use Rattle.tlwords.proofs.Keeps.{now, seat_at, untold_is, total_set}
use Rattle.tlwords.proofs.OpenSteps.{blank_suits}

-- ---- a seat that holds nothing and has no number comes to rest

pub nothing_held : (t : Seat) (c : ℕ) → t.held ≡ [] → Holds t c → ⊥
nothing_held t c e h =
    let p : find_held c [] ≡ Some h.0 = ap (find_held c) (sym e) ∙ h.1 in
    none-some h.0 p

pub rested : (base : List ℕ) (w : World) (s : ℕ) (t : Seat) → Invariant base w → slice_get w.seats s ≡ Some t → t.held ≡ []
    → Invariant base (with_seat w s idle)
rested base w s t I at unheld = record {
  consistent = record {
    clock = I.consistent.clock;
    cells = I.consistent.cells;
    history = I.consistent.history;
    seats = λ z u there. ⊎_elim
        (λ (p : (z ≡ s) × (u ≡ idle)). subst (λ (u : Seat). SeatOk base w.cells w.history u) (sym p.1) idle_ok)
        (λ (p : (z ≢ s) × (slice_get w.seats z ≡ Some u)). I.consistent.seats z u p.1)
        (get-set_cases w.seats s z idle u there);
    held_apart = λ x z u v c k l p q a b. ⊎_elim
        (λ (f : (x ≡ s) × (u ≡ idle)). absurd (nothing_held u c (ap (λ (u : Seat). u.held) f.1) (k, a)))
        (λ (f : (x ≢ s) × (slice_get w.seats x ≡ Some u)). ⊎_elim
        (λ (g : (z ≡ s) × (v ≡ idle)). absurd (nothing_held v c (ap (λ (u : Seat). u.held) g.1) (l, b)))
        (λ (g : (z ≢ s) × (slice_get w.seats z ≡ Some v)). I.consistent.held_apart x z u v c k l f.1 g.1 a b)
        (get-set_cases w.seats s z idle v q))
        (get-set_cases w.seats s x idle u p);
    numbers_apart = λ x z u v i p q a b. ⊎_elim
        (λ (f : (x ≡ s) × (u ≡ idle)). absurd (none-some i (sym (ap (λ (u : Seat). number_at u.phase) f.1) ∙ a)))
        (λ (f : (x ≢ s) × (slice_get w.seats x ≡ Some u)). ⊎_elim
        (λ (g : (z ≡ s) × (v ≡ idle)). absurd (none-some i (sym (ap (λ (u : Seat). number_at u.phase) g.1) ∙ b)))
        (λ (g : (z ≢ s) × (slice_get w.seats z ≡ Some v)). I.consistent.numbers_apart x z u v i f.1 g.1 a b)
        (get-set_cases w.seats s z idle v q))
        (get-set_cases w.seats s x idle u p);
  };
  locked_are_held = λ c v x here locked.
      let b = I.locked_are_held c v x here locked in
      ⊎_elim
      (λ (p : b.0 ≡ s).
      let q : Some b.1 ≡ Some t = sym b.2 ∙ (ap (λ (z : ℕ). slice_get w.seats z) p ∙ at) in
      let e : b.1 ≡ t = cc in
      absurd (nothing_held b.1 c (ap (λ (u : Seat). u.held) e ∙ unheld) b.3))
      (λ (p : b.0 ≢ s). (b.0, b.1, get-set_other w.seats s b.0 idle p ∙ b.2, b.3))
      (same_or_not s b.0);
}
  where
    idle_ok : SeatOk base w.cells w.history idle
    idle_ok = record { phase = refl; rv = omega arith; reads = tt; held = λ c k e. absurd (cc) }

pub rests_unheld : (base : List ℕ) (w : World) (s : ℕ) (t : Seat) → Invariant base w → slice_get w.seats s ≡ Some t
    → is_resting t.phase ≡ true → t.held ≡ []
rests_unheld base w s t I at rest =
    let phase : PhaseOk base w.cells w.history t t.phase = (I.consistent.seats s t at).phase in
    ⊎_elim (λ (p : t.phase ≡ Idle). subst (λ (z : Phase). PhaseOk base w.cells w.history t z) p phase)
    (λ (p : t.phase ≡ Reading). subst (λ (z : Phase). PhaseOk base w.cells w.history t z) p phase) (resting_at t.phase rest)

-- ---- totals of two views that change

module _ {V : Type 0} (f : V → ℕ) (vs : List V) (id other : ℕ) (v b w n : V) where
  pub total_two : get_elem? vs id ≡ some v → get_elem? (slice_set vs id b) other ≡ some w
      → total_of f (slice_set (slice_set vs id b) other n) + (f v + f w) ≡ total_of f vs + (f b + f n)
  total_two at there =
      let p : total_of f (slice_set vs id b) + f v ≡ total_of f vs + f b = total_set f vs id v b at in
      let q : total_of f (slice_set (slice_set vs id b) other n) + f w ≡ total_of f (slice_set vs id b) + f n =
      total_set f (slice_set vs id b) other w n there in
      omega (arith, p, q)

  -- a view of the list is the last that was set, the first one, or one that was there
  pub at_two : (j : ℕ) (u : V) → get_elem? (slice_set (slice_set vs id b) other n) j ≡ some u
      → (n ≡ u) ⊎ ((b ≡ u) ⊎ (get_elem? vs j ≡ some u))
  at_two j u e = ⊎_elim
      (λ (p : (j ≡ other) × (n ≡ u)). inl p.1)
      (λ (p : (j ≢ other) × (get_elem? (slice_set vs id b) j ≡ some u)). ⊎_elim
      (λ (q : (j ≡ id) × (b ≡ u)). inr (inl q.1))
      (λ (q : (j ≢ id) × (get_elem? vs j ≡ some u)). inr (inr q.1))
      (at_set vs id j b u p.1))
      (at_set (slice_set vs id b) other j n u e)

module _ {S N : Type 0} (terms : Terms S N) (setting : S) (base : List ℕ) (room : ℕ) where
  module _ (opened : Start) (id : ℕ) (v : View S N) (other : ℕ) (w : View S N) where
    abbrev b : View S N
    b = given_up v w

    abbrev then : List (View S N) → List (View S N)
    then vs = slice_set (slice_set vs id b) other nobody

    -- what stages is what was there
    staged_before : (vs : List (View S N)) → get_elem? vs id ≡ some v → (j : ℕ) (u : View S N) (s : Staging)
        → get_elem? (then vs) j ≡ some u
        → u.staging ≡ Some s → (x : View S N) × (get_elem? vs j ≡ some x) × (x.staging ≡ Some s)
    staged_before vs at j u s e st = ⊎_elim
        (λ (p : (j ≡ other) × (nobody ≡ u)). absurd (no_staged (ap (λ (x : View S N). x.staging) p.1 ∙ st)))
        (λ (p : (j ≢ other) × (get_elem? (slice_set vs id b) j ≡ some u)). ⊎_elim
        (λ (q : (j ≡ id) × (b ≡ u)). (v, ap (λ (k : ℕ). get_elem? vs k) q.0 ∙ at, ap (λ (x : View S N). x.staging) q.1 ∙ st))
        (λ (q : (j ≢ id) × (get_elem? vs j ≡ some u)). (u, q.1, st))
        (at_set vs id j b u p.1))
        (at_set (slice_set vs id b) other j nobody u e)
      where
        no_staged : {A : Type 0} → None ≡ Some s → A
        no_staged e = absurd (cc)

    module _ (tail : ℕ) (vs : List (View S N)) (at : get_elem? vs id ≡ some v) (there : get_elem? (slice_set vs id b) other ≡ some w)
        (at_w : get_elem? vs other ≡ some w) (one : w.rights ≡ 1) (alone : w.gone ≡ []) where
      w_alone : (f : Gone S N → ℕ) → total_of f w.gone ≡ 0
      w_alone f = ap (total_of f) alone

      tail_then : (low : ℕ) → IsTail low room tail vs → IsTail low room tail (then vs)
      tail_then low h = record {
        is =
            let a : tail ≡ low + total_of moved_of vs = h.is in
            let p : total_of moved_of (then vs) + (moved_of v + moved_of w)
            ≡ total_of moved_of vs + (moved_of b + moved_of {S = S} {N = N} nobody) =
            total_two moved_of vs id other v b w nobody at there in
            let z : total_of (λ (g : Gone S N). g.taken + g.added) w.gone ≡ 0 = w_alone (λ (g : Gone S N). g.taken + g.added) in
            omega (arith, a, p, z);
        most =
            let a : tail ≤ room + total_of added_of vs = h.most in
            let p : total_of added_of (then vs) + (added_of v + added_of w)
            ≡ total_of added_of vs + (added_of b + added_of {S = S} {N = N} nobody) =
            total_two added_of vs id other v b w nobody at there in
            let z : total_of (λ (g : Gone S N). g.added) w.gone ≡ 0 = w_alone (λ (g : Gone S N). g.added) in
            omega (arith, a, p, z);
        each = λ j u e. ⊎_elim (λ (p : nobody ≡ u). subst (λ (x : View S N). Adds room tail x) p blank)
            (λ (p : (b ≡ u) ⊎ (get_elem? vs j ≡ some u)). ⊎_elim (λ (q : b ≡ u). subst (λ (x : View S N). Adds room tail x) q both)
            (λ (q : get_elem? vs j ≡ some u). h.each j u q) p) (at_two rights_of vs id other v b w nobody j u e);
      }
        where
          blank : Adds room tail (nobody {S = S} {N = N})
          blank = record {
            once = omega arith;
            unrefused = λ _. refl;
            found = λ n count e. absurd (cc);
            untaken = λ _. refl;
            gone = λ g has. absurd has;
          }

          both : Adds room tail b
          both =
              let f : Adds room tail v = h.each id v at in
              let k : Adds room tail w = h.each other w at_w in
              let few : w.added ≤ (room + 1) * w.rights = k.once in
              let most : w.added ≤ room + 1 =
              let a : w.added ≤ (room + 1) * 1 = subst (λ (n : ℕ). w.added ≤ (room + 1) * n) one few in omega (arith, a) in
              record {
                once = f.once;
                unrefused = f.unrefused;
                found = f.found;
                untaken = f.untaken;
                gone = λ g has. ⊎_elim
                    (λ (e : g ≡ gone_of w). (
                      (let a : g.added ≡ w.added = ap (λ (x : Gone S N). x.added) e in omega (arith, a, most)),
                      λ n count p. k.found n count (sym (ap (λ (x : Gone S N). x.full) e) ∙ p),
                    ))
                    (λ (more : Has g v.gone). f.gone g more) has;
              }

      shelf_then : (ranges : List Range) (store : List ℕ) → Shelf room opened.store ranges tail store vs
          → Shelf room opened.store ranges tail store (then vs)
      shelf_then ranges store h = record {
        long = h.long;
        small = h.small;
        left = h.left;
        tail_is = tail_then (length opened.store) h.tail_is;
        finished = h.finished;
        taken = λ j u s e st. let x = staged_before vs at j u s e st in h.taken j x.0 s x.1 x.2;
        apart = λ j u s r e st has. let x = staged_before vs at j u s e st in h.apart j x.0 s r x.1 x.2 has;
        alone = λ j k u x s t ne e f st tt2.
            let y = staged_before vs at j u s e st in
            let z = staged_before vs at k x t f tt2 in
            h.alone j k y.0 z.0 s t ne y.1 z.1 y.2 z.2;
      }

    -- the pass w, which is at rest, is given up to v
    pub gives_up : w.rights ≡ 1 → is_resting w.seat.phase ≡ true → w.gone ≡ []
        → Joins (Ruled terms setting base room opened) id v other w (given_up v w) nobody
    gives_up one rest alone s r at apart there =
        let ranges : List Range = r.ranges in
        let vs : List (View S N) = s.views in
        let k = r.kept in
        let g : Seen N = now terms setting base room ranges r.front vs k in
        let at_w : get_elem? vs other ≡ some w = sym (set_else vs id other b apart) ∙ there in
        let f : Suits terms setting base room g k.owner v = k.suits id v at in
        let q : Suits terms setting base room g k.owner w = k.suits other w at_w in
        let seat_v : slice_get (k.world).seats id ≡ Some v.seat = seat_at terms setting base room ranges r.front vs k id v at in
        let seat_w : slice_get (k.world).seats other ≡ Some w.seat = seat_at terms setting base room ranges r.front vs k other w at_w in
        let unheld : w.seat.held ≡ [] = rests_unheld base k.world other w.seat k.invariant seat_w rest in
        let plain : IsTold {S = S} setting base g k.owner untold = untold_is setting base g k.owner in
        let blank : Suits terms setting base room g k.owner nobody =
        blank_suits terms setting base room g k.owner nobody refl refl refl refl (λ x e. absurd (cc)) plain plain in
        let given : IsGone terms setting base g k.owner (gone_of w) =
        record { told = q.own; mine = q.mine; few = let a : length w.drawn ≤ 2 ^ 40 * w.rights = q.few in omega (arith, a, one) } in
        let suit : Suits terms setting base room g k.owner b = record {
          own = f.own;
          room_is = f.room_is;
          told = f.told;
          mine = f.mine;
          settled = f.settled;
          noted = f.noted;
          look = f.look;
          few = f.few;
          unheld = f.unheld;
          gone = λ x has. ⊎_elim (λ (e : x ≡ gone_of w). subst (λ (z : Gone S N). IsGone terms setting base g k.owner z) (sym e) given)
              (λ (more : Has x v.gone). f.gone x more) has;
        } in
        let all : length w.gone ≡ 0 = ap length alone in
        record {
          front = r.front;
          tail = r.tail;
          store = r.store;
          ranges = ranges;
          words_are = r.words_are;
          kept = record {
            world = with_seat k.world other idle;
            notes = k.notes;
            owner = k.owner;
            invariant = rested base k.world other w.seat k.invariant seat_w unheld;
            reached = by_leaving other w.seat k.reached seat_w rest;
            words_are = k.words_are;
            seats_are =
                map_set (λ (x : View S N). x.seat) (slice_set vs id b) other nobody
                ∙ (ap (λ (l : List Seat). slice_set l other idle) (map_set (λ (x : View S N). x.seat) vs id b
                ∙ (ap (λ (l : List Seat). slice_set l id v.seat) k.seats_are ∙ set_same (k.world).seats id v.seat seat_v)));
            cells_are = k.cells_are;
            notes_are = k.notes_are;
            entries = k.entries;
            opening = k.opening;
            named = k.named;
            lie = k.lie;
            suits = λ j u e. ⊎_elim (λ (p : nobody ≡ u). subst (λ (x : View S N). Suits terms setting base room g k.owner x) p blank)
                (λ (p : (b ≡ u) ⊎ (get_elem? vs j ≡ some u)). ⊎_elim
                (λ (p : b ≡ u). subst (λ (x : View S N). Suits terms setting base room g k.owner x) p suit)
                (λ (p : get_elem? vs j ≡ some u). k.suits j u p) p) (at_two rights_of vs id other v b w nobody j u e);
            rights =
                let a : total_of rights_of vs ≤ 64 = k.rights in
                let p : total_of rights_of (then vs) + (rights_of v + rights_of w)
                ≡ total_of rights_of vs + (rights_of b + rights_of {S = S} {N = N} nobody) =
                total_two rights_of vs id other v b w nobody at there in
                omega (arith, a, p, one, all);
            numbers =
                let a : total_of numbers_of vs ≡ length (k.world).history = k.numbers in
                let p : total_of numbers_of (then vs) + (numbers_of v + numbers_of w)
                ≡ total_of numbers_of vs + (numbers_of b + numbers_of {S = S} {N = N} nobody) =
                total_two numbers_of vs id other v b w nobody at there in
                let z : total_of (λ (g : Gone S N). length g.told.drawn) w.gone ≡ 0 =
                ap (total_of (λ (g : Gone S N). length g.told.drawn)) alone in
                omega (arith, a, p, z);
          };
          dealt =
              let p : total_of rights_of (then vs) + (rights_of v + rights_of w)
              ≡ total_of rights_of vs + (rights_of b + rights_of {S = S} {N = N} nobody) =
              total_two rights_of vs id other v b w nobody at there in
              let same : total_of rights_of (then vs) ≡ total_of rights_of vs = omega (arith, p, one, all) in
              same ∙ r.dealt;
          shelf = shelf_then r.tail vs at there at_w one alone ranges r.store r.shelf;
        }

-- ---- lists of passes

pub all_front : {X : Type 0} (P : X → Type 0) (xs ys : List X) → All P (xs ++ ys) → All P xs
all_front P xs ys all k d l =
    let n : length (xs ++ ys) ≡ length xs + length ys = length-append xs ys in
    subst P (get_or_append_left xs ys d k l) (all k d (omega (arith, n, l)))

pub all_last : {X : Type 0} (P : X → Type 0) (xs : List X) (y : X) → All P (xs ++ y ∷ []) → P y
all_last P [] y all = all 0 y (omega arith)
all_last P (x ∷ xs) y all = all_last P xs y (λ k d l. all (suc k) d (omega (arith, l)))

-- ---- what a seat knows as passes are given up to it

move_one : {A : Type 0} (xs : List A) (y : A) (zs : List A) → xs ++ y ∷ zs ≡ (xs ++ y ∷ []) ++ zs
move_one [] y zs = refl
move_one {A} (x ∷ xs) y zs = ap (λ (l : List A). x ∷ l) (move_one xs y zs)

module _ {S N : Type 0} where
  pub given_more : (a b n w : View S N) → b ≡ record a { gone = b.gone } → n ≡ given_up b w → n ≡ record a { gone = n.gone }
  given_more a b n w p q =
      q ∙ (ap (λ (v : View S N). let x : View S N = record v { gone = gone_of w ∷ b.gone } in x) p
      ∙ ap (λ (gs : List (Gone S N)). let x : View S N = record a { gone = gs } in x) (sym (ap (λ (v : View S N). v.gone) q)))

  pub gone_more : {P : Type 0} (f : P → Gone S N) (before ps : List P) (p : P) (gs hs later : List (Gone S N)) → before ≡ ps ++ p ∷ []
      → map f before ++ gs ≡ hs → later ≡ f p ∷ gs → map f ps ++ later ≡ hs
  gone_more {P} f before ps p gs hs later e i q =
      ap (λ (l : List (Gone S N)). map f ps ++ l) q
      ∙ (move_one (map f ps) (f p) gs
      ∙ (ap (λ (l : List (Gone S N)). l ++ gs) (sym (ap (λ (l : List P). map f l) e ∙ map-append f ps (p ∷ []))) ∙ i))
