-- Loads of the spare word, and seats that are made of one another or told of one another.
use Rattle.std.proofs.Common.{◌≡◌, ◌≢◌, ℕ, suc, ◌+◌, ◌-◌, ◌≤◌, inl, ⊎_elim, Some, None, List, [], ◌∷◌, ◌++◌, length, map, slice_get}
use Rattle.std.proofs.Common.{slice_set, slice_index, sym, refl, ap, ◌∙◌, subst, arith}
use mathlib.Core.Option.{none, some}
use lib.ListN.{get_elem?}
use Rattle.std.proofs.lemmas.List.{set-get_or}
use Rattle.atomic_table.specs.Table.{step, Allows, Splits, Joins}
use Rattle.atomic_table.proofs.Lists.{at_set, at_snoc, set_else}
use Rattle.tlcore.specs.Seats.{Seat, idle, reads_of}
use Rattle.tlcore.specs.Machine.{World}
use Rattle.tlcore.specs.Invariant.{SeatOk}
use Rattle.tlcore.proofs.Laws.{idle_seat_keeps}
use Rattle.tlcore.proofs.SeatParts.{ReadsOk-one}
use Rattle.tlcore.specs.declared.seats.Phase.TheVariants.{Idle}
use Rattle.tlcore.proofs.Words.{is_looking, not_looking}
use Rattle.ranges.specs.Ranges.{Range, Has}
use Rattle.tlwords.specs.Terms.{Terms, Permits}
use Rattle.tlwords.specs.Seen.{Work, Call, Answered, Seen, Agree}
use Rattle.tlwords.specs.Views.{Gone, View, tells, untold, nobody}
use Rattle.tlwords.specs.Rule.{by_joining, total_of, Start, IsTold, rights_of, numbers_of, Suits, Ruled}
use Rattle.tlwords.specs.Plays.{Mine, Sees, recalled, refreshed, witness, told_by, newcomer, bare}
use Rattle.tlwords.proofs.Reaching.{Follows, by_none}
use Rattle.tlwords.proofs.Paired.{set_same, map_set, word_count}
use Rattle.tlwords.proofs.Seens.{agree_snoc, permits_grow}
use Rattle.tlwords.proofs.Shelves.{dealt_same, shelf_same, shelf_shared}
use Rattle.tlwords.proofs.Lifts.{lifted}
use Rattle.tlwords.proofs.Keeps.{moves_of, Rule, now, seat_at, seat_ok, moved, goes, untold_is, total_set}
use Rattle.tlwords.proofs.ReadSteps.{no_number}
use Rattle.tlwords.proofs.Once.{nothing_drawn}

module _ {S N : Type 0} (terms : Terms S N) (setting : S) (base : List ℕ) (room : ℕ) where
  -- ---- loads of the spare word

  rests : (ranges : List Range) (ws : List ℕ) (vs : List (View S N)) (r : Rule terms setting base room ranges ws vs) (id : ℕ) (v : View S N)
      → get_elem? vs id ≡ some v
      → (mine : List (Call N)) → (Agree terms setting base (now terms setting base room ranges ws vs r) v.mine
      → Agree terms setting base (now terms setting base room ranges ws vs r) mine)
      → Rule terms setting base room ranges (slice_set ws 0 (slice_index ws 0))
      (slice_set vs id (record v { seen = now terms setting base room ranges ws vs r; mine = mine }))
      × Sees terms v (record v { seen = now terms setting base room ranges ws vs r; mine = mine })
  rests ranges ws vs r id v at mine calls =
      let w : World = r.world in
      let f : Suits terms setting base room (now terms setting base room ranges ws vs r) r.owner v = r.suits id v at in
      let e : slice_get w.seats id ≡ Some v.seat = seat_at terms setting base room ranges ws vs r id v at in
      let same : Follows base w w = by_none base w r.invariant in
      goes terms setting base room ranges ws vs r id v at
      (slice_set ws 0 (slice_index ws 0)) w v.seat mine v.told r.named same
      (sym (set_same w.seats id v.seat e)) (set-get_or ws 0 0 ∙ r.words_are) refl refl calls f.told (λ i a. inl a) (λ i a. a) f.look
      (λ _ b. b)

  pub refreshes : (opened : Start) (slots id : ℕ) (me : Mine S N)
      → Allows (Ruled terms setting base room opened) slots id me 0 (λ n. n) (bare (refreshed terms) (step slots 0 0 0 none) me)
  refreshes opened slots id me =
      lifted terms setting base room opened slots id 0 me (λ n. n)
      (refreshed terms (step slots 0 0 0 none) me) λ ranges ws vs r at.
      let q = rests ranges ws vs r id me.0 at me.0.mine (λ a. a) in (
        (let l = word_count ws r.world r.words_are in omega arith),
        record me.0 { seen = now terms setting base room ranges ws vs r },
        (refl, refl, refl),
        q.0,
        record { sees = q.1; is = refl },
      )

  pub recalls : (opened : Start) (slots id : ℕ) (me : Mine S N) (y : S) (note : N) → me.0.setting ≡ Some y
      → Permits terms y me.0.seen.ranges (reads_of me.0.seat.reads) [] note
      → Allows (Ruled terms setting base room opened) slots id me 0 (λ n. n) (bare (recalled terms (Some note)) (step slots 0 0 0 none) me)
  recalls opened slots id me y note set law =
      lifted terms setting base room opened slots id 0 me (λ n. n)
      (recalled terms (Some note) (step slots 0 0 0 none) me) λ ranges ws vs r at.
      let v : View S N = me.0 in
      let t : Seat = v.seat in
      let h : Seen N = now terms setting base room ranges ws vs r in
      let f : Suits terms setting base room h r.owner v = r.suits id v at in
      let ok : SeatOk base (r.world).cells (r.world).history t = seat_ok terms setting base room ranges ws vs r id v at in
      let work : Work N = record { reads = reads_of t.reads; writes = []; note = note } in
      let q = rests ranges ws vs r id v at (v.mine ++ Answered t.rv work ∷ [])
      (λ a. agree_snoc terms setting base h v.mine (Answered t.rv work) a (
        ok.rv,
        refl,
        permits_grow terms setting v.seen.ranges ranges f.own.grows.2
            (subst (λ (x : S). Permits terms x v.seen.ranges (reads_of t.reads) [] note) (f.own.setting_is y set).0 law),
        ReadsOk-one base (r.world).history t.rv t.reads ok.reads,
      )) in (
        (let l = word_count ws r.world r.words_are in omega arith),
        record v { seen = h; mine = v.mine ++ Answered t.rv work ∷ [] },
        (refl, refl, refl),
        q.0,
        record {
          sees = q.1;
          is = λ x a.
              let b : note ≡ x = cc in
              ap (λ (k : N). let u : View S N = record v {
                seen = h;
                mine =
                    v.mine ++ Answered t.rv (record { reads = reads_of t.reads; writes = []; note = k }) ∷ [];
              } in u) b;
        },
      )

  -- ---- seats

  total_append : (f : View S N → ℕ) (vs : List (View S N)) (u : View S N) → total_of f (vs ++ u ∷ []) ≡ total_of f vs + f u
  total_append f [] u = omega arith
  total_append f (v ∷ vs) u = let r : total_of f (vs ++ u ∷ []) ≡ total_of f vs + f u = total_append f vs u in omega (arith, r)

  map_snoc : (vs : List (View S N)) (u : View S N) → map (λ (x : View S N). x.seat) (vs ++ u ∷ [])
      ≡ map (λ (x : View S N). x.seat) vs ++ u.seat ∷ []
  map_snoc [] u = refl
  map_snoc (v ∷ vs) u = ap (λ (l : List Seat). v.seat ∷ l) (map_snoc vs u)

  -- the seat id goes on with the view w, and a new, idle seat has the view u
  shared : (ranges : List Range) (ws : List ℕ) (vs : List (View S N)) (r : Rule terms setting base room ranges ws vs) (id : ℕ)
      (v w u : View S N) → get_elem? vs id ≡ some v
      → Suits terms setting base room (now terms setting base room ranges ws vs r) r.owner w
      → Suits terms setting base room (now terms setting base room ranges ws vs r) r.owner u
      → w.seat ≡ v.seat → u.seat ≡ idle → rights_of w + rights_of u ≡ rights_of v → numbers_of w + numbers_of u ≡ numbers_of v
      → Rule terms setting base room ranges ws (slice_set vs id w ++ u ∷ [])
  shared ranges ws vs r id v w u at suit_w suit_u same idles rights count =
      let g : Seen N = now terms setting base room ranges ws vs r in
      let e : slice_get (r.world).seats id ≡ Some v.seat = seat_at terms setting base room ranges ws vs r id v at in
      record {
        world = record (r.world) { seats = (r.world).seats ++ idle ∷ [] };
        notes = r.notes;
        owner = r.owner;
        invariant = idle_seat_keeps base (r.world) r.invariant;
        reached = by_joining r.reached;
        words_are = r.words_are;
        seats_are =
            map_snoc (slice_set vs id w) u
            ∙ (λ j. (map_set (λ (x : View S N). x.seat) vs id w
            ∙ (ap (λ (l : List Seat). slice_set l id w.seat) r.seats_are
            ∙ (ap (λ (t : Seat). slice_set (r.world).seats id t) same ∙ set_same (r.world).seats id v.seat e))) j
            ++ idles j ∷ []);
        cells_are = r.cells_are;
        notes_are = r.notes_are;
        entries = r.entries;
        opening = r.opening;
        named = r.named;
        lie = r.lie;
        suits = λ j x there. ⊎_elim
            (λ (p : get_elem? (slice_set vs id w) j ≡ some x). ⊎_elim
            (λ (t : (j ≡ id) × (w ≡ x)). subst (λ (z : View S N). Suits terms setting base room g r.owner z) t.1 suit_w)
            (λ (t : (j ≢ id) × (get_elem? vs j ≡ some x)). r.suits j x t.1) (at_set vs id j w x p))
            (λ (p : u ≡ x). subst (λ (z : View S N). Suits terms setting base room g r.owner z) p suit_u)
            (at_snoc (slice_set vs id w) u x j there);
        rights =
            let a : total_of rights_of (slice_set vs id w ++ u ∷ []) ≡ total_of rights_of (slice_set vs id w) + rights_of u =
            total_append rights_of (slice_set vs id w) u in
            let b : total_of rights_of (slice_set vs id w) + rights_of v ≡ total_of rights_of vs + rights_of w =
            total_set rights_of vs id v w at in
            let c : total_of rights_of vs ≤ 64 = r.rights in
            omega (arith, a, b, c, rights);
        numbers =
            let a : total_of numbers_of (slice_set vs id w ++ u ∷ []) ≡ total_of numbers_of (slice_set vs id w) + numbers_of u =
            total_append numbers_of (slice_set vs id w) u in
            let b : total_of numbers_of (slice_set vs id w) + numbers_of v ≡ total_of numbers_of vs + numbers_of w =
            total_set numbers_of vs id v w at in
            let c : total_of numbers_of vs ≡ length (r.world).history = r.numbers in
            omega (arith, a, b, c, count);
      }

  -- an idle seat without numbers and calls suits, whatever it was told
  pub blank_suits : (g : Seen N) (owner : ℕ → ℕ) (v : View S N) → v.seat ≡ idle → v.mine ≡ [] → v.drawn ≡ [] → v.gone ≡ []
      → ((x : S) → v.setting ≡ Some x → v.room ≡ room) → IsTold setting base g owner (tells v) → IsTold setting base g owner v.told
      → Suits terms setting base room g owner v
  blank_suits g owner v idles calls undrawn none_gone same_room own told =
      let place : v.seat.phase ≡ Idle = ap (λ (t : Seat). t.phase) idles in
      record {
        own = own;
        room_is = same_room;
        told = told;
        mine = subst (λ (cs : List (Call N)). Agree terms setting base g cs) (sym calls) tt;
        settled = λ i has. absurd (subst (λ (ns : List ℕ). Has (suc i) ns) undrawn has);
        noted = λ i a. absurd (no_number v.seat.phase Idle i place refl a);
        look = λ c word value a. absurd (not_looking v.seat.phase (ap is_looking place) c word value a);
        few = let a : length v.drawn ≡ 0 = ap length undrawn in omega (arith, a);
        unheld = λ _. ap (λ (t : Seat). t.held) idles;
        gone = λ x has. absurd (subst (λ (gs : List (Gone S N)). Has x gs) none_gone has);
      }

  dealt_shared : (vs : List (View S N)) (id : ℕ) (v w u : View S N) → get_elem? vs id ≡ some v → rights_of w + rights_of u ≡ rights_of v
      → total_of rights_of (slice_set vs id w ++ u ∷ []) ≡ total_of rights_of vs
  dealt_shared vs id v w u at rights =
      let a : total_of rights_of (slice_set vs id w ++ u ∷ []) ≡ total_of rights_of (slice_set vs id w) + rights_of u =
      total_append rights_of (slice_set vs id w) u in
      let b : total_of rights_of (slice_set vs id w) + rights_of v ≡ total_of rights_of vs + rights_of w =
      total_set rights_of vs id v w at in
      omega (arith, a, b, rights)

  pub notes : (opened : Start) (id : ℕ) (v : View S N) → Splits (Ruled terms setting base room opened) id v v (witness v)
  notes opened id v s r at =
      let ranges : List Range = r.ranges in
      let ws : List ℕ = r.front in
      let g : Seen N = now terms setting base room ranges ws s.views r.kept in
      let f : Suits terms setting base room g (r.kept).owner v = (r.kept).suits id v at in
      let plain : IsTold {S = S} setting base g (r.kept).owner untold = untold_is setting base g (r.kept).owner in
      record {
        front = ws;
        tail = r.tail;
        store = r.store;
        ranges = ranges;
        words_are = r.words_are;
        kept = shared ranges ws s.views r.kept id v v (witness v) at f
            (blank_suits g (r.kept).owner (witness v) refl refl refl refl (λ x e. absurd (cc)) plain f.own) refl refl (omega arith)
            (omega arith);
        dealt = dealt_shared s.views id v v (witness v) at (omega arith) ∙ r.dealt;
        shelf =
            let a = (r.shelf).tail_is.each id v at in
            shelf_shared room opened.store r.tail ranges r.store s.views id v v (witness v) r.shelf at refl refl a.once a.untaken
            (refl, refl);
      }

  pub deals : (opened : Start) (id : ℕ) (v : View S N) → v.drawn ≡ [] → 1 ≤ v.rights → v.full ≡ None → v.taken ≡ 0 → v.seat ≡ idle
      → v.gone ≡ []
      → Splits (Ruled terms setting base room opened) id v (record v { rights = v.rights - 1 }) (newcomer v)
  deals opened id v none_drawn some_rights unrefused untaken idles none_gone s r at =
      let ranges : List Range = r.ranges in
      let ws : List ℕ = r.front in
      let g : Seen N = now terms setting base room ranges ws s.views r.kept in
      let f : Suits terms setting base room g (r.kept).owner v = (r.kept).suits id v at in
      let count : length v.drawn ≡ 0 = ap length none_drawn in
      let plain : IsTold {S = S} setting base g (r.kept).owner untold = untold_is setting base g (r.kept).owner in
      let left : View S N = record v { rights = v.rights - 1 } in
      let suit : Suits terms setting base room g (r.kept).owner left = record {
        own = f.own;
        room_is = f.room_is;
        told = f.told;
        mine = f.mine;
        settled = f.settled;
        noted = f.noted;
        look = f.look;
        few = omega (arith, count);
        unheld = λ _. ap (λ (t : Seat). t.held) idles;
        gone = f.gone;
      } in
      let new : IsTold setting base g (r.kept).owner (tells (newcomer v)) = record {
        setting_is = f.own.setting_is;
        grows = (plain.grows.0, plain.grows.1, f.own.grows.2);
        owned = λ n has. absurd has;
        once = nothing_drawn;
      } in
      record {
        front = ws;
        tail = r.tail;
        store = r.store;
        ranges = ranges;
        words_are = r.words_are;
        kept = shared ranges ws s.views r.kept id v left (newcomer v) at suit
            (blank_suits g (r.kept).owner (newcomer v) refl refl refl refl f.room_is new plain) refl refl (omega (arith, some_rights))
            (omega arith);
        dealt = dealt_shared s.views id v left (newcomer v) at (omega (arith, some_rights)) ∙ r.dealt;
        shelf = shelf_shared room opened.store r.tail ranges r.store s.views id v left (newcomer v) r.shelf at refl refl
            (let none : v.added ≡ 0 = ((r.shelf).tail_is.each id v at).unrefused unrefused in omega (arith, none)) (λ _. untaken)
            (refl, refl);
      }

  -- a view changes, and its seat, its rights and the count of its numbers stay
  changed : (ranges : List Range) (ws : List ℕ) (vs : List (View S N)) (r : Rule terms setting base room ranges ws vs) (id : ℕ)
      (v w : View S N) → get_elem? vs id ≡ some v
      → Suits terms setting base room (now terms setting base room ranges ws vs r) r.owner w → w.seat ≡ v.seat → rights_of w ≡ rights_of v
      → numbers_of w ≡ numbers_of v
      → Rule terms setting base room ranges ws (slice_set vs id w)
  changed ranges ws vs r id v w at suit same rights count =
      let e : slice_get (r.world).seats id ≡ Some v.seat = seat_at terms setting base room ranges ws vs r id v at in
      moved terms setting base room ranges ws vs r id v w at ranges ws r.world r.notes r.owner (λ x has. has) r.lie r.named
      (by_none base r.world r.invariant)
      (sym (ap (λ (t : Seat). slice_set (r.world).seats id t) same ∙ set_same (r.world).seats id v.seat e)) r.words_are refl
      (λ i n a. a) r.notes_are r.entries
      (λ n l. refl) suit rights (omega (arith, count))

  pub joins : (opened : Start) (id : ℕ) (v : View S N) (other : ℕ) (w : View S N) → w.seat ≡ idle → w.rights ≡ 0 → w.drawn ≡ []
      → w.staging ≡ None
      → moves_of w ≡ (None, 0, 0, []) → Joins (Ruled terms setting base room opened) id v other w (told_by v w) nobody
  joins opened id v other w idles no_rights none_drawn unstaged unmoved s r at apart there =
      let ranges : List Range = r.ranges in
      let ws : List ℕ = r.front in
      let b : View S N = told_by v w in
      let g : Seen N = now terms setting base room ranges ws s.views r.kept in
      let f : Suits terms setting base room g (r.kept).owner v = (r.kept).suits id v at in
      let at_w : get_elem? s.views other ≡ some w = sym (set_else s.views id other b apart) ∙ there in
      let k : Suits terms setting base room g (r.kept).owner w = (r.kept).suits other w at_w in
      let suit : Suits terms setting base room g (r.kept).owner b = record {
        own = f.own;
        room_is = f.room_is;
        told = k.told;
        mine = f.mine;
        settled = f.settled;
        noted = f.noted;
        look = f.look;
        few = f.few;
        unheld = f.unheld;
        gone = f.gone;
      } in
      let vs : List (View S N) = slice_set s.views id b in
      let first : Rule terms setting base room ranges ws vs = changed ranges ws s.views r.kept id v b at suit refl refl refl in
      let g' : Seen N = now terms setting base room ranges ws vs first in
      let plain : IsTold {S = S} setting base g' first.owner untold = untold_is setting base g' first.owner in
      record {
        front = ws;
        tail = r.tail;
        store = r.store;
        ranges = ranges;
        words_are = r.words_are;
        kept = changed ranges ws vs first other w nobody there
            (blank_suits g' first.owner nobody refl refl refl refl (λ x e. absurd (cc)) plain plain) (sym idles)
            (let a : w.rights ≡ 0 = no_rights in let b : length w.gone ≡ 0 = ap (λ m. length m.3) unmoved in omega (arith, a, b))
            (let a : length w.drawn ≡ 0 = ap length none_drawn in
            let b : total_of (λ (g : Gone S N). length g.told.drawn) w.gone ≡ 0 =
            ap (λ m. total_of (λ (g : Gone S N). length g.told.drawn) m.3) unmoved in
            omega (arith, a, b));
        dealt =
            let a : length w.gone ≡ 0 = ap (λ m. length m.3) unmoved in
            dealt_same vs other w nobody there (omega (arith, a, no_rights)) ∙ (dealt_same s.views id v b at refl ∙ r.dealt);
        shelf = shelf_same room opened.store r.tail ranges r.store vs other w nobody
            (shelf_same room opened.store r.tail ranges r.store s.views id v b r.shelf at (refl, refl, refl)) there
            (sym unstaged, sym unmoved, sym no_rights);
      }
