-- Each step of a seat keeps the rule.
use Rattle.std.proofs.Common.{◌≡◌, ◌≢◌, ℕ, zero, suc, ◌+◌, ◌<◌, ◌≤◌, ◌⊎◌, inl, inr, ⊎_elim, Option, Some, List, [], ◌∷◌, length, slice_get, slice_set, slice_index, sym, refl, ap, ◌∙◌, subst, arith, true}
use mathlib.Core.Option.{some, some-injective, some-ne-none}
use lib.ListN.{get_elem?}
use Rattle.atomic_table.proofs.Lists.{at_set}
use Rattle.tlcore.specs.History.{One}
use Rattle.tlcore.specs.Seats.{Seat, number_at, reads_of}
use Rattle.tlcore.specs.Machine.{World}
use Rattle.tlcore.specs.Invariant.{Invariant, SeatOk}
use Rattle.tlcore.proofs.Lists.{get-set_same}
use Rattle.tlcore.proofs.SeatParts.{ReadsOk-one}
use Rattle.tlcore.specs.declared.cells.Cell.{Cell}
use Rattle.ranges.specs.Ranges.{Range, Has, Within, Names, AreOfOneStore}
use Rattle.tlwords.specs.Terms.{Terms, Permits, Opened}
use Rattle.tlwords.specs.Seen.{Call, Seen, SeenGrows, NotesGrow, IsSettled, Legal, Agree}
use Rattle.tlwords.specs.Views.{Told, Gone, View, tells, untold, Sound}
use Rattle.tlwords.specs.Layout.{words_of}
use Rattle.tlwords.specs.Rule.{total_of, LookIsFresh, EntriesAre, IsTold, IsGone, rights_of, numbers_of, Suits, Kept}
use Rattle.tlwords.specs.Plays.{Mine, Sees}
use Rattle.tlwords.proofs.Reaching.{Follows}
use Rattle.tlwords.proofs.Seens.{settled_grows, look_grows, seen_refl, seen_trans, agree_grows, entries_grow}
use Rattle.tlwords.proofs.Paired.{get_same, get_map, map_set}
use Rattle.tlwords.proofs.Once.{nothing_drawn}

pub total_set : {V : Type 0} (f : V → ℕ) (vs : List V) (id : ℕ) (v w : V) → get_elem? vs id ≡ some v
    → total_of f (slice_set vs id w) + f v ≡ total_of f vs + f w
total_set f [] id v w at = absurd (some-ne-none v (sym at))
total_set f (u ∷ vs) zero v w at = let e : f u ≡ f v = ap f (some-injective u v at) in omega arith
total_set f (u ∷ vs) (suc id) v w at =
    let r : total_of f (slice_set vs id w) + f v ≡ total_of f vs + f w = total_set f vs id v w at in omega (arith, r)

pub set_here : {A : Type 0} (xs : List A) (i : ℕ) (x y : A) → get_elem? xs i ≡ some x → get_elem? (slice_set xs i y) i ≡ some y
set_here [] i x y e = absurd (some-ne-none x (sym e))
set_here (z ∷ xs) zero x y e = refl
set_here (z ∷ xs) (suc i) x y e = set_here xs i x y e

module _ {S N : Type 0} (setting : S) (base : List ℕ) where
  -- what one pass tells stays so
  pub told_grows : (g h : Seen N) (owner later : ℕ → ℕ) (t : Told S N) → SeenGrows g h
      → ((n : ℕ) → n ≤ length g.history → later n ≡ owner n) → IsTold setting base g owner t → IsTold setting base h later t
  told_grows g h owner later t r same f =
      let l : length g.history ≤ length h.history = r.0.0 in
      record {
        setting_is = f.setting_is;
        grows = seen_trans t.seen g h f.grows r;
        owned = λ n has.
            let b : (n ≤ length g.history) × (owner n ≡ t.name) = f.owned n has in
            let m : n ≤ length g.history = b.0 in
            (omega (arith, l, m), same n m ∙ b.1);
        once = f.once;
      }

  pub untold_is : (g : Seen N) (owner : ℕ → ℕ) → IsTold {S = S} setting base g owner untold
  untold_is g owner =
      record {
        setting_is = λ x e. absurd (cc);
        grows =
            ((omega arith, λ i e p. absurd (cc)), λ i n p. absurd (cc), λ r has. absurd has);
        owned = λ n has. absurd has;
        once =
            nothing_drawn;
      }

-- how far a pass has moved the tail, its refusal, and the passes that were given up to it
abbrev pub moves_of : {S N : Type 0} → View S N → Option (ℕ × ℕ) × ℕ × ℕ × List (Gone S N)
moves_of v = (v.full, v.taken, v.added, v.gone)

module _ {S N : Type 0} (terms : Terms S N) (setting : S) (base : List ℕ) (room : ℕ) where
  abbrev pub Rule : List Range → List ℕ → List (View S N) → Type 0
  Rule = Kept terms setting base room

  -- the two have the same range and the same refusal, have moved the tail as far, and have as many parts of the right to draw
  abbrev pub IsSameShelf : View S N → View S N → Type 0
  IsSameShelf v w = (w.staging ≡ v.staging) × (moves_of w ≡ moves_of v) × (w.rights ≡ v.rights)

  -- whatever the front is when its word i becomes f of what it was, the seat has a new view that keeps the front's rule and touches nothing
  -- of the store, and `then` holds of the number found and of the seat after
  abbrev pub AllowsFront : ℕ → Mine S N → ℕ → (ℕ → ℕ) → (ℕ → Mine S N → Type 0) → Type 0
  AllowsFront id me i f then =
      (ranges : List Range) (ws : List ℕ) (vs : List (View S N)) → Rule ranges ws vs → get_elem? vs id ≡ some me.0
      → (i < length ws) × (u : View S N) × IsSameShelf me.0 u × Rule ranges (slice_set ws i (f (slice_index ws i))) (slice_set vs id u)
      × then (slice_index ws i) (u, me.1)

  -- what stays of passes that were given up stays so
  pub gone_grows : (g h : Seen N) (owner later : ℕ → ℕ) (gs : List (Gone S N)) → SeenGrows g h
      → ((n : ℕ) → n ≤ length g.history → later n ≡ owner n)
      → ((x : Gone S N) → Has x gs → IsGone terms setting base g owner x) → (x : Gone S N) → Has x gs → IsGone terms setting base h later x
  gone_grows g h owner later gs r same f x has = record {
    told = told_grows setting base g h owner later x.told r same (f x has).told;
    mine = agree_grows terms setting base g h x.mine r (f x has).mine;
    few = (f x has).few;
  }

  suits_grow : (g h : Seen N) (owner later : ℕ → ℕ) (v : View S N) → SeenGrows g h
      → ((n : ℕ) → n ≤ length g.history → later n ≡ owner n) → v.seat.rv ≤ length g.history
      → Suits terms setting base room g owner v → Suits terms setting base room h later v
  suits_grow g h owner later v r same l f =
      record {
        own = told_grows setting base g h owner later (tells v) r same f.own;
        room_is = f.room_is;
        told = told_grows setting base g h owner later v.told r same f.told;
        mine = agree_grows terms setting base g h v.mine r f.mine;
        settled = λ i has. ⊎_elim (λ p. inl p) (λ p. inr (settled_grows g.history h.history i r.0 p)) (f.settled i has);
        noted = λ i p. let b : (n : N) × (v.note ≡ Some n) × (slice_get g.notes i ≡ Some n) = f.noted i p in (b.0, b.1, r.1 i b.0 b.2);
        look = look_grows g.history h.history v.seat r.0 l f.look;
        few = f.few;
        unheld = f.unheld;
        gone = gone_grows g h owner later v.gone r same f.gone;
      }

  pub legal_of : (ranges : List Range) (world : World) (notes : List N) → Invariant base world
      → EntriesAre terms setting (record { history = world.history; notes = notes; ranges = ranges })
      → Legal terms setting base (record { history = world.history; notes = notes; ranges = ranges })
  legal_of ranges world notes I entries i w d =
      let a : Permits terms setting ranges (d.entry).reads (d.entry).writes w.note × ((d.entry).writes ≢ []) =
      entries i d.entry w.note d.here d.note in
      let o : One base world.history i (d.entry).reads = I.consistent.history i d.entry d.here d.done in (
        subst (λ (z : List (ℕ × ℕ) × List (ℕ × ℕ)). Permits terms setting ranges z.0 z.1 w.note) (λ j. (d.reads j, d.writes j)) a.0,
        λ e. a.1 (d.writes ∙ e),
        subst (λ (z : List (ℕ × ℕ)). One base world.history i z) d.reads o,
      )

  -- a view that has seen the whole history is sound
  pub sound_of : (ranges : List Range) (world : World) (notes : List N) (owner : ℕ → ℕ) (id : ℕ) (v : View S N) → Invariant base world
      → length notes ≡ length world.history
      → EntriesAre terms setting (record { history = world.history; notes = notes; ranges = ranges }) → Opened terms setting ranges base
      → AreOfOneStore room ranges
      → Suits terms setting base room (record { history = world.history; notes = notes; ranges = ranges }) owner v
      → slice_get world.seats id ≡ Some v.seat
      → v.seen ≡ record { history = world.history; notes = notes; ranges = ranges } → Sound terms v
  sound_of ranges world notes owner id v I noted entries opening lie f at is =
      let g : Seen N = record { history = world.history; notes = notes; ranges = ranges } in
      let ok : SeatOk base world.cells world.history v.seat = I.consistent.seats id v.seat at in
      record {
        placed = subst (λ (g : Seen N). v.seat.rv ≤ length g.history) (sym is) ok.rv;
        one = λ x e.
            let b : (x ≡ setting) × (v.base ≡ base) = f.own.setting_is x e in
            subst (λ (g : Seen N). One v.base g.history v.seat.rv (reads_of v.seat.reads)) (sym is)
            (subst (λ (o : List ℕ). One o world.history v.seat.rv (reads_of v.seat.reads)) (sym b.1)
            (ReadsOk-one base world.history v.seat.rv v.seat.reads ok.reads));
        legal = λ x e.
            let b : (x ≡ setting) × (v.base ≡ base) = f.own.setting_is x e in
            subst (λ (g : Seen N). Legal terms x v.base g) (sym is)
            (subst (λ (z : S × List ℕ). Legal terms z.0 z.1 g) (λ j. (sym b.0 j, sym b.1 j)) (legal_of ranges world notes I entries));
        noted = subst (λ (g : Seen N). length g.notes ≡ length g.history) (sym is) noted;
        mine = λ x e.
            let b : (x ≡ setting) × (v.base ≡ base) = f.own.setting_is x e in
            subst (λ (g : Seen N). Agree terms x v.base g v.mine) (sym is)
            (subst (λ (z : S × List ℕ). Agree terms z.0 z.1 g v.mine) (λ j. (sym b.0 j, sym b.1 j)) f.mine);
        opening = λ x e.
            let b : (x ≡ setting) × (v.base ≡ base) = f.own.setting_is x e in
            subst (λ (g : Seen N). Opened terms x g.ranges v.base) (sym is)
            (subst (λ (z : S × List ℕ). Opened terms z.0 ranges z.1) (λ j. (sym b.0 j, sym b.1 j)) opening);
        ranges = λ x e.
            subst (λ (g : Seen N). AreOfOneStore v.room g.ranges) (sym is)
            (subst (λ (k : ℕ). AreOfOneStore k ranges) (sym (f.room_is x e)) lie);
        settled = λ i has. subst (λ (g : Seen N). (number_at v.seat.phase ≡ Some i) ⊎ IsSettled g.history i) (sym is) (f.settled i has);
      }

  module _ (ranges : List Range) (ws : List ℕ) (vs : List (View S N)) (r : Rule ranges ws vs) where
    abbrev pub now : Seen N
    now = record { history = r.world.history; notes = r.notes; ranges = ranges }

    pub seat_at : (id : ℕ) (v : View S N) → get_elem? vs id ≡ some v → slice_get (r.world).seats id ≡ Some v.seat
    seat_at id v at =
        ap (λ (l : List Seat). slice_get l id) (sym r.seats_are) ∙ get_map (λ (u : View S N). u.seat) vs id v (get_same vs id v at)

    pub seat_ok : (id : ℕ) (v : View S N) → get_elem? vs id ≡ some v → SeatOk base (r.world).cells (r.world).history v.seat
    seat_ok id v at = (r.invariant).consistent.seats id v.seat (seat_at id v at)

    opened_wider : (rs qs : List Range) → Within rs qs → Opened terms setting rs base → Opened terms setting qs base
    opened_wider rs qs wider o = record { some = o.some; among = λ x has. wider x (o.among x has); opens = o.opens }

    -- a step of the seat id, after which it has the view w
    pub moved : (id : ℕ) (v w : View S N) → get_elem? vs id ≡ some v
        → (qs : List Range) (after : List ℕ) (world : World) (notes : List N) (owner : ℕ → ℕ)
        → Within ranges qs → AreOfOneStore room qs
        → ((c : ℕ) (x : Cell) → slice_get world.cells c ≡ Some x → terms.ranged setting c ≡ true → Names qs x.value)
        → Follows base r.world world → world.seats ≡ slice_set (r.world).seats id w.seat → after ≡ words_of world
        → length world.cells ≡ length (r.world).cells → NotesGrow r.notes notes → length notes ≡ length world.history
        → EntriesAre terms setting (record { history = world.history; notes = notes; ranges = qs })
        → ((n : ℕ) → n ≤ length (r.world).history → owner n ≡ r.owner n)
        → Suits terms setting base room (record { history = world.history; notes = notes; ranges = qs }) owner w
        → rights_of w ≡ rights_of v
        → numbers_of w + length (r.world).history ≡ numbers_of v + length world.history
        → Rule qs after (slice_set vs id w)
    moved id v w at qs after world notes owner wider lie named keeps seats words cells more count entries same suit rights numbers =
        let later : Seen N = record { history = world.history; notes = notes; ranges = qs } in
        record {
          world = world;
          notes = notes;
          owner = owner;
          invariant = keeps.invariant;
          reached = keeps.reached r.reached;
          words_are = words;
          seats_are =
              map_set (λ (u : View S N). u.seat) vs id w
              ∙ (ap (λ (l : List Seat). slice_set l id w.seat) r.seats_are ∙ sym seats);
          cells_are = cells ∙ r.cells_are;
          notes_are = count;
          entries = entries;
          opening = opened_wider ranges qs wider r.opening;
          named = named;
          lie = lie;
          suits = λ j u there. ⊎_elim
              (λ (t : (j ≡ id) × (w ≡ u)). subst (λ (x : View S N). Suits terms setting base room later owner x) t.1 suit)
              (λ (t : (j ≢ id) × (get_elem? vs j ≡ some u)). suits_grow now later r.owner owner u (keeps.grows, more, wider) same
              (seat_ok j u t.1).rv (r.suits j u t.1))
              (at_set vs id j w u there);
          rights =
              let t : total_of rights_of (slice_set vs id w) + rights_of v ≡ total_of rights_of vs + rights_of w =
              total_set rights_of vs id v w at in
              let all : total_of rights_of vs ≤ 64 = r.rights in
              omega (arith, t, all, rights);
          numbers =
              let t : total_of numbers_of (slice_set vs id w) + numbers_of v ≡ total_of numbers_of vs + numbers_of w =
              total_set numbers_of vs id v w at in
              let all : total_of numbers_of vs ≡ length (r.world).history = r.numbers in
              omega (arith, t, all, numbers);
        }

    -- the view after a step without a new number
    abbrev pub after_step : View S N → World → Seat → List (Call N) → Told S N → View S N
    after_step v world z mine told =
        record v { seen = record { history = world.history; notes = r.notes; ranges = ranges }; seat = z; mine = mine; told = told }

    -- a step without a new number, by one event of the machine
    pub goes : (id : ℕ) (v : View S N) → get_elem? vs id ≡ some v
        → (after : List ℕ) (world : World) (z : Seat) (mine : List (Call N)) (told : Told S N)
        → ((c : ℕ) (x : Cell) → slice_get world.cells c ≡ Some x → terms.ranged setting c ≡ true → Names ranges x.value)
        → Follows base r.world world → world.seats ≡ slice_set (r.world).seats id z → after ≡ words_of world
        → length world.cells ≡ length (r.world).cells → length world.history ≡ length (r.world).history
        → (Agree terms setting base (record { history = world.history; notes = r.notes; ranges = ranges }) v.mine
        → Agree terms setting base (record { history = world.history; notes = r.notes; ranges = ranges }) mine)
        → IsTold setting base (record { history = world.history; notes = r.notes; ranges = ranges }) r.owner told
        → ((i : ℕ) → number_at v.seat.phase ≡ Some i → (number_at z.phase ≡ Some i) ⊎ IsSettled world.history i)
        → ((i : ℕ) → number_at z.phase ≡ Some i → number_at v.seat.phase ≡ Some i)
        → LookIsFresh world.history z → (v.rights ≡ 0 → v.seat.held ≡ [] → z.held ≡ [])
        → Rule ranges after (slice_set vs id (after_step v world z mine told)) × Sees terms v (after_step v world z mine told)
    goes id v at after world z mine told named keeps seats words cells len calls is_told settles noted look unheld =
        let later : Seen N = record { history = world.history; notes = r.notes; ranges = ranges } in
        let w : View S N = after_step v world z mine told in
        let f : Suits terms setting base room now r.owner v = r.suits id v at in
        let grow : SeenGrows now later = (keeps.grows, λ i n e. e, λ x has. has) in
        let own : IsTold setting base later r.owner (tells v) =
        told_grows setting base now later r.owner r.owner (tells v) grow (λ n l. refl) f.own in
        let suit : Suits terms setting base room later r.owner w = record {
          own = record { setting_is = own.setting_is; grows = seen_refl later; owned = own.owned; once = own.once };
          room_is = f.room_is;
          told = is_told;
          mine = calls (agree_grows terms setting base now later v.mine grow f.mine);
          settled = λ i has. ⊎_elim (λ (p : number_at v.seat.phase ≡ Some i). settles i p)
              (λ (p : IsSettled (r.world).history i). inr (settled_grows (r.world).history world.history i keeps.grows p))
              (f.settled i has);
          noted = λ i p. f.noted i (noted i p);
          look = look;
          few = f.few;
          unheld = λ e. unheld e (f.unheld e);
          gone = gone_grows now later r.owner r.owner v.gone grow (λ n l. refl) f.gone;
        } in
        let rule : Rule ranges after (slice_set vs id w) =
        moved id v w at ranges after world r.notes r.owner (λ x has. has) r.lie named keeps seats words cells grow.1 (r.notes_are
        ∙ sym len)
        (entries_grow terms setting (r.world).history world.history r.notes ranges keeps.grows len r.entries) (λ n l. refl) suit refl
        (omega (arith, len)) in (
          rule,
          record {
            own = seen_trans v.seen now later f.own.grows grow;
            told = seen_trans v.told.seen now later f.told.grows grow;
            sound =
                sound_of ranges world r.notes r.owner id w keeps.invariant (r.notes_are ∙ sym len)
                (entries_grow terms setting (r.world).history world.history r.notes ranges keeps.grows len r.entries) r.opening r.lie suit
                (ap (λ (l : List Seat). slice_get l id) seats ∙ get-set_same (r.world).seats id z v.seat (seat_at id v at)) refl;
          },
        )
