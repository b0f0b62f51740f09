-- The steps on the store keep the rule: Advance, Fill and Fetch leave the front as it is.
use Rattle.std.proofs.Common.{◌≡◌, ◌≢◌, ℕ, ◌+◌, ◌-◌, ◌%◌, ◌^◌, ◌<◌, ◌≤◌, ◌⊎◌, inl, inr, min, Option, Some, None, List, [], ◌++◌, length, slice_get, slice_set, slice_index, sym, refl, ap, ◌∙◌, subst, arith}
use Rattle.std.proofs.Math.Nat.{min-eq_left, min-le_right}
use Rattle.std.proofs.lemmas.List.{set-get_or}
use Rattle.std.proofs.lemmas.Option.{get_or_from_slice_get}
use mathlib.Core.Option.{none, some}
use lib.ListN.{get_elem?}
use Rattle.atomic_table.specs.Table.{State, Act, step, keeps, carried_after, Valid, stepped, Allows}
use Rattle.tlcore.specs.Machine.{World}
use Rattle.tlcore.proofs.Growth.{Grows-refl}
use Rattle.tlcore.proofs.Lists.{get_within}
use Rattle.ranges.specs.Ranges.{Range, Has, Within, AreOfOneStore}
use Rattle.tlwords.specs.Terms.{Terms}
use Rattle.tlwords.specs.Seen.{Seen, SeenGrows}
use Rattle.tlwords.specs.Views.{Staging, Gone, View, tells}
use Rattle.tlwords.specs.Layout.{front_size, tail_at, store_at, shelf_of}
use Rattle.tlwords.specs.Rule.{Start, EntriesAre, IsTold, Suits, Shelf, Ruled}
use Rattle.tlwords.specs.Plays.{Mine, Sees, Fetches, advanced, filled, fetched, bare}
use Rattle.tlwords.proofs.Reaching.{Follows, by_none}
use Rattle.tlwords.proofs.Paired.{set_same}
use Rattle.ranges.proofs.Grown.{names_grow, within_refl}
use Rattle.tlwords.proofs.Seens.{seen_refl, seen_trans, agree_grows, permits_grow}
use Rattle.tlwords.proofs.Keeps.{Rule, gone_grows, now, seat_at, moved, sound_of, told_grows}
use Rattle.tlwords.proofs.Lifts.{front_long, tail_word, tail_is_set, store_word, store_is_set}
use Rattle.tlwords.proofs.Shelves.{dealt_same, one_staging, tail_stays, shelf_same, shelf_taken, shelf_refused, shelf_filled, shelf_finished, with_range, lie_more}

fits_or_not : (a b : ℕ) → (a ≤ b) ⊎ (b < a)
fits_or_not a b = grind arith

more_or_last : (a b : ℕ) → a < b → (a + 1 < b) ⊎ (a + 1 ≡ b)
more_or_last a b l = grind arith

module _ {S N : Type 0} (terms : Terms S N) (setting : S) (base : List ℕ) (room : ℕ) where
  -- ---- steps that leave the front as it is

  module _ (ranges : List Range) (front : List ℕ) (vs : List (View S N)) (r : Rule terms setting base room ranges front vs) (id : ℕ)
      (v : View S N) where
    -- the view after a step that has found these ranges finished
    abbrev pub aside : List Range → Option Staging → Option (ℕ × ℕ) → ℕ → ℕ → View S N
    aside qs staging full taken added =
        record v {
          seen = record { history = (r.world).history; notes = r.notes; ranges = qs };
          staging = staging;
          full = full;
          taken =
              taken;
          added = added;
        }

    pub beside : get_elem? vs id ≡ some v → (qs : List Range) (staging : Option Staging) (full : Option (ℕ × ℕ)) (taken added : ℕ)
        → Within ranges qs → AreOfOneStore room qs
        → Rule terms setting base room qs front (slice_set vs id (aside qs staging full taken added))
        × Sees terms v (aside qs staging full taken added)
    beside at qs staging full taken added wider lie =
        let world : World = r.world in
        let g : Seen N = now terms setting base room ranges front vs r in
        let h : Seen N = record { history = world.history; notes = r.notes; ranges = qs } in
        let w : View S N = aside qs staging full taken added in
        let f : Suits terms setting base room g r.owner v = r.suits id v at in
        let e : slice_get world.seats id ≡ Some v.seat = seat_at terms setting base room ranges front vs r id v at in
        let still : Follows base world world = by_none base world r.invariant in
        let grow : SeenGrows g h = (Grows-refl world.history, λ i n a. a, wider) in
        let own : IsTold setting base h r.owner (tells v) =
        told_grows setting base g h r.owner r.owner (tells v) grow (λ n l. refl) f.own in
        let entries : EntriesAre terms setting h =
        λ i x n p q. (permits_grow terms setting ranges qs wider (r.entries i x n p q).0, (r.entries i x n p q).1) in
        let suit : Suits terms setting base room h r.owner w = record {
          own = record { setting_is = own.setting_is; grows = seen_refl h; owned = own.owned; once = own.once };
          room_is = f.room_is;
          told = told_grows setting base g h r.owner r.owner v.told grow (λ n l. refl) f.told;
          mine = agree_grows terms setting base g h v.mine grow f.mine;
          settled = f.settled;
          noted = f.noted;
          look = f.look;
          few = f.few;
          unheld = f.unheld;
          gone = gone_grows terms setting base room g h r.owner r.owner v.gone grow (λ n l. refl) f.gone;
        } in
        let rule : Rule terms setting base room qs front (slice_set vs id w) =
        moved terms setting base room ranges front vs r id v w at qs front world r.notes r.owner wider lie
        (λ c x a k. names_grow ranges qs x.value wider (r.named c x a k)) still (sym (set_same world.seats id v.seat e)) r.words_are refl
        (λ i n a. a)
        r.notes_are entries (λ n l. refl) suit refl refl in (
          rule,
          record {
            own = seen_trans v.seen g h f.own.grows grow;
            told = seen_trans v.told.seen g h f.told.grows grow;
            sound = sound_of terms setting base room qs world r.notes r.owner id w r.invariant r.notes_are entries rule.opening lie suit e
                refl;
          },
        )

  -- the front's words are before those of the store
  long_front : (opened : Start) (cells : ℕ) (me : Mine S N) (y : S) → me.0.setting ≡ Some y → cells ≡ length me.0.base
      → (id : ℕ) (s : State (Unit {0}) (View S N)) (r : Ruled terms setting base room opened s) → get_elem? s.views id ≡ some me.0
      → (length r.front ≡ front_size cells) × (me.0.room ≡ room)
  long_front opened cells me y set count id s r at =
      let f = (r.kept).suits id me.0 at in
      let b : length me.0.base ≡ length base = ap length (f.own.setting_is y set).1 in
      let l : length r.front ≡ front_size (length base) = front_long terms setting base room r.ranges r.front s.views r.kept in
      (omega (arith, l, b, count), f.room_is y set)

  -- the seat has a view that keeps the rule when the word i becomes n, and `then` holds of it
  abbrev Moves : Start → State (Unit {0}) (View S N) → ℕ → ℕ → ℕ → Mine S N → (Mine S N → Type 0) → Type 0
  Moves opened s i n id me then =
      (w : View S N) × (a : Act (Unit {0})) × Valid s.homes me.1 a × Ruled terms setting base room opened (stepped s i n id me.1 w a)
      × then (w, carried_after me.1 a)

  -- ---- Advance

  pub advances : (opened : Start) (slots id cells count : ℕ) (words : List ℕ) (me : Mine S N) (y : S) → me.0.setting ≡ Some y
      → cells ≡ length me.0.base
      → count ≡ min (length words) (me.0.room + 1) → words ≢ [] → me.0.full ≡ None → 1 ≤ me.0.rights
      → Allows (Ruled terms setting base room opened) slots id me (tail_at cells) (λ n. (n + count) % 2 ^ 64)
      (bare (advanced terms words) (step slots (tail_at cells) count 0 none) me)
  advances opened slots id cells count words me y set cells_are is_count some_words unrefused some_rights s r _ at _ =
      go (fits_or_not (r.tail + length words) room)
    where
      v : View S N
      v = me.0

      n : ℕ
      n = slice_index s.words (tail_at cells)

      known : (length r.front ≡ front_size cells) × (v.room ≡ room)
      known = long_front opened cells me y set cells_are id s r at

      is : n ≡ r.tail
      is = ap (λ (ws : List ℕ). slice_index ws (tail_at cells)) r.words_are ∙ tail_word r.front r.tail r.store cells known.0

      least : count ≤ room + 1
      least =
          let a : min (length words) (v.room + 1) ≤ v.room + 1 = min-le_right (length words) (v.room + 1) in
          let b : v.room ≡ room = known.1 in
          omega (arith, a, b, is_count)

      words_are : slice_set s.words (tail_at cells) ((n + count) % 2 ^ 64) ≡ r.front ++ shelf_of (r.tail + count) r.store
      words_are =
          ap (λ (k : ℕ). slice_set s.words (tail_at cells) ((k + count) % 2 ^ 64)) is
          ∙ (ap (λ (k : ℕ). slice_set s.words (tail_at cells) k)
          (tail_stays (length opened.store) room r.tail count s.views (r.shelf).tail_is (r.shelf).small (r.kept).rights least)
          ∙ (ap (λ (ws : List ℕ). slice_set ws (tail_at cells) (r.tail + count)) r.words_are
          ∙ tail_is_set r.front r.tail r.store cells known.0 (r.tail + count)))

      go : (r.tail + length words ≤ room) ⊎ (room < r.tail + length words)
          → Moves opened s (tail_at cells) ((n + count) % 2 ^ 64) id me
          (bare (advanced terms words) (step slots (tail_at cells) count 0 none) me n)
      go (inl fits) =
          let taken : Option Staging = Some (record { start = n; words = words; done = 0 }) in
          let u : View S N = aside r.ranges r.front s.views r.kept id v r.ranges taken v.full (v.taken + length words) v.added in
          let q = beside r.ranges r.front s.views r.kept id v at r.ranges taken v.full (v.taken + length words) v.added
          (within_refl r.ranges) (r.kept).lie in
          let b : v.room ≡ room = known.1 in
          let whole : count ≡ length words = is_count ∙ min-eq_left (omega (arith, fits, b)) in (
            u,
            keeps,
            tt,
            record {
              front = r.front;
              tail = r.tail + count;
              store = r.store;
              ranges = r.ranges;
              words_are = words_are;
              kept = q.0;
              dealt = dealt_same s.views id v u at refl ∙ r.dealt;
              shelf = subst (λ (k : ℕ). Shelf room opened.store r.ranges (r.tail + k) r.store (slice_set s.views id u)) (sym whole)
                  (shelf_taken room opened.store r.tail r.ranges r.store s.views id v u words r.shelf at some_words fits
                  (ap (λ (k : ℕ). let z : Option Staging =
                  Some (record { start = k; words = words; done = 0 }) in z) is) refl refl some_rights);
            },
            (record { sees = q.1; taken = λ _. refl; refused = λ l. absurd (omega (arith, l, fits, is, b)) }, refl),
          )
      go (inr above) =
          let full : Option (ℕ × ℕ) = Some (n, length words) in
          let u : View S N = aside r.ranges r.front s.views r.kept id v r.ranges v.staging full v.taken count in
          let q = beside r.ranges r.front s.views r.kept id v at r.ranges v.staging full v.taken count (within_refl r.ranges)
          (r.kept).lie in
          let b : v.room ≡ room = known.1 in (
            u,
            keeps,
            tt,
            record {
              front = r.front;
              tail = r.tail + count;
              store = r.store;
              ranges = r.ranges;
              words_are = words_are;
              kept = q.0;
              dealt = dealt_same s.views id v u at refl ∙ r.dealt;
              shelf = shelf_refused room opened.store r.tail r.ranges r.store s.views id v u
                  (length words) count r.shelf at unrefused some_rights
                  (is_count ∙ ap (λ (k : ℕ). min (length words) (k + 1)) b) refl
                  (ap (λ (k : ℕ). let m : Option (ℕ × ℕ) × ℕ × ℕ × List (Gone S N) =
                  (Some (k, length words), v.taken, count, v.gone) in m) is) refl;
            },
            (
              record {
                sees = q.1;
                taken = λ l. absurd (omega (arith, l, above, is, b));
                refused = λ _. ap (λ (k : ℕ). let z : View S N = record u { added = k } in z) is_count;
              },
              refl,
            ),
          )

  -- ---- Fill

  pub fills : (opened : Start) (slots id cells o word : ℕ) (me : Mine S N) (y : S) → me.0.setting ≡ Some y → cells ≡ length me.0.base
      → (t : Staging) → me.0.staging ≡ Some t → o ≡ t.start + t.done → slice_get t.words t.done ≡ Some word
      → Allows (Ruled terms setting base room opened) slots id me (store_at cells o) (λ _. word)
      (bare (filled terms) (step slots (store_at cells o) word 0 none) me)
  fills opened slots id cells o word me y set cells_are t staging place next s r _ at _ =
      go (more_or_last t.done (length t.words) (get_within t.words t.done word next))
    where
      v : View S N
      v = me.0

      known : (length r.front ≡ front_size cells) × (v.room ≡ room)
      known = long_front opened cells me y set cells_are id s r at

      words_are : slice_set s.words (store_at cells o) word ≡ r.front ++ shelf_of r.tail (slice_set r.store (t.start + t.done) word)
      words_are =
          ap (λ (ws : List ℕ). slice_set ws (store_at cells o) word) r.words_are
          ∙ (store_is_set r.front r.tail r.store cells known.0 o word
          ∙ ap (λ (k : ℕ). r.front ++ shelf_of r.tail (slice_set r.store k word)) place)

      go : (t.done + 1 < length t.words) ⊎ (t.done + 1 ≡ length t.words)
          → Moves opened s (store_at cells o) word id me
          (bare (filled terms) (step slots (store_at cells o) word 0 none) me (slice_index s.words (store_at cells o)))
      go (inl more) =
          let after : Option Staging = Some (record t { done = t.done + 1 }) in
          let u : View S N = aside r.ranges r.front s.views r.kept id v r.ranges after v.full v.taken v.added in
          let q = beside r.ranges r.front s.views r.kept id v at r.ranges after v.full v.taken v.added (within_refl r.ranges)
          (r.kept).lie in (
            u,
            keeps,
            tt,
            record {
              front = r.front;
              tail = r.tail;
              store = slice_set r.store (t.start + t.done) word;
              ranges = r.ranges;
              words_are = words_are;
              kept = q.0;
              dealt = dealt_same s.views id v u at refl ∙ r.dealt;
              shelf = shelf_filled room opened.store r.tail r.ranges r.store s.views id v t word r.shelf at staging next u more refl refl
                  refl;
            },
            (
              record {
                sees = q.1;
                next = λ z e _. ap (λ (z : Staging). let w : View S N =
                    record v { seen = u.seen; staging = Some (record z { done = z.done + 1 }) } in w)
                    (one_staging v.staging t z staging e);
                last = λ z e l. absurd (let same : length t.words ≡ length z.words =
                    ap (λ (z : Staging). length z.words) (one_staging v.staging t z staging e) in
                    let done : t.done ≡ z.done = ap (λ (z : Staging). z.done) (one_staging v.staging t z staging e) in
                    omega (arith, more, l, same, done));
              },
              refl,
            ),
          )
      go (inr last) =
          let qs : List Range = with_range room opened.store r.tail r.ranges r.store s.views id v t word r.shelf at staging next in
          let u : View S N = aside r.ranges r.front s.views r.kept id v qs None v.full v.taken v.added in
          let q = beside r.ranges r.front s.views r.kept id v at qs None v.full v.taken v.added (λ x has. inr has)
          (lie_more room opened.store r.tail r.ranges r.store s.views id v t word r.shelf at staging next last (r.kept).lie) in (
            u,
            keeps,
            tt,
            record {
              front = r.front;
              tail = r.tail;
              store = slice_set r.store (t.start + t.done) word;
              ranges = qs;
              words_are = words_are;
              kept = q.0;
              dealt = dealt_same s.views id v u at refl ∙ r.dealt;
              shelf = shelf_finished room opened.store r.tail r.ranges r.store s.views id v t word r.shelf at staging next u last refl refl
                  refl;
            },
            (
              record {
                sees = q.1;
                next = λ z e l. absurd (let same : length t.words ≡ length z.words =
                    ap (λ (z : Staging). length z.words) (one_staging v.staging t z staging e) in
                    let done : t.done ≡ z.done = ap (λ (z : Staging). z.done) (one_staging v.staging t z staging e) in
                    omega (arith, last, l, same, done));
                last = λ z e _. (
                  subst (λ (z : Staging). Has (record { start = z.start; words = z.words }) qs) (one_staging v.staging t z staging e)
                      (inl refl),
                  refl,
                );
              },
              refl,
            ),
          )

  -- ---- Fetch

  pub fetches : (opened : Start) (slots id cells o : ℕ) (me : Mine S N) (y : S) → me.0.setting ≡ Some y → cells ≡ length me.0.base
      → Allows (Ruled terms setting base room opened) slots id me (store_at cells o) (λ n. n)
      (bare (fetched terms) (step slots (store_at cells o) 0 0 none) me)
  fetches opened slots id cells o me y set cells_are s r _ at _ =
      let v : View S N = me.0 in
      let n : ℕ = slice_index s.words (store_at cells o) in
      let known : (length r.front ≡ front_size cells) × (v.room ≡ room) = long_front opened cells me y set cells_are id s r at in
      let is : n ≡ slice_index r.store o =
      ap (λ (ws : List ℕ). slice_index ws (store_at cells o)) r.words_are ∙ store_word r.front r.tail r.store cells known.0 o in
      let f = (r.kept).suits id v at in
      let u : View S N = aside r.ranges r.front s.views r.kept id v r.ranges v.staging v.full v.taken v.added in
      let q = beside r.ranges r.front s.views r.kept id v at r.ranges v.staging v.full v.taken v.added (within_refl r.ranges)
      (r.kept).lie in
      let index : o ≡ store_at cells o - store_at (length v.base) 0 = omega (arith, cells_are) in (
        u,
        keeps,
        tt,
        record {
          front = r.front;
          tail = r.tail;
          store = r.store;
          ranges = r.ranges;
          words_are = set-get_or s.words (store_at cells o) 0 ∙ r.words_are;
          kept = q.0;
          dealt = dealt_same s.views id v u at refl ∙ r.dealt;
          shelf = shelf_same room opened.store r.tail r.ranges r.store s.views id v u r.shelf at (refl, refl, refl);
        },
        (
          subst (λ (k : ℕ). Fetches terms k me n (u, me.1)) index (record {
            sees = q.1;
            found = λ range i w has e place.
                let there : slice_get r.store (range.start + i) ≡ Some w = ((r.shelf).finished range ((f.own.grows).2 range has) i w e).0 in
                is ∙ (ap (λ (k : ℕ). slice_index r.store k) (sym place) ∙ get_or_from_slice_get r.store (range.start + i) w 0 there);
            is = refl;
          }),
          refl,
        ),
      )
