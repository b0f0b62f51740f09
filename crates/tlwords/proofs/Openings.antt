-- The rule at the opening, and the passes of an opening.
use Rattle.std.proofs.Common.{◌≡◌, ℕ, zero, suc, ◌+◌, ◌-◌, ◌*◌, ◌^◌, ◌<◌, ◌≤◌, false, Some, None, List, [], ◌∷◌, ◌++◌, length, map}
use Rattle.std.proofs.Common.{slice_get, sym, refl, ap, ◌∙◌, subst, arith, All, take, replicate}
use mathlib.Core.Option.{some, some-injective, some-ne-none}
use lib.ListN.{get_elem?}
use Rattle.std.specs.Prelude.{slice_index_or}
use Rattle.std.proofs.lemmas.List.{append_assoc, map-append, length-append, length-replicate, take_all}
use Rattle.std.proofs.lemmas.List.Elements.{All-append}
use Rattle.atomic_table.specs.Seated.{TableId}
use Rattle.atomic_table.specs.Table.{opening}
use Rattle.tlcore.specs.Schedules.{start, opened}
use Rattle.tlcore.proofs.Lists.{get-append_left, get_within}
use Rattle.tlcore.proofs.Opacity.{start_ok}
use Rattle.tlcore.specs.declared.cells.Cell.{Cell}
use Rattle.ranges.proofs.Named.{named_stored, named_of_one}
use Rattle.ranges.specs.Ranges.{Range, Has, IsStored, AreOfOneStore, ranges_named}
use Rattle.tlwords.specs.Terms.{Terms, AreNamed}
use Rattle.tlwords.specs.Seen.{Seen, opening_seen}
use Rattle.tlwords.specs.Views.{Staging, View, untold, fresh}
use Rattle.tlwords.specs.Layout.{store_at, paired, opening_words, unused, front_of, shelf_of}
use Rattle.tlwords.specs.Rule.{at_opening, IsTold, Suits, Kept, Adds, Shelf, Ruled, first_view}
use Rattle.tlwords.specs.Runs.{down, dealer, IsNew, KnowsStore}
use Rattle.tlwords.specs.Plays.{Mine, newcomer}
use Rattle.tlwords.specs.Known.{Known, Knows}
use Rattle.tlwords.specs.declared.words.Words.{Words}
use Rattle.tlwords.specs.Callers.{IsOpened}
use Rattle.tlwords.specs.Calls.{new_pass, IsDealt}
use Rattle.tlwords.proofs.Logs.{take_next}
use Rattle.tlwords.proofs.Seens.{seen_refl}
use Rattle.tlwords.proofs.Keeps.{untold_is}
use Rattle.tlwords.proofs.OpenSteps.{blank_suits}
use Rattle.tlwords.proofs.Once.{nothing_drawn}

-- ---- the opening

paired_opened : (vs : List ℕ) → opening_words vs ≡ paired (opened vs)
paired_opened [] = refl
paired_opened (v ∷ vs) = ap (λ (l : List ℕ). 0 ∷ v ∷ l) (paired_opened vs)

length_opened : (vs : List ℕ) → length (opened vs) ≡ length vs
length_opened [] = refl
length_opened (v ∷ vs) = ap suc (length_opened vs)

only_one : {V : Type 0} (a : V) (P : V → Type 0) → P a → (j : ℕ) (v : V) → get_elem? (a ∷ []) j ≡ some v → P v
only_one a P p zero v e = subst P (some-injective a v e) p
only_one a P p (suc j) v e = absurd (some-ne-none v (sym e))

some_one : {S : Type 0} (a b : S) → Some a ≡ Some b → b ≡ a
some_one a b e = cc

no_staging : {S N : Type 0} {A : Type 0} (v : View S N) (s : Staging) → v.staging ≡ None → v.staging ≡ Some s → A
no_staging v s e f = absurd (cc)

get_opened : (vs : List ℕ) (c : ℕ) (x : Cell) → slice_get (opened vs) c ≡ Some x → slice_get vs c ≡ Some x.value
get_opened [] c x e = absurd (cc)
get_opened (v ∷ vs) zero x e = let q : record { lock = 0; value = v } ≡ x = cc in ap (λ (z : Cell). Some z.value) q
get_opened (v ∷ vs) (suc c) x e = get_opened vs c x e

-- behind a list stand so many zeros
zeros_behind : (xs : List ℕ) (n o : ℕ) → length xs ≤ o → o < length xs + n → slice_get (xs ++ replicate n 0) o ≡ Some 0
zeros_behind [] zero o l m = absurd (omega (arith, m))
zeros_behind [] (suc n) zero l m = refl
zeros_behind [] (suc n) (suc o) l m = zeros_behind [] n o (omega arith) (omega (arith, m))
zeros_behind (x ∷ xs) n zero l m = absurd (omega (arith, l))
zeros_behind (x ∷ xs) n (suc o) l m = zeros_behind xs n o (omega (arith, l)) (omega (arith, m))

module _ {S N : Type 0} (terms : Terms S N) (setting : S) (values store : List ℕ) (room sessions : ℕ) (fits : length store ≤ room) where
  shelf_so : room ≤ 2 ^ 24 → (ranges : List Range) → ((r : Range) → Has r ranges → IsStored (length store)
      (store ++ replicate (room - length store) 0) r)
      → (base : List ℕ) → Shelf room store ranges (length store) (store ++ replicate (room - length store) 0)
      (first_view {N = N} setting base room ranges sessions ∷ [])
  shelf_so small ranges stored base =
      let first : View S N = first_view setting base room ranges sessions in
      let unstaged : (j : ℕ) (v : View S N) → get_elem? (first ∷ []) j ≡ some v → v.staging ≡ None = only_one first
      (λ v. v.staging ≡ None) refl in
      record {
        long =
            let zeros : List ℕ = replicate (room - length store) 0 in
            let a : length (store ++ zeros) ≡ length store + length zeros = length-append store zeros in
            let b : length zeros ≡ room - length store = length-replicate (room - length store) 0 in
            omega (arith, a, b, fits);
        small = small;
        finished = stored;
        taken = λ j v s at e. no_staging v s (unstaged j v at) e;
        apart = λ j v s r at e has. no_staging v s (unstaged j v at) e;
        alone = λ j k u v s t ne at there e f. no_staging u s (unstaged j u at) e;
        left = record {
          opening = λ o w e. get-append_left store (replicate (room - length store) 0) o (get_within store o w e) ∙ e;
          blank = blank;
        };
        tail_is = record {
          is = omega arith;
          most = omega (arith, fits);
          each = only_one first (λ v. Adds room (length store) v) (record {
            once = omega arith;
            unrefused = λ _. refl;
            found = λ n count e. absurd (cc);
            untaken = λ _. refl;
            gone = λ g has. absurd has;
          });
        };
      }
    where
      blank : (o : ℕ) → length store ≤ o → o < room → slice_get (store ++ replicate (room - length store) 0) o ≡ Some 0
      blank o l m = zeros_behind store (room - length store) o l (omega (arith, l, m, fits))

  kept_so : sessions ≤ 64 → terms.opens setting (ranges_named (terms.ranged setting) store values) values → AreNamed terms setting
      (ranges_named (terms.ranged setting) store values) values
      → Kept terms setting values room (ranges_named (terms.ranged setting) store values) (front_of 0 (opening_words values))
      (first_view setting values room (ranges_named (terms.ranged setting) store values) sessions ∷ [])
  kept_so few fact named =
      let ranges : List Range = ranges_named (terms.ranged setting) store values in
      let first : View S N = first_view setting values room ranges sessions in
      let g : Seen N = opening_seen ranges in
      let plain : IsTold {S = S} setting values g (λ _. 0) untold = untold_is setting values g (λ _. 0) in
      let suit : Suits terms setting values room g (λ _. 0) first =
      blank_suits terms setting values room g (λ _. 0) first refl refl refl refl (λ x e. refl)
      (record {
        setting_is = λ x e. (some_one setting x e, refl);
        grows = seen_refl g;
        owned = λ n has. absurd has;
        once =
            nothing_drawn;
      }) plain in
      record {
        world = start values 1;
        notes = [];
        owner = λ _. 0;
        invariant = start_ok values 1;
        reached = at_opening 1;
        words_are = ap (front_of 0) (paired_opened values);
        seats_are = refl;
        cells_are = length_opened values;
        notes_are = refl;
        entries = λ i e n a b. absurd (cc);
        opening = record { some = ranges; among = λ r has. has; opens = fact };
        named = λ c x at is. named c x.value (get_opened values c x at) is;
        lie = named_of_one (terms.ranged setting) store values room fits;
        suits = only_one first (λ v. Suits terms setting values room g (λ _. 0) v) suit;
        rights = omega (arith, few);
        numbers = refl;
      }

pub opens_so : {S N : Type 0} (terms : Terms S N) (setting : S) (values store words : List ℕ) (room sessions : ℕ) → length store ≤ room
    → room ≤ 2 ^ 24 → sessions ≤ 64
    → words ≡ front_of 0 (opening_words values) ++ shelf_of (length store) (store ++ replicate (room - length store) 0)
    → terms.opens setting (ranges_named (terms.ranged setting) store values) values → AreNamed terms setting
    (ranges_named (terms.ranged setting) store values) values
    → Ruled terms setting values room (record { store = store; sessions = sessions })
    (opening words [] (first_view setting values room (ranges_named (terms.ranged setting) store values) sessions))
opens_so terms setting values store words room sessions fits small few is fact named =
    record {
      front = front_of 0 (opening_words values);
      tail = length store;
      store = store ++ replicate (room - length store) 0;
      ranges = ranges_named (terms.ranged setting) store values;
      words_are = is;
      kept = kept_so terms setting values store room sessions fits few fact named;
      dealt = omega arith;
      shelf = shelf_so terms setting values store room sessions fits small (ranges_named (terms.ranged setting) store values)
          (named_stored (terms.ranged setting) store values (replicate (room - length store) 0)) values;
    }

-- ---- the passes of an opening

pub opening_snoc : (xs : List ℕ) (v : ℕ) → opening_words (xs ++ v ∷ []) ≡ opening_words xs ++ 0 ∷ v ∷ []
opening_snoc [] v = refl
opening_snoc (x ∷ xs) v = ap (λ (l : List ℕ). 0 ∷ x ∷ l) (opening_snoc xs v)

pub opening_more : (vs : List ℕ) (i v : ℕ) (xs ys zs : List ℕ) → i < length vs → xs ≡ front_of 0 (opening_words (take i vs))
    → ys ≡ xs ++ 0 ∷ []
    → zs ≡ ys ++ slice_index_or vs i v ∷ [] → zs ≡ front_of 0 (opening_words (take (i + 1) vs))
opening_more vs i v xs ys zs l a b c =
    c ∙ (ap (λ (l : List ℕ). l ++ slice_index_or vs i v ∷ []) (b ∙ ap (λ (l : List ℕ). l ++ 0 ∷ []) a)
    ∙ (ap (front_of 0) (two (opening_words (take i vs)) (slice_index_or vs i v) ∙ sym (opening_snoc (take i vs) (slice_index_or vs i v)))
    ∙ sym (ap (λ (l : List ℕ). front_of 0 (opening_words l)) (take_next vs i v l))))
  where
    two : (xs : List ℕ) (v : ℕ) → (xs ++ 0 ∷ []) ++ v ∷ [] ≡ xs ++ 0 ∷ v ∷ []
    two [] v = refl
    two (x ∷ xs) v = ap (λ (l : List ℕ). x ∷ l) (two xs v)

pub opening_length : (xs : List ℕ) → length (opening_words xs) ≡ 2 * length xs
opening_length [] = refl
opening_length (x ∷ xs) = let r : length (opening_words xs) ≡ 2 * length xs = opening_length xs in omega (arith, r)

pub words_length : (values store : List ℕ) (room : ℕ) → length store ≤ room
    → length (front_of 0 (opening_words values) ++ shelf_of (length store) (store ++ replicate (room - length store) 0)) ≡ store_at
    (length values) room
words_length values store room l =
    let zeros : List ℕ = replicate (room - length store) 0 in
    let a : length (front_of 0 (opening_words values) ++ shelf_of (length store) (store ++ zeros)) ≡ length
    (front_of 0 (opening_words values)) + length (shelf_of (length store) (store ++ zeros)) =
    length-append (front_of 0 (opening_words values)) (shelf_of (length store) (store ++ zeros)) in
    let b : length (store ++ zeros) ≡ length store + length zeros = length-append store zeros in
    let c : length zeros ≡ room - length store = length-replicate (room - length store) 0 in
    let d : length (opening_words values) ≡ 2 * length values = opening_length values in
    omega (arith, a, b, c, d, l)

-- the table's words, as they are put one behind the other
pub all_words : (front store zeros a b c d e : List ℕ) (tail : ℕ) → a ≡ front ++ unused → b ≡ a ++ tail ∷ [] → c ≡ b ++ unused
    → d ≡ c ++ store
    → e ≡ d ++ zeros → e ≡ front ++ shelf_of tail (store ++ zeros)
all_words front store zeros a b c d e tail p q r s t =
    t ∙ (ap (λ (l : List ℕ). l ++ zeros) (s ∙ ap (λ (l : List ℕ). l ++ store) (r ∙ ap (λ (l : List ℕ). l ++ unused) (q
    ∙ ap (λ (l : List ℕ). l ++ tail ∷ []) p))) ∙ simp append_assoc)

-- what stands behind a list that is made longer
pub longer : (xs ys : List ℕ) (n k m len : ℕ) → len ≡ length xs → n ≡ len + k → m ≡ length xs → ys ≡ take n xs ++ replicate (n - m) 0
    → ys ≡ xs ++ replicate k 0
longer xs ys n k m len a b d e =
    let all : length xs ≤ n = omega arith in
    let rest : n - m ≡ k = omega arith in
    e ∙ (ap (λ (l : List ℕ). l ++ replicate (n - m) 0) (take_all n xs all) ∙ ap (λ (j : ℕ). xs ++ replicate j 0) rest)

down_snoc : (m n : ℕ) → down m (suc n) ≡ down m n ++ (m - n) ∷ []
down_snoc m zero = let e : m ≡ m - 0 = omega arith in ap (λ (z : ℕ). z ∷ []) e
down_snoc m (suc n) =
    let e : (m - 1) - n ≡ m - suc n = omega arith in
    ap (λ (l : List ℕ). m ∷ l) (down_snoc (m - 1) n) ∙ ap (λ (z : ℕ). m ∷ (down (m - 1) n ++ z ∷ [])) e

all_one : {X : Type 0} (P : X → Type 0) (y : X) → P y → All P (y ∷ [])
all_one P y p zero d l = p
all_one P y p (suc k) d l = absurd (omega arith)

dealt_more : {X : Type 0} (P : X → Type 0) (f : X → ℕ) (sessions : ℕ) (xs : List X) (y : X) (n : ℕ) → length xs ≡ n → All P xs
    → map f xs ≡ down sessions n → P y → f y ≡ sessions - n
    → (length (xs ++ y ∷ []) ≡ n + 1) × All P (xs ++ y ∷ []) × (map f (xs ++ y ∷ []) ≡ down sessions (n + 1))
dealt_more P f sessions xs y n len all names p name =
    let e : suc n ≡ n + 1 = omega arith in
    let l : length (xs ++ y ∷ []) ≡ length xs + 1 = length-append xs (y ∷ []) in (
      omega (arith, l, len),
      All-append P xs (y ∷ []) all (all_one P y p),
      map-append f xs (y ∷ []) ∙ ((λ i. names i ++ name i ∷ []) ∙ (sym (down_snoc sessions n) ∙ ap (down sessions) e)),
    )

pub dealt_all : {X : Type 0} (P : X → Type 0) (f : X → ℕ) (sessions : ℕ) (xs ys zs : List X) (y : X) (n : ℕ) → ys ≡ xs → zs ≡ ys ++ y ∷
    [] → length xs ≡ n → All P xs
    → map f xs ≡ down sessions n → P y → f y ≡ sessions - n → (length zs ≡ n + 1) × All P zs × (map f zs ≡ down sessions (n + 1))
dealt_all {X} P f sessions xs ys zs y n same is len all names p name =
    let Q : List X → Type 0 = λ l. (length l ≡ n + 1) × All P l × (map f l ≡ down sessions (n + 1)) in
    subst Q (sym (is ∙ ap (λ (l : List X). l ++ y ∷ []) same)) (dealt_more P f sessions xs y n len all names p name)

module _ {S N : Type 0} (setting : S) (base : List ℕ) (room : ℕ) (ranges : List Range) (sessions : ℕ) where
  pub new_of : (m r : Mine S N) (k : ℕ) → m.0 ≡ dealer setting base room ranges sessions k → r ≡ (newcomer m.0, [])
      → IsNew setting base room ranges r.0 × (r.0.name ≡ sessions - k)
  new_of m r k e is =
      let f : r.0 ≡ newcomer (dealer setting base room ranges sessions k) = ap (λ m. m.0) is ∙ ap newcomer e in
      let name : r.0.name ≡ sessions - k = ap (λ (v : View S N). v.name) f in
      (f ∙ ap (λ (n : ℕ). fresh (Some setting) base room ranges n 1) (sym name), name)

  pub dealer_more : (m r : Mine S N) (k : ℕ) → m.0 ≡ dealer setting base room ranges sessions k
      → r ≡ (record m.0 { rights = m.0.rights - 1 }, m.1)
      → r.0 ≡ dealer setting base room ranges sessions (k + 1)
  dealer_more m r k e is =
      let a : r.0 ≡ record m.0 { rights = m.0.rights - 1 } = ap (λ m. m.0) is in
      let g : View S N → View S N = λ v. record v { rights = v.rights - 1 } in
      let b : (sessions - k) - 1 ≡ sessions - (k + 1) = omega arith in
      a ∙ (ap g e ∙ ap (λ (n : ℕ). fresh (Some setting) base room ranges 0 n) b)

  pub new_knows : (r : Mine S N) → IsNew setting base room ranges r.0 → AreOfOneStore room ranges → KnowsStore r.0 false
  new_knows r is lie = subst (λ (v : View S N). KnowsStore v false) (sym is)
      (record { at_rest = refl; alone = refl; full = refl; ranges = lie })

  -- a pass of a lawful opening
  new_pass_knows : (terms : Terms S N) (table : TableId) (name : ℕ) → terms.opens setting ranges base → AreOfOneStore room ranges
      → Knows terms (new_pass (record { table = table; setting = Some setting; base = base; room = room }) ranges name)
  new_pass_knows terms table name opens one =
      record {
        legal = λ x e i w d. let b = d.here in absurd (cc);
        noted = refl;
        mine = λ x e. tt;
        opening = λ x e.
            let same : setting ≡ x = cc in
            record { some = ranges; among = λ r has. has; opens = subst (λ (x : S). terms.opens x ranges base) same opens };
        ranges = λ x e. one;
        few = omega arith;
        settled = λ i has. absurd has;
      }

-- an opening with this key, and the passes that were dealt
pub opened_so : {L S N : Type 0} (terms : Terms S N) (setting : S) (values store : List ℕ) (room sessions : ℕ) (words : Words L S N)
    (dealt : List (Known S N)) → words.cells ≡ length values → words.room ≡ room
    → (words.table.shared.key.setting.value ≡ setting) × (words.table.shared.key.values.value.items ≡ values)
    × (words.table.shared.key.store.value.items ≡ store) × (words.table.shared.key.sessions ≡ sessions)
    → All (λ k. IsDealt setting values room (ranges_named (terms.ranged setting) store values) words.table.shared.table_id k) dealt
    → map (λ k. k.name) dealt ≡ down sessions sessions
    → terms.opens setting (ranges_named (terms.ranged setting) store values) values → length store ≤ room
    → IsOpened terms setting values store room sessions words dealt
opened_so terms setting values store room sessions words dealt cells space key each names opens fits =
    let ranges : List Range = ranges_named (terms.ranged setting) store values in
    let table : TableId = words.table.shared.table_id in
    record {
      sizes = (cells, space);
      key = key;
      passes = λ k d l. each k d l
          ∙ (λ j. new_pass (record { table = table; setting = Some (sym key.0 j); base = sym key.1 j; room = sym space j }) ranges
          (slice_index_or dealt k d).name);
      sound = λ k d l. subst (Knows terms) (sym (each k d l)) (new_pass_knows setting values room ranges sessions terms table _ opens
          (named_of_one (terms.ranged setting) store values room fits));
      names = names;
    }
