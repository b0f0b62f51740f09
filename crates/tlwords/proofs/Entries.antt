-- What is kept of the cells, as entries are listed and set.
use Rattle.std.proofs.Common.{◌≡◌, ◌≢◌, ℕ, zero, suc, ◌+◌, ◌-◌, ◌%◌, ◌<◌, ◌≤◌, replicate, subst, take, ◌⊎◌, inl, inr, ⊎_elim, true, false}
use Rattle.std.proofs.Common.{is_some, Option, Some, None, List, [], ◌∷◌, ◌++◌, length, map, slice_get, slice_set, sym, refl, ap, ◌∙◌}
use Rattle.std.proofs.Common.{arith}
use Rattle.std.specs.Option.{option_map}
use Rattle.std.specs.Prelude.{option_and_then, slice_index_or}
use Rattle.std.proofs.lemmas.Option.{slice_get-map, slice_get_past, get_or_from_slice_get}
use Rattle.std.proofs.lemmas.Bool.{cases_lt}
use mathlib.Core.Logic.{dite}
use native.Mathlib.Decide.{ℕ_discrete}
use Rattle.tlcore.proofs.Lists.{get-set_same, get-set_other, get_within, get-append_left, get-append_seam, get-append_cases}
use Rattle.tlcore.proofs.Lists.{length-append_one, length-slice_set}
use Rattle.tlcore.proofs.Growth.{get_exists}
use Rattle.tlwords.specs.declared.log.Slot.{Slot}
use Rattle.tlwords.specs.declared.slots.Entry.{Entry}
use Rattle.tlwords.specs.Runs.{word_seen, value_kept, was_read, IsBlank, HasNoted, HasKept}
use Rattle.tlwords.specs.Commits.{HasForgotten}
use Rattle.tlwords.specs.Entries.{blank, slot_of, slot_in, slot_at, slots_of, count_placed, IsIndexed, unwritten, IsWiped}
use Rattle.tlwords.proofs.Held.{no_writes}
use Rattle.tlwords.proofs.Logs.{is_noted, is_kept}

-- two lists with the same elements at each index are the same
pub same_list : {A : Type 0} (xs ys : List A) → ((k : ℕ) → slice_get xs k ≡ slice_get ys k) → xs ≡ ys
same_list [] [] h = refl
same_list [] (y ∷ ys) h = let e : None ≡ Some y = h zero in absurd (cc)
same_list (x ∷ xs) [] h = let e : Some x ≡ None = h zero in absurd (cc)
same_list (x ∷ xs) (y ∷ ys) h =
    let e : Some x ≡ Some y = h zero in
    let head : x ≡ y = cc in
    let tail : xs ≡ ys = same_list xs ys (λ k. h (suc k)) in λ j. head j ∷ tail j

pub map_length : {A B : Type 0} (f : A → B) (xs : List A) → length (map f xs) ≡ length xs
map_length f [] = refl
map_length f (x ∷ xs) = ap suc (map_length f xs)

-- ---- counts

count_all : (ps : List ℕ) → count_placed ps ≤ length ps
count_all [] = omega arith
count_all (zero ∷ ps) = let a : count_placed ps ≤ length ps = count_all ps in omega (arith, a)
count_all (suc k ∷ ps) = let a : count_placed ps ≤ length ps = count_all ps in omega (arith, a)

pub count_within : (places : List ℕ) (c : ℕ) → slice_get places c ≡ Some 0 → count_placed places < length places
count_within [] c e = absurd (cc)
count_within (zero ∷ ps) c e = let a : count_placed ps ≤ length ps = count_all ps in omega (arith, a)
count_within (suc k ∷ ps) zero e = let a : Some (suc k) ≡ Some 0 = e in let b : suc k ≡ 0 = cc in absurd (omega arith)
count_within (suc k ∷ ps) (suc c) e = let a : count_placed ps < length ps = count_within ps c e in omega (arith, a)

count_set : (places : List ℕ) (c n : ℕ) → slice_get places c ≡ Some 0 → count_placed (slice_set places c (suc n)) ≡ suc
    (count_placed places)
count_set [] c n e = absurd (cc)
count_set (zero ∷ ps) zero n e = refl
count_set (zero ∷ ps) (suc c) n e = count_set ps c n e
count_set (suc k ∷ ps) zero n e = let a : Some (suc k) ≡ Some 0 = e in let b : suc k ≡ 0 = cc in absurd (omega arith)
count_set (suc k ∷ ps) (suc c) n e = ap suc (count_set ps c n e)

count_wiped : (places : List ℕ) → ((c : ℕ) → c < length places → slice_get places c ≡ Some 0) → count_placed places ≡ 0
count_wiped [] h = refl
count_wiped (zero ∷ ps) h = count_wiped ps (λ c l. h (suc c) (omega arith))
count_wiped (suc k ∷ ps) h = let a : Some (suc k) ≡ Some 0 = h zero (omega arith) in let b : suc k ≡ 0 = cc in absurd (omega arith)

-- ---- the slots that are seen

pub slot_found : (places : List ℕ) (entries : List Entry) (c n : ℕ) → slice_get places c ≡ Some n
    → slice_get (slots_of places entries) c ≡ Some (slot_at entries n)
slot_found places entries c n e =
    slice_get-map (slot_at entries) places c ∙ ap (option_map (slot_at entries)) e

some_other : (n : ℕ) (e f : Entry) (o : Option Entry) → o ≡ Some e → o ≡ Some f → e ≡ f
some_other n e f o a b = let p : Some e ≡ Some f = sym a ∙ b in cc

some_number : (o : Option ℕ) (a b : ℕ) → o ≡ Some a → o ≡ Some b → a ≡ b
some_number o a b p q = let r : Some a ≡ Some b = sym p ∙ q in cc

module _ (places : List ℕ) (entries : List Entry) (ix : IsIndexed places entries) (c : ℕ) (e : Entry) (at : e.cell ≡ c) where
  -- two ways to see a cell's slot agree where they do at each place that a cell has
  same_at : (f g : ℕ → Slot) (j : ℕ) → f zero ≡ g zero → ((k : ℕ) (d : Entry) → slice_get entries k ≡ Some d → d.cell ≡ j → f (suc k) ≡ g
      (suc k))
      → option_map f (slice_get places j) ≡ option_map g (slice_get places j)
  same_at f g j z s = go (slice_get places j) (λ k p. let d = ix.placed j k p in s k d.0 d.1 d.2)
    where
      go : (o : Option ℕ) → ((k : ℕ) → o ≡ Some (suc k) → f (suc k) ≡ g (suc k)) → option_map f o ≡ option_map g o
      go None h = refl
      go (Some zero) h = ap (λ (s : Slot). Some s) z
      go (Some (suc k)) h = ap (λ (s : Slot). Some s) (h k refl)

  module _ (new : slice_get places c ≡ Some 0) where
    abbrev more : List Entry
    more = entries ++ e ∷ []

    abbrev after : List ℕ
    after = slice_set places c (suc (length entries))

    pub pushed_view : slots_of after more ≡ slice_set (slots_of places entries) c (slot_of e)
    pushed_view = same_list (slots_of after more) (slice_set (slots_of places entries) c (slot_of e))
        (λ j. dite (ℕ_discrete j c)
        (λ p. ap (slice_get (slots_of after more)) p
        ∙ (slot_found after more c (suc (length entries)) (get-set_same places c (suc (length entries)) 0 new)
        ∙ (ap (λ o. Some (slot_in o)) (get-append_seam entries e)
        ∙ (sym (get-set_same (slots_of places entries) c (slot_of e) blank (slot_found places entries c 0 new))
        ∙ ap (slice_get (slice_set (slots_of places entries) c (slot_of e))) (sym p)))))
        (λ n. slice_get-map (slot_at more) after j
        ∙ (ap (option_map (slot_at more)) (get-set_other places c j (suc (length entries)) n)
        ∙ (same_at (slot_at more) (slot_at entries) j refl
        (λ k d g _. ap slot_in (get-append_left entries (e ∷ []) k (get_within entries k d g)))
        ∙ (sym (slice_get-map (slot_at entries) places j) ∙ sym (get-set_other (slots_of places entries) c j (slot_of e) n))))))

    pub pushed_indexed : IsIndexed after more
    pushed_indexed =
        record {
          each = λ k d g. ⊎_elim
              (λ p. let was : slice_get entries k ≡ Some d = sym p ∙ g in
              dite (ℕ_discrete d.cell c)
              (λ q. let a : 0 ≡ suc k = some_number (slice_get places c) 0 (suc k) new (ap (slice_get places) (sym q) ∙ ix.each k d was)
              in absurd (omega (arith, a)))
              (λ n. get-set_other places c d.cell (suc (length entries)) n ∙ ix.each k d was))
              (λ p. let same : e ≡ d = some_other k e d (slice_get more k) p.1 g in
              ap (slice_get after) (ap (λ (x : Entry). x.cell) (sym same) ∙ at)
              ∙ (get-set_same places c (suc (length entries)) 0 new ∙ ap (λ n. Some (suc n)) (sym p.0)))
              (get-append_cases entries e k);
          placed = λ j k g. dite (ℕ_discrete j c)
              (λ p. let a : suc (length entries) ≡ suc k = some_number (slice_get after c) (suc (length entries)) (suc k)
              (get-set_same places c (suc (length entries)) 0 new) (ap (slice_get after) (sym p) ∙ g) in
              (e, ap (slice_get more) (let b : k ≡ length entries = omega (arith, a) in b) ∙ get-append_seam entries e, at ∙ sym p))
              (λ n. let d = ix.placed j k (sym (get-set_other places c j (suc (length entries)) n) ∙ g) in
              (d.0, get-append_left entries (e ∷ []) k (get_within entries k d.0 d.1) ∙ d.1, d.2));
          count = count_set places c (length entries) new ∙ (ap suc ix.count ∙ sym (length-append_one entries e));
        }

  module _ (i : ℕ) (there : slice_get places c ≡ Some (suc i)) where
    abbrev set : List Entry
    set = slice_set entries i e

    old : (d : Entry) × (slice_get entries i ≡ Some d) × (d.cell ≡ c)
    old = ix.placed c i there

    -- the entry at another index is of another cell
    pub set_view : slots_of places set ≡ slice_set (slots_of places entries) c (slot_of e)
    set_view = same_list (slots_of places set) (slice_set (slots_of places entries) c (slot_of e))
        (λ j. dite (ℕ_discrete j c)
        (λ p. ap (slice_get (slots_of places set)) p
        ∙ (slot_found places set c (suc i) there
        ∙ (ap (λ o. Some (slot_in o)) (get-set_same entries i e old.0 old.1)
        ∙ (sym (get-set_same (slots_of places entries) c (slot_of e) (slot_at entries (suc i)) (slot_found places entries c (suc i) there))
        ∙ ap (slice_get (slice_set (slots_of places entries) c (slot_of e))) (sym p)))))
        (λ n. slice_get-map (slot_at set) places j
        ∙ (same_at (slot_at set) (slot_at entries) j refl (λ k d g q. ap slot_in (get-set_other entries i k e
        (λ b. n (sym q ∙ (ap (λ (x : Entry). x.cell) (some_other k d old.0 (slice_get entries i) (ap (slice_get entries) (sym b) ∙ g)
        old.1) ∙ old.2)))))
        ∙ (sym (slice_get-map (slot_at entries) places j) ∙ sym (get-set_other (slots_of places entries) c j (slot_of e) n)))))

    pub set_indexed : IsIndexed places set
    set_indexed =
        record {
          each = λ k d g. dite (ℕ_discrete k i)
              (λ p. let same : e ≡ d = some_other k e d (slice_get set i) (get-set_same entries i e old.0 old.1)
              (ap (slice_get set) (sym p) ∙ g) in
              ap (slice_get places) (ap (λ (x : Entry). x.cell) (sym same) ∙ at) ∙ (there ∙ ap (λ n. Some (suc n)) (sym p)))
              (λ n. ix.each k d (sym (get-set_other entries i k e n) ∙ g));
          placed = λ j k g. dite (ℕ_discrete k i)
              (λ p. let d = ix.placed j k g in (
                e,
                ap (slice_get set) p ∙ get-set_same entries i e old.0 old.1,
                at ∙ (sym old.2 ∙ (ap (λ (x : Entry). x.cell)
                    (some_other k old.0 d.0 (slice_get entries i) old.1 (ap (slice_get entries) (sym p) ∙ d.1)) ∙ d.2)),
              ))
              (λ n. let d = ix.placed j k g in (d.0, get-set_other entries i k e n ∙ d.1, d.2));
          count = ix.count ∙ sym (length-slice_set entries i e);
        }

-- ---- all is thrown away

pub wiped_indexed : (places after : List ℕ) → IsWiped places after → IsIndexed after []
wiped_indexed places after w =
    record {
      each = λ k e g. absurd (cc);
      placed = λ c k g. let l = get_within after c (suc k) g in
          let a : 0 ≡ suc k = some_number (slice_get after c) 0 (suc k) (w.1 c l) g in absurd (omega (arith, a));
      count = count_wiped after w.1;
    }

pub wiped_blank : (places after : List ℕ) → IsWiped places after → IsBlank (slots_of after [])
wiped_blank places after w c = go (slice_get after c) (λ n e. some_number (slice_get after c) n 0 e (w.1 c (get_within after c n e)))
    (slice_get-map (slot_at []) after c)
  where
    go : (o : Option ℕ) → ((n : ℕ) → o ≡ Some n → n ≡ 0) → slice_get (slots_of after []) c ≡ option_map (slot_at []) o
        → (word_seen (slots_of after []) c ≡ None) × (value_kept (slots_of after []) c ≡ None)
    go None z e = (
      ap (λ (o : Option Slot). option_and_then (λ (s : Slot). s.word) o) e,
      ap
          (λ (o : Option Slot). option_and_then (λ (s : Slot). s.kept) o) e,
    )
    go (Some n) z e =
        let f : slice_get (slots_of after []) c ≡ Some blank = e ∙ ap (λ k. Some (slot_at [] k)) (z n refl) in (
          ap (λ (o : Option Slot). option_and_then (λ (s : Slot). s.word) o) f,
          ap
              (λ (o : Option Slot). option_and_then (λ (s : Slot). s.kept) o) f,
        )

-- ---- the values are thrown away

pub unwritten_indexed : (places : List ℕ) (entries : List Entry) → IsIndexed places entries → IsIndexed places (map unwritten entries)
unwritten_indexed places entries ix =
    record {
      each = λ k e g. go k e (slice_get entries k) (λ d h. ix.each k d h) (sym (slice_get-map unwritten entries k) ∙ g);
      placed = λ c k g. let d = ix.placed c k g in
          (unwritten d.0, slice_get-map unwritten entries k ∙ ap (option_map unwritten) d.1, d.2);
      count = ix.count ∙ sym (map_length unwritten entries);
    }
  where
    go : (k : ℕ) (e : Entry) (o : Option Entry) → ((d : Entry) → o ≡ Some d → slice_get places d.cell ≡ Some (suc k)) → option_map
        unwritten o ≡ Some e
        → slice_get places e.cell ≡ Some (suc k)
    go k e None h g = absurd (cc)
    go k e (Some d) h g =
        let p : unwritten d ≡ e = cc in ap (λ (x : Entry). slice_get places x.cell) (sym p) ∙ h d refl

abbrev unwritten_slot : Slot → Slot
unwritten_slot s = record s { kept = None }

unwritten_at : (entries : List Entry) (n : ℕ) → slot_at (map unwritten entries) n ≡ unwritten_slot (slot_at entries n)
unwritten_at entries zero = refl
unwritten_at entries (suc k) = ap slot_in (slice_get-map unwritten entries k) ∙ go (slice_get entries k)
  where
    go : (o : Option Entry) → slot_in (option_map unwritten o) ≡ unwritten_slot (slot_in o)
    go None = refl
    go (Some e) = refl

module _ (places : List ℕ) (entries : List Entry) where
  abbrev first : List Slot
  first = slots_of places entries

  abbrev now : List Slot
  now = slots_of places (map unwritten entries)

  slot_now : (c : ℕ) → slice_get now c ≡ option_map unwritten_slot (slice_get first c)
  slot_now c =
      slice_get-map (slot_at (map unwritten entries)) places c
      ∙ (go (slice_get places c) ∙ ap (option_map unwritten_slot) (sym (slice_get-map (slot_at entries) places c)))
    where
      go : (o : Option ℕ) → option_map (slot_at (map unwritten entries)) o ≡ option_map unwritten_slot (option_map (slot_at entries) o)
      go None = refl
      go (Some n) = ap (λ (s : Slot). Some s) (unwritten_at entries n)

  no_value : (c : ℕ) → value_kept now c ≡ None
  no_value c = ap (λ (o : Option Slot). option_and_then (λ (s : Slot). s.kept) o) (slot_now c) ∙ go (slice_get first c)
    where
      go : (o : Option Slot) → option_and_then (λ (s : Slot). s.kept) (option_map unwritten_slot o) ≡ None
      go None = refl
      go (Some s) = refl

  same_word : (c : ℕ) → word_seen now c ≡ word_seen first c
  same_word c = ap (λ (o : Option Slot). option_and_then (λ (s : Slot). s.word) o) (slot_now c) ∙ go (slice_get first c)
    where
      go : (o : Option Slot) → option_and_then (λ (s : Slot). s.word) (option_map unwritten_slot o) ≡ option_and_then
          (λ (s : Slot). s.word) o
      go None = refl
      go (Some s) = refl

  pub forgotten : HasForgotten first now
  forgotten = (
    λ t k. (
      λ c. same_word c ∙ k.0 c,
      λ c is. let a : true ≡ false = sym is ∙ ap is_some (no_value c) in absurd (cc),
      λ c w is. k.2 c w (sym (same_word c) ∙ is),
    ),
    no_value,
    same_word,
    no_writes now (length now) (λ c a b. no_value c),
    map_length (slot_at (map unwritten entries)) places ∙ sym (map_length (slot_at entries) places),
  )

-- ---- the loops over the entries

-- the values of the first n entries are thrown away
abbrev pub DroppedTo : List Entry → List Entry → ℕ → Type 0
DroppedTo first now n =
    (length now ≡ length first) × ((k : ℕ) → k < n → slice_get now k ≡ option_map unwritten (slice_get first k))
    × ((k : ℕ) → n ≤ k → slice_get now k ≡ slice_get first k)

pub dropped_all : (first now : List Entry) (n : ℕ) → length now ≤ n → DroppedTo first now n → now ≡ map unwritten first
dropped_all first now n l p = same_list now (map unwritten first)
    (λ k. ⊎_elim (λ (a : k < n). p.1 k a ∙ sym (slice_get-map unwritten first k))
    (λ (a : n ≤ k). past now k (omega arith) ∙ sym
    (past (map unwritten first) k (let b = map_length unwritten first in omega (arith, b, p.0)))) (cases_lt k n))
  where
    past : (xs : List Entry) (k : ℕ) → length xs ≤ k → slice_get xs k ≡ None
    past xs k l = slice_get_past xs k l

-- the cells of the first n entries have no place any more, and the others have theirs
abbrev pub WipedTo : List ℕ → List Entry → List ℕ → ℕ → Type 0
WipedTo places entries now n =
    (length now ≡ length places)
    × ((c : ℕ) → (c < length now → slice_get now c ≡ Some 0)
    ⊎ ((slice_get now c ≡ slice_get places c) × ((k : ℕ) (e : Entry) → k < n → slice_get entries k ≡ Some e → e.cell ≢ c)))

pub wiped_next : (places : List ℕ) (entries : List Entry) (now : List ℕ) (n : ℕ) (d : Entry) →
    ((f : Entry) → slice_get entries n ≡ Some f → f ≡ d)
    → WipedTo places entries now n → WipedTo places entries (slice_set now d.cell 0) (n + 1)
wiped_next places entries now n d is p = (
  length-slice_set now d.cell 0 ∙ p.0,
  λ c. dite (ℕ_discrete c d.cell)
      (λ q. inl (λ m. ap (slice_get (slice_set now d.cell 0)) q
      ∙ (let y = get_exists now d.cell (let a = length-slice_set now d.cell 0 in omega (arith, a, m, q)) in get-set_same now d.cell 0 y.0
      y.1)))
      (λ q. ⊎_elim (λ h. inl (λ m. get-set_other now d.cell c 0 q ∙ h (let a = length-slice_set now d.cell 0 in omega (arith, a, m))))
      (λ h. inr (
        get-set_other now d.cell c 0 q ∙ h.0,
        λ k f m g s. dite (ℕ_discrete k n)
            (λ z. let same : f ≡ d = is f (ap (slice_get entries) (sym z) ∙ g) in
            q (sym s ∙ ap (λ (x : Entry). x.cell) same))
            (λ z. h.1 k f (omega (arith, z)) g s),
      )) (p.1 c)),
)

pub wiped_all : (places : List ℕ) (entries : List Entry) (now : List ℕ) (n : ℕ) → IsIndexed places entries → length entries ≤ n → WipedTo
    places entries now n
    → IsWiped places now
wiped_all places entries now n ix l p = (
  p.0,
  λ c m. ⊎_elim (λ h. h m) (λ h. h.0 ∙ go c h.1 (get_exists places c (omega (arith, m, p.0)))) (p.1 c),
)
  where
    go : (c : ℕ) → ((k : ℕ) (e : Entry) → k < n → slice_get entries k ≡ Some e → e.cell ≢ c) → (y : ℕ) × (slice_get places c ≡ Some y) →
        slice_get places c ≡ Some 0
    go c h y = at y.0 y.1
      where
        at : (y : ℕ) → slice_get places c ≡ Some y → slice_get places c ≡ Some 0
        at zero q = q
        at (suc k) q =
            let d = ix.placed c k q in
            absurd (h k d.0 (let a = get_within entries k d.0 d.1 in omega (arith, a)) d.1 d.2)

-- ---- the functions of the slots

take_none : (n : ℕ) (xs : List ℕ) → xs ≡ [] → take n xs ≡ []
take_none zero xs e = refl
take_none (suc n) [] e = refl
take_none (suc n) (x ∷ xs) e = absurd (cc)

pub zeros_filled : (n m : ℕ) (xs : List ℕ) → xs ≡ [] → m ≡ 0 → take n xs ++ replicate (n - m) 0 ≡ replicate n 0
zeros_filled n m xs e z =
    ap (λ (ys : List ℕ). ys ++ replicate (n - m) 0) (take_none n xs e) ∙ ap (λ (k : ℕ). replicate k 0)
    (let a : n - m ≡ n = omega (arith, z) in a)

pub zeros_wiped : (n : ℕ) → IsWiped (replicate n 0) (replicate n 0)
zeros_wiped n = (refl, λ c l. go n c l)
  where
    go : (n c : ℕ) → c < length {A = ℕ} (replicate n 0) → slice_get {X = ℕ} (replicate n 0) c ≡ Some 0
    go zero c l = absurd (omega arith)
    go (suc n) zero l = refl
    go (suc n) (suc c) l = go n c (omega arith)

module _ (places : List ℕ) (entries : List Entry) (ix : IsIndexed places entries) (cell n : ℕ) (l : cell < length (slots_of places entries))
    (is : n ≡ slice_index_or places cell n) where
  abbrev slots : List Slot
  slots = slots_of places entries

  within : cell < length places
  within = let a = map_length (slot_at entries) places in omega (arith, a, l)

  place_found : slice_get places cell ≡ Some n
  place_found =
      let x = get_exists places cell within in
      x.1 ∙ ap (λ (y : ℕ). Some y) (sym (get_or_from_slice_get places cell x.0 n x.1) ∙ sym is)

  pub read_placed : word_seen slots cell ≢ None → n ≢ 0
  read_placed r z =
      r (ap (λ (o : Option Slot). option_and_then (λ (s : Slot). s.word) o)
      (slot_found places entries cell n place_found ∙ ap (λ k. Some (slot_at entries k)) z))

  module _ (none : n ≡ 0) where
    new : slice_get places cell ≡ Some 0
    new = place_found ∙ ap (λ (y : ℕ). Some y) none

    pub room_left : length entries < length places
    room_left = let a = count_within places cell new in let b = ix.count in omega (arith, a, b)

    unseen : slice_get slots cell ≡ Some blank
    unseen = slot_found places entries cell 0 new

    module _ (word m : ℕ) (more : List Entry) (long : m ≡ length entries + 1)
        (pushed : more ≡ entries ++ record { cell = cell; word = word; kept = None } ∷ []) where
      abbrev e : Entry
      e = record { cell = cell; word = word; kept = None }

      next : suc (length entries) ≡ m
      next = omega (arith, long)

      pub noted_indexed : IsIndexed (slice_set places cell m) more
      noted_indexed =
          subst (λ es. IsIndexed (slice_set places cell m) es) (sym pushed)
          (subst (λ k. IsIndexed (slice_set places cell k) (entries ++ e ∷ [])) next (pushed_indexed places entries ix cell e refl new))

      pub noted_new : word % 2 ≡ 0 → HasNoted slots (slots_of (slice_set places cell m) more) cell word
      noted_new even =
          subst (λ es. HasNoted slots (slots_of (slice_set places cell m) es) cell word) (sym pushed)
          (subst (λ k. HasNoted slots (slots_of (slice_set places cell k) (entries ++ e ∷ [])) cell word) next
          (subst (λ s. HasNoted slots s cell word) (sym (pushed_view places entries ix cell e refl new))
          (is_noted slots cell word None l even (sym (ap (λ (o : Option Slot). option_and_then (λ (s : Slot). s.kept) o) unseen)))))

  module _ (some : n ≢ 0) where
    there : slice_get places cell ≡ Some (suc (n - 1))
    there = place_found ∙ ap (λ (y : ℕ). Some y) (let e : n ≡ suc (n - 1) = omega (arith, some) in e)

    pub entry_within : n - 1 < length entries
    entry_within = let x = ix.placed cell (n - 1) there in get_within entries (n - 1) x.0 x.1

    module _ (d : Entry) (at : d ≡ slice_index_or entries (n - 1) d) where
      entry_is : slice_get entries (n - 1) ≡ Some d
      entry_is =
          let x = ix.placed cell (n - 1) there in
          x.1 ∙ ap (λ (y : Entry). Some y) (sym (get_or_from_slice_get entries (n - 1) x.0 d x.1) ∙ sym at)

      slot_is : slice_get slots cell ≡ Some (slot_of d)
      slot_is = slot_found places entries cell (suc (n - 1)) there ∙ ap (λ o. Some (slot_in o)) entry_is

      pub entry_seen : (word_seen slots cell ≡ Some d.word) × (value_kept slots cell ≡ d.kept)
      entry_seen = (
        ap (λ (o : Option Slot). option_and_then (λ (s : Slot). s.word) o) slot_is,
        ap (λ (o : Option Slot). option_and_then (λ (s : Slot). s.kept) o) slot_is,
      )

      pub noted_again : (word : ℕ) → word % 2 ≡ 0
          → HasNoted slots (slots_of places (slice_set entries (n - 1) (record { cell = cell; word = word; kept = d.kept }))) cell word
      noted_again word even =
          subst (λ s. HasNoted slots s cell word) (sym
          (set_view places entries ix cell (record { cell = cell; word = word; kept = d.kept }) refl (n - 1) there))
          (is_noted slots cell word d.kept l even (sym entry_seen.1))

      pub value_kept_new : (value : ℕ) → was_read slots cell ≡ true
          → HasKept slots (slots_of places (slice_set entries (n - 1) (record { cell = cell; word = d.word; kept = Some value }))) cell
          value
      value_kept_new value read =
          subst (λ s. HasKept slots s cell value) (sym
          (set_view places entries ix cell (record { cell = cell; word = d.word; kept = Some value }) refl (n - 1) there))
          (is_kept slots cell value (Some d.word) l (sym entry_seen.0) read)

    pub entry_set : (e : Entry) → e.cell ≡ cell → IsIndexed places (slice_set entries (n - 1) e)
    entry_set e same = set_indexed places entries ix cell e same (n - 1) there

pub indexed_within : (places : List ℕ) (entries : List Entry) → IsIndexed places entries → length entries ≤ length places
indexed_within places entries ix = let a = count_all places in let b = ix.count in omega (arith, a, b)

pub entry_bound : (places : List ℕ) (entries : List Entry) → IsIndexed places entries → (k : ℕ) (d : Entry) → k < length entries
    → (slice_index_or entries k d).cell < length places
entry_bound places entries ix k d l =
    let x = get_exists entries k l in
    let a : x.0.cell < length places = get_within places x.0.cell (suc k) (ix.each k x.0 x.1) in
    subst (λ (e : Entry). e.cell < length places) (sym (get_or_from_slice_get entries k x.0 d x.1)) a
