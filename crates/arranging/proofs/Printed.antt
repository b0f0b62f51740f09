-- Items that were printed, one behind the other.
use Rattle.std.proofs.Common.{◌≡◌, ◌∙◌, ℕ, ◌+◌, ◌-◌, ◌<◌, List, [], ◌∷◌, ◌++◌, length, drop, take, get_or, refl, sym, ap, subst}
use Rattle.std.proofs.Common.{append-nil, append_assoc, arith, min, ◌≤◌, inl, inr}
use Rattle.std.specs.Prelude.{slice_range, nat_le}
use Rattle.std.specs.List.{flat_map, AllZip}
use Rattle.std.proofs.lemmas.Grind.{flat_map-append}
use Rattle.std.proofs.lemmas.List.{drop_more, length-drop, take_all, take_more, drop_all}
use Rattle.std.proofs.lemmas.Bool.{cases_Bool, leb-true, leb-false}
use Rattle.giving.specs.Staying.{Change}
use Rattle.items.specs.declared.reading.Item.{Item as Found}
use Rattle.items.specs.Items.{Item}
use Rattle.items.specs.Reading.{AreFound}
use Rattle.items.specs.Rewriting.{ReadsThen}
use Rattle.items.specs.Machine.{IsPut}
use Rattle.items.proofs.PutThen.{zip_more}
use Rattle.items.proofs.Found.{many_found}
use Rattle.arranging.specs.declared.coming.Placed.TheVariants.{Stays, Goes as Leaves}
use Rattle.arranging.specs.declared.coming.Placed.{Placed}
use Rattle.arranging.specs.Parts.{Edited}
use Rattle.arranging.specs.Arranged.{ReadThen, Says, IsLayout}
use Rattle.arranging.specs.Printing.{SaysNext}

-- a stretch goes no farther than the list
pub clamped : {A : Type 0} (xs : List A) (first end e : ℕ) → e ≡ min end (length xs) → slice_range xs first e ≡ slice_range xs first end
clamped xs first end e is = elim (cases_Bool (nat_le end (length xs))) [
  | inl y ↦
      let le = leb-true end (length xs) y in
      let same : e ≡ end = omega (arith, le, is) in
      ap (λ n. slice_range xs first n) same
  | inr n ↦
      let lt = leb-false end (length xs) n in
      let many = length-drop first xs in
      let one : length (drop first xs) ≤ e - first = omega (arith, lt, is, many) in
      let other : length (drop first xs) ≤ end - first = omega (arith, lt, many) in
      take_all (e - first) (drop first xs) one ∙ sym (take_all (end - first) (drop first xs) other)
]

pub nothing_between : {A : Type 0} (xs : List A) (first end : ℕ) → end ≤ first → slice_range xs first end ≡ []
nothing_between xs first end le = let none : end - first ≡ 0 = omega (arith, le) in ap (λ n. take n (drop first xs)) none

module _ (cs proofs : List Change) where
  one_more : (xs : List Item) (x : Item) (old now : List ℕ) → ReadThen cs proofs xs old → ReadsThen cs proofs x now
      → ReadThen cs proofs (xs ++ x ∷ []) (old ++ now)
  one_more xs x old now r reads = record {
    texts = r.texts ++ now ∷ [];
    each = zip_more (ReadsThen cs proofs) xs r.texts x now r.each reads;
    whole =
        ap (λ o. o ++ now) r.whole
        ∙ sym (flat_map-append (λ t. t) r.texts (now ∷ []) ∙ ap (λ o. flat_map (λ t. t) r.texts ++ o) (append-nil now));
  }

  -- one item more was put
  pub put_more : (xs ys : List Item) (x : Item) (old mid new : List ℕ) → ys ≡ xs ++ x ∷ [] → IsPut old mid (ReadThen cs proofs xs)
      → IsPut mid new (ReadsThen cs proofs x) → IsPut old new (ReadThen cs proofs ys)
  put_more xs ys x old mid new e p q = (
    p.0 ++ q.0,
    q.1 ∙ (ap (λ o. o ++ q.0) p.1 ∙ append_assoc old p.0 q.0),
    subst (λ zs. ReadThen cs proofs zs (p.0 ++ q.0)) (sym e) (one_more xs x p.0 q.0 p.2 q.2),
  )

  read_one : (x : Item) (texts : List (List ℕ)) (text : List ℕ) → AllZip (ReadsThen cs proofs) (x ∷ []) texts
      → text ≡ flat_map (λ t. t) texts → ReadsThen cs proofs x text
  read_one x [] text all e = absurd all
  read_one x (t ∷ []) text all e = subst (ReadsThen cs proofs x) (sym (e ∙ append-nil t)) all.0
  read_one x (t ∷ u ∷ us) text all e = absurd all.1

  module _ (source : List ℕ) (fs : List Found) (old : List Item) (found : AreFound source 0 fs old) (place : ℕ) (lt : place < length fs)
    where
      next : drop place old ≡ get_or old place [] ∷ drop (place + 1) old
      next = let many = many_found source 0 fs old found in drop_more old place [] (omega (arith, many, lt))

      -- the next item of the source
      pub stays_next : (now : List ℕ) → ReadThen cs proofs (slice_range old place (place + 1)) now
          → SaysNext cs proofs old Stays place (place + 1) now
      stays_next now r = λ rest ps later h.
          let one : place + 1 - place ≡ 1 = omega arith in
          let only = ap (λ n. take n (drop place old)) one ∙ ap (take 1) next in
          let all = subst (λ xs. ReadThen cs proofs xs now) only r in
          subst (λ xs. Says cs proofs old rest xs (Stays ∷ ps) (now ++ later)) (sym next)
          (now, later, read_one (get_or old place []) all.texts now all.each all.whole, h, refl)

      -- the next of the source leaves its place
      pub goes_next : SaysNext cs proofs old Leaves place (place + 1) []
      goes_next = λ rest ps later h. subst (λ xs. Says cs proofs old rest xs (Leaves ∷ ps) later) (sym next) h

-- ---- layouts, item by item

module _ (e : Edited) (source : List ℕ) (fs : List Found) (old : List Item) (found : AreFound source 0 fs old) (place : ℕ)
    (ps : List Placed)
  where
    -- a layout goes on behind an item
    module _ (lt : place < length fs) where
      many : place < length old
      many = let same = many_found source 0 fs old found in omega (arith, same, lt)

      cut : drop place old ≡ get_or old place [] ∷ drop (place + 1) old
      cut = drop_more old place [] many

      taken : take place old ++ get_or old place [] ∷ [] ≡ take (place + 1) old
      taken = sym (take_more old place [] many)

      pub stays_on : IsLayout e (take place old) (drop place old) (Stays ∷ ps) → IsLayout e (take (place + 1) old) (drop (place + 1) old) ps
      stays_on h =
          subst (λ xs. IsLayout e xs (drop (place + 1) old) ps) taken
          (subst (λ xs. IsLayout e (take place old) xs (Stays ∷ ps)) cut h).1

      pub goes_on : IsLayout e (take place old) (drop place old) (Leaves ∷ ps) → IsLayout e (take (place + 1) old) (drop (place + 1) old) ps
      goes_on h =
          subst (λ xs. IsLayout e xs (drop (place + 1) old) ps) taken
          (subst (λ xs. IsLayout e (take place old) xs (Leaves ∷ ps)) cut h).1

    -- and has no item behind the last
    module _ (le : length fs ≤ place) where
      over : drop place old ≡ []
      over = let same = many_found source 0 fs old found in drop_all place old (omega (arith, same, le))

      pub none_stays : IsLayout e (take place old) (drop place old) (Stays ∷ ps) → ⊥
      none_stays h = subst (λ xs. IsLayout e (take place old) xs (Stays ∷ ps)) over h

      pub none_goes : IsLayout e (take place old) (drop place old) (Leaves ∷ ps) → ⊥
      none_goes h = subst (λ xs. IsLayout e (take place old) xs (Leaves ∷ ps)) over h
