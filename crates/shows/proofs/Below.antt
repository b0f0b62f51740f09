-- The assertions that are held in slots below a number, and what is told of each of them: what one slot more adds.
use Rattle.std.proofs.Common.{◌≡◌, ◌≢◌, ◌<◌, ◌+◌, ℕ, true, false, cond, nat_eq, List, [], ◌∷◌, ◌++◌, map, refl, sym}
use Rattle.std.proofs.Common.{ap, subst, ◌∙◌, inl, inr, arith}
use Rattle.std.specs.Prelude.{nat_lt, filter, All, Contains, IsPermutation}
use Rattle.std.specs.Str.{bytes_eq}
use Rattle.std.proofs.lemmas.Bool.{cases_lt, cond-true, cond-false, le-ltb}
use Rattle.std.proofs.lemmas.Bool.Decides.{Decides-ltb}
use Rattle.std.proofs.lemmas.List.{map-append}
use Rattle.std.proofs.lemmas.List.Elements.{All-head, All-tail, All-weaker}
use Rattle.std.proofs.lemmas.List.Sorted.{IsPermutation-refl, IsPermutation-sym, IsPermutation-trans, IsPermutation-cons}
use Rattle.std.proofs.lemmas.List.Sorted.{IsPermutation-to_front, IsPermutation-map, IsPermutation-append_left}
use Rattle.mmsyntax.specs.Assertions.{Distinct}
use Rattle.library.specs.declared.library.Ranked.{Ranked}
use Rattle.library.specs.Library.{label_of}
use Rattle.ranges.specs.Ranges.{Has, AreOfOneStore}
use Rattle.cells.specs.State.{State, most_words}
use Rattle.cells.specs.Shows.{Held, slots_of, entries_of, Holds, IsEmpty, Shows}
use Rattle.cells.specs.Sight.{Sight, Looks, after}
use Rattle.cells.specs.Lookups.{ForEach, ForEachHeld, IfFull}
use Rattle.cells.proofs.Sights.{looks_trans, for_each_later}
use Rattle.cells.proofs.Settings.{same_slots}
use Rattle.ranges.proofs.Members.{has_mapped, absent}
use Rattle.cells.proofs.Holding.{empty_free}
use Rattle.groundwork.proofs.Holders.{held_here}

-- those in slots below a number
abbrev pub held_below : ℕ → List Held → List Held
held_below k held = filter (λ p. nat_lt p.slot k) held

below_other : (x k : ℕ) → x ≢ k → nat_lt x (k + 1) ≡ nat_lt x k
below_other x k ne =
    elim (cases_lt x k) [
      | inl lt ↦ (Decides-ltb x (k + 1)).1 (omega arith) ∙ sym ((Decides-ltb x k).1 lt)
      | inr le ↦ le-ltb x (k + 1) (omega arith) ∙ sym (le-ltb x k le)
    ]

below_none : (held : List Held) → held_below 0 held ≡ []
below_none [] = refl
below_none (p ∷ held) =
    cond-false (nat_lt p.slot 0) (p ∷ held_below 0 held) (held_below 0 held) (le-ltb p.slot 0 (omega arith)) ∙ below_none held

-- all of them, where each slot is below the number
below_all : (n : ℕ) (held : List Held) → All (λ (p : Held). p.slot < n) held → held_below n held ≡ held
below_all n [] h = refl
below_all n (p ∷ held) h =
    cond-true (nat_lt p.slot n) (p ∷ held_below n held) (held_below n held)
    ((Decides-ltb p.slot n).1 (All-head (λ (q : Held). q.slot < n) p held h))
    ∙ ap (λ (ps : List Held). p ∷ ps) (below_all n held (All-tail (λ (q : Held). q.slot < n) p held h))

-- a slot that none is held in adds none
below_same : (k : ℕ) (held : List Held) → (Has k (slots_of held) → ⊥) → held_below (k + 1) held ≡ held_below k held
below_same k [] free = refl
below_same k (p ∷ held) free =
    let rest = below_same k held (λ h. free (inr h)) in
    let same = below_other p.slot k (λ e. free (inl (sym e))) in
    λ i. cond (same i) (p ∷ rest i) (rest i)

-- any other adds the one that is held in it
below_more : (k : ℕ) (held : List Held) (p : Held) → Distinct nat_eq (slots_of held) → Has p held → p.slot ≡ k
    → IsPermutation (held_below (k + 1) held) (held_below k held ++ p ∷ [])
below_more k [] p apart h is = absurd h
below_more k (q ∷ held) p apart (inl e) is =
    let here : q.slot ≡ k = ap (λ (x : Held). x.slot) (sym e) ∙ is in
    let rest = below_same k held (λ h. absent (slots_of held) q.slot apart.0 (subst (λ n. Has n (slots_of held)) (sym here) h)) in
    let more : held_below (k + 1) (q ∷ held) ≡ q ∷ held_below k held =
    cond-true (nat_lt q.slot (k + 1)) (q ∷ held_below (k + 1) held) (held_below (k + 1) held) ((Decides-ltb q.slot (k + 1)).1 (omega arith))
    ∙ ap (λ (ps : List Held). q ∷ ps) rest in
    let now : held_below k (q ∷ held) ≡ held_below k held =
    cond-false (nat_lt q.slot k) (q ∷ held_below k held) (held_below k held) (le-ltb q.slot k (omega arith)) in
    let xs = held_below k held in
    subst (λ (ys : List Held). IsPermutation ys (held_below k (q ∷ held) ++ p ∷ [])) (sym more)
    (subst (λ (ys : List Held). IsPermutation (q ∷ xs) (ys ++ p ∷ [])) (sym now)
    (subst (λ (x : Held). IsPermutation (q ∷ xs) (xs ++ x ∷ [])) (sym e)
    (IsPermutation-sym (xs ++ q ∷ []) (q ∷ xs) (IsPermutation-to_front xs q))))
below_more k (q ∷ held) p apart (inr h) is =
    let ne : q.slot ≢ k =
    λ e. absent (slots_of held) q.slot apart.0
    (subst (λ n. Has n (slots_of held)) (is ∙ sym e) (has_mapped (λ (x : Held). x.slot) held p h)) in
    let rest = below_more k held p apart.1 h is in
    let xs = held_below (k + 1) held in
    let ys = held_below k held in
    subst (λ b. IsPermutation (cond b (q ∷ xs) xs) (cond (nat_lt q.slot k) (q ∷ ys) ys ++ p ∷ [])) (sym (below_other q.slot k ne))
    (elim (nat_lt q.slot k) as (λ b. IsPermutation (cond b (q ∷ xs) xs) (cond b (q ∷ ys) ys ++ p ∷ [])) [
      | true ↦ IsPermutation-cons q xs (ys ++ p ∷ []) rest
      | false ↦ rest
    ])

-- ---- what is told of each

-- an assertion may be told of itself
abbrev pub itself : List Ranked → Ranked → Ranked
itself lib e = e

module _ {A : Type 0} (tell : List Ranked → Ranked → A) (slots : ℕ) where
  -- it is told of those in slots below a number, in whatever order
  abbrev pub AreToldBelow : ℕ → List A → State → List Ranked → Type 0
  AreToldBelow k made st lib = (shows : Shows slots st lib) → IsPermutation (map (tell lib) (entries_of (held_below k shows.held))) made

  pub told_none : (made : List A) (st : State) (lib : List Ranked) → made ≡ [] → AreToldBelow 0 made st lib
  told_none made st lib none shows =
      subst (IsPermutation (map (tell lib) (entries_of (held_below 0 shows.held)))) (sym none)
      (subst (λ (ps : List Held). IsPermutation (map (tell lib) (entries_of ps)) []) (sym (below_none shows.held)) (IsPermutation-refl []))

  told_all : (made : List A) (st : State) (lib : List Ranked) → Shows slots st lib → AreToldBelow slots made st lib
      → IsPermutation (map (tell lib) lib) made
  told_all made st lib shows told =
      let within =
      All-weaker (λ (p : Held). Holds slots st lib p.slot p.entry) (λ (p : Held). p.slot < slots) (λ p h. h.name.within) shows.held
      shows.holds in
      let all : entries_of (held_below slots shows.held) ≡ lib = ap entries_of (below_all slots shows.held within) ∙ shows.library in
      subst (λ (es : List Ranked). IsPermutation (map (tell lib) es) made) all (told shows)

  module _ (k : ℕ) (made : List A) (st : State) (lib : List Ranked) (store : AreOfOneStore most_words st.ranges) where
    -- of an empty slot nothing is told
    told_empty : IsEmpty slots st k → AreToldBelow k made st lib → AreToldBelow (k + 1) made st lib
    told_empty empty told shows =
        subst (λ (ps : List Held). IsPermutation (map (tell lib) (entries_of ps)) made)
        (sym (below_same k shows.held (empty_free slots st lib shows store k empty))) (told shows)

    -- of a full one, of what it holds
    told_full : Distinct bytes_eq (map label_of lib) → (e : Ranked) (x : A) (more : List A) → Contains lib e → Holds slots st lib k e
        → x ≡ tell lib e → more ≡ made ++ x ∷ [] → AreToldBelow k made st lib → AreToldBelow (k + 1) more st lib
    told_full apart e x more at holds own push told shows =
        let p = held_here slots st lib shows store apart k e at holds in
        let below = held_below k shows.held in
        let entry = λ (q : Held). q.entry in
        let xs = map (tell lib) (entries_of below) in
        let there = IsPermutation-map (tell lib) (entries_of (held_below (k + 1) shows.held)) (entries_of (below ++ p.0 ∷ []))
        (IsPermutation-map entry (held_below (k + 1) shows.held) (below ++ p.0 ∷ []) (below_more k shows.held p.0 shows.apart p.1 p.2)) in
        let last : tell lib p.0.entry ≡ x = ap (tell lib) p.3 ∙ sym own in
        let parts : map (tell lib) (entries_of (below ++ p.0 ∷ [])) ≡ xs ++ x ∷ [] =
        ap (map (tell lib)) (map-append entry below (p.0 ∷ [])) ∙ map-append (tell lib) (entries_of below) (p.0.entry ∷ [])
        ∙ ap (λ (y : A). xs ++ y ∷ []) last in
        IsPermutation-trans (map (tell lib) (entries_of (held_below (k + 1) shows.held))) (xs ++ x ∷ []) more
        (subst (IsPermutation (map (tell lib) (entries_of (held_below (k + 1) shows.held)))) parts there)
        (subst (IsPermutation (xs ++ x ∷ [])) (sym push) (IsPermutation-append_left (x ∷ []) xs made (told shows)))

-- ---- slot by slot

module _ {A : Type 0} (tell : List Ranked → Ranked → A) {O : Type 0} (r s : Sight O) (slots k : ℕ) (is : slots ≡ s.setting.slots)
    (looks : Looks r s) (made : List A) (told : ForEach r (AreToldBelow tell slots k made)) where
  pub one_empty : IfFull s k false → ForEach s (AreToldBelow tell slots (k + 1) made)
  one_empty empty st lib v =
      told_empty tell slots k made (after s st) lib v.matches.store (subst (λ n. IsEmpty n (after s st) k) (sym is) (empty st lib v))
      (for_each_later r s (AreToldBelow tell slots k made) looks told st lib v)

  pub one_full : (t : Sight O) → Looks s t → IfFull s k true → (x : A) (more : List A) → ForEachHeld t k (λ st lib e. x ≡ tell lib e)
      → more ≡ made ++ x ∷ [] → ForEach t (AreToldBelow tell slots (k + 1) more)
  one_full t on full x more own push st lib v =
      let held = for_each_later s t (λ y es. (e : Ranked) × Holds s.setting.slots y es k e × Contains es e) on full st lib v in
      let e = held.0 in
      let there = subst (λ n. Holds n (after t st) lib k e) (sym (same_slots s t on)) held.1 in
      let here = subst (λ n. Holds n (after t st) lib k e) (sym is) held.1 in
      told_full tell slots k made (after t st) lib v.matches.store v.verifies.library.distinct e x more held.2 here
      (own st lib v e held.2 there) push
      (for_each_later r t (AreToldBelow tell slots k made) (looks_trans r s t looks on) told st lib v)

-- behind the last slot it is told of the whole library
pub whole_told : {A : Type 0} → (tell : List Ranked → Ranked → A) {O : Type 0} (r s : Sight O) (k : ℕ) (made : List A) → Looks r s
    → k ≡ r.setting.slots → ForEach s (AreToldBelow tell r.setting.slots k made)
    → ForEach s (λ st lib. IsPermutation (map (tell lib) lib) made)
whole_told tell r s k made looks last told st lib v =
    let same = sym (same_slots r s looks) in
    told_all tell s.setting.slots made (after s st) lib v.shows
    (subst (λ n. AreToldBelow tell n n made (after s st) lib) same
    (subst (λ n. AreToldBelow tell r.setting.slots n made (after s st) lib) last (told st lib v)))
