-- A layout that grows, item by item.
use Rattle.std.proofs.Common.{◌≡◌, ◌∙◌, ℕ, zero, suc, ◌<◌, ◌≤◌, ◌+◌, Bool, true, false, List, [], ◌∷◌, ◌++◌}
use Rattle.std.proofs.Common.{take, drop, length, get_or, refl, sym, ap, subst, append_assoc, append-nil, add-one, drop-cons}
use Rattle.std.specs.Prelude.{◌↔◌, IsTrue}
use Rattle.std.proofs.lemmas.List.{map-append, drop_all}
use Rattle.std.proofs.lemmas.Bool.{false≢true}
use Rattle.leaving.specs.Leaving.{Goes, AreGoing}
use Rattle.leaving.specs.declared.part.Part.{Part}
use Rattle.items.specs.Items.{Item}
use Rattle.arranging.specs.declared.coming.Placed.{Placed}
use Rattle.arranging.specs.Parts.{Edited, parts, part_of}
use Rattle.arranging.specs.Arranged.{IsLayout}
use Rattle.arranging.specs.Places.{GoesOn, item_placed}

-- ---- lists

cut : {A : Type 0} (xs : List A) (i : ℕ) (x : A) (rest : List A) → drop i xs ≡ x ∷ rest
    → (take (suc i) xs ≡ take i xs ++ x ∷ []) × (drop (suc i) xs ≡ rest)
cut [] zero x rest h = absurd cc
cut [] (suc i) x rest h = absurd cc
cut (y ∷ xs) zero x rest h = (cc, cc)
cut (y ∷ xs) (suc i) x rest h = let later = cut xs i x rest h in (ap (λ l. y ∷ l) later.0, later.1)

-- ---- who leaves

next_goes : (e : Edited) (before after : List Item) (g : Bool) (gs : List Bool) → AreGoing (parts e before) (parts e after) (g ∷ gs)
    → (x : Item) × (rest : List Item) × (after ≡ x ∷ rest)
    × (IsTrue g ↔ Goes (parts e before) (part_of e.gone e.moving x) (parts e rest))
    × AreGoing (parts e (before ++ x ∷ [])) (parts e rest) gs
next_goes e before [] g gs h = absurd cc
next_goes e before (x ∷ rest) g gs h = (
  x,
  rest,
  refl,
  h.0,
  subst (λ ps. AreGoing ps (parts e rest) gs) (sym (map-append (part_of e.gone e.moving) before (x ∷ []))) h.1,
)

none_goes : (e : Edited) (before : List Part) (after : List Item) → AreGoing before (parts e after) [] → after ≡ []
none_goes e before [] h = refl
none_goes e before (x ∷ after) h = absurd h

abbrev pub GoesFrom : Edited → List Item → List Bool → ℕ → Type 0
GoesFrom e old goes i = AreGoing (parts e (take i old)) (parts e (drop i old)) (drop i goes)

-- ---- a layout

-- an item stays or leaves
placed_so : (e : Edited) (before rest : List Item) (x : Item) (g : Bool) (ps : List Placed)
    → (IsTrue g ↔ Goes (parts e before) (part_of e.gone e.moving x) (parts e rest)) → IsLayout e (before ++ x ∷ []) rest ps
    → IsLayout e before (x ∷ rest) (item_placed g ∷ ps)
placed_so e before rest x true ps goes h = (goes.0 refl, h)
placed_so e before rest x false ps goes h = ((λ leaves. absurd (false≢true (goes.1 leaves))), h)

module _ (e : Edited) (old : List Item) (i : ℕ) (x : Item) (rest : List Item) (at : drop i old ≡ x ∷ rest) where
  up_to : take (i + 1) old ≡ take i old ++ x ∷ []
  up_to = ap (λ k. take k old) (add-one i) ∙ (cut old i x rest at).0

  behind : drop (i + 1) old ≡ rest
  behind = ap (λ k. drop k old) (add-one i) ∙ (cut old i x rest at).1

  goes_later : (gs : List Bool) → AreGoing (parts e (take i old ++ x ∷ [])) (parts e rest) gs
      → AreGoing (parts e (take (i + 1) old)) (parts e (drop (i + 1) old)) gs
  goes_later gs h =
      subst (λ xs. AreGoing (parts e xs) (parts e (drop (i + 1) old)) gs) (sym up_to)
      (subst (λ xs. AreGoing (parts e (take i old ++ x ∷ [])) (parts e xs) gs) (sym behind) h)

  lays_later : (layout : List Placed) (g : Bool)
      → (IsTrue g ↔ Goes (parts e (take i old)) (part_of e.gone e.moving x) (parts e rest)) → GoesOn e old layout i
      → GoesOn e old (layout ++ item_placed g ∷ []) (i + 1)
  lays_later layout g goes on ps h =
      let here =
      subst (λ xs. IsLayout e (take i old ++ x ∷ []) xs ps) behind (subst (λ xs. IsLayout e xs (drop (i + 1) old) ps) up_to h) in
      let later =
      subst (λ xs. IsLayout e (take i old) xs (item_placed g ∷ ps)) (sym at) (placed_so e (take i old) rest x g ps goes here) in
      subst (IsLayout e [] old) (sym (append_assoc layout (item_placed g ∷ []) ps)) (on (item_placed g ∷ ps) later)

module _ (e : Edited) (old : List Item) (layout : List Placed) (goes : List Bool) (i : ℕ) where
  pub item_on : (g : Bool) → i < length goes → GoesFrom e old goes i → GoesOn e old layout i
      → GoesFrom e old goes (i + 1) × GoesOn e old (layout ++ item_placed (get_or goes i g) ∷ []) (i + 1)
  item_on g lt from on =
      let now = get_or goes i g in
      let first = drop-cons goes i g lt ∙ ap (λ k. now ∷ drop k goes) (sym (add-one i)) in
      let flags = subst (λ gs. AreGoing (parts e (take i old)) (parts e (drop i old)) gs) first from in
      let next = next_goes e (take i old) (drop i old) now (drop (i + 1) goes) flags in (
        goes_later e old i next.0 next.1 next.2 (drop (i + 1) goes) next.4,
        lays_later e old i next.0 next.1 next.2 layout now next.3 on,
      )

  pub all_on : length goes ≤ i → GoesFrom e old goes i → GoesOn e old layout i → IsLayout e [] old layout
  all_on past from on =
      let flags = subst (λ gs. AreGoing (parts e (take i old)) (parts e (drop i old)) gs) (drop_all i goes past) from in
      subst (IsLayout e [] old) (append-nil layout) (on [] (none_goes e (parts e (take i old)) (drop i old) flags))
