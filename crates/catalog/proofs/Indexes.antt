-- A map that has the place of each label, after changes of the map and of a place.
use Rattle.std.proofs.Common.{◌≡◌, ℕ, Bool, true, false, cond, List, [], ◌∷◌, ◌++◌, Option, None, Some, length, set, refl, sym, ap}
use Rattle.std.proofs.Common.{zero, suc, subst, ◌∙◌, ◌⊎◌, inl, inr}
use Rattle.std.specs.Option.{IsSome, is_some}
use Rattle.std.specs.Str.{bytes_eq}
use Rattle.std.proofs.lemmas.Bool.{cases_Bool, cases_eq, cond-true, cond-false}
use Rattle.mmsyntax.proofs.Names.{same_bytes, bytes_eq-same}
use Rattle.library.specs.declared.library.Ranked.{Ranked}
use Rattle.library.specs.Library.{label_of}
use Rattle.library.specs.Edits.{has}
use Rattle.catalog.specs.Entries.{Entries, living, StandsIn}
use Rattle.catalog.specs.Places.{Places, place_in, IsIndex, Puts, KeepsLabels, FoundAt, StandsSomewhere}
use Rattle.catalog.specs.Changes.{IsAlone, CanStand}
use Rattle.catalog.proofs.Living.{one-place, has-not-at}
use Rattle.catalog.proofs.Changing.{get-set_is, get-set_other}

-- ---- alone

-- an assertion that stands is the only one with its label
pub stands-alone : (m : Places) (es : Entries) (p : ℕ) (e : Ranked) → IsIndex m es → StandsIn es p e → IsAlone es (label_of e) p
stands-alone m es p e x at = record {
  others = λ q f here ne. elim (cases_Bool (bytes_eq (label_of e) (label_of f))) [
    | inl y ↦ absurd (ne (sym (one-place m es p q e f x at here (same_bytes (label_of e) (label_of f) y))))
    | inr n ↦ n
  ];
}

-- so is one whose label is free
pub free-alone : (es : Entries) (w : List ℕ) (p : ℕ) → has (living es) w ≡ false → IsAlone es w p
free-alone es w p free = record { others = λ q f at ne. has-not-at es w q f free at }

abbrev pub IsAloneIn : Entries → Option Ranked → ℕ → Type 0
IsAloneIn es None p = Unit {0}
IsAloneIn es (Some e) p = IsAlone es (label_of e) p

pub stand-alone : (m : Places) (es : Entries) (p : ℕ) (o : Option Ranked) → CanStand m es p o → IsAloneIn es o p
stand-alone m es p None h = tt
stand-alone m es p (Some e) h = h.0

-- ---- maps

-- the map n is m with the place for the label of what is put there
abbrev pub PutsAt : Places → Option Ranked → ℕ → Places → Type 0
PutsAt m None p n = (q : List ℕ) → place_in n q ≡ place_in m q
PutsAt m (Some e) p n = Puts m (label_of e) p n

-- a map that has the place already
pub puts-same : (m : Places) (w : List ℕ) (p : ℕ) → place_in m w ≡ Some p → Puts m w p m
puts-same m w p h q =
    elim (cases_Bool (bytes_eq w q)) [
      | inl y ↦ ap (place_in m) (sym (same_bytes w q y)) ∙ h ∙ sym (cond-true (bytes_eq w q) (Some p) (place_in m q) y)
      | inr n ↦ sym (cond-false (bytes_eq w q) (Some p) (place_in m q) n)
    ]

some_cond : (b : Bool) (p : ℕ) (o : Option ℕ) → IsSome o → IsSome (cond b (Some p) o)
some_cond true p o h = refl
some_cond false p o h = h

pub puts-keeps : (m n : Places) (w : List ℕ) (p : ℕ) → Puts m w p n → KeepsLabels m n
puts-keeps m n w p h = record { keeps = λ q some. subst (λ o. IsSome o) (sym (h q)) (some_cond (bytes_eq w q) p (place_in m q) some) }

pub puts_at-keeps : (m n : Places) (o : Option Ranked) (p : ℕ) → PutsAt m o p n → KeepsLabels m n
puts_at-keeps m n None p h = record { keeps = λ q some. subst (λ o. IsSome o) (sym (h q)) some }
puts_at-keeps m n (Some e) p h = puts-keeps m n (label_of e) p h

-- ---- changes

-- a place has something else
pub index-set : (m n : Places) (es : Entries) (p : ℕ) (new : Option Ranked) → IsIndex m es → IsAloneIn es new p → PutsAt m new p n
    → IsIndex n (set es p new)
index-set m n es p None x alone h = record {
  finds = λ i e at. elim (cases_eq i p) [
    | inl same ↦
        let none : None ≡ Some e = get-set_is es p None (Some e) (subst (λ (k : ℕ). StandsIn (set es p None) k e) same at) in
        absurd cc
    | inr ne ↦ h (label_of e) ∙ x.finds i e (sym (get-set_other es p i None ne) ∙ at)
  ];
}
index-set m n es p (Some f) x alone h = record {
  finds = λ i e at. elim (cases_eq i p) [
    | inl same ↦
        let here : Some f ≡ Some e = get-set_is es p (Some f) (Some e) (subst (λ (k : ℕ). StandsIn (set es p (Some f)) k e) same at) in
        let own : f ≡ e = cc in
        let w = label_of f in
        ap (λ (k : Ranked). place_in n (label_of k)) (sym own) ∙ h w
        ∙ cond-true (bytes_eq w w) (Some p) (place_in m w) (bytes_eq-same w) ∙ ap (λ k. Some k) (sym same)
    | inr ne ↦
        let was : StandsIn es i e = sym (get-set_other es p i (Some f) ne) ∙ at in
        h (label_of e) ∙ cond-false (bytes_eq (label_of f) (label_of e)) (Some p) (place_in m (label_of e)) (alone.others i e was ne)
        ∙ x.finds i e was
  ];
}

-- the map lost a label that no assertion has
pub index-forgot : (m n : Places) (es : Entries) (w : List ℕ) → IsIndex m es → has (living es) w ≡ false
    → ((q : List ℕ) → place_in n q ≡ cond (bytes_eq w q) None (place_in m q)) → IsIndex n es
index-forgot m n es w x free h = record {
  finds = λ i e at. h (label_of e) ∙ cond-false (bytes_eq w (label_of e)) None (place_in m (label_of e)) (has-not-at es w i e free at)
      ∙ x.finds i e at;
}

-- what stands behind one more place
pub pushed-cases : (es : Entries) (o : Option Ranked) (i : ℕ) (f : Ranked) → StandsIn (es ++ o ∷ []) i f
    → StandsIn es i f ⊎ ((i ≡ length es) × (o ≡ Some f))
pushed-cases [] o zero f h = inr (refl, cc)
pushed-cases [] o (suc i) f h = absurd cc
pushed-cases (x ∷ xs) o zero f h = inl h
pushed-cases (x ∷ xs) o (suc i) f h =
    elim (pushed-cases xs o i f h) [
      | inl at ↦ inl at
      | inr last ↦ inr (ap (λ n. suc n) last.0, last.1)
    ]

pub index-opened : (m : Places) (es : Entries) → IsIndex m es → IsIndex m (es ++ None ∷ [])
index-opened m es x = record {
  finds = λ i e at. elim (pushed-cases es None i e at) [
    | inl was ↦ x.finds i e was
    | inr last ↦ absurd (let none : None ≡ Some e = last.1 in cc)
  ];
}

-- one more assertion, with a label that was free
pub index-pushed : (m n : Places) (es : Entries) (e : Ranked) → IsIndex m es → has (living es) (label_of e) ≡ false
    → Puts m (label_of e) (length es) n → IsIndex n (es ++ Some e ∷ [])
index-pushed m n es e x free h =
    let w = label_of e in
    record {
      finds = λ i f at. elim (pushed-cases es (Some e) i f at) [
        | inl was ↦ h (label_of f) ∙ cond-false (bytes_eq w (label_of f)) (Some (length es)) (place_in m (label_of f))
            (has-not-at es w i f free was) ∙ x.finds i f was
        | inr last ↦
            let own : e ≡ f = cc in
            ap (λ (k : Ranked). place_in n (label_of k)) (sym own) ∙ h w
            ∙ cond-true (bytes_eq w w) (Some (length es)) (place_in m w) (bytes_eq-same w)
            ∙ ap (λ k. Some k) (sym last.0)
      ];
    }

-- ---- a map that lost a label

none_some : (o : Option ℕ) → o ≡ None → IsSome o → ⊥
none_some None e h = absurd cc
none_some (Some p) e h = absurd cc

pub removed_fewer : (m n : Places) (w : List ℕ) → ((q : List ℕ) → place_in n q ≡ cond (bytes_eq w q) None (place_in m q)) → KeepsLabels n m
removed_fewer m n w h = record {
  keeps = λ q some. elim (cases_Bool (bytes_eq w q)) [
    | inl y ↦ absurd (none_some (place_in n q) (h q ∙ cond-true (bytes_eq w q) None (place_in m q) y) some)
    | inr other ↦ subst (λ o. IsSome o) (h q ∙ cond-false (bytes_eq w q) None (place_in m q) other) some
  ];
}

pub removed_gone : (m n : Places) (w : List ℕ) → ((q : List ℕ) → place_in n q ≡ cond (bytes_eq w q) None (place_in m q))
    → IsSome (place_in n w) → ⊥
removed_gone m n w h some = none_some (place_in n w) (h w ∙ cond-true (bytes_eq w w) None (place_in m w) (bytes_eq-same w)) some

-- ---- what a look-up found

pub found_none : (es : Entries) (w : List ℕ) (o : Option ℕ) → FoundAt es w o → false ≡ is_some o → has (living es) w ≡ false
found_none es w None h e = h
found_none es w (Some p) h e = absurd cc

pub found_some : (es : Entries) (w : List ℕ) (o : Option ℕ) → FoundAt es w o → true ≡ is_some o → StandsSomewhere es w
found_some es w None h e = absurd cc
found_some es w (Some p) h e = (p, h)
