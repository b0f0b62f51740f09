-- What the places of a library have after one of them was changed, and which library that is.
use Rattle.std.proofs.Common.{◌≡◌, ℕ, zero, suc, ◌+◌, ◌<◌, ◌≤◌, Bool, true, false, List, [], ◌∷◌, ◌++◌, Option, None, Some, length, map}
use Rattle.std.proofs.Common.{set}
use Rattle.std.proofs.Common.{refl, sym, ap, subst, ◌∙◌, arith, append-nil}
use Rattle.std.specs.List.{slice_get}
use Rattle.std.specs.Option.{option_map, is_some}
use mathlib.Core.Bool.{not}
use mir.Val.{bool_byte}
use Rattle.std.proofs.lemmas.Bool.{cond-true, cond-false}
use Rattle.std.proofs.lemmas.List.Elements.{filter_map-append}
use Rattle.mmsyntax.proofs.Distinct.{or_false}
use Rattle.library.specs.declared.library.Ranked.{Ranked}
use Rattle.library.specs.Edits.{has, is_labelled, changed, without}
use Rattle.catalog.specs.Entries.{Entries, living, standing, StandsIn}
use Rattle.catalog.specs.Changes.{IsAlone, changed_at, changed_all}
use Rattle.catalog.proofs.Living.{none-has}

-- ---- one place of a list

module _ {A : Type 0} where
  pub get-set_same : (xs : List A) (p : ℕ) (y : A) → p < length xs → slice_get (set xs p y) p ≡ Some y
  get-set_same [] p y within = absurd (omega arith)
  get-set_same (x ∷ xs) zero y within = refl
  get-set_same (x ∷ xs) (suc p) y within = get-set_same xs p y (omega arith)

  pub get-set_other : (xs : List A) (p q : ℕ) (y : A) → (q ≡ p → ⊥) → slice_get (set xs p y) q ≡ slice_get xs q
  get-set_other [] p q y ne = refl
  get-set_other (x ∷ xs) zero zero y ne = absurd (ne refl)
  get-set_other (x ∷ xs) zero (suc q) y ne = refl
  get-set_other (x ∷ xs) (suc p) zero y ne = refl
  get-set_other (x ∷ xs) (suc p) (suc q) y ne = get-set_other xs p q y (λ e. ne (ap (λ n. suc n) e))

  pub get-set_is : (xs : List A) (p : ℕ) (y z : A) → slice_get (set xs p y) p ≡ Some z → y ≡ z
  get-set_is [] p y z h = absurd cc
  get-set_is (x ∷ xs) zero y z h = cc
  get-set_is (x ∷ xs) (suc p) y z h = get-set_is xs p y z h

  -- what stood there is given back
  pub set-back : (xs : List A) (p : ℕ) (x y : A) → slice_get xs p ≡ Some x → set (set xs p y) p x ≡ xs
  set-back [] p x y h = refl
  set-back (z ∷ zs) zero x y h =
      let same : x ≡ z = cc in
      ap (λ w. w ∷ zs) same
  set-back (z ∷ zs) (suc p) x y h = ap (λ ws. z ∷ ws) (set-back zs p x y h)

  pub get-left : (xs ys : List A) (p : ℕ) (z : A) → slice_get xs p ≡ Some z → slice_get (xs ++ ys) p ≡ Some z
  get-left [] ys p z h = absurd cc
  get-left (x ∷ xs) ys zero z h = h
  get-left (x ∷ xs) ys (suc p) z h = get-left xs ys p z h

  pub get-last : (xs : List A) (x : A) → slice_get (xs ++ x ∷ []) (length xs) ≡ Some x
  get-last [] x = refl
  get-last (y ∷ xs) x = get-last xs x

  pub set-last : (xs : List A) (x y : A) → set (xs ++ x ∷ []) (length xs) y ≡ xs ++ y ∷ []
  set-last [] x y = refl
  set-last (z ∷ xs) x y = ap (λ ws. z ∷ ws) (set-last xs x y)

  pub set-left : (xs ys : List A) (p : ℕ) (y : A) → p < length xs → set (xs ++ ys) p y ≡ set xs p y ++ ys
  set-left [] ys p y within = absurd (omega arith)
  set-left (x ∷ xs) ys zero y within = refl
  set-left (x ∷ xs) ys (suc p) y within = ap (λ ws. x ∷ ws) (set-left xs ys p y (omega arith))

-- ---- the library

pub living-standing : (lib : List Ranked) → living (standing lib) ≡ lib
living-standing [] = refl
living-standing (e ∷ es) = ap (λ xs. e ∷ xs) (living-standing es)

-- an empty place behind the others
pub living-opened : (es : Entries) → living (es ++ None ∷ []) ≡ living es
living-opened es = filter_map-append (λ o. o) es (None ∷ []) ∙ append-nil (living es)

pub living-pushed : (es : Entries) (e : Ranked) → living (es ++ Some e ∷ []) ≡ living es ++ e ∷ []
living-pushed es e = filter_map-append (λ o. o) es (Some e ∷ [])

pub living-all : (f : Ranked → Ranked) (es : Entries) → living (changed_all f es) ≡ map f (living es)
living-all f [] = refl
living-all f (None ∷ es) = living-all f es
living-all f (Some e ∷ es) = ap (λ xs. f e ∷ xs) (living-all f es)

-- ---- one assertion that has a label

pub alone-later : (o : Option Ranked) (es : Entries) (w : List ℕ) (p : ℕ) → IsAlone (o ∷ es) w (suc p) → IsAlone es w p
alone-later o es w p a = record { others = λ q f at ne. a.others (suc q) f at (λ e. ne (omega arith)) }

pub alone-first : (o : Option Ranked) (es : Entries) (w : List ℕ) → IsAlone (o ∷ es) w zero → has (living es) w ≡ false
alone-first o es w a = none-has es w (λ q f at. a.others (suc q) f at (λ e. omega arith))

changed-none : (w : List ℕ) (f : Ranked → Ranked) (lib : List Ranked) → has lib w ≡ false → changed w f lib ≡ lib
changed-none w f [] h = refl
changed-none w f (e ∷ es) h =
    let both = or_false (is_labelled w e) (has es w) h in
    ap (λ x. x ∷ changed w f es) (cond-false (is_labelled w e) (f e) e both.0) ∙ ap (λ xs. e ∷ xs) (changed-none w f es both.1)

-- it is changed
pub living-changed : (es : Entries) (w : List ℕ) (p : ℕ) (f : Ranked → Ranked) (e : Ranked) → StandsIn es p e → is_labelled w e ≡ true
    → IsAlone es w p → living (set es p (Some (f e))) ≡ changed w f (living es)
living-changed [] w p f e at own alone = absurd cc
living-changed (None ∷ es) w zero f e at own alone = absurd cc
living-changed (None ∷ es) w (suc p) f e at own alone = living-changed es w p f e at own (alone-later None es w p alone)
living-changed (Some x ∷ es) w zero f e at own alone =
    let same : e ≡ x = cc in
    let here : is_labelled w x ≡ true = subst (λ (y : Ranked). is_labelled w y ≡ true) same own in
    ap (λ y. f y ∷ living es) same
    ∙ ap (λ y. y ∷ living es) (sym (cond-true (is_labelled w x) (f x) x here))
    ∙ ap (λ ys. changed w f (x ∷ []) ++ ys) (sym (changed-none w f (living es) (alone-first (Some x) es w alone)))
living-changed (Some x ∷ es) w (suc p) f e at own alone =
    let other = alone.others zero x refl (λ z. omega arith) in
    ap (λ y. y ∷ living (set es p (Some (f e)))) (sym (cond-false (is_labelled w x) (f x) x other))
    ∙ ap (λ ys. changed w f (x ∷ []) ++ ys) (living-changed es w p f e at own (alone-later (Some x) es w p alone))

without-none : (w : List ℕ) (lib : List Ranked) → has lib w ≡ false → without w lib ≡ lib
without-none w [] h = refl
without-none w (e ∷ es) h =
    let both = or_false (is_labelled w e) (has es w) h in
    cond-true (not (is_labelled w e)) (e ∷ without w es) (without w es) (ap not both.0) ∙ ap (λ xs. e ∷ xs) (without-none w es both.1)

-- it is removed
pub living-removed : (es : Entries) (w : List ℕ) (p : ℕ) (e : Ranked) → StandsIn es p e → is_labelled w e ≡ true
    → IsAlone es w p → living (set es p None) ≡ without w (living es)
living-removed [] w p e at own alone = absurd cc
living-removed (None ∷ es) w zero e at own alone = absurd cc
living-removed (None ∷ es) w (suc p) e at own alone = living-removed es w p e at own (alone-later None es w p alone)
living-removed (Some x ∷ es) w zero e at own alone =
    let same : e ≡ x = cc in
    let here : is_labelled w x ≡ true = subst (λ (y : Ranked). is_labelled w y ≡ true) same own in
    sym (cond-false (not (is_labelled w x)) (x ∷ without w (living es)) (without w (living es)) (ap not here)
    ∙ without-none w (living es) (alone-first (Some x) es w alone))
living-removed (Some x ∷ es) w (suc p) e at own alone =
    let other = alone.others zero x refl (λ z. omega arith) in
    ap (λ ys. x ∷ ys) (living-removed es w p e at own (alone-later (Some x) es w p alone))
    ∙ sym (cond-true (not (is_labelled w x)) (x ∷ without w (living es)) (without w (living es)) (ap not other))

-- ---- how many there are

pub count-changed : (es : Entries) (p : ℕ) (e x : Ranked) → StandsIn es p e → length (living (set es p (Some x))) ≡ length (living es)
count-changed [] p e x at = absurd cc
count-changed (None ∷ es) zero e x at = absurd cc
count-changed (None ∷ es) (suc p) e x at = count-changed es p e x at
count-changed (Some y ∷ es) zero e x at = refl
count-changed (Some y ∷ es) (suc p) e x at = ap (λ n. suc n) (count-changed es p e x at)

pub count-removed : (es : Entries) (p : ℕ) (e : Ranked) → StandsIn es p e → suc (length (living (set es p None))) ≡ length (living es)
count-removed [] p e at = absurd cc
count-removed (None ∷ es) zero e at = absurd cc
count-removed (None ∷ es) (suc p) e at = count-removed es p e at
count-removed (Some y ∷ es) zero e at = refl
count-removed (Some y ∷ es) (suc p) e at = ap (λ n. suc n) (count-removed es p e at)

pub count-put : (es : Entries) (p : ℕ) (x : Ranked) → slice_get es p ≡ Some None
    → length (living (set es p (Some x))) ≡ suc (length (living es))
count-put [] p x at = absurd cc
count-put (None ∷ es) zero x at = refl
count-put (None ∷ es) (suc p) x at = count-put es p x at
count-put (Some y ∷ es) zero x at = absurd cc
count-put (Some y ∷ es) (suc p) x at = ap (λ n. suc n) (count-put es p x at)

-- there are at most as many as places
pub count-within : (es : Entries) → length (living es) ≤ length es
count-within [] = omega arith
count-within (None ∷ es) = let rest = count-within es in omega arith
count-within (Some e ∷ es) = let rest = count-within es in omega arith

-- ---- a change of each in turn

pub changed-set : (f : Ranked → Ranked) (p : ℕ) (es : Entries) (o : Option Ranked) → slice_get es p ≡ Some o
    → set es p (option_map f o) ≡ changed_at p f es
changed-set f p [] o at = refl
changed-set f zero (x ∷ es) o at =
    let same : o ≡ x = cc in
    ap (λ y. option_map f y ∷ es) same
changed-set f (suc p) (x ∷ es) o at = ap (λ xs. x ∷ xs) (changed-set f p es o at)

-- a change that does nothing
pub changed-nothing : (f : Ranked → Ranked) (p : ℕ) (es : Entries) → ((e : Ranked) → StandsIn es p e → f e ≡ e) → changed_at p f es ≡ es
changed-nothing f p [] h = refl
changed-nothing f zero (None ∷ es) h = refl
changed-nothing f zero (Some e ∷ es) h = ap (λ x. Some x ∷ es) (h e refl)
changed-nothing f (suc p) (x ∷ es) h = ap (λ xs. x ∷ xs) (changed-nothing f p es h)

-- the first i places changed
abbrev pub changed_below : ℕ → (Ranked → Ranked) → Entries → Entries
changed_below zero f es = es
changed_below (suc i) f [] = []
changed_below (suc i) f (o ∷ os) = option_map f o ∷ changed_below i f os

pub length-changed_below : (i : ℕ) (f : Ranked → Ranked) (es : Entries) → length (changed_below i f es) ≡ length es
length-changed_below zero f es = refl
length-changed_below (suc i) f [] = refl
length-changed_below (suc i) f (o ∷ os) = ap (λ n. suc n) (length-changed_below i f os)

-- one more
pub changed_below-next : (i : ℕ) (f : Ranked → Ranked) (es : Entries) → changed_at i f (changed_below i f es) ≡ changed_below (suc i) f es
changed_below-next zero f [] = refl
changed_below-next zero f (o ∷ os) = refl
changed_below-next (suc i) f [] = refl
changed_below-next (suc i) f (o ∷ os) = ap (λ xs. option_map f o ∷ xs) (changed_below-next i f os)

pub changed_below-all : (i : ℕ) (f : Ranked → Ranked) (es : Entries) → length es ≤ i → changed_below i f es ≡ changed_all f es
changed_below-all zero f [] h = refl
changed_below-all zero f (o ∷ os) h = absurd (omega arith)
changed_below-all (suc i) f [] h = refl
changed_below-all (suc i) f (o ∷ os) h = ap (λ xs. option_map f o ∷ xs) (changed_below-all i f os (omega arith))

-- there is one more where the place was empty, and else as many
pub count-into : (es : Entries) (p : ℕ) (former : Option Ranked) (x : Ranked) (b : Bool) → slice_get es p ≡ Some former
    → is_some former ≡ not b
    → length (living (set es p (Some x))) ≡ length (living es) + bool_byte b
count-into es p None x true at h = let one = count-put es p x at in omega arith
count-into es p None x false at h = absurd cc
count-into es p (Some e) x true at h = absurd cc
count-into es p (Some e) x false at h = let one = count-changed es p e x at in omega arith
