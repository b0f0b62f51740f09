-- The tables with other marks.
use Rattle.std.proofs.Common.{◌≡◌, inl, inr, ℕ, zero, suc, ◌-◌, ◌<◌, Bool, true, false, cond, List, [], ◌∷◌, length, take, map, reverse}
use Rattle.std.proofs.Common.{Option, Some, None, refl, sym, ap, ◌∙◌, subst, arith}
use Rattle.std.specs.Prelude.{◌||◌, ◌&&◌, filter}
use Rattle.std.specs.List.{AllByRecursion, list_any, slice_get}
use Rattle.std.specs.Option.{option_map, option_map_or, unwrap_or}
use Rattle.std.proofs.lemmas.List.{take-map, length-map}
use Rattle.std.proofs.lemmas.Option.{slice_get-map}
use Rattle.std.proofs.Math.ListN.{set}
use Rattle.std.proofs.lemmas.Bool.{cases_Bool, and_parts}
use Rattle.mmtext.specs.Words.{Word}
use Rattle.source.specs.Scopes.{Scope}
use Rattle.scopes.specs.declared.tables.Name.{Name}
use Rattle.scopes.specs.declared.tables.Active.{Active}
use Rattle.scopes.specs.Paths.{path}
use Rattle.scopes.specs.Found.{Found, passes_at}
use Rattle.scopes.specs.Views.{Linked, Kept, active_of, hypothesis_at, scopes_around, scope_of, stand_of}
use Rattle.scopes.specs.Sound.{KnowsWord, IsSound, AreNested, last_link}
use Rattle.scopes.proofs.Found.{none_passes, some_passes, found_any}
use Rattle.scopes.proofs.Growing.{sizes_of, Agree, around_stays}

-- the numbers of active hypotheses
abbrev pub numbers : List Active → List ℕ
numbers xs = map (λ a. a.link) xs

active_numbers : (links : List Linked) (xs : List Active) → active_of links xs ≡ map (hypothesis_at links) (numbers xs)
active_numbers links [] = refl
active_numbers links (x ∷ xs) = ap (λ rest. hypothesis_at links x.link ∷ rest) (active_numbers links xs)

pub same_active : (links : List Linked) (xs ys : List Active) → numbers xs ≡ numbers ys → active_of links xs ≡ active_of links ys
same_active links xs ys e = active_numbers links xs ∙ ap (map (hypothesis_at links)) e ∙ sym (active_numbers links ys)

last_numbers : (xs : List Active) → last_link xs ≡ slice_get (numbers xs) (length (numbers xs) - 1)
last_numbers xs = sym (slice_get-map (λ a. a.link) xs (length xs - 1)) ∙ ap (λ n. slice_get (numbers xs) (n - 1)) (sym (length-map xs _))

same_last : (xs ys : List Active) → numbers xs ≡ numbers ys → last_link xs ≡ last_link ys
same_last xs ys e = last_numbers xs ∙ ap (λ ns. slice_get ns (length ns - 1)) e ∙ sym (last_numbers ys)

same_take : (n : ℕ) (xs ys : List Active) → numbers xs ≡ numbers ys → numbers (take n xs) ≡ numbers (take n ys)
same_take n xs ys e = sym (take-map (λ a. a.link) n xs) ∙ ap (take n) e ∙ take-map (λ a. a.link) n ys

below_numbers : (m : ℕ) (xs : List Active) → AllByRecursion (λ a. a.link < m) xs → AllByRecursion (λ i. i < m) (numbers xs)
below_numbers m [] h = tt
below_numbers m (x ∷ xs) h = (h.0, below_numbers m xs h.1)

numbers_below : (m : ℕ) (xs : List Active) → AllByRecursion (λ i. i < m) (numbers xs) → AllByRecursion (λ a. a.link < m) xs
numbers_below m [] h = tt
numbers_below m (x ∷ xs) h = (h.0, numbers_below m xs h.1)

-- ---- other marks

abbrev pub with_active : Kept → List Active → Kept
with_active k xs = record k { active = xs }

same_length : (xs ys : List Active) → numbers xs ≡ numbers ys → length xs ≡ length ys
same_length xs ys e = sym (length-map xs (λ a. a.link)) ∙ ap length e ∙ length-map ys (λ a. a.link)

pub marked_scope : (k : Kept) (xs : List Active) → numbers xs ≡ numbers k.active → scope_of (with_active k xs) ≡ scope_of k
marked_scope k xs e = let hs : active_of k.links xs ≡ active_of k.links k.active = same_active k.links xs k.active e in cc

pub marked_sound : (look : Word → Option Name) (k : Kept) (xs : List Active) → IsSound look k → numbers xs ≡ numbers k.active
    → IsSound look (with_active k xs)
marked_sound look k xs s e = record {
  named = λ w. subst (λ (t : Scope). KnowsWord t w (look w)) (sym (marked_scope k xs e)) (s.named w);
  within = numbers_below (length k.links) xs
      (subst (λ (ns : List ℕ). AllByRecursion (λ i. i < length k.links) ns) (sym e) (below_numbers (length k.links) k.active s.within));
  listed = λ n. ap (path k.links) (same_last (take n xs) (take n k.active) (same_take n xs k.active e)) ∙ s.listed n
      ∙ sym (same_active k.links (take n xs) (take n k.active) (same_take n xs k.active e));
  apart = s.apart;
  numbered = s.numbered;
  nested = subst (λ (n : ℕ). AreNested (reverse k.blocks) (length k.aparts) (length k.constants) (length k.variables) n
      (length k.symbols) (length k.labels) (length k.entries)) (sym (same_length xs k.active e)) s.nested;
}

pub marked_stand : (look : Word → Option Name) (k : Kept) (xs : List Active) → IsSound look k → numbers xs ≡ numbers k.active
    → stand_of (with_active k xs) ≡ stand_of k
unfolding stand_of
marked_stand look k xs s e =
    let hs : active_of k.links xs ≡ active_of k.links k.active = same_active k.links xs k.active e in
    let agree : Agree k (with_active k xs) (length k.aparts) (sizes_of k) = record {
      constants = λ n le. refl;
      variables = λ n le. refl;
      hypotheses = λ n le. ap (take n) hs;
      pairs = λ o h. refl;
      symbols = λ n le. refl;
      labels = λ n le. refl;
      assertions = λ n le. refl;
    } in
    let around : scopes_around (with_active k xs) (reverse k.blocks) ≡ scopes_around k (reverse k.blocks) =
    around_stays k (with_active k xs) (length k.aparts) (reverse k.blocks) (sizes_of k) s.nested agree in
    let scope : scope_of (with_active k xs) ≡ scope_of k = marked_scope k xs e in
    cc

-- one mark
pub set_numbers : (xs : List Active) (i : ℕ) (a b : Active) → slice_get xs i ≡ Some a → b.link ≡ a.link → numbers (set xs i b) ≡ numbers xs
set_numbers [] i a b at e = absurd cc
set_numbers (x ∷ xs) zero a b at e = let same : x ≡ a = cc in ap (λ n. n ∷ numbers xs) (e ∙ ap (λ a. a.link) (sym same))
set_numbers (x ∷ xs) (suc i) a b at e = ap (λ rest. x.link ∷ rest) (set_numbers xs i a b at e)

pub set_marks : (xs : List Active) (i : ℕ) (b : Active)
    → map (λ a. a.is_mandatory) (set xs i b) ≡ set (map (λ a. a.is_mandatory) xs) i b.is_mandatory
set_marks [] i b = refl
set_marks (x ∷ xs) zero b = refl
set_marks (x ∷ xs) (suc i) b = ap (λ rest. x.is_mandatory ∷ rest) (set_marks xs i b)

-- ---- items that pass two tests

any_filter : {A : Type 0} (test q : A → Bool) (xs : List A) → list_any test (filter q xs) ≡ list_any (λ x. q x && test x) xs
any_filter test q [] = refl
any_filter {A} test q (x ∷ xs) =
    elim (q x) as (λ b. list_any test (cond b (x ∷ filter q xs) (filter q xs)) ≡ ((b && test x) || list_any (λ x. q x && test x) xs)) [
      | true ↦ ap (λ t. test x || t) (any_filter test q xs)
      | false ↦ any_filter test q xs
    ]

and_true : (b : Bool) → (b && true) ≡ b
and_true true = refl
and_true false = refl

read_both : {A : Type 0} (test q : A → Bool) (o : Option A) → option_map_or test o false ≡ true
    → option_map_or (λ x. q x && test x) o false ≡ unwrap_or (option_map q o) false
read_both test q None h = absurd cc
read_both test q (Some x) h = ap (λ b. q x && b) h ∙ and_true (q x)

-- where the noted place has an item that passes a test, one that passes another test too is there or nowhere
pub found_filter : {A : Type 0} (test q : A → Bool) (xs : List A) (i : ℕ) → Found test xs (Some i) → passes_at test xs (Some i) ≡ true
    → list_any test (filter q xs) ≡ unwrap_or (slice_get (map q xs) i) false
found_filter test q xs i h there =
    any_filter test q xs
    ∙ found_any (λ x. q x && test x) xs (Some i) (λ k x at both. h k x at (and_parts (q x) (test x) both).1)
    ∙ read_both test q (slice_get xs i) there
    ∙ ap (λ o. unwrap_or o false) (sym (slice_get-map q xs i))

pub none_filter : {A : Type 0} (test q : A → Bool) (xs : List A) → list_any test xs ≡ false → list_any test (filter q xs) ≡ false
none_filter {A} test q xs none =
    elim (cases_Bool (list_any test (filter q xs))) [
      | inl y ↦
          let r = some_passes (λ x. q x && test x) xs (sym (any_filter test q xs) ∙ y) in
          let fails : test r.1 ≡ false = none_passes test xs r.0 r.1 none r.2 in
          let passes : test r.1 ≡ true = (and_parts (q r.1) (test r.1) r.3).1 in
          absurd (let e : true ≡ false = sym passes ∙ fails in cc)
      | inr n ↦ n
    ]

-- ---- one more mark

pub mark_step : {A : Type 0} (q : A → Bool) (xs : List A) (marks : List Bool) (i : ℕ) → i < length marks → i < length xs
    → take i marks ≡ take i (map q xs)
    → take (suc i) (set marks i (unwrap_or (option_map q (slice_get xs i)) false)) ≡ take (suc i) (map q xs)
mark_step q [] marks i lt inside h = absurd (let l : i < 0 = inside in omega arith)
mark_step q (x ∷ xs) [] i lt inside h = absurd (let l : i < 0 = lt in omega arith)
mark_step q (x ∷ xs) (m ∷ ms) zero lt inside h = refl
mark_step q (x ∷ xs) (m ∷ ms) (suc i) lt inside h =
    let here : m ≡ q x = cc in
    let later : take i ms ≡ take i (map q xs) = cc in
    let rest = mark_step q xs ms i (let l : suc i < suc (length ms) = lt in omega arith) (let l : suc i < suc (length xs) =
    inside in omega arith)
    later in
    cc
