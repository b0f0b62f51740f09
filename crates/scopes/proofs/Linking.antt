-- The tables with one more hypothesis or $d: what was linked before stays.
use Rattle.std.proofs.Common.{◌≡◌, ◌⊎◌, inl, inr, ℕ, zero, suc, ◌-◌, ◌<◌, ◌≤◌, Bool, false, List, [], ◌∷◌, ◌++◌, length, take}
use Rattle.std.proofs.Common.{Option, Some, None, refl, sym, ap, ◌∙◌, subst, arith, length-append}
use Rattle.std.specs.List.{AllByRecursion, slice_get}
use Rattle.std.specs.Option.{option_map}
use Rattle.std.proofs.lemmas.List.{map-append, get_or_append_left, take-append-le, length_push, get_or_push}
use Rattle.std.proofs.lemmas.List.Elements.{All-from_recursion}
use Rattle.std.proofs.lemmas.Option.{slice_get_read, slice_get_within, get_or_from_slice_get}
use Rattle.std.proofs.Math.Seq.{get_or-append_seam, take-length}
use Rattle.source.specs.Scopes.{Hypothesis, label_of, mandatory}
use Rattle.scopes.specs.declared.tables.Active.{Active}
use Rattle.scopes.specs.Paths.{path, IsWithin}
use Rattle.scopes.specs.Views.{Linked, SetApart, Entry, Kept, hypothesis_at, hypotheses_at, active_of, assertion_of, assertions_of, scope_of}
use Rattle.scopes.specs.Sound.{IsSound, IsNumbered, last_link}
use Rattle.scopes.specs.Effects.{with_link}
use Rattle.scopes.proofs.Paths.{path_stays, path_grows}
use Rattle.scopes.proofs.Growing.{within_more}

-- ---- lists

pub all_map : {A : Type 0} (P Q : A → Type 0) → ((x : A) → P x → Q x) → (xs : List A) → AllByRecursion P xs → AllByRecursion Q xs
all_map P Q f [] h = tt
all_map P Q f (y ∷ ys) h = (f y h.0, all_map P Q f ys h.1)

pub all_take : {A : Type 0} (P : A → Type 0) (n : ℕ) (xs : List A) → AllByRecursion P xs → AllByRecursion P (take n xs)
all_take P zero xs h = tt
all_take P (suc n) [] h = tt
all_take P (suc n) (y ∷ ys) h = (h.0, all_take P n ys h.1)

pub take_past : {A : Type 0} (n : ℕ) (xs : List A) → length xs ≤ n → take n xs ≡ xs
take_past zero [] le = refl
take_past zero (y ∷ ys) le = absurd (let l : suc (length ys) ≤ 0 = le in omega arith)
take_past (suc n) [] le = refl
take_past (suc n) (y ∷ ys) le = ap (λ l. y ∷ l) (take_past n ys (let l : suc (length ys) ≤ suc n = le in omega arith))

pub split_at : (n m : ℕ) → (n ≤ m) ⊎ (m < n)
split_at zero m = inl (omega arith)
split_at (suc n) zero = inr (omega arith)
split_at (suc n) (suc m) = elim (split_at n m) [ inl le ↦ inl (omega arith) | inr lt ↦ inr (omega arith) ]

-- ---- the last link

pub last-push : (xs : List Active) (a : Active) → last_link (xs ++ a ∷ []) ≡ Some a.link
last-push xs a =
    let more = length_push xs a in
    let len : length (xs ++ a ∷ []) - 1 ≡ length xs = omega arith in
    let at : slice_get (xs ++ a ∷ []) (length xs) ≡ Some a =
    slice_get_read (xs ++ a ∷ []) _ (length xs) a refl (omega arith) (sym (get_or_push xs a a (length xs) refl)) in
    ap (λ n. option_map (λ a. a.link) (slice_get (xs ++ a ∷ []) n)) len ∙ ap (option_map (λ a. a.link)) at

within_some : (n : ℕ) (o : Option Active) → ((a : Active) → o ≡ Some a → a.link < n) → IsWithin (option_map (λ a. a.link) o) n
within_some n None h = tt
within_some n (Some a) h = h a refl

pub last_within : (n : ℕ) (xs : List Active) → AllByRecursion (λ a. a.link < n) xs → IsWithin (last_link xs) n
last_within n xs h =
    let i = length xs - 1 in
    within_some n (slice_get xs i)
    (λ a at. subst (λ (b : Active). b.link < n) (get_or_from_slice_get xs i a a at)
    (All-from_recursion (λ b. b.link < n) xs h i a (slice_get_within xs i a at)))

-- the path of the last link is the active hypotheses
pub all_listed : (links : List Linked) (active : List Active)
    → ((n : ℕ) → path links (last_link (take n active)) ≡ active_of links (take n active))
    → path links (last_link active) ≡ active_of links active
all_listed links active h =
    let all : take (length active) active ≡ active = take-length active in
    subst (λ xs. path links (last_link xs) ≡ active_of links xs) all (h (length active))

-- ---- active hypotheses

pub link_stays : (links : List Linked) (l : Linked) (i : ℕ) → i < length links
    → hypothesis_at (links ++ l ∷ []) i ≡ hypothesis_at links i
link_stays links l i lt = ap (λ p. p.1) (get_or_append_left links (l ∷ []) _ i lt)

pub active_stays : (links : List Linked) (l : Linked) (active : List Active) → AllByRecursion (λ a. a.link < length links) active
    → active_of (links ++ l ∷ []) active ≡ active_of links active
active_stays links l [] h = refl
active_stays links l (a ∷ others) h =
    let here : hypothesis_at (links ++ l ∷ []) a.link ≡ hypothesis_at links a.link = link_stays links l a.link h.0 in
    let rest = active_stays links l others h.1 in
    cc

pub active_grows : (links : List Linked) (l : Linked) (active : List Active) (mark : Bool)
    → AllByRecursion (λ a. a.link < length links) active
    → active_of (links ++ l ∷ []) (active ++ record { link = length links; is_mandatory = mark } ∷ []) ≡ active_of links active ++ l.1 ∷ []
active_grows links l active mark h =
    let new : Active = record { link = length links; is_mandatory = mark } in
    let f : Active → Hypothesis = λ a. hypothesis_at (links ++ l ∷ []) a.link in
    let seam : hypothesis_at (links ++ l ∷ []) (length links) ≡ l.1 = ap (λ p. p.1) (get_or-append_seam links l [] _) in
    map-append f active (new ∷ []) ∙ ap (λ xs. xs ++ f new ∷ []) (active_stays links l active h)
    ∙ ap (λ x. active_of links active ++ x ∷ []) seam

-- ---- assertions

pub entries_stay : (links more : List Linked) (aparts others : List SetApart) (es : List Entry)
    → AllByRecursion (IsNumbered links (length aparts)) es
    → ((o : Option ℕ) → IsWithin o (length links) → path more o ≡ path links o)
    → ((o : Option ℕ) → IsWithin o (length aparts) → path others o ≡ path aparts o)
    → assertions_of more others es ≡ assertions_of links aparts es
entries_stay links more aparts others [] h same apart = refl
entries_stay links more aparts others (e ∷ es) h same apart =
    let p : path more e.hypotheses ≡ path links e.hypotheses = same e.hypotheses h.0.hypotheses in
    let q : path others e.apart ≡ path aparts e.apart = apart e.apart h.0.apart in
    let here : assertion_of more others e ≡ assertion_of links aparts e = cc in
    let rest = entries_stay links more aparts others es h.1 same apart in
    cc

-- the hypotheses of numbers
pub hypotheses_stay : (links more : List Linked) (ns : List ℕ)
    → ((i : ℕ) → i < length links → hypothesis_at more i ≡ hypothesis_at links i)
    → AllByRecursion (λ i. i < length links) ns → hypotheses_at more ns ≡ hypotheses_at links ns
hypotheses_stay links more [] same h = refl
hypotheses_stay links more (i ∷ ns) same h =
    let here : hypothesis_at more i ≡ hypothesis_at links i = same i h.0 in
    let rest = hypotheses_stay links more ns same h.1 in
    cc

pub numbered_stay : (links more : List Linked) (m n : ℕ) (es : List Entry) → length links ≤ length more → m ≤ n
    → AllByRecursion (IsNumbered links m) es → ((o : Option ℕ) → IsWithin o (length links) → path more o ≡ path links o)
    → ((i : ℕ) → i < length links → hypothesis_at more i ≡ hypothesis_at links i)
    → AllByRecursion (IsNumbered more n) es
numbered_stay links more m n es longer le h same at = all_map (IsNumbered links m) (IsNumbered more n) (λ e c. record {
  hypotheses = within_more e.hypotheses (length links) (length more) longer c.hypotheses;
  apart = within_more e.apart m n le c.apart;
  mandatory_there = all_map (λ i. i < length links) (λ i. i < length more) (λ i lt. omega arith) e.mandatory_links c.mandatory_there;
  mandatory_are = hypotheses_stay links more e.mandatory_links at c.mandatory_there ∙ c.mandatory_are
      ∙ ap (λ hs. mandatory hs e.statement) (sym (same e.hypotheses c.hypotheses));
}) es h

-- ---- one more link

pub links_stay : (k : Kept) (h : Hypothesis) (o : Option ℕ) → IsWithin o (length k.links) → path (with_link k h).links o ≡ path k.links o
links_stay k h o within = path_stays k.links (last_link k.active, h) o within

-- the paths of the active hypotheses in front
pub listed_more : (look : _) (k : Kept) (h : Hypothesis) → IsSound look k
    → (n : ℕ) → path (with_link k h).links (last_link (take n (with_link k h).active))
    ≡ active_of (with_link k h).links (take n (with_link k h).active)
listed_more look k h s n =
    let j = with_link k h in
    let l : Linked = (last_link k.active, h) in
    let new : Active = record { link = length k.links; is_mandatory = false } in
    elim (split_at n (length k.active)) [
      | inl le ↦
          let front : take n j.active ≡ take n k.active = take-append-le n k.active (new ∷ []) le in
          let all = all_take (λ a. a.link < length k.links) n k.active s.within in
          ap (λ xs. path j.links (last_link xs)) front
          ∙ links_stay k h (last_link (take n k.active)) (last_within (length k.links) (take n k.active) all)
          ∙ s.listed n
          ∙ sym (active_stays k.links l (take n k.active) all)
          ∙ ap (active_of j.links) (sym front)
      | inr gt ↦
          let whole : take n j.active ≡ j.active =
          take_past n j.active (let len = length-append k.active (new ∷ []) in omega arith) in
          ap (λ xs. path j.links (last_link xs)) whole
          ∙ ap (path j.links) (last-push k.active new)
          ∙ path_grows k.links (last_link k.active) h
          ∙ ap (λ xs. xs ++ h ∷ []) (all_listed k.links k.active s.listed)
          ∙ sym (active_grows k.links l k.active false s.within)
          ∙ ap (active_of j.links) (sym whole)
    ]

-- what is active with one more hypothesis
pub scope_link : (look : _) (k : Kept) (h : Hypothesis) → IsSound look k
    → scope_of (with_link k h)
    ≡ record (scope_of k) { hypotheses = (scope_of k).hypotheses ++ h ∷ []; labels = (scope_of k).labels ++ label_of h ∷ [] }
scope_link look k h s =
    let l : Linked = (last_link k.active, h) in
    let hs : active_of (with_link k h).links (with_link k h).active ≡ active_of k.links k.active ++ h ∷ [] =
    active_grows k.links l k.active false s.within in
    let es : assertions_of (with_link k h).links k.aparts k.entries ≡ assertions_of k.links k.aparts k.entries =
    entries_stay k.links (with_link k h).links k.aparts k.aparts k.entries s.numbered (links_stay k h) (λ o w. refl) in
    cc
