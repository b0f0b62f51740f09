-- What labels name, by the places of hypotheses and assertions.
use Rattle.std.proofs.Common.{◌≡◌, ℕ, zero, suc, ◌-◌, ◌<◌, ◌≤◌, Bool, true, false, List, [], ◌∷◌, ◌++◌, length, map, take, get_or, refl, sym, ap}
use Rattle.std.proofs.Common.{subst as transport, ◌∙◌, inl, inr, arith}
use Rattle.std.specs.Prelude.{All, slice_get, slice_index_or, find, Option, Some, None, if◌then◌else◌}
use Rattle.std.specs.Option.{option_map}
use Rattle.std.specs.List.{list_any}
use Rattle.std.specs.Str.{bytes_eq}
use Rattle.std.proofs.lemmas.Bool.{or_left, or_right}
use Rattle.std.proofs.lemmas.Option.{slice_get_within, get_or_from_slice_get, slice_get-map, slice_get_read}
use Rattle.std.proofs.lemmas.List.{length-map, length-append, get_or_append_left, get_or-append_right}
use Rattle.mmtext.specs.Words.{Word}
use Rattle.mmsyntax.specs.Tables.{place_of}
use Rattle.mmsyntax.proofs.Names.{same_bytes}
use Rattle.source.specs.Scopes.{Hypothesis, label_of, Assertion, Scope}
use Rattle.std.specs.Borrow.{Bor}
use Rattle.mmsyntax.proofs.Items.{not_found_is_none}
use Rattle.source.specs.declared.contents.HypothesisWords.{HypothesisWords}
use Rattle.source.specs.Views.{seen_hypothesis, seen_hypotheses}
use Rattle.source.specs.Whole.{IsWhole, AgreeOnLabels}
use Rattle.sourcecheck.specs.declared.naming.Named.{Named}
use Rattle.sourcecheck.specs.declared.naming.Named.TheVariants as named
use Rattle.sourcecheck.specs.Shown.{IsSaid, IsPlaceUnder, IsEarlier, IsNamed, AreNamed}
use Rattle.sourceframes.proofs.Numbered.{got_of}

-- ---- places and what is found

behind : Bool → Option ℕ → Option ℕ
behind b o = if b then Some 0 else option_map (λ n. suc n) o

behind_none : (b : Bool) (o : Option ℕ) → (if b then Some 0 else option_map (λ n. suc n) o) ≡ None → (b ≡ false) × (o ≡ None)
behind_none true o h = absurd cc
behind_none false None h = (refl, refl)
behind_none false (Some n) h = absurd cc

behind_first : (b : Bool) (o : Option ℕ) → (if b then Some 0 else option_map (λ n. suc n) o) ≡ Some 0 → b ≡ true
behind_first true o h = refl
behind_first false None h = absurd cc
behind_first false (Some n) h = absurd cc

behind_later : (b : Bool) (o : Option ℕ) (k : ℕ) → (if b then Some 0 else option_map (λ n. suc n) o) ≡ Some (suc k)
    → (b ≡ false) × (o ≡ Some k)
behind_later true o k h = absurd cc
behind_later false None k h = absurd cc
behind_later false (Some n) k h = (refl, cc)

pub found_at : {A B : Type 0} (p : B → Bool) (f : A → B) (xs : List A) (k : ℕ) (d : A) → place_of (λ x. p (f x)) xs ≡ Some k
    → (k < length xs) × (find p (map f xs) ≡ Some (f (get_or xs k d)))
found_at p f [] k d h = absurd cc
found_at p f (x ∷ xs) zero d h =
    let yes = behind_first (p (f x)) (place_of (λ x. p (f x)) xs) h in
    (omega arith, ap (λ b. if b then Some (f x) else find p (map f xs)) yes)
found_at p f (x ∷ xs) (suc k) d h =
    let both = behind_later (p (f x)) (place_of (λ x. p (f x)) xs) k h in
    let rest = found_at p f xs k d both.1 in
    let lt = rest.0 in
    (omega (arith, lt), ap (λ b. if b then Some (f x) else find p (map f xs)) both.0 ∙ rest.1)

pub found_no : {A B : Type 0} (p : B → Bool) (f : A → B) (xs : List A) → place_of (λ x. p (f x)) xs ≡ None → find p (map f xs) ≡ None
found_no p f [] h = refl
found_no p f (x ∷ xs) h =
    let both = behind_none (p (f x)) (place_of (λ x. p (f x)) xs) h in
    ap (λ b. if b then Some (f x) else find p (map f xs)) both.0 ∙ found_no p f xs both.1

-- ---- the front of a list

pub front_past : {A : Type 0} (p : A → Bool) (xs : List A) (n k : ℕ) → place_of p xs ≡ Some k → n ≤ k → find p (take n xs) ≡ None
front_past p xs zero k h le = refl
front_past p [] (suc n) k h le = refl
front_past p (x ∷ xs) (suc n) zero h le = absurd (omega arith)
front_past p (x ∷ xs) (suc n) (suc k) h le =
    let both = behind_later (p x) (place_of p xs) k h in
    ap (λ b. if b then Some x else find p (take n xs)) both.0 ∙ front_past p xs n k both.1 (omega arith)

pub front_found : {A : Type 0} (p : A → Bool) (xs : List A) (n k : ℕ) → place_of p xs ≡ Some k → k < n
    → (c : A) × (find p (take n xs) ≡ Some c) × (slice_get (take n xs) k ≡ Some c)
front_found p xs zero k h lt = absurd (omega arith)
front_found p [] (suc n) k h lt = absurd cc
front_found p (x ∷ xs) (suc n) zero h lt =
    let yes = behind_first (p x) (place_of p xs) h in
    (x, ap (λ b. if b then Some x else find p (take n xs)) yes, refl)
front_found p (x ∷ xs) (suc n) (suc k) h lt =
    let both = behind_later (p x) (place_of p xs) k h in
    let rest = front_found p xs n k both.1 (omega arith) in
    (rest.0, ap (λ b. if b then Some x else find p (take n xs)) both.0 ∙ rest.1, rest.2)

any_placed : {A : Type 0} (p : A → Bool) (xs : List A) (k : ℕ) → place_of p xs ≡ Some k → list_any p xs ≡ true
any_placed p [] k h = absurd cc
any_placed p (x ∷ xs) zero h = or_left (p x) (list_any p xs) (behind_first (p x) (place_of p xs) h)
any_placed p (x ∷ xs) (suc k) h =
    let both = behind_later (p x) (place_of p xs) k h in or_right (p x) (list_any p xs) (any_placed p xs k both.1)

-- ---- the label of an assertion is that of no active hypothesis

none_active : (xs : List Assertion) (w : Word) (hs : List Hypothesis)
    → All (λ h. list_any (λ y. bytes_eq (label_of h) y.label) xs ≡ false) hs → list_any (λ y. bytes_eq w y.label) xs ≡ true
    → find (λ h. bytes_eq w (label_of h)) hs ≡ None
none_active xs w [] all h = refl
none_active xs w (g ∷ hs) all h =
    let rest = none_active xs w hs (λ k d lt. all (suc k) d (omega (arith, lt))) h in
    let here = all zero g (omega arith) in
    of (bytes_eq w (label_of g)) refl here rest
  where
    of : (b : Bool) → bytes_eq w (label_of g) ≡ b → list_any (λ y. bytes_eq (label_of g) y.label) xs ≡ false
        → find (λ h. bytes_eq w (label_of h)) hs ≡ None
        → (if bytes_eq w (label_of g) then Some g else find (λ h. bytes_eq w (label_of h)) hs) ≡ None
    of true e here rest =
        let same = ap (λ v. list_any (λ y. bytes_eq v y.label) xs) (same_bytes w (label_of g) e) in
        absurd cc
    of false e here rest = ap (λ b. if b then Some g else find (λ h. bytes_eq w (label_of h)) hs) e ∙ rest

module _ (s : Scope) (whole : IsWhole s) (place : ℕ) (x : Assertion) (at : slice_get s.assertions place ≡ Some x) where
  apart_here : All (λ h. list_any (λ y. bytes_eq (label_of h) y.label) s.assertions ≡ false) x.active
  apart_here =
      transport (λ (y : Assertion). All (λ h. list_any (λ y. bytes_eq (label_of h) y.label) s.assertions ≡ false) y.active)
      (item s.assertions place x x at) (whole.apart place x (within s.assertions place x at))
    where
      item : (xs : List Assertion) (n : ℕ) (y d : Assertion) → slice_get xs n ≡ Some y → get_or xs n d ≡ y
      item [] n y d h = absurd cc
      item (z ∷ xs) zero y d h = cc
      item (z ∷ xs) (suc n) y d h = item xs n y d h

      within : (xs : List Assertion) (n : ℕ) (y : Assertion) → slice_get xs n ≡ Some y → n < length xs
      within [] n y h = absurd cc
      within (z ∷ xs) zero y h = omega arith
      within (z ∷ xs) (suc n) y h = let rest = within xs n y h in omega (arith, rest)

  pub assertion_named : (name : ℕ → Word) (w : Word) (k : ℕ) → IsEarlier s.assertions place w (Some k)
      → IsNamed name (take place s.assertions) x w (named.Assertion k)
  assertion_named name w k h =
      let there = front_found (λ c. bytes_eq w c.label) s.assertions place k h.1 h.0 in
      (there.0, none_active s.assertions w x.active apart_here (any_placed (λ c. bytes_eq w c.label) s.assertions k h.1), there.1, there.2)

-- where no assertion has it, it is that of a hypothesis, or of nothing
pub said_named : (name : ℕ → Word) (earlier : List Assertion) (x : Assertion) (hs : List Hypothesis) (w : Word) (n : Named)
    → x.active ≡ hs → find (λ c. bytes_eq w c.label) earlier ≡ None → IsSaid name hs w n → IsNamed name earlier x w n
said_named name earlier x hs w (named.Hypothesis said) e none h = (h.0, ap (find (λ h. bytes_eq w (label_of h))) e ∙ h.1, h.2)
said_named name earlier x hs w (named.Assertion k) e none h = absurd h
said_named name earlier x hs w named.Unknown e none h =
    ap (λ b. if b then Some [] else option_map (λ (a : Assertion). a.hypotheses) (find (λ a. bytes_eq w a.label) earlier))
    (not_found_is_none (λ h. bytes_eq w (label_of h)) x.active (ap (find (λ h. bytes_eq w (label_of h))) e ∙ h))
    ∙ ap (option_map (λ (a : Assertion). a.hypotheses)) none

-- ---- one more label

pub named_push : (name : ℕ → Word) (earlier : List Assertion) (x : Assertion) (ls : List Word) (ns : List Named) (w : Word) (n : Named)
    → AreNamed name earlier x ls ns → IsNamed name earlier x w n → AreNamed name earlier x (ls ++ w ∷ []) (ns ++ n ∷ [])
named_push name earlier x ls ns w n all one =
    let long = all.long in
    record {
      long = omega (arith, long, length-append ls (w ∷ []), length-append ns (n ∷ []));
      named = λ k m h.
          elim (got_of ns n m k h) [
            | inl e ↦
                let lt = slice_get_within ns k m e in
                transport (λ v. IsNamed name earlier x v m) (sym (get_or_append_left ls (w ∷ []) [] k (omega (arith, lt, long))))
                (all.named k m e)
            | inr p ↦
                let at = p.0 in
                let zero_is : k - length ls ≡ 0 = omega (arith, at, long) in
                let last : slice_index_or (ls ++ w ∷ []) k [] ≡ w =
                get_or-append_right ls (w ∷ []) (length ls) k [] refl (omega (arith, at, long)) ∙ ap (λ i. get_or (w ∷ []) i []) zero_is in
                transport (λ v. IsNamed name earlier x v m) (sym last) (transport (IsNamed name earlier x w) p.1 one)
          ];
    }

-- ---- a label's hypothesis, wherever it was found

pub placed_under : {A B : Type 0} (p : B → Bool) (f : A → B) (xs : List A) (k : ℕ) → place_of (λ x. p (f x)) xs ≡ Some k
    → (y : B) × (slice_get (map f xs) k ≡ Some y) × (p y ≡ true)
placed_under p f [] k h = absurd cc
placed_under p f (x ∷ xs) zero h = (f x, refl, behind_first (p (f x)) (place_of (λ x. p (f x)) xs) h)
placed_under p f (x ∷ xs) (suc k) h = placed_under p f xs k (behind_later (p (f x)) (place_of (λ x. p (f x)) xs) k h).1

found_or : (y : Hypothesis) (o : Option Hypothesis) (h : Hypothesis) (b : Bool) → (b ≡ true → y ≡ h) → o ≡ Some h
    → (if b then Some y else o) ≡ Some h
found_or y o h true e f = ap (λ (g : Hypothesis). Some g) (e refl)
found_or y o h false e f = f

find_is : (hs : List Hypothesis) (w : Word) (h : Hypothesis) (k : ℕ) → slice_get hs k ≡ Some h → bytes_eq w (label_of h) ≡ true
    → ((j : ℕ) (g : Hypothesis) → slice_get hs j ≡ Some g → bytes_eq w (label_of g) ≡ true → g ≡ h)
    → find (λ g. bytes_eq w (label_of g)) hs ≡ Some h
find_is [] w h k at is each = absurd cc
find_is (y ∷ ys) w h zero at is each =
    let e : y ≡ h = cc in
    ap (λ b. if b then Some y else find (λ g. bytes_eq w (label_of g)) ys) (ap (λ (g : Hypothesis). bytes_eq w (label_of g)) e ∙ is)
    ∙ ap (λ (g : Hypothesis). Some g) e
find_is (y ∷ ys) w h (suc k) at is each =
    found_or y (find (λ g. bytes_eq w (label_of g)) ys) h (bytes_eq w (label_of y)) (each zero y refl)
    (find_is ys w h k at is (λ j g. each (suc j) g))

-- where hypotheses of one label are one, any place will do
pub found_anywhere : (hs : List Hypothesis) (w : Word) (h : Hypothesis) (k : ℕ) → AgreeOnLabels hs hs → slice_get hs k ≡ Some h
    → bytes_eq w (label_of h) ≡ true → find (λ g. bytes_eq w (label_of g)) hs ≡ Some h
found_anywhere hs w h k agree at is = find_is hs w h k at is each
  where
    each : (j : ℕ) (g : Hypothesis) → slice_get hs j ≡ Some g → bytes_eq w (label_of g) ≡ true → g ≡ h
    each j g there has =
        let one = agree j g (slice_get_within hs j g there) k h (slice_get_within hs k h at) in
        let same : get_or hs j g ≡ g = get_or_from_slice_get hs j g g there in
        let other : get_or hs k h ≡ h = get_or_from_slice_get hs k h h at in
        let labels : label_of g ≡ label_of h = sym (same_bytes w (label_of g) has) ∙ same_bytes w (label_of h) is in
        sym same ∙ one (ap label_of same ∙ labels ∙ sym (ap label_of other)) ∙ other

pub agree_at : (s : Scope) (place : ℕ) (hs : List Hypothesis) → IsWhole s
    → option_map (λ a. a.active) (slice_get s.assertions place) ≡ Some hs → AgreeOnLabels hs hs
agree_at s place hs whole h = of (slice_get s.assertions place) refl h
  where
    of : (o : Option Assertion) → slice_get s.assertions place ≡ o → option_map (λ (a : Assertion). a.active) o ≡ Some hs
        → AgreeOnLabels hs hs
    of None at e = absurd cc
    of (Some x) at e =
        let lt = slice_get_within s.assertions place x at in
        let is : get_or s.assertions place x ≡ x = get_or_from_slice_get s.assertions place x x at in
        let active : x.active ≡ hs = cc in
        transport (λ (ks : List Hypothesis). AgreeOnLabels ks ks) active
        (transport (λ (y : Assertion). AgreeOnLabels y.active y.active) is (whole.agree place x lt place x lt))

pub read_at : (items : List (Bor HypothesisWords)) (k : ℕ) (h : Hypothesis) (r : Bor HypothesisWords)
    → slice_get (seen_hypotheses items) k ≡ Some h → r ≡ get_or items k r → h ≡ seen_hypothesis r.now
read_at items k h r at is =
    let lt = slice_get_within (seen_hypotheses items) k h at in
    let long = length-map items (λ (b : Bor HypothesisWords). seen_hypothesis b.now) in
    let there : slice_get items k ≡ Some r = slice_get_read items (length items) k r refl (omega (arith, lt, long)) is in
    let mapped : slice_get (seen_hypotheses items) k ≡ Some (seen_hypothesis r.now) =
    slice_get-map (λ (b : Bor HypothesisWords). seen_hypothesis b.now) items k
    ∙ ap (option_map (λ (b : Bor HypothesisWords). seen_hypothesis b.now)) there in
    let both : Some h ≡ Some (seen_hypothesis r.now) = sym at ∙ mapped in
    cc

-- the first of the hypotheses that a list of them shows
pub first_is_under : (hs : List (Bor HypothesisWords)) (w : Word) (o : Option ℕ)
    → o ≡ place_of (λ h. bytes_eq w (label_of (seen_hypothesis h.now))) hs → IsPlaceUnder (seen_hypotheses hs) w o
first_is_under hs w None e = found_no (λ h. bytes_eq w (label_of h)) (λ (h : Bor HypothesisWords). seen_hypothesis h.now) hs (sym e)
first_is_under hs w (Some k) e =
    placed_under (λ h. bytes_eq w (label_of h)) (λ (h : Bor HypothesisWords). seen_hypothesis h.now) hs k (sym e)
