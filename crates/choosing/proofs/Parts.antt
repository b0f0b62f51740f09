-- Those between two places, and some in front of them: which flags they have.
use Rattle.std.proofs.Common.{◌≡◌, ◌≤◌, ◌-◌, ℕ, Bool, true, false, List, ◌++◌, length, map, take, drop, refl, sym, ap, subst}
use Rattle.std.proofs.Common.{◌∙◌, arith, append_assoc}
use Rattle.std.specs.Prelude.{◌||◌, ◌&&◌, filter, replicate}
use Rattle.std.specs.List.{list_all, AllByRecursion}
use Rattle.std.specs.Str.{bytes_eq}
use Rattle.std.proofs.lemmas.List.{map-append, length-map, length-append, length-drop, length-take-le, length-replicate, take-append-drop}
use Rattle.std.proofs.lemmas.List.{take-map, take-take, take_all}
use Rattle.std.proofs.lemmas.Bool.{and_from, or_right}
use Rattle.std.proofs.lemmas.List.Elements.{filter-append}
use Rattle.std.proofs.lemmas.List.Folds.{list_any-append, list_all-append}
use Rattle.mmsyntax.specs.Assertions.{Distinct}
use Rattle.mmsyntax.proofs.Distinct.{distinct_left, distinct_right, all_left, all_right}
use Rattle.source.specs.Scopes.{Assertion, is_in}
use Rattle.taking.proofs.Values.{all_more}
use Rattle.choosing.specs.Choices.{labels_of}
use Rattle.choosing.specs.Marks.{from_to}
use Rattle.choosing.proofs.Apart.{map_same, map_alike, both_of, fewer, front_apart, behind_apart}
use Rattle.choosing.proofs.Apart.{own_flags, there, labels_pass, filter_hold, count_flags, count_trues, count_falses}

or_none : (a b : Bool) → b ≡ false → (a || b) ≡ a
or_none true b h = refl
or_none false b h = h

-- the first so many, and all others
pub parts_first : (xs : List Assertion) (i : ℕ) (p : Assertion → Bool) → Distinct bytes_eq (labels_of xs)
    → map (λ x. is_in (labels_of (filter p (take i xs))) x.label) xs
    ≡ take i (map p xs) ++ replicate (length (map p xs) - i) false
parts_first xs i p d =
    let F = λ (x : Assertion). is_in (labels_of (filter p (take i xs))) x.label in
    let e = take-append-drop i xs in
    let apart : Distinct bytes_eq (labels_of (take i xs ++ drop i xs)) = subst (λ ys. Distinct bytes_eq (labels_of ys)) (sym e) d in
    let own : Distinct bytes_eq (labels_of (take i xs)) =
    distinct_left bytes_eq (labels_of (take i xs)) (labels_of (drop i xs))
    (subst (Distinct bytes_eq) (map-append (λ (x : Assertion). x.label) (take i xs) (drop i xs)) apart) in
    let n : length (drop i xs) ≡ length (map p xs) - i = length-drop i xs ∙ ap (λ k. k - i) (sym (length-map xs p)) in
    ap (map F) (sym e)
    ∙ map-append F (take i xs) (drop i xs)
    ∙ ap (λ flags. flags ++ map F (drop i xs)) (map_same F p (take i xs) (own_flags p (take i xs) own) ∙ sym (take-map p i xs))
    ∙ ap (λ flags. take i (map p xs) ++ flags)
    (map_alike F false (drop i xs) (length (map p xs) - i) n
    (all_more (λ y f. fewer p y.label (take i xs) f) (drop i xs) (behind_apart (take i xs) (drop i xs) apart)))

-- those in front of a place, and behind them those up to another
pub first : (xs : List Assertion) (i e : ℕ) → i ≤ e → take i xs ++ from_to i e xs ≡ take e xs
first xs i e order = ap (λ ys. ys ++ from_to i e xs) (sym (take-take i e xs order)) ∙ take-append-drop i (take e xs)

module _ (xs : List Assertion) (i e : ℕ) (p : Assertion → Bool) (order : i ≤ e) (within : e ≤ length xs) where
  ahead : List Assertion
  ahead = take i xs

  inner : List Assertion
  inner = from_to i e xs

  after : List Assertion
  after = drop e xs

  parts : ahead ++ (inner ++ after) ≡ xs
  unfolding ahead inner after
  parts = sym (append_assoc ahead inner after) ∙ ap (λ ys. ys ++ after) (first xs i e order) ∙ take-append-drop e xs

  middle : length inner ≡ e - i
  unfolding inner
  middle = length-drop i (take e xs) ∙ ap (λ k. k - i) (length-take-le e xs within)

  last : length after ≡ length (map p xs) - e
  unfolding after
  last = length-drop e xs ∙ ap (λ k. k - e) (sym (length-map xs p))

  chosen : Assertion → Bool
  chosen x = is_in (labels_of (filter p ahead) ++ labels_of inner) x.label

  either : (x : Assertion) → chosen x ≡ (is_in (labels_of (filter p ahead)) x.label || is_in (labels_of inner) x.label)
  unfolding chosen
  either x = list_any-append (bytes_eq x.label) (labels_of (filter p ahead)) (labels_of inner)

  module _ (d : Distinct bytes_eq (labels_of xs)) where
    all_apart : Distinct bytes_eq (labels_of (ahead ++ (inner ++ after)))
    all_apart = subst (λ ys. Distinct bytes_eq (labels_of ys)) (sym parts) d

    as_apart : Distinct bytes_eq (labels_of ahead)
    as_apart =
        distinct_left bytes_eq (labels_of ahead) (labels_of (inner ++ after))
        (subst (Distinct bytes_eq) (map-append (λ (x : Assertion). x.label) ahead (inner ++ after)) all_apart)

    rest_apart : Distinct bytes_eq (labels_of (inner ++ after))
    rest_apart =
        distinct_right bytes_eq (labels_of ahead) (labels_of (inner ++ after))
        (subst (Distinct bytes_eq) (map-append (λ (x : Assertion). x.label) ahead (inner ++ after)) all_apart)

    first_apart : Distinct bytes_eq (labels_of (ahead ++ inner))
    first_apart =
        distinct_left bytes_eq (labels_of (ahead ++ inner)) (labels_of after)
        (subst (Distinct bytes_eq) (map-append (λ (x : Assertion). x.label) (ahead ++ inner) after)
        (subst (λ ys. Distinct bytes_eq (labels_of ys)) (sym (append_assoc ahead inner after)) all_apart))

    on_first : AllByRecursion (λ x. chosen x ≡ p x) ahead
    on_first =
        both_of (λ x e f. either x ∙ or_none (is_in (labels_of (filter p ahead)) x.label) (is_in (labels_of inner) x.label) f ∙ e) ahead
        (own_flags p ahead as_apart) (front_apart ahead inner first_apart)

    on_middle : AllByRecursion (λ x. chosen x ≡ true) inner
    on_middle =
        all_more (λ x e. either x ∙ or_right (is_in (labels_of (filter p ahead)) x.label) (is_in (labels_of inner) x.label) e) inner
        (there inner)

    on_last : AllByRecursion (λ x. chosen x ≡ false) after
    on_last =
        both_of
        (λ x e f.
        either x
        ∙ or_none (is_in (labels_of (filter p ahead)) x.label) (is_in (labels_of inner) x.label) f
        ∙ fewer p x.label ahead e)
        after (all_right (λ x. is_in (labels_of ahead) x.label ≡ false) inner after (behind_apart ahead (inner ++ after) all_apart))
        (behind_apart inner after rest_apart)

    pub parts_flags : map (λ x. is_in (labels_of (filter p (take i xs)) ++ labels_of (from_to i e xs)) x.label) xs
        ≡ take i (map p xs) ++ (replicate (e - i) true ++ replicate (length (map p xs) - e) false)
    unfolding ahead inner chosen
    parts_flags =
        ap (map chosen) (sym parts)
        ∙ map-append chosen ahead (inner ++ after)
        ∙ ap (λ fs. fs ++ map chosen (inner ++ after)) (map_same chosen p ahead on_first ∙ sym (take-map p i xs))
        ∙ ap (λ fs. take i (map p xs) ++ fs)
        (map-append chosen inner after
        ∙ ap (λ fs. fs ++ map chosen after) (map_alike chosen true inner (e - i) middle on_middle)
        ∙ ap (λ fs. replicate (e - i) true ++ fs) (map_alike chosen false after (length (map p xs) - e) last on_last))

  -- so many flags are set
  pub parts_count : (fs : List Bool) → fs ≡ take i (map p xs) ++ (replicate (e - i) true ++ replicate (length (map p xs) - e) false)
      → length (filter (λ b. b) fs) ≡ length (labels_of (filter p (take i xs)) ++ labels_of (from_to i e xs))
  unfolding ahead inner
  parts_count fs is =
      let on : Bool → Bool = λ b. b in
      let front = take i (map p xs) in
      let trues = replicate (e - i) true in
      let falses = replicate (length (map p xs) - e) false in
      let a = ap (λ gs. length (filter on gs)) is in
      let b = ap length (filter-append on front (trues ++ falses)) in
      let c = length-append (filter on front) (filter on (trues ++ falses)) in
      let k = ap length (filter-append on trues falses) in
      let l = length-append (filter on trues) (filter on falses) in
      let m = count_trues (e - i) in
      let n = count_falses (length (map p xs) - e) in
      let o = ap (λ gs. length (filter on gs)) (take-map p i xs) in
      let q = count_flags p ahead in
      let r = length-append (labels_of (filter p ahead)) (labels_of inner) in
      let s = length-map (filter p ahead) (λ (x : Assertion). x.label) in
      let t = length-map inner (λ (x : Assertion). x.label) in
      let u = middle in
      omega arith

  -- all are of the source
  pub parts_there : list_all (is_in (labels_of xs)) (labels_of (filter p (take i xs)) ++ labels_of (from_to i e xs)) ≡ true
  unfolding ahead inner
  parts_there =
      let P = λ (x : Assertion). is_in (labels_of xs) x.label ≡ true in
      let all : AllByRecursion P (ahead ++ (inner ++ after)) = subst (AllByRecursion P) (sym parts) (there xs) in
      let front = filter_hold P p ahead (all_left P ahead (inner ++ after) all) in
      let behind = all_left P inner after (all_right P ahead (inner ++ after) all) in
      list_all-append (is_in (labels_of xs)) (labels_of (filter p ahead)) (labels_of inner)
      ∙ and_from (list_all (is_in (labels_of xs)) (labels_of (filter p ahead))) (list_all (is_in (labels_of xs)) (labels_of inner))
      (labels_pass (is_in (labels_of xs)) (filter p ahead) front) (labels_pass (is_in (labels_of xs)) inner behind)

-- ---- flags that are made longer

-- the first so many, then those that are set, then the rest
pub resized : (wanted chosen first second : List Bool) (i e n : ℕ) → i ≤ e → e ≤ n → n ≡ length wanted → chosen ≡ take i wanted
    → first ≡ take e chosen ++ replicate (e - length chosen) true → second ≡ take n first ++ replicate (n - length first) false
    → second ≡ take i wanted ++ (replicate (e - i) true ++ replicate (length wanted - e) false)
resized wanted chosen first second i e n order within long chosen-is first-is second-is =
    let a : length chosen ≡ i = ap length chosen-is ∙ length-take-le i wanted (omega arith) in
    let b : first ≡ take i wanted ++ replicate (e - i) true =
    first-is
    ∙ ap (λ fs. fs ++ replicate (e - length chosen) true) (take_all e chosen (omega arith) ∙ chosen-is)
    ∙ ap (λ k. take i wanted ++ replicate (e - k) true) a in
    let c : length first ≡ e =
    ap length b
    ∙ length-append (take i wanted) (replicate (e - i) true)
    ∙ (let f = length-take-le i wanted (omega arith) in let g = length-replicate (e - i) true in omega arith) in
    second-is
    ∙ ap (λ fs. fs ++ replicate (n - length first) false) (take_all n first (omega arith) ∙ b)
    ∙ append_assoc (take i wanted) (replicate (e - i) true) (replicate (n - length first) false)
    ∙ ap (λ k. take i wanted ++ (replicate (e - i) true ++ replicate (n - k) false)) c
    ∙ ap (λ k. take i wanted ++ (replicate (e - i) true ++ replicate (k - e) false)) long
