-- What was found is what the wish chooses.
use Rattle.std.proofs.Common.{◌≡◌, ◌<◌, ◌≤◌, ◌+◌, ◌-◌, ℕ, Bool, true, false, List, [], ◌∷◌, ◌++◌, length, map, take, Some, None}
use Rattle.std.proofs.Common.{refl, sym, ap, subst, inl, inr}
use Rattle.std.proofs.Common.{◌∙◌, arith}
use Rattle.std.proofs.Common.{Bor}
use Rattle.std.specs.Prelude.{◌||◌, ◌&&◌, filter, find, replicate, reverse}
use mathlib.Core.Bool.{not}
use Rattle.std.specs.List.{list_all}
use Rattle.std.specs.Str.{bytes_eq}
use Rattle.std.proofs.lemmas.Bool.{cases_Bool, cond-true, cond-false, or_right}
use Rattle.std.proofs.lemmas.List.{length-map}
use Rattle.std.proofs.lemmas.List.Folds.{list_any-append}
use Rattle.mmtext.specs.Words.{Word}
use Rattle.mmsyntax.specs.Assertions.{Distinct}
use Rattle.mmsyntax.proofs.Names.{bytes_eq-same}
use Rattle.source.specs.Scopes.{Assertion, Scope, is_in}
use Rattle.source.specs.Views.{seen_words}
use Rattle.choosing.specs.declared.wish.Wish.TheVariants as wish
use Rattle.choosing.specs.declared.wish.Selection.{Selection}
use Rattle.choosing.specs.declared.wish.Unchosen.{Unchosen}
use Rattle.choosing.specs.declared.wish.Unchosen.TheVariants as unchosen
use Rattle.choosing.specs.Choices.{first_unknown, labels_of, labelled, have_room, nearest, all_chosen, chosen_for, chosen_between, place_in, needed_by_all}
use Rattle.choosing.specs.Choices.{between}
use Rattle.choosing.specs.Choices.{IsChosen, IsUnchosen}
use Rattle.choosing.specs.Marks.{AreMarked, unknown_among, IsUnknownAmong}
use Rattle.choosing.proofs.Apart.{map_alike, map_same, own_flags, there, labels_pass, filter_hold, count_flags}
use Rattle.choosing.proofs.Marked.{found_at}
use Rattle.choosing.proofs.Going.{unmarked_all}
use Rattle.choosing.proofs.Known.{is_unknown, known_of_both, unknown_of_first, unknown_of_second, first_is_unknown, second_is_unknown}
use Rattle.choosing.proofs.Known.{known_both, in_order}
use Rattle.choosing.proofs.Turns.{few}
use Rattle.choosing.proofs.Parts.{parts_first, parts_flags, parts_count, parts_there}

-- ---- all

pub all_is_chosen : (s : Scope) (sel : Selection) (n : ℕ) → n ≡ length s.assertions → n ≤ 4096 → sel.chosen.items ≡ replicate n true
    → sel.front.items ≡ replicate n false → IsChosen s wish.All sel
all_is_chosen s sel n h small chosen front = record {
  choice = all_chosen s;
  is_choice = refl;
  flags = record {
    chosen_are = map_alike (λ x. is_in (labels_of s.assertions) x.label) true s.assertions n (sym h) (there s.assertions) ∙ sym chosen;
    front_are = unmarked_all s.assertions n h ∙ sym front;
    long_are = refl;
  };
  there = labels_pass (is_in (labels_of s.assertions)) s.assertions (there s.assertions);
  few = let e = length-map s.assertions (λ (x : Assertion). x.label) in omega arith;
  known = refl;
  in_order = λ h. h;
}

pub all_too_many : (s : Scope) (n : ℕ) → n ≡ length s.assertions → 4096 < n → IsUnchosen s wish.All (unchosen.TooMany n)
all_too_many s n h many = (all_chosen s, refl, length-map s.assertions (λ (x : Assertion). x.label) ∙ sym h, many, λ e. e)

-- ---- some, and what they need

-- as many are asked for as flags are set
pub asked_count : (s : Scope) (ws : List Word) (flags : List Bool) (n : ℕ) → AreMarked s.assertions (is_in ws) flags
    → n ≡ length (filter (λ b. b) flags) → length (labelled ws s.assertions) ≡ n
asked_count s ws flags n are count =
    sym (count ∙ ap (λ bs. length (filter (λ b. b) bs)) (sym are) ∙ count_flags (λ (x : Assertion). is_in ws x.label) s.assertions)

pub for_is_chosen : (s : Scope) (asked : Bor (List (Bor (List ℕ)))) (sel : Selection) (flags : List Bool) (n m : ℕ)
    → Distinct bytes_eq (labels_of s.assertions) → AreMarked s.assertions (is_in (seen_words asked.now)) flags
    → n ≡ length (filter (λ b. b) flags) → n ≤ 4096
    → AreMarked s.assertions (is_in (nearest (have_room 4096 s.assertions) (seen_words asked.now) (reverse s.assertions))) sel.chosen.items
    → m ≡ length flags → sel.front.items ≡ replicate m false
    → first_unknown s (wish.For asked) ≡ None → IsChosen s (wish.For asked) sel
for_is_chosen s asked sel flags n m d are count small chosen long front known =
    let ws = seen_words asked.now in
    let xs = s.assertions in
    let wanted = nearest (have_room 4096 xs) ws (reverse xs) in
    let test : Assertion → Bool = λ x. is_in wanted x.label in
    let k : length (labelled ws xs) ≡ n = asked_count s ws flags n are count in
    let size : m ≡ length xs = long ∙ ap length (sym are) ∙ length-map xs (λ (x : Assertion). is_in ws x.label) in
    record {
      choice = chosen_for ws s;
      is_choice = refl;
      flags = record {
        chosen_are = map_same (λ x. is_in (labels_of (labelled wanted xs)) x.label) test xs (own_flags test xs d) ∙ chosen;
        front_are = unmarked_all xs m size ∙ sym front;
        long_are = refl;
      };
      there =
          labels_pass (is_in (labels_of xs)) (labelled wanted xs)
          (filter_hold (λ x. is_in (labels_of xs) x.label ≡ true) test xs (there xs));
      few =
          let f : length (labelled wanted xs) ≤ 4096 = few 4096 xs ws (reverse xs) (omega arith) in
          let e = length-map (labelled wanted xs) (λ (x : Assertion). x.label) in
          omega arith;
      known = known;
      in_order = λ h. h;
    }

pub for_too_many : (s : Scope) (asked : Bor (List (Bor (List ℕ)))) (flags : List Bool) (n : ℕ)
    → AreMarked s.assertions (is_in (seen_words asked.now)) flags → n ≡ length (filter (λ b. b) flags) → 4096 < n
    → first_unknown s (wish.For asked) ≡ None → IsUnchosen s (wish.For asked) (unchosen.TooMany n)
for_too_many s asked flags n are count many known = (asked_count s (seen_words asked.now) flags n are count, many, known)

-- ---- just some, of which some are axioms

among_first : (ws vs : List Word) (w : Word) → is_in ws w ≡ true → is_in (ws ++ vs) w ≡ true
among_first ws vs w h = list_any-append (bytes_eq w) ws vs ∙ ap (λ b. b || is_in vs w) h

among_second : (ws vs : List Word) (w : Word) → is_in vs w ≡ true → is_in (ws ++ vs) w ≡ true
among_second ws vs w h = list_any-append (bytes_eq w) ws vs ∙ or_right (is_in ws w) (is_in vs w) h

-- the labels are those of assertions, as none is unknown
all_known : (q : Word → Bool) (ws : List Word) → find (λ l. not (q l)) ws ≡ None → list_all q ws ≡ true
all_known q [] h = refl
all_known q (w ∷ ws) h = elim (cases_Bool (q w)) [
  | inl y ↦
      ap (λ b. b && list_all q ws) y
      ∙ all_known q ws (sym (cond-false (not (q w)) (Some w) (find (λ l. not (q l)) ws) (ap not y)) ∙ h)
  | inr n ↦ absurd (let e : Some w ≡ None = sym (cond-true (not (q w)) (Some w) (find (λ l. not (q l)) ws) (ap not n)) ∙ h in cc)
]

pub these_unknown_first : (s : Scope) (labels axioms : Bor (List (Bor (List ℕ)))) (why : Unchosen)
    → IsUnknownAmong s (seen_words labels.now) why → IsUnchosen s (wish.These labels axioms) why
these_unknown_first s labels axioms (unchosen.UnknownLabel label) h = (
  among_first (seen_words labels.now) (seen_words axioms.now) label.now h.0,
  h.1,
  unknown_of_first (is_unknown s.assertions) (seen_words labels.now) (seen_words axioms.now) label.now h.2,
)
these_unknown_first s labels axioms unchosen.Backwards h = absurd h
these_unknown_first s labels axioms (unchosen.TooMany n) h = absurd h
these_unknown_first s labels axioms unchosen.NoMemory h = tt

pub these_unknown_second : (s : Scope) (labels axioms : Bor (List (Bor (List ℕ)))) (why : Unchosen)
    → unknown_among s (seen_words labels.now) ≡ None → IsUnknownAmong s (seen_words axioms.now) why
    → IsUnchosen s (wish.These labels axioms) why
these_unknown_second s labels axioms (unchosen.UnknownLabel label) known h = (
  among_second (seen_words labels.now) (seen_words axioms.now) label.now h.0,
  h.1,
  unknown_of_second (is_unknown s.assertions) (seen_words labels.now) (seen_words axioms.now) label.now known h.2,
)
these_unknown_second s labels axioms unchosen.Backwards known h = absurd h
these_unknown_second s labels axioms (unchosen.TooMany n) known h = absurd h
these_unknown_second s labels axioms unchosen.NoMemory known h = tt

pub these_are_chosen : (s : Scope) (labels axioms : Bor (List (Bor (List ℕ)))) (sel : Selection) (n : ℕ)
    → AreMarked s.assertions (is_in (seen_words labels.now)) sel.chosen.items
    → AreMarked s.assertions (is_in (seen_words axioms.now)) sel.front.items
    → unknown_among s (seen_words labels.now) ≡ None → unknown_among s (seen_words axioms.now) ≡ None
    → n ≡ length labels.now → n ≤ 4096 → IsChosen s (wish.These labels axioms) sel
these_are_chosen s labels axioms sel n chosen front labels-known axioms-known count small = record {
  choice = record { chosen = seen_words labels.now; front = seen_words axioms.now; long = [] };
  is_choice = refl;
  flags = record { chosen_are = chosen; front_are = front; long_are = refl };
  there = all_known (is_in (labels_of s.assertions)) (seen_words labels.now) labels-known;
  few = let e = length-map labels.now (λ (w : Bor (List ℕ)). w.now) in omega arith;
  known = known_of_both (is_unknown s.assertions) (seen_words labels.now) (seen_words axioms.now) labels-known axioms-known;
  in_order = λ h. h;
}

pub these_too_many : (s : Scope) (labels axioms : Bor (List (Bor (List ℕ)))) (n : ℕ)
    → unknown_among s (seen_words labels.now) ≡ None → unknown_among s (seen_words axioms.now) ≡ None
    → n ≡ length labels.now → 4096 < n → IsUnchosen s (wish.These labels axioms) (unchosen.TooMany n)
these_too_many s labels axioms n labels-known axioms-known count many = (
  length-map labels.now (λ (w : Bor (List ℕ)). w.now) ∙ sym count,
  many,
  known_of_both (is_unknown s.assertions) (seen_words labels.now) (seen_words axioms.now) labels-known axioms-known,
)

-- ---- those between two

-- each place has its flag
pub wanted_within : (s : Scope) (label : Word) (place : ℕ) (test : Word → Bool) (wanted : List Bool) → place_in s label ≡ Some place
    → AreMarked s.assertions test wanted → place < length wanted
wanted_within s label place test wanted at are =
    let h = (found_at s.assertions label place at).3 in
    let e : length wanted ≡ length s.assertions =
    ap length (sym are) ∙ length-map s.assertions (λ (x : Assertion). test x.label) in
    omega arith

module _ (s : Scope) (from to : Bor (List ℕ)) (i j : ℕ) (begins : place_in s from.now ≡ Some i) (ends : place_in s to.now ≡ Some j)
    (order : i ≤ j) (within : j < length s.assertions) (wanted : List Bool)
    (are : AreMarked s.assertions (is_in (needed_by_all (take i s.assertions) (between i j s.assertions))) wanted) where
  needs : Assertion → Bool
  needs x = is_in (needed_by_all (take i s.assertions) (between i j s.assertions)) x.label

  first_flags : List Bool → List Bool
  first_flags bs = take i bs ++ replicate (length bs - i) false

  all_flags : List Bool → List Bool
  all_flags bs = take i bs ++ (replicate (j + 1 - i) true ++ replicate (length bs - (j + 1)) false)

  marks : map needs s.assertions ≡ wanted
  unfolding needs
  marks = are

  count_is : (chosen : List Bool) (n : ℕ) → chosen ≡ all_flags wanted → n ≡ length (filter (λ b. b) chosen)
      → length (chosen_between i j s).chosen ≡ n
  unfolding needs all_flags
  count_is chosen n is count =
      sym (count ∙ parts_count s.assertions i (j + 1) needs (omega arith) (omega arith) chosen (is ∙ ap all_flags (sym marks)))

  pub between_is_chosen : (sel : Selection) (n : ℕ) → Distinct bytes_eq (labels_of s.assertions)
      → sel.front.items ≡ take i wanted ++ replicate (length wanted - i) false
      → sel.chosen.items ≡ take i wanted ++ (replicate (j + 1 - i) true ++ replicate (length wanted - (j + 1)) false)
      → n ≡ length (filter (λ b. b) sel.chosen.items) → n ≤ 4096 → IsChosen s (wish.Between from to) sel
  unfolding needs all_flags first_flags
  between_is_chosen sel n d front chosen count small = record {
    choice = chosen_between i j s;
    is_choice = (i, j, begins, ends, refl);
    flags = record {
      chosen_are = parts_flags s.assertions i (j + 1) needs (omega arith) (omega arith) d ∙ ap all_flags marks ∙ sym chosen;
      front_are = parts_first s.assertions i needs d ∙ ap first_flags marks ∙ sym front;
      long_are = refl;
    };
    there = parts_there s.assertions i (j + 1) needs (omega arith) (omega arith);
    few = let k = count_is sel.chosen.items n chosen count in omega arith;
    known = known_both s from to i j begins ends;
    in_order = in_order s from to i j begins ends order;
  }

  pub between_too_many : (chosen : List Bool) (n : ℕ)
      → chosen ≡ take i wanted ++ (replicate (j + 1 - i) true ++ replicate (length wanted - (j + 1)) false)
      → n ≡ length (filter (λ b. b) chosen) → 4096 < n → IsUnchosen s (wish.Between from to) (unchosen.TooMany n)
  unfolding all_flags
  between_too_many chosen n is count many = (
    chosen_between i j s,
    (i, j, begins, ends, refl),
    count_is chosen n is count,
    many,
    in_order s from to i j begins ends order,
  )

-- ---- labels

pub unknown_first : (s : Scope) (from to : Bor (List ℕ)) → place_in s from.now ≡ None
    → IsUnchosen s (wish.Between from to) (unchosen.UnknownLabel from)
unknown_first s from to none =
    (ap (λ b. b || (bytes_eq from.now to.now || false)) (bytes_eq-same from.now), none, first_is_unknown s from to none)

or_true : (a b : Bool) → b ≡ true → (a || (b || false)) ≡ true
or_true true b h = refl
or_true false b h = ap (λ c. c || false) h

pub unknown_second : (s : Scope) (from to : Bor (List ℕ)) (i : ℕ) → place_in s from.now ≡ Some i → place_in s to.now ≡ None
    → IsUnchosen s (wish.Between from to) (unchosen.UnknownLabel to)
unknown_second s from to i begins none =
    (or_true (bytes_eq to.now from.now) (bytes_eq to.now to.now) (bytes_eq-same to.now), none, second_is_unknown s from to i begins none)
