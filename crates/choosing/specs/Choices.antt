-- Which assertions of a source a wish chooses.
use Rattle.std.specs.Prelude.{◌≡◌, ◌<◌, ◌≤◌, ◌+◌, ℕ, Bool, false, List, [], ◌∷◌, ◌++◌, map, filter, find, length, reverse, take, drop}
use Rattle.std.specs.Prelude.{Option, Some, None, IsTrue, if◌then◌else◌, nat_lt}
use mathlib.Core.Bool.{not}
use Rattle.std.specs.List.{list_all}
use Rattle.std.specs.Str.{bytes_eq}
use Rattle.mmtext.specs.Words.{Word}
use Rattle.mmsyntax.specs.Tables.{place_of}
use Rattle.source.specs.Scopes.{Assertion, Scope, is_in}
use Rattle.source.specs.Views.{seen_words}
use Rattle.taking.specs.Reasons.{Choice, needed, AreFlags}
use Rattle.choosing.specs.declared.wish.Wish.{Wish}
use Rattle.choosing.specs.declared.wish.Wish.TheVariants as wish
use Rattle.choosing.specs.declared.wish.Selection.{Selection}
use Rattle.choosing.specs.declared.wish.Unchosen.{Unchosen}
use Rattle.choosing.specs.declared.wish.Unchosen.TheVariants as unchosen
use Rattle.mmsyntax.specs.declared.limits.TheConstants.{MOST_ASSERTIONS}

-- labels of assertions
abbrev pub labels_of : List Assertion → List Word
labels_of xs = map (λ x. x.label) xs

-- each of some labels is that of an assertion
abbrev pub AreThere : Scope → List Word → Type 0
AreThere s labels = IsTrue (list_all (is_in (labels_of s.assertions)) labels)

-- ---- all

abbrev pub all_chosen : Scope → Choice
all_chosen s = record { chosen = labels_of s.assertions; front = []; long = [] }

-- ---- some assertions, and what their proofs need: the nearest first, as long as there is room

-- the assertions with these labels
abbrev pub labelled : List Word → List Assertion → List Assertion
labelled labels xs = filter (λ x. is_in labels x.label) xs

-- of some assertions, so many have these labels at most
abbrev pub have_room : ℕ → List Assertion → List Word → Bool
have_room most xs labels = not (nat_lt most (length (labelled labels xs)))

-- what is wanted with what an assertion needs, where all of it has room. Else the assertion is taken as an axiom, and wants nothing
abbrev pub with_needs : (List Word → Bool) → List Word → List Word → List Word
with_needs has_room needs wanted = if has_room (needs ++ wanted) then needs ++ wanted else wanted

-- of assertions, the last first, each that is wanted wants what it needs
abbrev pub nearest : (List Word → Bool) → List Word → List Assertion → List Word
nearest has_room wanted [] = wanted
nearest has_room wanted (x ∷ before) =
    nearest has_room (if is_in wanted x.label then with_needs has_room (needed (reverse before) x) wanted else wanted) before

-- those that are asked for, and the nearest of those that they need
abbrev pub chosen_for : List Word → Scope → Choice
chosen_for asked s = record {
  chosen = labels_of (labelled (nearest (have_room MOST_ASSERTIONS s.assertions) asked (reverse s.assertions)) s.assertions);
  front = [];
  long = [];
}

-- ---- those between two, and in front of them what their proofs cite

-- what the proofs of assertions behind earlier ones need
abbrev pub needed_by_all : List Assertion → List Assertion → List Word
needed_by_all earlier [] = []
needed_by_all earlier (x ∷ xs) = needed earlier x ++ needed_by_all (earlier ++ x ∷ []) xs

-- those from a place to another, which is one of them
abbrev pub between : ℕ → ℕ → List Assertion → List Assertion
between i j xs = drop i (take (j + 1) xs)

abbrev pub front_of : ℕ → ℕ → List Assertion → List Assertion
front_of i j xs = filter (λ x. is_in (needed_by_all (take i xs) (between i j xs)) x.label) (take i xs)

abbrev pub chosen_between : ℕ → ℕ → Scope → Choice
chosen_between i j s = record {
  chosen = labels_of (front_of i j s.assertions) ++ labels_of (between i j s.assertions);
  front = labels_of (front_of i j s.assertions);
  long = [];
}

-- ---- wishes

-- the place of the assertion with a label
abbrev pub place_in : Scope → Word → Option ℕ
place_in s w = place_of (λ x. bytes_eq w x.label) s.assertions

-- the labels of a wish
abbrev pub labels_wished : Wish → List Word
labels_wished wish.All = []
labels_wished (wish.For asked) = seen_words asked.now
labels_wished (wish.Between from to) = from.now ∷ to.now ∷ []
labels_wished (wish.These labels axioms) = seen_words labels.now ++ seen_words axioms.now

-- the first of them that no assertion has
abbrev pub first_unknown : Scope → Wish → Option Word
first_unknown s w = find (λ l. not (is_in (labels_of s.assertions) l)) (labels_wished w)

-- the first of two labels stands behind the second
abbrev pub StandsBehind : Scope → Wish → Type 0
StandsBehind s (wish.Between from to) = (i j : ℕ) × (place_in s from.now ≡ Some i) × (place_in s to.now ≡ Some j) × (j < i)
StandsBehind s _ = ⊥

-- what a wish chooses: before a proof is checked, none has too long an expression
abbrev pub IsChoice : Scope → Wish → Choice → Type 0
IsChoice s wish.All choice = choice ≡ all_chosen s
IsChoice s (wish.For asked) choice = choice ≡ chosen_for (seen_words asked.now) s
IsChoice s (wish.Between from to) choice =
    (i j : ℕ) × (place_in s from.now ≡ Some i) × (place_in s to.now ≡ Some j) × (choice ≡ chosen_between i j s)
IsChoice s (wish.These labels axioms) choice = choice ≡ record { chosen = seen_words labels.now; front = seen_words axioms.now; long = [] }

-- a selection by flags: at most 4,096 assertions; each label of the wish is one of an assertion, and they stand the right way round
pub record IsChosen (s : Scope) (w : Wish) (sel : Selection) : Type 0 where
  pub choice : Choice
  pub is_choice : IsChoice s w choice
  pub flags : AreFlags s choice sel.chosen.items sel.front.items (map (λ x. false) s.assertions)
  pub there : AreThere s choice.chosen
  pub few : length choice.chosen ≤ MOST_ASSERTIONS
  pub known : first_unknown s w ≡ None
  pub in_order : StandsBehind s w → ⊥

-- ---- refusals

-- a wish for so many, whose labels are known and stand the right way round: more than 4,096
abbrev pub IsWishForMany : Scope → Wish → ℕ → Type 0
IsWishForMany s (wish.For asked) n =
    (length (labelled (seen_words asked.now) s.assertions) ≡ n) × (MOST_ASSERTIONS < n) × (first_unknown s (wish.For asked) ≡ None)
IsWishForMany s (wish.These labels axioms) n =
    (length (seen_words labels.now) ≡ n) × (MOST_ASSERTIONS < n) × (first_unknown s (wish.These labels axioms) ≡ None)
IsWishForMany s w n = (choice : Choice) × IsChoice s w choice × (length choice.chosen ≡ n) × (MOST_ASSERTIONS < n) × (StandsBehind s w → ⊥)

-- why a wish is refused
abbrev pub IsUnchosen : Scope → Wish → Unchosen → Type 0
IsUnchosen s w (unchosen.UnknownLabel label) =
    IsTrue (is_in (labels_wished w) label.now) × (place_in s label.now ≡ None) × (first_unknown s w ≡ Some label.now)
IsUnchosen s w unchosen.Backwards = StandsBehind s w
IsUnchosen s w (unchosen.TooMany n) = IsWishForMany s w n
IsUnchosen s w unchosen.NoMemory = Unit {0}
