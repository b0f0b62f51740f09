-- Which items of a source leave their places (Metamath book, sections 4.1.2, 4.2.8, 4.4.1).
use Rattle.std.specs.Prelude.{◌≡◌, ◌≢◌, ◌⊎◌, ◌↔◌, ℕ, zero, suc, Bool, true, false, List, [], ◌∷◌, ◌++◌, Option, Some, None, IsTrue, length}
use Rattle.std.specs.List.{flat_map, list_all}
use Rattle.leaving.specs.declared.part.Fate.{Fate}
use Rattle.leaving.specs.declared.part.Fate.TheVariants.{Stays, Deleted, Moves}
use Rattle.leaving.specs.declared.part.Part.{Part}
use Rattle.leaving.specs.declared.part.Part.TheVariants.{Description, Heading, Opening, Closing, Assertion, Other}

-- ---- assertions

abbrev pub fate_of : Part → List Fate
fate_of (Assertion f) = f ∷ []
fate_of _ = []

-- what becomes of the assertions among items
abbrev pub fates : List Part → List Fate
fates xs = flat_map fate_of xs

abbrev pub leaves : Fate → Bool
leaves Stays = false
leaves _ = true

abbrev pub is_deleted : Fate → Bool
is_deleted Deleted = true
is_deleted _ = false

-- ---- blocks (section 4.2.8)

-- how many blocks are open behind items; None where one is closed that they don't open
abbrev pub open_behind : ℕ → List Part → Option ℕ
open_behind n [] = Some n
open_behind n (Opening ∷ xs) = open_behind (suc n) xs
open_behind zero (Closing ∷ xs) = None
open_behind (suc n) (Closing ∷ xs) = open_behind n xs
open_behind n (_ ∷ xs) = open_behind n xs

-- from its ${ to its $}
pub record IsBlock (xs : List Part) : Type 0 where
  pub inside : List Part
  pub whole : xs ≡ Opening ∷ (inside ++ Closing ∷ [])
  pub balanced : open_behind 0 inside ≡ Some 0

-- a block that has nothing left: an assertion stood in it, and none stays
pub record IsLeft (xs : List Part) : Type 0 where
  pub block : IsBlock xs
  pub some : fates xs ≢ []
  pub each : list_all leaves (fates xs) ≡ true

-- its comments go along: all that it asserted was deleted, or it is an outermost block of one assertion, which goes with its block
abbrev pub TakesComments : List Part → List Part → Type 0
TakesComments before xs = (list_all is_deleted (fates xs) ≡ true) ⊎ ((open_behind 0 before ≡ Some 0) × (length (fates xs) ≡ 1))

abbrev pub is_comment : Part → Bool
is_comment Description = true
is_comment Heading = true
is_comment _ = false

-- ---- who leaves, between what is in front of it and what is behind it

-- an item in a block that has nothing left
pub record GoesWithBlock (before : List Part) (x : Part) (after : List Part) : Type 0 where
  pub front : List Part
  pub above : List Part
  pub below : List Part
  pub rest : List Part
  pub before_is : before ≡ front ++ above
  pub after_is : after ≡ below ++ rest
  pub left : IsLeft (above ++ x ∷ below)
  pub comments : IsTrue (is_comment x) → TakesComments front (above ++ x ∷ below)

-- an assertion that leaves comes first
abbrev pub first_leaves : List Part → Bool
first_leaves (Assertion f ∷ xs) = leaves f
first_leaves _ = false

-- an assertion that leaves, or what describes it
abbrev pub goes_alone : Part → List Part → Bool
goes_alone (Assertion f) after = leaves f
goes_alone Description after = first_leaves after
goes_alone _ after = false

abbrev pub Goes : List Part → Part → List Part → Type 0
Goes before x after = IsTrue (goes_alone x after) ⊎ GoesWithBlock before x after

-- of items behind others: just those leave which these flags say
abbrev pub AreGoing : List Part → List Part → List Bool → Type 0
AreGoing before [] gs = gs ≡ []
AreGoing before (x ∷ xs) [] = ⊥
AreGoing before (x ∷ xs) (g ∷ gs) = (IsTrue g ↔ Goes before x xs) × AreGoing (before ++ x ∷ []) xs gs
