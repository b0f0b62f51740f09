-- Of the code's inside, apart from the rules: what is known of places and of what is put in at them.
use Rattle.std.specs.Prelude.{◌≡◌, ◌⊎◌, ◌≤◌, ℕ, suc, Bool, true, false, List, [], ◌∷◌, ◌++◌, take, drop, length}
use Rattle.std.specs.Prelude.{Option, Some, None, zero, slice_get}
use Rattle.std.specs.List.{list_any}
use Rattle.giving.specs.Staying.{Change}
use Rattle.leaving.specs.declared.part.Part.{Part}
use Rattle.leaving.specs.Leaving.{open_behind, IsBlock}
use Rattle.items.specs.declared.reading.Item.{Item as Found}
use Rattle.items.specs.Items.{Item}
use Rattle.items.specs.Reading.{AreFound}
use Rattle.arranging.specs.declared.coming.Coming.{Coming}
use Rattle.arranging.specs.declared.coming.Placed.{Placed}
use Rattle.arranging.specs.declared.coming.Placed.TheVariants.{Stays, Goes as Leaves}
use Rattle.arranging.specs.declared.checking.Checker.{Checker}
use Rattle.arranging.specs.Parts.{Edited, known_labels, parts}
use Rattle.arranging.specs.Sections.{keeps}
use Rattle.arranging.specs.Arranged.{ends_described, IsDescription, IsPutIn, IsLayout}

-- so many blocks are open in front of each item, and behind the last, where this is known
pub record AreDepths (ps : List Part) (ds : List (Option ℕ)) : Type 0 where
  pub many : length ds ≡ suc (length ps)
  pub each : (k d : ℕ) → slice_get ds k ≡ Some (Some d) → open_behind 0 (take k ps) ≡ Some d

-- the items of a source, as it is edited
pub record IsKnownOf (e : Edited) (source : List ℕ) (old : List Item) (moving moved library : List Change) (items : List Found)
    (ps : List Part) : Type 0 where
  pub found : AreFound source 0 items old
  pub parts_are : ps ≡ parts e old
  pub moving_are : e.moving ≡ known_labels moving
  pub moved_are : e.moved ≡ known_labels moved
  pub library_are : e.library ≡ known_labels library

-- so many stand in front of the first of the library's that keeps its place, if one does
abbrev pub IsFirstKept : Edited → List Item → Option ℕ → Type 0
IsFirstKept e old None = list_any (keeps e) old ≡ false
IsFirstKept e old (Some k) = list_any (keeps e) (take k old) ≡ false

pub record IsKnown (e : Edited) (source : List ℕ) (old : List Item) (c : Checker) : Type 0 where
  pub known : IsKnownOf e source old c.moving.now c.moved.now c.library.now c.items.now c.parts.now
  pub text_is : c.text.now ≡ source
  pub first_kept : IsFirstKept e old c.first_kept
  pub depths : AreDepths c.parts.now c.depths.items

-- the byte behind so many items, the first of which stands behind a byte
abbrev pub end_behind : ℕ → List Found → ℕ → ℕ
end_behind at fs zero = at
end_behind at [] (suc k) = at
end_behind at (f ∷ fs) (suc k) = end_behind f.end fs k

-- items are a block, or one item with what describes it, behind others
abbrev pub IsWhole : List Part → List Part → Type 0
IsWhole before ps = IsBlock ps ⊎ ((x : Part) × (qs : List Part) × (ps ≡ qs ++ x ∷ []) × IsDescription before qs)

-- something may be put in at a place
pub record IsFree (e : Edited) (old : List Item) (place : ℕ) : Type 0 where
  pub within : place ≤ length old
  pub outermost : open_behind 0 (parts e (take place old)) ≡ Some 0
  pub apart : ends_described (parts e (take place old)) ≡ false

-- what is put in may stand at its place
abbrev pub MayCome : Edited → List Item → Coming → Type 0
MayCome e old c = (c.place ≤ length old) × IsPutIn e (take c.place old) c (drop c.place old)

-- a layout goes on at a place: with one of the items from there on, it is one of all
abbrev pub GoesOn : Edited → List Item → List Placed → ℕ → Type 0
GoesOn e old layout place = (ps : List Placed) → IsLayout e (take place old) (drop place old) ps → IsLayout e [] old (layout ++ ps)

-- where an item leaves, or stays
abbrev pub item_placed : Bool → Placed
item_placed true = Leaves
item_placed false = Stays
