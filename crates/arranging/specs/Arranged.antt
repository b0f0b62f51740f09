-- A source with items that leave their places, and with what is put in.
use Rattle.std.specs.Prelude.{◌≡◌, ◌⊎◌, ℕ, Bool, true, false, List, [], ◌∷◌, ◌++◌, take, All, Option, Some, None, IsTrue, slice_get}
use Rattle.std.specs.List.{flat_map, AllZip}
use Rattle.std.specs.Option.{option_map}
use Rattle.mmtext.specs.Words.{Word}
use Rattle.source.specs.Scopes.{is_in}
use Rattle.giving.specs.Staying.{Change}
use Rattle.leaving.specs.declared.part.Part.{Part}
use Rattle.leaving.specs.declared.part.Part.TheVariants.{Description}
use Rattle.leaving.specs.Leaving.{open_behind, IsBlock, Goes}
use Rattle.items.specs.Items.{Item, label_of, Spells}
use Rattle.items.specs.Rewriting.{ReadsThen}
use Rattle.arranging.specs.declared.coming.Coming.{Coming}
use Rattle.arranging.specs.declared.coming.Placed.{Placed}
use Rattle.arranging.specs.declared.coming.Placed.TheVariants.{Stays, Goes as Leaves, Comes}
use Rattle.arranging.specs.Parts.{Edited, part_of, parts, unit_of}
use Rattle.arranging.specs.Groups.{IsWritten}
use Rattle.arranging.specs.Sections.{IsUnder}
use Rattle.arranging.specs.Named.{IsNamedFrom}

abbrev pub labels_asserted : List Item → List Word
labels_asserted xs = flat_map label_of xs

-- ---- what is put in

-- a description ends these
abbrev pub ends_described : List Part → Bool
ends_described [] = false
ends_described (Description ∷ []) = true
ends_described (p ∷ ps) = ends_described ps

-- what describes the item behind these, or nothing where nothing does
abbrev pub IsDescription : List Part → List Part → Type 0
IsDescription before ps = (ps ≡ Description ∷ []) ⊎ ((ps ≡ []) × (ends_described before ≡ false))

-- an assertion that stands alone, outermost or in a block: it goes with what describes it, or with the block, and nothing else is written
pub record AsItStood (e : Edited) (old : List Item) (label : Word) (c : Coming) : Type 0 where
  pub moved : IsTrue (is_in e.moved label)
  pub alone : labels_asserted (unit_of old c) ≡ label ∷ []
  pub outermost : open_behind 0 (parts e (take c.first old)) ≡ Some 0
  pub whole : IsBlock (parts e (unit_of old c)) ⊎ ((x : Part) × (ps : List Part) × (parts e (unit_of old c) ≡ ps ++ x ∷ [])
      × IsDescription (parts e (take c.first old)) ps)
  pub plain : (c.front.now ≡ []) × (c.back.now ≡ [])

-- one that leaves a block is written anew, behind what describes it
pub record IsParted (e : Edited) (old : List Item) (label : Word) (c : Coming) : Type 0 where
  pub item : Item
  pub stands : slice_get old c.end ≡ Some item
  pub labelled : label_of item ≡ label ∷ []
  pub described : IsDescription (parts e (take c.first old)) (parts e (unit_of old c))
  pub inside : (open_behind 0 (parts e (take c.end old)) ≡ Some 0) → ⊥
  pub written : IsWritten c

-- one of the source that stands elsewhere then, or one that is added, with no item of the source
abbrev pub IsFrom : Edited → List Item → Option Word → Coming → Type 0
IsFrom e old None c = (unit_of old c ≡ []) × IsWritten c
IsFrom e old (Some label) c = IsTrue (is_in e.moving label) × (AsItStood e old label c ⊎ IsParted e old label c)

abbrev pub label_in_source : Coming → Option Word
label_in_source c = option_map (λ w. w.now) c.source

-- it is put in outside of blocks, not between a description and what that describes, and under the heading of what it follows
pub record IsPutIn (e : Edited) (before : List Item) (c : Coming) (after : List Item) : Type 0 where
  pub outermost : open_behind 0 (parts e before) ≡ Some 0
  pub apart : ends_described (parts e before) ≡ false
  pub from : IsFrom e (before ++ after) (label_in_source c) c
  pub under : IsUnder e before c after

-- ---- the whole

-- behind items: of others just those leave that have to, and what is put in is put in so
abbrev pub IsLayout : Edited → List Item → List Item → List Placed → Type 0
IsLayout e before after [] = after ≡ []
IsLayout e before after (Comes c ∷ ps) = IsPutIn e before c after × IsLayout e before after ps
IsLayout e before [] (p ∷ ps) = ⊥
IsLayout e before (x ∷ after) (Stays ∷ ps) =
    (Goes (parts e before) (part_of e.gone e.moving x) (parts e after) → ⊥) × IsLayout e (before ++ x ∷ []) after ps
IsLayout e before (x ∷ after) (Leaves ∷ ps) =
    Goes (parts e before) (part_of e.gone e.moving x) (parts e after) × IsLayout e (before ++ x ∷ []) after ps

-- items read so, one behind the other
pub record ReadThen (cs proofs : List Change) (xs : List Item) (text : List ℕ) : Type 0 where
  pub texts : List (List ℕ)
  pub each : AllZip (ReadsThen cs proofs) xs texts
  pub whole : text ≡ flat_map (λ t. t) texts

-- the text of what is put in
pub record IsTextOf (cs proofs : List Change) (old : List Item) (c : Coming) (text : List ℕ) : Type 0 where
  pub along : List ℕ
  pub reads : ReadThen cs proofs (unit_of old c) along
  pub whole : text ≡ c.front.now ++ (along ++ c.back.now)

-- the text of what stands then
abbrev pub Says : List Change → List Change → List Item → List ℕ → List Item → List Placed → List ℕ → Type 0
Says cs proofs old rest xs [] text = (xs ≡ []) × (text ≡ rest)
Says cs proofs old rest xs (Comes c ∷ ps) text =
    (now : List ℕ) × (later : List ℕ) × IsTextOf cs proofs old c now × Says cs proofs old rest xs ps later × (text ≡ now ++ later)
Says cs proofs old rest [] (p ∷ ps) text = ⊥
Says cs proofs old rest (x ∷ xs) (Stays ∷ ps) text =
    (now : List ℕ) × (later : List ℕ) × ReadsThen cs proofs x now × Says cs proofs old rest xs ps later × (text ≡ now ++ later)
Says cs proofs old rest (x ∷ xs) (Leaves ∷ ps) text = Says cs proofs old rest xs ps text

-- a text is a source with these edits: labels change, theorems have other proofs, assertions leave their places, and some are put in
pub record IsArranged (cs proofs : List Change) (e : Edited) (source out : List ℕ) : Type 0 where
  pub old : List Item
  pub rest : List ℕ
  pub spells : Spells old rest source
  pub layout : List Placed
  pub is_layout : IsLayout e [] old layout
  pub says : Says cs proofs old rest old layout out
  -- what goes behind its description is what that describes
  pub named : All (λ c. IsNamedFrom cs c (label_in_source c)) e.comings
