-- Of the code's inside, apart from the rules: changes of one place or of all, and how they are taken back.
use Rattle.std.specs.Prelude.{◌≡◌, ◌<◌, ℕ, zero, suc, List, [], ◌∷◌, length, map, set, slice_get, Option, Some, None}
use Rattle.std.specs.Prelude.{IsSome, false}
use Rattle.std.specs.Option.{option_map}
use Rattle.std.specs.Str.{bytes_eq}
use Rattle.mmsyntax.specs.declared.statement.Frame.{Frame}
use Rattle.mmsyntax.specs.Tables.{Tables}
use Rattle.mmframes.specs.Frames.{frame}
use Rattle.library.specs.declared.library.Ranked.{Ranked}
use Rattle.library.specs.Library.{label_of}
use Rattle.library.specs.Edits.{with_proof, recited}
use Rattle.catalog.specs.declared.notes.Note.{Note}
use Rattle.catalog.specs.Entries.{Entries, StandsIn}
use Rattle.catalog.specs.Places.{Places, place_in, StandsSomewhere}

-- ---- changes of one assertion

-- an assertion with another label
abbrev pub with_label : List ℕ → Ranked → Ranked
with_label w e = record e { assertion = record e.assertion { label = w } }

-- an assertion with a label replaced in its proof
abbrev pub citing : (old new : List ℕ) → Ranked → Ranked
citing old new e = with_proof (recited old new e.assertion.proof) e

-- the assertion at a place changed, if there is one
abbrev pub changed_at : ℕ → (Ranked → Ranked) → Entries → Entries
changed_at p change [] = []
changed_at zero change (o ∷ os) = option_map change o ∷ os
changed_at (suc p) change (o ∷ os) = o ∷ changed_at p change os

-- each assertion changed
abbrev pub changed_all : (Ranked → Ranked) → Entries → Entries
changed_all change entries = map (option_map change) entries

-- an assertion that may stand at a place in the stead of the one there: it has the same label and the same frame
pub record Succeeds (t : Tables) (entries : Entries) (p : ℕ) (new : Ranked) : Type 0 where
  pub former : Ranked
  pub at : StandsIn entries p former
  pub labelled : label_of new ≡ label_of former
  pub framed : frame t new.assertion ≡ frame t former.assertion

-- ---- changes taken back

-- the entries with what a note holds back at its place
abbrev pub taken_back : Note → Entries → Entries
taken_back n entries = set entries n.place n.former

-- the entries before some changes, from those after them: the last is taken back first
abbrev pub undone : List Note → Entries → Entries
undone [] entries = entries
undone (n ∷ ns) entries = taken_back n (undone ns entries)

-- what the notes hold
abbrev pub formers : List Note → Entries
formers ns = map (λ n. n.former) ns

-- at every other place no assertion has the label
pub record IsAlone (entries : Entries) (w : List ℕ) (p : ℕ) : Type 0 where
  pub others : (q : ℕ) (f : Ranked) → StandsIn entries q f → (q ≡ p → ⊥) → bytes_eq w (label_of f) ≡ false

-- an assertion may be put at a place, without memory: no other has its label, and the map has it
abbrev pub CanStand : Places → Entries → ℕ → Option Ranked → Type 0
CanStand m entries p None = Unit {0}
CanStand m entries p (Some e) = IsAlone entries (label_of e) p × IsSome (place_in m (label_of e))

pub record CanTakeBack (m : Places) (entries : Entries) (n : Note) : Type 0 where
  pub within : n.place < length entries
  pub stands : CanStand m entries n.place n.former

-- each change can be taken back once the later ones are
abbrev pub CanUndo : Places → List Note → Entries → Type 0
CanUndo m [] entries = Unit {0}
CanUndo m (n ∷ ns) entries = CanUndo m ns entries × CanTakeBack m (undone ns entries) n

-- the map has the label of what a note held only where an assertion has it
abbrev pub IsForgotten : Places → Entries → Option Ranked → Type 0
IsForgotten m entries None = Unit {0}
IsForgotten m entries (Some e) = IsSome (place_in m (label_of e)) → StandsSomewhere entries (label_of e)

-- the frames have, at the place of each note, the frame of what it holds
abbrev pub AreNotesFramed : Tables → List Note → List Frame → Type 0
AreNotesFramed t [] frames = Unit {0}
AreNotesFramed t (n ∷ ns) frames =
    AreNotesFramed t ns frames × ((e : Ranked) → n.former ≡ Some e → slice_get frames n.place ≡ Some (frame t e.assertion))
