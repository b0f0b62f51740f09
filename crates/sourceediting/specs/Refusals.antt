-- Why the edits of a history are not written into a source.
use Rattle.std.specs.Prelude.{◌≡◌, ◌<◌, ◌≤◌, ◌+◌, ◌⊎◌, ℕ, Bool, true, false, List, [], ◌∷◌, All, Contains, Option, Some, None, IsTrue, slice_get}
use Rattle.mmtext.specs.Words.{Word}
use Rattle.mmsyntax.specs.declared.statement.Assertion.{Assertion as Unit'}
use Rattle.source.specs.Statements.{Proof}
use Rattle.source.specs.Scopes.{Assertion, Scope, is_in}
use Rattle.library.specs.declared.command.Command.{Command}
use Rattle.source.specs.Whole.{labels_in}
use Rattle.giving.specs.Staying.{Change, changed}
use Rattle.items.specs.Items.{Item}
use Rattle.items.specs.Bare.{IsItemOf, has_proof}
use Rattle.arranging.specs.declared.coming.Coming.{Coming}
use Rattle.arranging.specs.Arranged.{label_in_source, labels_asserted}
use Rattle.arranging.specs.Held.{IsHeldBehind}
use Rattle.arranging.specs.declared.headed.Side.{Side}
use Rattle.arranging.specs.declared.headed.Side.TheVariants.{Behind, InFront}
use Rattle.arranging.specs.Headed.{IsHeaded}
use Rattle.sourceediting.specs.declared.refusal.Refusal.{Refusal}
use Rattle.sourceediting.specs.declared.refusal.Refusal.TheVariants as refusal
use Rattle.sourceediting.specs.Entries.{Edition, assertions_of}
use Rattle.sourceediting.specs.Following.{Followed, KeepsPlaces}
use Rattle.sourceediting.specs.Reproved.{HasAnotherListing, CanBeReproved}
use Rattle.sourceediting.specs.PutIn.{has_compressed, was_compressed, CanBePutIn}

-- ---- what was deleted is still cited

-- a proof, if there is one, names a label
abbrev pub names : Word → Option Proof → Bool
names w None = false
names w (Some p) = is_in (labels_in p) w

-- an assertion has a label that is gone in its proof
pub record IsStillCited (gone : List Word) (others : List Assertion) (label by : Word) : Type 0 where
  pub citing : Assertion
  pub there : Contains others citing
  pub labelled : citing.label ≡ by
  pub cites : IsTrue (names label citing.proof)
  pub deleted : IsTrue (is_in gone label)

-- ---- what is put in can't stand in front of its neighbour

-- an assertion of the edited library has this number and this label
pub record IsNumbered (edited : List Unit') (number : ℕ) (label : Word) : Type 0 where
  pub assertion : Unit'
  pub stands : slice_get edited number ≡ Some assertion
  pub labelled : assertion.label ≡ label

-- an assertion with this label now lives, and has this label in the source, if it has one
pub record IsKnownAs (living : List Followed) (label : Word) (source : Option Word) : Type 0 where
  pub followed : Followed
  pub lives : Contains living followed
  pub now : followed.now ≡ label
  pub in_source : followed.source ≡ source

-- it stands in front of its neighbour in the library, and mentions a name that is declared behind that in the source
pub record IsInFront (living : List Followed) (edited : List Unit') (source : List ℕ) (label next name : Word) : Type 0 where
  pub first : ℕ
  pub second : ℕ
  pub in_front : first < second
  pub is_first : IsNumbered edited first label
  pub is_second : IsNumbered edited second next
  pub coming : Coming
  pub comes : IsKnownAs living label (label_in_source coming)
  pub neighbour : Word
  pub stays : IsKnownAs living next (Some neighbour)
  pub held : IsHeldBehind source coming neighbour name

-- ---- what is put in can't stand beside its neighbour

-- an assertion with this label now was added, or was given another rank
pub record IsPut (living : List Followed) (label : Word) : Type 0 where
  pub followed : Followed
  pub lives : Contains living followed
  pub now : followed.now ≡ label
  pub put : (followed.moved ≡ true) ⊎ (followed.source ≡ None)

-- so was each of the edited library, from a number up to another
abbrev pub ArePut : List Followed → List Unit' → ℕ → ℕ → Type 0
ArePut living edited from to = (k : ℕ) (label : Word) → from ≤ k → k < to → IsNumbered edited k label → IsPut living label

-- one with a number stands on this side of its neighbour: behind it, and each from there up to itself was put in; or in front of it, and
-- each in front of the neighbour was
abbrev pub IsBeside : List Followed → List Unit' → ℕ → ℕ → Side → Type 0
IsBeside living edited number next Behind = (next < number) × ArePut living edited (next + 1) (number + 1)
IsBeside living edited number next InFront = (number < next) × ArePut living edited 0 next

-- in the source the neighbour has a heading on that side, in the block around it: what is put in would stand outermost, under another one
pub record IsUnplaced (living : List Followed) (edited : List Unit') (source : List ℕ) (label next : Word) (side : Side) : Type 0 where
  pub number : ℕ
  pub is_put : IsNumbered edited number label
  pub place : ℕ
  pub is_next : IsNumbered edited place next
  pub beside : IsBeside living edited number place side
  pub neighbour : Word
  pub stays : IsKnownAs living next (Some neighbour)
  pub headed : IsHeaded source neighbour side

-- ---- an assertion that has no proof is to have another one

-- texts for proofs are of those whose listing isn't the old one with changed labels
abbrev pub AreListedAnew : List Followed → List Unit' → List Change → Type 0
AreListedAnew living edited proofs = (opened : List Unit') × All (λ p. HasAnotherListing opened edited living p.0) proofs

-- an item of the source has no $=, and the label of one of these
pub record IsBareIn (living : List Followed) (edited : List Unit') (source : List ℕ) : Type 0 where
  pub item : Item
  pub stands : IsItemOf source item
  pub bare : has_proof item ≡ false
  pub label : Word
  pub labelled : labels_asserted (item ∷ []) ≡ label ∷ []
  pub opened : List Unit'
  pub listed : HasAnotherListing opened edited living label

-- ---- a proof can't be written

-- a theorem of the source has another proof in the edited library, which can't be put there
pub record IsNotReproved (s : Scope) (e : Edition) (living : List Followed) (label : Word) : Type 0 where
  pub source : Word
  pub another : HasAnotherListing e.opened.assertions (assertions_of e) living source
  pub labelled : another.new.label ≡ label
  pub cannot : CanBeReproved s e living source another.new → ⊥

-- how an assertion with a label is put in: one that was added under this label, and another one under the label that it has in the source
-- then; and whether its proof is compressed
abbrev pub IsAdded : Scope → List Followed → Word → Word → Bool → Type 0
IsAdded s living label word is_compressed = IsKnownAs living label None × (word ≡ label) × (is_compressed ≡ has_compressed s)

abbrev pub LeavesItsPlace : Scope → List Followed → List Change → Word → Word → Bool → Type 0
LeavesItsPlace s living cs label word is_compressed =
    (source : Word) × IsKnownAs living label (Some source) × (word ≡ changed cs source) × (is_compressed ≡ was_compressed s source)

-- one that is put in can't be written so
pub record IsNotPutIn (s : Scope) (e : Edition) (living : List Followed) (cs : List Change) (label : Word) : Type 0 where
  pub assertion : Unit'
  pub there : Contains (assertions_of e) assertion
  pub labelled : assertion.label ≡ label
  pub word : Word
  pub is_compressed : Bool
  pub comes : IsAdded s living label word is_compressed ⊎ LeavesItsPlace s living cs label word is_compressed
  pub cannot : CanBePutIn s e living is_compressed word assertion → ⊥

-- a theorem that keeps its place, or where a command adds, moves or deletes an assertion that is put in
abbrev pub IsUnwritten : Scope → Edition → List Followed → List Change → List Command → Word → Type 0
IsUnwritten s e living cs commands label =
    IsNotReproved s e living label ⊎ (IsNotPutIn s e living cs label × (All KeepsPlaces commands → ⊥))

-- what is known of a label whose proof can't be written
abbrev pub OnUnwritten : (Word → Type 0) → Refusal → Type 0
OnUnwritten P (refusal.Unwritten label) = P label
OnUnwritten P _ = Unit {0}

-- ---- while a source is written anew

-- why it isn't: of an assertion that is still cited it was told before, and of want of memory nothing is known
abbrev pub HasCause : List Followed → List Unit' → List ℕ → Refusal → Type 0
HasCause living edited source (refusal.StillCited label by) = ⊥
HasCause living edited source (refusal.InFront label next name) = IsInFront living edited source label next name
HasCause living edited source (refusal.Unwritten label) = (a : Unit') × Contains edited a × (a.label ≡ label)
HasCause living edited source (refusal.Unplaced label next side) = IsUnplaced living edited source label next side
HasCause living edited source refusal.Bare = IsBareIn living edited source
HasCause living edited source refusal.NoMemory = Unit {0}

-- why a history is refused that deletes: one of the others still cites what is gone
abbrev pub IsCitedCause : List Word → List Assertion → Refusal → Type 0
IsCitedCause gone others (refusal.StillCited label by) = IsStillCited gone others label by
IsCitedCause gone others refusal.NoMemory = Unit {0}
IsCitedCause gone others _ = ⊥
