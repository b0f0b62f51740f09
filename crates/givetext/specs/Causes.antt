-- Why edits are not given back: the cause of each refusal.
use Rattle.std.specs.Prelude.{◌≡◌, ◌≢◌, ◌<◌, ◌||◌, ◌⊎◌, ℕ, Bool, false, List, [], ◌∷◌, map, Contains, Option, Some, None, IsTrue, slice_get}
use Rattle.std.specs.Borrow.{Bor}
use Rattle.mmtext.specs.Words.{Word}
use Rattle.mmtext.specs.declared.fault.TextFault.{TextFault}
use Rattle.mmsyntax.specs.declared.statement.Assertion.{Assertion as Unit'}
use Rattle.source.specs.Scopes.{Assertion, Scope, is_in}
use Rattle.source.specs.Sources.{DeclaresText}
use Rattle.source.specs.Faults.{FaultySource}
use Rattle.source.specs.Views.{seen_words}
use Rattle.taking.specs.Reasons.{Choice}
use Rattle.choosing.specs.declared.wish.Wish.{Wish}
use Rattle.choosing.specs.declared.wish.Wish.TheVariants.{These}
use Rattle.giving.specs.Staying.{Change, changed, others}
use Rattle.items.specs.Items.{Item, label_of, Spells}
use Rattle.comments.specs.Kept.{AreLost}
use Rattle.library.specs.declared.history.Entry.{Entry}
use Rattle.library.specs.Library.{Listed}
use Rattle.checking.specs.Checks.{LeadsTo, IsReplayFault}
use Rattle.intake.specs.declared.taken.Taken.{Taken}
use Rattle.intake.specs.Intakes.{IsLibraryOf, axioms_of}
use Rattle.taketext.specs.Answers.{taken_text}
use Rattle.taketext.specs.Origins.{Tells, TellsNothing}
use Rattle.sourceediting.specs.Axioms.{axioms_then}
use Rattle.sourceediting.specs.Following.{Followed, Following, all_commands, behind_all, opening, changes_of, label_then, own_flags}
use Rattle.sourceediting.specs.Refusals.{names, IsStillCited, HasCause, IsUnwritten}
use Rattle.sourceediting.specs.Reproved.{AreOtherProofs}
use Rattle.sourceediting.specs.Written.{IsWrittenAnew}
use Rattle.sourceediting.specs.declared.refusal.Refusal.TheVariants as edits
use Rattle.secondlook.specs.Differing.{IsUnlike, IsUntaken}
use Rattle.secondlook.specs.declared.unlike.Unlike.{Unlike}
use Rattle.secondlook.specs.declared.unlike.Unlike.TheVariants as unlike
use Rattle.givetext.specs.Given.{IsTakenText, edition}
use Rattle.givetext.specs.declared.refusal.Refusal.{Refusal}
use Rattle.givetext.specs.declared.refusal.Refusal.TheVariants as refusal

-- ---- the library isn't what is taken of the source

-- what is taken by a wish has another text
pub record IsOtherText (source : List ℕ) (s : Scope) (library path : List ℕ) (w : Wish) : Type 0 where
  pub taken : Taken
  pub is_taken : IsLibraryOf s w taken
  pub other : library ≢ taken_text path source w taken

-- by a wish nothing is taken of the source, or another text
abbrev pub IsNotBy : List ℕ → Scope → List ℕ → List ℕ → Wish → Type 0
IsNotBy source s library path w = IsUntaken s w ⊎ IsOtherText source s library path w

-- the comment of the library tells no wish, or one by which it isn't taken
abbrev pub IsNotTaken : List ℕ → Scope → List ℕ → Type 0
IsNotTaken source s library =
    TellsNothing library ⊎ ((path : List ℕ) × (w : Wish) × Tells library path w × IsNotBy source s library path w)

-- ---- what is known once the history was done again

-- what the source declares, the library that was taken of it, the history and where it leads; what becomes of the assertions, which labels
-- change, and of each assertion of the source whether it is the library's own
pub record Known : Type 0 where
  pub old : Scope
  pub taken : Taken
  pub entries : List Entry
  pub edited : Listed
  pub followed : Following
  pub changes : List Change
  pub own : List Bool

abbrev pub known_of : Scope → Taken → List Entry → Listed → Following → List Change → List Bool → Known
known_of old taken entries edited followed changes own = record {
  old = old;
  taken = taken;
  entries = entries;
  edited = edited;
  followed = followed;
  changes = changes;
  own = own;
}

-- so it is, where the library was taken by a choice
pub record IsFollowed (choice : Choice) (k : Known) : Type 0 where
  pub follows : k.followed ≡ behind_all (all_commands k.entries) (opening k.old choice k.taken.database)
  pub changes_are : k.changes ≡ changes_of k.followed
  pub own_are : k.own ≡ own_flags choice (axioms_of k.taken) k.old

-- and so it is of these texts
pub record IsKnown (source library history : List ℕ) (k : Known) : Type 0 where
  pub declares : DeclaresText source k.old
  pub was_taken : IsTakenText source k.old library k.taken
  pub leads : LeadsTo library history k.entries k.edited
  pub followed : IsFollowed was_taken.taken.taken.choice k

abbrev pub others_of : Known → List Assertion
others_of k = others k.own k.old.assertions

abbrev pub edited_assertions : Known → List Unit'
edited_assertions k = map (λ r. r.assertion) k.edited.entries

-- a text is the source with the edits, before it is looked at again
abbrev pub IsTextThen : Known → List ℕ → List ℕ → Type 0
IsTextThen k source out =
    IsWrittenAnew (all_commands k.entries) k.followed.living k.followed.gone
    (AreOtherProofs source k.old (edition k.taken k.edited) k.followed.living) k.changes source out

-- ---- a label is a name already

-- an assertion gets the label, which is another one than it has in the source; it is a name there, and what has it keeps it
pub record IsNameTaken (k : Known) (label : Word) : Type 0 where
  pub followed : Followed
  pub lives : Contains k.followed.living followed
  pub then : label_then followed ≡ label
  pub other : followed.source ≢ Some label
  pub named : IsTrue (is_in k.old.symbols label || is_in k.old.labels label)
  pub unchanged : is_in (map (λ c. c.0) k.changes) label ≡ false
  pub stays : is_in k.followed.gone label ≡ false

-- ---- what is looked at again

-- in a text one assertion stands in front of another
pub record StandInOrder (text : List ℕ) (first second : Word) : Type 0 where
  pub items : List Item
  pub rest : List ℕ
  pub spells : Spells items rest text
  pub place : ℕ
  pub item : Item
  pub stands : slice_get items place ≡ Some item
  pub labelled : label_of item ≡ first ∷ []
  pub behind : ℕ
  pub later : place < behind
  pub other : Item
  pub there : slice_get items behind ≡ Some other
  pub has : label_of other ≡ second ∷ []

-- one of some assertions cites another one, by the labels that both have then
pub record Cites (cs : List Change) (xs : List Assertion) (by label : Word) : Type 0 where
  pub citing : Assertion
  pub there : Contains xs citing
  pub is : changed cs citing.label ≡ by
  pub cited : Word
  pub named : IsTrue (names cited citing.proof)
  pub now : changed cs cited ≡ label

-- the text with the edits isn't as it should be, where the library is taken by the labels that its assertions have then, and as axioms are
-- taken just those that are axioms in the edited library
pub record IsUnfit (k : Known) (source : List ℕ) (why : Unlike) : Type 0 where
  pub out : List ℕ
  pub written : IsTextThen k source out
  pub then : Bor (List (Bor (List ℕ)))
  pub labels : seen_words then.now ≡ map label_then k.followed.living
  pub axioms : Bor (List (Bor (List ℕ)))
  pub axioms_are : seen_words axioms.now ≡ axioms_then (edited_assertions k) k.followed.living
  pub unlike : IsUnlike k.old out (These then axioms) k.changes k.own k.edited why

-- the other with this number is the first that isn't as it was, and has this label; or there is none with this number
abbrev pub IsFirstOther : Known → List ℕ → Option Assertion → Type 0
IsFirstOther k source x = (n : ℕ) × (slice_get (others_of k) n ≡ x) × IsUnfit k source (unlike.AnotherAssertion n)

-- the text with these edits has these assertions in this order, though the second is cited by the first
abbrev pub WouldStandBehind : Known → List ℕ → Word → Word → Type 0
WouldStandBehind k source label by =
    (out : List ℕ) × IsTextThen k source out × StandInOrder out by label × Cites k.changes (others_of k) by label

-- the text with these edits has the fault
abbrev pub WouldBeFaulty : Known → List ℕ → TextFault → Type 0
WouldBeFaulty k source fault = (out : List ℕ) × IsTextThen k source out × FaultySource out fault

-- ---- each refusal, once the history was done again; of want of memory nothing is known

abbrev pub IsJustified : Known → List ℕ → Refusal → Type 0
IsJustified k source (refusal.NameTaken label) = IsNameTaken k label
IsJustified k source (refusal.Edits (edits.StillCited label by)) = IsStillCited k.followed.gone (others_of k) label by
IsJustified k source (refusal.Edits (edits.Unwritten label)) =
    HasCause k.followed.living (edited_assertions k) source (edits.Unwritten label)
    × IsUnwritten k.old (edition k.taken k.edited) k.followed.living k.changes (all_commands k.entries) label
IsJustified k source (refusal.Edits why) = HasCause k.followed.living (edited_assertions k) source why
IsJustified k source (refusal.StandsBehind label by) = WouldStandBehind k source label by
IsJustified k source (refusal.Unread fault) = WouldBeFaulty k source fault
IsJustified k source (refusal.Changes label) = (x : Assertion) × IsFirstOther k source (Some x) × (x.label ≡ label)
IsJustified k source refusal.AnotherAssertion = IsFirstOther k source None
IsJustified k source refusal.Untaken = IsUnfit k source unlike.Untaken
IsJustified k source refusal.AnotherLibrary = IsUnfit k source unlike.AnotherLibrary ⊎ IsUnfit k source unlike.AnotherPrelude
IsJustified k source refusal.CommentLost =
    (out : List ℕ) × IsTextThen k source out × AreLost k.changes k.followed.gone source out
IsJustified k source refusal.NoMemory = Unit {0}
IsJustified k source _ = ⊥

-- ---- each refusal

abbrev pub IsRefused : List ℕ → List ℕ → List ℕ → Refusal → Type 0
IsRefused source library history (refusal.Source fault) = FaultySource source fault
IsRefused source library history refusal.NotTaken = (s : Scope) × DeclaresText source s × IsNotTaken source s library
IsRefused source library history (refusal.Replay fault) =
    (s : Scope) × (t : Taken) × DeclaresText source s × IsTakenText source s library t × IsReplayFault library history fault
IsRefused source library history refusal.NoMemory = Unit {0}
IsRefused source library history why = (k : Known) × IsKnown source library history k × IsJustified k source why
