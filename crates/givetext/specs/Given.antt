-- What is given back: the text of a source with the edits of a history.
use Rattle.std.specs.Prelude.{◌≡◌, ℕ, List, map, All, IsTrue}
use Rattle.mmtext.specs.Words.{Word}
use Rattle.source.specs.Scopes.{Scope}
use Rattle.source.specs.Sources.{DeclaresText}
use Rattle.taking.specs.declared.reason.Reason.{Reason}
use Rattle.taking.specs.Reasons.{Choice}
use Rattle.choosing.specs.declared.wish.Wish.{Wish}
use Rattle.giving.specs.Staying.{StayAll, others}
use Rattle.library.specs.declared.history.Entry.{Entry}
use Rattle.library.specs.Library.{Listed}
use Rattle.checking.specs.Checks.{LeadsTo}
use Rattle.intake.specs.declared.taken.Taken.{Taken}
use Rattle.intake.specs.Intakes.{IsLibraryOf, axioms_of, names_of}
use Rattle.taketext.specs.Answers.{taken_text}
use Rattle.comments.specs.Kept.{AreKept}
use Rattle.sourceediting.specs.Following.{Following, all_commands, behind_all, opening, changes_of, label_then, own_flags}
use Rattle.sourceediting.specs.Following.{names_none}
use Rattle.secondlook.specs.Again.{IsTakenAgain}
use Rattle.sourceediting.specs.Entries.{Edition}
use Rattle.sourceediting.specs.Reproved.{AreOtherProofs}
use Rattle.sourceediting.specs.Written.{IsWrittenAnew}

-- the text is what is printed where a library is taken of the source, by some wish
pub record IsTakenText (source : List ℕ) (s : Scope) (library : List ℕ) (t : Taken) : Type 0 where
  pub path : List ℕ
  pub wish : Wish
  pub taken : IsLibraryOf s wish t
  pub text : library ≡ taken_text path source wish t

-- that library, and what it is behind a history
abbrev pub edition : Taken → Listed → Edition
edition t edited = record { opened = t.database; names = names_of t; edited = edited }

-- a source with the edits of a history over a library that was taken of it
pub record IsGiven (source library history out : List ℕ) : Type 0 where
  pub old : Scope
  pub declares : DeclaresText source old
  pub taken : Taken
  pub was_taken : IsTakenText source old library taken
  -- over the library the history is done again
  pub entries : List Entry
  pub edited : Listed
  pub leads : LeadsTo library history entries edited
  -- this became of its assertions
  pub followed : Following
  pub follows : followed ≡ behind_all (all_commands entries) (opening old was_taken.taken.taken.choice taken.database)
  -- what is given back declares a source, of which the edited library is taken
  pub new : Scope
  pub declares_now : DeclaresText out new
  pub choice : Choice
  pub axioms : List (Word × Reason)
  pub again : IsTakenAgain new (map label_then followed.living) edited choice axioms
  -- every other assertion is as it was, but for the labels that the history changes, and its proof names none that was deleted
  pub stays : StayAll (changes_of followed) (others (own_flags was_taken.taken.taken.choice (axioms_of taken) old) old.assertions)
      (others (own_flags choice axioms new) new.assertions)
  pub uncited : All (λ x. IsTrue (names_none followed.gone x.proof))
      (others (own_flags was_taken.taken.taken.choice (axioms_of taken) old) old.assertions)
  -- and so is every byte, but for these edits: just theorems whose listing the history changes have another proof, in the form of the old
  -- one, and marked where that is compressed
  pub written : IsWrittenAnew (all_commands entries) followed.living followed.gone
      (AreOtherProofs source old (edition taken edited) followed.living)
      (changes_of followed) source out
  -- no comment between statements is lost or made, but some that go with what was deleted, and in each just the labels change
  pub comments : AreKept (changes_of followed) followed.gone source out
