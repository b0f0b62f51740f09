-- Why a source with edits isn't as it should be.
use Rattle.std.specs.Prelude.{◌≡◌, ◌≢◌, ℕ, Bool, List, All, Some}
use Rattle.source.specs.Scopes.{Scope}
use Rattle.source.specs.Sources.{DeclaresText}
use Rattle.choosing.specs.declared.wish.Wish.{Wish}
use Rattle.giving.specs.Staying.{Change, IsFirstNotStaying, others}
use Rattle.intake.specs.declared.taken.Taken.{Taken}
use Rattle.intake.specs.declared.refusal.Refusal.{Refusal}
use Rattle.intake.specs.declared.refusal.Refusal.TheVariants as refusal
use Rattle.intake.specs.Intakes.{IsLibraryOf, IsRefusedOf, axioms_of}
use Rattle.library.specs.Library.{Listed}
use Rattle.sourceediting.specs.Following.{own_flags}
use Rattle.secondlook.specs.Again.{IsFloatOf, database_lines, edited_lines}
use Rattle.secondlook.specs.declared.unlike.Unlike.{Unlike}
use Rattle.secondlook.specs.declared.unlike.Unlike.TheVariants as unlike

-- of what a text declares no library is taken by a wish
pub record IsUntaken (new : Scope) (w : Wish) : Type 0 where
  pub why : Refusal
  pub told : why ≢ refusal.NoMemory
  pub refused : IsRefusedOf new w why

-- another library is taken: its assertions have other lines
pub record IsOtherLibrary (new : Scope) (w : Wish) (edited : Listed) : Type 0 where
  pub taken : Taken
  pub is_taken : IsLibraryOf new w taken
  pub other : database_lines taken.database ≡ edited_lines edited → ⊥

-- another one is taken: a $f of it is none of the edited library
pub record IsOtherPrelude (new : Scope) (w : Wish) (edited : Listed) : Type 0 where
  pub taken : Taken
  pub is_taken : IsLibraryOf new w taken
  pub other : All (IsFloatOf taken.database.prelude edited.setting.prelude) taken.database.prelude.floats → ⊥

-- the library is taken, and of those that aren't its own the one with this number is the first that doesn't stay
pub record IsOtherAssertion (old new : Scope) (w : Wish) (changes : List Change) (own : List Bool) (number : ℕ) : Type 0 where
  pub taken : Taken
  pub is_taken : IsLibraryOf new w taken
  pub first : IsFirstNotStaying changes (others own old.assertions)
      (others (own_flags is_taken.taken.choice (axioms_of taken) new) new.assertions) (Some number)

-- what a text declares isn't as it should be; of want of memory nothing is known
abbrev pub IsUnlikeOf : Scope → Scope → Wish → List Change → List Bool → Listed → Unlike → Type 0
IsUnlikeOf old new w changes own edited unlike.Untaken = IsUntaken new w
IsUnlikeOf old new w changes own edited unlike.AnotherLibrary = IsOtherLibrary new w edited
IsUnlikeOf old new w changes own edited unlike.AnotherPrelude = IsOtherPrelude new w edited
IsUnlikeOf old new w changes own edited (unlike.AnotherAssertion n) = IsOtherAssertion old new w changes own n
IsUnlikeOf old new w changes own edited unlike.NoMemory = Unit {0}

-- why a text isn't as it should be, by what it declares
abbrev pub IsUnlike : Scope → List ℕ → Wish → List Change → List Bool → Listed → Unlike → Type 0
IsUnlike old out w changes own edited unlike.NoMemory = Unit {0}
IsUnlike old out w changes own edited why = (new : Scope) × DeclaresText out new × IsUnlikeOf old new w changes own edited why
