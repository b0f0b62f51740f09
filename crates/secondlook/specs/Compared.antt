-- Of the code's inside, apart from the rules: what single functions tell of a library that was taken again.
use Rattle.std.specs.Prelude.{◌≡◌, List, All, Some}
use Rattle.mmsyntax.specs.Tables.{Contents}
use Rattle.source.specs.Scopes.{Assertion}
use Rattle.library.specs.Library.{Listed}
use Rattle.giving.specs.Staying.{Change, IsFirstNotStaying}
use Rattle.secondlook.specs.Again.{IsFloatOf, database_lines, edited_lines}
use Rattle.secondlook.specs.declared.unlike.Unlike.{Unlike}
use Rattle.secondlook.specs.declared.unlike.Unlike.TheVariants as unlike

-- a database isn't a library
abbrev pub IsOther : Contents → Listed → Unlike → Type 0
IsOther db edited unlike.AnotherLibrary = database_lines db ≡ edited_lines edited → ⊥
IsOther db edited unlike.AnotherPrelude = All (IsFloatOf db.prelude edited.setting.prelude) db.prelude.floats → ⊥
IsOther db edited unlike.NoMemory = Unit {0}
IsOther db edited _ = ⊥

-- of some assertions one isn't among others as it should be
abbrev pub IsNotStaying : List Change → List Assertion → List Assertion → Unlike → Type 0
IsNotStaying cs xs ys (unlike.AnotherAssertion n) = IsFirstNotStaying cs xs ys (Some n)
IsNotStaying cs xs ys unlike.NoMemory = Unit {0}
IsNotStaying cs xs ys _ = ⊥
