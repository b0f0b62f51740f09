-- Of the code's inside, apart from the rules: a library during a transaction: what was changed, and how it is taken back.
use Rattle.std.specs.Prelude.{◌≡◌, ℕ, List, [], length, set, Option}
use Rattle.std.specs.Prelude.{◌≤◌, Vec, vec_len, vec_capacity, Result, Ok, Err}
use Rattle.std.specs.declared.alloc.Global.{Global}
use Rattle.mmsyntax.specs.declared.statement.Frame.{Frame}
use Rattle.mmsyntax.specs.Tables.{Tables}
use Rattle.library.specs.declared.library.Ranked.{Ranked}
use Rattle.library.specs.declared.command.Command.{Command}
use Rattle.library.specs.declared.command.Reply.{Reply}
use Rattle.library.specs.Library.{Setting, Verifies}
use Rattle.library.specs.Edits.{edit}
use Rattle.library.specs.Transactions.{apply}
use Rattle.catalog.specs.declared.notes.Note.{Note}
use Rattle.history.specs.declared.editor.ApplyError.{ApplyError}
use Rattle.history.specs.declared.editor.ApplyError.TheVariants.{Refused, NoMemory}
use Rattle.catalog.specs.Entries.{Entries, living, standing, AreFramed}
use Rattle.catalog.specs.Places.{Places, IsIndex, HasOnly}
use Rattle.catalog.specs.Citers.{Citers, EachAscends, Covers}
use Rattle.catalog.specs.Changes.{undone, formers, CanUndo, AreNotesFramed}

-- what a draft holds: the setting, the library at the start of the transaction, the assertions now by their places, beside them their
-- frames and who may cite them, and the changes that are noted
pub record Drafted : Type 0 where
  pub setting : Setting
  pub start : List Ranked
  pub entries : Entries
  pub frames : List Frame
  pub citers : Citers
  pub noted : List Note

-- the library now
abbrev pub now_in : Drafted → List Ranked
now_in d = living d.entries

-- what is always true of a draft's fields: the map has the labels of the library and those that were noted, and no other
pub record IsDraft (t : Tables) (m : Places) (frames : List Frame) (notes : List Note) (entries : Entries) : Type 0 where
  pub indexed : IsIndex m entries
  pub only : HasOnly m entries (formers notes)
  pub framed : AreFramed t entries frames
  pub can_undo : CanUndo m notes entries
  pub noted : AreNotesFramed t notes frames

-- what is always true of a draft's lists of citers: there is one for each place, and they cover the assertions now, and those at the start
-- of the transaction
pub record AreCiters (citers : Citers) (notes : List Note) (entries : Entries) : Type 0 where
  pub long : length citers ≡ length entries
  pub ascending : EachAscends citers
  pub covers_now : Covers citers entries
  pub covers_start : Covers citers (undone notes entries)

-- how many assertions there are, now and at the start of the transaction
pub record IsCounted (now start : ℕ) (notes : List Note) (entries : Entries) : Type 0 where
  pub now_right : now ≡ length (living entries)
  pub start_right : start ≡ length (living (undone notes entries))

-- an empty list with room for as many assertions as slots
pub record IsShelf (slots : ℕ) (shelf : Vec Ranked Global) : Type 0 where
  pub empty : vec_len shelf ≡ 0
  pub room : slots ≤ vec_capacity shelf

-- the n-th command of a transaction: its edit is done, or refused, or memory ran out
abbrev pub Takes : ℕ → Drafted → Command → Result Reply ApplyError → Drafted → Type 0
Takes n old c (Ok reply) new = edit old.setting (now_in old) c ≡ Ok (record { library = now_in new; reply = reply })
Takes n old c (Err (Refused refused)) new = (refused.index ≡ n) × (edit old.setting (now_in old) c ≡ Err refused.reason)
Takes n old c (Err NoMemory) new = Unit {0}

-- all commands of a transaction, one after another; after an error the library is anywhere on the way
abbrev pub TakesAll : Drafted → List Command → Result (List Reply) ApplyError → Drafted → Type 0
TakesAll old cs (Ok replies) new = apply old.setting (now_in old) cs ≡ Ok (record { library = now_in new; replies = replies })
TakesAll old cs (Err (Refused refused)) new = apply old.setting (now_in old) cs ≡ Err refused
TakesAll old cs (Err NoMemory) new = Unit {0}

-- a library as it is opened, before any command
pub record IsOpened (s : Setting) (lib : List Ranked) (d : Drafted) : Type 0 where
  pub setting : d.setting ≡ s
  pub start : d.start ≡ lib
  pub entries : d.entries ≡ standing lib
  pub noted : d.noted ≡ []

-- setting and start stay while commands are taken
pub record KeepsStart (old new : Drafted) : Type 0 where
  pub setting : new.setting ≡ old.setting
  pub start : new.start ≡ old.start

-- frames and citers stay, and one place has this in place of what it had
pub record Exchanges (old : Drafted) (p : ℕ) (o : Option Ranked) (new : Drafted) : Type 0 where
  pub entries : new.entries ≡ set old.entries p o
  pub frames : new.frames ≡ old.frames
  pub citers : new.citers ≡ old.citers

-- the library is a new start, and nothing is noted
pub record Settles (old : Drafted) (lib : List Ranked) (new : Drafted) : Type 0 where
  pub setting : new.setting ≡ old.setting
  pub start : new.start ≡ lib
  pub library : now_in new ≡ lib
  pub forgotten : new.noted ≡ []

-- between transactions: the library verifies, and nothing can be taken back or is noted
pub record IsSettled (d : Drafted) : Type 0 where
  pub verifies : Verifies d.setting (now_in d)
  pub settled : d.start ≡ now_in d
  pub forgotten : d.noted ≡ []
