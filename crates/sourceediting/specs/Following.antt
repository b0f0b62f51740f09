-- The assertions of a library behind the edits of a history, and their labels in the source.
use Rattle.std.specs.Prelude.{Bool, true, false, List, [], ◌∷◌, ◌++◌, map, filter, Option, Some, None, if◌then◌else◌, filter_map, ◌&&◌}
use Rattle.std.specs.List.{zip, flat_map, list_any}
use Rattle.std.specs.Str.{bytes_eq}
use mathlib.Core.Bool.{not}
use Rattle.mmtext.specs.Words.{Word}
use Rattle.mmsyntax.specs.Tables.{Contents}
use Rattle.source.specs.Statements.{Proof}
use Rattle.source.specs.Scopes.{Assertion, Scope, is_in}
use Rattle.source.specs.Whole.{labels_in}
use Rattle.taking.specs.declared.reason.Reason.{Reason}
use Rattle.taking.specs.Reasons.{Choice}
use Rattle.taking.specs.Taken.{chosen_of}
use Rattle.giving.specs.Staying.{Change}
use Rattle.library.specs.declared.command.Command.{Command}
use Rattle.library.specs.declared.command.Command.TheVariants.{Add, Rename, Move, Delete}
use Rattle.library.specs.declared.history.Entry.{Entry}
use Rattle.library.specs.declared.history.Entry.TheVariants.{Void, Done}

-- ---- behind commands

-- an assertion of a library: its label in the source (none of one that was added), its label when it came in, and its label now; and
-- whether it was given another rank
pub record Followed : Type 0 where
  pub source : Option Word
  pub first : Word
  pub now : Word
  pub moved : Bool

-- those that live, and the labels in the source of those that were deleted
pub record Following : Type 0 where
  pub living : List Followed
  pub gone : List Word

abbrev pub renamed : Word → Word → Followed → Followed
renamed old new x = if bytes_eq x.now old then record x { now = new } else x

abbrev pub ranked : Word → Followed → Followed
ranked label x = if bytes_eq x.now label then record x { moved = true } else x

abbrev pub source_of : Word → Followed → Option Word
source_of label x = if bytes_eq x.now label then x.source else None

abbrev pub added : Word → Followed
added label = record { source = None; first = label; now = label; moved = false }

abbrev pub behind : Command → Following → Following
behind (Add rank a) f = record f { living = f.living ++ added a.label ∷ [] }
behind (Rename old new) f = record f { living = map (renamed old new) f.living }
behind (Move label rank) f = record f { living = map (ranked label) f.living }
behind (Delete label) f = record {
  living = filter (λ x. not (bytes_eq x.now label)) f.living;
  gone = f.gone ++ filter_map (source_of label) f.living;
}
behind _ f = f

abbrev pub behind_all : List Command → Following → Following
behind_all [] f = f
behind_all (c ∷ cs) f = behind_all cs (behind c f)

-- a command that changes nothing but labels and proofs
abbrev pub KeepsPlaces : Command → Type 0
KeepsPlaces (Add rank a) = ⊥
KeepsPlaces (Move label rank) = ⊥
KeepsPlaces (Delete label) = ⊥
KeepsPlaces _ = Unit {0}

-- the commands of a history, which committed
abbrev pub commands_of : Entry → List Command
commands_of Void = []
commands_of (Done commands replies) = commands

abbrev pub all_commands : List Entry → List Command
all_commands entries = flat_map commands_of entries

-- a library that was taken by a choice: its assertions are the chosen ones, in their order
abbrev pub opened : Word × Word → Followed
opened p = record { source = Some p.0; first = p.1; now = p.1; moved = false }

abbrev pub opening : Scope → Choice → Contents → Following
opening s choice db = record {
  living = map opened (zip (map (λ x. x.label) (chosen_of choice s)) (map (λ a. a.label) db.assertions));
  gone = [];
}

-- ---- labels in the source

-- its label there then: another where its label in the library is another
abbrev pub or_now : Word → Option Word → Word
or_now w None = w
or_now w (Some l) = l

abbrev pub label_then : Followed → Word
label_then x = if bytes_eq x.now x.first then or_now x.now x.source else x.now

-- the label of the source that changes
abbrev pub change_of : Followed → Option Word → Option Change
change_of x None = None
change_of x (Some w) = if bytes_eq x.now x.first then None else Some (w, x.now)

abbrev pub changes_of : Following → List Change
changes_of f = filter_map (λ x. change_of x x.source) f.living

-- ---- which assertions are the library's

-- those that are chosen, and of which the library has the proof if they have one: they weren't taken as axioms with a reason
abbrev pub is_own : Choice → List (Word × Reason) → Assertion → Bool
is_own choice told x = is_in choice.chosen x.label && not (is_in (map (λ p. p.0) told) x.label)

abbrev pub own_flags : Choice → List (Word × Reason) → Scope → List Bool
own_flags choice told s = map (is_own choice told) s.assertions

-- a proof, if there is one, names none of these labels
abbrev pub names_none : List Word → Option Proof → Bool
names_none ws None = true
names_none ws (Some p) = not (list_any (is_in ws) (labels_in p))
