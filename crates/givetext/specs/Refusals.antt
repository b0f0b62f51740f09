-- The line of a refusal.
use Rattle.std.specs.Prelude.{ℕ, zero, List, [], ◌∷◌, ◌++◌, Option, Some, codes, slice_index_or}
use Rattle.mmtext.specs.FaultNames.{printed_fault}
use Rattle.locating.specs.Told.{shown, source_line, text_line}
use Rattle.checking.specs.declared.fault.Fault.{Fault}
use Rattle.checking.specs.declared.fault.Fault.TheVariants.{Text}
use Rattle.checking.specs.FaultLines.{fault_text, file_of}
use Rattle.arranging.specs.declared.headed.Side.{Side}
use Rattle.arranging.specs.declared.headed.Side.TheVariants.{Behind, InFront}
use Rattle.sourceediting.specs.declared.refusal.Refusal.{Refusal as Unwritten}
use Rattle.sourceediting.specs.declared.refusal.Refusal.TheVariants as edits
use Rattle.givetext.specs.declared.answering.Paths.{Paths}
use Rattle.givetext.specs.declared.refusing.Texts.{Texts}
use Rattle.givetext.specs.declared.refusing.File.{File}
use Rattle.givetext.specs.declared.refusing.File.TheVariants.{Source, Library, History}
use Rattle.givetext.specs.declared.refusal.Refusal.{Refusal}
use Rattle.givetext.specs.declared.refusal.Refusal.TheVariants as refusal

-- the text that a fault of a replay is of: the library is the first
abbrev pub replayed_file : Option ℕ → File
replayed_file (Some zero) = Library
replayed_file _ = History

-- the text at fault
abbrev pub text_at_fault : Refusal → File
text_at_fault (refusal.Source fault) = Source
text_at_fault refusal.NotTaken = Library
text_at_fault (refusal.Replay fault) = replayed_file (file_of fault)
text_at_fault _ = History

-- its path or its bytes, among those of the source, the library and the history
abbrev pub that_of : List (List ℕ) → File → List ℕ
that_of all Source = slice_index_or all 0 []
that_of all Library = slice_index_or all 1 []
that_of all History = slice_index_or all 2 []

abbrev pub seen_paths : Paths → List (List ℕ)
seen_paths p = p.source.now ∷ p.library.now ∷ p.history.now ∷ []

abbrev pub seen_texts : Texts → List (List ℕ)
seen_texts t = t.source.now ∷ t.library.now ∷ t.history.now ∷ []

-- a side of an assertion
abbrev pub side_text : Side → List ℕ
side_text Behind = codes "behind"
side_text InFront = codes "in front of"

-- why edits can't be written
abbrev pub edits_text : Unwritten → List ℕ
edits_text (edits.StillCited label by) =
    shown label ++ (codes " is still cited by " ++ (shown by ++ codes ", which was not taken"))
edits_text (edits.InFront label next name) =
    shown label ++ (codes " can't stand in front of " ++ (shown next ++ (codes ": " ++ (shown name ++ codes " is declared behind that"))))
edits_text (edits.Unwritten label) = codes "the proof of " ++ (shown label ++ codes " can't be written")
edits_text (edits.Unplaced label next side) =
    shown label ++ (codes " can't stand " ++ (side_text side ++ (codes " " ++ (shown next
    ++ (codes ": a heading stands " ++ (side_text side ++ codes " that in its block"))))))
edits_text edits.Bare = codes "an axiom of the source would have a proof"
edits_text edits.NoMemory = codes "no memory"

abbrev pub refusal_text : Refusal → List ℕ
refusal_text (refusal.Source fault) = codes "text " ++ printed_fault fault
refusal_text refusal.NotTaken = codes "not what `take` prints of the source"
refusal_text (refusal.Replay fault) = fault_text fault
refusal_text (refusal.NameTaken label) = shown label ++ codes " is a name of the source already"
refusal_text (refusal.Edits why) = edits_text why
refusal_text (refusal.StandsBehind label by) =
    shown label ++ (codes " would stand behind " ++ (shown by ++ codes ", which cites it"))
refusal_text (refusal.Unread fault) = codes "the source with these edits: text " ++ printed_fault fault
refusal_text (refusal.Changes label) = codes "with these edits " ++ (shown label ++ codes " changes, which was not taken")
refusal_text refusal.AnotherAssertion = codes "with these edits another assertion is there"
refusal_text refusal.Untaken = codes "with these edits the library can't be taken again"
refusal_text refusal.AnotherLibrary = codes "with these edits another library is taken"
refusal_text refusal.CommentLost = codes "with these edits a comment would be lost"
refusal_text refusal.NoMemory = codes "no memory"

-- of a fault of a replay, at the path of a text: where in that it is, if the text has it
abbrev pub replay_line : List ℕ → List ℕ → Fault → List ℕ
replay_line path text (Text file fault) = text_line path text fault
replay_line path text fault = path ++ (codes ": " ++ fault_text fault)

-- and of a refusal
abbrev pub line_in : List ℕ → List ℕ → Refusal → List ℕ
line_in path text (refusal.Source fault) = source_line path text fault
line_in path text (refusal.Replay fault) = replay_line path text fault
line_in path text why = path ++ (codes ": " ++ refusal_text why)

-- behind the path of the text at fault
abbrev pub refusal_line : List (List ℕ) → List (List ℕ) → Refusal → List ℕ
refusal_line paths texts why = line_in (that_of paths (text_at_fault why)) (that_of texts (text_at_fault why)) why
