-- Of which labels that are gone a comment speaks.
use Rattle.std.specs.Prelude.{List, ◌++◌, filter, map}
use Rattle.std.specs.Prelude.{codes}
use mathlib.Core.Bool.{not}
use Rattle.std.specs.Fmt.{decimal}
use Rattle.mmtext.specs.Words.{Word}
use Rattle.mmtext.specs.Text.{Token}
use Rattle.source.specs.Scopes.{is_in}
use Rattle.checking.specs.Checks.{Bytes}
use Rattle.checking.specs.FaultLines.{shown_label}
use Rattle.sourceediting.specs.Following.{Following, label_then}
use Rattle.locating.specs.Lines.{line_at}

-- the labels in the source of assertions that were deleted, which no other has in the end
abbrev pub lost : Following → List Word
lost f = filter (λ w. not (is_in (map label_then f.living) w)) f.gone

-- `PATH:LINE: a comment speaks of LABEL, which was deleted`: the line is that of the text with the edits
abbrev pub spoken_line : Bytes → Bytes → Token → Bytes
spoken_line path out t =
    path ++ (codes ":" ++ (decimal (line_at out t.place)
    ++ (codes ": a comment speaks of " ++ (shown_label t.text ++ codes ", which was deleted"))))
