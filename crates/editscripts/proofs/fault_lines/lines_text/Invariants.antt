-- What the loop of `lines_text` keeps: the first line and those behind it so far.
use Rattle.std.proofs.Common.{◌≡◌, ◌++◌, ◌∷◌, take}
use Rattle.std.specs.Prelude.{string_bytes}
use Rattle.std.specs.List.{flat_map}
use Rattle.editscripts.specs.Views.{seen_lines}
use Rattle.editscripts.proofs.fault_lines.lines_text.Given as goal

abbrev pub invariant-loop-line : goal.invariant-loop-line
invariant-loop-line l =
    string_bytes l.text ≡ string_bytes l.initial.text ++ flat_map (λ x. 10 ∷ x) (seen_lines (take l.line-index l.others))
