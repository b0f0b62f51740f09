-- What the loop of `edited_lines` keeps.
use Rattle.std.proofs.Common.{◌≡◌, take}
use Rattle.std.specs.List.{flat_map}
use Rattle.mmsyntax.specs.Layout.{assertion_text}
use Rattle.secondlook.proofs.edited.edited_lines.Given as goal

-- the lines so far
abbrev pub invariant-loop-entry : goal.invariant-loop-entry
invariant-loop-entry l = l.lines.items ≡ flat_map (λ r. assertion_text l.edited.setting.prelude r.assertion) (take l.entry-index l.entries)
