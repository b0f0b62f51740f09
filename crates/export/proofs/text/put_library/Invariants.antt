use Rattle.std.proofs.Common.{◌≡◌, ◌++◌, take, map}
use Rattle.std.specs.List.{flat_map}
use Rattle.mmsyntax.specs.Layout.{prelude_text, assertion_text}
use Rattle.export.proofs.text.put_library.Given as goal

abbrev pub invariant-loop-entry : goal.invariant-loop-entry
invariant-loop-entry l =
    l.out.items ≡ (l.fn.out.items ++ prelude_text l.prelude)
    ++ flat_map (assertion_text l.prelude) (map (λ e. e.assertion) (take l.entry-index l.entries))
