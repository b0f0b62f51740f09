use Rattle.std.proofs.Common.{◌≡◌, false, take}
use Rattle.std.specs.Prelude.{◌&&◌}
use Rattle.std.specs.List.{list_any}
use Rattle.mmsyntax.specs.Dotted.{is_dotted}
use Rattle.library.specs.Edits.{has, without}
use Rattle.catalog.specs.Entries.{living}
use Rattle.catalog.proofs.clashing.some_beside.Given as goal

abbrev pub invariant-loop-word : goal.invariant-loop-word
invariant-loop-word l =
    list_any (λ k. is_dotted l.label k.items && has (without l.own (living l.entries)) k.items) (take l.word-index l.dotted) ≡ false
