-- What the loop of `said_of` keeps: the lines for the words so far.
use Rattle.std.proofs.Common.{◌≡◌, length, take, map}
use Rattle.std.specs.Prelude.{string_bytes}
use Rattle.mmtext.specs.Views.{seen}
use Rattle.editedsource.specs.Gone.{spoken_line}
use Rattle.editedsource.proofs.spoken.said_of.Given as goal

abbrev pub invariant-loop-line : goal.invariant-loop-line
invariant-loop-line l =
    map string_bytes l.said.items ≡ map (spoken_line l.path l.out) (map seen (take (length l.yielded) l.words))
