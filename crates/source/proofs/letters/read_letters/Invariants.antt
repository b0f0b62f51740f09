-- What the loop of `read_letters` keeps: the codes so far stand before those of the letters that are left.
use Rattle.std.proofs.Common.{◌≡◌, drop}
use Rattle.source.specs.Letters.{decoded}
use Rattle.source.proofs.Decoded.{following}
use Rattle.source.proofs.letters.read_letters.Given as goal

abbrev pub invariant-loop-letter : goal.invariant-loop-letter
invariant-loop-letter l =
    decoded 0 l.letters ≡ following l.codes.items (decoded l.front (drop l.letter-index l.letters))
