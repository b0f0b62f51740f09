-- What the loop of `leads_across` keeps.
use Rattle.std.proofs.Common.{◌≡◌, take}
use Rattle.commentwords.specs.Words.{leads_across}
use Rattle.commentwords.proofs.comment_place.leads_across.Given as goal

-- whether the bytes so far lead across
abbrev pub invariant-loop-byte : goal.invariant-loop-byte
invariant-loop-byte l = l.across ≡ leads_across (take l.byte-index l.word)
