-- What the loop of `trunks_of` keeps: the trunks so far.
use Rattle.std.proofs.Common.{take}
use Rattle.source.specs.Views.{seen_words}
use Rattle.sites.specs.Changes.{HasTrunks}
use Rattle.sites.proofs.free.trunks_of.Given as goal

abbrev pub invariant-loop-label : goal.invariant-loop-label
invariant-loop-label l = HasTrunks l.trunks (seen_words (take l.label-index l.labels))
