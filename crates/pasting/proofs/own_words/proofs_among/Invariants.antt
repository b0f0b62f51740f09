-- What the loop of `proofs_among` keeps: the proofs among what was gone through.
use Rattle.std.proofs.Common.{◌≡◌, map, take}
use Rattle.pasting.specs.Quotes.{proofs_among}
use Rattle.pasting.specs.Views.{seen_given_proof, seen_quotation}
use Rattle.pasting.proofs.own_words.proofs_among.Given as goal

abbrev pub invariant-loop-quotation : goal.invariant-loop-quotation
invariant-loop-quotation l =
    map seen_given_proof l.made.items ≡ proofs_among (map seen_quotation (take l.quotation-index l.quotations))
