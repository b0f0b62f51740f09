-- What the loop of `labels_among` keeps: the labels among what was gone through.
use Rattle.std.proofs.Common.{◌≡◌, map, take}
use Rattle.pasting.specs.Quotes.{labels_among}
use Rattle.pasting.specs.Views.{seen_given_labels, seen_quotation}
use Rattle.pasting.proofs.own_words.labels_among.Given as goal

abbrev pub invariant-loop-quotation : goal.invariant-loop-quotation
invariant-loop-quotation l =
    map seen_given_labels l.made.items ≡ labels_among (map seen_quotation (take l.quotation-index l.quotations))
