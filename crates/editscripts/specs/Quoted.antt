-- What scripts give in their own words, by what became of their transactions.
use Rattle.std.specs.Prelude.{List, filter, map, reverse}
use Rattle.std.specs.List.{AllZip, flat_map, zip}
use Rattle.mmtext.specs.Text.{Token}
use Rattle.transaction.specs.declared.outcome.Outcome.{Outcome}
use Rattle.pasting.specs.Quotes.{Quotation, Quote, AreQuotes}
use Rattle.editscripts.specs.Described.{was_done}

-- those in scripts, of which these are the words by the source
abbrev pub AreQuotesOf : List (List Token) → List (List Quote) → Type 0
AreQuotesOf scripts all = AllZip AreQuotes scripts all

abbrev pub quotation : Quote → Quotation
quotation q = record { label = q.label; words = q.words }

-- those whose transactions were done
abbrev pub quoted_of : List Outcome → List Quote → List Quotation
quoted_of row qs = map quotation (filter (λ q. was_done row q.transaction) qs)

-- of scripts: the last first, so that of several for a label the last counts
abbrev pub done_quotations : List (List Outcome) → List (List Quote) → List Quotation
done_quotations rows all = reverse (flat_map (λ p. quoted_of p.0 p.1) (zip rows all))
