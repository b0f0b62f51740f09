-- The law is a lemma.
use Rattle.taking.proofs.LongListings.{listing_long}
use Rattle.taking.proofs.lengths.listings_are_as_long.Goals as goal

pub returns : goal.returns
returns c = λ m earlier active t steps enough lists. listing_long m earlier active t steps enough lists
