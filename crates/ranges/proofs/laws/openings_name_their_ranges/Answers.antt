use Rattle.ranges.proofs.Named.{is_named, has_its_ranges}
use Rattle.ranges.proofs.laws.openings_name_their_ranges.Goals as goal

pub returns : goal.returns
returns c ranged store values r = (is_named ranged store values r, has_its_ranges ranged store values r)
