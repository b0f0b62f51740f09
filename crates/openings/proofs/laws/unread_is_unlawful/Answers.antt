use Rattle.openings.proofs.Unread.{unread_is_unlawful}
use Rattle.openings.proofs.laws.unread_is_unlawful.Goals as goal

pub returns : goal.returns
returns c = unread_is_unlawful
