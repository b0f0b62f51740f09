-- What a session keeps gives what is promised of it.
use Rattle.lawful.proofs.Standing.{sessions_stand, small_store}
use Rattle.transaction.specs.Members.{Member, IsSoundMember, IsMember}

pub stands : (m : Member) → IsMember m → IsSoundMember m
stands m is =
    let seen = sessions_stand m.given m.known is.on is.knows in
    record {
      setting = is.on.0;
      history = seen.0;
      store = small_store m.known.seen.ranges is.on.1 (is.knows.ranges m.given is.on.0);
      agree = seen.1;
      recorded = is.recorded;
      exceeds = is.exceeds;
    }
