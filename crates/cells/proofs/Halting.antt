-- What a run sees where the store had no room for words: all that it saw before.
use Rattle.std.proofs.Common.{Bool, refl, arith}
use Rattle.ranges.proofs.Grown.{within_refl}
use Rattle.cells.specs.Sight.{Sight, Looks, ReadsNothing}

pub looks_full : {O : Type 0} → (s : Sight O) (full : Bool) → Looks s (record s { full = full })
looks_full s full =
    record {
      onward = record {
        fixed = refl;
        ranges = within_refl s.ranges;
        reads = λ st h. h;
        read = λ c h. h;
        written = λ c h. h;
        taken = omega arith;
        staged = λ words start h. h;
      };
      writes = refl;
      taken = refl;
      staged = refl;
    }

pub nothing_full : {O : Type 0} → (s : Sight O) (full : Bool) → ReadsNothing s (record s { full = full })
nothing_full s full = record { asked = λ c was. was }
