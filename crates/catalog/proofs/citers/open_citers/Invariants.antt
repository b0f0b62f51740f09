use Rattle.std.proofs.Common.{◌≡◌, ◌<◌, ℕ, true, length}
use Rattle.library.specs.declared.library.Ranked.{Ranked}
use Rattle.library.specs.Library.{label_of}
use Rattle.library.specs.Edits.{cites}
use Rattle.catalog.specs.Entries.{StandsIn}
use Rattle.catalog.specs.Citers.{EachAscends, IsCiter}
use Rattle.catalog.proofs.citers.open_citers.Given as goal

-- the lists cover the citations of the proofs so far
abbrev pub invariant-loop-place : goal.invariant-loop-place
invariant-loop-place l =
    record {
      long : length l.citers.items ≡ length l.entries;
      ascending : EachAscends l.citers.items;
      listed : (p q : ℕ) (e f : Ranked) → q < l.place → StandsIn l.entries p e → StandsIn l.entries q f → cites (label_of e) f ≡ true
          → IsCiter l.citers.items p q;
    }
