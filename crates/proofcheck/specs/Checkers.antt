-- Of the code's inside, apart from the rules: those who check the assertions of a database beside one another.
use Rattle.std.specs.Prelude.{◌≡◌, None, true, map}
use Rattle.mmsyntax.specs.Tables.{Contents}
use Rattle.mmframes.specs.Frames.{frame}
use Rattle.ranges.specs.Ranges.{Has}
use Rattle.claims.specs.Claims.{Counting, Claimant, IsClaimantOf, IsNewOf}
use Rattle.proofcheck.specs.declared.checkers.Checker.{Checker}
use Rattle.proofcheck.specs.declared.checkers.Framed.{Framed}
use Rattle.proofcheck.specs.Reports.{FoundAmong}

-- the frames are those of the assertions of the database, and the places those of their labels
pub record IsFramed (d : Framed) : Type 0 where
  pub frames : d.frames.now ≡ map (frame d.db.now.prelude) d.db.now.assertions
  pub places : d.places.now ≡ d.db.now.assertions

-- the checker with this claimant, who found nothing yet
abbrev pub checker_of : Claimant → Checker
checker_of c = record { claimant = c; found = None }

-- it is one of these numbers', and has claimed and found nothing yet
abbrev pub IsReady : Counting → Checker → Type 0
IsReady home c = IsNewOf home c.claimant × (c.found ≡ None)

-- it was told that all places are claimed, and found the first fault among those that it claimed
pub record HasChecked (db : Contents) (home : Counting) (c : Checker) : Type 0 where
  pub own : IsClaimantOf home c.claimant
  pub ended : c.claimant.ended ≡ true
  pub found : FoundAmong db (λ k. Has k c.claimant.claimed) c.found
