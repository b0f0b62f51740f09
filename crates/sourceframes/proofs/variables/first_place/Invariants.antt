-- What the loop of `first_place` keeps.
use Rattle.std.proofs.Common.{◌≡◌, None, take}
use Rattle.mmsyntax.specs.Tables.{place_of}
use Rattle.sourceframes.specs.Frames.{is_that, seen_variable}
use Rattle.sourceframes.proofs.variables.first_place.Given as goal

abbrev pub invariant-loop-place : goal.invariant-loop-place
invariant-loop-place l = place_of (λ v. is_that l.word (seen_variable v)) (take l.place l.listed) ≡ None
