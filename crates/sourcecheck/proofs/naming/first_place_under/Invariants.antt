-- What the loop of `first_place_under` keeps.
use Rattle.std.proofs.Common.{◌≡◌, None, take}
use Rattle.std.specs.Str.{bytes_eq}
use Rattle.mmsyntax.specs.Tables.{place_of}
use Rattle.source.specs.Scopes.{label_of}
use Rattle.source.specs.Views.{seen_hypothesis}
use Rattle.sourcecheck.proofs.naming.first_place_under.Given as goal

abbrev pub invariant-loop-place : goal.invariant-loop-place
invariant-loop-place l = place_of (λ h. bytes_eq l.label (label_of (seen_hypothesis h.now))) (take l.place l.active.items) ≡ None
