-- What is left to show of `begin`.
use Rattle.std.proofs.Common.{◌≡◌, [], subst}
use Rattle.source.specs.Counts.{mandatory_marks}
use Rattle.source.specs.Scopes.{Scope}
use Rattle.scopes.specs.Views.{kept_of, marks_of}
use Rattle.scopes.proofs.Seeing.{seen_scope}
use Rattle.scopes.proofs.scopes.ScopesStanding.begin.Goals as goal

pub returns-clause-marks : goal.returns-clause-marks
returns-clause-marks c =
    subst (λ (s : Scope). marks_of (kept_of c.begin.new.tables) ≡ mandatory_marks s [])
    (seen_scope (kept_of c.self.inside.tables) c.args.self.now c.self.view_is) c.begin.ensures.marks
