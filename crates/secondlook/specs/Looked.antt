-- Of the code's inside, apart from the rules: what is known of a source with edits that was looked at again.
use Rattle.std.specs.Prelude.{ℕ, Bool, List}
use Rattle.mmtext.specs.Words.{Word}
use Rattle.source.specs.Scopes.{Scope}
use Rattle.source.specs.Sources.{DeclaresText}
use Rattle.taking.specs.declared.reason.Reason.{Reason}
use Rattle.taking.specs.Reasons.{Choice}
use Rattle.giving.specs.Staying.{Change, StayAll, others}
use Rattle.library.specs.Library.{Listed}
use Rattle.sourceediting.specs.Following.{own_flags}
use Rattle.secondlook.specs.Again.{IsTakenAgain}

-- the text declares a source, of which the edited library is taken by these labels, and what isn't its own stays
pub record IsLookedAt (old : Scope) (out : List ℕ) (changes : List Change) (own : List Bool) (then : List Word)
    (edited : Listed) : Type 0 where
  pub new : Scope
  pub declares : DeclaresText out new
  pub choice : Choice
  pub axioms : List (Word × Reason)
  pub again : IsTakenAgain new then edited choice axioms
  pub stays : StayAll changes (others own old.assertions) (others (own_flags choice axioms new) new.assertions)
