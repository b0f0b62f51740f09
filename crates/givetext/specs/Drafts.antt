-- The source with the edits of a history, before it is looked at again.
use Rattle.std.specs.Prelude.{ℕ, List, All, IsTrue}
use Rattle.source.specs.Scopes.{Scope}
use Rattle.taking.specs.Reasons.{Choice}
use Rattle.giving.specs.Staying.{others}
use Rattle.library.specs.declared.history.Entry.{Entry}
use Rattle.library.specs.Library.{Listed}
use Rattle.intake.specs.declared.taken.Taken.{Taken}
use Rattle.sourceediting.specs.Following.{names_none}
use Rattle.sourceediting.specs.Views.{seen_following}
use Rattle.givetext.specs.Causes.{Known, known_of, IsFollowed, IsTextThen}
use Rattle.givetext.specs.declared.drafting.Draft.{Draft}

-- what is known of it
abbrev pub known_in : Scope → Taken → List Entry → Listed → Draft → Known
known_in old taken entries edited d = known_of old taken entries edited (seen_following d.following) d.changes d.own.items

-- so it is, over a library that was taken of a source by a choice; and no assertion that isn't the library's names one that was deleted
pub record IsDraft (source : List ℕ) (old : Scope) (choice : Choice) (taken : Taken) (entries : List Entry) (edited : Listed) (d : Draft)
    : Type 0 where
  pub followed : IsFollowed choice (known_in old taken entries edited d)
  pub uncited : All (λ x. IsTrue (names_none (seen_following d.following).gone x.proof)) (others d.own.items old.assertions)
  pub written : IsTextThen (known_in old taken entries edited d) source d.text.items
