-- A source with edits that was looked at.
use Rattle.std.proofs.Common.{◌≡◌, ℕ, Bool, List, subst, ap}
use Rattle.std.specs.Prelude.{All}
use Rattle.std.specs.Borrow.{Bor}
use Rattle.source.specs.Scopes.{Scope}
use Rattle.source.specs.Sources.{DeclaresText}
use Rattle.source.specs.Views.{seen_words}
use Rattle.taking.specs.Reasons.{Choice}
use Rattle.choosing.specs.declared.wish.Wish.TheVariants.{These}
use Rattle.giving.specs.Staying.{Change, StayAll, others}
use Rattle.intake.specs.declared.taken.Taken.{Taken}
use Rattle.intake.specs.Intakes.{IsLibraryOf, axioms_of, names_of}
use Rattle.library.specs.Library.{Listed}
use Rattle.sourceediting.specs.Following.{own_flags}
use Rattle.secondlook.specs.Again.{IsFloatOf, database_lines, edited_lines}
use Rattle.secondlook.specs.Looked.{IsLookedAt}

module _ (new : Scope) (then axioms : Bor (List (Bor (List ℕ)))) (t : Taken) (l : IsLibraryOf new (These then axioms) t) (flags : List Bool)
    (are : flags ≡ own_flags l.taken.choice (axioms_of t) new) where
  pub looked_at : (old : Scope) (out : List ℕ) (changes : List Change) (own : List Bool) (edited : Listed) → DeclaresText out new
      → All (IsFloatOf t.database.prelude edited.setting.prelude) t.database.prelude.floats
      → database_lines t.database ≡ edited_lines edited
      → StayAll changes (others own old.assertions) (others flags new.assertions)
      → IsLookedAt old out changes own (seen_words then.now) edited
  looked_at old out changes own edited declares floats same stay = record {
    new = new;
    declares = declares;
    choice = l.taken.choice;
    axioms = axioms_of t;
    again = record {
      chosen = ap (λ (x : Choice). x.chosen) l.taken.is_choice;
      db = t.database;
      names = names_of t;
      takes = l.taken.takes;
      floats = floats;
      same = same;
    };
    stays = subst (λ (fs : List Bool). StayAll changes (others own old.assertions) (others fs new.assertions)) are stay;
  }
