-- From what single functions tell to why a source with edits isn't as it should be.
use Rattle.std.proofs.Common.{ℕ, Bool, List, ◌≡◌, Some, subst}
use Rattle.source.specs.Scopes.{Scope}
use Rattle.source.specs.Sources.{DeclaresText}
use Rattle.choosing.specs.declared.wish.Wish.{Wish}
use Rattle.giving.specs.Staying.{Change, IsFirstNotStaying, others}
use Rattle.intake.specs.declared.taken.Taken.{Taken}
use Rattle.intake.specs.Intakes.{IsLibraryOf, axioms_of}
use Rattle.library.specs.Library.{Listed}
use Rattle.sourceediting.specs.Following.{own_flags}
use Rattle.secondlook.specs.Compared.{IsOther, IsNotStaying}
use Rattle.secondlook.specs.Differing.{IsUnlike, IsUnlikeOf}
use Rattle.secondlook.specs.declared.unlike.Unlike.{Unlike}
use Rattle.secondlook.specs.declared.unlike.Unlike.TheVariants as unlike

module _ (old : Scope) (w : Wish) (changes : List Change) (own : List Bool) (edited : Listed) where
  module _ (new : Scope) (t : Taken) (l : IsLibraryOf new w t) where
    pub other_library : (why : Unlike) → IsOther t.database edited why → IsUnlikeOf old new w changes own edited why
    other_library unlike.Untaken h = absurd h
    other_library unlike.AnotherLibrary h = record { taken = t; is_taken = l; other = h }
    other_library unlike.AnotherPrelude h = record { taken = t; is_taken = l; other = h }
    other_library (unlike.AnotherAssertion n) h = absurd h
    other_library unlike.NoMemory h = tt

    pub other_assertion : (flags : List Bool) → flags ≡ own_flags l.taken.choice (axioms_of t) new → (why : Unlike)
        → IsNotStaying changes (others own old.assertions) (others flags new.assertions) why
        → IsUnlikeOf old new w changes own edited why
    other_assertion flags are unlike.Untaken h = absurd h
    other_assertion flags are unlike.AnotherLibrary h = absurd h
    other_assertion flags are unlike.AnotherPrelude h = absurd h
    other_assertion flags are (unlike.AnotherAssertion n) h = record {
      taken = t;
      is_taken = l;
      first =
          subst (λ (fs : List Bool). IsFirstNotStaying changes (others own old.assertions) (others fs new.assertions) (Some n)) are h;
    }
    other_assertion flags are unlike.NoMemory h = tt

  module _ (out : List ℕ) where
    pub unlike_text : (new : Scope) → DeclaresText out new → (why : Unlike) → IsUnlikeOf old new w changes own edited why
        → IsUnlike old out w changes own edited why
    unlike_text new declares unlike.Untaken h = (new, declares, h)
    unlike_text new declares unlike.AnotherLibrary h = (new, declares, h)
    unlike_text new declares unlike.AnotherPrelude h = (new, declares, h)
    unlike_text new declares (unlike.AnotherAssertion n) h = (new, declares, h)
    unlike_text new declares unlike.NoMemory h = tt
