-- Two histories, one behind the other.
use Rattle.std.proofs.Common.{◌≡◌, zero, suc, List, [], ◌∷◌, ◌++◌, refl}
use Rattle.library.specs.declared.library.Ranked.{Ranked}
use Rattle.library.specs.Library.{Setting}
use Rattle.library.specs.Histories.{Entry, after_all, after_entry, IsLegal}

module _ (s : Setting) where
  -- the library after both
  pub after_all-append : (lib : List Ranked) (g h : List Entry) → after_all s lib (g ++ h) ≡ after_all s (after_all s lib g) h
  after_all-append lib [] h = refl
  after_all-append lib (e ∷ g) h = after_all-append (after_entry s lib e) g h

  -- both are legal where the second one is so from the library after the first
  pub legal_append : (lib : List Ranked) (g h : List Entry) → IsLegal s lib g → IsLegal s (after_all s lib g) h → IsLegal s lib (g ++ h)
  legal_append lib [] h first second i cs replies is = second i cs replies is
  legal_append lib (e ∷ g) h first second zero cs replies is = first zero cs replies is
  legal_append lib (e ∷ g) h first second (suc i) cs replies is =
      legal_append (after_entry s lib e) g h (λ j. first (suc j)) second i cs replies is
