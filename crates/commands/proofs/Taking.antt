-- How many words of the store a transaction takes at most, by its commands.
use Rattle.std.proofs.Common.{◌≡◌, ℕ, ◌≤◌, ◌+◌, List, ◌∷◌, [], ◌++◌, take, Option, Some, None, refl, sym, subst, arith}
use Rattle.std.proofs.lemmas.List.Elements.{All-contains}
use Rattle.std.proofs.lemmas.List.Sums.{sum_by-take-le}
use Rattle.mmsyntax.specs.Assertions.{Fits}
use Rattle.library.specs.declared.library.Ranked.{Ranked}
use Rattle.library.specs.declared.command.Command.{Command}
use Rattle.library.specs.declared.command.Command.TheVariants.{Replace}
use Rattle.library.specs.Library.{Setting, Verifies}
use Rattle.library.specs.Edits.{found}
use Rattle.library.proofs.Places.{found_in}
use Rattle.groundwork.specs.Takes.{command_words, steps_in, proof_length}
use Rattle.commands.specs.Takes.{most_words_of}

-- the proof of an assertion has at most 16,384 steps
module _ (s : Setting) (lib : List Ranked) (v : Verifies s lib) where
  few_steps : (label : List ℕ) (o : Option Ranked) → found lib label ≡ o → steps_in o ≤ 16384
  few_steps label None e = omega arith
  few_steps label (Some f) e =
      (All-contains (λ g. Fits s.prelude g.assertion) lib f v.fit (found_in lib label f e).0).few_steps

  pub few_words : (c : Command) → command_words (proof_length lib) c ≤ command_words (λ label. 16384) c
  few_words (Replace label old new) = few_steps label (found lib label) refl
  few_words c = omega arith

-- the first commands take no more than all of them
pub few_of_all : (cs : List Command) (k : ℕ) (c : Command) → take k cs ++ c ∷ [] ≡ take (k + 1) cs
    → most_words_of (take k cs ++ c ∷ []) ≤ most_words_of cs
few_of_all cs k c front =
    subst (λ (l : List Command). most_words_of l ≤ most_words_of cs) (sym front)
    (sum_by-take-le (command_words (λ label. 16384)) cs (k + 1))
