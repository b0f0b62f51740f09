-- What the loop of `put_symbols` keeps.
use Rattle.std.proofs.Common.{◌≡◌, ◌++◌, ◌∷◌, take}
use Rattle.std.specs.Prelude.{string_bytes}
use Rattle.std.specs.List.{flat_map}
use Rattle.source.specs.Views.{seen_words}
use Rattle.locating.specs.Told.{shown}
use Rattle.verifytext.proofs.finding_lines.put_symbols.Given as goal

abbrev pub invariant-loop-symbol : goal.invariant-loop-symbol
invariant-loop-symbol l =
    string_bytes l.out ≡ string_bytes l.initial.out ++ flat_map (λ w. 32 ∷ shown w) (seen_words (take l.symbol-index l.symbols))
