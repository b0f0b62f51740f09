-- What the loop of `put_changed` keeps: the changed names so far stand before those that are left.
use Rattle.std.proofs.Common.{◌≡◌, ◌++◌, drop, map}
use Rattle.std.specs.Prelude.{filter}
use Rattle.std.specs.List.{zip}
use Rattle.std.specs.Str.{bytes_eq}
use mathlib.Core.Bool.{not}
use Rattle.source.specs.Views.{seen_words}
use Rattle.intake.proofs.drafting.put_changed.Given as goal

abbrev pub invariant-loop-place : goal.invariant-loop-place
invariant-loop-place l =
    map (λ p. (p.0.now, p.1)) l.changed.items
    ++ filter (λ p. not (bytes_eq p.0 p.1)) (zip (seen_words (drop l.place l.words)) (drop l.place l.names))
    ≡ map (λ p. (p.0.now, p.1)) l.initial.changed.items ++ filter (λ p. not (bytes_eq p.0 p.1)) (zip (seen_words l.words) l.names)
