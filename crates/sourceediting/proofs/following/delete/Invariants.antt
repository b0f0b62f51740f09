-- What the loop of `delete` keeps.
use Rattle.std.proofs.Common.{◌≡◌, ◌++◌, filter, take}
use Rattle.std.specs.Prelude.{filter_map}
use Rattle.std.specs.Str.{bytes_eq}
use mathlib.Core.Bool.{not}
use Rattle.source.specs.Views.{seen_words}
use Rattle.sourceediting.specs.Following.{source_of}
use Rattle.sourceediting.specs.Views.{seen_living}
use Rattle.sourceediting.proofs.following.delete.Given as goal

-- what is left so far, and what is gone
abbrev pub invariant-loop-followed : goal.invariant-loop-followed
invariant-loop-followed l = record {
  left : seen_living l.left.items ≡ filter (λ x. not (bytes_eq x.now l.label)) (seen_living (take l.followed-index l.living));
  gone : seen_words l.gone.items ≡ seen_words l.initial.gone.items
      ++ filter_map (source_of l.label) (seen_living (take l.followed-index l.living));
}
