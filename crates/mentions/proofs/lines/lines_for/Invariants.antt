-- What the loop of `lines_for` keeps: the lines of the labels so far.
use Rattle.std.proofs.Common.{◌≡◌, map, take}
use Rattle.std.specs.Prelude.{filter, string_bytes}
use Rattle.std.specs.Str.{bytes_eq}
use Rattle.mmtext.specs.Views.{seen}
use Rattle.source.specs.Views.{seen_words}
use Rattle.mentions.specs.Lines.{mention_line}
use Rattle.mentions.proofs.lines.lines_for.Given as goal

abbrev pub invariant-loop-label : goal.invariant-loop-label
invariant-loop-label l =
    map string_bytes l.said.items
    ≡ map (λ w. mention_line l.out w (filter (λ t. bytes_eq t.text w) (map seen l.words))) (seen_words (take l.label-index l.labels))
