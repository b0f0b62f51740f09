-- Under which labels the descriptions of what was added go into the source.
use Rattle.std.specs.Prelude.{List, filter_map, find, Option, None, is_some, if◌then◌else◌}
use Rattle.std.specs.Option.{option_map}
use Rattle.std.specs.Str.{bytes_eq}
use Rattle.giving.specs.Staying.{Change}
use Rattle.sourceediting.specs.Following.{Followed, Following, label_then}

-- an assertion that was added is described under the label that it has in the end
abbrev pub description_then : List Change → Followed → Option Change
description_then ds x =
    if is_some x.source then None else option_map (λ d. (label_then x, d.1)) (find (λ d. bytes_eq x.first d.0) ds)

abbrev pub descriptions_then : List Change → Following → List Change
descriptions_then ds f = filter_map (description_then ds) f.living
