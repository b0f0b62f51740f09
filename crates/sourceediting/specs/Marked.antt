-- Of the code's inside, apart from the rules: labels with a fast look-up.
use Rattle.std.specs.Prelude.{List, map}
use Rattle.mmtext.specs.Words.{Word}
use Rattle.giving.specs.Staying.{Change}

-- each stands beside itself
abbrev pub marked : List Word → List Change
marked ws = map (λ w. (w, w)) ws
