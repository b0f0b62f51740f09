-- Of the code's inside, apart from the rules: the places of a block's hypotheses, as a map.
use Rattle.std.specs.Prelude.{◌≡◌, ◌≤◌, ℕ, List, length, Vec}
use Rattle.std.specs.Str.{bytes_eq}
use Rattle.std.specs.HashMap.{HashMap, get_by}
use Rattle.std.specs.declared.alloc.Global.{Global}
use Rattle.std.specs.declared.random_state.RandomState.{RandomState}
use Rattle.mmsyntax.specs.Blocks.{Hypothesis}
use Rattle.mmsyntax.specs.Steps.{hypothesis_named}
use Rattle.mmsyntax.specs.declared.limits.TheConstants.{MOST_HYPOTHESES}

-- the map finds the hypothesis that each word is the label of, and these are at most 1,000
pub record FindsHypotheses (m : HashMap (Vec ℕ Global) ℕ RandomState) (hyps : List Hypothesis) : Type 0 where
  pub found : (w : List ℕ) → get_by (λ k. bytes_eq w k.items) m ≡ hypothesis_named hyps w
  pub few : length hyps ≤ MOST_HYPOTHESES
