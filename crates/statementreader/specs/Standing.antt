-- Of the code's inside, apart from the rules: what is always so in the middle of a statement, which the code needs to know.
use Rattle.std.specs.Prelude.{◌≡◌, ◌<◌, ◌≤◌, length, Some, None}
use Rattle.mmtext.specs.Words.{Word}
use Rattle.mmsyntax.specs.declared.symbols.Name.TheVariants.{Variable}
use Rattle.mmsyntax.specs.Tables.{meaning}
use Rattle.mmsyntax.specs.Rows.{Known}
use Rattle.mmsyntax.specs.Faults.{Scope, inside, block_of, Place, at_start, after_label, float_type, float_variable, float_end, in_distinct}
use Rattle.mmsyntax.specs.Faults.{in_hypothesis, in_axiom, in_theorem, in_proof}
use Rattle.mmsyntax.specs.declared.limits.TheConstants.{MOST_DECLARED, MOST_HYPOTHESES}

-- a label is free, and there is room for a $f
abbrev pub IsFree : Known → Word → Type 0
IsFree k label = (meaning k.tables label ≡ None) × (length k.tables.floats < MOST_DECLARED)

-- a block has at most 1,000 hypotheses
abbrev pub IsRoomy : Scope → Type 0
IsRoomy s = length (block_of s).hyps ≤ MOST_HYPOTHESES

-- what holds of what is known at a place: in a $f its label is free, there is room, and its variable has none yet; in a block there is room
abbrev pub SuitsPlace : Known → Place → Type 0
SuitsPlace k (at_start s) = IsRoomy s
SuitsPlace k (after_label s label) = IsRoomy s
SuitsPlace k (float_type label) = IsFree k label
SuitsPlace k (float_variable label i) = IsFree k label
SuitsPlace k (float_end label i w v) = IsFree k label × (meaning k.tables w ≡ Some (Variable v None))
SuitsPlace k (in_distinct b vs) = IsRoomy (inside b)
SuitsPlace k (in_hypothesis b label e) = length b.hyps < MOST_HYPOTHESES
SuitsPlace k (in_axiom s label e) = IsRoomy s
SuitsPlace k (in_theorem s label e) = IsRoomy s
SuitsPlace k (in_proof s label e steps) = IsRoomy s
SuitsPlace k _ = Unit {0}
