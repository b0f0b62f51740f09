-- Of the code's inside, apart from the rules: what the test whether two assertions are alike stands for.
use Rattle.std.specs.Prelude.{◌≡◌, All, Contains}
use Rattle.mmsyntax.specs.declared.statement.Frame.{Frame}

-- the hypotheses and the statement are the same, and each pair of the one is one of the other
abbrev pub SaysNoLess : Frame → Frame → Type 0
SaysNoLess old new = ((new.hyps ≡ old.hyps) × (new.statement ≡ old.statement)) × All (Contains old.pairs) new.pairs
