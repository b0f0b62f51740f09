-- What the loop of `read_tokens` keeps.
use Rattle.std.proofs.Common.{◌≡◌, length, ◌-◌, ◌≤◌, drop}
use Rattle.mmtext.specs.Text.{tokens, tokens_from}
use Rattle.mmtext.specs.Languages.{run, start_of}
use Rattle.mmtext.specs.Views.{state_at}
use Rattle.mmtext.proofs.reading.read_tokens.Given as goal

-- the tokens that are left lead from here where all lead from the start
abbrev pub invariant-loop-token : goal.invariant-loop-token
invariant-loop-token g l = let r = g.R.Reader in record {
  within : l.at ≤ length l.text;
  ready : r.IsReady l.reader;
  kept : r.language l.reader ≡ r.language l.initial.reader;
  same : run (r.language l.initial.reader) (state_at (r.place l.reader) l.in_comment) (tokens_from l.at (drop l.at l.text))
      ≡ run (r.language l.initial.reader) (start_of (r.language l.initial.reader)) (tokens l.text);
}

abbrev pub decreases-loop-token : goal.decreases-loop-token
decreases-loop-token g l = length l.text - l.at
