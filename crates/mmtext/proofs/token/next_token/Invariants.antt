-- What the loop of `next_token` keeps.
use Rattle.std.proofs.Common.{◌≡◌, ℕ, length, ◌-◌, ◌<◌, ◌≤◌, false, drop, get_or}
use Rattle.mmtext.specs.Text.{is_white, tokens_from}
use Rattle.mmtext.proofs.token.next_token.Given as goal

-- no token begins before start
abbrev pub invariant-loop-start : goal.invariant-loop-start
invariant-loop-start l = record {
  behind : l.from ≤ l.start;
  within : l.start ≤ length l.text;
  same : tokens_from l.from (drop l.from l.text) ≡ tokens_from l.start (drop l.start l.text);
}

abbrev pub decreases-loop-start : goal.decreases-loop-start
decreases-loop-start l = length l.text - l.start

-- from start to end no white space stands
abbrev pub invariant-loop-end : goal.invariant-loop-end
invariant-loop-end l = record {
  behind : l.start < l.end;
  within : l.end ≤ length l.text;
  printable : (k : ℕ) → l.start ≤ k → k < l.end → is_white (get_or l.text k 0) ≡ false;
}

abbrev pub decreases-loop-end : goal.decreases-loop-end
decreases-loop-end l = length l.text - l.end
