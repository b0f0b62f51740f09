use Rattle.std.proofs.Common.{◌≡◌, None}
use Rattle.trials.proofs.word_work.attempt.Given as goal

abbrev pub invariant-loop-i : goal.invariant-loop-i
invariant-loop-i l =
    (l.run.known.home ≡ l.initial.run.known.home) × (l.run.over ≡ None) × (l.run.mode ≡ l.initial.run.mode)
