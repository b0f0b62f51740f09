use Rattle.tlwords.specs.Callers.{AreOfOneOpening}
use Rattle.trials.proofs.word_work.work.Given as goal

abbrev pub invariant-loop : goal.invariant-loop
invariant-loop l = AreOfOneOpening l.words l.pass

abbrev pub invariant-loop-2 : goal.invariant-loop-2
invariant-loop-2 l = AreOfOneOpening l.words l.pass
