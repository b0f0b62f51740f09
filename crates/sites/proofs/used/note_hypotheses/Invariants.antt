-- What the loop of `note_hypotheses` keeps: the hypotheses so far are noted.
use Rattle.std.proofs.Common.{◌≡◌, take}
use Rattle.std.specs.Prelude.{◌||◌}
use Rattle.std.specs.List.{list_any}
use Rattle.mmtext.specs.Words.{Word}
use Rattle.sites.specs.Given.{given_hypotheses}
use Rattle.taking.specs.Names.{is_symbol_of_hypothesis}
use Rattle.source.specs.Views.{has}
use Rattle.sites.specs.Used.{noted, typed}
use Rattle.sites.proofs.used.note_hypotheses.Given as goal

abbrev pub invariant-loop-hypothesis : goal.invariant-loop-hypothesis
invariant-loop-hypothesis l = record {
  symbols : (w : Word) → has l.used.symbols w
      ≡ (has l.initial.used.symbols w || list_any (is_symbol_of_hypothesis w) (given_hypotheses (take l.hypothesis-index l.hypotheses)));
  floats : (w : Word) → noted l.used w ≡ typed w (noted l.initial.used w) (given_hypotheses (take l.hypothesis-index l.hypotheses));
}
