use Rattle.std.proofs.Common.{◌≡◌, length, map, take}
use Rattle.mmsyntax.specs.declared.statement.Step.TheVariants.{Cite}
use Rattle.catalog.specs.Citers.{EachAscends, AreEntered, KeepsCiters}
use Rattle.catalog.proofs.citers.enter_citer.Given as goal

abbrev pub invariant-loop-label : goal.invariant-loop-label
invariant-loop-label l =
    record {
      long : length l.citers ≡ length l.initial.citers;
      ascending : EachAscends l.citers;
      kept : KeepsCiters l.initial.citers l.citers;
      entered : AreEntered l.citers l.entries (map Cite (take l.label-index l.labels)) l.place;
    }
