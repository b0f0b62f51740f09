-- What is left to show of `settle`: without stand-ins all is told still.
use Rattle.std.proofs.Common.{◌≡◌, ◌∙◌, [], length, filter, refl, sym, ap}
use mathlib.Core.Bool.{not}
use Rattle.std.proofs.lemmas.Bool.{eqb-true}
use Rattle.std.proofs.lemmas.List.{nil_from_length}
use Rattle.source.specs.Scopes.{is_in}
use Rattle.intake.specs.Intakes.{axioms_of}
use Rattle.standins.specs.Ending.{released}
use Rattle.standins.specs.Views.{seen_stand_ins}
use Rattle.standins.proofs.Told.{all_told}
use Rattle.standins.proofs.settling.settle.Goals as goal

pub returns-then-is_empty : goal.returns-then-is_empty
returns-then-is_empty c =
    let lib = c.args.entries.now in
    let told = axioms_of c.args.taken.now in
    let long : length c.args.stand_ins.now ≡ 0 = eqb-true _ _ (sym c.if-is_empty.ensures) in
    let none : c.args.stand_ins.now ≡ [] = nil_from_length c.args.stand_ins.now long in
    record {
      database = refl;
      names = refl;
      chosen = refl;
      axioms = sym (ap (λ ss. filter (λ a. not (is_in (released (seen_stand_ins ss) lib) a.0)) told) none ∙ all_told told);
    }
