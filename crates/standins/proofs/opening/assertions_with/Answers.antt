-- What is left to show of `assertions_with`: a look-up finds the axiom of a theorem.
use Rattle.std.proofs.Common.{◌≡◌, ◌∙◌, ◌++◌, List, Option, map, ap, ap₂}
use Rattle.std.specs.List.{flat_map}
use Rattle.std.proofs.Math.Path.{fun_ext}
use Rattle.mmtext.specs.Words.{Word}
use Rattle.mmsyntax.specs.declared.statement.Assertion.{Assertion}
use Rattle.standins.specs.StandIns.{axiom_as, axiom_for, leaning}
use Rattle.standins.specs.Views.{axiom_found, seen_stand_ins}
use Rattle.standins.proofs.Leaned.{found_axiom}
use Rattle.standins.proofs.opening.assertions_with.Goals as goal

pub returns : goal.returns
returns c =
    let db = c.args.database.now in
    let ss = seen_stand_ins c.args.stand_ins.now in
    let axioms = λ (find : Word → Option Word) (xs : List Assertion). flat_map (λ (a : Assertion). axiom_as a (find a.label)) xs in
    let theorems = λ (find : Word → Option Word). map (λ (a : Assertion). leaning db.prelude a (find a.label)) db.assertions in
    let finds : axiom_found c.in_ok-axioms.axioms ≡ axiom_for ss = ap axiom_found c.in_ok-axioms.ensures ∙ fun_ext (found_axiom ss) in
    c.in_ok-put_theorems.ensures
    ∙ ap (λ xs. xs ++ theorems (axiom_found c.in_ok-axioms.axioms)) (c.in_ok-put_axioms.ensures
    ∙ ap₂ (λ made xs. made ++ axioms (axiom_found c.in_ok-axioms.axioms) xs) c.new-made.ensures.items c.assertions.ensures.value)
    ∙ ap (λ find. axioms find db.assertions ++ theorems find) finds
