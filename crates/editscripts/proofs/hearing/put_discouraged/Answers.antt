-- What is left to show of `put_discouraged`.
use Rattle.std.proofs.Common.{◌∙◌, ◌++◌, ℕ, false, List, map, sym, ap, subst}
use Rattle.std.proofs.lemmas.List.{take_all}
use Rattle.source.specs.Views.{seen_words}
use Rattle.items.proofs.Sourced.{declares_divided}
use Rattle.expanding.specs.Discouraged.{AreDiscouraged}
use Rattle.expanding.specs.Views.{seen_scripts, seen_found}
use Rattle.expanding.specs.declared.discouraged.Discouraged.{Discouraged as CodeDiscouraged}
use Rattle.editscripts.specs.Faults.{AreCounted, counted_fault}
use Rattle.editscripts.specs.Views.{seen_fault}
use Rattle.editscripts.proofs.hearing.put_discouraged.Goals as goal

pub read_remarks-requires : goal.read_remarks-requires
read_remarks-requires g c = declares_divided c.args.source.now (g.D.Declared.scope c.args.declared.now) c.requires

pub returns : goal.returns
returns g c =
    let s = g.D.Declared.scope c.args.declared.now in
    let source = c.args.source.now in
    let scripts = seen_scripts c.args.scripts.now in
    let ms = c.in_ok-remarks.remarks.modification.items in
    let us = c.in_ok-remarks.remarks.usage.items in
    let items = c.as_slice-script-items.result.now in
    let found = map seen_found c.in_ok-found.found.items in
    let start = map seen_fault c.args.faults.now.items in
    let are =
    subst (λ os. AreDiscouraged s (record { modification = seen_words ms; usage = seen_words os }) scripts found)
    c.as_slice-usage.ensures.value
    (subst
    (λ os. AreDiscouraged s (record { modification = seen_words os; usage = seen_words c.as_slice-usage.result.now }) scripts found)
    c.as_slice-modification.ensures.value c.in_ok-found.ensures) in
    let counted : AreCounted source s false scripts found =
    (record { modifications = seen_words ms; usages = seen_words us; are_remarks = c.in_ok-remarks.ensures }, are) in
    record {
      counted = found;
      are_counted = subst (λ b. AreCounted source s b scripts found) (sym c.if-force.false) counted;
      faults_are =
          c.loop-script.invariant
          ∙ ap (λ (xs : List (ℕ × CodeDiscouraged)). start ++ map counted_fault (map seen_found xs))
          (take_all c.loop-script.script-index items c.loop-script-test.false ∙ c.as_slice-script-items.ensures.value);
    }
