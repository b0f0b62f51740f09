-- What is left to show of `in_order`.
use Rattle.std.proofs.Common.{◌≡◌, ◌∙◌, map, sym, ap, subst, Vec, Global}
use Rattle.std.proofs.lemmas.Result.{IfOk-weaker}
use Rattle.std.specs.BTreeMap.{values}
use Rattle.editscripts.specs.Faults.{AreOrdered}
use Rattle.editscripts.specs.Views.{seen_fault}
use Rattle.editscripts.specs.declared.faults.ScriptFault.{ScriptFault as CodeFault}
use Rattle.editscripts.proofs.Placing.{ordered_of, faults_are}
use Rattle.editscripts.proofs.faults.in_order.Goals as goal

pub returns : goal.returns
returns c =
    let all = map seen_fault c.args.faults.now in
    let m = c.in_ok-placed.placed in
    let ordered = ordered_of all m.entries c.in_ok-placed.ensures c.values_of.ensures.ordered in
    IfOk-weaker c.values_of.result (λ (v : Vec CodeFault Global). v.items ≡ values m)
    (λ (v : Vec CodeFault Global). AreOrdered all (map seen_fault v.items))
    (λ v is. subst (AreOrdered all) (sym (ap (map seen_fault) is ∙ faults_are m.entries)) ordered) c.values_of.ensures.values
