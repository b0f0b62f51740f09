-- What is left to show of `barred_of`.
use Rattle.std.proofs.Common.{◌≡◌, ◌∙◌, map, ap, subst, Vec, Global}
use Rattle.std.proofs.lemmas.Result.{IfOk-weaker}
use Rattle.source.specs.Views.{seen_words}
use Rattle.expanding.specs.Asking.{asked}
use Rattle.expanding.specs.Barred.{AreAllBarred}
use Rattle.expanding.specs.Bars.{seen_command}
use Rattle.expanding.specs.Watches.{seen_barred, IsWatch, AreBarred}
use Rattle.expanding.specs.Views.{seen_scripts}
use Rattle.expanding.specs.declared.barred.Barred.{Barred as CodeBarred}
use Rattle.expanding.proofs.Barring.{all_found}
use Rattle.expanding.proofs.barred.barred_of.Goals as goal

pub returns : goal.returns
returns g c =
    let s = g.D.Declared.scope c.args.declared.now in
    let scripts = seen_scripts c.args.scripts.now in
    let cs = map seen_command c.in_ok-commands.commands.items in
    let asks : seen_words c.as_slice.result.now ≡ asked scripts = ap seen_words c.as_slice.ensures.value ∙ c.in_ok-asked.ensures.asked in
    let commands = ap (map seen_command) c.as_slice-2.ensures.value in
    let watch = subst (λ ds. IsWatch s (asked scripts) ds c.in_ok-watch.watch) commands
    (subst (λ ws. IsWatch s ws (map seen_command c.as_slice-2.result.now) c.in_ok-watch.watch) asks c.in_ok-watch.ensures) in
    IfOk-weaker c.all_barred.result (λ (v : Vec CodeBarred Global). AreBarred s (asked scripts) cs (map seen_barred v.items))
    (λ (v : Vec CodeBarred Global). AreAllBarred s scripts (map seen_barred v.items))
    (λ v h. all_found s scripts cs c.in_ok-commands.ensures (map seen_barred v.items) h) (c.all_barred.ensures (asked scripts) cs watch)
