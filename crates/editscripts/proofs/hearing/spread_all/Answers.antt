-- What is left to show of `spread_all`.
use Rattle.std.proofs.Common.{◌<◌, List, length, map, refl, subst, arith, Vec, Global}
use Rattle.std.proofs.lemmas.List.{length-map}
use Rattle.std.proofs.lemmas.Option.{slice_get_read}
use Rattle.mmtext.specs.Views.{seen}
use Rattle.mmtext.specs.declared.token.Token.{Token as CodeToken}
use Rattle.spreading.specs.Spreading.{IsSpreadWith}
use Rattle.expanding.specs.Views.{seen_scripts}
use Rattle.editscripts.specs.Views.{seen_spread}
use Rattle.editscripts.proofs.Expanding.{get_seen}
use Rattle.editscripts.proofs.Sayings.{spread_next}
use Rattle.editscripts.proofs.hearing.spread_all.Goals as goal

pub loop-script-preserved : goal.loop-script-preserved
loop-script-preserved g c =
    let s = g.D.Declared.scope c.args.declared.now in
    let scripts = c.args.scripts.now in
    let k = c.loop-script.script in
    let words = c.index-scripts-script.result in
    let at = slice_get_read scripts (length scripts) k words refl c.loop-script-test.true c.index-scripts-script.is in
    let view = λ (ts : Vec CodeToken Global). map seen ts.items in
    let long = length-map scripts view in
    let within : k < length (seen_scripts scripts) = omega (arith, long, c.loop-script-test.true) in
    let x = seen_spread c.in_ok-out.out in
    let one =
    subst (λ (ts : List CodeToken). IsSpreadWith s (map seen ts) x.words x.misfits) c.as_slice.ensures.value c.in_ok-out.ensures in
    spread_next s (seen_scripts scripts) k (map seen words.items) (get_seen view scripts k words at) within _ _ _ _ _ x
    c.loop-script.invariant one c.in_ok-put_spread.ensures.words c.in_ok-put_spread.ensures.faults
