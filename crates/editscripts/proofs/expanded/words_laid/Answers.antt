-- What is left to show of `words_laid`.
use Rattle.std.proofs.Common.{◌∙◌, ◌++◌, ◌∷◌, [], length, map, refl, sym, ap, ap₂, arith, Vec, Global}
use Rattle.std.proofs.lemmas.List.{map-append, take_all}
use Rattle.std.proofs.lemmas.Option.{slice_get_read}
use Rattle.mmtext.specs.Views.{seen}
use Rattle.mmtext.specs.declared.token.Token.{Token as CodeToken}
use Rattle.mmsyntax.proofs.Items.{take_next}
use Rattle.expanding.specs.Views.{IsLaid, seen_scripts}
use Rattle.editscripts.proofs.Expanding.{zipped_at, zipped_long}
use Rattle.editscripts.proofs.expanded.words_laid.Goals as goal

pub loop-laid-preserved : goal.loop-laid-preserved
loop-laid-preserved c = λ outs are.
    let all = c.args.all.now in
    let k = c.loop-laid.laid-index in
    let laid = c.laid-item.result in
    let at = slice_get_read all (length all) k laid refl c.loop-laid-test.true c.laid-item.is in
    let out = zipped_at IsLaid outs all k laid are at in
    ap seen_scripts c.in_ok-push.ensures.items
    ∙ (map-append (λ (ts : Vec CodeToken Global). map seen ts.items) c.loop-laid.words.items (c.in_ok-words-2.field-0 ∷ [])
    ∙ (ap₂ (λ us v. us ++ v ∷ []) (c.loop-laid.invariant outs are) (c.in_ok-words-2.ensures out.0 out.2)
    ∙ sym (take_next outs k out.0 out.1)))

pub returns : goal.returns
returns c = λ outs are.
    let long = zipped_long IsLaid outs c.args.all.now are in
    let past = c.loop-laid-test.false in
    c.loop-laid.invariant outs are ∙ take_all c.loop-laid.laid-index outs (omega (arith, long, past))
