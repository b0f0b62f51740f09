-- What is left to show of `words_of`.
use Rattle.std.proofs.Common.{◌<◌, ℕ, List, length, refl, subst, arith, Vec, Global}
use Rattle.std.proofs.lemmas.List.{length-map}
use Rattle.std.proofs.lemmas.Option.{slice_get_read}
use Rattle.editscripts.specs.Faults.{IsReading}
use Rattle.editscripts.specs.Views.{seen_reading, seen_texts}
use Rattle.editscripts.proofs.Expanding.{get_seen}
use Rattle.editscripts.proofs.Sayings.{read_next}
use Rattle.editscripts.proofs.hearing.words_of.Goals as goal

pub loop-script-preserved : goal.loop-script-preserved
loop-script-preserved c =
    let texts = c.args.texts.now in
    let k = c.loop-script.script in
    let text = c.index-texts-script.result in
    let at = slice_get_read texts (length texts) k text refl c.loop-script-test.true c.index-texts-script.is in
    let view = λ (t : Vec ℕ Global). t.items in
    let long = length-map texts view in
    let within : k < length (seen_texts texts) = omega (arith, long, c.loop-script-test.true) in
    let r = seen_reading c.in_ok-found.found in
    let one = subst (λ (bytes : List ℕ). IsReading bytes r) c.as_slice.ensures.value c.in_ok-found.ensures in
    read_next (seen_texts texts) k text.items (get_seen view texts k text at) within _ _ _ _ _ r c.loop-script.invariant one
    c.in_ok-put_reading.ensures.words c.in_ok-put_reading.ensures.faults
