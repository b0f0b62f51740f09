-- What is left to show of `asked_of`.
use Rattle.std.proofs.Common.{◌∙◌, length, map, refl, ap}
use Rattle.std.proofs.lemmas.Option.{slice_get_read}
use Rattle.mmtext.specs.Views.{seen}
use Rattle.source.specs.Views.{seen_words}
use Rattle.expanding.specs.Asking.{asks_for_proof, is_behind, words_behind, spoken_in}
use Rattle.expanding.proofs.AskedWords.{flat_next, seen_both}
use Rattle.expanding.proofs.asking.asked_of.Goals as goal

pub loop-script-preserved : goal.loop-script-preserved
loop-script-preserved g c =
    let scripts = c.args.scripts.now in
    let k = c.loop-script.script-index in
    let script = c.script-item.result in
    let at = slice_get_read scripts (length scripts) k script refl c.loop-script-test.true c.script-item.is in
    let are = c.in_ok-words.ensures ∙ ap (λ ts. spoken_in (map seen ts)) c.as_slice.ensures.value in
    let one = c.as_slice-in-loop-script.result.now in
    let two = c.as_slice-in-loop-script-2.result.now in
    let more = c.as_slice-in-loop-script-3.result.now in
    record {
      spoken_are =
          ap seen_words c.in_ok-extend_from_slice.ensures.items
          ∙ seen_both c.loop-script.spoken.items more
          ∙ flat_next (λ ts. map seen ts.items) spoken_in scripts k script at (seen_words c.loop-script.spoken.items) (seen_words more)
          c.loop-script.invariant.spoken_are (ap seen_words c.as_slice-in-loop-script-3.ensures.value ∙ are);
      asked_are =
          c.in_ok-put_asked.ensures
          ∙ flat_next (λ ts. map seen ts.items) (λ ts. words_behind asks_for_proof (spoken_in ts)) scripts k script at
          (seen_words c.loop-script.asked.items) (words_behind asks_for_proof (seen_words one))
          c.loop-script.invariant.asked_are
          (ap (words_behind asks_for_proof) (ap seen_words c.as_slice-in-loop-script.ensures.value ∙ are));
      named_are =
          c.in_ok-put_named.ensures
          ∙ flat_next (λ ts. map seen ts.items) (λ ts. words_behind is_behind (spoken_in ts)) scripts k script at
          (seen_words c.loop-script.named.items) (words_behind is_behind (seen_words two))
          c.loop-script.invariant.named_are
          (ap (words_behind is_behind) (ap seen_words c.as_slice-in-loop-script-2.ensures.value ∙ are));
    }
