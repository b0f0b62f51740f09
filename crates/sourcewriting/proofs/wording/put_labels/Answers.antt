-- What is left to show of `put_labels`.
use Rattle.std.proofs.Common.{◌∙◌, [], List, take, get_or, sym, subst}
use Rattle.std.proofs.lemmas.Option.{slice_get-get_or}
use Rattle.std.proofs.lemmas.List.{map_more}
use Rattle.mmtext.specs.Words.{Word}
use Rattle.sourcewriting.specs.declared.shared.CountedLabel.{CountedLabel}
use Rattle.sourcewriting.specs.Laid.{HasLabels}
use Rattle.sourcewriting.specs.Reading.{labels_in}
use Rattle.sourcewriting.proofs.Named.{named_at}
use Rattle.sourcewriting.proofs.wording.put_labels.Goals as goal

pub loop-word-preserved : goal.loop-word-preserved
loop-word-preserved c =
    let labels = c.args.labels.now in
    let k = c.loop-word.word-index in
    let d : CountedLabel = record { label = record { ref_ptr = (0, 0); now = [] }; takes = 0 } in
    record {
      laid = λ i front closed has.
          subst (λ (ws : List Word). HasLabels i c.put_label.new.self front ws)
          (sym (map_more (λ (w : CountedLabel). w.label.now) labels k d c.loop-word-test.true))
          (c.put_label.ensures.laid i front (labels_in (take k labels)) closed (c.loop-word.invariant.laid i front closed has));
      fine = λ names.
          let name = named_at labels k (get_or labels k d) (slice_get-get_or labels k d c.loop-word-test.true) names in
          c.put_label.ensures.fine name.label name.some ∙ c.loop-word.invariant.fine names;
    }
