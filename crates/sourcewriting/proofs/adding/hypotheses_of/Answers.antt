-- What is left to show of `hypotheses_of`.
use Rattle.std.proofs.Common.{◌≡◌, ◌∙◌, ℕ, map, ap}
use Rattle.std.specs.Prelude.{Vec}
use Rattle.std.specs.declared.alloc.Global.{Global}
use Rattle.mmframes.specs.Frames.{frame}
use Rattle.source.specs.Views.{seen_words}
use Rattle.sourcewriting.specs.Added.{mandatory_labels}
use Rattle.sourcewriting.proofs.Added.{put_labels, put_premises}
use Rattle.sourcewriting.proofs.adding.hypotheses_of.Goals as goal

pub returns : goal.returns
returns c =
    let v = c.args.vocabulary.now in
    let floats = seen_words v.names.now.floats.items in
    let places = (frame v.prelude.now c.args.assertion.now).floats in
    let given = map (λ (w : Vec ℕ Global). w.items) c.args.labels.now in
    let premises : seen_words c.as_slice.result.now ≡ given = ap seen_words c.as_slice.ensures.value ∙ c.in_ok-premises.ensures in record {
      mandatory = c.in_ok-mandatory.ensures ∙ ap (mandatory_labels floats places) premises ∙ put_labels floats places given;
      premises = c.in_ok-premises.ensures ∙ put_premises floats places given;
    }
