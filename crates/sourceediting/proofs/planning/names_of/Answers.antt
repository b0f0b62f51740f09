-- What is left to show of `names_of`.
use Rattle.std.proofs.Common.{◌≡◌, ◌∙◌, List, length, map, ap, arith}
use Rattle.std.proofs.lemmas.List.{length-map}
use Rattle.mmtext.specs.Words.{Word}
use Rattle.mmsyntax.specs.declared.statement.Float.{Float}
use Rattle.source.specs.Views.{seen_words}
use Rattle.giving.specs.Staying.{Change, changed}
use Rattle.sourcewriting.specs.declared.listing.Names.{Names}
use Rattle.sourceediting.specs.Entries.{float_labels}
use Rattle.sourceediting.specs.Views.{seen_followed, seen_living, edition_of}
use Rattle.sourceediting.proofs.Cited.{known_names, known_steps}
use Rattle.sourceediting.proofs.PutIn.{back, turned}
use Rattle.sourceediting.proofs.planning.names_of.Goals as goal

pub returns-clause-names : goal.returns-clause-names
returns-clause-names g c =
    let s = g.D.Declared.scope c.args.declared.now in
    let planned = c.args.planned.now in
    let e = edition_of planned in
    let labels : List Change → List Float → List Word = λ cs fs. map (λ f. changed cs f.label) fs in
    let floats : seen_words c.in_ok-floats_in_source.field-0.items ≡ float_labels e =
    c.in_ok-floats_in_source.ensures
    ∙ ap (λ cs. labels cs c.floats.result.now) (c.in_ok-changes.ensures ∙ turned planned.names.now)
    ∙ ap (labels (map back e.names)) (c.floats.ensures.value ∙ ap (λ t. t.floats) c.prelude.ensures) in
    known_names s e (seen_living planned.living.now)
    (record { floats = c.in_ok-floats_in_source.field-0; cited = c.in_ok-cited_then.field-0 }) floats c.in_ok-cited_then.ensures.cited

pub returns-clause-told : goal.returns-clause-told
returns-clause-told g c = λ all.
    let s = g.D.Declared.scope c.args.declared.now in
    let planned = c.args.planned.now in
    let e = edition_of planned in
    let labels : List Change → List Float → List Word = λ cs fs. map (λ f. changed cs f.label) fs in
    let floats : seen_words c.in_ok-floats_in_source.field-0.items ≡ float_labels e =
    c.in_ok-floats_in_source.ensures
    ∙ ap (λ cs. labels cs c.floats.result.now) (c.in_ok-changes.ensures ∙ turned planned.names.now)
    ∙ ap (labels (map back e.names)) (c.floats.ensures.value ∙ ap (λ t. t.floats) c.prelude.ensures) in
    let many = length-map planned.living.now seen_followed in
    let living = seen_living planned.living.now in
    let m : Names = record { floats = c.in_ok-floats_in_source.field-0; cited = c.in_ok-cited_then.field-0 } in record {
      names = known_names s e living m floats c.in_ok-cited_then.ensures.cited;
      steps =
          known_steps s e living m (length planned.living.now) floats (c.in_ok-cited_then.ensures.all all) (omega (arith, many));
      floats = floats;
    }
