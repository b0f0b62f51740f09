-- What is left to show of `write_edits`.
use Rattle.std.proofs.Common.{List, map, refl, subst}
use Rattle.library.specs.declared.library.Ranked.{Ranked}
use Rattle.sourceediting.specs.Views.{AreLabelled, AreAllFound, edition_of}
use Rattle.sourceediting.specs.Entries.{assertions_of}
use Rattle.sourceediting.proofs.PutIn.{found_among}
use Rattle.items.proofs.Sourced.{declares_divided}
use Rattle.sourceediting.proofs.writing.write_edits.Goals as goal

pub write_over-requires : goal.write_over-requires
write_over-requires g c κs =
    let labelled = subst (λ (es : List Ranked). AreLabelled c.in_ok-edited.edited (map (λ (r : Ranked). r.assertion) es))
    c.entries.ensures.value c.in_ok-edited.ensures.labelled in
    let divided = declares_divided c.args.source.now (g.D.Declared.scope c.args.declared.now) c.requires in
    ((refl, tt), (labelled, (c.in_ok-names.ensures.names, divided)))

pub returns-clause-unwritten : goal.returns-clause-unwritten
returns-clause-unwritten g c =
    let edited = c.in_ok-edited.edited in
    let e = edition_of c.args.planned.now in
    let same = λ (es : List Ranked). map (λ (r : Ranked). r.assertion) es in
    let labelled = subst (λ (es : List Ranked). AreLabelled edited (same es)) c.entries.ensures.value c.in_ok-edited.ensures.labelled in
    let all = subst (λ (es : List Ranked). AreAllFound edited (same es)) c.entries.ensures.value c.in_ok-edited.ensures.all in
    c.write_over.ensures.unwritten (c.in_ok-names.ensures.told all) (found_among edited (assertions_of e) labelled all)
