-- What is left to show of `take_word`.
use Rattle.std.proofs.Common.{sym, subst}
use Rattle.std.specs.Prelude.{OnOk}
use Rattle.mmtext.specs.Takings.{TakesWord}
use Rattle.mmtext.specs.Views.{seen}
use Rattle.source.specs.Faults.{source_language}
use Rattle.source.specs.Scopes.{Stand}
use Rattle.sourcereader.specs.Standing.{IsReadySource}
use Rattle.sourcereader.specs.Views.{seen_at}
use Rattle.sourcereader.proofs.Taken.{ready_after}
use Rattle.sourcereader.proofs.words.take_word.Goals as goal

pub returns-clause-ready : goal.returns-clause-ready
returns-clause-ready g c =
    let r = c.take_in_place in
    let marks = g.S.Standing.marks r.new.standing in
    subst (λ (s : Stand). OnOk r.result (IsReadySource s marks r.new.place)) (sym r.ensures.same)
    (ready_after (g.S.Standing.stand c.args.standing.now) marks c.args.place.now r.new.place (seen c.args.token) r.result c.requires.stands
    r.ensures.taken r.ensures.counted)

pub returns-clause-taken : goal.returns-clause-taken
returns-clause-taken g c =
    let r = c.take_in_place in
    let here = seen_at (g.S.Standing.stand c.args.standing.now) c.args.place.now in
    subst (λ (s : Stand). TakesWord source_language here (seen c.args.token) (seen_at s r.new.place) r.result) (sym r.ensures.same)
    r.ensures.taken
