-- What is left to show of `named_by`.
use Rattle.std.proofs.Common.{[], take}
use Rattle.std.proofs.lemmas.Result.{IfOk-weaker}
use Rattle.source.specs.Views.{seen_hypotheses}
use Rattle.source.proofs.Asked.{active_are}
use Rattle.sourceframes.specs.Names.{name_in}
use Rattle.sourcecheck.proofs.Labelled.{assertion_named, said_named, agree_at}
use Rattle.sourcecheck.proofs.naming.named_by.Goals as goal

pub returns-in-Some-clause-named : goal.returns-in-Some-clause-named
returns-in-Some-clause-named g c = λ x at more.
    assertion_named (g.D.Declared.scope c.args.declared.now) c.requires.whole c.args.place x at (name_in []) c.args.label.now
    c.in-Some.cited
    (rw c.in-Some.is at c.earlier_place.ensures)

pub returns-in-None-clause-placed : goal.returns-in-None-clause-placed
returns-in-None-clause-placed g c = c.said_under.ensures.placed c.args.place

pub returns-in-None-clause-named : goal.returns-in-None-clause-named
returns-in-None-clause-named g c =
    let xs = (g.D.Declared.scope c.args.declared.now).assertions in
    let hs = seen_hypotheses c.args.active.now.items in
    IfOk-weaker c.said_under.result _ _
    (λ n said x at more. said_named _ (take c.args.place xs) x hs c.args.label.now n
    (active_are xs c.args.place x at hs c.requires.active) (rw c.in-None.is at c.earlier_place.ensures) (said more))
    c.said_under.ensures.said

pub said_under-requires-clause-agree : goal.said_under-requires-clause-agree
said_under-requires-clause-agree g c =
    agree_at (g.D.Declared.scope c.args.declared.now) c.args.place (seen_hypotheses c.args.active.now.items) c.requires.whole
    c.requires.active
