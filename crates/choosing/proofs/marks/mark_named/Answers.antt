-- What is left to show of `mark_named`.
use Rattle.std.proofs.Common.{List, length, arith, subst}
use Rattle.std.specs.Prelude.{◌||◌}
use Rattle.std.proofs.lemmas.List.{take_all}
use Rattle.source.specs.Views.{seen_words}
use Rattle.taking.specs.Nodes.{Shared}
use Rattle.choosing.specs.Marks.{AreMarked, is_named}
use Rattle.choosing.proofs.Marked.{named_more, named_there, label_at}
use Rattle.choosing.proofs.marks.mark_named.Goals as goal

pub loop-node-preserved : goal.loop-node-preserved
loop-node-preserved g c =
    λ test are. named_more (g.D.Declared.scope c.args.declared.now).assertions (seen_words c.args.labels.now) c.args.nodes.now
    c.loop-node.node c.named.result c.loop-node.marks c.mark.new.marks _ c.mark.ensures.marked
    (label_at c.args.labels.now c.named.result _
    (named_there c.args.nodes.now c.loop-node.node c.named.result (length c.args.labels.now) c.requires.named c.named.ensures))
    c.named.ensures test (c.loop-node.invariant test are)

pub returns : goal.returns
returns g c =
    λ test are. subst (λ (ns : List Shared). AreMarked (g.D.Declared.scope c.args.declared.now).assertions
    (λ w. is_named (seen_words c.args.labels.now) ns w || test w) c.loop-node.marks)
    (take_all c.loop-node.node c.args.nodes.now (omega arith)) (c.loop-node.invariant test are)
