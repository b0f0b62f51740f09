-- What is left to show of `cites_left_out`.
use Rattle.std.proofs.Common.{◌≡◌, ◌≤◌, ◌∙◌, List, false, [], length, take, refl, sym, subst, arith}
use Rattle.std.specs.Prelude.{slice_index_or}
use Rattle.std.specs.List.{list_any}
use Rattle.std.proofs.lemmas.List.{take_all}
use Rattle.source.specs.Views.{seen_words}
use Rattle.taking.specs.Nodes.{Shared}
use Rattle.taking.specs.Reasons.{is_left_out}
use Rattle.gathering.proofs.LeftOut.{named_within, node_names, no_node_more}
use Rattle.gathering.proofs.proving.cites_left_out.Goals as goal

pub loop-node-init : goal.loop-node-init
loop-node-init g c = λ choice are. refl

pub named-requires : goal.named-requires
named-requires g c = omega (arith, c.loop-node-test.true, c.len-node-end.ensures)

pub index-label-requires : goal.index-label-requires
index-label-requires g c =
    let labels = c.args.tree.now.labels in
    let within = named_within (length labels.items) c.args.tree.now.proof.nodes c.loop-node.node c.named.result c.requires.named
    c.named.ensures in
    omega (arith, within, labels.ok)

pub is_left_out-requires : goal.is_left_out-requires
is_left_out-requires g c κs = ((refl, tt), c.requires.flags)

pub returns : goal.returns
returns g c =
    λ choice are.
    let nodes = c.args.tree.now.proof.nodes in
    let end : length nodes ≤ c.loop-node.node = omega (arith, c.loop-node-test.false, c.len-node-end.ensures) in
    subst
    (λ (ns : List Shared). false ≡ list_any (λ n. is_left_out (take c.args.place (g.D.Declared.scope c.args.declared.now).assertions)
    choice.chosen (slice_index_or (seen_words c.args.tree.now.labels.items) n.named [])) ns)
    (take_all c.loop-node.node nodes end) (sym (c.loop-node.invariant choice are))

pub returns-then-is_left_out : goal.returns-then-is_left_out
returns-then-is_left_out g c =
    λ choice are.
    node_names (is_left_out (take c.args.place (g.D.Declared.scope c.args.declared.now).assertions) choice.chosen)
    c.args.tree.now.labels.items c.args.tree.now.proof.nodes c.loop-node.node c.named.result c.index-label.result.now
    c.requires.named c.named.ensures c.index-label.ensures (sym (c.is_left_out.ensures choice are) ∙ c.if-is_left_out.true)

pub loop-node-preserved : goal.loop-node-preserved
loop-node-preserved g c =
    λ choice are.
    no_node_more (is_left_out (take c.args.place (g.D.Declared.scope c.args.declared.now).assertions) choice.chosen)
    c.args.tree.now.labels.items c.args.tree.now.proof.nodes c.loop-node.node c.named.result c.index-label.result.now
    c.requires.named c.named.ensures c.index-label.ensures (sym (c.is_left_out.ensures choice are) ∙ c.if-is_left_out.false)
    (c.loop-node.invariant choice are)
