-- What is left to show of `push`.
use Rattle.std.proofs.Common.{rules, ◌≡◌, ◌+◌, ◌∙◌, ◌++◌, ◌∷◌, [], sym, ap, subst, length, ℕ, List}
use Rattle.std.proofs.lemmas.List.{length-map, length-append}
use Rattle.taking.specs.declared.nodes.Node.{Node}
use Rattle.taking.specs.Nodes.{AreBelow}
use Rattle.taking.specs.Views.{seen_node, seen_nodes, AreSound, size_over}
use Rattle.taking.proofs.Kept.{sound_wider, seen_wider, sound_more, seen_more}
use Rattle.taking.proofs.nodes.Nodes.push.Goals as goal

pub invariant_of-self-in_err-push : goal.invariant_of-self-in_err-push
invariant_of-self-in_err-push c =
    let ns = c.self.inside.nodes.items in
    let args = c.self.inside.arguments.items in
    subst (λ (as' : List ℕ). AreSound as' c.push.new.self.items) (sym c.in_ok-extend_from_slice.ensures.items)
    (subst (λ (ms : List Node). AreSound (args ++ c.args.arguments.now) ms) (sym c.in_err-push.ensures.items)
    (sound_wider args c.args.arguments.now ns c.self.invariant))

pub invariant_of-self-2 : goal.invariant_of-self-2
invariant_of-self-2 c =
    let ns = c.self.inside.nodes.items in
    let args = c.self.inside.arguments.items in
    let ks = c.args.arguments.now in
    let x : Node =
    record { named = c.args.named; begin = c.len-begin.result; end = c.len-end.result; size = c.size_over-size.result } in
    let begin : c.len-begin.result ≡ length args = search rules in
    let long : c.len-end.result ≡ length c.extend_from_slice.new.self.items = search rules in
    let end : c.len-end.result ≡ length args + length ks =
    long ∙ ap length c.in_ok-extend_from_slice.ensures.items ∙ length-append args ks in
    let size : c.size_over-size.result ≡ size_over (seen_nodes args ns) ks =
    c.size_over-size.ensures ∙ ap (λ ms. size_over ms ks) (sym c.self.view_is) in
    let below : AreBelow (length ns) ks =
    subst (λ (n : ℕ). AreBelow n ks) (ap length (sym c.self.view_is) ∙ length-map ns (seen_node args)) c.requires in
    subst (λ (as' : List ℕ). AreSound as' c.push.new.self.items) (sym c.in_ok-extend_from_slice.ensures.items)
    (subst (λ (ms : List Node). AreSound (args ++ ks) ms) (sym c.in_ok-push.ensures.items)
    (sound_more args ks ns x c.self.invariant begin end size below))

pub returns-clause-ok : goal.returns-clause-ok
returns-clause-ok c =
    let ns = c.self.inside.nodes.items in
    let args = c.self.inside.arguments.items in
    let ks = c.args.arguments.now in
    let x : Node =
    record { named = c.args.named; begin = c.len-begin.result; end = c.len-end.result; size = c.size_over-size.result } in
    let begin : c.len-begin.result ≡ length args = search rules in
    let long : c.len-end.result ≡ length c.extend_from_slice.new.self.items = search rules in
    let end : c.len-end.result ≡ length args + length ks =
    long ∙ ap length c.in_ok-extend_from_slice.ensures.items ∙ length-append args ks in
    let size : c.size_over-size.result ≡ size_over (seen_nodes args ns) ks =
    c.size_over-size.ensures ∙ ap (λ ms. size_over ms ks) (sym c.self.view_is) in
    let below : AreBelow (length ns) ks =
    subst (λ (n : ℕ). AreBelow n ks) (ap length (sym c.self.view_is) ∙ length-map ns (seen_node args)) c.requires in
    ap (λ as'. seen_nodes as' c.push.new.self.items) c.in_ok-extend_from_slice.ensures.items
    ∙ ap (seen_nodes (args ++ ks)) c.in_ok-push.ensures.items
    ∙ seen_more args ks ns x c.self.invariant begin end size below
    ∙ ap (λ ms. ms ++ record { named = c.args.named; arguments = ks } ∷ []) c.self.view_is

pub returns-in_err-push-clause-err : goal.returns-in_err-push-clause-err
returns-in_err-push-clause-err c =
    let ns = c.self.inside.nodes.items in
    let args = c.self.inside.arguments.items in
    let same : seen_nodes c.extend_from_slice.new.self.items c.push.new.self.items ≡ c.args.self.now =
    ap (λ as'. seen_nodes as' c.push.new.self.items) c.in_ok-extend_from_slice.ensures.items
    ∙ ap (seen_nodes (args ++ c.args.arguments.now)) c.in_err-push.ensures.items
    ∙ seen_wider args c.args.arguments.now ns c.self.invariant
    ∙ c.self.view_is in
    search rules
