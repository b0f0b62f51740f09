-- What is left to show of `listed`.
use Rattle.std.proofs.Common.{◌≡◌, ◌∙◌, false, Option, Some, None, take, sym, ap, subst}
use Rattle.std.specs.Prelude.{MatchOption, slice_get}
use Rattle.std.specs.List.{list_any}
use Rattle.std.proofs.lemmas.Bool.{not-true}
use Rattle.mmtext.specs.Words.{Word}
use Rattle.mmsyntax.proofs.Options.{if_there}
use Rattle.source.specs.Proofs.{denoted}
use Rattle.source.specs.Views.{seen_hypotheses, seen_proof}
use Rattle.source.specs.Whole.{labels_in}
use Rattle.source.proofs.Asked.{hypotheses_are, whole_at}
use Rattle.taking.proofs.Turned.{if_ok}
use Rattle.prooftrees.specs.declared.form.ProofTree.{ProofTree}
use Rattle.prooftrees.specs.Forms.{IsTree}
use Rattle.prooftrees.specs.Roles.{looks_up, role_of}
use Rattle.pasting.proofs.Citable.{active_is, all_enough}
use Rattle.pasting.proofs.Known.{known_counted}
use Rattle.dressing.specs.Quoted.{is_unnamed, lists, own_names}
use Rattle.dressing.proofs.Lists.{for_there, tree_lists, none_lists}
use Rattle.dressing.proofs.Naming.{all_known, frames_are}
use Rattle.dressing.proofs.listing.listed.Goals as goal

pub returns-in-Some : goal.returns-in-Some
returns-in-Some g c =
    let s = g.D.Declared.scope c.args.declared.now in
    let xs = s.assertions in
    let place = c.args.place in
    let earlier = take place xs in
    let own = seen_proof c.args.proof.now in
    let labels = c.args.names.now.labels in
    let finished = sym c.is_unfinished.ensures ∙ c.if-is_unfinished.false in
    for_there c.list_tree.result (slice_get xs place) (λ steps x. steps ≡ lists s earlier x own)
    (λ x at.
    let y = record x { proof = Some own } in
    let whole = whole_at s place x c.requires.whole at in
    let roles = λ (w : Word). c.in_ok-roles.ensures w ∙ ap (λ hs. role_of hs w) (sym (active_is xs place x _ at c.in_ok-active.ensures)) in
    let none : list_any (is_unnamed earlier x) (labels_in own) ≡ false =
    ap (list_any (is_unnamed earlier x)) (sym c.labels_in.ensures)
    ∙ not-true _ (sym (c.are_named.ensures x roles) ∙ c.if-not-are_named.false) in
    let tree : IsTree (own_names labels) earlier y c.in-Some.tree =
    subst (λ (o : Option ProofTree). MatchOption o (denoted earlier y ≡ None) (IsTree (own_names labels) earlier y)) c.in-Some.is
    (c.in_ok-tree.ensures.tree earlier x
    (frames_are g.D.Declared.scope c.new-cited.result.declared.now c.args.declared.now c.new-cited.result.place place
    c.new-cited.ensures.declared c.new-cited.ensures.place)
    (all_enough earlier x.active (looks_up c.in_ok-roles.roles.roles) roles)
    (hypotheses_are xs place x at (seen_hypotheses c.in_ok-mandatory.mandatory.items) c.in_ok-mandatory.ensures)
    (known_counted earlier x whole.mandatory own (all_known earlier x (labels_in own) none)) finished) in
    if_ok c.list_tree.result (λ o told. told ∙ tree_lists s earlier x own labels tree.tree c.requires.names finished none tree.denotes)
    (c.list_tree.ensures (own_names labels) earlier y tree))

pub returns : goal.returns
returns g c =
    let s = g.D.Declared.scope c.args.declared.now in
    let xs = s.assertions in
    let place = c.args.place in
    let earlier = take place xs in
    let own = seen_proof c.args.proof.now in
    let labels = c.args.names.now.labels in
    let finished = sym c.is_unfinished.ensures ∙ c.if-is_unfinished.false in
    if_there (slice_get xs place)
    (λ x at.
    let y = record x { proof = Some own } in
    let whole = whole_at s place x c.requires.whole at in
    let roles = λ (w : Word). c.in_ok-roles.ensures w ∙ ap (λ hs. role_of hs w) (sym (active_is xs place x _ at c.in_ok-active.ensures)) in
    let none : list_any (is_unnamed earlier x) (labels_in own) ≡ false =
    ap (list_any (is_unnamed earlier x)) (sym c.labels_in.ensures)
    ∙ not-true _ (sym (c.are_named.ensures x roles) ∙ c.if-not-are_named.false) in
    let no_tree : denoted earlier y ≡ None =
    subst (λ (o : Option ProofTree). MatchOption o (denoted earlier y ≡ None) (IsTree (own_names labels) earlier y)) c.in-None.is
    (c.in_ok-tree.ensures.tree earlier x
    (frames_are g.D.Declared.scope c.new-cited.result.declared.now c.args.declared.now c.new-cited.result.place place
    c.new-cited.ensures.declared c.new-cited.ensures.place)
    (all_enough earlier x.active (looks_up c.in_ok-roles.roles.roles) roles)
    (hypotheses_are xs place x at (seen_hypotheses c.in_ok-mandatory.mandatory.items) c.in_ok-mandatory.ensures)
    (known_counted earlier x whole.mandatory own (all_known earlier x (labels_in own) none)) finished) in
    none_lists s earlier x own finished none no_tree)
