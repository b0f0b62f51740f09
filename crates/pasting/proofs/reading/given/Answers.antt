-- What is left to show of `given`.
use Rattle.std.proofs.Common.{◌≡◌, ◌∙◌, sym, ap, subst, Option, Some, None, List, map}
use Rattle.std.specs.Prelude.{MatchOption}
use Rattle.std.specs.Option.{option_map}
use Rattle.mmtext.specs.Views.{seen}
use Rattle.mmtext.specs.Words.{Word}
use Rattle.source.specs.Scopes.{Assertion, mandatory}
use Rattle.source.specs.Proofs.{denoted}
use Rattle.source.specs.Views.{seen_hypotheses, seen_proof}
use Rattle.taking.proofs.Turned.{if_ok}
use Rattle.prooftrees.specs.declared.form.ProofTree.{ProofTree}
use Rattle.prooftrees.specs.Forms.{IsTree}
use Rattle.prooftrees.specs.Names.{AreFrames}
use Rattle.prooftrees.specs.Roles.{looks_up, role_of}
use Rattle.pasting.specs.Proofs.{given, proof_of}
use Rattle.pasting.specs.Views.{flags_in, places_behind, seen_given}
use Rattle.pasting.proofs.Citable.{all_enough}
use Rattle.pasting.proofs.Known.{counted_known}
use Rattle.pasting.proofs.Told.{all_there, none_found, told_by_tree}
use Rattle.pasting.proofs.reading.given.Goals as goal

pub returns-in-Some-3 : goal.returns-in-Some-3
returns-in-Some-3 g c =
    let f = flags_in (g.D.Declared.scope c.args.citing.now.declared.now).assertions c.args.citing.now.additions.now in
    let roles = looks_up c.args.roles.now.roles in
    let hs = seen_hypotheses c.args.mandatory.items in
    let m = places_behind c.args.placed.now in
    let words = c.args.proving.now.cut.proof.now in
    let own = seen_proof c.in-Some-2.proof in
    let last = seen c.args.proving.now.ends in
    let proof : proof_of (map seen words) ≡ Some own = sym c.in_ok-proof.ensures ∙ ap (option_map seen_proof) c.in-Some-2.is in
    let finished = sym c.is_unfinished.ensures ∙ c.if-is_unfinished.false in
    if_ok c.given_by_tree.result (λ t all. λ earlier x frames are_roles same are. all (earlier, x, frames, are_roles, same, are))
    (all_there c.given_by_tree.result
    (λ t (k : (earlier : List Assertion) × (x : Assertion) × AreFrames earlier f × ((w : Word) → roles w ≡ role_of x.active w)
    × (x.hypotheses ≡ hs) × (mandatory x.active x.statement ≡ x.hypotheses)).
    seen_given t ≡ given m k.0 k.1 (map seen words) last)
    (λ k.
    let earlier = k.0 in
    let x = k.1 in
    let y = record x { proof = Some own } in
    let none = none_found earlier x words (map seen c.labels_among.result.now) (option_map seen c.first_unnamed.result)
    c.labels_among.ensures (c.first_unnamed.ensures earlier x k.2 k.3) (ap (option_map seen) c.in_default-first_unnamed.is) in
    let tree : IsTree m earlier y c.in-Some-3.tree =
    subst (λ (o : Option ProofTree). MatchOption o (denoted earlier y ≡ None) (IsTree m earlier y)) c.in-Some-3.is
    (c.in_ok-tree.ensures.tree earlier x k.2 (all_enough earlier x.active roles k.3) k.4
    (counted_known earlier x k.5 (map seen words) own proof none) finished) in
    if_ok c.given_by_tree.result
    (λ t told. told
    ∙ told_by_tree m earlier x last own words c.in-Some.first.now c.in-Some.ensures.value proof finished none (Some tree.tree) tree.denotes)
    (c.given_by_tree.ensures m earlier y last tree)))

pub returns : goal.returns
returns g c = λ earlier x frames roles same are.
    let m = places_behind c.args.placed.now in
    let words = c.args.proving.now.cut.proof.now in
    let own = seen_proof c.in-Some-2.proof in
    let last = seen c.args.proving.now.ends in
    let proof : proof_of (map seen words) ≡ Some own = sym c.in_ok-proof.ensures ∙ ap (option_map seen_proof) c.in-Some-2.is in
    let finished = sym c.is_unfinished.ensures ∙ c.if-is_unfinished.false in
    let y = record x { proof = Some own } in
    let none = none_found earlier x words (map seen c.labels_among.result.now) (option_map seen c.first_unnamed.result)
    c.labels_among.ensures (c.first_unnamed.ensures earlier x frames roles) (ap (option_map seen) c.in_default-first_unnamed.is) in
    let no_tree : denoted earlier y ≡ None =
    subst (λ (o : Option ProofTree). MatchOption o (denoted earlier y ≡ None) (IsTree m earlier y)) c.in-None.is
    (c.in_ok-tree.ensures.tree earlier x frames (all_enough earlier x.active (looks_up c.args.roles.now.roles) roles) same
    (counted_known earlier x are (map seen words) own proof none) finished) in
    told_by_tree m earlier x last own words c.in-Some.first.now c.in-Some.ensures.value proof finished none None no_tree
