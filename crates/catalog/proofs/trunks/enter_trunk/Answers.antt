use Rattle.std.proofs.Common.{Some, sym, refl, ap, subst, ◌∙◌}
use Rattle.std.specs.Option.{IsSome}
use Rattle.std.proofs.lemmas.Result.{on_ok_weaker}
use Rattle.mmsyntax.proofs.Names.{after_update}
use Rattle.catalog.specs.Trunks.{Trunks}
use Rattle.catalog.proofs.Dotted.{Relists, listed-same, listed-relisted, listed-others, no_list, whole-entered, relisted-entered}
use Rattle.catalog.proofs.trunks.enter_trunk.Goals as goal

pub returns-then-front-label-clause-entered : goal.returns-then-front-label-clause-entered
returns-then-front-label-clause-entered c =
    whole-entered c.args.trunks.now c.args.label.now c.trunk-front.result.now c.trunk-front.ensures c.if-front-label.true

pub returns-in-Some-clause-kept : goal.returns-in-Some-clause-kept
returns-in-Some-clause-kept c =
    let m = c.args.trunks.now in
    let front = c.trunk-front.result.now in
    let new = c.enter_label.new.list in
    let n = c.get_mut.follows.lender new in
    let at = sym c.in-Some.ensures.value in
    let there = subst (λ o. IsSome o) (sym at) refl in
    let relists = after_update front m n (Some new) ((c.get_mut.follows.holds new).3 there) in
    record { keeps = λ l w h. listed-relisted m n front l w c.in-Some.list.now new relists at (c.enter_label.ensures.kept w) h }

pub returns-in-Some-clause-entered : goal.returns-in-Some-clause-entered
returns-in-Some-clause-entered c =
    let m = c.args.trunks.now in
    let front = c.trunk-front.result.now in
    let new = c.enter_label.new.list in
    let n = c.get_mut.follows.lender new in
    let there = subst (λ o. IsSome o) c.in-Some.ensures.value refl in
    let relists = after_update front m n (Some new) ((c.get_mut.follows.holds new).3 there) in
    on_ok_weaker c.enter_label.result (λ member. relisted-entered m n c.args.label.now front new relists c.trunk-front.ensures member)
    c.enter_label.ensures.entered

pub returns-in_err-insert-clause-kept : goal.returns-in_err-insert-clause-kept
returns-in_err-insert-clause-kept c =
    listed-same c.args.trunks.now c.insert.new.self
    (c.in_err-insert.ensures.err ∙ ap (λ (k : Trunks). k.entries) c.get_mut.follows.holds-at-none)

pub returns-clause-kept : goal.returns-clause-kept
returns-clause-kept c =
    let m = c.args.trunks.now in
    let n = c.insert.new.self in
    let front = c.trunk-front.result.now in
    let list = c.in_ok-list.list in
    let by_key = after_update c.in_ok-key.key.items c.get_mut.follows.lender-at-none n (Some list) c.in_ok-insert.ensures.updates in
    let relists = subst (λ k. Relists m k (Some list) n) c.in_ok-key.ensures.items
    (subst (λ (k : Trunks). Relists k c.in_ok-key.key.items (Some list) n) c.get_mut.follows.holds-at-none by_key) in
    listed-others m n front (Some list) relists (λ w h. no_list m front w c.in_default.ensures.value h)

pub returns-clause-entered : goal.returns-clause-entered
returns-clause-entered c =
    let m = c.args.trunks.now in
    let n = c.insert.new.self in
    let front = c.trunk-front.result.now in
    let list = c.in_ok-list.list in
    let by_key = after_update c.in_ok-key.key.items c.get_mut.follows.lender-at-none n (Some list) c.in_ok-insert.ensures.updates in
    let relists = subst (λ k. Relists m k (Some list) n) c.in_ok-key.ensures.items
    (subst (λ (k : Trunks). Relists k c.in_ok-key.key.items (Some list) n) c.get_mut.follows.holds-at-none by_key) in
    relisted-entered m n c.args.label.now front list relists c.trunk-front.ensures c.in_ok-list.ensures
