use Rattle.std.proofs.Common.{◌≡◌, Some, length, rules, subst}
use Rattle.mmsyntax.proofs.Names.{after_update}
use Rattle.library.specs.Library.{label_of}
use Rattle.catalog.specs.Places.{Puts}
use Rattle.catalog.specs.Trunks.{IsEntered}
use Rattle.catalog.proofs.Dotted.{trunks-put}
use Rattle.catalog.proofs.Indexes.{index-pushed}
use Rattle.catalog.proofs.Undoing.{only-pushed}
use Rattle.catalog.proofs.places.add_entry.Goals as goal

pub returns-clause-indexed : goal.returns-clause-indexed
returns-clause-indexed c =
    let m = c.args.places.now in
    let puts : Puts m c.in_ok-key.key.items c.len.result c.insert.new.self =
    after_update c.in_ok-key.key.items m c.insert.new.self (Some c.len.result) c.in_ok-insert.ensures.updates in
    let own : c.in_ok-key.key.items ≡ label_of c.args.entry = search rules in
    let last : c.len.result ≡ length c.args.entries.now.items = search rules in
    rw c.in_ok-push.ensures.items
    (index-pushed m c.insert.new.self c.args.entries.now.items c.args.entry c.requires.indexed c.requires.free (subst
    (λ k. Puts m (label_of c.args.entry) k c.insert.new.self) last (subst (λ w. Puts m w c.len.result c.insert.new.self) own puts)))

pub returns-clause-only : goal.returns-clause-only
returns-clause-only c =
    let m = c.args.places.now in
    let puts : Puts m c.in_ok-key.key.items c.len.result c.insert.new.self =
    after_update c.in_ok-key.key.items m c.insert.new.self (Some c.len.result) c.in_ok-insert.ensures.updates in
    let own : c.in_ok-key.key.items ≡ label_of c.args.entry = search rules in
    rw c.in_ok-push.ensures.items
    (only-pushed m c.insert.new.self c.args.entries.now.items c.args.entry c.len.result (subst
    (λ w. Puts m w c.len.result c.insert.new.self) own puts) c.requires.only)

pub returns-clause-trunks : goal.returns-clause-trunks
returns-clause-trunks c =
    let m = c.args.places.now in
    let n = c.insert.new.self in
    let w = label_of c.args.entry in
    let puts : Puts m c.in_ok-key.key.items c.len.result n =
    after_update c.in_ok-key.key.items m n (Some c.len.result) c.in_ok-insert.ensures.updates in
    let own : c.in_ok-key.key.items ≡ w = search rules in
    let grown = c.in_ok-enter_trunk.ensures in
    trunks-put c.args.trunks.now c.enter_trunk.new.trunks m n w c.len.result c.requires.trunks grown.kept
    (subst (IsEntered c.enter_trunk.new.trunks) c.as_slice-label.ensures grown.entered)
    (subst (λ l. Puts m l c.len.result n) own puts)
