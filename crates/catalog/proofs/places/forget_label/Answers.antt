use Rattle.std.proofs.Common.{◌≡◌, false, None, rules, subst, sym}
use Rattle.mmsyntax.proofs.Names.{after_update}
use Rattle.library.specs.Edits.{has}
use Rattle.catalog.specs.Entries.{living}
use Rattle.catalog.specs.Places.{FoundAt}
use Rattle.catalog.proofs.Dotted.{trunks-forgot}
use Rattle.catalog.proofs.Indexes.{index-forgot, removed_fewer, removed_gone, found_some}
use Rattle.catalog.proofs.places.forget_label.Goals as goal

pub returns-then-is_none-clause-indexed : goal.returns-then-is_none-clause-indexed
returns-then-is_none-clause-indexed c =
    let es = c.args.entries.now in
    let none : c.find_label.result ≡ None = search rules in
    let free : has (living es) c.args.label.now ≡ false = subst (FoundAt es c.args.label.now) none c.find_label.ensures in
    index-forgot c.args.places.now c.remove.new.self es c.args.label.now c.requires.indexed free
    (after_update c.args.label.now c.args.places.now c.remove.new.self None c.remove.ensures.updates)

pub returns-then-is_none-clause-fewer : goal.returns-then-is_none-clause-fewer
returns-then-is_none-clause-fewer c =
    removed_fewer c.args.places.now c.remove.new.self c.args.label.now
    (after_update c.args.label.now c.args.places.now c.remove.new.self None c.remove.ensures.updates)

pub returns-then-is_none-clause-gone : goal.returns-then-is_none-clause-gone
returns-then-is_none-clause-gone c =
    λ some. absurd (removed_gone c.args.places.now c.remove.new.self c.args.label.now
    (after_update c.args.label.now c.args.places.now c.remove.new.self None c.remove.ensures.updates) some)

pub returns-else-is_none-clause-gone : goal.returns-else-is_none-clause-gone
returns-else-is_none-clause-gone c =
    λ some. found_some c.args.entries.now c.args.label.now c.find_label.result c.find_label.ensures (sym c.if-is_none.ensures)

pub returns-then-is_none-clause-trunks : goal.returns-then-is_none-clause-trunks
returns-then-is_none-clause-trunks c =
    let w = c.args.label.now in
    trunks-forgot c.args.trunks.now c.forget_trunk.new.trunks c.args.places.now c.remove.new.self w c.requires.trunks
    c.forget_trunk.ensures (after_update w c.args.places.now c.remove.new.self None c.remove.ensures.updates)
