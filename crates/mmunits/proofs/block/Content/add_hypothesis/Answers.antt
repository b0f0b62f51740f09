-- What is left to show of `add_hypothesis`.
use Rattle.std.proofs.Common.{◌<◌, length, sym, subst, rules}
use Rattle.mmsyntax.specs.Blocks.{Block}
use Rattle.mmunits.proofs.BlockPlaces.{found_too}
use Rattle.mmunits.proofs.block.Content.add_hypothesis.Goals as goal

pub invariant_of-self-in-Ok : goal.invariant_of-self-in-Ok
invariant_of-self-in-Ok c =
    found_too c.self.inside.places c.put_if_none.new.map c.self.inside.hyps.items c.push.new.self.items
    (record { label = c.args.label.now; expression = c.args.expression }) _ c.self.invariant
    (subst (λ (b : Block). length b.hyps < 1000) (sym c.self.view_is) c.requires) (search rules) (search rules)
    c.in-Ok.ensures.put
