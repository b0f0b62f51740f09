-- What is left to show of `put`.
use Rattle.std.proofs.Common.{◌≡◌, ◌∙◌, subst, sym, ap}
use Rattle.mmsyntax.specs.Blocks.{with_pair}
use Rattle.mmsyntax.proofs.Options.{at_any_result}
use Rattle.mmunits.specs.StandingPairs.{StandAmong}
use Rattle.mmunits.proofs.BlockPlaces.{pair_put}
use Rattle.mmunits.proofs.PairsAgain.{put_stands, still_stand}
use Rattle.mmunits.proofs.pair_set.PairSet.put.Goals as goal

pub invariant_of-self-2 : goal.invariant_of-self-2
invariant_of-self-2 c =
    let ps = c.self.inside.pairs.keys in
    let put : c.insert.new.self.keys ≡ with_pair c.args.pair ps = c.in_ok-insert.ensures.keys ∙ pair_put c.args.pair ps in
    subst (λ qs. StandAmong qs c.self.inside.cells.items) (sym put) (still_stand c.args.pair ps c.self.inside.cells.items c.self.invariant)

pub note-requires : goal.note-requires
note-requires c =
    let ps = c.self.inside.pairs.keys in
    let put : c.insert.new.self.keys ≡ with_pair c.args.pair ps = c.in_ok-insert.ensures.keys ∙ pair_put c.args.pair ps in
    subst (λ qs. with_pair c.args.pair qs ≡ qs) (sym put) (put_stands c.args.pair ps)

pub returns : goal.returns
returns c =
    let ps = c.self.inside.pairs.keys in
    let put : c.insert.new.self.keys ≡ with_pair c.args.pair ps = c.in_ok-insert.ensures.keys ∙ pair_put c.args.pair ps in
    at_any_result c.note.result (c.note.ensures ∙ put ∙ ap (with_pair c.args.pair) c.self.view_is)
