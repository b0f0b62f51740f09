use Rattle.std.proofs.Common.{◌≡◌, None, length, rules}
use Rattle.mmsyntax.proofs.Names.{after_update}
use Rattle.catalog.proofs.Dotted.{listed-others, empty_list}
use Rattle.catalog.proofs.trunks.drop_empty.Goals as goal

pub returns-then-is_empty : goal.returns-then-is_empty
returns-then-is_empty c =
    let m = c.args.trunks.now in
    let n = c.remove.new.self in
    let front = c.args.front.now in
    let empty : length c.in-Some.list.now.items ≡ 0 = search rules in
    listed-others m n front None (after_update front m n None c.remove.ensures.updates)
    (λ w h. empty_list m front w c.in-Some.list.now c.in-Some.ensures.value empty h)
