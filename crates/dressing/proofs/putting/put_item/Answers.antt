-- What is left to show of `put_item`.
use Rattle.std.proofs.Common.{◌∙◌, ◌++◌, sym, ap}
use Rattle.std.specs.Prelude.{slice_range}
use Rattle.std.specs.Option.{option_map}
use Rattle.std.proofs.lemmas.Result.{on_ok_weaker}
use Rattle.dressing.proofs.Bytes.{item_bytes, put_ok}
use Rattle.dressing.proofs.Dressed.{as_it_stands, item_put}
use Rattle.dressing.proofs.putting.put_item.Goals as goal

pub returns-then-is_nothing : goal.returns-then-is_nothing
returns-then-is_nothing c =
    let d = c.args.dressing.now in
    let text = c.args.text.now in
    let old = c.args.out.now.items in
    let a = c.attire_of-attire.ensures in
    on_ok_weaker c.extend_from_slice.result
    (λ e is.
    as_it_stands d.proofs d.labels d.descriptions is.item (c.requires.keeps c.if-dressing.true)
    (sym (a.comment is.item is.kind) ∙ ap (option_map (λ c. c.now)) (c.is_nothing.ensures.comment c.if-is_nothing.true))
    (sym (a.proof is.item is.kind) ∙ ap (option_map (λ p. p.now)) (c.is_nothing.ensures.proof c.if-is_nothing.true)) old
    c.extend_from_slice.new.self.items
    (e ∙ ap (λ bs. old ++ bs) (item_bytes text c.args.from c.args.item.end is.item is.stands)))
    (put_ok c.extend_from_slice.result c.extend_from_slice.new.self.items (old ++ slice_range text c.args.from c.args.item.end) old
    c.extend_from_slice.ensures.items)

pub returns : goal.returns
returns c =
    let d = c.args.dressing.now in
    let a = c.attire_of-attire.result in
    on_ok_weaker c.put_words.result
    (λ put is.
    item_put d.proofs d.labels d.descriptions is.item c.args.item.kind is.kind (option_map (λ c. c.now) a.comment)
    (option_map (λ p. p.now) a.proof) (c.attire_of-attire.ensures.comment is.item is.kind)
    (c.attire_of-attire.ensures.proof is.item is.kind) c.args.out.now.items c.put_words.new.out.items (put is.item is.stands))
    c.put_words.ensures
