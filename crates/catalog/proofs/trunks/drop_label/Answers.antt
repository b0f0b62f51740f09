use Rattle.std.proofs.Common.{rules, ap, ◌∙◌}
use mathlib.Core.Bool.{not}
use Rattle.std.specs.Str.{bytes_eq}
use Rattle.std.proofs.lemmas.Fn.{filter_same}
use Rattle.catalog.specs.Trunks.{lists}
use Rattle.catalog.proofs.Dotted.{lists-but}
use Rattle.catalog.proofs.trunks.drop_label.Goals as goal

pub returns : goal.returns
returns c = λ w other h.
    let label = c.args.label.now in
    let left = filter_same _ (λ k. not (bytes_eq k.items label)) _ (λ k b f' told. (search rules, search rules)) c.args.list.now.items
    c.retain.new.self.items c.retain.ensures.filtered in
    ap (λ l. lists l w) left ∙ lists-but c.args.list.now.items label w other h
