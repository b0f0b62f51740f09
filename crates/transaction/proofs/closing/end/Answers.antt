use Rattle.std.proofs.Common.{◌≡◌, List, sym, ap, subst}
use Rattle.std.specs.Prelude.{All}
use Rattle.lending.specs.Lent.{Pass}
use Rattle.transaction.specs.Members.{Home}
use Rattle.transaction.proofs.Taken.{all_seated}
use Rattle.transaction.proofs.closing.end.Goals as goal

pub end_words-requires : goal.end_words-requires
end_words-requires c =
    let table = c.into_parts-prelude.result.2.table.shared.table_id in
    let same : c.args.library.words.table ≡ table = ap (λ (h : Home). h.words.table) (sym c.into_parts-prelude.ensures.is) in
    subst (λ (ps : List Pass). All (λ (k : Pass). k.home.table ≡ table) ps) (sym c.in_ok-passes.ensures.passes_are)
    (all_seated c.args.library table c.args.sessions.items same c.requires)
