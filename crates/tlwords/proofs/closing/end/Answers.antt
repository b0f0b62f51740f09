use Rattle.std.proofs.Common.{◌≡◌, ◌∷◌, [], All, subst}
use Rattle.tlwords.proofs.Gathers.{all_front}
use Rattle.tlwords.proofs.closing.end.Goals as goal

pub end_with-requires-clause-passes : goal.end_with-requires-clause-passes
end_with-requires-clause-passes g c =
    rw (c.into_table-table.ensures) (all_front (λ p. p.home.table ≡ c.args.words.table.shared.table_id) c.pop.new.self.items (c.in-Some.last
    ∷ [])
    (subst (λ ps. All (λ p. p.home.table ≡ c.args.words.table.shared.table_id) ps) c.in-Some.ensures.items c.requires))
