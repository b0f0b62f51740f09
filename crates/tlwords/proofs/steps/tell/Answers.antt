use Rattle.std.proofs.Common.{arith, ap, ◌∙◌}
use Rattle.tlwords.proofs.Keeps.{moves_of}
use Rattle.tlwords.proofs.OpenSteps.{notes, joins}
use Rattle.tlwords.proofs.steps.tell.Goals as goal

pub split_seat-token-requires : goal.split_seat-token-requires
split_seat-token-requires g c = (c.requires.table.1, let s = c.args.words.now.sized in omega arith, notes g.L.Law.terms _ _ _ _ _ _)

pub join_seat-requires : goal.join_seat-requires
join_seat-requires g c = let e = c.split_seat-token.ensures in (
  c.requires.table.0,
  e.3 ∙ c.requires.table.1,
  ap (λ m. m.1) e.4,
  (let s = c.args.words.now.sized in omega arith),
  joins g.L.Law.terms _ _ _ _ _ _ _ _ (ap (λ m. m.0.seat) e.4) (ap (λ m. m.0.rights) e.4) (ap (λ m. m.0.drawn) e.4)
      (ap (λ m. m.0.staging) e.4)
      (ap (λ m. moves_of m.0) e.4),
)
