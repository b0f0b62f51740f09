use Rattle.std.proofs.Common.{◌≡◌, ℕ, eqb, ◌&&◌, ap}
use Rattle.std.specs.Bool.{Decides}
use Rattle.std.proofs.lemmas.Bool.Decides.{Decides-and, Decides-eqb}
use Rattle.std.proofs.lemmas.Slice.Eq.{slice_eq-Decides}
use Rattle.history.proofs.same.same_pairs.Goals as goal

pair_decides : (a b : ℕ × ℕ) → Decides (eqb a.0 b.0 && eqb a.1 b.1) (a ≡ b)
pair_decides a b =
    let d = Decides-and _ _ (Decides-eqb a.0 b.0) (Decides-eqb a.1 b.1) in
    (λ t. let e = d.0 t in λ i. (e.0 i, e.1 i), λ e. d.1 (ap (λ p. p.0) e, ap (λ p. p.1) e))

pub returns : goal.returns
returns c = slice_eq-Decides pair_decides c.args.a.now c.args.b.now c.eq.result c.eq.ensures
