use Rattle.std.proofs.Common.{ℕ, List, Bor, ◌∷◌, ◌++◌, [], Some, option_map, refl, subst, sym}
use Rattle.std.specs.IoError.{error_kind}
use Rattle.outside.specs.Deeds.{moves}
use Rattle.outside.specs.Tried.{IsBegun}
use Rattle.outside.proofs.Trying.{begun_more, begun_permissions, begun_synced, begun_unmoved, does_more, fails_behind, one_fails}
use Rattle.outside.proofs.beside.move_over.Goals as goal

pub returns-in-Err : goal.returns-in-Err
returns-in-Err g c = c.in-Err.ensures c.args.real.now c.args.beside.now c.requires

pub returns-in-Err-fill : goal.returns-in-Err-fill
returns-in-Err-fill g c =
    let real = c.args.real.now in
    let beside = c.args.beside.now in
    let old = option_map (λ (p : Bor (List ℕ)). p.now) c.args.old in
    let (permitted, did, are) = c.in_default.ensures real beside c.requires in
    let (filled, then, (begun, fails)) = c.in-Err-fill.ensures real beside c.requires in (
      permitted ++ filled,
      does_more did then,
      (
        begun_more real beside permitted filled (subst (IsBegun real beside) (sym are) (begun_permissions real beside old)) begun,
        fails_behind _ permitted filled fails,
      ),
    )

pub returns-in-Err-rename : goal.returns-in-Err-rename
returns-in-Err-rename g c =
    let real = c.args.real.now in
    let beside = c.args.beside.now in
    let old = option_map (λ (p : Bor (List ℕ)). p.now) c.args.old in
    let kind = error_kind c.in-Err-rename.error in
    let last = moves beside real (Some kind) ∷ [] in
    let (permitted, did, are) = c.in_default.ensures real beside c.requires in
    let (filled, then, is) = c.in_default-fill.ensures real beside c.requires in (
      permitted ++ (filled ++ last),
      does_more did (does_more then c.in-Err-rename.ensures),
      (
        begun_more real beside permitted (filled ++ last) (subst (IsBegun real beside) (sym are) (begun_permissions real beside old))
            (begun_more real beside filled last (subst (IsBegun real beside) (sym is) (begun_synced real beside c.args.text.now))
            (begun_unmoved real beside kind)),
        fails_behind _ permitted (filled ++ last)
            (fails_behind _ filled last (one_fails _ (moves beside real (Some kind)) kind refl c.trouble_of.ensures)),
      ),
    )
