use Rattle.std.proofs.Common.{◌∷◌, [], None, Some, inl, inr, refl, subst, sym}
use Rattle.std.specs.IoError.{error_kind}
use Rattle.outside.specs.Deeds.{cuts, fills}
use Rattle.outside.specs.Troubles.{IsTroubleOf}
use Rattle.outside.proofs.Trying.{does_more}
use Rattle.outside.proofs.beside.cut_over.Goals as goal

pub returns-in-Err : goal.returns-in-Err
returns-in-Err g c =
    let kind = error_kind c.in-Err.error in (
      cuts c.args.path.now (Some kind) ∷ [],
      c.in-Err.ensures.does,
      (
        c.not_written.ensures.none,
        (kind, inl refl, subst (IsTroubleOf kind) (sym c.not_written.ensures.why) c.trouble_of.ensures),
      ),
    )

pub returns : goal.returns
returns g c =
    let path = c.args.path.now in
    let kind = error_kind c.in-Err-fill.error in (
      cuts path None ∷ (fills path c.args.text.now (Some kind) ∷ []),
      does_more c.in-Ok.ensures.does (c.in-Err-fill.ensures.does path c.in-Ok.ensures.is_at),
      (
        c.not_written-in-Err-fill.ensures.none,
        (kind, inr refl, subst (IsTroubleOf kind) (sym c.not_written-in-Err-fill.ensures.why) c.trouble_of-in-Err-fill.ensures),
      ),
    )
