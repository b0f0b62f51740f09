use Rattle.std.proofs.Common.{◌∷◌, [], None, Some, inr, refl}
use Rattle.std.specs.IoError.{error_kind}
use Rattle.outside.specs.Deeds.{fills, syncs}
use Rattle.outside.proofs.Trying.{begun_fills, begun_more, begun_syncs, does_more, one_fails}
use Rattle.outside.proofs.beside.fill.Goals as goal

pub returns-in-Err : goal.returns-in-Err
returns-in-Err g c = λ real beside at.
    let kind = error_kind c.in-Err.error in
    let text = c.args.text.now in (
      fills beside text (Some kind) ∷ [],
      c.in-Err.ensures.does beside at,
      (begun_fills real beside text (Some kind), one_fails _ (fills beside text (Some kind)) kind refl c.trouble_of.ensures),
    )

pub returns-in-Err-sync : goal.returns-in-Err-sync
returns-in-Err-sync g c = λ real beside at.
    let filled = c.in_default.ensures.does beside at in
    let synced = c.in-Err-sync.ensures beside (c.in_default.ensures.stays beside at) in
    let kind = error_kind c.in-Err-sync.error in
    let text = c.args.text.now in (
      fills beside text None ∷ (syncs beside (Some kind) ∷ []),
      does_more filled synced,
      (
        begun_more real beside (fills beside text None ∷ []) (syncs beside (Some kind) ∷ []) (begun_fills real beside text None)
            (begun_syncs real beside (Some kind)),
        inr (one_fails _ (syncs beside (Some kind)) kind refl c.trouble_of-in-Err-sync.ensures),
      ),
    )
