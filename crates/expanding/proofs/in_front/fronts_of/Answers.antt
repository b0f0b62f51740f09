-- What is left to show of `fronts_of`.
use Rattle.std.proofs.Common.{◌≡◌, ◌+◌, ◌++◌, length, drop, sym, subst}
use Rattle.mmtext.specs.Text.{tokens_from}
use Rattle.mmtext.specs.Views.{seen}
use Rattle.expanding.specs.Descriptions.{front_at, fronts, fronts_behind, opened_at}
use Rattle.expanding.proofs.Fronting.{fronts_next}
use Rattle.expanding.proofs.in_front.fronts_of.Goals as goal

pub loop-token-preserved : goal.loop-token-preserved
loop-token-preserved c =
    let text = c.args.text.now in
    let token = c.in-Some.token in
    let t = seen token in
    let so_far = c.loop-token.invariant.put in
    let end = token.place + length token.text.now in
    let rest = tokens_from end (drop end text) in
    let opened = c.loop-token.opened in
    let closed = c.loop-token.closed in
    let done = so_far.0 ++ front_at text opened closed t in
    record {
      within = c.in-Some.ensures.within;
      put = (
        done,
        c.in_ok-put_front.ensures so_far.0 so_far.1,
        subst (λ o. fronts text ≡ done ++ fronts_behind text o c.closed_at-closed.result rest) (sym c.opened_at-opened.ensures)
            (subst (λ o. fronts text ≡ done ++ fronts_behind text (opened_at opened t) o rest) (sym c.closed_at-closed.ensures)
            (fronts_next text opened closed _ rest t (fronts text) so_far.0 c.in-Some.ensures.some so_far.2)),
      );
    }
