-- What is left to show of `rank_all`.
use Rattle.std.proofs.Common.{◌+◌, ◌++◌, ◌∷◌, [], length, map, refl, subst, Vec, Global}
use Rattle.std.specs.Prelude.{slice_index_or}
use Rattle.std.proofs.lemmas.Option.{slice_get_read}
use Rattle.mmtext.specs.Views.{seen}
use Rattle.mmtext.specs.declared.token.Token.{Token as CodeToken}
use Rattle.expanding.specs.Refusals.{IsUnranked}
use Rattle.expanding.specs.Ranking.{IsRanked}
use Rattle.editscripts.specs.Expanded.{RankedScript}
use Rattle.checking.specs.Checks.{Bytes}
use Rattle.editscripts.specs.Refusals.{IsCrowdedBy, IsCrowdedLine}
use Rattle.expanding.specs.Views.{seen_scripts}
use Rattle.editscripts.specs.Views.{seen_texts}
use Rattle.editscripts.proofs.Expanding.{get_seen, ranked_next, laid_next}
use Rattle.editscripts.proofs.Lines.{told_more}
use Rattle.editscripts.proofs.expanded.rank_all.Goals as goal

pub returns-in-Err-clause-refused : goal.returns-in-Err-clause-refused
returns-in-Err-clause-refused g c =
    let s = g.D.Declared.scope c.args.declared.now in
    let flags = c.args.flags.now in
    let scripts = c.args.scripts.now in
    let paths = map (λ p. p.now) c.args.paths.now in
    let k = c.loop-place.place in
    let words = c.index-scripts-place.result in
    let at = slice_get_read scripts (length scripts) k words refl c.loop-place-test.true c.index-scripts-place.is in
    let kept = c.loop-place.invariant in
    let gaps = kept.1 in
    let ts = map seen words.items in
    let unranked =
    subst (λ us. IsUnranked s flags gaps (map seen us) c.in-Err.why) c.as_slice.ensures.value
    (c.in-Err.ensures.crowded flags gaps kept.4 c.requires) in
    told_more (IsCrowdedLine c.path_at-path.result.now c.text_at-text.result.now s flags gaps ts)
    (IsCrowdedBy paths s (seen_texts c.args.texts.now) flags (seen_scripts scripts))
    (λ line h. record {
      script = k;
      before = kept.0;
      gaps = gaps;
      are_ranked = kept.3;
      ts = ts;
      at = get_seen (λ (us : Vec CodeToken Global). map seen us.items) scripts k words at;
      cause =
          subst (λ (text : Bytes). IsCrowdedLine (slice_index_or paths (k + 1) []) text s flags gaps ts line) c.text_at-text.ensures
          (subst (λ (path : Bytes). IsCrowdedLine path c.text_at-text.result.now s flags gaps ts line) c.path_at-path.ensures h);
    })
    c.in_ok-crowded-in-Err.field-0 (c.in_ok-crowded-in-Err.ensures s flags gaps ts unranked)

pub loop-place-preserved : goal.loop-place-preserved
loop-place-preserved g c =
    let s = g.D.Declared.scope c.args.declared.now in
    let flags = c.args.flags.now in
    let scripts = c.args.scripts.now in
    let k = c.loop-place.place in
    let words = c.index-scripts-place.result in
    let at = slice_get_read scripts (length scripts) k words refl c.loop-place-test.true c.index-scripts-place.is in
    let kept = c.loop-place.invariant in
    let gaps = kept.1 in
    let laid = c.in-Ok.laid in
    let now = c.in-Ok.ensures.ranked flags gaps kept.4 c.requires in
    let out : RankedScript = record { words = now.0; beginnings = laid.beginnings.items } in
    let one = subst (λ ts. IsRanked s flags gaps (map seen ts) now.0 now.1 laid.beginnings.items) c.as_slice.ensures.value now.4 in (
      kept.0 ++ out ∷ [],
      gaps ++ now.1,
      laid_next kept.0 c.loop-place.all.items _ out laid kept.2 (record { laid = now.2; beginnings = refl })
          c.in_ok-push-in-Ok.ensures.items,
      ranked_next s flags (seen_scripts scripts) k (map seen words.items) kept.0 out gaps now.1
          (get_seen (λ (ts : Vec CodeToken Global). map seen ts.items) scripts k words at) kept.3 one,
      now.3,
    )
