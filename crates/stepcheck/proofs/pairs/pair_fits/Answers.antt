use Rattle.stepcheck.proofs.Apart.{apart-from_all, apart-both, apart-low}
use Rattle.stepcheck.proofs.pairs.pair_fits.Goals as goal

pub returns-then-all_pass : goal.returns-then-all_pass
returns-then-all_pass c =
    let pairs = c.args.thesis.now.pairs in
    let fits = apart-from_all pairs _ _ _ _ c.variables_for-us.ensures c.variables_for-vs.ensures in
    let both = apart-both pairs _ _ (c.all_pass.ensures.0 c.if-all_pass.true) in
    let others = c.all_pass-then-all_pass.ensures in
    (λ t. fits.0 (both.0 (others.0 t)), λ h. others.1 (both.1 (fits.1 h)))

pub returns-else-all_pass : goal.returns-else-all_pass
returns-else-all_pass c =
    let pairs = c.args.thesis.now.pairs in
    let fits = apart-from_all pairs _ _ _ _ c.variables_for-us.ensures c.variables_for-vs.ensures in
    (λ t. cc, λ h. c.all_pass.ensures.1 (apart-low pairs _ _ (fits.1 h)))
