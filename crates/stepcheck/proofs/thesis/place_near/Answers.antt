use Rattle.std.proofs.Common.{◌-◌, take, drop, refl}
use Rattle.derivation.proofs.Lookups.{found-near}
use Rattle.stepcheck.proofs.thesis.place_near.Goals as goal

pub returns-in-Ok : goal.returns-in-Ok
returns-in-Ok c =
    let ps = c.args.pairs.now in
    let n = c.min-end.result - c.args.near in
    found-near ps (take n (drop c.args.near ps)) c.args.near n c.in-Ok.i c.args.pair refl c.in-Ok.ensures.bound c.in-Ok.ensures.ok
