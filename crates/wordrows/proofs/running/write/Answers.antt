use Rattle.std.proofs.Common.{inl, arith}
use Rattle.wordrows.proofs.Later.{runs_written}
use Rattle.wordrows.proofs.running.write.Goals as goal

pub returns : goal.returns
returns c =
    runs_written c.args.words.now c.args.playing.now c.write.new.self c.args.cell c.args.value c.write.ensures.same c.write.ensures.kept
    (λ is. inl (let e = c.else-named.either in let n = c.requires.named in grind (arith, e, n, is))) c.requires.runs
