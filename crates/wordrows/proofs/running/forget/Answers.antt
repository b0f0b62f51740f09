use Rattle.std.proofs.Common.{ap}
use Rattle.wordrows.proofs.Later.{runs_later, later_forgotten}
use Rattle.wordrows.proofs.running.forget.Goals as goal

pub returns : goal.returns
returns c =
    let same = c.forget.ensures.same in
    runs_later c.args.words.now c.args.playing.now c.forget.new.self (ap (λ x. x.known.home) same) (ap (λ x. x.mode) same)
    (later_forgotten c.args.playing.now.run c.forget.new.self same c.forget.ensures.forgets) c.requires
