use Rattle.std.proofs.Common.{◌<◌, ◌++◌, ◌∷◌, [], arith, false, length, true}
use Rattle.outside.specs.Events.{compares}
use Rattle.conduct.proofs.Asked.{asked_found, asked_more}
use Rattle.conduct.proofs.Behind.{adds_more}
use Rattle.conduct.proofs.comparing.first_same.Goals as goal

pub returns-then-is_one_file : goal.returns-then-is_one_file
returns-then-is_one_file g c = λ line.
    let (es, did, asked) = c.loop-other.invariant in
    let within : c.loop-other.other-index < length c.args.others.now = omega (arith, c.loop-other-test.true) in (
      es ++ compares c.args.one.now _ true ∷ [],
      adds_more did c.if-is_one_file.ensures.told,
      asked_found c.args.one.now line c.args.others.now c.loop-other.other-index _ es within (asked line),
    )

pub loop-other-preserved : goal.loop-other-preserved
loop-other-preserved g c =
    let (es, did, asked) = c.loop-other.invariant in
    let within : c.loop-other.other-index < length c.args.others.now = omega (arith, c.loop-other-test.true) in (
      es ++ compares c.args.one.now _ false ∷ [],
      adds_more did c.if-is_one_file.ensures.told,
      λ line. asked_more c.args.one.now line c.args.others.now c.loop-other.other-index _ es within (asked line)
          (λ e. let same = c.if-is_one_file.ensures.same e in absurd cc),
    )
