-- What is left to show of `take_round`: what was gathered is what flags choose.
use Rattle.std.proofs.lemmas.Result.{IfOk-weaker}
use Rattle.gathering.specs.Placed.{map_of, tables_of}
use Rattle.intake.specs.Parts.{IsLongRound, IsLongRoundOf, lists_of}
use Rattle.intake.proofs.Steps.{is_gathered}
use Rattle.intake.proofs.rounds.take_round.Goals as goal

pub returns-clause-taken : goal.returns-clause-taken
returns-clause-taken g c =
    let s = g.D.Declared.scope c.args.declared.now in
    λ w are.
    c.library_of.ensures.taken s w
    (is_gathered s c.args.placed.now.sites.now c.args.placed.now.names.now c.requires.named w c.in_ok-gathered.gathered
    c.args.flags.chosen.now c.args.flags.front.now c.args.flags.long.now are c.requires.sites c.in_ok-gathered.ensures.taken
    c.in_ok-gathered.ensures.told)

pub returns-clause-long : goal.returns-clause-long
returns-clause-long g c =
    let s = g.D.Declared.scope c.args.declared.now in
    let t = c.args.placed.now.sites.now in
    let names = c.args.placed.now.names.now in
    let made = c.in_ok-gathered.gathered.assertions.items in
    IfOk-weaker c.library_of.result (IsLongRound (lists_of t names made))
    (IsLongRoundOf s (map_of t names) (tables_of t names) c.args.flags.chosen.now c.args.flags.front.now c.args.flags.long.now)
    (λ r long choice are. (made, c.in_ok-gathered.ensures.taken choice are, long)) c.library_of.ensures.long

pub returns-clause-refused : goal.returns-clause-refused
returns-clause-refused g c =
    let s = g.D.Declared.scope c.args.declared.now in
    λ w are.
    c.library_of.ensures.refused s w
    (is_gathered s c.args.placed.now.sites.now c.args.placed.now.names.now c.requires.named w c.in_ok-gathered.gathered
    c.args.flags.chosen.now c.args.flags.front.now c.args.flags.long.now are c.requires.sites c.in_ok-gathered.ensures.taken
    c.in_ok-gathered.ensures.told)
