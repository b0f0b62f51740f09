use Rattle.std.proofs.Common.{rules, ◌≡◌, get_or, map, ap, ◌∙◌}
use Rattle.std.proofs.lemmas.List.{get_or-map}
use Rattle.bodystore.specs.Bodies.{stored_step}
use Rattle.cells.proofs.NamedWords.{word_before}
use Rattle.cells.proofs.reading.proofs.word_again.Goals as goal

pub returns-then-stored-hint-clause-ok : goal.returns-then-stored-hint-clause-ok
returns-then-stored-hint-clause-ok g c =
    let cited = c.args.cited.now.items in
    let words = c.args.guess.words.now in
    let k = c.args.guess.place in
    let step = stored_step c.args.word in
    let same : get_or c.args.guess.stored.now k 0 ≡ c.args.word = search rules in
    let there : get_or (map stored_step c.args.guess.stored.now) k step ≡ step =
    get_or-map stored_step c.args.guess.stored.now k 0 step c.if-hint-stored.true ∙ ap stored_step same in
    word_before (g.C.Cells.sight c.args.cells.now) c.args.slots (map stored_step c.args.guess.stored.now) cited words k step
    c.requires.steps c.if-hint-words.true there
