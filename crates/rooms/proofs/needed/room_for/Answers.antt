use Rattle.std.proofs.Common.{arith, ap}
use Rattle.plaincells.specs.Measures.{all_bodies_length}
use Rattle.rooms.specs.Rooms.{staged_words}
use Rattle.rooms.proofs.needed.room_for.Goals as goal

pub returns-clause-room : goal.returns-clause-room
returns-clause-room c =
    let db = c.args.db.now in
    let scripts = c.args.scripts.now in
    let bodies = ap all_bodies_length c.assertions.ensures.value in
    let staged = ap (λ n. staged_words n scripts) c.longest_in-longest.ensures in
    omega (arith, bodies, c.behind_assertions-left.ensures, staged, c.behind_scripts-once.ensures, c.behind_scripts.ensures)
