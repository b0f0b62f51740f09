use Rattle.tlwords.proofs.Events.{clock_loads, looks_are, loads_are, relooks_are, takes_are, draws_are, checks_are, stores_are}
use Rattle.tlwords.proofs.Events.{releases_are}
use Rattle.tlwords.proofs.laws.running_steps.Goals as goal

pub returns-clause-clock_load : goal.returns-clause-clock_load
returns-clause-clock_load g c = clock_loads g.L.Law.terms

pub returns-clause-look : goal.returns-clause-look
returns-clause-look g c = looks_are g.L.Law.terms

pub returns-clause-load : goal.returns-clause-load
returns-clause-load g c = loads_are g.L.Law.terms

pub returns-clause-second_look : goal.returns-clause-second_look
returns-clause-second_look g c = relooks_are g.L.Law.terms

pub returns-clause-take : goal.returns-clause-take
returns-clause-take g c = takes_are g.L.Law.terms

pub returns-clause-draw : goal.returns-clause-draw
returns-clause-draw g c = draws_are g.L.Law.terms

pub returns-clause-check : goal.returns-clause-check
returns-clause-check g c = checks_are g.L.Law.terms

pub returns-clause-store : goal.returns-clause-store
returns-clause-store g c = stores_are g.L.Law.terms

pub returns-clause-release : goal.returns-clause-release
returns-clause-release g c = releases_are g.L.Law.terms
