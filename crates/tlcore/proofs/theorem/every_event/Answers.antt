-- The clauses are the laws of single events.
use Rattle.tlcore.proofs.Halves.{halves}
use Rattle.tlcore.proofs.Laws.{begin_leads, check_leads, draw_leads, idle_seat_keeps, load_leads, look_leads, one_stays}
use Rattle.tlcore.proofs.Laws.{release_failed_leads, release_leads, release_void_leads, relook_leads, store_leads, take_leads}
use Rattle.tlcore.proofs.theorem.every_event.Goals as goal

pub returns-clause-begin : goal.returns-clause-begin
returns-clause-begin c = begin_leads

pub returns-clause-look : goal.returns-clause-look
returns-clause-look c = look_leads

pub returns-clause-load : goal.returns-clause-load
returns-clause-load c = load_leads

pub returns-clause-relook : goal.returns-clause-relook
returns-clause-relook c = relook_leads

pub returns-clause-take : goal.returns-clause-take
returns-clause-take c = take_leads

pub returns-clause-draw : goal.returns-clause-draw
returns-clause-draw c = draw_leads

pub returns-clause-check : goal.returns-clause-check
returns-clause-check c = check_leads

pub returns-clause-store : goal.returns-clause-store
returns-clause-store c = store_leads

pub returns-clause-release : goal.returns-clause-release
returns-clause-release c = release_leads

pub returns-clause-release_failed : goal.returns-clause-release_failed
returns-clause-release_failed c = release_failed_leads

pub returns-clause-release_void : goal.returns-clause-release_void
returns-clause-release_void c = release_void_leads

pub returns-clause-idle_seat : goal.returns-clause-idle_seat
returns-clause-idle_seat c = idle_seat_keeps

pub returns-clause-halves : goal.returns-clause-halves
returns-clause-halves c = halves

pub returns-clause-one_stays : goal.returns-clause-one_stays
returns-clause-one_stays c = one_stays
