-- The clauses are the theorems over schedules.
use Rattle.tlcore.proofs.Causes.{schedule_causes}
use Rattle.tlcore.proofs.Events.{event_keeps}
use Rattle.tlcore.proofs.Halves.{schedule_halves}
use Rattle.tlcore.proofs.Lockers.{holders_have_locked}
use Rattle.tlcore.proofs.Opacity.{schedule_done, schedule_grows, schedule_reads, schedule_stores, schedule_words, start_ok}
use Rattle.tlcore.proofs.theorem.every_schedule.Goals as goal

pub returns-clause-opening : goal.returns-clause-opening
returns-clause-opening c = start_ok

pub returns-clause-each_event : goal.returns-clause-each_event
returns-clause-each_event c = event_keeps

pub returns-clause-history_grows : goal.returns-clause-history_grows
returns-clause-history_grows c = schedule_grows

pub returns-clause-reads_are_one : goal.returns-clause-reads_are_one
returns-clause-reads_are_one c = schedule_reads

pub returns-clause-done_are_one : goal.returns-clause-done_are_one
returns-clause-done_are_one c = schedule_done

pub returns-clause-words_show : goal.returns-clause-words_show
returns-clause-words_show c = schedule_words

pub returns-clause-stores_are_done : goal.returns-clause-stores_are_done
returns-clause-stores_are_done c = schedule_stores

pub returns-clause-halves_were_written : goal.returns-clause-halves_were_written
returns-clause-halves_were_written c = schedule_halves

pub returns-clause-conflicts_have_cause : goal.returns-clause-conflicts_have_cause
returns-clause-conflicts_have_cause c = schedule_causes

pub returns-clause-holders_have_locked : goal.returns-clause-holders_have_locked
returns-clause-holders_have_locked c = holders_have_locked
