-- The laws are those of every language, by the grammar of scripts.
use Rattle.mmtext.proofs.TextLaws.{has_one_fault, spells_one, spells_without_fault, fails_by_length, spells_or_fails}
use Rattle.scripts.specs.Scripts.{SpellsScript}
use Rattle.scripts.specs.ScriptFaults.{script_language}
use Rattle.scripts.proofs.ScriptLaws.{script_grammar}
use Rattle.scripts.proofs.laws.one_script_or_fault.Goals as goal

pub returns-clause-script : goal.returns-clause-script
returns-clause-script c = λ t. spells_one (script_language t) (SpellsScript t) (script_grammar t)

pub returns-clause-fault : goal.returns-clause-fault
returns-clause-fault c = λ t. has_one_fault (script_language t)

pub returns-clause-faultless : goal.returns-clause-faultless
returns-clause-faultless c = λ t. spells_without_fault (script_language t) (SpellsScript t) (script_grammar t)

pub returns-clause-faulty : goal.returns-clause-faulty
returns-clause-faulty c = λ t. fails_by_length (script_language t) (SpellsScript t) (script_grammar t)

pub returns-clause-either : goal.returns-clause-either
returns-clause-either c = λ t. spells_or_fails (script_language t) (SpellsScript t) (script_grammar t)

pub returns-clause-said : goal.returns-clause-said
returns-clause-said c = script_grammar
