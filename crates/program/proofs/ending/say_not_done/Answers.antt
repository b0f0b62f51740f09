use Rattle.program.proofs.ending.say_not_done.Goals as goal

pub returns-in-Unkeyed : goal.returns-in-Unkeyed
returns-in-Unkeyed g c = rw c.in-Unkeyed.is c.say.ensures

pub returns-in-NoMemory : goal.returns-in-NoMemory
returns-in-NoMemory g c = rw c.in-NoMemory.is c.say-in-NoMemory.ensures
