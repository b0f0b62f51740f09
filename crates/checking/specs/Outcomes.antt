-- The library of the program.
use Rattle.mmsyntax.specs.Tables.{Contents}
use Rattle.library.specs.Library.{Setting, setting_over}
use Rattle.mmsyntax.specs.declared.limits.TheConstants.{MOST_ASSERTIONS}

-- how a library of the program stands: over the prelude of its database, with 4,096 slots
abbrev pub program_setting : Contents → Setting
program_setting db = setting_over db MOST_ASSERTIONS
