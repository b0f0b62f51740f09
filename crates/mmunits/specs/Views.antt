-- Of the code's inside, apart from the rules: how the symbols and the units are seen together.
use Rattle.mmsyntax.specs.Tables.{Tables}
use Rattle.mmsyntax.specs.Rows.{Units, Known}

-- what is known, which the code keeps in two
abbrev pub known_of : Tables → Units → Known
known_of t u = record { tables = t; units = u }
