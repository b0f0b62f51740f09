-- What a draft says, as a database.
use Rattle.mmsyntax.specs.Tables.{Tables, Contents}
use Rattle.drafts.specs.declared.draft.Draft.{Draft}

-- its prelude
abbrev pub tables_of : Draft → Tables
tables_of d = record { constants = d.constants; variables = d.variables; floats = d.floats }

-- its prelude, and its assertions
abbrev pub contents_of : Draft → Contents
contents_of d = record { prelude = tables_of d; assertions = d.assertions }
