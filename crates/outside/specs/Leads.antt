-- Where a path leads.
use Rattle.std.specs.Prelude.{string_bytes}
use Rattle.outside.specs.declared.disk.Lead.{Lead}
use Rattle.outside.specs.declared.disk.Lead.TheVariants.{Plain, Free, Other}
use Rattle.outside.specs.Events.{Bytes}

-- to the plain file at a path, nowhere, or to something else
abbrev pub Leads : (Bytes → Type 0) → Type 0 → Type 0 → Lead → Type 0
Leads plain free other (Plain real) = plain (string_bytes real)
Leads plain free other Free = free
Leads plain free other Other = other
