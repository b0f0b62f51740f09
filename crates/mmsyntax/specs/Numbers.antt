-- Of the code's inside, apart from the rules: the numbers that decimal digits write.
use Rattle.std.specs.Prelude.{ℕ, nat_lt, Option, Some, None, if◌then◌else◌}
use Rattle.std.specs.Str.Parse.{digits_value}
use Rattle.mmtext.specs.Words.{Word}

-- the number of digits, up to a highest
abbrev pub written_within : ℕ → Word → Option ℕ
written_within highest w = if nat_lt highest (digits_value 10 w) then None else Some (digits_value 10 w)
