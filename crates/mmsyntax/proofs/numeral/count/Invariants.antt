-- What the loop of `count` keeps.
use Rattle.std.proofs.Common.{◌≡◌, ◌<◌, take}
use Rattle.std.specs.Str.Parse.{digits_value}
use Rattle.mmsyntax.proofs.numeral.count.Given as goal

-- it is the value of the digits so far, and a u64
abbrev pub invariant-loop-digit : goal.invariant-loop-digit
invariant-loop-digit l = record {
  value : l.number ≡ digits_value 10 (take l.digit-index l.digits);
  small : l.number < 18446744073709551616;
}
