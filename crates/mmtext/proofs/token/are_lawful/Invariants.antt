-- What the loop of `are_lawful` keeps.
use Rattle.std.proofs.Common.{◌≡◌, take}
use Rattle.std.specs.List.{list_all}
use Rattle.mmtext.specs.Text.{is_lawful}
use Rattle.mmtext.proofs.token.are_lawful.Given as goal

abbrev pub invariant-loop-b : goal.invariant-loop-b
invariant-loop-b l = l.lawful ≡ list_all is_lawful (take l.b-index l.text)
