-- What is left to show of `new`.
use Rattle.std.proofs.Common.{rules}
use Rattle.scopes.proofs.Outset.{sound_nothing, outset_of}
use Rattle.scopes.proofs.tables.Tables.new.Goals as goal

pub returns-clause-sound : goal.returns-clause-sound
returns-clause-sound c =
    rw (
      c.new.ensures.items,
      c.new-2.ensures.items,
      c.new-3.ensures.items,
      c.new-4.ensures.items,
      c.new-5.ensures.items,
      c.new-6.ensures.items,
      c.new-7.ensures.items,
      c.new-8.ensures.items,
      c.new-9.ensures.items,
    ) (sound_nothing _ (λ w. search rules))

pub returns-clause-outset : goal.returns-clause-outset
returns-clause-outset c =
    rw (
      c.new.ensures.items,
      c.new-2.ensures.items,
      c.new-3.ensures.items,
      c.new-4.ensures.items,
      c.new-5.ensures.items,
      c.new-6.ensures.items,
      c.new-7.ensures.items,
      c.new-8.ensures.items,
      c.new-9.ensures.items,
    ) outset_of
