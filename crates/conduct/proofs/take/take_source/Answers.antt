use Rattle.std.specs.Prelude.{is_some}
use Rattle.std.proofs.Common.{◌∷◌, [], Err, Ok, inl, refl}
use Rattle.outside.specs.Events.{lacks, reads, says}
use Rattle.conduct.specs.declared.manner.Manner.TheVariants.{Full}
use Rattle.conduct.specs.Manner.{origin}
use Rattle.conduct.specs.Reading.{line_unread}
use Rattle.conduct.specs.Takes.{IsAnsweredTake}
use Rattle.conduct.proofs.Behind.{adds_more, one_lack, read_then}
use Rattle.conduct.proofs.take.take_source.Goals as goal

pub returns-in-Ok : goal.returns-in-Ok
returns-in-Ok g c =
    let rest = c.answer_source.ensures in
    let source = c.in-Ok.source.items in
    let path = c.args.path.now in (
      reads (origin Full path) (Ok source) ∷ rest.0,
      adds_more (rw c.origin.ensures at c.in-Ok.ensures) rest.1,
      read_then Full (λ source. IsAnsweredTake (is_some c.args.keys) path source c.args.wish) path source rest.0 c.answer_source.result
          (rw c.as_slice.ensures.value at rest.2),
    )

pub returns-in-Err-NoMemory : goal.returns-in-Err-NoMemory
returns-in-Err-NoMemory g c =
    let from = origin Full c.args.path.now in
    (lacks from ∷ [], rw c.origin.ensures at (rw c.in-Err-NoMemory.field-0-is at c.in-Err-NoMemory.ensures), one_lack from)

pub returns-in-Err-Refused : goal.returns-in-Err-Refused
returns-in-Err-Refused g c =
    let path = c.args.path.now in (
      reads (origin Full path) (Err c.in-Err-Refused.why) ∷ says (line_unread Full path c.in-Err-Refused.why) ∷ [],
      adds_more (rw c.origin.ensures at (rw c.in-Err-Refused.field-0-is at c.in-Err-Refused.ensures))
          (rw c.in-Err-Refused.field-0-is at c.say_unread.ensures),
      inl (c.in-Err-Refused.why, refl, refl),
    )
