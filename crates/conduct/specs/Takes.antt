-- What is done for an order to take.
use Rattle.std.specs.Prelude.{◌≡◌, ◌≢◌, ◌⊎◌, ℕ, Bool, List, [], Option, Some, None, codes, map, string_bytes}
use Rattle.choosing.specs.declared.wish.Wish.{Wish}
use Rattle.choosing.specs.declared.wish.Wish.TheVariants as wish
use Rattle.conduct.specs.declared.manner.Manner.TheVariants.{Full}
use Rattle.conduct.specs.Reading.{IsReadThen}
use Rattle.conduct.specs.Telling.{IsMisused, IsPrinted, IsSaid, IsUnkeyed}
use Rattle.outside.specs.Events.{Bytes, Event}
use Rattle.taketext.specs.declared.answering.Told.{Told}
use Rattle.taketext.specs.declared.answering.Told.TheVariants as told
use Rattle.taketext.specs.Answers.{IsTakeAnswer}

-- a library's text is printed, or the line of the refusal is said
abbrev pub IsTakeTold : Told → List Event → ℕ → Type 0
IsTakeTold (told.Printed out) es status = IsPrinted Full out.items es status
IsTakeTold (told.Refused line) es status = IsSaid (string_bytes line) es status

-- what is answered for a source is told; or the system gives no random numbers, which is said
abbrev pub IsAnsweredTake : Bool → Bytes → Bytes → Wish → List Event → ℕ → Type 0
IsAnsweredTake keyed path source w es status =
    ((told : Told) × IsTakeAnswer path source w told × IsTakeTold told es status) ⊎ IsUnkeyed keyed es status

-- the source is read, and then a library is taken of it
abbrev pub IsTakeFollowed : Bool → Bytes → Wish → List Event → ℕ → Type 0
IsTakeFollowed keyed path w es status = IsReadThen Full path (λ source. IsAnsweredTake keyed path source w) es status

-- what is wished for by the labels of `--for`, and those of `--from` and `--to`
abbrev pub IsWishOf : List Bytes → Option Bytes → Option Bytes → Wish → Type 0
IsWishOf labels from to wish.All = (labels ≡ []) × (from ≡ None) × (to ≡ None)
IsWishOf labels from to (wish.For asked) = (labels ≢ []) × (map (λ w. w.now) asked.now ≡ labels) × (from ≡ None) × (to ≡ None)
IsWishOf labels from to (wish.Between first last) = (labels ≡ []) × (from ≡ Some first.now) × (to ≡ Some last.now)
IsWishOf labels from to (wish.These named axioms) = ⊥

-- a library is taken by what is wished for; or the options don't go together, which is said, and no file is read
abbrev pub IsTakeDone : Bool → Bytes → List Bytes → Option Bytes → Option Bytes → List Event → ℕ → Type 0
IsTakeDone keyed path labels from to es status =
    ((w : Wish) × IsWishOf labels from to w × IsTakeFollowed keyed path w es status)
    ⊎ (((w : Wish) → IsWishOf labels from to w → ⊥) × IsMisused (codes "--from and --to go together, without --for") es status)
