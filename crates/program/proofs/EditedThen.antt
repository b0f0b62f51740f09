-- From scripts that edit a source to what is told of that.
use Rattle.std.proofs.Common.{◌≡◌, ◌<◌, ◌-◌, ◌∷◌, [], ℕ, Bool, List, Option, None, Some, ap, arith, codes, drop, length, map, slice_index_or, subst, sym, take, Result, Err}
use Rattle.std.proofs.lemmas.List.{take_rest}
use Rattle.std.specs.Prelude.{IfOk, is_some}
use Rattle.commandline.specs.declared.edit_order.Allowed.{Allowed}
use Rattle.commandline.specs.declared.edit_order.Outputs.{Outputs}
use Rattle.conduct.specs.declared.manner.Manner.TheVariants.{Full}
use Rattle.conduct.specs.Telling.{IsMisused}
use Rattle.edittext.specs.Answers.{IsEditAnswer}
use Rattle.edittext.specs.Edited.{edit_room}
use Rattle.edittext.specs.declared.answering.Told.{Told}
use Rattle.outside.specs.Events.{Bytes, Event}
use Rattle.conduct.specs.Reading.{IsStopped}
use Rattle.conduct.specs.declared.reading.Unread.{Unread}
use Rattle.conduct.specs.declared.reading.Unread.TheVariants as unread
use Rattle.program.specs.Edits.{IsAnsweredFor, IsEditDone, IsEditedApart, IsReadConcluded, IsUnmisusedThen, misuse_of}
use Rattle.program.specs.Endings.{not_read}

-- a list with something in it, by that and what stands behind
pub first_and_rest : {X Y : Type 0} (f : X → Y) (xs : List X) (d : X) → 0 < length xs
    → map f xs ≡ f (slice_index_or xs 0 d) ∷ map f (take (length xs - 1) (drop 1 xs))
first_and_rest f [] d some = absurd (omega arith)
first_and_rest {X} {Y} f (x ∷ xs) d some = ap (λ (rest : List X). f x ∷ map f rest) (sym (take_rest (x ∷ xs) 1))

-- the answer for the texts of files
pub answered_for : {E : Type 0} (paths texts : List Bytes) (path source : Bytes) (others scripts : List Bytes) (workers : ℕ)
    (room : Option ℕ) (o : Outputs) (allowed : Allowed) (r : Result Told E) → paths ≡ path ∷ others → texts ≡ source ∷ scripts
    → IfOk r (IsEditAnswer path paths source scripts workers (edit_room room) allowed.force allowed.partial (is_some o.replies))
    → IfOk r (IsAnsweredFor paths workers room o allowed texts)
answered_for paths texts path source others scripts workers room o allowed r named are =
    subst (λ (ts : List Bytes). IfOk r (IsEditAnswer path paths source scripts workers (edit_room room) allowed.force allowed.partial
    (is_some o.replies)) → IfOk r (IsAnsweredFor paths workers room o allowed ts)) (sym are)
    (subst (λ (ps : List Bytes). IfOk r (IsEditAnswer path ps source scripts workers (edit_room room) allowed.force allowed.partial
    (is_some o.replies)) → IfOk r (IsAnsweredFor ps workers room o allowed (source ∷ scripts))) (sym named) (λ answer. answer))

-- the files before one that can't be read are read, or memory runs out
pub stopped_read : (keyed : Bool) (paths texts : List Bytes) (workers : ℕ) (room : Option ℕ) (o : Outputs) (allowed : Allowed)
    (es : List Event) (u : Unread) → IsStopped Full paths texts es u
    → IsReadConcluded keyed paths workers room o allowed es (Err (not_read u))
stopped_read keyed paths texts workers room o allowed es (unread.File path why) stopped = (texts, stopped.0, stopped.1)
stopped_read keyed paths texts workers room o allowed es unread.NoMemory quiet = quiet

-- two places are asked for
pub two_places : (keyed : Bool) (paths : List Bytes) (workers : ℕ) (room : Option ℕ) (given : Option Outputs) (allowed : Allowed)
    (es : List Event) (status : ℕ)
    → given ≡ None → IsMisused (codes "--in-place and --output do not go together") es status
    → IsEditDone keyed paths workers room given allowed es status
two_places keyed paths workers room given allowed es status is said =
    subst (λ (p : Option Outputs). IsEditDone keyed paths workers room p allowed es status) (sym is) said

-- one is, and the words go together or don't
pub one_place : (keyed : Bool) (paths : List Bytes) (workers : ℕ) (room : Option ℕ) (given : Option Outputs) (o : Outputs)
    (allowed : Allowed) (es : List Event) (status : ℕ) (found : Option Bytes) → given ≡ Some o → found ≡ misuse_of o.place paths
    → IsUnmisusedThen found (IsEditedApart keyed paths workers room o allowed) es status
    → IsEditDone keyed paths workers room given allowed es status
one_place keyed paths workers room given o allowed es status found is same then =
    subst (λ (p : Option Outputs). IsEditDone keyed paths workers room p allowed es status) (sym is)
    (subst (λ (f : Option Bytes). IsUnmisusedThen f (IsEditedApart keyed paths workers room o allowed) es status) same then)
