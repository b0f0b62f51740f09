-- From an order that is done to what a command line does.
use Rattle.std.proofs.Common.{Bool, ◌≡◌, ◌≢◌, ℕ, List, Option, inl, inr, subst, Result}
use Rattle.checking.specs.declared.task.Task.{Task}
use Rattle.clap.specs.declared.error.Error.{Error}
use Rattle.clap.specs.declared.error.kind.ErrorKind.TheVariants.{OutOfMemory}
use Rattle.clap.specs.Words.{HasKind, Row, Text, fault_of, kind_of, subcommand_of}
use Rattle.commandline.specs.CommandLine.{program_app}
use Rattle.commandline.specs.Orders.{IsOrder}
use Rattle.commandline.specs.TakeOrders.{IsTakeOrder}
use Rattle.commandline.specs.GiveOrders.{AsksToGive}
use Rattle.commandline.specs.VerifyOrders.{AsksToVerify}
use Rattle.commandline.specs.EditOrders.{IsEditOrder}
use Rattle.commandline.specs.declared.edit_order.Allowed.{Allowed}
use Rattle.commandline.specs.declared.edit_order.Outputs.{Outputs}
use Rattle.conduct.specs.Ending.{EndsBy}
use Rattle.conduct.specs.Gives.{IsGiveDone}
use Rattle.conduct.specs.Jobs.{IsFollowed}
use Rattle.conduct.specs.Takes.{IsTakeDone}
use Rattle.conduct.specs.Verifies.{IsVerifyDone}
use Rattle.conduct.proofs.Behind.{EndsBy-weaker}
use Rattle.outside.specs.Events.{Bytes, Event}
use Rattle.program.specs.Edits.{IsEditDone}
use Rattle.program.specs.Obeying.{IsMatched, IsObeyed, IsShown}

pub ordered : {E : Type 0} (keyed : Bool) (found : Option (Text × List Row)) (task : Task) (paths : List Bytes) (history : Option Bytes)
    (es : List Event)
    (r : Result ℕ E) → IsOrder found task paths history → EndsBy (IsFollowed keyed task paths history) es r
    → EndsBy (IsMatched keyed found) es r
ordered keyed found task paths history es r order ends =
    EndsBy-weaker (IsFollowed keyed task paths history) (IsMatched keyed found) es r
    (λ status is. inl (task, paths, history, order, is)) ends

pub take_ordered : {E : Type 0} (keyed : Bool) (found : Option (Text × List Row)) (path : Bytes) (labels : List Bytes)
    (from to : Option Bytes) (es : List Event)
    (r : Result ℕ E) → IsTakeOrder found path labels from to → EndsBy (IsTakeDone keyed path labels from to) es r
    → EndsBy (IsMatched keyed found) es r
take_ordered keyed found path labels from to es r order ends =
    EndsBy-weaker (IsTakeDone keyed path labels from to) (IsMatched keyed found) es r
    (λ status is. inr (inl (path, labels, from, to, order, is))) ends

pub give_ordered : {E : Type 0} (keyed : Bool) (found : Option (Text × List Row)) (source library history : Bytes) (es : List Event)
    (r : Result ℕ E)
    → AsksToGive found source library history → EndsBy (IsGiveDone keyed source library history) es r → EndsBy (IsMatched keyed found) es r
give_ordered keyed found source library history es r asks ends =
    EndsBy-weaker (IsGiveDone keyed source library history) (IsMatched keyed found) es r
    (λ status is. inr (inr (inl (source, library, history, asks, is)))) ends

pub verify_ordered : {E : Type 0} (keyed : Bool) (found : Option (Text × List Row)) (path : Bytes) (workers : Option ℕ) (es : List Event)
    (r : Result ℕ E)
    → AsksToVerify found path workers → EndsBy (IsVerifyDone keyed path) es r → EndsBy (IsMatched keyed found) es r
verify_ordered keyed found path workers es r asks ends =
    EndsBy-weaker (IsVerifyDone keyed path) (IsMatched keyed found) es r
    (λ status is. inr (inr (inr (inl (path, workers, asks, is))))) ends

pub edit_ordered : {E : Type 0} (keyed : Bool) (found : Option (Text × List Row)) (paths : List Bytes) (workers : ℕ) (room : Option ℕ)
    (outputs : Option Outputs) (allowed : Allowed) (es : List Event) (r : Result ℕ E)
    → IsEditOrder found paths workers room outputs allowed → EndsBy (IsEditDone keyed paths workers room outputs allowed) es r
    → EndsBy (IsMatched keyed found) es r
edit_ordered keyed found paths workers room outputs allowed es r order ends =
    EndsBy-weaker (IsEditDone keyed paths workers room outputs allowed) (IsMatched keyed found) es r
    (λ status is. inr (inr (inr (inr (inl (paths, workers, room, outputs, allowed, order, is)))))) ends

pub matched : {E : Type 0} (keyed : Bool) (words : List Text) (found : Option (Text × List Row)) (es : List Event) (r : Result ℕ E)
    → found ≡ subcommand_of program_app words → EndsBy (IsMatched keyed found) es r → EndsBy (IsObeyed keyed words) es r
matched keyed words found es r same ends =
    EndsBy-weaker (IsMatched keyed found) (IsObeyed keyed words) es r
    (λ status is. inr (subst (λ (f : Option (Text × List Row)). IsMatched keyed f es status) same is)) ends

pub usage : {E : Type 0} (keyed : Bool) (words : List Text) (e : Error) (es : List Event) (r : Result ℕ E)
    → HasKind (fault_of program_app words) e
    → EndsBy (λ done status. (kind_of e ≢ OutOfMemory) × IsShown e done status) es r → EndsBy (IsObeyed keyed words) es r
usage keyed words e es r kind ends =
    EndsBy-weaker (λ done status. (kind_of e ≢ OutOfMemory) × IsShown e done status) (IsObeyed keyed words) es r
    (λ status is. inl (e, kind, is.0, is.1)) ends
