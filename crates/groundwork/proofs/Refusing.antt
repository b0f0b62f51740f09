-- What an edit answers where its tests pass or one of them refuses it, and how a command over cells is refused.
use Rattle.std.proofs.Common.{◌≡◌, ℕ, Bool, true, false, List, ◌∷◌, Some, None, Result, Ok, Err, sym, ap, subst}
use Rattle.std.specs.Result.{IsErrAnd}
use Rattle.std.proofs.lemmas.Bool.{cond-true, cond-false}
use Rattle.mmsyntax.specs.declared.statement.Assertion.{Assertion}
use Rattle.library.specs.declared.library.Ranked.{Ranked}
use Rattle.library.specs.declared.command.Command.{Command}
use Rattle.library.specs.declared.command.Reply.{Reply}
use Rattle.library.specs.declared.reason.Reason.{Reason}
use Rattle.library.specs.declared.reason.Reason.TheVariants as reason
use Rattle.library.specs.Library.{Setting}
use Rattle.library.specs.Edits.{Edited, Tests, tested, where_so, of_found, found, edit}
use Rattle.cells.specs.Sight.{Sight, Looks}
use Rattle.cells.specs.Lookups.{ForEach}
use Rattle.cells.specs.Answers.{IsRefused, CommandAnswers}
use Rattle.groundwork.specs.Citing.{TellsRefusal, Fails}
use Rattle.groundwork.specs.Known.{TellsUnknown}
use Rattle.cells.specs.declared.ending.CommandError.{CommandError}
use Rattle.cells.specs.declared.ending.CommandError.TheVariants as command
use Rattle.cells.proofs.Sights.{setting_kept}
use Rattle.groundwork.proofs.Seeing.{views_later}

-- ---- tests

-- the first test refuses
pub first_refuses : (b : Bool) (r : Reason) (more : Tests) (edited : Edited) → b ≡ true → tested (where_so b r ∷ more) edited ≡ Err r
first_refuses b r more edited h = ap (λ t. tested (t ∷ more) edited) (cond-true b (Some r) None h)

-- the first test passes
pub first_passes : (b : Bool) (r : Reason) (more : Tests) (edited : Edited) → b ≡ false
    → tested (where_so b r ∷ more) edited ≡ tested more edited
first_passes b r more edited h = ap (λ t. tested (t ∷ more) edited) (cond-false b (Some r) None h)

-- ---- labels

pub of_none : (lib : List Ranked) (label : List ℕ) (act : Ranked → Result Edited Reason) → found lib label ≡ None
    → of_found (found lib label) act ≡ Err reason.UnknownLabel
of_none lib label act h = ap (λ o. of_found o act) h

pub of_some : (lib : List Ranked) (label : List ℕ) (act : Ranked → Result Edited Reason) (e : Ranked) → found lib label ≡ Some e
    → of_found (found lib label) act ≡ act e
of_some lib label act e h = ap (λ o. of_found o act) h

-- ---- answers

-- what is refused of every library that is seen in the end, while nothing was kept aside
pub refused : {O : Type 0} → (s t : Sight O) (c : Command) (r : Reason) → Looks s t → ForEach t (λ st lib. edit s.setting lib c ≡ Err r)
    → IsRefused s t c r
refused s t c r looks each = record { refuses = λ st lib m v. each st lib (views_later s t st lib looks m v); looks = looks }

-- what is refused of every library by the setting of the later sight
pub refused_later : {O : Type 0} → (s t : Sight O) (c : Command) (r : Reason) → Looks s t
    → ForEach t (λ st lib. edit t.setting lib c ≡ Err r)
    → IsRefused s t c r
refused_later s t c r looks each =
    refused s t c r looks (λ st lib v. subst (λ (x : Setting). edit x lib c ≡ Err r) (setting_kept looks.onward) (each st lib v))

-- so the answer is this reason
pub answers_refused : {O : Type 0} → (s t : Sight O) (c : Command) (r : Reason) (error : CommandError) → error ≡ command.Refused r
    → IsRefused s t c r → CommandAnswers s t c (Err error)
answers_refused s t c r error is h = subst (λ e. CommandAnswers s t c (Err e)) (sym is) h

-- the answer of a command that ends by the error of a call
pub answers_ended : {O : Type 0} → (s t : Sight O) (c : Command) (result : Result Reply CommandError) (error : CommandError)
    → IsErrAnd result (λ e. e ≡ error) → CommandAnswers s t c (Err error) → CommandAnswers s t c result
answers_ended s t c (Ok reply) error is h = absurd is
answers_ended s t c (Err e) error is h = subst (λ x. CommandAnswers s t c (Err x)) (sym is) h

-- the test of a proof that ended early ends the command: refused where a test refuses it
pub answers_tested : {O : Type 0} → (s t : Sight O) (c : Command) (rank : ℕ) (a : Assertion) (result : Result Reply CommandError)
    (error : CommandError) → IsErrAnd result (λ e. e ≡ error) → TellsRefusal t rank a error
    → ((r : Reason) → Fails t rank a r → IsRefused s t c r) → CommandAnswers s t c result
answers_tested s t c rank a result error is tells refuses = answers_ended s t c result error is (of_error error tells)
  where
    of_error : (error : CommandError) → TellsRefusal t rank a error → CommandAnswers s t c (Err error)
    of_error (command.Refused r) fails = refuses r fails
    of_error (command.Halted halt) caused = caused

-- a label that was looked for in vain ends the command
pub answers_unknown : {O : Type 0} → (s t : Sight O) (c : Command) (label : List ℕ) (result : Result Reply CommandError)
    (error : CommandError) → IsErrAnd result (λ e. e ≡ error) → TellsUnknown t label error
    → (ForEach t (λ st lib. found lib label ≡ None) → IsRefused s t c reason.UnknownLabel) → CommandAnswers s t c result
answers_unknown s t c label result error is tells refuses = answers_ended s t c result error is (of_error error tells)
  where
    of_error : (error : CommandError) → TellsUnknown t label error → CommandAnswers s t c (Err error)
    of_error (command.Refused r) tells = subst (λ x. IsRefused s t c x) (sym tells.0) (refuses tells.1)
    of_error (command.Halted halt) caused = caused
