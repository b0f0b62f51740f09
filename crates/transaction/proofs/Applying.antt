-- What a run of commands gives that a session's run was lent to.
use Rattle.std.proofs.Common.{◌≡◌, ◌≤◌, ◌+◌, ℕ, Bool, List, Some, None, inl, inr, ⊎_elim, sym, ap, subst, ◌∙◌, arith}
use Rattle.std.proofs.Math.Bridge.{le_prop}
use Rattle.std.proofs.Math.Logic.{∥∥₁_elim}
use Rattle.std.specs.Prelude.{All}
use Rattle.std.specs.Option.{option_map}
use Rattle.std.specs.FinMap.{get}
use Rattle.bodystore.specs.Stages.{Staged}
use Rattle.library.specs.declared.command.Command.{Command}
use Rattle.library.specs.declared.command.Reply.{Reply}
use Rattle.library.specs.declared.reason.Refused.{Refused as Refusal}
use Rattle.library.specs.Library.{Setting, Verifies}
use Rattle.library.specs.Fitting.{CommandFits}
use Rattle.library.specs.declared.library.Ranked.{Ranked}
use Rattle.ranges.specs.Pairs.{Pairs, written}
use Rattle.ranges.specs.Ranges.{Has}
use Rattle.cells.specs.State.{State, with_writes}
use Rattle.cells.specs.Shows.{Shows}
use Rattle.cells.specs.Sight.{Views, Suits, WasAsked, WasWritten, StaysStaged, Onward, TakesAtMost}
use Rattle.cells.specs.Answers.{ForEachBefore, has_staging, DoesAll, RefusesAll}
use Rattle.cells.proofs.Sights.{matches_back, setting_kept}
use Rattle.commands.specs.Takes.{most_words_of}
use Rattle.commands.specs.Touches.{KeepsToAll}
use Rattle.commands.specs.Footprints.{ReadsForAll}
use Rattle.tlwords.specs.declared.outcome.Conflict.{Conflict}
use Rattle.tlwords.specs.declared.mode.Mode.{Mode}
use Rattle.lawful.specs.declared.notes.Given.{Given}
use Rattle.lawful.specs.Lawful.{setting_given}
use Rattle.lawful.proofs.Running.{runs_are_lawful}
use Rattle.lending.specs.Lent.{Carried, Lending, AgreesWithSome, Lends, lent_sight}
use Rattle.transaction.specs.declared.outcome.Outcome.{Outcome}
use Rattle.transaction.specs.declared.outcome.Outcome.TheVariants as outcome
use Rattle.transaction.specs.Tries.{MayBeDone, MayBeRefused, carried_by, EndsStored, Stores, AsksWithin, KeepsWithin}
use Rattle.transaction.proofs.Within.{may_read, may_write}

module _ (g : Given) (k : Carried) (mode : Mode) (cs : List Command) (old : Lending) (lends : Lends g k mode (has_staging cs) old) where
  module _ (new : Lending) (onward : Onward (lent_sight old) (lent_sight new)) where
    setting_is : setting_given g ≡ setting_given new.given
    setting_is = sym (setting_kept onward ∙ ap setting_given lends.given)

    module _ (fit : All (CommandFits (setting_given g).prelude) cs) where
      fit_for : (c : List Command) → c ≡ cs → All (CommandFits (setting_given new.given).prelude) c
      fit_for c is = subst (λ (x : List Command). All (CommandFits (setting_given new.given).prelude) x) (sym is)
          (subst (λ (s : Setting). All (CommandFits s.prelude) cs) setting_is fit)

      pub may_be_done : (replies : List Reply) → DoesAll (lent_sight old) (lent_sight new) cs replies → MayBeDone new cs replies
      may_be_done replies does c r is replied =
          (runs_are_lawful new.given (lent_sight old) (lent_sight new) c (sym (setting_kept onward)) lends.blank onward
          (fit_for c.value is)).0 r
          (subst (λ (x : List Command). DoesAll (lent_sight old) (lent_sight new) x r.value) (sym is)
          (subst (λ (x : List Reply). DoesAll (lent_sight old) (lent_sight new) cs x) (sym replied) does))

      pub may_be_refused : (refused : Refusal) → RefusesAll (lent_sight old) (lent_sight new) cs refused → MayBeRefused new cs refused
      may_be_refused refused refuses c r is why =
          (runs_are_lawful new.given (lent_sight old) (lent_sight new) c (sym (setting_kept onward)) lends.blank onward
          (fit_for c.value is)).1 r
          (subst (λ (x : List Command). RefusesAll (lent_sight old) (lent_sight new) x r.value) (sym is)
          (subst (λ (x : Refusal). RefusesAll (lent_sight old) (lent_sight new) cs x) (sym why) refuses))

-- ---- which cells a run of the commands asks for, and keeps aside

module _ (g : Given) (k : Carried) (mode : Mode) (may : Bool) (old : Lending) (lends : Lends g k mode may old) (cs : List Command) where
  unasked : (cell : ℕ) → WasAsked (lent_sight old) cell → ⊥
  unasked cell (inl (v, has)) = subst (Has (cell, v)) lends.unread has
  unasked cell (inr stop) =
      let none = ap (option_map (λ (x : Conflict). x.cell)) lends.unmet in
      let no : None ≡ Some cell = sym none ∙ stop in absurd cc

  unwritten : (cell : ℕ) → WasWritten (lent_sight old) cell → ⊥
  unwritten cell (v, is) = let no : None ≡ Some v = sym (ap (written cell) lends.blank) ∙ is in absurd cc

  -- none at its beginning
  pub none_asked : AsksWithin old cs
  none_asked cell was = absurd (unasked cell was)

  module _ (new : Lending) (onward : Onward (lent_sight old) (lent_sight new)) (told : List Command) (same : told ≡ cs)
      (fit : All (CommandFits (setting_given g).prelude) cs) where
    setting_then : (lent_sight old).setting ≡ setting_given new.given
    setting_then = sym (setting_kept onward)

    fit_then : All (CommandFits (setting_given new.given).prelude) cs
    fit_then = subst (λ (s : Setting). All (CommandFits s.prelude) cs) (ap setting_given (sym lends.given) ∙ setting_then) fit

    views_then : (st : State) (lib : List Ranked) → Suits (lent_sight new) st lib → Views (lent_sight old) st lib
    views_then st lib s =
        record {
          matches = matches_back (lent_sight old) (lent_sight new) st onward s.matches;
          shows = subst (λ (ps : Pairs). Shows (setting_given old.given).slots (with_writes st ps) lib) (sym lends.blank)
              (subst (λ (x : Setting). Shows x.slots st lib) (setting_kept onward) s.shows);
          verifies = subst (λ (x : Setting). Verifies x lib) (setting_kept onward) s.verifies;
        }

    pub asks_within : ReadsForAll (lent_sight old) (lent_sight new) told → AsksWithin new cs
    asks_within reads cell was st lib s =
        ⊎_elim (λ early. absurd (unasked cell early))
        (λ is. may_read (setting_given new.given) st (lent_sight new) s.matches (lent_sight old) lib cs setting_then lends.blank
        (views_then st lib s) fit_then
        cell is)
        ((subst (ReadsForAll (lent_sight old) (lent_sight new)) same reads).asked cell was)

    pub keeps_within : KeepsToAll (lent_sight old) (lent_sight new) told → KeepsWithin new cs
    keeps_within keeps cell was st lib s =
        ⊎_elim (λ early. absurd (unwritten cell early))
        (λ is. may_write (setting_given new.given) st (lent_sight new) s.matches (lent_sight old) lib cs setting_then lends.blank
        (views_then st lib s) fit_then
        cell is)
        (subst (KeepsToAll (lent_sight old) (lent_sight new)) same keeps cell was)

-- ---- what a run of the commands takes, and what is staged when it has ended

module _ (g : Given) (k : Carried) (mode : Mode) (may : Bool) (old new : Lending) (lends : Lends g k mode may old)
    (onward : Onward (lent_sight old) (lent_sight new)) where
  -- the state that the run agrees with is one that it may have begun with
  began_views : (a : AgreesWithSome new) → Views (lent_sight old) a.0 a.1
  began_views a =
      record {
        matches = matches_back (lent_sight old) (lent_sight new) a.0 onward a.2.matches;
        shows = subst (λ (ps : Pairs). Shows (setting_given old.given).slots (with_writes a.0 ps) a.1) (sym lends.blank)
            (subst (λ (s : Setting). Shows s.slots a.0 a.1) (setting_kept onward) a.2.shows);
        verifies = subst (λ (s : Setting). Verifies s a.1) (setting_kept onward) a.2.verifies;
      }

  module _ (cs told : List Command) (same : told ≡ cs) (made : Carried) (agrees : ∥ AgreesWithSome new ∥₁)
      (takes : ForEachBefore (lent_sight old) (lent_sight new)
      (λ st lib. TakesAtMost (most_words_of told) (lent_sight old) (lent_sight new))) where
    few : made.pass.taken ≡ new.going.known.taken → made.pass.taken ≤ k.pass.taken + most_words_of cs
    few now =
        let taken : new.going.known.taken ≤ old.going.known.taken + most_words_of told =
        ∥∥₁_elim agrees le_prop (λ a. takes a.0 a.1 a.2.matches (began_views a)) in
        let began = lends.taken in
        let words = ap most_words_of same in
        omega (arith, taken, began, words, now)

    stays : made.staged ≡ new.staged → StaysStaged k.staged made.staged
    stays is = subst (StaysStaged k.staged) (sym is) (λ words start h.
        onward.staged words start (ap (λ (m : Staged). get m words) lends.staged ∙ h))

    pub stored : (o : Outcome) → EndsStored (carried_by new) made o → Stores cs k made o
    stored (outcome.Committed number replies) e = (e.1, few e.0, tt)
    stored (outcome.Read place replies) e = (stays e.1, few e.0, tt)
    stored (outcome.Refused place index reason) e = (stays e.1, few e.0, tt)
    stored (outcome.Conflict place cell word before) e = (stays e.1, few e.0, tt)
    stored outcome.StoreFull e = (stays e.0.1, few e.0.0, e.1)
    stored outcome.NumbersUsed e = (stays e.1, few e.0, tt)
    stored outcome.TooManyCommands e = (stays e.1, few e.0, tt)
    stored outcome.NoMemory e = (stays e.0.1, few e.0.0, e.1)
