-- To show an assertion without a read isn't lawful: a library without assertions may lie there as well.
use Rattle.std.proofs.Common.{◌≡◌, ℕ, List, [], ◌∷◌, refl, ap}
use Rattle.std.specs.Prelude.{Err}
use Rattle.library.specs.declared.reason.Reason.TheVariants.{UnknownLabel}
use Rattle.library.specs.declared.command.Command.TheVariants.{Show}
use Rattle.library.specs.Library.{Setting}
use Rattle.library.specs.Transactions.{apply, apply_from}
use Rattle.ranges.specs.Ranges.{Range}
use Rattle.cells.specs.State.{State}
use Rattle.plaincells.proofs.Empty.{shows_none, none_verifies}
use Rattle.lawful.specs.Lawful.{setting_given}
use Rattle.openings.specs.Laws.{UnreadIsUnlawful}

abbrev zeros : List Range → State
zeros ranges = record { value = λ c. 0; ranges = ranges }

refuses : (s : Setting) (label : List ℕ) → apply s [] (Show label ∷ []) ≡ Err (record { index = 1; reason = UnknownLabel })
unfolding apply_from
refuses s label = refl

pub unread_is_unlawful : UnreadIsUnlawful
unread_is_unlawful g ranges writes commands replies label setting store is lawful =
    let d = lawful.2 (zeros ranges) [] (record {
      matches = record { store = store; has = λ r h. h; reads = tt };
      shows = (shows_none g.slots (zeros ranges) (λ c. refl)).0;
      verifies = none_verifies (setting_given g) setting;
    }) in
    let a = refuses (setting_given g) label in
    let b = ap (apply (setting_given g) []) is in
    let c = d.applied in
    cc
