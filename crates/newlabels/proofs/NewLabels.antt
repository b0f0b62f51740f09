-- The tests of a new label: why it is refused, or that it passes.
use Rattle.std.proofs.Common.{◌≡◌, ◌≢◌, Bool, true, false, List, [], ◌∷◌, ◌++◌, Option, Err, ℕ, refl, sym, ap, subst, ◌∙◌}
use mathlib.Core.Bool.{not}
use Rattle.mmsyntax.specs.Tables.{Tables}
use Rattle.mmsyntax.specs.Assertions.{is_lawful_label}
use Rattle.library.specs.declared.library.Ranked.{Ranked}
use Rattle.library.specs.declared.reason.Reason.{Reason}
use Rattle.library.specs.declared.reason.Reason.TheVariants as reason
use Rattle.library.specs.Library.{Setting}
use Rattle.library.specs.Edits.{Tests, Edited, tested, where_so, has, clashes, without, bad_label, label_taken, label_clashes, label_tests}
use Rattle.library.proofs.Clashing.{without-absent}
use Rattle.cells.specs.Sight.{Sight, Looks}
use Rattle.cells.specs.Lookups.{TellsAvailability}
use Rattle.cells.specs.declared.labels.Availability.TheVariants.{Free, Taken, Clashing}
use Rattle.cells.proofs.Sights.{setting_kept}
use Rattle.newlabels.specs.Naming.{PassesAsNew, FailsAsNew}
use Rattle.groundwork.proofs.Refusing.{first_refuses, first_passes}

-- a lawful label has a byte
pub lawful_some : (t : Tables) (label : List ℕ) → is_lawful_label t label ≡ true → label ≢ []
lawful_some t label lawful none =
    let empty : is_lawful_label t [] ≡ true = subst (λ l. is_lawful_label t l ≡ true) none lawful in
    absurd cc

module _ (s : Setting) (lib : List Ranked) (own label : List ℕ) (more : Tests) (edited : Edited)
    (lawful : is_lawful_label s.prelude label ≡ true) where
  to_taken : tested (label_tests s lib own label ++ more) edited
      ≡ tested (label_taken lib label ∷ label_clashes (without own lib) label ∷ more) edited
  to_taken = first_passes (not (is_lawful_label s.prelude label)) reason.BadLabel _ edited (ap not lawful)

  pub fails_taken : has lib label ≡ true → tested (label_tests s lib own label ++ more) edited ≡ Err reason.LabelTaken
  fails_taken taken = to_taken ∙ first_refuses (has lib label) reason.LabelTaken _ edited taken

  module _ (free : has lib label ≡ false) where
    to_clash : tested (label_tests s lib own label ++ more) edited ≡ tested (label_clashes (without own lib) label ∷ more) edited
    to_clash = to_taken ∙ first_passes (has lib label) reason.LabelTaken _ edited free

    pub fails_clash : clashes (without own lib) label ≡ true → tested (label_tests s lib own label ++ more) edited ≡ Err reason.LabelClashes
    fails_clash clash = to_clash ∙ first_refuses (clashes (without own lib) label) reason.LabelClashes more edited clash

    pub passes_as_new : clashes (without own lib) label ≡ false → tested (label_tests s lib own label ++ more) edited ≡ tested more edited
    passes_as_new clear = to_clash ∙ first_passes (clashes (without own lib) label) reason.LabelClashes more edited clear

-- a third test counts only where the first two pass
third_alike : (b c : Bool) (q r : Reason) (x y : Option Reason) (more : Tests) (edited : Edited) → (c ≡ false → x ≡ y)
    → tested (where_so b q ∷ where_so c r ∷ x ∷ more) edited ≡ tested (where_so b q ∷ where_so c r ∷ y ∷ more) edited
third_alike true c q r x y more edited same = refl
third_alike false true q r x y more edited same = refl
third_alike false false q r x y more edited same = ap (λ t. tested (t ∷ more) edited) (same refl)

-- where the label itself is left out, none is: no assertion has it
pub tests_of_new : (s : Setting) (lib : List Ranked) (label : List ℕ) (more : Tests) (edited : Edited)
    → tested (label_tests s lib label label ++ more) edited
    ≡ tested (bad_label s label ∷ label_taken lib label ∷ label_clashes lib label ∷ more) edited
tests_of_new s lib label more edited =
    third_alike (not (is_lawful_label s.prelude label)) (has lib label) reason.BadLabel reason.LabelTaken
    (label_clashes (without label lib) label) (label_clashes lib label) more edited
    (λ free. ap (λ l. label_clashes l label) (without-absent lib label free))

-- ---- for every library that is seen

-- a label is lawful by the setting of a later sight too
pub lawful_later : {O : Type 0} → (s t : Sight O) (prelude : Tables) (label : List ℕ) → prelude ≡ s.setting.prelude → Looks s t
    → is_lawful_label prelude label ≡ true → is_lawful_label t.setting.prelude label ≡ true
lawful_later s t prelude label is looks h =
    subst (λ (x : Setting). is_lawful_label x.prelude label ≡ true) (sym (setting_kept looks.onward))
    (subst (λ (x : Tables). is_lawful_label x label ≡ true) is h)

module _ {O : Type 0} (s : Sight O) (own label : List ℕ) (lawful : is_lawful_label s.setting.prelude label ≡ true) where
  pub taken_refuses : TellsAvailability s own label Taken → FailsAsNew s own label reason.LabelTaken
  taken_refuses taken = λ st lib v more edited. fails_taken s.setting lib own label more edited lawful (taken st lib v)

  pub clash_refuses : TellsAvailability s own label Clashing → FailsAsNew s own label reason.LabelClashes
  clash_refuses clashing = λ st lib v more edited.
      let told = clashing st lib v in
      fails_clash s.setting lib own label more edited lawful told.0 told.1

  pub new_passes : TellsAvailability s own label Free → PassesAsNew s own label
  new_passes free =
      record {
        some = lawful_some s.setting.prelude label lawful;
        free = λ st lib v. let told = free st lib v in told.0;
        passes = λ st lib v more edited.
            let told = free st lib v in
            passes_as_new s.setting lib own label more edited lawful told.0 told.1;
      }
