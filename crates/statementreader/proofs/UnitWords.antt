-- Words without a $ in a single assertion: where they lead that are taken where they stand.
use Rattle.std.proofs.Common.{◌≡◌, Bool, true, false, None, Result, Ok, Err, refl, ap, subst, ◌∙◌}
use Rattle.std.specs.Prelude.{IfOk}
use Rattle.mmtext.specs.declared.fault.Stop.{Stop}
use Rattle.mmtext.specs.declared.fault.Stop.TheVariants as stop
use Rattle.mmtext.specs.Text.{Token}
use Rattle.mmsyntax.specs.Tables.{Tables}
use Rattle.mmsyntax.specs.Rows.{Known, Units}
use Rattle.mmsyntax.specs.Faults.{Place, unit_at}
use Rattle.statementreader.specs.Takings.{TakesWordAt}
use Rattle.statementreader.specs.UnitReadings.{UnitReading}
use Rattle.statementreader.specs.UnitViews.{TakesInUnit}
use Rattle.mmunits.specs.Views.{known_of}
use Rattle.statementreader.proofs.TakenWords.{plain_row}

-- what is taken ends no assertion
abbrev pub EndsNone : Place → Result Bool Stop → Type 0
EndsNone q r = IfOk r (λ taken. taken ≡ true → (k : Known) → unit_at k q ≡ None)

abbrev reading_at : Units → Place → UnitReading
reading_at u p = record { units = u; place = p }

taken_here : (t : Tables) (u : Units) (p q : Place) (w : Token) (r : Result Bool Stop) → TakesWordAt (known_of t u) p w q r → EndsNone q r
    → TakesInUnit t (record { units = u; place = p }) w (record { units = u; place = q }) r
taken_here t u p q w (Ok true) h ends = (h.0, plain_row (known_of t u) p w h.0 ∙ h.1, ends refl (known_of t u))
taken_here t u p q w (Ok false) h ends = ap (λ (x : Place). reading_at u x) h
taken_here t u p q w (Err stop.Memory) h ends = tt
taken_here t u p q w (Err (stop.Fault f)) h ends = (h.0, plain_row (known_of t u) p w h.0 ∙ h.1)

-- what is taken at a place is taken in what was read of the assertion
pub taken_in_unit : (t s : Tables) (old : UnitReading) (u : Units) (p q : Place) (w : Token) (r : Result Bool Stop) → s ≡ t
    → record { units = u; place = p } ≡ old → TakesWordAt (known_of s u) p w q r → EndsNone q r
    → TakesInUnit t old w (record { units = u; place = q }) r
taken_in_unit t s old u p q w r same view h ends =
    let new : UnitReading = record { units = u; place = q } in
    subst (λ (x : Tables). TakesInUnit x old w new r) same
    (subst (λ (x : UnitReading). TakesInUnit s x w new r) view (taken_here s u p q w r h ends))
