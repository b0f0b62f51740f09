-- A single assertion, token by token: what its rows keep.
use Rattle.std.proofs.Common.{◌≡◌, true, false, Option, Some, None, Result, Ok, Err, refl, sym, ap, subst}
use Rattle.std.proofs.Common.{◌∙◌}
use Rattle.std.specs.Prelude.{is_some, IfOk}
use Rattle.mmsyntax.specs.declared.statement.Assertion.{Assertion}
use Rattle.mmtext.specs.Text.{Token, mark_of}
use Rattle.mmtext.specs.declared.mark.Mark.{Mark}
use Rattle.mmtext.specs.declared.fault.TextFault.{TextFault}
use Rattle.statementreader.specs.Standing.{SuitsPlace}
use Rattle.statementreader.specs.declared.place.UnitPlace.{UnitPlace}
use Rattle.statementreader.specs.declared.place.UnitPlace.TheVariants as unit
use Rattle.statementreader.specs.declared.place.Place.{Place as CodePlace}
use Rattle.statementreader.specs.declared.place.Place.TheVariants as code
use Rattle.mmtext.specs.declared.fault.Stop.{Stop}
use Rattle.mmtext.specs.Views.{Fails}
use Rattle.statementreader.specs.declared.unit_reader.UnitProgress.{UnitProgress}
use Rattle.statementreader.specs.UnitViews.{IsProgress, Progresses}
use Rattle.mmtext.proofs.Turns.{OnPlace}
use Rattle.mmsyntax.specs.Tables.{Tables}
use Rattle.mmsyntax.specs.Rows.{Known, Units}
use Rattle.mmsyntax.specs.Faults.{Place, outside, inside, at_start, in_constants, in_variables, float_type, float_variable, float_end}
use Rattle.mmsyntax.specs.Faults.{Position, in_place, row, first_of, unit_at, unit_row}
use Rattle.mmunits.specs.Views.{known_of}
use Rattle.statementreader.specs.Views.{seen_place, seen_unit_place, seen_position, Leads}
use Rattle.statementreader.specs.UnitReadings.{UnitReading, position_of, GoesOn}
use Rattle.statementreader.specs.Readers.{IsReadyUnit}
use Rattle.statementreader.proofs.Runs.{InUnit, UnitAt, StandsAt, row_at, row_stands, row_unit, unit_row_stands, unit_row_unit, unit_place}

-- ---- what a unit's place says

-- behind the unit its assertion is the first
pub behind_first : (k : Known) (p : Place) → true ≡ is_some (unit_at k p) → unit_at k p ≡ first_of k.units.assertions
behind_first k (at_start outside) h = refl
behind_first k (at_start (inside b)) h = absurd cc
behind_first k p h = absurd cc

pub some_first : (k : Known) (p : Place) → true ≡ is_some (unit_at k p) → first_of k.units.assertions ≡ None → ⊥
some_first k p h none = let e : true ≡ false = h ∙ ap is_some (behind_first k p h ∙ none) in absurd cc

pub not_behind : (k : Known) (p : Place) → false ≡ is_some (unit_at k p) → unit_at k p ≡ None
not_behind k p h = go (unit_at k p) h
  where
    go : (o : Option Assertion) → false ≡ is_some o → o ≡ None
    go None g = refl
    go (Some a) g = absurd cc

-- the code's place is in no $c, $v or $f
in_unit_place : (p : UnitPlace) → InUnit (seen_unit_place p)
in_unit_place (unit.AtStart s) = tt
in_unit_place unit.AtClose = tt
in_unit_place (unit.AfterLabel s t) = tt
in_unit_place (unit.InDistinct b vs) = tt
in_unit_place (unit.InHypothesis h) = tt
in_unit_place (unit.InAxiom a) = tt
in_unit_place (unit.InTheorem a) = tt
in_unit_place (unit.InProof p) = tt

-- outside of $c, $v and $f, what stands doesn't speak of the prelude
stands_over : (k l : Known) (p : Place) → InUnit p → SuitsPlace k p → SuitsPlace l p
stands_over k l (in_constants b) i h = absurd i
stands_over k l (in_variables b) i h = absurd i
stands_over k l (float_type label) i h = absurd i
stands_over k l (float_variable label v) i h = absurd i
stands_over k l (float_end label v w j) i h = absurd i
stands_over k l p i h = h

-- ---- one token

-- what a row keeps of a unit
pub kept : (t : Tables) (u : Units) (p : UnitPlace) (w : Token) (m : Mark) (after : Units) (q : CodePlace)
    → GoesOn (record { units = u; place = seen_unit_place p }) → m ≡ mark_of w.text
    → in_place (known_of t u) (seen_unit_place p) w m ≡ Ok (seen_position t after q) → IsReadyUnit q after
kept t u p w m after q g is h =
    let here : Position = record { known = known_of t u; place = seen_unit_place p } in
    let e = row_at here w m is ∙ h in
    let stands = subst (OnPlace StandsAt) e (row_stands here w (g.stands t)) in
    let in_unit = subst (OnPlace UnitAt) e (row_unit here w (g.closed, in_unit_place p)) in
    record {
      unit = unit_place q in_unit.1;
      goes_on = record {
        closed = in_unit.0;
        stands = λ s. stands_over (known_of t after) (known_of s after) (seen_place q) in_unit.1 stands;
      };
    }

-- what a row of the unit keeps
pub still_ready : (t : Tables) (u : Units) (p : CodePlace) (w : Token) (after : Units) (q : CodePlace) → IsReadyUnit p u
    → unit_row (seen_position t u p) w ≡ Ok (seen_position t after q) → IsReadyUnit q after
still_ready t u (code.Prelude p) w after q ready e = absurd ready.unit
still_ready t u (code.Unit p) w after q ready e =
    let here = seen_position t u (code.Unit p) in
    let stands = subst (OnPlace StandsAt) e (unit_row_stands here w (ready.goes_on.stands t)) in
    let in_unit = subst (OnPlace UnitAt) e (unit_row_unit here w (ready.goes_on.closed, in_unit_place p)) in
    record {
      unit = unit_place q in_unit.1;
      goes_on = record {
        closed = in_unit.0;
        stands = λ s. stands_over (known_of t after) (known_of s after) (seen_place q) in_unit.1 stands;
      };
    }

pub ready_on : (t : Tables) (u : Units) (p : CodePlace) (w : Token) (after : Units) (r : Result CodePlace Stop) → IsReadyUnit p u
    → Leads t after r (unit_row (seen_position t u p) w) → IfOk r (λ q. IsReadyUnit q after)
ready_on t u p w after (Ok q) ready leads = still_ready t u p w after q ready leads
ready_on t u p w after (Err e) ready leads = tt

-- the row at what was read, as the code has it
pub row_read : (t s : Tables) (r : UnitReading) (u : Units) (p : UnitPlace) (w : Token) (m : Mark) → s ≡ t
    → r ≡ record { units = u; place = seen_unit_place p } → m ≡ mark_of w.text
    → row (position_of t r) w ≡ in_place (known_of s u) (seen_unit_place p) w m
row_read t s r u p w m same view is =
    ap (λ (x : Tables). row (position_of x r) w) (sym same) ∙ ap (λ (x : UnitReading). row (position_of s x) w) view
    ∙ row_at (record { known = known_of s u; place = seen_unit_place p }) w m is

pub progressed : (t s : Tables) (x : UnitProgress) (read : Result Position TextFault) (u : Units) (p : CodePlace) → s ≡ t
    → read ≡ Ok (seen_position s u p) → IsProgress t x (seen_position t u p) → Progresses t (Ok x) read
progressed t s x read u p same e h =
    subst (Progresses t (Ok x)) (sym (e ∙ ap (λ (y : Tables). Ok (seen_position y u p)) same)) h

pub fails_progress : (t : Tables) (e : Stop) (read : Result Position TextFault) → Fails e read → Progresses t (Err e) read
fails_progress t e (Ok p) h = h
fails_progress t e (Err f) h = h
