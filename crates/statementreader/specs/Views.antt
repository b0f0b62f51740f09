-- Of the code's inside, apart from the rules: how the code's values are seen, and what its functions give for a token.
use Rattle.std.specs.Prelude.{Bool, true, false, Result}
use Rattle.statementreader.specs.declared.place.Scope.{Scope as CodeScope}
use Rattle.statementreader.specs.declared.place.Scope.TheVariants.{Outside, Inside}
use Rattle.statementreader.specs.declared.place.PreludePlace.{PreludePlace}
use Rattle.statementreader.specs.declared.place.PreludePlace.TheVariants as prelude
use Rattle.statementreader.specs.declared.place.UnitPlace.{UnitPlace}
use Rattle.statementreader.specs.declared.place.UnitPlace.TheVariants as unit
use Rattle.statementreader.specs.declared.place.Place.{Place as CodePlace}
use Rattle.statementreader.specs.declared.place.Place.TheVariants as code
use Rattle.statementreader.specs.declared.place.Behind.{Behind as CodeBehind}
use Rattle.statementreader.specs.declared.place.Behind.TheVariants.{Statement, BlockEnd}
use Rattle.mmtext.specs.declared.fault.Stop.{Stop}
use Rattle.mmtext.specs.declared.fault.TextFault.{TextFault}
use Rattle.mmtext.specs.Views.{seen, Gives}
use Rattle.mmsyntax.specs.Tables.{Tables}
use Rattle.mmsyntax.specs.Rows.{Units}
use Rattle.mmsyntax.specs.Faults.{Scope, outside, inside, Place, at_start, at_close, after_label, in_constants, in_variables, float_type}
use Rattle.mmsyntax.specs.Faults.{float_variable, float_end, in_distinct, in_hypothesis, in_axiom, in_theorem, in_proof, Position}
use Rattle.mmunits.specs.Views.{known_of}

-- ---- values

-- a scope of the code
abbrev pub seen_scope : CodeScope → Scope
seen_scope Outside = outside
seen_scope (Inside b) = inside b

-- a place in a $c, $v or $f
abbrev pub seen_prelude_place : PreludePlace → Place
seen_prelude_place (prelude.InConstants b) = in_constants b
seen_prelude_place (prelude.InVariables b) = in_variables b
seen_prelude_place (prelude.FloatType label) = float_type label.now
seen_prelude_place (prelude.FloatVariable label i) = float_variable label.now i
seen_prelude_place (prelude.FloatEnd f) = float_end f.label.now f.type_code f.word.now f.variable

-- a place elsewhere
abbrev pub seen_unit_place : UnitPlace → Place
seen_unit_place (unit.AtStart s) = at_start (seen_scope s)
seen_unit_place unit.AtClose = at_close
seen_unit_place (unit.AfterLabel s t) = after_label (seen_scope s) (seen t)
seen_unit_place (unit.InDistinct b vs) = in_distinct b vs.items
seen_unit_place (unit.InHypothesis h) = in_hypothesis h.block h.label.now h.expression.items
seen_unit_place (unit.InAxiom a) = in_axiom (seen_scope a.scope) a.label.now a.expression.items
seen_unit_place (unit.InTheorem a) = in_theorem (seen_scope a.scope) a.label.now a.expression.items
seen_unit_place (unit.InProof p) =
    in_proof (seen_scope p.assertion.scope) p.assertion.label.now p.assertion.expression.items p.steps.value

-- a place of the code
abbrev pub seen_place : CodePlace → Place
seen_place (code.Prelude p) = seen_prelude_place p
seen_place (code.Unit p) = seen_unit_place p

-- a place of the code, beside what is known there
abbrev pub seen_position : Tables → Units → CodePlace → Position
seen_position t u p = record { known = known_of t u; place = seen_place p }

-- where a text goes on behind an assertion
abbrev pub seen_behind : CodeBehind → Place
seen_behind Statement = at_start outside
seen_behind BlockEnd = at_close

-- a place of the code outside of $c, $v and $f
abbrev pub IsUnitPlace : CodePlace → Type 0
IsUnitPlace (code.Prelude p) = ⊥
IsUnitPlace (code.Unit p) = Unit {0}

-- outermost, between statements
abbrev pub is_outermost : Place → Bool
is_outermost (at_start outside) = true
is_outermost _ = false

-- ---- results

-- the place that a function returned, beside what is known then
abbrev pub Leads : Tables → Units → Result CodePlace Stop → Result Position TextFault → Type 0
Leads t u result read = Gives (λ p. seen_position t u p) result read
