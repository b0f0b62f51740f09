-- What `add` brings, as an assertion of the source: its statement and its `$e` are those of the script, in whose words the `$f` of the
-- library type its variables, each under the label that it has in the source (Metamath book, section 4.2.7).
use Rattle.std.specs.Prelude.{Bool, ◌||◌, List, [], ◌∷◌, ◌++◌, map, Option, Some, None, slice_index_or, if◌then◌else◌, codes}
use Rattle.std.specs.List.{zip}
use Rattle.mmtext.specs.Text.{Token}
use Rattle.mmtext.specs.Words.{Word}
use Rattle.mmsyntax.specs.Tables.{Tables}
use Rattle.source.specs.Scopes.{Hypothesis, typing, premise, Assertion, mandatory}
use Rattle.taking.specs.Names.{Map}
use Rattle.spreading.specs.Words.{says}
use Rattle.spreading.specs.Forms.{Part, begins_with}

-- ---- its words

-- the symbols of a statement stand up to its `$=`, or else to its `$.`
abbrev pub ends_symbols : Token → Bool
ends_symbols t = says t (codes "$=") || says t (codes "$.")

abbrev pub symbols_in : List Token → List Word
symbols_in [] = []
symbols_in (t ∷ ts) = if ends_symbols t then [] else t.text ∷ symbols_in ts

-- its label stands in front of its `$a` or `$p`, and its symbols behind that; in front of these stand its `$e`
pub record Addition : Type 0 where
  pub label : Token
  pub premises : List Hypothesis
  pub statement : List Word

abbrev pub claims : Token → Bool
claims t = says t (codes "$a") || says t (codes "$p")

abbrev pub is_premise : Token → Bool
is_premise t = says t (codes "$e")

abbrev pub with_premise : Hypothesis → Option Addition → Option Addition
with_premise h None = None
with_premise h (Some a) = Some (record a { premises = h ∷ a.premises })

abbrev pub addition_in : List Token → Option Addition
addition_in [] = None
addition_in (label ∷ []) = None
addition_in (label ∷ mark ∷ ts) =
    if claims mark then Some (record { label = label; premises = []; statement = symbols_in ts }) else (
    if is_premise mark then with_premise (premise label.text (symbols_in ts)) (addition_in (mark ∷ ts)) else addition_in (mark ∷ ts))

abbrev pub addition_of : Part → Option Addition
addition_of p = if begins_with (codes "add") p then addition_in p else None

-- ---- as an assertion of the source

-- the `$f` of a library, which have these labels in the source
abbrev pub floats_of : Map → Tables → List Hypothesis
floats_of m t =
    map (λ p. typing p.0 (slice_index_or t.constants p.1.type_code []) (slice_index_or t.variables p.1.variable []))
    (zip m.floats t.floats)

abbrev pub active_of : Map → Tables → Addition → List Hypothesis
active_of m t a = floats_of m t ++ a.premises

abbrev pub theorem_of : Map → Tables → Addition → Assertion
theorem_of m t a = record {
  label = a.label.text;
  hypotheses = mandatory (active_of m t a) a.statement;
  pairs = [];
  statement = a.statement;
  proof = None;
  active = active_of m t a;
}

-- what a command adds
abbrev pub theorems_of : Map → Tables → Option Addition → List Assertion
theorems_of m t None = []
theorems_of m t (Some a) = theorem_of m t a ∷ []

abbrev pub added_by : Map → Tables → Part → List Assertion
added_by m t p = theorems_of m t (addition_of p)
