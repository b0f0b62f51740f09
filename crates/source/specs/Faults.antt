-- Each token outside of comments in its place in a source: where it leads, or its fault. What is active is that of Scopes.
use Rattle.std.specs.Prelude.{ℕ, Bool, true, false, List, [], ◌∷◌, ◌++◌, Option, Some, None, Result, Ok, codes}
use Rattle.std.specs.Prelude.{if◌then◌else◌}
use Rattle.std.specs.Str.{bytes_eq}
use Rattle.mmtext.specs.declared.fault.FaultKind.{FaultKind}
use Rattle.mmtext.specs.declared.fault.FaultKind.TheVariants.{BadToken}
use Rattle.mmtext.specs.declared.fault.TextFault.{TextFault}
use Rattle.mmtext.specs.declared.mark.Mark.{Mark}
use Rattle.mmtext.specs.declared.mark.Mark.TheVariants as mark
use Rattle.mmtext.specs.Words.{Word, is_label}
use Rattle.mmtext.specs.Text.{Token, mark_of}
use Rattle.mmtext.specs.Languages.{Language, fault, Faulty}
use Rattle.mmsyntax.specs.Rows.{Tests, first_fault}
use Rattle.source.specs.Statements.{Proof, normal, compressed, Statement, float, hypothesis, distinct, asserted, proved}
use Rattle.source.specs.Scopes.{Scope, Stand, outset, declared, opened, closed}
use Rattle.source.specs.Tests.{label_tests, constant_tests, variable_tests, type_tests, float_tests, distinct_tests, symbol_tests}
use Rattle.source.specs.Tests.{step_tests, cited_tests, letter_tests, a_constant, a_variable, is_whole}

-- ---- places

pub data Place : Type 0 where
  -- the start of a statement
  at_start : Place
  -- behind a label
  after_label : Token → Place
  -- behind $c or $v, and whether a symbol stood there; behind $d and variables
  in_constants : Bool → Place
  in_variables : Bool → Place
  in_distinct : List Word → Place
  -- behind a label and $f, then the type, then the variable
  float_type : Word → Place
  float_variable : Word → Word → Place
  float_end : Word → Word → Word → Place
  -- behind a label, $e, $a or $p, and symbols
  in_hypothesis : Word → List Word → Place
  in_axiom : Word → List Word → Place
  in_theorem : Word → List Word → Place
  -- behind $=, then labels, or ( and labels, or ) and letters
  in_steps : Word → List Word → List Word → Place
  in_labels : Word → List Word → List Word → Place
  in_letters : Word → List Word → List Word → List Word → Place

-- what stands, and the place in a statement
pub record Position : Type 0 where
  pub stand : Stand
  pub place : Place

abbrev pub Next : Type 0
Next = Result Position TextFault

-- another place, where the same stands
abbrev pub to : Position → Place → Next
to p place = Ok (record p { place = place })

-- a statement ends
abbrev pub ends : Position → Statement → Next
ends p x = Ok (record { stand = declared p.stand x; place = at_start })

-- a theorem ends, where its proof denotes a tree
abbrev pub ends_proof : Position → Word → List Word → Proof → Token → Next
ends_proof p label e proof t = if is_whole p.stand.scope e proof then ends p (proved label e proof) else fault t BadToken

-- the fault of the first test that fails, at the token, and else what follows
abbrev pub faulted : Token → Option FaultKind → Next → Next
faulted t (Some kind) next = fault t kind
faulted t None next = next

abbrev pub tested : Token → Tests → Next → Next
tested t ts next = faulted t (first_fault ts) next

-- ---- rows

-- the block that is open is closed
abbrev pub closes : Token → Option Stand → Next
closes t None = fault t BadToken
closes t (Some s) = Ok (record { stand = s; place = at_start })

abbrev pub start_row : Position → Token → Mark → Next
start_row p t mark.Constants = if p.stand.scope.outermost then to p (in_constants false) else fault t BadToken
start_row p t mark.Variables = to p (in_variables false)
start_row p t mark.Disjoint = to p (in_distinct [])
start_row p t mark.Opening = Ok (record { stand = opened p.stand; place = at_start })
start_row p t mark.Closing = closes t (closed p.stand)
start_row p t mark.Plain = if is_label t.text then to p (after_label t) else fault t BadToken
start_row p t _ = fault t BadToken

abbrev pub keyword_row : Position → Token → Token → Mark → Next
keyword_row p label t mark.Floating = tested label (label_tests p.stand.scope label.text) (to p (float_type label.text))
keyword_row p label t mark.Essential = tested label (label_tests p.stand.scope label.text) (to p (in_hypothesis label.text []))
keyword_row p label t mark.Axiom = tested label (label_tests p.stand.scope label.text) (to p (in_axiom label.text []))
keyword_row p label t mark.Provable = tested label (label_tests p.stand.scope label.text) (to p (in_theorem label.text []))
keyword_row p label t _ = fault t BadToken

-- a symbol holds from its token on
abbrev pub declares : Position → Statement → Place → Next
declares p x place = Ok (record { stand = declared p.stand x; place = place })

abbrev pub constant_row : Position → Bool → Token → Mark → Next
constant_row p true t mark.End = to p at_start
constant_row p some t m = tested t (constant_tests p.stand.scope t.text) (declares p (a_constant t.text) (in_constants true))

abbrev pub variable_row : Position → Bool → Token → Mark → Next
variable_row p true t mark.End = to p at_start
variable_row p some t m = tested t (variable_tests p.stand.scope t.text) (declares p (a_variable t.text) (in_variables true))

abbrev pub distinct_row : Position → List Word → Token → Mark → Next
distinct_row p (v ∷ w ∷ vs) t mark.End = ends p (distinct (v ∷ w ∷ vs))
distinct_row p vs t m = tested t (distinct_tests p.stand.scope vs t.text) (to p (in_distinct (vs ++ t.text ∷ [])))

abbrev pub float_end_row : Position → Word → Word → Word → Token → Mark → Next
float_end_row p label c v t mark.End = ends p (float label c v)
float_end_row p label c v t _ = fault t BadToken

-- one more symbol of an expression
abbrev pub next_symbol : Position → List Word → Token → (List Word → Place) → Next
next_symbol p e t place = tested t (symbol_tests p.stand.scope e t.text) (to p (place (e ++ t.text ∷ [])))

abbrev pub hypothesis_row : Position → Word → List Word → Token → Mark → Next
hypothesis_row p label (c ∷ e) t mark.End = ends p (hypothesis label (c ∷ e))
hypothesis_row p label e t m = next_symbol p e t (λ x. in_hypothesis label x)

abbrev pub axiom_row : Position → Word → List Word → Token → Mark → Next
axiom_row p label (c ∷ e) t mark.End = ends p (asserted label (c ∷ e))
axiom_row p label e t m = next_symbol p e t (λ x. in_axiom label x)

abbrev pub theorem_row : Position → Word → List Word → Token → Mark → Next
theorem_row p label (c ∷ e) t mark.Proof = to p (in_steps label (c ∷ e) [])
theorem_row p label e t m = next_symbol p e t (λ x. in_theorem label x)

-- a step of a normal proof
abbrev pub next_step : Position → Word → List Word → List Word → Token → Next
next_step p label e steps t = tested t (step_tests p.stand.scope steps t.text) (to p (in_steps label e (steps ++ t.text ∷ [])))

-- a ( behind $= begins a compressed proof
abbrev pub proof_row : Position → Word → List Word → List Word → Token → Mark → Next
proof_row p label e [] t m = if bytes_eq t.text (codes "(") then to p (in_labels label e []) else next_step p label e [] t
proof_row p label e (w ∷ ws) t mark.End = ends_proof p label e (normal (w ∷ ws)) t
proof_row p label e (w ∷ ws) t m = next_step p label e (w ∷ ws) t

abbrev pub labels_row : Position → Word → List Word → List Word → Token → Next
labels_row p label e ws t =
    if bytes_eq t.text (codes ")") then to p (in_letters label e ws [])
    else tested t (cited_tests p.stand.scope e t.text) (to p (in_labels label e (ws ++ t.text ∷ [])))

abbrev pub letters_row : Position → Word → List Word → List Word → List Word → Token → Mark → Next
letters_row p label e ws (l ∷ ls) t mark.End = ends_proof p label e (compressed ws (l ∷ ls)) t
letters_row p label e ws ls t m = tested t (letter_tests p.stand.scope e ws ls t.text) (to p (in_letters label e ws (ls ++ t.text ∷ [])))

abbrev pub in_place : Position → Place → Token → Mark → Next
in_place p at_start t m = start_row p t m
in_place p (after_label label) t m = keyword_row p label t m
in_place p (in_constants some) t m = constant_row p some t m
in_place p (in_variables some) t m = variable_row p some t m
in_place p (in_distinct vs) t m = distinct_row p vs t m
in_place p (float_type label) t m = tested t (type_tests p.stand.scope t.text) (to p (float_variable label t.text))
in_place p (float_variable label c) t m = tested t (float_tests p.stand.scope t.text) (to p (float_end label c t.text))
in_place p (float_end label c v) t m = float_end_row p label c v t m
in_place p (in_hypothesis label e) t m = hypothesis_row p label e t m
in_place p (in_axiom label e) t m = axiom_row p label e t m
in_place p (in_theorem label e) t m = theorem_row p label e t m
in_place p (in_steps label e ws) t m = proof_row p label e ws t m
in_place p (in_labels label e ws) t m = labels_row p label e ws t
in_place p (in_letters label e ws ls) t m = letters_row p label e ws ls t m

unfoldable pub row : Position → Token → Next
row p t = in_place p p.place t (mark_of t.text)

-- no block is open
abbrev pub whole_in : Scope → List Scope → Option Scope
whole_in s [] = Some s
whole_in s (before ∷ around) = None

-- a source ends between statements, with no block open
abbrev pub whole : Stand → Place → Option Scope
whole s at_start = whole_in s.scope s.around
whole s _ = None

-- the language of sources
abbrev pub source_language : Language Position Scope
source_language = record {
  most_bytes = 268435456;
  start = record { stand = outset; place = at_start };
  row = row;
  said = λ p. whole p.stand p.place;
}

-- the fault of a text as a source
abbrev pub FaultySource : List ℕ → TextFault → Type 0
FaultySource bytes f = Faulty source_language bytes f
