-- What becomes of the axioms behind a run: they are taken away, and a theorem that still leans on one is an axiom again, as in the library
-- that was taken; each other theorem is the library's own from then on, with the proof that a script gave it.
use Rattle.std.specs.Prelude.{◌≡◌, Bool, false, List, [], map, filter, if◌then◌else◌}
use Rattle.std.specs.List.{list_any}
use mathlib.Core.Bool.{not}
use Rattle.mmtext.specs.Words.{Word}
use Rattle.mmsyntax.specs.declared.statement.Assertion.{Assertion}
use Rattle.mmsyntax.specs.declared.statement.Kind.TheVariants.{Axiom}
use Rattle.mmsyntax.specs.declared.statement.Step.{Step}
use Rattle.mmsyntax.specs.declared.statement.Step.TheVariants.{Float, Hyp, Cite}
use Rattle.source.specs.Scopes.{is_in}
use Rattle.intake.specs.declared.taken.Taken.{Taken}
use Rattle.intake.specs.Intakes.{axioms_of}
use Rattle.library.specs.declared.library.Ranked.{Ranked}
use Rattle.library.specs.Library.{Listed, ShowsInOrder}
use Rattle.library.specs.Edits.{cites}
use Rattle.standins.specs.StandIns.{StandIn}

-- ---- the library

abbrev pub axiom_labels : List StandIn → List Word
axiom_labels ss = map (λ x. x.cited) ss

-- a step cites one of these
abbrev pub cites_one : List Word → Step → Bool
cites_one ws (Cite w) = is_in ws w
cites_one ws (Float i) = false
cites_one ws (Hyp k) = false

-- a proof that cites one goes
abbrev pub freed : List Word → Assertion → Assertion
freed ws a = if list_any (cites_one ws) a.proof then record a { kind = Axiom; proof = [] } else a

abbrev pub freed_entry : List Word → Ranked → Ranked
freed_entry ws e = record e { assertion = freed ws e.assertion }

-- an entry is none of them
abbrev pub is_other : List Word → Ranked → Bool
is_other ws e = not (is_in ws e.assertion.label)

abbrev pub withdrawn : List Word → List Ranked → List Ranked
withdrawn ws lib = map (freed_entry ws) (filter (is_other ws) lib)

-- a library without them
pub record IsWithdrawn (ss : List StandIn) (lib out : Listed) : Type 0 where
  pub setting : out.setting ≡ lib.setting
  pub shown : ShowsInOrder (withdrawn (axiom_labels ss) lib.entries) out.entries

-- ---- what is told of the library that was taken

-- those on whose axiom no theorem leans any longer, by their labels in the source
abbrev pub released : List StandIn → List Ranked → List Word
released ss lib = map (λ x. x.source) (filter (λ x. not (list_any (cites x.cited) lib)) ss)

-- they aren't told to be axioms
pub record IsSettled (ss : List StandIn) (lib : List Ranked) (taken settled : Taken) : Type 0 where
  pub database : settled.database ≡ taken.database
  pub names : settled.names ≡ taken.names
  pub chosen : settled.chosen ≡ taken.chosen
  pub axioms : axioms_of settled ≡ filter (λ a. not (is_in (released ss lib) a.0)) (axioms_of taken)
