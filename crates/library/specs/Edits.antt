-- What one command does to a library, and its reply, or why it is refused.
use Rattle.std.specs.Prelude.{ℕ, Bool, true, false, ◌==◌, ◌&&◌, nat_le, List, [], ◌∷◌, ◌++◌, Option, Some, None, Result, Ok, Err, map}
use Rattle.std.specs.Prelude.{filter}
use Rattle.std.specs.Prelude.{length, count_by, find, if◌then◌else◌}
use mathlib.Core.Bool.{not}
use Rattle.std.specs.List.{list_any, list_all}
use Rattle.std.specs.Cmp.Lexicographic.{pointwise}
use Rattle.std.specs.Str.{bytes_eq}
use Rattle.std.specs.declared.cmp.Ordering.{Ordering}
use Rattle.mmsyntax.specs.declared.statement.Assertion.{Assertion}
use Rattle.mmsyntax.specs.declared.statement.Frame.{Frame}
use Rattle.mmsyntax.specs.declared.statement.Kind.{Kind}
use Rattle.mmsyntax.specs.declared.statement.Kind.TheVariants.{Axiom, Theorem}
use Rattle.mmsyntax.specs.declared.statement.Step.{Step}
use Rattle.mmsyntax.specs.declared.statement.Step.TheVariants.{Float, Hyp, Cite}
use Rattle.mmsyntax.specs.Assertions.{is_lawful_label}
use Rattle.mmsyntax.specs.Blocks.{is_same_pair}
use Rattle.mmsyntax.specs.Dotted.{clash}
use Rattle.mmframes.specs.Frames.{frame}
use Rattle.derivation.specs.declared.fault.ProofFault.{ProofFault}
use Rattle.derivation.specs.Derivation.{Tree}
use Rattle.derivation.specs.Laws.{renamed, replacing, step_relabelled}
use Rattle.derivation.specs.Outcomes.{outcome, same_expression}
use Rattle.library.specs.declared.library.Ranked.{Ranked}
use Rattle.library.specs.declared.command.Command.{Command}
use Rattle.library.specs.declared.command.Command.TheVariants as command
use Rattle.library.specs.declared.command.Line.{Line}
use Rattle.library.specs.declared.command.Reply.{Reply}
use Rattle.library.specs.declared.command.Reply.TheVariants.{Done, Shown, Listed}
use Rattle.library.specs.declared.reason.Reason.{Reason}
use Rattle.library.specs.declared.reason.Reason.TheVariants as reason
use Rattle.library.specs.Library.{Setting, label_of, citable, by_rank_then_label, in_export_order}

-- ---- labels in a library

abbrev pub is_labelled : List ℕ → Ranked → Bool
is_labelled label e = bytes_eq label (label_of e)

-- whether some assertion has the label
abbrev pub has : List Ranked → List ℕ → Bool
has lib label = list_any (is_labelled label) lib

-- whether the label is L.k of that of some assertion, or that of some assertion L.k of it
abbrev pub clashes : List Ranked → List ℕ → Bool
clashes lib label = list_any (λ e. clash (label_of e) label) lib

-- the assertion with the label
abbrev pub found : List Ranked → List ℕ → Option Ranked
found lib label = find (is_labelled label) lib

abbrev pub is_citation : List ℕ → Step → Bool
is_citation label (Float i) = false
is_citation label (Hyp k) = false
is_citation label (Cite cited) = bytes_eq label cited

-- whether the proof of an assertion cites the label
abbrev pub cites : List ℕ → Ranked → Bool
cites label e = list_any (is_citation label) e.assertion.proof

-- the number of assertions whose proof cites the label
abbrev pub citers : List Ranked → List ℕ → ℕ
citers lib label = count_by (cites label) lib

-- ---- edits and what only reads

-- a command that changes the library where it is not refused
abbrev pub is_edit : Command → Bool
is_edit (command.Add rank a) = true
is_edit (command.Reprove label steps) = true
is_edit (command.Replace label old new) = true
is_edit (command.Rename old new) = true
is_edit (command.Move label rank) = true
is_edit (command.Delete label) = true
is_edit (command.Show label) = false
is_edit command.List = false

-- ---- what becomes of a library

-- an assertion is added behind the others
abbrev pub added : List Ranked → ℕ → Assertion → List Ranked
added lib rank a = lib ++ record { rank = rank; assertion = a } ∷ []

abbrev pub with_rank : ℕ → Ranked → Ranked
with_rank rank e = record e { rank = rank }

abbrev pub with_proof : List Step → Ranked → Ranked
with_proof steps e = record e { assertion = record e.assertion { proof = steps } }

-- each citation of the one label becomes one of the other
abbrev pub recited : List ℕ → List ℕ → List Step → List Step
recited old new steps = map (step_relabelled (replacing old new)) steps

-- the assertion with the label is changed
abbrev pub changed : List ℕ → (Ranked → Ranked) → List Ranked → List Ranked
changed label change lib = map (λ e. if is_labelled label e then change e else e) lib

-- the label is replaced, in the assertion and in every proof
abbrev pub rename : List ℕ → List ℕ → List Ranked → List Ranked
rename old new lib = map (λ e. record { rank = e.rank; assertion = renamed old new e.assertion }) lib

-- the assertion with the label is removed
abbrev pub without : List ℕ → List Ranked → List Ranked
without label lib = filter (λ e. not (is_labelled label e)) lib

-- ---- tests

-- a test gives the reason for which it refuses, if it does
abbrev pub Tests : Type 0
Tests = List (Option Reason)

-- refused for a reason, where something holds
abbrev pub where_so : Bool → Reason → Option Reason
where_so b r = if b then Some r else None

abbrev pub is_axiom : Kind → Bool
is_axiom Axiom = true
is_axiom Theorem = false

-- no assertion has the label
abbrev pub unknown_label : List Ranked → List ℕ → Option Reason
unknown_label lib label = where_so (not (has lib label)) reason.UnknownLabel

-- no assertion may have the label
abbrev pub bad_label : Setting → List ℕ → Option Reason
bad_label s label = where_so (not (is_lawful_label s.prelude label)) reason.BadLabel

-- another assertion has the label
abbrev pub label_taken : List Ranked → List ℕ → Option Reason
label_taken lib label = where_so (has lib label) reason.LabelTaken

-- an assertion has a label that may not stand beside this one
abbrev pub label_clashes : List Ranked → List ℕ → Option Reason
label_clashes lib label = where_so (clashes lib label) reason.LabelClashes

-- a rank is at least 1
abbrev pub bad_rank : ℕ → Option Reason
bad_rank rank = where_so (rank == 0) reason.BadRank

-- whether a step cites a label that no assertion has
abbrev pub is_of_unknown : List Ranked → Step → Bool
is_of_unknown lib (Float i) = false
is_of_unknown lib (Hyp k) = false
is_of_unknown lib (Cite label) = not (has lib label)

-- some step does
abbrev pub cites_unknown : List Ranked → List Step → Option Reason
cites_unknown lib steps = where_so (list_any (is_of_unknown lib) steps) reason.CitesUnknown

-- whether the assertion with the label has this rank or a higher one
abbrev pub is_not_below : ℕ → Option Ranked → Bool
is_not_below rank None = false
is_not_below rank (Some e) = nat_le rank e.rank

-- whether a step cites an assertion that isn't below the rank
abbrev pub cites_not_below : List Ranked → ℕ → Step → Bool
cites_not_below lib rank (Float i) = false
cites_not_below lib rank (Hyp k) = false
cites_not_below lib rank (Cite label) = is_not_below rank (found lib label)

-- some step does
abbrev pub cited_not_lower : List Ranked → ℕ → List Step → Option Reason
cited_not_lower lib rank steps = where_so (list_any (cites_not_below lib rank) steps) reason.CitedNotLower

-- an assertion that cites the label isn't above the rank
abbrev pub citer_not_higher : List Ranked → ℕ → List ℕ → Option Reason
citer_not_higher lib rank label = where_so (list_any (λ e. cites label e && nat_le e.rank rank) lib) reason.CiterNotHigher

-- a proof cites the label
abbrev pub still_cited : List Ranked → List ℕ → Option Reason
still_cited lib label = where_so (nat_le 1 (citers lib label)) (reason.StillCited (citers lib label))

-- what is seen of the assertion `new` may stand where `old` is cited: it says the same of the same hypotheses, and each pair that it
-- restricts is one that `old` restricts (Metamath book, section 4.2.7, on what a citation has to meet)
abbrev pub is_alike : Frame → Frame → Bool
is_alike old new =
    pointwise same_expression new.hyps old.hyps && same_expression new.statement old.statement
    && list_all (λ q. list_any (λ r. is_same_pair r q) old.pairs) new.pairs

abbrev pub are_alike : Setting → Option Ranked → Option Ranked → Bool
are_alike s (Some old) (Some new) = is_alike (frame s.prelude old.assertion) (frame s.prelude new.assertion)
are_alike s _ _ = false

-- the assertion with the label `new` may not stand where the one with the label `old` is cited
abbrev pub not_alike : Setting → List Ranked → List ℕ → List ℕ → Option Reason
not_alike s lib old new = where_so (not (are_alike s (found lib old) (found lib new))) reason.NotAlike

abbrev pub fault_of : Result Tree ProofFault → Option Reason
fault_of (Ok tree) = None
fault_of (Err fault) = Some (reason.ProofFails fault)

-- the steps of a theorem of this rank aren't the listing of a tree that derives its statement over the assertions of lower rank
abbrev pub proof_fails : Setting → List Ranked → ℕ → Assertion → Option Reason
proof_fails s lib rank a = fault_of (outcome (citable s lib rank) s.prelude a)

-- ---- the tests of each command, in order

-- of the proof of a theorem of a rank
abbrev pub proof_tests : (s : Setting) (lib : List Ranked) (rank : ℕ) (theorem : Assertion) → Tests
proof_tests s lib rank a = cites_unknown lib a.proof ∷ cited_not_lower lib rank a.proof ∷ proof_fails s lib rank a ∷ []

-- of a label that an assertion is to have in the place of its own, with which it may clash
abbrev pub label_tests : Setting → List Ranked → List ℕ → List ℕ → Tests
label_tests s lib own label = bad_label s label ∷ label_taken lib label ∷ label_clashes (without own lib) label ∷ []

abbrev pub add_tests : (s : Setting) (lib : List Ranked) (rank : ℕ) (new : Assertion) → Tests
add_tests s lib rank a =
    bad_rank rank
    ∷ bad_label s a.label
    ∷ label_taken lib a.label
    ∷ label_clashes lib a.label
    ∷ where_so (is_axiom a.kind) reason.AxiomNotAllowed
    ∷ proof_tests s lib rank a ++ where_so (nat_le s.slots (length lib)) reason.LibraryFull ∷ []

-- of the assertion that is found
abbrev pub reprove_tests : Setting → List Ranked → List Step → Ranked → Tests
reprove_tests s lib steps e =
    where_so (is_axiom e.assertion.kind) reason.NotATheorem ∷ proof_tests s lib e.rank (with_proof steps e).assertion

-- of the assertion that is found: in its proof the one label is to become the other
abbrev pub replace_tests : Setting → List Ranked → List ℕ → List ℕ → Ranked → Tests
replace_tests s lib old new e =
    unknown_label lib old
    ∷ unknown_label lib new
    ∷ where_so (is_axiom e.assertion.kind) reason.NotATheorem
    ∷ not_alike s lib old new
    ∷ cited_not_lower lib e.rank (Cite new ∷ [])
    ∷ []

abbrev pub rename_tests : Setting → List Ranked → List ℕ → List ℕ → Tests
rename_tests s lib old new = unknown_label lib old ∷ label_tests s lib old new

-- of the assertion that is found
abbrev pub move_tests : List Ranked → ℕ → Ranked → Tests
move_tests lib rank e = bad_rank rank ∷ cited_not_lower lib rank e.assertion.proof ∷ citer_not_higher lib rank (label_of e) ∷ []

-- ---- edits

-- a library with a reply
pub record Edited : Type 0 where
  pub library : List Ranked
  pub reply : Reply

-- a library that was changed
abbrev pub done : List Ranked → Edited
done lib = record { library = lib; reply = Done }

-- the reason of the first test that refuses, and else the edit
abbrev pub tested : Tests → Edited → Result Edited Reason
tested [] edited = Ok edited
tested (None ∷ ts) edited = tested ts edited
tested (Some r ∷ ts) edited = Err r

-- what is done with the assertion that has a label, if one has it
abbrev pub of_found : Option Ranked → (Ranked → Result Edited Reason) → Result Edited Reason
of_found None edit = Err reason.UnknownLabel
of_found (Some e) edit = edit e

-- what is shown of an assertion
abbrev pub shown : List Ranked → Ranked → Edited
shown lib e = record { library = lib; reply = Shown e.rank (citers lib (label_of e)) e.assertion }

-- what is listed of an assertion
abbrev pub listing_line : List Ranked → Ranked → Line
listing_line lib e = record { rank = e.rank; label = label_of e; kind = e.assertion.kind; citers = citers lib (label_of e) }

-- the order of lines: by rank, then by the label
abbrev pub line_cmp : Line → Line → Ordering
line_cmp a b = by_rank_then_label (λ l. l.rank) (λ l. l.label) a b

-- all assertions in export order
abbrev pub listed : List Ranked → Edited
listed lib = record { library = lib; reply = Listed (map (listing_line lib) (in_export_order lib)) }

abbrev pub edit : Setting → List Ranked → Command → Result Edited Reason
edit s lib (command.Add rank a) = tested (add_tests s lib rank a) (done (added lib rank a))
edit s lib (command.Reprove label steps) =
    of_found (found lib label) (λ e. tested (reprove_tests s lib steps e) (done (changed label (with_proof steps) lib)))
edit s lib (command.Replace label old new) =
    of_found (found lib label) (λ e.
    tested (replace_tests s lib old new e) (done (changed label (with_proof (recited old new e.assertion.proof)) lib)))
edit s lib (command.Rename old new) = tested (rename_tests s lib old new) (done (rename old new lib))
edit s lib (command.Move label rank) =
    of_found (found lib label) (λ e. tested (move_tests lib rank e) (done (changed label (with_rank rank) lib)))
edit s lib (command.Delete label) = of_found (found lib label) (λ e. tested (still_cited lib label ∷ []) (done (without label lib)))
edit s lib (command.Show label) = of_found (found lib label) (λ e. Ok (shown lib e))
edit s lib command.List = Ok (listed lib)
