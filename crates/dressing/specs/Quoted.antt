-- Proofs of a source in the words in which scripts give them: a compressed proof stands there letter by letter, where it lists the same
-- steps as the proof that was written (Metamath book, section 4.1.4, appendix B).
use Rattle.std.specs.Prelude.{◌≡◌, ◌⊎◌, ◌||◌, ℕ, Bool, nat_le, List, [], ◌∷◌, map, take, slice_get, is_some, IsTrue}
use Rattle.std.specs.Prelude.{Option, Some, None, if◌then◌else◌}
use Rattle.std.specs.List.{flat_map, list_all, list_any}
use Rattle.std.specs.Str.{bytes_eq}
use mathlib.Core.Bool.{not}
use Rattle.mmtext.specs.Text.{is_printable}
use Rattle.mmtext.specs.Words.{Word}
use Rattle.mmsyntax.specs.Tables.{place_of}
use Rattle.mmsyntax.specs.declared.limits.TheConstants.{MOST_STEPS}
use Rattle.mmsyntax.specs.declared.statement.Step.{Step}
use Rattle.source.specs.Statements.{Proof, normal, compressed}
use Rattle.source.specs.Scopes.{Assertion, Scope}
use Rattle.source.specs.Proofs.{Tree, taken_by, denoted, is_unfinished, size}
use Rattle.source.specs.Whole.{labels_in}
use Rattle.taking.specs.Names.{Map}
use Rattle.taking.specs.Listings.{listing}
use Rattle.taking.specs.Settings.{is_float}
use Rattle.giving.specs.Staying.{Change}
use Rattle.items.specs.Indentations.{indentation_at}
use Rattle.items.specs.Items.{Item, Spells}
use Rattle.pasting.specs.Quotes.{GivenProof}
use Rattle.sourcewriting.specs.Forms.{is_compressed_form}
use Rattle.sourcewriting.specs.Given.{IsGivenText}
use Rattle.sourcewriting.specs.Indentations.{indentation_like}
use Rattle.sourcewriting.specs.Named.{AreNames}

-- ---- the steps that a proof lists where it stands

-- each of these labels names itself
abbrev pub own_names : List Word → Map
own_names labels = record {
  constants = [];
  floats = [];
  variables = [];
  labels = map (λ w. (w, w)) labels;
}

-- a listing has at most 16,384 steps (a rule of the profile)
abbrev pub listed_tree : Map → List Assertion → Assertion → Option Tree → Option (List Step)
listed_tree m earlier x None = None
listed_tree m earlier x (Some t) = if nat_le (size t) MOST_STEPS then listing m earlier x.active t else None

-- a label is that of an active hypothesis or of an earlier assertion (section 4.2.8)
abbrev pub is_unnamed : List Assertion → Assertion → Word → Bool
is_unnamed earlier x w = not (is_some (taken_by earlier x.active w))

-- those of a proof of an assertion behind earlier ones: none where a step isn't there, or it names what isn't
abbrev pub lists : Scope → List Assertion → Assertion → Proof → Option (List Step)
lists s earlier x proof =
    if is_unfinished proof || list_any (is_unnamed earlier x) (labels_in proof) then None
    else listed_tree (own_names s.labels) earlier x (denoted earlier (record x { proof = Some proof }))

-- ---- which proofs are quoted

-- the labels, and the letters in whatever lines they stand
abbrev pub letters_in : Proof → List ℕ
letters_in (normal ws) = []
letters_in (compressed labels letters) = flat_map (λ w. w) letters

abbrev pub HaveSameWords : Proof → Proof → Type 0
HaveSameWords one other = (labels_in one ≡ labels_in other) × (letters_in one ≡ letters_in other)

-- the words list the same steps as the proof that stands there, which has other words
pub record IsQuotable (s : Scope) (q : GivenProof) : Type 0 where
  pub place : ℕ
  pub stands : place_of (λ x. bytes_eq q.label x.label) s.assertions ≡ Some place
  pub theorem : Assertion
  pub is : slice_get s.assertions place ≡ Some theorem
  pub written : Proof
  pub was : theorem.proof ≡ Some written
  pub others : HaveSameWords q.proof written → ⊥
  pub steps : List Step
  pub lists_now : lists s (take place s.assertions) theorem written ≡ Some steps
  pub lists_then : lists s (take place s.assertions) theorem q.proof ≡ Some steps

-- a compressed proof can be written, if its labels are names
pub record CanBeWritten (proof : Proof) : Type 0 where
  pub compressed : IsTrue (is_compressed_form (Some proof))
  pub names : AreNames (labels_in proof)
  pub letters : IsTrue (list_all is_printable (letters_in proof))

-- ---- their texts

-- the words are laid out as the proof that stands there is, or else with six spaces where the theorem has $e, and with four elsewhere
abbrev pub indentation_for : List Item → Word → Assertion → List ℕ
indentation_for items label x = indentation_like (indentation_at items label) (list_any not (map is_float x.hypotheses))

abbrev pub IsTextOf : List ℕ → Proof → List ℕ → Type 0
IsTextOf indentation (normal ws) text = ⊥
IsTextOf indentation (compressed labels letters) text = IsGivenText indentation labels (flat_map (λ w. w) letters) text

pub record IsQuotedAs (s : Scope) (items : List Item) (q : GivenProof) (text : List ℕ) : Type 0 where
  pub quotable : IsQuotable s q
  pub text_is : IsTextOf (indentation_for items q.label quotable.theorem) q.proof text

-- just those that are quotable, and can be written, have a text, in order
abbrev pub AreQuoted : Scope → List Item → List GivenProof → List Change → Type 0
AreQuoted s items [] proofs = proofs ≡ []
AreQuoted s items (q ∷ qs) proofs =
    ((text : List ℕ) × (rest : List Change) × (proofs ≡ (q.label, text) ∷ rest) × IsQuotedAs s items q text × AreQuoted s items qs rest)
    ⊎ ((IsQuotable s q → CanBeWritten q.proof → ⊥) × AreQuoted s items qs proofs)

-- by items that the source spells
pub record IsQuotedBy (s : Scope) (source : List ℕ) (qs : List GivenProof) (proofs : List Change) : Type 0 where
  pub items : List Item
  pub rest : List ℕ
  pub spells : Spells items rest source
  pub quoted : AreQuoted s items qs proofs

-- where none are given, none is quoted
abbrev pub HasQuoted : Scope → List ℕ → List GivenProof → List Change → Type 0
HasQuoted s source [] proofs = proofs ≡ []
HasQuoted s source (q ∷ qs) proofs = IsQuotedBy s source (q ∷ qs) proofs
