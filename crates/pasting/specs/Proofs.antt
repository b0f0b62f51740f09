-- Words as a proof of an assertion of a source, as they would stand there: normal (Metamath book, section 4.1.4) or compressed
-- (appendix B); and the proof of a library that lists the same tree.
use Rattle.std.specs.Prelude.{ℕ, suc, Bool, false, nat_le, List, [], ◌∷◌, take, drop, find, position, Option, Some, None, is_some, if◌then◌else◌}
use Rattle.std.specs.Prelude.{codes}
use mathlib.Core.Bool.{not}
use Rattle.mmtext.specs.Text.{Token}
use Rattle.mmtext.specs.declared.fault.FaultKind.{FaultKind}
use Rattle.mmtext.specs.declared.fault.FaultKind.TheVariants.{BadToken, OutOfProfile, TooLong, UnknownLabel}
use Rattle.mmsyntax.specs.declared.statement.Step.{Step}
use Rattle.mmsyntax.specs.declared.limits.TheConstants.{MOST_STEPS}
use Rattle.source.specs.Statements.{Proof, normal, compressed}
use Rattle.source.specs.Scopes.{Assertion}
use Rattle.source.specs.Proofs.{Tree, taken_by, denoted, is_unfinished, size}
use Rattle.taking.specs.Names.{Map}
use Rattle.taking.specs.Listings.{listing}
use Rattle.spreading.specs.Words.{says}
use Rattle.expanding.specs.Asking.{spoken_in}

-- ---- words as a proof

-- ( begins a compressed proof
abbrev pub is_compressed : List Token → Bool
is_compressed [] = false
is_compressed (t ∷ ts) = says t (codes "(")

-- behind it stand labels, and behind ) letters
abbrev pub compressed_at : List Token → Option ℕ → Option Proof
compressed_at ts None = None
compressed_at ts (Some n) = Some (compressed (spoken_in (take n ts)) (spoken_in (drop (suc n) ts)))

abbrev pub closing_in : List Token → Option ℕ
closing_in ts = position (λ t. says t (codes ")")) ts

abbrev pub proof_of : List Token → Option Proof
proof_of ts = if is_compressed ts then compressed_at (drop 1 ts) (closing_in (drop 1 ts)) else Some (normal (spoken_in ts))

-- the words of it that are labels
abbrev pub labels_at : List Token → Option ℕ → List Token
labels_at ts None = []
labels_at ts (Some n) = take n ts

abbrev pub labels_among : List Token → List Token
labels_among ts = if is_compressed ts then labels_at (drop 1 ts) (closing_in (drop 1 ts)) else ts

-- ---- what they say there

-- a proof of the library; or nothing, since something that is named isn't taken; or a fault, which is told at a word
pub data Given : Type 0 where
  steps : List Step → Given
  untaken : Given
  faulty : Token → FaultKind → Given

abbrev pub given_by_listing : Option (List Step) → Given
given_by_listing None = untaken
given_by_listing (Some xs) = steps xs

-- a proof of the library has at most 16,384 steps (a rule of the profile)
abbrev pub given_by_tree : Map → List Assertion → Assertion → Token → Token → Option Tree → Given
given_by_tree m earlier x first last None = faulty last BadToken
given_by_tree m earlier x first last (Some t) =
    if nat_le (size t) MOST_STEPS then given_by_listing (listing m earlier x.active t) else faulty first TooLong

-- each label is that of an active hypothesis or of an earlier assertion (section 4.2.8)
abbrev pub is_unnamed : List Assertion → Assertion → Token → Bool
is_unnamed earlier x t = not (is_some (taken_by earlier x.active t.text))

abbrev pub given_by_labels : Map → List Assertion → Assertion → Token → Token → Proof → Option Token → Given
given_by_labels m earlier x first last proof (Some t) = faulty t UnknownLabel
given_by_labels m earlier x first last proof None =
    given_by_tree m earlier x first last (denoted earlier (record x { proof = Some proof }))

-- no step of it is missing (a rule of the profile)
abbrev pub given_by_proof : Map → List Assertion → Assertion → Token → List Token → Token → Option Proof → Given
given_by_proof m earlier x first ts last None = faulty last BadToken
given_by_proof m earlier x first ts last (Some proof) =
    if is_unfinished proof then faulty first OutOfProfile
    else given_by_labels m earlier x first last proof (find (is_unnamed earlier x) (labels_among ts))

-- words say this as the proof of an assertion behind earlier ones, in front of the word that ends them
abbrev pub given : Map → List Assertion → Assertion → List Token → Token → Given
given m earlier x [] last = faulty last BadToken
given m earlier x (first ∷ ts) last = given_by_proof m earlier x first (first ∷ ts) last (proof_of (first ∷ ts))
