-- What scripts give in their own words: compressed proofs (Metamath book, appendix B), and the labels of the `$e` of what they add
-- (section 4.2.8).
use Rattle.std.specs.Prelude.{◌≡◌, ◌-◌, ℕ, List, [], ◌∷◌, ◌++◌, map, filter_map, Option, Some, None, if◌then◌else◌}
use Rattle.std.specs.Option.{option_and_then, option_map, option_or}
use Rattle.mmtext.specs.Text.{Token}
use Rattle.mmtext.specs.Words.{Word}
use Rattle.source.specs.Scopes.{label_of}
use Rattle.source.specs.Statements.{Proof}
use Rattle.expanding.specs.Cuts.{Cut, cut_of}
use Rattle.expanding.specs.Descriptions.{begun_behind}
use Rattle.spreading.specs.Forms.{Part, AreParts}
use Rattle.pasting.specs.Additions.{Addition, addition_of}
use Rattle.pasting.specs.Pasted.{reproved}
use Rattle.pasting.specs.Proofs.{is_compressed, proof_of}

-- the words of a proof, or labels of `$e`, in order
pub data OwnWords : Type 0 where
  own_proof : Proof → OwnWords
  own_labels : List Word → OwnWords

-- a transaction of a script, from 0, gives them to the theorem with a label
pub record Quote : Type 0 where
  pub transaction : ℕ
  pub label : Word
  pub words : OwnWords

-- words for the theorem with a label
pub record Quotation : Type 0 where
  pub label : Word
  pub words : OwnWords

-- ---- those of a script

-- that label stands behind `reprove`, or is that of what is added
abbrev pub proved_label : Part → Cut → Option Token
proved_label p c = option_or (reproved c.front) (option_map (λ a. a.label) (addition_of p))

abbrev pub quoted_by : ℕ → Option Token → Option Proof → Option Quote
quoted_by n None proof = None
quoted_by n (Some t) proof = option_map (λ p. record { transaction = n; label = t.text; words = own_proof p }) proof

abbrev pub quote_in : ℕ → Part → Cut → Option Quote
quote_in n p c = if is_compressed c.proof then quoted_by n (proved_label p c) (proof_of c.proof) else None

-- the compressed proof that a part of a transaction gives
abbrev pub quote_of : ℕ → Part → Option Quote
quote_of n p = option_and_then (quote_in n p) (cut_of p)

-- the labels that it gives to the `$e` of what it adds
abbrev pub labels_by : ℕ → Addition → Quote
labels_by n a = record { transaction = n; label = a.label.text; words = own_labels (map label_of a.premises) }

abbrev pub labels_of : ℕ → Part → Option Quote
labels_of n p = option_map (labels_by n) (addition_of p)

abbrev pub listed : Option Quote → List Quote
listed None = []
listed (Some q) = q ∷ []

abbrev pub quotes_of : ℕ → Part → List Quote
quotes_of n p = listed (labels_of n p) ++ listed (quote_of n p)

-- those of parts, behind others with which so many transactions have begun; the last of these is the one that a part stands in
abbrev pub quotes_behind : ℕ → List Part → List Quote
quotes_behind begun [] = []
quotes_behind begun (p ∷ ps) = quotes_of (begun_behind begun p - 1) p ++ quotes_behind (begun_behind begun p) ps

-- a script with these words gives these, in order
abbrev pub AreQuotes : List Token → List Quote → Type 0
AreQuotes words qs = (parts : List Part) × AreParts words parts × (qs ≡ quotes_behind 0 parts)

-- ---- proofs and labels apart

-- the words of a proof for the theorem with a label
pub record GivenProof : Type 0 where
  pub label : Word
  pub proof : Proof

-- labels for the `$e` of the theorem with a label
pub record GivenLabels : Type 0 where
  pub label : Word
  pub premises : List Word

abbrev pub proof_by : Word → OwnWords → Option GivenProof
proof_by label (own_proof p) = Some (record { label = label; proof = p })
proof_by label (own_labels ws) = None

abbrev pub premises_by : Word → OwnWords → Option GivenLabels
premises_by label (own_proof p) = None
premises_by label (own_labels ws) = Some (record { label = label; premises = ws })

abbrev pub proofs_among : List Quotation → List GivenProof
proofs_among qs = filter_map (λ q. proof_by q.label q.words) qs

abbrev pub labels_among : List Quotation → List GivenLabels
labels_among qs = filter_map (λ q. premises_by q.label q.words) qs
