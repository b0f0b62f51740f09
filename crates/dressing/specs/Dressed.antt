-- A source dressed in what scripts give: given proofs stand in the words in which they were given, the `$e` of what was added have the
-- labels that were given to them, and what was added is described.
use Rattle.std.specs.Prelude.{◌≡◌, ◌⊎◌, ℕ, false, List, ◌∷◌, [], ◌++◌, Option, Some, None, codes}
use Rattle.std.specs.List.{flat_map, AllZip}
use Rattle.std.specs.Option.{option_map}
use Rattle.source.specs.Scopes.{Scope}
use Rattle.source.specs.Sources.{DeclaresText}
use Rattle.giving.specs.Staying.{Change}
use Rattle.items.specs.Bare.{has_proof}
use Rattle.items.specs.Items.{Piece, Item, bytes_of, label_of, Spells}
use Rattle.items.specs.Rewriting.{IsUpToProof, text_for}
use Rattle.pasting.specs.Quotes.{GivenLabels, GivenProof, Quotation, labels_among, proofs_among}
use Rattle.sourceediting.specs.Following.{Following}
use Rattle.dressing.specs.Described.{with_comment}
use Rattle.dressing.specs.Descriptions.{descriptions_then}
use Rattle.dressing.specs.Labels.{changes_from}
use Rattle.dressing.specs.OwnWords.{labels_then, proofs_then}
use Rattle.dressing.specs.Quoted.{HasQuoted}
use Rattle.dressing.specs.Relabelled.{relabelled}

-- ---- an item of it

-- with changed labels, and with this comment in front, if there is one
abbrev pub dressed : List Change → Option (List ℕ) → Item → List ℕ
dressed cs comment x = bytes_of (with_comment comment (relabelled cs false x))

-- and with this text for what stands between $= and $. (section 4.2.8), in which no label changes
pub record HasText (cs : List Change) (comment : Option (List ℕ)) (text : List ℕ) (x : Item) (now : List ℕ) : Type 0 where
  pub front : Item
  pub proof : Item
  pub last : Piece
  pub was : x ≡ front ++ (proof ++ last ∷ [])
  pub front_is : IsUpToProof front
  pub last_is : last.word ≡ codes "$."
  pub reads : now ≡ dressed cs comment front ++ (text ++ codes "$.")

-- where there is one; no theorem of a source is without $=
abbrev pub Reads : List Change → Option (List ℕ) → Option (List ℕ) → Item → List ℕ → Type 0
Reads cs comment None x now = now ≡ dressed cs comment x
Reads cs comment (Some text) x now = HasText cs comment text x now ⊎ ((has_proof x ≡ false) × (now ≡ dressed cs comment x))

-- the text for one of some labels
abbrev pub given_for : List Change → Item → Option (List ℕ)
given_for texts x = option_map (λ c. c.1) (text_for texts (label_of x))

-- these texts and comments are for the assertions with their labels
abbrev pub ReadsDressed : List Change → List Change → List Change → Item → List ℕ → Type 0
ReadsDressed proofs cs ds x now = Reads cs (given_for ds x) (given_for proofs x) x now

-- ---- the whole of it

-- a text is a source in which each item reads so, and the white space at its end is the same
pub record HasDressedItems (proofs cs ds : List Change) (source out : List ℕ) : Type 0 where
  pub items : List Item
  pub rest : List ℕ
  pub spells : Spells items rest source
  pub parts : List (List ℕ)
  pub each : AllZip (ReadsDressed proofs cs ds) items parts
  pub text : out ≡ flat_map (λ p. p) parts ++ rest

-- where there is nothing, it stays
abbrev pub IsDressedWith : List Change → List Change → List Change → List ℕ → List ℕ → Type 0
IsDressedWith [] [] [] source out = out ≡ source
IsDressedWith [] [] (d ∷ ds) source out = HasDressedItems [] [] (d ∷ ds) source out
IsDressedWith [] (c ∷ cs) ds source out = HasDressedItems [] (c ∷ cs) ds source out
IsDressedWith (p ∷ ps) cs ds source out = HasDressedItems (p ∷ ps) cs ds source out

-- those proofs are quoted that can be, `$e` have those labels that are free, and these comments describe
pub record IsDressedIn (qs : List GivenProof) (gs : List GivenLabels) (ds : List Change) (source out : List ℕ) : Type 0 where
  pub scope : Scope
  pub declares : DeclaresText source scope
  pub proofs : List Change
  pub quoted : HasQuoted scope source qs proofs
  pub items : IsDressedWith proofs (changes_from scope [] gs) ds source out

-- under the labels that assertions have in the end
abbrev pub IsDressed : List Quotation → List Change → Following → List ℕ → List ℕ → Type 0
IsDressed qs ds f source out =
    IsDressedIn (proofs_then (proofs_among qs) f) (labels_then (labels_among qs) f) (descriptions_then ds f) source out
