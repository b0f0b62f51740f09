-- The descriptions of what scripts add: a comment right in front of an assertion (Metamath book, section 4.1.2).
use Rattle.std.specs.Prelude.{◌≡◌, ℕ, suc, Bool, ◌+◌, ◌-◌, ◌||◌, nat_eq, List, [], ◌∷◌, ◌++◌, take, drop, find, length, Option, Some, None, if◌then◌else◌, codes}
use Rattle.std.specs.Option.{option_map}
use Rattle.mmtext.specs.Text.{Token, tokens}
use Rattle.mmtext.specs.Words.{Word}
use Rattle.spreading.specs.Words.{says}
use Rattle.spreading.specs.Forms.{Part, AreParts, begins_with, place_length}

-- ---- comments

-- the bytes of a text from one place up to another
abbrev pub between : List ℕ → ℕ → ℕ → List ℕ
between text from to = drop from (take to text)

-- a place, and the bytes of the comment right in front of it
abbrev pub Front : Type 0
Front = ℕ × List ℕ

-- a word that a comment stands right in front of: the token before it is a `$)`, which ends at a place
abbrev pub front_at : List ℕ → ℕ → Option ℕ → Token → List Front
front_at text opened None t = []
front_at text opened (Some end) t = if says t (codes "$(") then [] else (t.place, between text opened end) ∷ []

-- a comment begins with a `$(`, and ends with a `$)`
abbrev pub opened_at : ℕ → Token → ℕ
opened_at opened t = if says t (codes "$(") then t.place else opened

abbrev pub closed_at : Token → Option ℕ
closed_at t = if says t (codes "$)") then Some (t.place + length t.text) else None

-- those of tokens, behind others: the last `$(` of these stands at a place, and the last token of these, if it is a `$)`, ends at one
abbrev pub fronts_behind : List ℕ → ℕ → Option ℕ → List Token → List Front
fronts_behind text opened closed [] = []
fronts_behind text opened closed (t ∷ ts) = front_at text opened closed t ++ fronts_behind text (opened_at opened t) (closed_at t) ts

-- the places of words outside of comments that have a comment right in front of them, in order, with its bytes
abbrev pub fronts : List ℕ → List Front
fronts text = fronts_behind text 0 None (tokens text)

-- the comment right in front of the word at a place
abbrev pub comment_at : List Front → ℕ → Option (List ℕ)
comment_at fs place = option_map (λ f. f.1) (find (λ f. nat_eq place f.0) fs)

-- ---- assertions

-- the words of the assertion of an `add`
abbrev pub unit_behind : List Token → List Token
unit_behind ts = drop (place_length ts) ts

abbrev pub unit_of : Part → List Token
unit_of p = unit_behind (drop 1 p)

-- its label: the word in front of `$a` or `$p`
abbrev pub is_assertion_mark : Token → Bool
is_assertion_mark t = says t (codes "$a") || says t (codes "$p")

abbrev pub label_in : List Token → Option Token
label_in [] = None
label_in (t ∷ []) = None
label_in (t ∷ u ∷ ts) = if is_assertion_mark u then Some t else label_in (u ∷ ts)

-- ---- descriptions

-- the description of an assertion that a transaction of a script adds, from 0
pub record Description : Type 0 where
  pub transaction : ℕ
  pub label : Word
  pub comment : List ℕ

abbrev pub or_else : Option (List ℕ) → Option (List ℕ) → Option (List ℕ)
or_else None other = other
or_else (Some c) other = Some c

-- the comment right in front of the label, or else right in front of the first word
abbrev pub comment_of : List Front → Token → List Token → Option (List ℕ)
comment_of fs label [] = None
comment_of fs label (first ∷ rest) = or_else (comment_at fs label.place) (comment_at fs first.place)

abbrev pub described_by : List Front → ℕ → List Token → Option Token → Option Description
described_by fs n unit None = None
described_by fs n unit (Some label) =
    option_map (λ c. record { transaction = n; label = label.text; comment = c }) (comment_of fs label unit)

-- what a part of a transaction describes
abbrev pub description_of : List Front → ℕ → Part → Option Description
description_of fs n p = if begins_with (codes "add") p then described_by fs n (unit_of p) (label_in (unit_of p)) else None

abbrev pub listed : Option Description → List Description
listed None = []
listed (Some d) = d ∷ []

-- so many transactions have begun behind a part
abbrev pub begun_behind : ℕ → Part → ℕ
begun_behind begun p = if begins_with (codes "begin") p then suc begun else begun

-- those of parts, behind others with which so many transactions have begun; the last of these is the one that a part stands in
abbrev pub descriptions_behind : List Front → ℕ → List Part → List Description
descriptions_behind fs begun [] = []
descriptions_behind fs begun (p ∷ ps) =
    listed (description_of fs (begun_behind begun p - 1) p) ++ descriptions_behind fs (begun_behind begun p) ps

-- those of a script with a text, in order
abbrev pub descriptions : List ℕ → List Part → List Description
descriptions text ps = descriptions_behind (fronts text) 0 ps

-- a script with a text and these words has these descriptions
abbrev pub IsDescriptive : List ℕ → List Token → List Description → Type 0
IsDescriptive text words ds = (parts : List Part) × AreParts words parts × (ds ≡ descriptions text parts)
