-- Codes that were read, before those of the letters that are left.
use Rattle.std.proofs.Common.{◌≡◌, ℕ, ◌+◌, ◌<◌, ◌≤◌, List, [], ◌∷◌, ◌++◌, length, get_or, drop, refl, sym, ap, ◌∙◌, append_assoc, append-nil, ◌⊎◌, inl, inr, ne_eqb}
use Rattle.std.specs.Prelude.{Option, Some, None, ◌==◌, if◌then◌else◌}
use Rattle.std.proofs.lemmas.List.{at_drop_more, at_drop_all}
use Rattle.source.specs.declared.letters.Turn.{Turn}
use Rattle.source.specs.Letters.{turn_at, Decoded, before, turned, decoded, uncut}
use Rattle.source.specs.declared.letters.Code.{Code}

-- codes that stand before those of the rest
abbrev pub following : List Code → Option Decoded → Option Decoded
following cs None = None
following cs (Some d) = Some (record d { codes = cs ++ d.codes })

-- a letter is read, and what it says stands before what the rest says
pub read_on : (letters : List ℕ) (i front : ℕ) (turn : Option Turn) → i < length letters
    → turn ≡ turn_at front (get_or letters i 0)
    → decoded front (drop i letters) ≡ turned turn (λ f. decoded f (drop (i + 1) letters))
unfolding decoded
read_on letters i front turn lt is =
    at_drop_more (λ xs. decoded front xs) letters i 0 lt
    ∙ ap (λ t. turned t (λ f. decoded f (drop (i + 1) letters))) (sym is)

-- a code goes to the end of those that were read
pub said_on : (cs : List Code) (c : Code) (rest : Option Decoded) → following cs (before (Some c) rest) ≡ following (cs ++ c ∷ []) rest
said_on cs c None = refl
said_on cs c (Some d) = ap (λ xs. Some (record d { codes = xs })) (sym (append_assoc cs (c ∷ []) d.codes))

-- no letter is left
pub read_all : (letters : List ℕ) (i front : ℕ) → length letters ≤ i
    → decoded front (drop i letters) ≡ Some (record { codes = []; front = front })
unfolding decoded
read_all letters i front le = at_drop_all (λ xs. decoded front xs) letters i le

-- a letter is read that says a code, or none
pub one_more : (cs now : List Code) (t : Turn) (letters : List ℕ) (i front : ℕ) → i < length letters
    → Some t ≡ turn_at front (get_or letters i 0)
    → ((c : Code) × (t.said ≡ Some c) × (now ≡ cs ++ c ∷ [])) ⊎ ((t.said ≡ None) × (now ≡ cs))
    → following cs (decoded front (drop i letters)) ≡ following now (decoded t.front (drop (i + 1) letters))
one_more cs now t letters i front lt is (inl said) =
    ap (following cs) (read_on letters i front (Some t) lt is)
    ∙ ap (λ s. following cs (before s (decoded t.front (drop (i + 1) letters)))) said.1
    ∙ said_on cs said.0 (decoded t.front (drop (i + 1) letters))
    ∙ ap (λ xs. following xs (decoded t.front (drop (i + 1) letters))) (sym said.2)
one_more cs now t letters i front lt is (inr said) =
    ap (following cs) (read_on letters i front (Some t) lt is)
    ∙ ap (λ s. following cs (before s (decoded t.front (drop (i + 1) letters)))) said.0
    ∙ ap (λ xs. following xs (decoded t.front (drop (i + 1) letters))) (sym said.1)

-- the same, where the front is the turn's
pub one_on : (cs now : List Code) (t : Turn) (letters : List ℕ) (i front f : ℕ) → i < length letters
    → Some t ≡ turn_at front (get_or letters i 0) → f ≡ t.front
    → ((c : Code) × (t.said ≡ Some c) × (now ≡ cs ++ c ∷ [])) ⊎ ((t.said ≡ None) × (now ≡ cs))
    → following cs (decoded front (drop i letters)) ≡ following now (decoded f (drop (i + 1) letters))
one_on cs now t letters i front f lt is f-is said =
    one_more cs now t letters i front lt is said ∙ ap (λ x. following now (decoded x (drop (i + 1) letters))) (sym f-is)

-- all letters are read, and no number is cut
pub whole : (cs : List Code) (letters : List ℕ) (i front : ℕ) → length letters ≤ i → front ≡ 0
    → uncut (following cs (decoded front (drop i letters))) ≡ Some cs
whole cs letters i front le zero' =
    ap (λ d. uncut (following cs d)) (read_all letters i front le)
    ∙ ap (λ n. if n == 0 then Some (cs ++ []) else None) zero'
    ∙ ap Some (append-nil cs)

-- all letters are read, and one is cut
pub cut : (cs : List Code) (letters : List ℕ) (i front : ℕ) → length letters ≤ i → (front ≡ 0 → ⊥)
    → uncut (following cs (decoded front (drop i letters))) ≡ None
cut cs letters i front le more =
    ap (λ d. uncut (following cs d)) (read_all letters i front le)
    ∙ ap (λ b. if b then Some (cs ++ []) else None) (ne_eqb front 0 more)
