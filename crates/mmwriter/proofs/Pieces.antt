-- The lines of the pieces of a block, one behind the other, and of a unit with a block.
use Rattle.std.proofs.Common.{◌≡◌, ℕ, suc, ◌+◌, ◌<◌, eqb, false, List, [], ◌∷◌, ◌++◌, length, get_or, take, map, refl, sym, ap, ◌∙◌, ◌⊎◌}
use Rattle.std.proofs.Common.{inl, inr, arith, append_assoc}
use Rattle.std.specs.List.{flat_map}
use Rattle.std.proofs.lemmas.List.{append-nil, take_more, length-take-le}
use Rattle.std.proofs.lemmas.List.Concat.{flat_map-cons}
use Rattle.std.proofs.lemmas.Grind.{flat_map-append}
use Rattle.mmsyntax.specs.declared.statement.Symbol.{Symbol}
use Rattle.mmsyntax.specs.declared.statement.Assertion.{Assertion}
use Rattle.mmtext.specs.Words.{Word}
use Rattle.mmsyntax.specs.Tables.{Tables}
use Rattle.mmsyntax.specs.Grammar.{Piece, hypothesis, block, piece_spelling}
use Rattle.mmsyntax.specs.Layout.{hypothesis_label, symbol_word, distinct_pieces, hypothesis_pieces, claim_of, unit_of, indented}
use Rattle.mmsyntax.specs.Layout.{statement_text, assertion_text}

-- the lines of pieces
abbrev pub piece_lines : List Piece → List ℕ
piece_lines ps = flat_map (λ p. indented (piece_spelling p)) ps

hypotheses_push : (t : Tables) (label : Word) (n : ℕ) (es : List (List Symbol)) (e : List Symbol)
    → hypothesis_pieces t label n (es ++ e ∷ []) ≡ hypothesis_pieces t label n es
    ++ hypothesis (hypothesis_label label (suc (n + length es))) (map (symbol_word t) e) ∷ []
hypotheses_push t label n [] e =
    let z : n ≡ n + 0 = omega arith in
    ap (λ k. hypothesis (hypothesis_label label (suc k)) (map (symbol_word t) e) ∷ []) z
hypotheses_push t label n (x ∷ es) e =
    let s : suc n + length es ≡ n + suc (length es) = omega arith in
    ap (λ ps. hypothesis (hypothesis_label label (suc n)) (map (symbol_word t) x) ∷ ps)
    (hypotheses_push t label (suc n) es e ∙ ap (λ k. hypothesis_pieces t label (suc n) es
    ++ hypothesis (hypothesis_label label (suc k)) (map (symbol_word t) e) ∷ []) s)

-- one more hypothesis, by its number from 1
pub one_more : (t : Tables) (label : Word) (hyps : List (List Symbol)) (i number : ℕ) (e d : List Symbol) (out next : List ℕ)
    → i < length hyps → e ≡ get_or hyps i d → number ≡ i + 1
    → next ≡ (out ++ piece_lines (hypothesis_pieces t label 0 (take i hyps)))
    ++ indented (piece_spelling (hypothesis (hypothesis_label label number) (map (symbol_word t) e)))
    → next ≡ out ++ piece_lines (hypothesis_pieces t label 0 (take (i + 1) hyps))
one_more t label hyps i number e d out next lt it counts h =
    let piece = λ (k : ℕ) (x : List Symbol). hypothesis (hypothesis_label label k) (map (symbol_word t) x) in
    let before = hypothesis_pieces t label 0 (take i hyps) in
    let len : suc (0 + length (take i hyps)) ≡ number = omega (arith, length-take-le i hyps (omega arith)) in
    let grown : hypothesis_pieces t label 0 (take (i + 1) hyps) ≡ before ++ piece number e ∷ [] =
    ap (hypothesis_pieces t label 0) (take_more hyps i d lt ∙ ap (λ x. take i hyps ++ x ∷ []) (sym it))
    ∙ hypotheses_push t label 0 (take i hyps) e ∙ ap (λ k. before ++ piece k e ∷ []) len in
    h ∙ append_assoc out (piece_lines before) (indented (piece_spelling (piece number e)))
    ∙ ap (λ x. out ++ (piece_lines before ++ x)) (sym (append-nil (indented (piece_spelling (piece number e))))
    ∙ sym (flat_map-cons (λ p. indented (piece_spelling p)) (piece number e) []))
    ∙ ap (λ x. out ++ x) (sym (flat_map-append (λ p. indented (piece_spelling p)) before (piece number e ∷ []))
    ∙ ap piece_lines (sym grown))

-- one more item and its lines
pub lines_more : {A : Type 0} (f : A → List ℕ) (xs : List A) (i : ℕ) (x d : A) (out next : List ℕ) → i < length xs → x ≡ get_or xs i d
    → next ≡ (out ++ flat_map f (take i xs)) ++ f x → next ≡ out ++ flat_map f (take (i + 1) xs)
lines_more f xs i x d out next lt it h =
    let front = take i xs in
    h ∙ append_assoc out (flat_map f front) (f x)
    ∙ ap (λ y. out ++ (flat_map f front ++ y)) (sym (append-nil (f x)) ∙ sym (flat_map-cons f x []))
    ∙ ap (λ y. out ++ y) (sym (flat_map-append f front (x ∷ []))
    ∙ ap (flat_map f) (sym (take_more xs i d lt ∙ ap (λ y. front ++ y ∷ []) (sym it))))

pub some_items : {A : Type 0} (xs : List A) → eqb (length xs) 0 ≡ false → 0 < length xs
some_items [] h = absurd cc
some_items (x ∷ xs) h = omega arith

-- a unit with pairs or hypotheses stands in a block
pub block_text : (t : Tables) (a : Assertion) → (0 < length a.pairs) ⊎ (0 < length a.hyps)
    → assertion_text t a ≡ statement_text (block (distinct_pieces t a.pairs ++ hypothesis_pieces t a.label 0 a.hyps) (claim_of t a))
block_text t a some = any a.pairs a.hyps some
  where
    any : (ps : List (ℕ × ℕ)) (hs : List (List Symbol)) → (0 < length ps) ⊎ (0 < length hs)
        → statement_text (unit_of (distinct_pieces t ps ++ hypothesis_pieces t a.label 0 hs) (claim_of t a))
        ≡ statement_text (block (distinct_pieces t ps ++ hypothesis_pieces t a.label 0 hs) (claim_of t a))
    any (x ∷ ps) hs p = refl
    any [] (x ∷ hs) p = refl
    any [] [] (inl p) = absurd (omega arith)
    any [] [] (inr p) = absurd (omega arith)
