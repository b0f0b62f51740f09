-- How many words expressions have, from the front.
use Rattle.std.proofs.Common.{◌≡◌, ℕ, zero, suc, ◌+◌, ◌<◌, ◌≤◌, List, [], ◌∷◌, length, get_or, take, sym, ap, ◌∙◌, arith, length-append}
use Rattle.std.proofs.lemmas.List.{length-map}
use Rattle.mmsyntax.specs.declared.statement.Symbol.{Symbol}
use Rattle.bodystore.specs.Bodies.{symbol_word, expression_words, expressions_words}

length-expression : (e : List Symbol) → length (expression_words e) ≡ length e + 1
length-expression e = let n = length-map e symbol_word in omega (arith, n)

expressions_next : (es : List (List Symbol)) (i : ℕ) (d : List Symbol) → i < length es
    → length (expressions_words (take (suc i) es)) ≡ length (expressions_words (take i es)) + length (get_or es i d) + 1
expressions_next [] i d lt = absurd (omega arith)
expressions_next (e ∷ es) zero d lt = let n = length-expression e in omega (arith, length-append (expression_words e) [], n)
expressions_next (e ∷ es) (suc i) d lt =
    let next = expressions_next es i d (omega arith) in
    omega (
      arith,
      next,
      length-append (expression_words e) (expressions_words (take (suc i) es)),
      length-append (expression_words e) (expressions_words (take i es)),
    )

-- one expression more
pub expressions_more : (es : List (List Symbol)) (i : ℕ) (e : List Symbol) → i < length es → e ≡ get_or es i e
    → length (expressions_words (take (i + 1) es)) ≡ length (expressions_words (take i es)) + length e + 1
expressions_more es i e lt same =
    ap (λ n. length (expressions_words (take n es))) (let k : i + 1 ≡ suc i = omega arith in k) ∙ expressions_next es i e lt
    ∙ ap (λ (x : List Symbol). length (expressions_words (take i es)) + length x + 1) (sym same)

pub expressions_part : (es : List (List Symbol)) (i : ℕ) → length (expressions_words (take i es)) ≤ length (expressions_words es)
expressions_part [] zero = omega arith
expressions_part [] (suc i) = omega arith
expressions_part (e ∷ es) zero = omega arith
expressions_part (e ∷ es) (suc i) =
    let rest = expressions_part es i in
    omega (
      arith,
      rest,
      length-append (expression_words e) (expressions_words (take i es)),
      length-append (expression_words e) (expressions_words es),
    )

-- what is left of a room behind the first expressions is too little for the next
pub too_little : (es : List (List Symbol)) (i left room : ℕ) (e : List Symbol) → i < length es → e ≡ get_or es i e
    → left + length (expressions_words (take i es)) ≡ room → left < length e + 1 → room < length (expressions_words es)
too_little es i left room e lt same taken short =
    let next = expressions_more es i e lt same in
    let all = expressions_part es (i + 1) in
    omega (arith, next, all, taken, short)

-- or it is enough
pub enough : (es : List (List Symbol)) (i left rest room : ℕ) (e : List Symbol) → i < length es → e ≡ get_or es i e
    → left + length (expressions_words (take i es)) ≡ room → rest + length e + 1 ≡ left
    → rest + length (expressions_words (take (i + 1) es)) ≡ room
enough es i left rest room e lt same taken long =
    let next = expressions_more es i e lt same in
    omega (arith, next, taken, long)
