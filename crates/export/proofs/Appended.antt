-- What a writer holds after one call of `write` behind a front of some bytes.
use Rattle.std.proofs.Common.{◌≡◌, ℕ, ◌+◌, List, ◌++◌, take, drop, Option, Some, None, sym, ap, ◌∙◌, arith, append_assoc}
use Rattle.std.proofs.lemmas.List.{take-append-drop, take-take, drop-take}
use Rattle.std.specs.Io.KnownBytes.{Appends}

-- bytes behind bytes
Appends-append : (a b c : Option (List ℕ)) (xs ys : List ℕ) → Appends a b xs → Appends b c ys → Appends a c (xs ++ ys)
Appends-append None b c xs ys h k = tt
Appends-append (Some s) None c xs ys h k = absurd h
Appends-append (Some s) (Some t) None xs ys h k = absurd k
Appends-append (Some s) (Some t) (Some u) xs ys h k = k ∙ ap (λ x. x ++ ys) h ∙ append_assoc s xs ys

take-add : (m n : ℕ) (xs : List ℕ) → take (m + n) xs ≡ take m xs ++ take n (drop m xs)
take-add m n xs =
    let front = take (m + n) xs in
    sym (take-append-drop m front)
    ∙ ap (λ x. x ++ drop m front) (take-take m (m + n) xs (omega arith))
    ∙ ap (λ x. take m xs ++ x) (drop-take m n xs)

-- n more bytes behind the first m
pub Appends-more : (a b c : Option (List ℕ)) (m n : ℕ) (xs : List ℕ) →
    Appends a b (take m xs) → Appends b c (take n (drop m xs)) → Appends a c (take (m + n) xs)
Appends-more a b c m n xs h k = rw (take-add m n xs) (Appends-append a b c (take m xs) (take n (drop m xs)) h k)
