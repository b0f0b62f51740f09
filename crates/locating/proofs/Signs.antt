-- A text that is put several times.
use Rattle.std.proofs.Common.{◌≡◌, ◌∙◌, ℕ, zero, suc, ◌+◌, List, ◌++◌, sym, ap, add-one, append_assoc}
use Rattle.std.specs.List.{repeat}
use Rattle.std.proofs.lemmas.List.{append-nil}

-- once more behind is once more in front
repeat_behind : {A : Type 0} (n : ℕ) (xs : List A) → repeat n xs ++ xs ≡ xs ++ repeat n xs
repeat_behind zero xs = sym (append-nil xs)
repeat_behind (suc n) xs = append_assoc xs (repeat n xs) xs ∙ ap (λ ys. xs ++ ys) (repeat_behind n xs)

pub once_more : {A : Type 0} (n : ℕ) (xs old : List A) → (old ++ repeat n xs) ++ xs ≡ old ++ repeat (n + 1) xs
once_more n xs old =
    append_assoc old (repeat n xs) xs
    ∙ ap (λ ys. old ++ ys) (repeat_behind n xs ∙ ap (λ m. repeat m xs) (sym (add-one n)))
