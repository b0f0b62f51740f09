-- Pieces that were put one behind the other.
use Rattle.std.proofs.Common.{◌≡◌, ◌∙◌, ◌++◌, ◌≤◌, ℕ, List, ap, append_assoc, length, map, sym, take}
use Rattle.std.specs.Fmt.{decimal}
use Rattle.std.specs.List.{flat_map}
use Rattle.std.proofs.lemmas.List.{length-map, take_all}

pub five_joined : (old a b m d e o1 o2 o3 o4 o5 : List ℕ) → o1 ≡ old ++ a → o2 ≡ o1 ++ b → o3 ≡ o2 ++ m → o4 ≡ o3 ++ d → o5 ≡ o4 ++ e
    → o5 ≡ old ++ (a ++ (b ++ (m ++ (d ++ e))))
five_joined old a b m d e o1 o2 o3 o4 o5 e1 e2 e3 e4 e5 =
    e5 ∙ (ap (λ x. x ++ e) (e4 ∙ ap (λ x. x ++ d) (e3 ∙ ap (λ x. x ++ m) (e2 ∙ ap (λ x. x ++ b) e1)))
    ∙ (append_assoc (((old ++ a) ++ b) ++ m) d e ∙ (append_assoc ((old ++ a) ++ b) m (d ++ e)
    ∙ (append_assoc (old ++ a) b (m ++ (d ++ e)) ∙ append_assoc old a (b ++ (m ++ (d ++ e)))))))

-- lines behind their number
pub counted : {A B : Type 0} (f : A → B) (g : B → List ℕ) (xs : List A) (i : ℕ) (old mid out head tail : List ℕ) → length xs ≤ i
    → mid ≡ old ++ (head ++ (decimal (length xs) ++ tail)) → out ≡ mid ++ flat_map g (map f (take i xs))
    → out ≡ old ++ (head ++ (decimal (length (map f xs)) ++ (tail ++ flat_map g (map f xs))))
counted f g xs i old mid out head tail past front all =
    let lines = flat_map g (map f xs) in
    let number = decimal (length xs) in
    all ∙ (ap (λ ys. mid ++ flat_map g (map f ys)) (take_all i xs past) ∙ (ap (λ x. x ++ lines) front
    ∙ (append_assoc old (head ++ (number ++ tail)) lines ∙ ap (λ x. old ++ x) (append_assoc head (number ++ tail) lines
    ∙ ap (λ x. head ++ x) (append_assoc number tail lines ∙ ap (λ n. decimal n ++ (tail ++ lines)) (sym (length-map xs f)))))))
