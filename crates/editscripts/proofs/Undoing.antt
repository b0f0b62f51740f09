-- What is told of transactions: one more of them, one more script.
use Rattle.std.proofs.Common.{◌≡◌, ◌<◌, ◌+◌, ℕ, suc, true, false, List, [], ◌∷◌, ◌++◌, length, map, take, codes, Some}
use Rattle.std.proofs.Common.{refl, sym, ap, ◌∙◌, append_assoc, arith}
use Rattle.std.specs.Prelude.{slice_get}
use Rattle.std.specs.Fmt.{decimal}
use Rattle.std.proofs.lemmas.Bool.{cond-true, cond-false}
use Rattle.std.proofs.lemmas.List.{append-nil, length-take-le}
use Rattle.mmsyntax.proofs.Items.{take_next}
use Rattle.library.specs.declared.command.Command.{Command}
use Rattle.transaction.specs.declared.outcome.Outcome.{Outcome}
use Rattle.checking.specs.Checks.{Bytes}
use Rattle.editscripts.specs.Undone.{is_done, undone_text, undone_line, each_from}

-- ---- what each of a list has

pub each_more : {A B : Type 0} (F : ℕ → A → List B) (n : ℕ) (xs : List A) (x : A)
    → each_from F n (xs ++ x ∷ []) ≡ each_from F n xs ++ F (n + length xs) x
each_more F n [] x = append-nil (F n x) ∙ ap (λ k. F k x) (omega arith)
each_more F n (y ∷ ys) x =
    ap (λ ls. F n y ++ ls) (each_more F (suc n) ys x)
    ∙ sym (append_assoc (F n y) (each_from F (suc n) ys) (F (suc n + length ys) x))
    ∙ ap (λ k. (F n y ++ each_from F (suc n) ys) ++ F k x) (omega arith)

-- of a view of the list
pub each_seen : {A B C : Type 0} (I : A → B) (F : ℕ → B → List C) (n : ℕ) (xs : List A)
    → each_from F n (map I xs) ≡ each_from (λ k x. F k (I x)) n xs
each_seen I F n [] = refl
each_seen I F n (x ∷ xs) = ap (λ ls. F n (I x) ++ ls) (each_seen I F (suc n) xs)

-- one more
pub each_next : {A B : Type 0} (F : ℕ → A → List B) (xs : List A) (k : ℕ) (x : A) → slice_get xs k ≡ Some x → k < length xs
    → (start before now : List B) → now ≡ before ++ F k x → before ≡ start ++ each_from F 0 (take k xs)
    → now ≡ start ++ each_from F 0 (take (k + 1) xs)
each_next F xs k x at within start before now next first =
    let long = length-take-le k xs (omega arith) in
    let old = each_from F 0 (take k xs) in
    next
    ∙ ap (λ ls. ls ++ F k x) first
    ∙ append_assoc start old (F k x)
    ∙ ap (λ ls. start ++ ls)
    (sym (ap (each_from F 0) (take_next xs k x at) ∙ each_more F 0 (take k xs) x ∙ ap (λ n. old ++ F n x) (omega arith)))

-- ---- the line of one

pub line_of_done : (path : Bytes) (line : ℕ) (commands : List Command) (o : Outcome) → is_done o ≡ true
    → [] ≡ undone_line path line commands o
line_of_done path line commands o done =
    sym (cond-true (is_done o) []
    ((path ++ (codes ":" ++ (decimal line ++ (codes ": " ++ undone_text commands o)))) ∷ []) done)

pub line_of_undone : (path : Bytes) (line : ℕ) (commands : List Command) (o : Outcome) (text : Bytes) → is_done o ≡ false
    → text ≡ undone_text commands o
    → (path ++ (codes ":" ++ (decimal line ++ (codes ": " ++ text)))) ∷ [] ≡ undone_line path line commands o
line_of_undone path line commands o text undone is =
    ap (λ t. (path ++ (codes ":" ++ (decimal line ++ (codes ": " ++ t)))) ∷ []) is
    ∙ sym (cond-false (is_done o) []
    ((path ++ (codes ":" ++ (decimal line ++ (codes ": " ++ undone_text commands o)))) ∷ []) undone)
