-- Candidates for fresh names are no longer than names.
use Rattle.std.proofs.Common.{◌≡◌, ◌≤◌, ◌<◌, ◌-◌, ◌+◌, ℕ, Bool, true, false, [], ◌∷◌, length, take, arith}
use Rattle.std.specs.Prelude.{if◌then◌else◌, ◌==◌}
use Rattle.std.specs.Fmt.{decimal}
use Rattle.std.proofs.lemmas.Fmt.{length-decimal-le}
use Rattle.std.proofs.lemmas.List.{length-map, length-append, length-take}
use Rattle.mmtext.specs.Words.{Word}
use Rattle.taking.specs.Fresh.{undotted, tail, candidate}

tail_by : (b : Bool) (k : ℕ) → k < 1000 → length (if b then [] else 95 ∷ decimal k) ≤ 4
tail_by true k h = omega arith
tail_by false k h =
    let digits : length (decimal k) ≤ 3 = length-decimal-le 3 k (omega arith) (omega arith) (omega arith) in
    omega arith

pub fits : (w : Word) (k : ℕ) → k < 1000 → length (candidate w k) ≤ 255
fits w k h =
    let short : length (tail k) ≤ 4 = tail_by (k == 0) k h in
    let room : ℕ = 255 - length (tail k) in
    let both : length (candidate w k) ≡ length (undotted (take room w)) + length (tail k) =
    length-append (undotted (take room w)) (tail k) in
    let front : length (undotted (take room w)) ≡ length (take room w) =
    length-map (take room w) (λ b. if b == 46 then 95 else b) in
    let cut = length-take room w in
    omega arith
