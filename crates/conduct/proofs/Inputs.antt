-- How many of some paths stand for the standard input.
use Rattle.std.proofs.Common.{◌≡◌, ◌∙◌, ◌+◌, ◌<◌, ◌≤◌, ℕ, Bool, true, false, List, Bor, ap, get_or, length, map, nat_lt, sym, take}
use Rattle.std.proofs.lemmas.List.{length-map, take_all}
use Rattle.std.proofs.lemmas.List.Sums.{count_by_more_no, count_by_more_yes}
use Rattle.std.proofs.Math.ListN.{get_or-map}
use Rattle.std.specs.Prelude.{count_by}
use Rattle.conduct.specs.Manner.{is_input, is_input_twice}
use Rattle.outside.specs.Events.{Bytes}

abbrev pub seen : List (Bor (List ℕ)) → List Bytes
seen ps = map (λ (p : Bor (List ℕ)). p.now) ps

-- so many of the first paths do
abbrev pub inputs_of : List (Bor (List ℕ)) → ℕ → ℕ
inputs_of ps k = count_by is_input (take k (seen ps))

within : (ps : List (Bor (List ℕ))) (k : ℕ) → k < length ps → k < length (seen ps)
within ps k lt = rw (length-map ps (λ (p : Bor (List ℕ)). p.now)) lt

-- one more does
pub one_more : (ps : List (Bor (List ℕ))) (k : ℕ) (d : Bor (List ℕ)) → k < length ps → is_input (get_or ps k d).now ≡ true
    → inputs_of ps (k + 1) ≡ inputs_of ps k + 1
one_more ps k d lt is =
    count_by_more_yes is_input (seen ps) k d.now (within ps k lt) (ap is_input (get_or-map (λ (p : Bor (List ℕ)). p.now) ps k d) ∙ is)

-- or doesn't
pub none_more : (ps : List (Bor (List ℕ))) (k : ℕ) (d : Bor (List ℕ)) → k < length ps → is_input (get_or ps k d).now ≡ false
    → inputs_of ps (k + 1) ≡ inputs_of ps k
none_more ps k d lt is =
    count_by_more_no is_input (seen ps) k d.now (within ps k lt) (ap is_input (get_or-map (λ (p : Bor (List ℕ)). p.now) ps k d) ∙ is)

-- all were counted
pub all_counted : (ps : List (Bor (List ℕ))) (k many : ℕ) → length ps ≤ k → many ≡ inputs_of ps k
    → nat_lt 1 many ≡ is_input_twice (seen ps)
all_counted ps k many all is =
    let whole : take k (seen ps) ≡ seen ps = take_all k (seen ps) (rw (length-map ps (λ (p : Bor (List ℕ)). p.now)) all) in
    ap (nat_lt 1) (is ∙ ap (count_by is_input) whole)
