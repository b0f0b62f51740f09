-- Words that name ranges.
use Rattle.std.proofs.Common.{◌≡◌, ℕ, ◌+◌, ◌*◌, ◌^◌, ◌<◌, List, length, ap, arith}
use Rattle.std.proofs.lemmas.Option.{slice_get-get_or}
use Rattle.std.proofs.lemmas.List.{ext_get_or}
use Rattle.ranges.specs.Ranges.{Range, Has, AreCoherent, word_of}

same_parts : (s n t m : ℕ) → n < 2 ^ 25 → m < 2 ^ 25 → s * 2 ^ 25 + n ≡ t * 2 ^ 25 + m → (s ≡ t) × (n ≡ m)
same_parts s n t m a b e = let x : s ≡ t = omega arith in let y : n ≡ m = omega arith in (x, y)

-- a word names one of coherent ranges
pub names_one : (ranges : List Range) (r q : Range) → AreCoherent ranges → Has r ranges → Has q ranges
    → length r.words < 2 ^ 25 → length q.words < 2 ^ 25 → word_of r ≡ word_of q → r ≡ q
names_one ranges r q coherent in_r in_q a b e =
    let p : (r.start ≡ q.start) × (length r.words ≡ length q.words) = same_parts r.start (length r.words) q.start (length q.words) a b e in
    let s : r.start ≡ q.start = p.0 in
    let n : length r.words ≡ length q.words = p.1 in
    let w : r.words ≡ q.words =
    ext_get_or 0 r.words q.words n
    (λ i l. coherent r q i i _ _ in_r in_q (ap (λ (k : ℕ). k + i) s) (slice_get-get_or r.words i 0 l)
    (slice_get-get_or q.words i 0 (omega (arith, l, n)))) in
    λ j. record { start = s j; words = w j }
