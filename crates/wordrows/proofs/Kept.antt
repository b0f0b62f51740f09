-- What a run keeps of the cells, and the ranges that its pass has seen.
use Rattle.std.proofs.Common.{◌≡◌, ◌∙◌, ◌≢◌, ℕ, zero, suc, ◌+◌, ◌*◌, ◌/◌, ◌%◌, ◌^◌, ◌<◌, ◌≤◌, inl, inr, Option, Some, None, List, length, refl, sym}
use Rattle.std.proofs.Common.{ap, subst, arith}
use Rattle.std.specs.Prelude.{All}
use Rattle.std.proofs.lemmas.List.Elements.{All-weaker}
use Rattle.ranges.specs.Ranges.{Range, Has, Within, Names, AreOfOneStore}
use Rattle.ranges.specs.Pairs.{Pairs}
use Rattle.tlwords.specs.declared.log.Slot.{Slot}
use Rattle.ranges.specs.declared.range.Range.{Range as Span}
use Rattle.tlwords.specs.Runs.{value_kept}
use Rattle.tlwords.specs.Commits.{with_write, writes_below, writes_kept}
use Rattle.wordrows.specs.Seats.{IsThere}

-- ---- ranges that were seen are seen later

there_later : (ranges more : List Range) → Within ranges more → (p : Span) → IsThere ranges p → IsThere more p
there_later ranges more within p (words, has, len) = (words, within (record { start = p.start; words = words }) has, len)

pub all_later : (ranges more : List Range) (ps : List Span) → Within ranges more → All (IsThere ranges) ps → All (IsThere more) ps
all_later ranges more ps within all = All-weaker (IsThere ranges) (IsThere more) (there_later ranges more within) ps all

-- ---- what is written was kept

written_by : (slots : List Slot) (n c v : ℕ) (ps : Pairs) → (Has (c, v) ps → value_kept slots c ≡ Some v) → (o : Option ℕ)
    → value_kept slots n ≡ o
    → Has (c, v) (with_write n o ps) → value_kept slots c ≡ Some v
written_by slots n c v ps more None e h = more h
written_by slots n c v ps more (Some w) e (inl p) =
    let cell : c ≡ n = ap (λ (q : ℕ × ℕ). q.0) p in
    let value : v ≡ w = ap (λ (q : ℕ × ℕ). q.1) p in
    ap (value_kept slots) cell ∙ (e ∙ ap (λ (x : ℕ). let o : Option ℕ = Some x in o) (sym value))
written_by slots n c v ps more (Some w) e (inr h) = more h

written_below : (slots : List Slot) (n c v : ℕ) → Has (c, v) (writes_below slots n) → value_kept slots c ≡ Some v
written_below slots zero c v h = absurd h
written_below slots (suc n) c v h =
    written_by slots n c v (writes_below slots n) (written_below slots n c v) (value_kept slots n) refl h

pub written_kept : (slots : List Slot) (c v : ℕ) → Has (c, v) (writes_kept slots) → value_kept slots c ≡ Some v
written_kept slots c v h = written_below slots (length slots) c v h

-- ---- a word that names a range

-- the word of a place that is there names a range
pub place_named : (ranges : List Range) (p : Span) (word : ℕ) → IsThere ranges p → word ≡ p.start * 2 ^ 25 + p.len → Names ranges word
place_named ranges p word (words, has, len) is =
    inr (record { start = p.start; words = words }, has, is ∙ ap (λ (n : ℕ). p.start * 2 ^ 25 + n) (sym len))

few_inside : (room start n : ℕ) → room ≤ 2 ^ 24 → ((i : ℕ) → i < n → start + i < room) → n ≤ 2 ^ 24
few_inside room start n small inside = let at = inside (2 ^ 24) in grind (arith, at)

-- the place that such a word names is there
pub named_there : (room name : ℕ) (ranges : List Range) (p : Span) → room ≤ 2 ^ 24 → AreOfOneStore room ranges → Names ranges name
    → p.start ≡ name / 2 ^ 25 → p.len ≡ name % 2 ^ 25 → p.len ≢ 0 → IsThere ranges p
named_there room name ranges p small store (inl e) from long some = absurd (some (omega arith))
named_there room name ranges p small store (inr (r, has, e)) from long some =
    let short = few_inside room r.start (length r.words) small (store.0 r has) in
    let start : p.start ≡ r.start = omega arith in
    let len : p.len ≡ length r.words = omega arith in
    (r.words, subst (λ (s : ℕ). let q : Range = record { start = s; words = r.words } in Has q ranges) (sym start) has, sym len)
