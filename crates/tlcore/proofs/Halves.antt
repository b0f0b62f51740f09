-- The half of each lock word is 0 or the number of a Done entry that writes the cell.
use Rattle.std.proofs.Common.{Some, ap, arith, inl, inr, length, slice_get, suc, sym, ℕ, ◌∙◌, ◌≡◌, ◌⊎◌}
use Rattle.tlcore.specs.History.{Did, IsVersionOf, Will, deed, value, version}
use Rattle.tlcore.specs.Seats.{Seat}
use Rattle.tlcore.specs.Machine.{Cell}
use Rattle.tlcore.specs.Opacity.{Always, HalvesWereWritten}
use Rattle.tlcore.specs.Invariant.{HeldOk, Holds}
use Rattle.tlcore.specs.Laws.{HalvesAreWritten}
use Rattle.tlcore.proofs.Deeds.{version-deed}
use Rattle.tlcore.proofs.Opacity.{reached}

-- ---- the half of a lock word

pub halves : HalvesAreWritten
halves o w I c v x f (inl e) =
    let b : (v ≡ version w.history c) × (x.value ≡ value o w.history c) × ((i u : ℕ) → deed w.history c i ≡ Will u → ⊥) =
    I.consistent.cells c v x f e in
    by (version-deed (deed w.history c) (length w.history)) b.0
  where
    by : (version w.history c ≡ 0) ⊎ ((i : ℕ) × (y : ℕ) × (version w.history c ≡ suc i) × (deed w.history c i ≡ Did y))
        → v ≡ version w.history c → IsVersionOf w.history c v
    by (inl p) q = inl (q ∙ p)
    by (inr p) q = inr (p.0, p.1, q ∙ p.2, p.3)
halves o w I c v x f (inr e) =
    let h : (s : ℕ) × (t : Seat) × (slice_get w.seats s ≡ Some t) × Holds t c = I.locked_are_held c v x f e in
    let b : (y : Cell) × (slice_get w.cells c ≡ Some y) × HeldOk o w.history (h.1).rv (h.1).phase c h.3.0 y =
    (I.consistent.seats h.0 h.1 h.2).held c h.3.0 h.3.1 in
    let p : Some b.0 ≡ Some x = sym b.1 ∙ f in
    let q : b.0 ≡ x = cc in
    let l : x.lock ≡ suc (h.3.0).word = ap (λ (y : Cell). y.lock) (sym q) ∙ b.2.locked in
    b.2.was v (omega (arith, l, e))

pub schedule_halves : Always HalvesWereWritten
schedule_halves o n front now e = halves o now (reached o n front now e)
