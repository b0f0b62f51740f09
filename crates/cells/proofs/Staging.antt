-- Ranges that were staged: they are short and lie low, so words name them.
use Rattle.std.proofs.Common.{◌≢◌, ℕ, ◌+◌, ◌^◌, ◌<◌, List, [], ◌∷◌, length, refl, arith}
use Rattle.std.proofs.Math.Bridge.{le_prop}
use Rattle.std.proofs.Math.Logic.{∥∥₁_elim}
use Rattle.library.specs.declared.library.Ranked.{Ranked}
use Rattle.ranges.specs.Ranges.{Range, Has, AreOfOneStore}
use Rattle.ranges.specs.declared.range.Range.{Range as Span}
use Rattle.cells.specs.State.{State, most_words}
use Rattle.cells.specs.Sight.{Sight, Suits, Stages}
use Rattle.cells.proofs.Bodies.{short}

low : (ranges : List Range) (r : Range) → AreOfOneStore most_words ranges → Has r ranges → r.words ≢ [] → r.start < 2 ^ 25
low ranges r store h some = at r.words some (store.0 r h)
  where
    at : (ws : List ℕ) → ws ≢ [] → ((i : ℕ) → i < length ws → r.start + i < 16777216) → r.start < 2 ^ 25
    at [] some within = absurd (some refl)
    at (w ∷ ws) some within = let z = within 0 (omega arith) in omega (arith, z)

module _ {O : Type 0} (r s : Sight O) (grounded : ∥ ((st : State) × (lib : List Ranked) × Suits s st lib) ∥₁) (words : List ℕ)
    (range : Span)
    (staged : Stages words range r s) where
  pub staged_start : words ≢ [] → range.start < 2 ^ 25
  staged_start some =
      ∥∥₁_elim grounded le_prop (λ x. low x.0.ranges (record { start = range.start; words = words }) x.2.matches.store
      (x.2.matches.has _ staged.finished) some)

  pub staged_len : range.len < 2 ^ 25
  staged_len =
      let few : length words < 2 ^ 25 =
      ∥∥₁_elim grounded le_prop (λ x. short x.0.ranges (record { start = range.start; words = words }) x.2.matches.store
      (x.2.matches.has _ staged.finished)) in
      omega (arith, few, staged.len)
