use Rattle.std.proofs.Common.{◌≡◌, ◌<◌, ◌++◌, ◌∷◌, [], ℕ, List, length}
use Rattle.std.specs.Prelude.{IsTrue}
use Rattle.std.specs.List.{flat_map, list_all}
use Rattle.mmtext.specs.Text.{is_printable}
use Rattle.mmtext.specs.Words.{Word}
use Rattle.sourcewriting.specs.Laid.{IsLaid, IsWhole}
use Rattle.sourcewriting.specs.Lines.{are_cut, columns_then}
use Rattle.sourcewriting.proofs.layout.Layout.put_letters.Given as goal

abbrev pub invariant-loop-rest : goal.invariant-loop-rest
invariant-loop-rest l = record {
  laid : (i : List ℕ) (ws : List Word) → IsLaid i l.fn.self ws
      → (cut : List Word) × (flat_map (λ w. w) cut ++ l.rest ≡ l.fn.letters) × IsLaid i l.self (ws ++ cut)
      × (IsWhole l.self → IsTrue (are_cut i (columns_then i 79 ws) cut)
      × (0 < length l.rest → (next : Word) → IsTrue (are_cut i (columns_then i 79 ws) (cut ++ next ∷ []))));
  fine : IsTrue (list_all is_printable l.fn.letters)
      → IsTrue (list_all is_printable l.rest) × (l.self.is_refused ≡ l.fn.self.is_refused);
}

abbrev pub decreases-loop-rest : goal.decreases-loop-rest
decreases-loop-rest l = length l.rest
