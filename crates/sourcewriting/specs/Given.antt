-- The text of a compressed proof with given words (Metamath book, appendix B).
use Rattle.std.specs.Prelude.{◌≡◌, ℕ, List, ◌++◌, IsTrue}
use Rattle.std.specs.List.{flat_map}
use Rattle.mmtext.specs.Words.{Word}
use Rattle.sourcewriting.specs.Laid.{IsLaidOutAs}
use Rattle.sourcewriting.specs.Lines.{are_cut, columns_then, parenthesized}

-- these labels in parentheses, and these letters, cut where lines end
pub record IsGivenText (indentation : List ℕ) (labels : List Word) (letters text : List ℕ) : Type 0 where
  pub cut : List Word
  pub same : flat_map (λ w. w) cut ≡ letters
  pub laid : IsLaidOutAs indentation (parenthesized labels ++ cut) text
  pub filled : IsTrue (are_cut indentation (columns_then indentation 79 (parenthesized labels)) cut)
