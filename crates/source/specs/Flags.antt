-- Flags, one for each thing of a list, and the things that they keep.
use Rattle.std.specs.Prelude.{Bool, true, false, List, [], ◌∷◌}

-- what flags keep
abbrev pub kept_at : {A : Type 0} → Bool → A → List A → List A
kept_at true x xs = x ∷ xs
kept_at false x xs = xs

abbrev pub kept : {A : Type 0} → List Bool → List A → List A
kept (f ∷ fs) (x ∷ xs) = kept_at f x (kept fs xs)
kept _ _ = []
