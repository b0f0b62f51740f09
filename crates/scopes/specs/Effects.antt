-- Of the code's inside, apart from the rules: what is put into the tables.
use Rattle.std.specs.Prelude.{false, [], ◌∷◌, ◌++◌, length}
use Rattle.source.specs.Scopes.{Hypothesis, label_of}
use Rattle.scopes.specs.Views.{Kept}
use Rattle.scopes.specs.Sound.{last_link}

-- one more hypothesis
abbrev pub with_link : Kept → Hypothesis → Kept
with_link k h = record k {
  labels = k.labels ++ label_of h ∷ [];
  links = k.links ++ (last_link k.active, h) ∷ [];
  active = k.active ++ record { link = length k.links; is_mandatory = false } ∷ [];
}
