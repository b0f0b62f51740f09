-- What stands before any statement.
use Rattle.std.proofs.Common.{◌≡◌, ℕ, zero, suc, [], take, Option, None, refl}
use Rattle.mmtext.specs.Words.{Word}
use Rattle.source.specs.Scopes.{outset}
use Rattle.scopes.specs.declared.tables.Name.{Name}
use Rattle.scopes.specs.Paths.{path}
use Rattle.scopes.specs.Views.{Kept, scope_of, stand_of}
use Rattle.scopes.specs.Sound.{KnowsWord, IsSound}
use Rattle.scopes.proofs.Found.{found_none}

abbrev pub kept_nothing : Kept
kept_nothing = record {
  constants = [];
  variables = [];
  symbols = [];
  labels = [];
  links = [];
  active = [];
  aparts = [];
  last_apart = None;
  entries = [];
  blocks = [];
}

take_nothing : {A : Type 0} (n : ℕ) → take {A = A} n [] ≡ []
take_nothing zero = refl
take_nothing (suc n) = refl

knows_nothing : (w : Word) (o : Option Name) → o ≡ None → KnowsWord (scope_of kept_nothing) w o
knows_nothing w o none = rw none (record {
  constant = refl;
  symbol = refl;
  label = refl;
  variable = found_none _ [] None refl;
  float = found_none _ [] None refl;
  hypothesis = found_none _ [] None refl;
  assertion = found_none _ [] None refl;
})

pub sound_nothing : (look : Word → Option Name) → ((w : Word) → look w ≡ None) → IsSound look kept_nothing
unfolding path
sound_nothing look none = record {
  named = λ w. knows_nothing w (look w) (none w);
  within = tt;
  listed = λ n. rw take_nothing refl;
  apart = tt;
  numbered = tt;
  nested = tt;
}

pub outset_of : stand_of kept_nothing ≡ outset
unfolding stand_of path
outset_of = refl
