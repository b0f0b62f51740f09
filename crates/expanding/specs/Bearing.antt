-- Of the code's inside, apart from the rules: how it is found who may have a label, from each label to those that renames make of it.
use Rattle.std.specs.Prelude.{◌≡◌, ◌≢◌, ◌≤◌, ◌⊎◌, ◌+◌, ℕ, Bool, true, false, List, [], ◌∷◌, ◌++◌, map, Vec, length, Contains, IsTrue, Option, Some, None}
use Rattle.std.specs.Borrow.{Bor}
use Rattle.std.specs.Str.{bytes_eq}
use Rattle.std.specs.HashMap.{HashMap, get_by}
use Rattle.std.specs.declared.alloc.Global.{Global}
use Rattle.std.specs.declared.random_state.RandomState.{RandomState}
use Rattle.mmtext.specs.Words.{Word}
use Rattle.source.specs.Scopes.{Scope}
use Rattle.source.specs.Views.{seen_words, seen_pairs}
use Rattle.expanding.specs.Called.{new_labels, MayBeCalled, Bearers, nobody, only, several}
use Rattle.expanding.specs.Discouraged.{Names, is_declared}
use Rattle.expanding.specs.declared.names.Names.{Names as CodeNames}
use Rattle.expanding.specs.declared.bearers.Bearers.{Bearers as CodeBearers}
use Rattle.expanding.specs.declared.bearers.Bearers.TheVariants as code
use Rattle.expanding.specs.declared.renamed.Renames.{Renames}

-- ---- what a map has for a label

abbrev pub listed : Option (Vec (Bor (List ℕ)) Global) → List Word
listed None = []
listed (Some labels) = seen_words labels.items

abbrev pub list_for : HashMap (Bor (List ℕ)) (Vec (Bor (List ℕ)) Global) RandomState → Word → List Word
list_for m w = listed (get_by (λ k. bytes_eq w k.now) m)

-- it has what renames make of each label
abbrev pub FindsNew : HashMap (Bor (List ℕ)) (Vec (Bor (List ℕ)) Global) RandomState → List (Word × Word) → Type 0
FindsNew m rs = (w : Word) → list_for m w ≡ new_labels rs w

pub record AreRenames (rs : List (Word × Word)) (r : Renames) : Type 0 where
  pub pairs : seen_pairs r.pairs.items ≡ rs
  pub finds : FindsNew r.next rs

abbrev pub seen_bearers : CodeBearers → Bearers
seen_bearers code.Nobody = nobody
seen_bearers (code.Only w) = only w.now
seen_bearers code.Several = several

abbrev pub bearers_in : Option CodeBearers → Bearers
bearers_in None = nobody
bearers_in (Some b) = seen_bearers b

abbrev pub Called : Type 0
Called = HashMap (Bor (List ℕ)) CodeBearers RandomState

abbrev pub bearers_for : Called → Word → Bearers
bearers_for m w = bearers_in (get_by (λ k. bytes_eq w k.now) m)

-- ---- more of them

-- the first are among the others
abbrev pub AreAmong : Bearers → Bearers → Type 0
AreAmong nobody _ = Unit {0}
AreAmong (only a) nobody = ⊥
AreAmong (only a) (only b) = a ≡ b
AreAmong (only a) several = Unit {0}
AreAmong several several = Unit {0}
AreAmong several _ = ⊥

-- how often more may still be found
abbrev pub room : Bearers → ℕ
room nobody = 2
room (only a) = 1
room several = 0

abbrev pub rooms : (Word → Bearers) → List Word → ℕ
rooms f [] = 0
rooms f (w ∷ ws) = room (f w) + rooms f ws

-- each of those may be called so
abbrev pub AreBacked : List (Word × Word) → (Word → Bool) → Word → Bearers → Type 0
AreBacked rs test w nobody = Unit {0}
AreBacked rs test w (only a) = IsTrue (test a) × MayBeCalled rs a w
AreBacked rs test w several =
    (a : Word) × (b : Word) × IsTrue (test a) × MayBeCalled rs a w × IsTrue (test b) × MayBeCalled rs b w × (a ≢ b)

abbrev pub AllBacked : List (Word × Word) → (Word → Bool) → (Word → Bearers) → Type 0
AllBacked rs test f = (w : Word) → AreBacked rs test w (f w)

-- ---- labels from which it is still to be gone on

-- more are found for some labels, and each label for which they are is noted
pub record Rises (at : List Word) (old new : Word → Bearers) (before after : List Word) : Type 0 where
  pub up : (w : Word) → AreAmong (old w) (new w)
  pub kept : (w : Word) → Contains before w → Contains after w
  pub noted : (w : Word) → Contains after w ⊎ (new w ≡ old w)
  pub less : (ws : List Word) → ((w : Word) → Contains at w → Contains ws w)
      → length after + rooms new ws ≤ length before + rooms old ws

-- from each other label those that may have it are gone on to what renames make of it
abbrev pub IsSpreadBut : List (Word × Word) → (Word → Bearers) → List Word → Type 0
IsSpreadBut rs f todo = (u v : Word) → Contains (new_labels rs u) v → Contains todo u ⊎ AreAmong (f u) (f v)

-- ---- names of all kinds

-- the labels of renames: the old ones, and then the new ones
abbrev pub words_in : List (Word × Word) → List Word
words_in rs = map (λ r. r.0) rs ++ map (λ r. r.1) rs

-- a label that no rename has is that of its own assertion
abbrev pub or_own : Bearers → Bool → Word → Bearers
or_own nobody true w = only w
or_own nobody false w = nobody
or_own (only a) _ w = only a
or_own several _ w = several

abbrev pub names_of : Scope → CodeNames → Names
names_of s k = record {
  modification = bearers_for k.modification;
  usage = bearers_for k.usage;
  source = λ w. or_own (bearers_for k.source w) (is_declared s w) w;
  added = bearers_for k.added;
}
