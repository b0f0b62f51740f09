-- What stays of a source where edits of some of its assertions are given back: each other assertion, but for changed labels.
use Rattle.std.specs.Prelude.{◌≡◌, ℕ, suc, Bool, List, [], ◌∷◌, map, take, find, Option, Some, None}
use Rattle.std.specs.Option.{option_map}
use Rattle.std.specs.Str.{bytes_eq}
use mathlib.Core.Bool.{not}
use Rattle.mmtext.specs.Words.{Word}
use Rattle.source.specs.Statements.{Proof, normal, compressed}
use Rattle.source.specs.Scopes.{Assertion}
use Rattle.source.specs.Flags.{kept}

-- ---- changed labels

-- a label of the source, and its new one
abbrev pub Change : Type 0
Change = Word × Word

-- a label as it reads then
abbrev pub or_same : Word → Option Change → Word
or_same w None = w
or_same w (Some c) = c.1

abbrev pub changed : List Change → Word → Word
changed cs w = or_same w (find (λ c. bytes_eq w c.0) cs)

-- a proof with its labels changed; letters count labels, and stay (appendix B)
abbrev pub proof_changed : List Change → Proof → Proof
proof_changed cs (normal ws) = normal (map (changed cs) ws)
proof_changed cs (compressed labels letters) = compressed (map (changed cs) labels) letters

-- ---- assertions

-- an assertion stays: it says the same, and its proof is the same but for changed labels
pub record Stays (cs : List Change) (old new : Assertion) : Type 0 where
  pub label : new.label ≡ changed cs old.label
  pub hypotheses : new.hypotheses ≡ old.hypotheses
  pub pairs : new.pairs ≡ old.pairs
  pub statement : new.statement ≡ old.statement
  pub proof : new.proof ≡ option_map (proof_changed cs) old.proof

-- so do all, in their order
abbrev pub StayAll : List Change → List Assertion → List Assertion → Type 0
StayAll cs [] [] = Unit {0}
StayAll cs (x ∷ xs) (y ∷ ys) = Stays cs x y × StayAll cs xs ys
StayAll cs _ _ = ⊥

-- those that flags don't choose
abbrev pub others : List Bool → List Assertion → List Assertion
others flags xs = kept (map not flags) xs

-- the first of them that doesn't stay: those before it do, and with it they don't; None where all stay
abbrev pub IsFirstNotStaying : List Change → List Assertion → List Assertion → Option ℕ → Type 0
IsFirstNotStaying cs xs ys None = StayAll cs xs ys
IsFirstNotStaying cs xs ys (Some k) = StayAll cs (take k xs) (take k ys) × (StayAll cs (take (suc k) xs) (take (suc k) ys) → ⊥)
