-- The commands of scripts, each with the number of its script.
use Rattle.std.specs.Prelude.{◌≡◌, ℕ, suc, List, [], ◌∷◌, ◌++◌, map}
use Rattle.mmtext.specs.Text.{Token}
use Rattle.spreading.specs.Forms.{Part, AreParts}

-- a part, and its script, from 0
pub record Command : Type 0 where
  pub script : ℕ
  pub words : Part

abbrev pub command_of : ℕ → Part → Command
command_of n p = record { script = n; words = p }

-- those of scripts, in order, of which the first has a number
abbrev pub AreCommands : ℕ → List (List Token) → List Command → Type 0
AreCommands n [] cs = cs ≡ []
AreCommands n (ts ∷ scripts) cs =
    (ps : List Part) × (rest : List Command) × AreParts ts ps × AreCommands (suc n) scripts rest × (cs ≡ map (command_of n) ps ++ rest)
