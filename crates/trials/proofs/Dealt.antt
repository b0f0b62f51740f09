-- The sessions that an opened library deals.
use Rattle.std.proofs.Common.{◌≡◌, ◌≢◌, ◌≤◌, ℕ, zero, suc, List, [], ◌∷◌, map, arith}
use Rattle.tlwords.specs.Runs.{down}
use Rattle.transaction.specs.Members.{Member}

-- numbered downwards from a number that is not 0, they are not none
pub some_session : (members : List Member) (n : ℕ) → 1 ≤ n → map (λ (m : Member). m.known.name) members ≡ down n n → members ≢ []
some_session [] zero some names = absurd (omega arith)
some_session [] (suc n) some names = absurd cc
some_session (m ∷ members) n some names = λ e. absurd cc
