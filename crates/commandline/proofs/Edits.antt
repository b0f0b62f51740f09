-- What a subcommand asks to edit, by what was found.
use Rattle.std.proofs.Common.{◌≡◌, ◌∷◌, ℕ, List, Option, Some, codes, subst, sym}
use Rattle.clap.specs.Words.{Row, Text, all_of, first_of}
use Rattle.commandline.specs.Orders.{HasLimits, all_listed}
use Rattle.commandline.specs.declared.edit_order.Outputs.{Outputs}
use Rattle.commandline.specs.declared.edit_order.Allowed.{Allowed}
use Rattle.commandline.specs.EditOrders.{AreOutputsGiven, AsksToEdit, IsAllowed, IsEditOrder}

-- it asks for nothing, where its numbers aren't within their limits
pub edits_nothing : (found : Option (Text × List Row)) (name : Text) (rows : List Row) → Some (name, rows) ≡ found
    → ((workers : ℕ) (room : Option ℕ) → HasLimits rows workers room → ⊥)
    → (path : Text) (workers : ℕ) (room : Option ℕ) → AsksToEdit found path workers room → ⊥
edits_nothing found name rows is none path workers room asks =
    let here = subst (λ (f : Option (Text × List Row)). AsksToEdit f path workers room) (sym is) asks in
    none workers room here.limits

-- its order
pub edits_so : (found : Option (Text × List Row)) (name : Text) (rows : List Row) (path : Text) (paths : List Text) (workers : ℕ)
    (room : Option ℕ) (outputs : Option Outputs) (allowed : Allowed)
    → Some (name, rows) ≡ found → name ≡ codes "edit" → Some path ≡ first_of (codes "SOURCE") rows → HasLimits rows workers room
    → paths ≡ path ∷ all_listed (all_of (codes "SCRIPT") rows)
    → AreOutputsGiven rows outputs
    → IsAllowed rows allowed
    → IsEditOrder found paths workers room outputs allowed
edits_so found name rows path paths workers room outputs allowed is named source limits read put allows =
    subst (λ (f : Option (Text × List Row)). IsEditOrder f paths workers room outputs allowed) is (record {
      source = path;
      asked = record { named = named; source_given = sym source; limits = limits };
      read = read;
      put = put;
      allows = allows;
    })
