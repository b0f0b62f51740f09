-- A text is the items that were found in it.
use Rattle.std.proofs.Common.{◌≡◌, ℕ, List, [], ◌∷◌, drop, refl}
use Rattle.items.specs.declared.reading.Item.{Item as Found}
use Rattle.items.specs.Items.{Item, pieces_of, Spells}
use Rattle.items.specs.Reading.{tokens_at, Stands, AreFound}
use Rattle.items.proofs.Standing.{stands_both}
use Rattle.items.proofs.Spelled.{spells_stand}
use Rattle.items.proofs.Found.{each_found}

module _ (text : List ℕ) where
  stands_to : (at : ℕ) (fs : List Found) (xs : List Item) → AreFound text at fs xs
      → (end : ℕ) × Stands text at (pieces_of xs) end × (tokens_at text end ≡ [])
  stands_to at [] [] h = (at, refl, h)
  stands_to at [] (x ∷ xs) h = absurd h
  stands_to at (f ∷ fs) [] h = absurd h
  stands_to at (f ∷ fs) (x ∷ xs) h =
      let later = stands_to f.end fs xs h.4 in
      (later.0, stands_both text at f.end later.0 x (pieces_of xs) h.0 later.1, later.2)

  pub found_spell : (fs : List Found) (xs : List Item) → AreFound text 0 fs xs → (rest : List ℕ) × Spells xs rest text
  found_spell fs xs h =
      let all = stands_to 0 fs xs h in
      (drop all.0 text, spells_stand text xs all.0 all.1 all.2 (each_found text 0 fs xs h))
