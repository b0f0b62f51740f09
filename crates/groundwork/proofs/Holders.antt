-- The assertion that a slot holds is the one with this slot in a state that shows a library.
use Rattle.std.proofs.Common.{◌≡◌, ℕ, List, map}
use Rattle.std.specs.Prelude.{Contains}
use Rattle.std.specs.Str.{bytes_eq}
use Rattle.mmsyntax.specs.Assertions.{Distinct}
use Rattle.library.specs.declared.library.Ranked.{Ranked}
use Rattle.library.specs.Library.{label_of}
use Rattle.library.proofs.Places.{is_labelled-own, found_own, found_one}
use Rattle.ranges.specs.Ranges.{Has, AreOfOneStore}
use Rattle.cells.specs.State.{State, most_words}
use Rattle.cells.specs.Shows.{Held, Holds, Shows}
use Rattle.ranges.proofs.Members.{contains_from_has}
use Rattle.cells.proofs.Holding.{named_held, held_in}

module _ (slots : ℕ) (st : State) (lib : List Ranked) (shows : Shows slots st lib) (store : AreOfOneStore most_words st.ranges)
    (apart : Distinct bytes_eq (map label_of lib)) where
  pub held_here : (i : ℕ) (e : Ranked) → Contains lib e → Holds slots st lib i e
      → (p : Held) × Has p shows.held × (p.slot ≡ i) × (p.entry ≡ e)
  held_here i e at holds =
      let p = named_held slots st lib shows store i (label_of e) holds.name in (
        p.0,
        p.1,
        p.2,
        found_one lib (label_of e) e p.0.entry apart (found_own lib e apart at)
            (contains_from_has lib p.0.entry (held_in slots st lib shows store p.0 p.1)) (is_labelled-own (label_of e) p.0.entry p.3),
      )
