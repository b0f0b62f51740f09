-- Labels that are names.
use Rattle.std.proofs.Common.{◌≡◌, ◌∙◌, ℕ, Bool, false, List, Some, IsTrue, ap}
use Rattle.std.specs.Prelude.{slice_get}
use Rattle.std.specs.Option.{option_map}
use Rattle.std.proofs.lemmas.Option.{slice_get-map}
use Rattle.std.proofs.lemmas.List.Elements.{All-contains, All-map, All-weaker}
use Rattle.mmtext.specs.Words.{Word}
use Rattle.source.specs.Scopes.{Hypothesis, Scope}
use Rattle.sourcewriting.specs.declared.listing.Names.{Names}
use Rattle.sourcewriting.specs.declared.shared.CountedLabel.{CountedLabel}
use Rattle.sourcewriting.specs.declared.shared.Shared.{Shared}
use Rattle.sourcewriting.specs.Counting.{Takes}
use Rattle.sourcewriting.specs.Named.{IsName, AreNames}
use Rattle.sourcewriting.specs.Reading.{labels_in}
use Rattle.sourcewriting.specs.Taking.{AllTake}
use Rattle.sourcewriting.proofs.MarkedProofs.{each}
use Rattle.sourcewriting.proofs.Told.{contained}

-- what is so isn't false
pub refuted : (b : Bool) → IsTrue b → b ≡ false → ⊥
refuted b holds fails = cc

-- one of them
pub named_at : (ws : List CountedLabel) (i : ℕ) (w : CountedLabel) → slice_get ws i ≡ Some w → AreNames (labels_in ws) → IsName w.label.now
named_at ws i w at are =
    let label : CountedLabel → Word = λ w. w.label.now in
    All-contains IsName (labels_in ws) w.label.now are
    (contained (labels_in ws) i w.label.now (slice_get-map label ws i ∙ ap (option_map label) at))

-- those that nodes name
pub all_named : (s : Scope) (m : Names) (hs : List Hypothesis) (shared : Shared)
    → ((label : Word) (n : ℕ) → Takes s m hs label n → IsName label) → AllTake s m hs shared → AreNames (labels_in shared.words.items)
all_named s m hs shared names all =
    let words = shared.words.items in
    All-map IsName (λ (w : CountedLabel). w.label.now) words
    (All-weaker (λ (w : CountedLabel). Takes s m hs w.label.now w.takes) (λ (w : CountedLabel). IsName w.label.now)
    (λ w takes. names w.label.now w.takes takes) words (each (λ (p : Word × ℕ). Takes s m hs p.0 p.1) words all))
