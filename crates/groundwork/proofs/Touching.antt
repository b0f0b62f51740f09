-- For which cells a command keeps values aside, from what its parts keep aside.
use Rattle.std.proofs.Common.{◌≡◌, ◌≢◌, ℕ, List, map, true, sym, ap, subst, ◌∙◌, inl, inr, ⊎_elim}
use Rattle.std.specs.List.{list_any}
use Rattle.std.specs.Str.{bytes_eq}
use Rattle.mmsyntax.specs.declared.statement.Step.{Step}
use Rattle.mmsyntax.specs.Assertions.{Distinct}
use Rattle.library.specs.declared.library.Ranked.{Ranked}
use Rattle.library.specs.declared.command.Command.{Command}
use Rattle.library.specs.Library.{Setting, label_of}
use Rattle.library.specs.Edits.{cites, is_citation, with_proof}
use Rattle.library.proofs.Places.{found_in}
use Rattle.ranges.specs.Ranges.{Has, AreOfOneStore}
use Rattle.bodystore.specs.declared.stored.StoredStep.{StoredStep}
use Rattle.bodystore.specs.declared.stored.StoredStep.TheVariants.{Slot}
use Rattle.cells.specs.State.{State, most_words}
use Rattle.cells.specs.Slots.{proof_cell, citers_cell}
use Rattle.cells.specs.Shows.{Held, AreStoredAs, Shows}
use Rattle.cells.specs.Sight.{Sight, Onward, Looks, after}
use Rattle.cells.specs.Aside.{KeepsAside, IsCitersOf, IsCitersOfCited}
use Rattle.cells.specs.Counts.{AreCitedSlots, AreOnlyIn}
use Rattle.cells.specs.Lookups.{ForEachHeld}
use Rattle.cells.proofs.Sights.{matches_back, after_looks, setting_kept}
use Rattle.cells.proofs.Keeping.{keeps_same, keeps_trans, keeps_wider}
use Rattle.cells.proofs.Holding.{stored_named, named_held, stored_cites, cites_stored}
use Rattle.cells.proofs.Found.{held_holds}
use Rattle.groundwork.specs.Changes.{AreExchanged}
use Rattle.groundwork.specs.Touches.{IsCitersCell, IsOfReproof, Touches, KeepsTo, ReprovesWithin}
use Rattle.groundwork.proofs.Seeing.{views_later, found_later}

-- ---- while nothing is written

-- what is kept aside after looks is kept aside since before them
pub keeps_to_since : {O : Type 0} → (s t u : Sight O) (c : Command) → Looks s t → Onward t u → KeepsTo t u c → KeepsTo s u c
keeps_to_since s t u c looks on keeps st lib m v cell was =
    let later = keeps st lib m (views_later s t st lib looks (matches_back t u st on m) v) cell was in
    ⊎_elim (λ before. keeps_same (Touches s.setting.slots (after s st) lib c) s t looks.writes cell before)
    (λ is. inr (subst (λ (x : State). Touches s.setting.slots x lib c cell) (after_looks s t st looks)
    (subst (λ (x : Setting). Touches x.slots (after t st) lib c cell) (setting_kept looks.onward) is))) later

-- ---- what steps cite, by its slots

module _ (slots : ℕ) (st : State) (lib : List Ranked) (shows : Shows slots st lib) (store : AreOfOneStore most_words st.ranges) where
  -- the assertion in a slot that the steps cite
  cited_held : (steps : List Step) (kept : List StoredStep) (j : ℕ) → AreStoredAs slots st steps kept → Has (Slot j) kept
      → (p : Held) × Has p shows.held × (p.slot ≡ j) × (list_any (is_citation (label_of p.entry)) steps ≡ true)
  cited_held steps kept j stored cited =
      let named = stored_named slots st lib shows store steps kept j stored cited in
      let p = named_held slots st lib shows store j named.0 named.1 in (
        p.0,
        p.1,
        p.2,
        stored_cites slots st lib shows store p.0 p.1 steps kept stored (subst (λ n. Has (Slot n) kept) (sym p.2) cited),
      )

  -- its citers cell
  pub cited_citers : (e : Ranked) (kept : List StoredStep) (c : ℕ) → AreStoredAs slots st e.assertion.proof kept → IsCitersOfCited kept c
      → IsCitersCell slots st lib (λ f. cites (label_of f) e ≡ true) c
  cited_citers e kept c stored is =
      let p = cited_held e.assertion.proof kept is.0 stored is.1 in
      (p.0.slot, p.0.entry, held_holds slots st lib shows p.0 p.1, p.3, is.2 ∙ ap citers_cell (sym p.2))

  module _ (apart : Distinct bytes_eq (map label_of lib)) (steps others : List Step) (kept without : List StoredStep)
      (stored : AreStoredAs slots st steps kept) (stored_others : AreStoredAs slots st others without) where
    -- the assertion in a slot that the one proof cites, and the other doesn't
    one_held : (j : ℕ) → Has (Slot j) kept → (Has (Slot j) without → ⊥)
        → (p : Held) × Has p shows.held × (p.slot ≡ j) × (list_any (is_citation (label_of p.entry)) steps ≡ true)
        × (list_any (is_citation (label_of p.entry)) others ≡ true → ⊥)
    one_held j cited free =
        let p = cited_held steps kept j stored cited in (
          p.0,
          p.1,
          p.2,
          p.3,
          λ so. free (subst (λ n. Has (Slot n) without) p.2
              (cites_stored slots st lib shows store apart p.0 p.1 others without stored_others so)),
        )

  module _ (apart : Distinct bytes_eq (map label_of lib)) (e : Ranked) (steps : List Step) (former kept : List StoredStep)
      (before now : List ℕ) (stored_before : AreStoredAs slots st e.assertion.proof former) (stored_as : AreStoredAs slots st steps kept)
      (cited_before : AreCitedSlots former before) (cited_now : AreCitedSlots kept now) where
    -- the citers cell of what the one proof cited, and the other doesn't
    pub dropped_cited : (dropped : List ℕ) → AreOnlyIn before now dropped → (c : ℕ) → IsCitersOf dropped c
        → IsCitersCell slots st lib (λ f. cites (label_of f) e ≢ cites (label_of f) (with_proof steps e)) c
    dropped_cited dropped drops c is =
        let d = drops.from is.0 is.1 in
        let p = one_held apart e.assertion.proof steps former kept stored_before stored_as is.0 (cited_before.cited is.0 d.0)
        (λ h. d.1 (cited_now.all is.0 h)) in
        (p.0.slot, p.0.entry, held_holds slots st lib shows p.0 p.1, λ same. p.4 (sym same ∙ p.3), is.2 ∙ ap citers_cell (sym p.2))

    -- and of what it cites, and the one didn't
    pub gained_cited : (gained : List ℕ) → AreOnlyIn now before gained → (c : ℕ) → IsCitersOf gained c
        → IsCitersCell slots st lib (λ f. cites (label_of f) e ≢ cites (label_of f) (with_proof steps e)) c
    gained_cited gained gains c is =
        let d = gains.from is.0 is.1 in
        let p = one_held apart steps e.assertion.proof kept former stored_as stored_before is.0 (cited_now.cited is.0 d.0)
        (λ h. d.1 (cited_before.all is.0 h)) in
        (p.0.slot, p.0.entry, held_holds slots st lib shows p.0 p.1, λ same. p.4 (same ∙ p.3), is.2 ∙ ap citers_cell (sym p.2))

-- ---- another proof

pub resteps_within : {O : Type 0} → (s0 s1 s2 s3 s4 : Sight O) (i : ℕ) (label : List ℕ) (former kept : List StoredStep)
    (dropped gained : List ℕ) → Looks s0 s1 → Onward s1 s2 → Onward s2 s3 → Onward s3 s4
    → ForEachHeld s1 i (λ st lib e. AreStoredAs s1.setting.slots st e.assertion.proof former)
    → AreExchanged former kept dropped gained → KeepsAside (λ c. c ≡ proof_cell i) s1 s2
    → KeepsAside (IsCitersOf dropped) s2 s3 → KeepsAside (IsCitersOf gained) s3 s4
    → ReprovesWithin s0 s4 i label kept
resteps_within s0 s1 s2 s3 s4 i label former kept dropped gained looks on2 on3 on4 read exchange proven out more st lib m seen here
    steps stored_as =
    keeps_trans such s0 s1 s4 (keeps_same such s0 s1 looks.writes)
    (keeps_trans such s1 s3 s4
    (keeps_trans such s1 s2 s3 (keeps_wider (λ c. c ≡ proof_cell i) such s1 s2 (λ c is. inl is) proven)
    (keeps_wider (IsCitersOf dropped) such s2 s3 (λ c is. inr (was_cited c is)) out))
    (keeps_wider (IsCitersOf gained) such s3 s4 (λ c is. inr (is_cited c is)) more))
  where
    slots : ℕ
    slots = s0.setting.slots

    e : Ranked
    e = here.entry

    such : ℕ → Type 0
    such = IsOfReproof s0.setting.slots (after s0 st) lib i here.entry (with_proof steps here.entry)

    stored_before : AreStoredAs s0.setting.slots (after s0 st) here.entry.assertion.proof former
    stored_before =
        let m1 = matches_back s1 s2 st on2 (matches_back s2 s3 st on3 (matches_back s3 s4 st on4 m)) in
        let at = found_later s0 s1 st lib label i looks here in
        subst (λ (x : State). AreStoredAs s0.setting.slots x here.entry.assertion.proof former) (after_looks s0 s1 st looks)
        (subst (λ (x : Setting). AreStoredAs x.slots (after s1 st) here.entry.assertion.proof former) (setting_kept looks.onward)
        (read st lib (views_later s0 s1 st lib looks m1 seen) at.entry (found_in lib label at.entry at.found).0 at.holds))

    was_cited : (c : ℕ) → IsCitersOf dropped c
        → IsCitersCell s0.setting.slots (after s0 st) lib
        (λ f. cites (label_of f) here.entry ≢ cites (label_of f) (with_proof steps here.entry)) c
    was_cited =
        dropped_cited slots (after s0 st) lib seen.shows seen.matches.store seen.verifies.library.distinct e steps former kept
        exchange.before exchange.now stored_before stored_as exchange.cited_before exchange.cited_now dropped exchange.drops

    is_cited : (c : ℕ) → IsCitersOf gained c
        → IsCitersCell s0.setting.slots (after s0 st) lib
        (λ f. cites (label_of f) here.entry ≢ cites (label_of f) (with_proof steps here.entry)) c
    is_cited =
        gained_cited slots (after s0 st) lib seen.shows seen.matches.store seen.verifies.library.distinct e steps former kept
        exchange.before exchange.now stored_before stored_as exchange.cited_before exchange.cited_now gained exchange.gains
