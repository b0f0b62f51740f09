-- Citers that are counted anew where an assertion is no longer there, or has another proof.
use Rattle.std.proofs.Common.{◌≡◌, ℕ, ◌+◌, ◌-◌, ◌*◌, ◌<◌, Bool, true, false, cond, List, map, ap, subst, ◌⊎◌, inl, inr, arith}
use Rattle.std.specs.List.{list_any}
use Rattle.std.specs.Str.{bytes_eq}
use Rattle.std.proofs.lemmas.Bool.{false_from_ne_true}
use Rattle.mmsyntax.specs.declared.statement.Step.{Step}
use Rattle.mmsyntax.specs.Assertions.{Distinct}
use Rattle.library.specs.declared.library.Ranked.{Ranked}
use Rattle.library.specs.Library.{label_of}
use Rattle.library.specs.Edits.{is_citation}
use Rattle.ranges.specs.Ranges.{Has, AreOfOneStore}
use Rattle.bodystore.specs.declared.stored.StoredStep.{StoredStep}
use Rattle.cells.specs.State.{State, most_words}
use Rattle.cells.specs.Slots.{citers_cell}
use Rattle.cells.specs.Shows.{Held, IsEmpty, AreStoredAs, Shows}
use Rattle.cells.specs.Counts.{AreCitedSlots, CountsIn, CountsOut}
use Rattle.ranges.proofs.Members.{cases_has}
use Rattle.cells.proofs.Bodies.{no_body}
use Rattle.cells.proofs.Holding.{stored_named, stored_cites, cites_stored}

-- what one citer adds
abbrev pub one : Bool → ℕ
one b = cond b 1 0

module _ (slots : ℕ) (st : State) (lib : List Ranked) (shows : Shows slots st lib) (store : AreOfOneStore most_words st.ranges)
    (steps : List Step) (kept : List StoredStep) (listed : List ℕ) (stored : AreStoredAs slots st steps kept)
    (cited : AreCitedSlots kept listed) where
  -- a slot that is cited has a name, so it is not empty
  pub listed_within : (i : ℕ) → Has i listed → i < slots
  listed_within i h = let n = stored_named slots st lib shows store steps kept i stored (cited.cited i h) in n.1.within

  pub listed_full : (i : ℕ) → Has i listed → IsEmpty slots st i → ⊥
  listed_full i h empty =
      let n = stored_named slots st lib shows store steps kept i stored (cited.cited i h) in
      no_body st (5 * i) n.0 n.1.body empty.name

  module _ (apart : Distinct bytes_eq (map label_of lib)) (p : Held) (held : Has p shows.held) where
    -- the slot of an assertion is listed exactly where the steps cite its label
    pub listed_or_not : (Has p.slot listed × (list_any (is_citation (label_of p.entry)) steps ≡ true))
        ⊎ ((Has p.slot listed → ⊥) × (list_any (is_citation (label_of p.entry)) steps ≡ false))
    listed_or_not =
        elim (cases_has listed p.slot) [
          | inl h ↦ inl (h, stored_cites slots st lib shows store p held steps kept stored (cited.cited p.slot h))
          | inr unlisted ↦
              inr (
                unlisted,
                false_from_ne_true (list_any (is_citation (label_of p.entry)) steps) (λ so.
                    unlisted (cited.all p.slot (cites_stored slots st lib shows store apart p held steps kept stored so))),
              )
        ]

    -- so its count of citers changes by one where they do
    pub counted_out : (a b : State) → CountsOut listed a b
        → b.value (citers_cell p.slot) ≡ a.value (citers_cell p.slot) - one (list_any (is_citation (label_of p.entry)) steps)
    counted_out a b counts =
        elim listed_or_not [
          | inl so ↦ let left = counts.counted p.slot so.0 in let step : one (list_any (is_citation (label_of p.entry)) steps) ≡ 1 =
              ap one so.1 in
              omega (arith, left, step)
          | inr other ↦
              let left = counts.others (citers_cell p.slot) (λ j h z. other.0 (subst (λ n. Has n listed) (omega (arith, z)) h)) in
              let step : one (list_any (is_citation (label_of p.entry)) steps) ≡ 0 = ap one other.1 in
              omega (arith, left, step)
        ]

    pub counted_in : (a b : State) → CountsIn listed a b
        → b.value (citers_cell p.slot) ≡ a.value (citers_cell p.slot) + one (list_any (is_citation (label_of p.entry)) steps)
    counted_in a b counts =
        elim listed_or_not [
          | inl so ↦ let more = counts.counted p.slot so.0 in let step : one (list_any (is_citation (label_of p.entry)) steps) ≡ 1 =
              ap one so.1 in
              omega (arith, more, step)
          | inr other ↦
              let more = counts.others (citers_cell p.slot) (λ j h z. other.0 (subst (λ n. Has n listed) (omega (arith, z)) h)) in
              let step : one (list_any (is_citation (label_of p.entry)) steps) ≡ 0 = ap one other.1 in
              omega (arith, more, step)
        ]

-- what is no citers cell is not counted
pub uncounted_out : (listed : List ℕ) (a b : State) (c j k : ℕ) → CountsOut listed a b → c ≡ 5 * j + k → k < 4 → b.value c ≡ a.value c
uncounted_out listed a b c j k counts is few = counts.others c (λ m h z. omega (arith, is, few, z))

pub uncounted_in : (listed : List ℕ) (a b : State) (c j k : ℕ) → CountsIn listed a b → c ≡ 5 * j + k → k < 4 → b.value c ≡ a.value c
uncounted_in listed a b c j k counts is few = counts.others c (λ m h z. omega (arith, is, few, z))
