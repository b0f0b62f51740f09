-- Which slot has a label in a state that shows a library.
use Rattle.std.proofs.Common.{◌≡◌, ◌≢◌, ℕ, ◌<◌, ◌≤◌, List, [], Some, None, length, map, get_or, sym, ap, subst, ◌∙◌, ◌⊎◌, inl, inr, arith, true, false}
use Rattle.std.specs.Prelude.{◌==◌}
use Rattle.std.specs.List.{All, Contains}
use Rattle.std.specs.Str.{bytes_eq}
use Rattle.std.proofs.Common.{eq-eqb}
use Rattle.std.proofs.lemmas.List.Elements.{All-map, All-contains}
use Rattle.std.proofs.lemmas.List.{length-map, nil_from_length}
use Rattle.std.proofs.lemmas.List.Sorted.{Contains-permutation}
use Rattle.mmsyntax.specs.Assertions.{Distinct}
use Rattle.library.specs.declared.library.Ranked.{Ranked}
use Rattle.library.specs.Library.{label_of}
use Rattle.library.specs.Edits.{found}
use Rattle.library.proofs.Filtered.{contains_mapped, contains_filtered}
use Rattle.library.proofs.Places.{has_nowhere, find_nowhere, found_own}
use Rattle.ranges.specs.Ranges.{Has, AreOfOneStore}
use Rattle.cells.specs.State.{State, HasBody, most_words}
use Rattle.cells.specs.Slots.{bucket, name_cell}
use Rattle.cells.specs.Shows.{Held, IsNamed, Holds, IsEmpty, Shows, slots_of, entries_of, of_bucket}
use Rattle.cells.specs.Sight.{Sight, Matches, after}
use Rattle.cells.specs.Lookups.{IsFoundAt, IfFull, AreWordsOf}
use Rattle.cells.proofs.Bodies.{one_body, no_body}
use Rattle.cells.proofs.Linking.{chain_few}
use Rattle.ranges.proofs.Members.{has_from_contains, contains_from_has, mapped_has, all_below}

module _ (slots : ℕ) (st : State) (lib : List Ranked) (shows : Shows slots st lib) where
  abbrev pub IsHeldAt : ℕ → Held → Type 0
  IsHeldAt i p = Contains shows.held p × (p.slot ≡ i)

  -- what is held is of the library
  pub listed : (p : Held) → Contains shows.held p → Contains lib p.entry
  listed p at = subst (λ (xs : List Ranked). Contains xs p.entry) shows.library (contains_mapped (λ (q : Held). q.entry) shows.held p at)

  pub holds_it : (p : Held) → Contains shows.held p → Holds slots st lib p.slot p.entry
  holds_it p at = All-contains (λ (q : Held). Holds slots st lib q.slot q.entry) shows.held p shows.holds at

  -- a slot is held or empty
  pub held_or_empty : (i : ℕ) → i < slots → ((p : Held) × IsHeldAt i p) ⊎ IsEmpty slots st i
  held_or_empty i lt = elim (shows.others i lt) [
    | inl h ↦ let u = mapped_has (λ (q : Held). q.slot) shows.held i h in inl (u.0, (contains_from_has shows.held u.0 u.1, sym u.2))
    | inr e ↦ inr e
  ]

  -- an empty slot has name 0; a full one has not
  pub full_named : (p : Held) (i : ℕ) → IsHeldAt i p → st.value (name_cell i) ≢ 0
  full_named p i at = subst (λ (k : ℕ). st.value (name_cell k) ≢ 0) at.1
      (λ e. no_body st (name_cell p.slot) _ (holds_it p at.0).name.body e)

  -- a slot that is named 0 is empty
  pub empty_unnamed : (i : ℕ) → i < slots → st.value (name_cell i) ≡ 0 → IsEmpty slots st i
  empty_unnamed i lt e = elim (held_or_empty i lt) [ inl h ↦ absurd (full_named h.0 i h.1 e) | inr h ↦ h ]

  -- and any other is full
  pub full_slot : (i : ℕ) → i < slots → st.value (name_cell i) ≢ 0 → (p : Held) × IsHeldAt i p
  full_slot i lt ne = elim (held_or_empty i lt) [ inl h ↦ h | inr h ↦ absurd (ne h.name) ]

  module _ (store : AreOfOneStore most_words st.ranges) where
    -- a slot with a label holds the assertion that has it
    pub holder : (i : ℕ) (label : List ℕ) → IsNamed slots st i label → (p : Held) × Contains shows.held p × (p.slot ≡ i)
        × (label_of p.entry ≡ label)
    holder i label named =
        let h = full_slot i named.within (no_body st (name_cell i) label named.body) in
        let p = h.0 in
        let name : HasBody st (name_cell i) (label_of p.entry) =
        subst (λ (k : ℕ). HasBody st (name_cell k) (label_of p.entry)) h.1.1 (holds_it p h.1.0).name.body in
        (p, h.1.0, h.1.1, one_body st (name_cell i) _ _ store name named.body)

    -- it is found there
    pub found_at : (i : ℕ) (label : List ℕ) → Distinct bytes_eq (map label_of lib) → IsNamed slots st i label
        → IsFoundAt slots st lib label i
    found_at i label apart named =
        let h = holder i label named in
        let e = h.0.entry in
        record {
          entry = e;
          found = subst (λ (l : List ℕ). found lib l ≡ Some e) h.3 (found_own lib e apart (listed h.0 h.1));
          holds = subst (λ (k : ℕ). Holds slots st lib k e) h.2 (holds_it h.0 h.1);
        }

    -- a label that no slot has is no assertion's
    pub found_nowhere : (label : List ℕ) → ((i : ℕ) → IsNamed slots st i label → ⊥) → found lib label ≡ None
    found_nowhere label free =
        let Other = λ (e : Ranked). label_of e ≢ label in
        let others : All Other (entries_of shows.held) =
        All-map Other (λ (q : Held). q.entry) shows.held
        (λ k d lt e. let h = shows.holds k d lt in free (get_or shows.held k d).slot (subst (IsNamed slots st _) e h.name)) in
        find_nowhere lib label (has_nowhere lib label (subst (All Other) shows.library others))

    -- the slot with a label is one of the chain of the label's bucket
    pub in_chain : (i b : ℕ) (label : List ℕ) (lt : b < slots) → bucket slots label ≡ b → IsNamed slots st i label
        → Has i (shows.chained b lt).chain
    in_chain i b label lt is named =
        let h = holder i label named in
        let of = λ (q : Held). bucket slots (label_of q.entry) == b in
        let passes = eq-eqb (bucket slots (label_of h.0.entry)) b (ap (bucket slots) h.3 ∙ is) in
        let at = contains_mapped (λ (q : Held). q.slot) (of_bucket slots b shows.held) h.0
        (contains_filtered of shows.held h.0 h.1 passes) in
        let c = shows.chained b lt in
        has_from_contains c.chain i (subst (Contains c.chain) h.2 (Contains-permutation _ c.chain h.0.slot c.has at))

  -- a chain has no more slots than the library has assertions
  pub chain_short : (b : ℕ) (lt : b < slots) → length (shows.chained b lt).chain ≤ length lib
  chain_short b lt =
      let e : length (entries_of shows.held) ≡ length lib = ap (λ (xs : List Ranked). length xs) shows.library in
      omega (arith, e, chain_few slots st shows.held b (shows.chained b lt), length-map shows.held (λ (q : Held). q.entry))

  -- there are as many assertions as slots where all slots are full
  pub all_full : ((i : ℕ) → i < slots → st.value (name_cell i) ≢ 0) → slots ≤ length lib
  all_full full =
      let has : (i : ℕ) → i < slots → Has i (slots_of shows.held) =
      λ i lt.
      let h = full_slot i lt (full i lt) in
      subst (λ (k : ℕ). Has k (slots_of shows.held)) h.1.1
      (has_from_contains (slots_of shows.held) h.0.slot (contains_mapped (λ (q : Held). q.slot) shows.held h.0 h.1.0)) in
      let e : length (entries_of shows.held) ≡ length lib = ap (λ (xs : List Ranked). length xs) shows.library in
      omega (
        arith,
        e,
        all_below slots (slots_of shows.held) has,
        length-map shows.held (λ (q : Held). q.slot),
        length-map shows.held (λ (q : Held). q.entry),
      )

-- the words of a slot's name tell whether it holds an assertion
module _ {O : Type 0} (s : Sight O) (i : ℕ) (words : List ℕ) (lt : i < s.setting.slots)
    (are : (st : State) → Matches s st → AreWordsOf (after s st) (name_cell i) words) where
  pub tells_empty : words ≡ [] → IfFull s i false
  tells_empty none = λ st lib view.
      elim (held_or_empty s.setting.slots (after s st) lib view.shows i lt) [
        | inl h ↦
            let holds = holds_it s.setting.slots (after s st) lib view.shows h.0 h.1.0 in
            let name : HasBody (after s st) (name_cell i) (label_of h.0.entry) =
            subst (λ (k : ℕ). HasBody (after s st) (name_cell k) (label_of h.0.entry)) h.1.1 holds.name.body in
            let words_are = are st view.matches in
            absurd (name.some (sym (words_are.body (label_of h.0.entry) name) ∙ none))
        | inr e ↦ e
      ]

  pub tells_full : words ≢ [] → IfFull s i true
  tells_full some = λ st lib view.
      let words_are = are st view.matches in
      let h = full_slot s.setting.slots (after s st) lib view.shows i lt (λ z. some (nil_from_length words (words_are.none z))) in (
        h.0.entry,
        subst (λ (k : ℕ). Holds s.setting.slots (after s st) lib k h.0.entry) h.1.1
            (holds_it s.setting.slots (after s st) lib view.shows h.0 h.1.0),
        listed s.setting.slots (after s st) lib view.shows h.0 h.1.0,
      )
