-- Walks along the chain of a bucket, as to a label; and looks for an empty slot from a slot on.
use Rattle.std.proofs.Common.{◌≡◌, ◌≢◌, ℕ, ◌+◌, ◌-◌, ◌%◌, ◌<◌, ◌≤◌, List, [], ◌∷◌, Some, None, length, sym, ap, subst, ◌∙◌, ◌⊎◌, below_more, inl, inr, arith}
use Rattle.std.proofs.Math.Nat.{mod-eq_of_lt, add-mod_left}
use Rattle.std.proofs.lemmas.Bool.{cases_order}
use Rattle.library.specs.declared.library.Ranked.{Ranked}
use Rattle.ranges.specs.Ranges.{Has}
use Rattle.cells.specs.State.{State}
use Rattle.cells.specs.Slots.{bucket, name_cell, bucket_cell, next_cell}
use Rattle.cells.specs.Shows.{IsNamed, IsChain, Shows}
use Rattle.cells.specs.Sight.{Sight, Matches, Views, Looks, Reads, after}
use Rattle.cells.specs.Lookups.{ForEach, Finds, FindsFree}
use Rattle.cells.proofs.Sights.{for_each_later, views_back, after_looks}
use Rattle.cells.proofs.Holders.{found_at, found_nowhere, in_chain, chain_short, empty_unnamed, all_full}

-- ---- along a chain

-- what is ahead at a word of a chain, after so many turns: the rest of the chain, with each slot that is sought
pub record IsAhead (slots : ℕ) (sought : ℕ → State → ℕ → Type 0) (word turns : ℕ) (st : State) : Type 0 where
  pub rest : List ℕ
  pub chain : IsChain slots st rest word
  pub few : length rest + turns ≤ slots
  pub ahead : (i : ℕ) → sought slots st i → Has i rest

module _ (slots : ℕ) (sought : ℕ → State → ℕ → Type 0) (word turns : ℕ) (st : State) (a : IsAhead slots sought word turns st) where
  -- nothing is ahead at the end of a chain
  pub ahead_at_end : ((i : ℕ) → i < slots → word ≡ i + 1 → ⊥) → (i : ℕ) → sought slots st i → ⊥
  ahead_at_end none i is = over a.rest a.chain (a.ahead i is)
    where
      over : (rest : List ℕ) → IsChain slots st rest word → Has i rest → ⊥
      over [] c h = h
      over (j ∷ js) c h = none j c.0 c.1

  -- nor after as many turns as slots
  pub ahead_at_last : turns ≡ slots → (i : ℕ) → sought slots st i → ⊥
  ahead_at_last e i is = over a.rest a.few (a.ahead i is)
    where
      over : (rest : List ℕ) → length rest + turns ≤ slots → Has i rest → ⊥
      over [] few h = h
      over (j ∷ js) few h = omega (arith, few, e)

  -- the next slot is not sought: what is ahead at its next cell
  pub ahead_on : (slot next : ℕ) → word ≡ slot + 1 → (sought slots st slot → ⊥) → next ≡ st.value (next_cell slots slot)
      → IsAhead slots sought next (turns + 1) st
  ahead_on slot next is other read = over a.rest a.chain a.few a.ahead
    where
      over : (rest : List ℕ) → IsChain slots st rest word → length rest + turns ≤ slots → ((i : ℕ) → sought slots st i → Has i rest)
          → IsAhead slots sought next (turns + 1) st
      over [] c few h = absurd (omega (arith, c, is))
      over (j ∷ js) c few h =
          let same : j ≡ slot = omega (arith, c.1, is) in
          record {
            rest = js;
            chain = subst (IsChain slots st js) (ap (λ (k : ℕ). st.value (next_cell slots k)) same ∙ sym read) c.2;
            few = omega (arith, few);
            ahead = λ i here. elim (h i here) [
              | inl e ↦ absurd (other (subst (λ (k : ℕ). sought slots st k) (e ∙ same) here))
              | inr k ↦ k
            ];
          }

-- ---- the walk along the chain of a bucket

module _ {O : Type 0} (s : Sight O) (slots : ℕ) (is : slots ≡ s.setting.slots) where
  shown : (st : State) (lib : List Ranked) → Views s st lib → Shows slots (after s st) lib
  shown st lib v = subst (λ (n : ℕ). Shows n (after s st) lib) (sym is) v.shows

  room : (st : State) (lib : List Ranked) → Views s st lib → length lib ≤ slots
  room st lib v = subst (λ (n : ℕ). length lib ≤ n) (sym is) v.verifies.library.room

  -- all that is sought is ahead at the word of the bucket, where its labels are of the bucket
  pub walk_begins : (sought : ℕ → State → ℕ → Type 0) (r : Sight O) (b word : ℕ) → b < slots
      → ((st : State) (i : ℕ) → sought slots st i → (label : List ℕ) × IsNamed slots st i label × (bucket slots label ≡ b))
      → Reads (bucket_cell slots b) word r s
      → ForEach s (λ st lib. IsAhead slots sought word 0 st)
  walk_begins sought r b word lt lies read = λ st lib v.
      let shows = shown st lib v in
      let c = shows.chained b lt in
      let short = chain_short slots (after s st) lib shows b lt in
      let few = room st lib v in
      record {
        rest = c.chain;
        chain = subst (IsChain slots (after s st) c.chain) (sym (read.value st v.matches)) c.starts;
        few = omega (arith, short, few);
        ahead = λ i here. let l = lies (after s st) i here in in_chain slots (after s st) lib shows v.matches.store i b l.0 lt l.2 l.1;
      }

  -- no slot has the label
  pub walk_fails : (label : List ℕ) → ((st : State) (lib : List Ranked) → Views s st lib → (i : ℕ) → IsNamed slots (after s st) i label → ⊥)
      → Finds s label None
  walk_fails label none = λ st lib v. found_nowhere slots (after s st) lib (shown st lib v) v.matches.store label (none st lib v)

  -- a slot has it
  pub walk_finds : (label : List ℕ) (i : ℕ) → i < slots → ((st : State) → Matches s st → IsNamed s.setting.slots (after s st) i label)
      → Finds s label (Some i)
  walk_finds label i lt named = (
    subst (λ (n : ℕ). i < n) is lt,
    λ st lib v. found_at s.setting.slots (after s st) lib v.shows v.matches.store i label v.verifies.library.distinct (named st v.matches),
  )

-- from a slot that is not sought to its next cell
pub walk_on : {O : Type 0} → (r s t : Sight O) (slots : ℕ) (sought : ℕ → State → ℕ → Type 0) (word turns slot next : ℕ)
    → slots ≡ s.setting.slots
    → Looks r s
    → Reads (next_cell slots slot) next s t → ForEach r (λ st lib. IsAhead slots sought word turns st) → word ≡ slot + 1
    → ((st : State) → Matches s st → sought s.setting.slots (after s st) slot → ⊥)
    → ForEach t (λ st lib. IsAhead slots sought next (turns + 1) st)
walk_on r s t slots sought word turns slot next is looks read each at other = λ st lib v.
    let before = views_back s t st lib read.looks v in
    let same = after_looks s t st read.looks in
    let is_ahead : State → List Ranked → Type 0 = λ x l. IsAhead slots sought word turns x in
    let ahead = for_each_later s t is_ahead read.looks (for_each_later r s is_ahead looks each) st lib v in
    ahead_on slots sought word turns (after t st) ahead slot next at
    (λ here. other st before.matches (subst (λ (n : ℕ). sought n (after s st) slot) is
    (subst (λ (x : State). sought slots x slot) same here)))
    (read.value st v.matches)

-- a slot with the label
abbrev pub IsLabelled : List ℕ → ℕ → State → ℕ → Type 0
IsLabelled label slots st i = IsNamed slots st i label

-- ---- the look for an empty slot

-- going round, each slot is come to
comes_to : (slots from i : ℕ) → from < slots → i < slots → (k : ℕ) × (k < slots) × ((from + k) % slots ≡ i)
comes_to slots from i at lt = elim (order from i) [
  | inl le ↦
      let same : from + (i - from) ≡ i = omega (arith, le) in
      (i - from, omega (arith, lt), ap (λ (n : ℕ). n % slots) same ∙ mod-eq_of_lt lt)
  | inr gt ↦
      let same : from + (slots + i - from) ≡ slots + i = omega (arith, gt, at) in
      (slots + i - from, omega (arith, gt, at), ap (λ (n : ℕ). n % slots) same ∙ (add-mod_left slots i ∙ mod-eq_of_lt lt))
]
  where
    order : (a b : ℕ) → (a ≤ b) ⊎ (b < a)
    order a b = elim (cases_order a b) [
      | inl e ↦ inl (omega (arith, e))
      | inr h ↦ elim h [ inl l ↦ inl (omega (arith, l)) | inr l ↦ inr l ]
    ]

-- the name cell at so many slots from a slot on does not hold 0
abbrev pub IsFullAt : ℕ → ℕ → ℕ → State → List Ranked → Type 0
IsFullAt slots from k st lib = st.value (name_cell ((from + k) % slots)) ≢ 0

-- no name cell holds 0, of those of so many slots from a slot on
abbrev pub AreFull : {O : Type 0} → Sight O → ℕ → ℕ → ℕ → Type 0
AreFull s slots from steps = (k : ℕ) → k < steps → ForEach s (IsFullAt slots from k)

-- and they go on to be
pub full_later : {O : Type 0} → (s t : Sight O) (slots from steps : ℕ) → Looks s t → AreFull s slots from steps → AreFull t slots from steps
full_later s t slots from steps looks full = λ k l. for_each_later s t (IsFullAt slots from k) looks (full k l)

-- one more
pub full_on : {O : Type 0} → (s t : Sight O) (slots from steps i v : ℕ) → AreFull s slots from steps → Reads (name_cell i) v s t → v ≢ 0
    → i ≡ (from + steps) % slots
    → AreFull t slots from (steps + 1)
full_on s t slots from steps i v full read ne at =
    below_more (λ (k : ℕ). ForEach t (IsFullAt slots from k)) _ (full_later s t slots from steps read.looks full)
    (λ st lib w e. ne (read.value st w.matches ∙ (ap (λ (n : ℕ). (after t st).value (name_cell n)) at ∙ e)))

module _ {O : Type 0} (s : Sight O) (slots from : ℕ) (is : slots ≡ s.setting.slots) where
  -- the first that holds 0
  pub free_found : (r : Sight O) (steps i : ℕ) → Looks r s → i < slots → i ≡ (from + steps) % slots → AreFull r slots from steps
      → Reads (name_cell i) 0 r s → FindsFree s from (Some i)
  free_found r steps i looks lt at full read = record {
    within = subst (λ (n : ℕ). i < n) is lt;
    steps = steps;
    at = subst (λ (n : ℕ). i ≡ (from + steps) % n) is at;
    empty = λ st lib v. empty_unnamed s.setting.slots (after s st) lib v.shows i (subst (λ (n : ℕ). i < n) is lt)
        (sym (read.value st v.matches));
    full = subst (λ (n : ℕ). AreFull s n from steps) is (full_later r s slots from steps looks full);
  }

  -- none, after as many steps as slots
  pub none_free : (steps : ℕ) → from < slots → slots ≤ steps → AreFull s slots from steps → FindsFree s from None
  none_free steps lt le full = λ st lib v.
      all_full s.setting.slots (after s st) lib v.shows (λ i i_in.
      let c = comes_to slots from i lt (subst (λ (n : ℕ). i < n) (sym is) i_in) in
      subst (λ (n : ℕ). (after s st).value (name_cell n) ≢ 0) c.2 (full c.0 (omega (arith, c.1, le)) st lib v))
