-- What was read since a command began, call by call, in each state that may be under the run.
use Rattle.std.proofs.Common.{◌≡◌, ◌<◌, ◌≤◌, ◌+◌, ◌*◌, ◌⊎◌, ℕ, List, [], ◌∷◌, Some, sym, subst, ◌∙◌, inl, inr, arith}
use Rattle.library.specs.declared.library.Ranked.{Ranked}
use Rattle.library.specs.declared.command.Command.{Command}
use Rattle.library.specs.Library.{Setting}
use Rattle.library.proofs.Places.{found_in}
use Rattle.cells.specs.State.{State}
use Rattle.cells.specs.Slots.{bucket_cell, next_cell, bucket}
use Rattle.cells.specs.Shows.{Holds}
use Rattle.cells.specs.Sight.{Sight, Matches, Views, Onward, Looks, ReadsWithin, after}
use Rattle.cells.specs.Aside.{IsOfSlot}
use Rattle.cells.specs.Footprints.{ReadsWhere, StandsBehind, IsMember, IsOfLook, IsOfTakingOut}
use Rattle.cells.specs.Lookups.{ForEachHeld, Finds, IsFoundAt}
use Rattle.cells.specs.Answers.{ForEachBefore}
use Rattle.cells.proofs.Asking.{asks_trans, asks_wider}
use Rattle.cells.proofs.Sights.{matches_back, looks_refl, looks_trans, after_looks, setting_kept}
use Rattle.groundwork.specs.Footprints.{IsReadBy, ReadsFor, ReadsForFound}
use Rattle.cells.proofs.Resolving.{finds_after}
use Rattle.groundwork.proofs.Seeing.{views_later}

-- calls read no others than these, in each state that may be under the run then, and for each library that it showed before the command
abbrev pub ReadsSince : {O : Type 0} → (State → List Ranked → ℕ → Type 0) → Sight O → Sight O → Sight O → Type 0
ReadsSince such old s t = (st : State) (lib : List Ranked) → Matches t st → Views old st lib → ReadsWithin (such (after old st) lib) s t

-- one call after another
pub since_then : {O : Type 0} → (such : State → List Ranked → ℕ → Type 0) → {old s t : Sight O} → ReadsSince such old old s → Onward s t
    → ReadsSince such old s t → ReadsSince such old old t
since_then such {s = s} {t = t} first on then st lib m v = asks_trans (first st lib (matches_back s t st on m) v) (then st lib m v)

module _ {O : Type 0} (such : State → List Ranked → ℕ → Type 0) (old s t : Sight O) (looks : Looks old s) where
  -- a call that reads these cells in each state
  pub since_where : (some : ℕ → State → ℕ → Type 0)
      → ((st : State) (lib : List Ranked) (c : ℕ) → some old.setting.slots st c → such st lib c)
      → ReadsWhere (some s.setting.slots) s t → ReadsSince such old s t
  since_where some wider reads st lib m v =
      asks_wider
      (λ c is. wider (after old st) lib c (subst (λ (x : Setting). some x.slots (after old st) c) (setting_kept looks.onward)
      (subst (λ (x : State). some s.setting.slots x c) (after_looks old s st looks) is)))
      (reads.each st m)

  -- one that reads these for each library
  pub since_before : (some : ℕ → State → List Ranked → ℕ → Type 0)
      → ((st : State) (lib : List Ranked) (c : ℕ) → some old.setting.slots st lib c → such st lib c) → Onward s t
      → ForEachBefore s t (λ st lib. ReadsWithin (some s.setting.slots (after s st) lib) s t) → ReadsSince such old s t
  since_before some wider on reads st lib m v =
      asks_wider
      (λ c is. wider (after old st) lib c (subst (λ (x : Setting). some x.slots (after old st) lib c) (setting_kept looks.onward)
      (subst (λ (x : State). some s.setting.slots x lib c) (after_looks old s st looks) is)))
      (reads st lib m (views_later old s st lib looks (matches_back s t st on m) v))

  module _ (label : List ℕ) (i : ℕ) (finds : Finds s label (Some i)) where
    -- the assertion that was found was in the slot before
    pub found_before : Onward s t → (st : State) (lib : List Ranked) → Matches t st → Views old st lib
        → IsFoundAt old.setting.slots (after old st) lib label i
    found_before on st lib m v =
        subst (λ (x : State). IsFoundAt old.setting.slots x lib label i) (after_looks old s st looks)
        (subst (λ (x : Setting). IsFoundAt x.slots (after s st) lib label i) (setting_kept looks.onward)
        (finds.1 st lib (views_later old s st lib looks (matches_back s t st on m) v)))

    -- one that reads cells of the assertion that was found
    pub since_found : (some : ℕ → Type 0)
        → ((st : State) (lib : List Ranked) (at : IsFoundAt old.setting.slots st lib label i) (c : ℕ) → some c → such st lib c) → Onward s t
        → ReadsWithin some s t → ReadsSince such old s t
    since_found some wider on reads st lib m v = asks_wider (λ c is. wider (after old st) lib (found_before on st lib m v) c is) reads

    -- and so where they depend on it
    pub since_held : (some : ℕ → State → List Ranked → Ranked → ℕ → Type 0)
        → ((st : State) (lib : List Ranked) (at : IsFoundAt old.setting.slots st lib label i) (c : ℕ)
        → some old.setting.slots st lib at.entry c → such st lib c)
        → Looks s t → ForEachHeld t i (λ st lib e. ReadsWithin (some s.setting.slots st lib e) s t) → ReadsSince such old s t
    since_held some wider later reads st lib m v =
        let all = looks_trans old s t looks later in
        let now = views_later old t st lib all m v in
        let there = (finds_after s t label i later finds).1 st lib now in
        let e = there.entry in
        let at : IsFoundAt old.setting.slots (after old st) lib label i =
        record {
          entry = e;
          found = there.found;
          holds = subst (λ (x : State). Holds old.setting.slots x lib i there.entry) (after_looks old t st all)
              (subst (λ (x : Setting). Holds x.slots (after t st) lib i there.entry) (setting_kept all.onward) there.holds);
        } in
        asks_wider
        (λ c is. wider (after old st) lib at c
        (subst (λ (x : Setting). some x.slots (after old st) lib there.entry c) (setting_kept looks.onward)
        (subst (λ (x : State). some s.setting.slots x lib there.entry c) (after_looks old t st all) is)))
        (reads st lib now e (found_in lib label e there.found).0 there.holds)

-- ---- of a command

-- what the command may read
abbrev pub OfCommand : {O : Type 0} → Sight O → Command → State → List Ranked → ℕ → Type 0
OfCommand old x st lib c = IsReadBy old.setting.slots st lib x c

-- a command begins with a look for a label
pub first_look : {O : Type 0} → (old s : Sight O) (x : Command) (label : List ℕ)
    → ((st : State) (lib : List Ranked) (c : ℕ) → IsOfLook old.setting.slots label st c → IsReadBy old.setting.slots st lib x c)
    → ReadsWhere (IsOfLook old.setting.slots label) old s → ReadsFor old s x
first_look old s x label wider reads =
    since_where (OfCommand old x) old old s (looks_refl old) (λ n. IsOfLook n label) wider reads

module _ {O : Type 0} (old s t : Sight O) (x : Command) (label : List ℕ) (i : ℕ) (looks : Looks old s) (finds : Finds s label (Some i))
    (before : ReadsFor old s x) (on : Onward s t) where
  -- and goes on with cells of what it found
  pub then_cells : (some : ℕ → Type 0)
      → ((st : State) (lib : List Ranked) (at : IsFoundAt old.setting.slots st lib label i) (c : ℕ) → some c
      → IsReadBy old.setting.slots st lib x c)
      → ReadsWithin some s t → ReadsFor old t x
  then_cells some wider reads = since_then (OfCommand old x) before on
      (since_found (OfCommand old x) old s t looks label i finds some wider on reads)

  -- or with what it may read where it found that
  pub then_found : ReadsForFound s t i label x → ReadsFor old t x
  then_found reads =
      since_then (OfCommand old x) before on
      (since_before (OfCommand old x) old s t looks (λ n st lib c. IsReadBy n st lib x c) (λ st lib c is. is) on
      (λ st lib m v. reads st lib m v (finds.1 st lib v)))

-- what it may read where it found a label in a slot
abbrev pub OfCommandFound : {O : Type 0} → Sight O → ℕ → List ℕ → Command → State → List Ranked → ℕ → Type 0
OfCommandFound old i label x st lib c = IsFoundAt old.setting.slots st lib label i → IsReadBy old.setting.slots st lib x c

pub found_end : {O : Type 0} → (s t : Sight O) (i : ℕ) (label : List ℕ) (x : Command) → ReadsSince (OfCommandFound s i label x) s s t
    → ReadsForFound s t i label x
found_end s t i label x reads st lib m v at = asks_wider (λ c is. is at) (reads st lib m v)

-- ---- what is a cell of what

pub of_slot : (i k c : ℕ) → k < 5 → c ≡ 5 * i + k → IsOfSlot i c
of_slot i k c lt is = (omega (arith, lt, is), omega (arith, lt, is))

-- where a slot goes out of a chain, its own next cell is read, and cells of a look for the label
pub taking_out : (slots i : ℕ) (label : List ℕ) (st : State) (c : ℕ) → IsOfTakingOut slots i label st c
    → (c ≡ next_cell slots i) ⊎ IsOfLook slots label st c
taking_out slots i label st c (inl own) = inl own
taking_out slots i label st c (inr (inl front)) = inr (inl front)
taking_out slots i label st c (inr (inr (j, member, at))) = inr (inr (j, member, inr at))

-- the chains are the same in states that differ in cells of slots alone
module _ (slots : ℕ) (st later : State) (same : (c : ℕ) → 5 * slots ≤ c → later.value c ≡ st.value c) where
  stands_before : (b i : ℕ) (before : List ℕ) → StandsBehind slots later b before i → StandsBehind slots st b before i
  stands_before b i [] at = sym (same (bucket_cell slots b) (omega arith)) ∙ at
  stands_before b i (j ∷ before) at = (sym (same (next_cell slots j) (omega arith)) ∙ at.0, stands_before b j before at.1)

  member_before : (b i : ℕ) → IsMember slots later b i → IsMember slots st b i
  member_before b i member = record {
    within = member.within;
    before = member.before;
    behind =
        stands_before b i member.before member.behind;
  }

  pub look_before : (label : List ℕ) (c : ℕ) → IsOfLook slots label later c → IsOfLook slots label st c
  look_before label c (inl front) = inl front
  look_before label c (inr (j, member, at)) = inr (j, member_before (bucket slots label) j member, at)
