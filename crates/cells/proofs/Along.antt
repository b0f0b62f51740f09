-- Cell by cell along the chain of a bucket, and round the slots.
use Rattle.std.proofs.Common.{◌≡◌, ◌≢◌, ◌<◌, ℕ, ◌+◌, ◌%◌, [], ◌∷◌, sym, ap, subst, ◌∙◌, inl, inr, below_more}
use Rattle.cells.specs.State.{State}
use Rattle.cells.specs.Slots.{name_cell, bucket_cell, next_cell}
use Rattle.cells.specs.Sight.{Sight, Matches, Onward, Looks, Reads, ReadsWithin, ReadsNothing, after}
use Rattle.cells.specs.Footprints.{ReadsWhere, IsMember, IsAlong, IsOfRound}
use Rattle.cells.proofs.Asking.{nothing_same, asks_nothing, asks_more, asks_still}
use Rattle.cells.proofs.Sights.{matches_back, after_looks}

-- ---- in each state

pub where_none : {O : Type 0} → {such : State → ℕ → Type 0} → {s t : Sight O} → ReadsNothing s t → ReadsWhere such s t
where_none none = record { each = λ st m. asks_nothing none }

pub where_same : {O : Type 0} → {such : State → ℕ → Type 0} → (s : Sight O) → ReadsWhere such s s
where_same s = where_none (nothing_same s)

-- some cells are read, and then more
pub where_more : {O : Type 0} → {some : ℕ → Type 0} → {such : State → ℕ → Type 0} → {r s t : Sight O} → ReadsWhere such r s → Onward s t
    → ReadsWithin some s t → ((st : State) → Matches s st → (c : ℕ) → some c → such (after r st) c) → ReadsWhere such r t
where_more {s = s} {t = t} first on then wider =
    record {
      each = λ st m. let back = matches_back s t st on m in asks_more (first.each st back) (wider st back) then;
    }

-- and then nothing
pub where_still : {O : Type 0} → {such : State → ℕ → Type 0} → {r s t : Sight O} → ReadsWhere such r s → Onward s t → ReadsNothing s t
    → ReadsWhere such r t
where_still {s = s} {t = t} first on none =
    record { each = λ st m. asks_still (first.each st (matches_back s t st on m)) none }

-- and so where the calls only look
pub where_trans : {O : Type 0} → {some such : State → ℕ → Type 0} → {r s t : Sight O} → ReadsWhere such r s → Looks r s → Onward s t
    → ReadsWhere some s t → ((st : State) (c : ℕ) → some st c → such st c) → ReadsWhere such r t
where_trans {some = some} {such = such} {r = r} {s = s} {t = t} first looks on then wider =
    record {
      each = λ st m.
          asks_more (first.each st (matches_back s t st on m))
          (λ c is. subst (λ (x : State). such x c) (after_looks r s st looks) (wider (after s st) c is)) (then.each st m);
    }

-- ---- along a chain

-- the slot that the word leads to stands in the chain of the bucket
pub record LeadsOn {O : Type 0} (slots b word : ℕ) (s : Sight O) : Type 0 where
  pub each : (st : State) → Matches s st → (i : ℕ) → i < slots → word ≡ i + 1 → IsMember slots (after s st) b i

pub leads_first : {O : Type 0} → {slots b word : ℕ} → {r s : Sight O} → Reads (bucket_cell slots b) word r s → LeadsOn slots b word s
leads_first read =
    record { each = λ st m i lt is. record { within = lt; before = []; behind = sym (read.value st m) ∙ is } }

-- the slot that it leads to, in the state before the walk
pub member_at : {O : Type 0} → {slots b word : ℕ} → {r s : Sight O} → (slot : ℕ) → Looks r s → LeadsOn slots b word s
    → (slot < slots) × (word ≡ slot + 1) → (st : State) → Matches s st → IsMember slots (after r st) b slot
member_at {slots = slots} {b = b} {r = r} {s = s} slot looks leads link st m =
    subst (λ (x : State). IsMember slots x b slot) (after_looks r s st looks) (leads.each st m slot link.0 link.1)

pub leads_next : {O : Type 0} → {slots b word next : ℕ} → {r s t : Sight O} → (slot : ℕ) → LeadsOn slots b word r → Looks r s
    → Reads (next_cell slots slot) next s t → (slot < slots) × (word ≡ slot + 1) → LeadsOn slots b next t
leads_next {slots = slots} {b = b} {r = r} {s = s} {t = t} slot leads looks read link =
    record {
      each = λ st m i lt is.
          let between = matches_back s t st read.looks.onward m in
          let first = leads.each st (matches_back r s st looks.onward between) slot link.0 link.1 in
          let here : IsMember slots (after t st) b slot =
          subst (λ (x : State). IsMember slots x b slot) (sym (after_looks s t st read.looks ∙ after_looks r s st looks)) first in
          record { within = lt; before = slot ∷ here.before; behind = (sym (read.value st m) ∙ is, here.behind) };
    }

-- the name of the slot is read
pub along_name : {O : Type 0} → {slots b word : ℕ} → {r s t : Sight O} → (slot : ℕ) → ReadsWhere (IsAlong slots b) r s → Looks r s
    → LeadsOn slots b word s
    → (slot < slots) × (word ≡ slot + 1) → Onward s t → ReadsWithin (λ c. c ≡ name_cell slot) s t → ReadsWhere (IsAlong slots b) r t
along_name slot first looks leads link on read =
    where_more first on read (λ st m c is. inr (slot, member_at slot looks leads link st m, inl is))

-- and its next cell
pub along_next : {O : Type 0} → {slots b word cell : ℕ} → {r s t u : Sight O} → (slot : ℕ) → ReadsWhere (IsAlong slots b) r t → Looks r s
    → LeadsOn slots b word s → (slot < slots) × (word ≡ slot + 1) → Onward s t → Onward t u → cell ≡ next_cell slots slot
    → ReadsWithin (λ c. c ≡ cell) t u → ReadsWhere (IsAlong slots b) r u
along_next {s = s} {t = t} slot first looks leads link between on at read =
    where_more first on read (λ st m c is. inr (slot, member_at slot looks leads link st (matches_back s t st between m), inr (is ∙ at)))

-- ---- round the slots

-- the name cells of so many slots from a slot on hold no 0
pub record HoldNames {O : Type 0} (slots from steps : ℕ) (s : Sight O) : Type 0 where
  pub each : (st : State) → Matches s st → (j : ℕ) → j < steps → (after s st).value (name_cell ((from + j) % slots)) ≢ 0

pub names_on : {O : Type 0} → {slots from steps v : ℕ} → {s t : Sight O} → (i : ℕ) → HoldNames slots from steps s
    → Reads (name_cell i) v s t → v ≢ 0
    → i ≡ (from + steps) % slots → HoldNames slots from (steps + 1) t
names_on {slots = slots} {from = from} {steps = steps} {s = s} {t = t} i names read ne at =
    record {
      each = λ st m j lt.
          below_more (λ (k : ℕ). (after t st).value (name_cell ((from + k) % slots)) ≢ 0) steps
          (λ k low. subst (λ (x : State). x.value (name_cell ((from + k) % slots)) ≢ 0) (sym (after_looks s t st read.looks))
          (names.each st (matches_back s t st read.looks.onward m) k low))
          (λ e. ne (read.value st m ∙ ap (λ (k : ℕ). (after t st).value (name_cell k)) at ∙ e)) j lt;
    }

-- the name of the next is read
pub round_name : {O : Type 0} → {slots from steps cell : ℕ} → {r s t : Sight O} → ReadsWhere (IsOfRound slots from) r s → Looks r s
    → HoldNames slots from steps s → cell ≡ name_cell ((from + steps) % slots) → Onward s t → ReadsWithin (λ c. c ≡ cell) s t
    → ReadsWhere (IsOfRound slots from) r t
round_name {slots = slots} {from = from} {steps = steps} {r = r} {s = s} first looks names at on read =
    where_more first on read (λ st m c is. (
      steps,
      is ∙ at,
      λ j lt. subst (λ (x : State). x.value (name_cell ((from + j) % slots)) ≢ 0) (after_looks r s st looks)
          (names.each st m j lt),
    ))
