-- What a run keeps of its reads, by its mode.
use Rattle.std.proofs.Common.{◌≡◌, ℕ, is_some, true, false, List, [], ◌∷◌, length, refl, sym, ap, ◌∙◌, subst}
use Rattle.tlcore.specs.Seats.{Seat}
use Rattle.tlcore.specs.declared.seats.Read.{Read}
use Rattle.tlwords.specs.declared.mode.Mode.{Mode}
use Rattle.tlwords.specs.declared.mode.Mode.TheVariants.{Reading, Writing}
use Rattle.tlwords.specs.declared.log.Slot.{Slot}
use Rattle.tlwords.specs.Runs.{value_kept, IsBlank, IsKeptOf, HasNoted, noted}
use Rattle.tlwords.specs.Calls.{Notes}
use Rattle.tlwords.specs.Commits.{writes_kept}
use Rattle.tlwords.proofs.Held.{no_writes}
use Rattle.tlwords.proofs.Logs.{none_known, kept_same}

pub no_reads : (mode : Mode) (t : Seat) → t.reads ≡ [] → (noted mode t).reads ≡ []
no_reads Reading t e = refl
no_reads Writing t e = e

-- in Reading mode nothing is kept
pub reading_blank : (t : Seat) (slots : List Slot) → IsKeptOf (noted Reading t) slots → IsBlank slots
reading_blank t slots k c =
    (k.0 c, none_known (value_kept slots c) (λ is. let a : true ≡ false = sym (k.1 c is) ∙ ap is_some (k.0 c) in cc))

-- after a read by a run in this mode
pub read_kept : (mode : Mode) (t u : Seat) (slots after : List Slot) (r : Read) → Notes mode slots after r.cell r.word
    → u.reads ≡ r ∷ t.reads
    → IsKeptOf (noted mode t) slots → IsKeptOf (noted mode u) after
read_kept Reading t u slots after r n e h =
    subst (λ (z : List Slot). IsKeptOf (noted Reading u) z) (sym n) (kept_same (noted Reading t) (noted Reading u) slots refl h)
read_kept Writing t u slots after r n e h = kept_same (record t { reads = r ∷ t.reads }) u after e (n.0 t r h refl refl)

-- where a run in this mode has the reads that it had, it keeps what it kept
pub still_kept : (mode : Mode) (t u : Seat) (slots : List Slot) → u.reads ≡ t.reads → IsKeptOf (noted mode t) slots
    → IsKeptOf (noted mode u) slots
still_kept Reading t u slots e h = kept_same (noted Reading t) (noted Reading u) slots refl h
still_kept Writing t u slots e h = kept_same t u slots e h

pub notes : (mode : Mode) (slots after : List Slot) (cell word : ℕ) → (mode ≡ Reading → after ≡ slots)
    → (mode ≡ Writing → HasNoted slots after cell word) → Notes mode slots after cell word
notes Reading slots after cell word f g = f refl
notes Writing slots after cell word f g = g refl

pub read_room : (mode : Mode) (slots after : List Slot) (cell word : ℕ) → Notes mode slots after cell word → length after ≡ length slots
read_room Reading slots after cell word n = ap (λ (z : List Slot). length z) n
read_room Writing slots after cell word n = n.4

pub nothing_written : (mode : Mode) → mode ≡ Reading → (t : Seat) (slots : List Slot)
    → IsKeptOf (noted mode t) slots → writes_kept slots ≡ []
nothing_written mode e t slots k =
    let b : IsBlank slots = reading_blank t slots (subst (λ (m : Mode). IsKeptOf (noted m t) slots) e k) in
    no_writes slots (length slots) (λ c l m. (b c).1)

pub writing_noted : (mode : Mode) → mode ≡ Writing → (t : Seat) → noted mode t ≡ t
writing_noted mode e t = ap (λ (m : Mode). noted m t) e
