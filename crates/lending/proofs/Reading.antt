-- How a read of a run of a session ends: with the value that it kept or that it finds, or with a conflict, the same for ever.
use Rattle.std.proofs.Common.{◌≡◌, ℕ, true, Option, Some, None, Result, Ok, Err, refl, sym, ap, ◌∙◌, subst}
use Rattle.tlwords.specs.declared.mode.Mode.TheVariants.{Writing}
use Rattle.tlwords.specs.declared.outcome.Conflict.{Conflict}
use Rattle.tlwords.specs.Known.{Going}
use Rattle.tlwords.specs.Runs.{value_kept, was_read}
use Rattle.tlwords.specs.Calls.{HasRead, HasStopped}
use Rattle.bodystore.specs.Stages.{Staged}
use Rattle.cells.specs.Sight.{Looks, Reads, ReadsWithin}
use Rattle.cells.proofs.Sights.{looks_refl}
use Rattle.cells.proofs.Asking.{nothing_same, asks_nothing}
use Rattle.lawful.specs.declared.notes.Given.{Given}
use Rattle.lawful.specs.declared.notes.Note.{Note}
use Rattle.lawful.specs.Lawful.{library_terms}
use Rattle.lending.specs.Lent.{Lending, lent_sight, IsLent}
use Rattle.lending.proofs.Lending.{reads_lent, stops_lent}
use Rattle.lending.proofs.Sighted.{rereads_sight, reads_sight, reads_within, stops_look, stops_within}

-- what a read answers, with the run after it
abbrev pub Answer : Type 0
Answer = Result ℕ Conflict

not_over : (o : Option Conflict) → ((c : Conflict) → o ≡ Some c → ⊥) → o ≡ None
not_over None f = refl
not_over (Some c) f = absurd (f c refl)

module _ (l : Lending) (stage : Staged) (over : Option Conflict) (i : IsLent l stage over) (cell : ℕ) (r : Going Given Note) where
  -- it ended with a value
  module _ (v : ℕ) (stopped : (c : Conflict) → l.going.over ≡ Some c → ◌≡◌ {A = Answer} (Ok v) (Err c) × (r ≡ l.going))
      (kept : (w : ℕ) → l.going.over ≡ None → value_kept l.going.slots cell ≡ Some w → ◌≡◌ {A = Answer} (Ok v) (Ok w) × (r ≡ l.going))
      (read : l.going.over ≡ None → value_kept l.going.slots cell ≡ None → HasRead library_terms cell v l.going r)
      (noted : l.going.mode ≡ Writing → was_read r.slots cell ≡ true) where
    going_on : l.going.over ≡ None
    going_on = not_over l.going.over (λ c e. let a : ◌≡◌ {A = Answer} (Ok v) (Err c) = (stopped c e).0 in cc)

    abbrev Ends : Going Given Note → Type 0
    Ends x = IsLent (record l { going = x }) stage over × Reads cell v (lent_sight l) (lent_sight (record l { going = x }))
        × ReadsWithin (λ c. c ≡ cell) (lent_sight l) (lent_sight (record l { going = x }))

    pub read_ends : Ends r
    read_ends = go (value_kept l.going.slots cell) refl
      where
        go : (o : Option ℕ) → value_kept l.going.slots cell ≡ o → Ends r
        go None e =
            let h = read going_on e in (
              reads_lent l stage over i cell v r h going_on noted,
              reads_sight l stage over i cell v r h e,
              reads_within l stage over i cell v r h,
            )
        go (Some w) e =
            let k = kept w going_on e in
            let same : w ≡ v = (let a : ◌≡◌ {A = Answer} (Ok v) (Ok w) = k.0 in cc) in
            subst Ends (sym k.1)
            (i, rereads_sight l stage over i cell v (e ∙ ap (λ (x : ℕ). Some x) same), asks_nothing (nothing_same (lent_sight l)))

  -- it met a conflict, or had met it before
  module _ (met : Conflict) (stopped : (c : Conflict) → l.going.over ≡ Some c → ◌≡◌ {A = Answer} (Err met) (Err c) × (r ≡ l.going))
      (stops : l.going.over ≡ None → HasStopped library_terms cell met l.going r) where
    abbrev Stops : Going Given Note → Type 0
    Stops x = IsLent (record l { going = x }) stage (Some met) × Looks (lent_sight l) (lent_sight (record l { going = x }))
        × ReadsWithin (λ c. c ≡ cell) (lent_sight l) (lent_sight (record l { going = x }))

    pub stop_ends : Stops r
    stop_ends = go l.going.over refl
      where
        go : (o : Option Conflict) → l.going.over ≡ o → Stops r
        go None e = let h = stops e in (stops_lent l stage over i cell met r h, stops_look l cell met r h, stops_within l cell met r h)
        go (Some c) e =
            let k = stopped c e in
            let same : c ≡ met = (let a : ◌≡◌ {A = Answer} (Err met) (Err c) = k.0 in cc) in
            subst Stops (sym k.1) (
              subst (IsLent l stage) (sym i.over_is ∙ (e ∙ ap (λ (x : Conflict). Some x) same)) i,
              looks_refl (lent_sight l),
              asks_nothing (nothing_same (lent_sight l)),
            )
