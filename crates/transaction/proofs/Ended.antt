-- What a run of a session leaves of its pass where it ends with nothing written.
use Rattle.std.proofs.Common.{◌≡◌, ℕ, inl, if◌then◌else◌, Option, Some, None, ◌∷◌, refl, ap, sym, ◌∙◌}
use Rattle.ranges.specs.Pairs.{Pairs, written}
use Rattle.tlwords.specs.declared.mode.Mode.{Mode}
use Rattle.tlwords.specs.declared.mode.Mode.TheVariants.{Reading, Writing}
use Rattle.tlwords.specs.Known.{word_told}
use Rattle.tlwords.specs.declared.outcome.Conflict.{Conflict}
use Rattle.bodystore.specs.Stages.{Staged}
use Rattle.lending.specs.Lent.{Pass, Lending, is_writing, IsLent}
use Rattle.transaction.specs.Meeting.{met_at}
use Rattle.transaction.specs.Attempts.{AddsNothing, Meets, MetNone}
use Rattle.transaction.specs.Tries.{IsLaterPass}

-- a run that writes keeps its reads
pub told_by : (mode : Mode) (c : ℕ) (found : Pairs) → word_told mode c found ≡ (if is_writing mode then written c found else None)
told_by Reading c found = refl
told_by Writing c found = refl

module _ (l : Lending) (stage : Staged) (over : Option Conflict) (lent : IsLent l stage over) where
  pub is_later : IsLaterPass l.began l.going.known
  is_later =
      record {
        home = ap (λ (k : Pass). k.home) lent.since;
        name = ap (λ (k : Pass). k.name) lent.since;
        grows = lent.grows;
        full = lent.full_stays;
        exceeds = lent.exceeds;
        knows = lent.stands.knows;
      }

  pub adds_nothing : AddsNothing l.began l.going.known
  adds_nothing = record { mine = ap (λ (k : Pass). k.mine) lent.since; drawn = ap (λ (k : Pass). k.drawn) lent.since }

  -- the one load of the clock found the place
  pub runs_once : l.going.known.clocks ≡ l.going.place ∷ l.began.clocks
  runs_once = ap (λ (k : Pass). k.clocks) lent.since

  -- a run that isn't over met none
  pub met_none : l.going.over ≡ None → MetNone l.began l.going.known
  met_none none =
      record { place = l.going.place; placed = lent.placed; run = runs_once; found = lent.clear (sym lent.over_is ∙ none) }

  -- where a read met a conflict, so did the call; one that only reads tells no word that it had seen before
  pub meets : (c : Conflict) → l.going.over ≡ Some c
      → Meets (is_writing l.going.mode) l.began l.going.known (met_at l.going.place c)
  meets c is =
      let has = lent.met c (sym lent.over_is ∙ is) in
      record {
        placed = lent.placed;
        run = runs_once;
        looked = has.looked;
        before = has.before ∙ told_by l.going.mode c.cell l.going.known.found;
        cause = inl has.cause;
        written = has.written;
      }
