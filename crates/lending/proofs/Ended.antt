-- When the words let a run end with a note, and that nothing that was seen is lost by its end.
use Rattle.std.proofs.Common.{◌≡◌, ℕ, Option, Some, None, sym, ap, refl, ◌∙◌, subst}
use Rattle.tlwords.specs.declared.outcome.Conflict.{Conflict}
use Rattle.tlwords.specs.declared.outcome.Outcome.{Outcome as Answer}
use Rattle.tlwords.specs.declared.outcome.Outcome.TheVariants.{Committed as EndsDone, Read as EndsRead, Conflict as EndsConflict, NumbersUsed}
use Rattle.tlwords.specs.Terms.{Permits}
use Rattle.tlwords.specs.Seen.{SeenGrows}
use Rattle.tlwords.specs.Calls.{Ends, IsLawful}
use Rattle.tlwords.specs.Commits.{writes_kept}
use Rattle.tlwords.proofs.Seens.{seen_refl}
use Rattle.ranges.proofs.Grown.{within_refl}
use Rattle.bodystore.specs.Stages.{Staged}
use Rattle.lawful.specs.declared.notes.Note.{Note}
use Rattle.lawful.specs.Lawful.{library_terms}
use Rattle.lending.specs.Lent.{Pass, Lending, IsLent}
use Rattle.lending.specs.Ends.{IsLawfulWith, staged_after}

module _ (l : Lending) (stage : Staged) (over : Option Conflict) (i : IsLent l stage over) where
  -- a note of which the run is lawful is one with which the words let it commit
  pub may_end : (note : Note) → IsLawfulWith l (writes_kept l.going.slots) note → IsLawful library_terms l.going note
  may_end note lawful x setting =
      let given = ap (λ (k : Pass). k.home.setting) i.since in
      let same : x ≡ l.given = (let q : Some x ≡ Some l.given = sym setting ∙ (given ∙ i.on.0) in cc) in
      subst (λ y. Permits library_terms y l.going.known.seen.ranges l.going.reads (writes_kept l.going.slots) note) (sym same)
      (record { some = l.going.known.seen.ranges; among = within_refl l.going.known.seen.ranges; lawful = lawful; named = i.named })

-- what was seen before a commit is seen after it
ends_grow : (note : Note) (l : Lending) (k : Pass) (a : Answer) → Ends library_terms note l.going k a → SeenGrows l.going.known.seen k.seen
ends_grow note l k (EndsDone number) h = h.1.grows
ends_grow note l k (EndsRead place) h = h.2.grows
ends_grow note l k (EndsConflict c drawn) h = h.1.grows
ends_grow note l k NumbersUsed h = subst (λ (x : Pass). SeenGrows l.going.known.seen x.seen) (sym h.2) (seen_refl l.going.known.seen)

-- what was staged stays where a run didn't commit
pub still_staged : (a : Answer) (staged : Staged) → ((number : ℕ) → a ≡ EndsDone number → ⊥) → staged ≡ staged_after a staged
still_staged (EndsDone number) staged none = absurd (none number refl)
still_staged (EndsRead place) staged none = refl
still_staged (EndsConflict c drawn) staged none = refl
still_staged NumbersUsed staged none = refl

-- a commit takes no word of the store
ends_taken : (note : Note) (l : Lending) (k : Pass) (a : Answer) → Ends library_terms note l.going k a → k.taken ≡ l.going.known.taken
ends_taken note l k (EndsDone number) h = ap (λ (x : Pass). x.taken) h.1.is
ends_taken note l k (EndsRead place) h = ap (λ (x : Pass). x.taken) h.2.is
ends_taken note l k (EndsConflict c None) h = ap (λ (x : Pass). x.taken) h.1.entry
ends_taken note l k (EndsConflict c (Some number)) h = let e = h.1.entry in ap (λ (x : Pass). x.taken) e.4
ends_taken note l k NumbersUsed h = ap (λ (x : Pass). x.taken) h.2

-- so does the end of a run that had met a conflict
pub ended_taken : (note : Note) (l : Lending) (k : Pass) (a : Answer)
    → ((c : Conflict) → l.going.over ≡ Some c → (a ≡ EndsConflict c None) × (k ≡ l.going.known))
    → (l.going.over ≡ None → Ends library_terms note l.going k a) → k.taken ≡ l.going.known.taken
ended_taken note l k a met ended = go l.going.over refl
  where
    go : (o : Option Conflict) → l.going.over ≡ o → k.taken ≡ l.going.known.taken
    go None e = ends_taken note l k a (ended e)
    go (Some c) e = ap (λ (x : Pass). x.taken) (met c e).1

-- after the end of a run, one that had met a conflict too
pub ended_grows : (note : Note) (l : Lending) (k : Pass) (a : Answer)
    → ((c : Conflict) → l.going.over ≡ Some c → (a ≡ EndsConflict c None) × (k ≡ l.going.known))
    → (l.going.over ≡ None → Ends library_terms note l.going k a) → SeenGrows l.going.known.seen k.seen
ended_grows note l k a met ended = go l.going.over refl
  where
    go : (o : Option Conflict) → l.going.over ≡ o → SeenGrows l.going.known.seen k.seen
    go None e = ends_grow note l k a (ended e)
    go (Some c) e = subst (λ (x : Pass). SeenGrows l.going.known.seen x.seen) (sym (met c e).1) (seen_refl l.going.known.seen)
