-- Letters that can be read again as a compressed proof.
use Rattle.std.proofs.Common.{◌≡◌, ◌<◌, ◌≤◌, ◌+◌, ◌-◌, ℕ, false, List, [], length, drop, get_or, replicate, sym, subst, inl, inr, arith}
use Rattle.std.specs.Prelude.{Some, slice_get}
use Rattle.std.proofs.lemmas.List.{drop_more}
use Rattle.std.proofs.lemmas.Option.{get_or_from_slice_get}
use Rattle.source.specs.declared.letters.Code.{Code}
use Rattle.source.specs.declared.letters.Code.TheVariants.{Number}
use Rattle.sourcewriting.specs.declared.shared.CountedLabel.{CountedLabel}
use Rattle.sourcewriting.specs.declared.shared.Shared.{Shared}
use Rattle.sourcewriting.specs.declared.reading.Reader.{Reader}
use Rattle.sourcewriting.specs.Readable.{Read, seen_reader, unread, Cites, Repeats, Leads, LeadAll}

module _ (s : Shared) (cs : List CountedLabel) (code : Code) (old new : Read) (leads : Leads s cs code old new) where
  -- a number that is no larger than there are labels counts one of them
  pub cites_at : (d : CountedLabel) (n place : ℕ) → code ≡ Number n → place ≡ n - 1 → place < length cs
      → Cites s (get_or cs place d) old new
  cites_at d n place is place-is within =
      elim (subst (λ c. Leads s cs c old new) is leads) [
        | inl one ↦
            let same : one.place ≡ place = omega (arith, one.numbered) in
            let at : slice_get cs place ≡ Some one.label = subst (λ k. slice_get cs k ≡ Some one.label) same one.counted in
            subst (λ l. Cites s l old new) (sym (get_or_from_slice_get cs place one.label d at)) one.cites
        | inr again ↦ absurd (omega (arith, again.numbered))
      ]

  -- and a larger one counts a mark
  pub repeats_at : (n place : ℕ) → code ≡ Number n → place ≡ n - 1 → length cs ≤ place → Repeats (place - length cs) old new
  repeats_at n place is place-is above =
      elim (subst (λ c. Leads s cs c old new) is leads) [
        | inl one ↦
            let below = one.within in absurd (omega (arith, one.numbered))
        | inr again ↦
            let same : again.mark ≡ place - length cs = omega (arith, again.numbered) in
            subst (λ k. Repeats k old new) same again.repeats
      ]

-- nothing is read by a new reader
pub none_seen : (r : Reader) (nodes : ℕ) → r.entries.items ≡ [] → r.marked.items ≡ [] → r.written.items ≡ replicate nodes false
    → r.may_mark ≡ false → seen_reader r ≡ unread nodes
none_seen r nodes entries marked written may = cc

-- the next code of those that are left
pub led_by : (s : Shared) (cs : List CountedLabel) (codes : List Code) (i : ℕ) (d : Code) (old end : Read) → i < length codes
    → LeadAll s cs (drop i codes) old end → (mid : Read) × Leads s cs (get_or codes i d) old mid × LeadAll s cs (drop (i + 1) codes) mid end
led_by s cs codes i d old end within leads = subst (λ rest. LeadAll s cs rest old end) (drop_more codes i d within) leads
