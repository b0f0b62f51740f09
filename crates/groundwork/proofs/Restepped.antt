-- The slot of a theorem that is given another proof.
use Rattle.std.proofs.Common.{◌≡◌, ◌≢◌, ℕ, ◌<◌, ◌^◌, List, refl, sym, ap, subst, ◌∙◌, arith, nat_eq}
use Rattle.std.specs.Prelude.{All}
use Rattle.mmsyntax.specs.Assertions.{Distinct}
use Rattle.library.specs.Library.{Setting}
use Rattle.library.specs.Edits.{changed, with_proof}
use Rattle.library.proofs.Places.{found_in}
use Rattle.ranges.specs.Ranges.{Has}
use Rattle.ranges.proofs.Members.{all_from_has}
use Rattle.bodystore.specs.declared.stored.StoredStep.{StoredStep}
use Rattle.bodystore.specs.Bodies.{proof_body}
use Rattle.cells.specs.State.{State, HasBody}
use Rattle.cells.specs.Slots.{proof_cell, citers_cell}
use Rattle.cells.specs.Shows.{AreStoredAs, Shows}
use Rattle.cells.specs.Sight.{Sight, Matches, Onward, Looks, after}
use Rattle.cells.specs.Lookups.{ForEachHeld}
use Rattle.cells.specs.Counts.{CountsIn, CountsOut}
use Rattle.cells.proofs.Sights.{matches_back, after_looks, setting_kept}
use Rattle.cells.proofs.Holding.{stored_named, named_held}
use Rattle.cells.proofs.Counted.{listed_within}
use Rattle.cells.proofs.Reproving.{less_few, reproved_shows}
use Rattle.groundwork.specs.Changes.{AreExchanged, ReprovesAt}
use Rattle.groundwork.proofs.Seeing.{views_later, found_later}

-- what counting out ensures
abbrev pub CountsOutOf : {O : Type 0} → Sight O → Sight O → List ℕ → Type 0
CountsOutOf s t listed =
    (st : State) → Matches t st → All (λ i. i < s.setting.slots) listed → Distinct nat_eq listed
    → CountsOut listed (after s st) (after t st)

-- and what counting in does
abbrev pub CountsInOf : {O : Type 0} → Sight O → Sight O → List ℕ → Type 0
CountsInOf s t listed =
    (st : State) → Matches t st → ((i : ℕ) → Has i listed → (after s st).value (citers_cell i) < 2 ^ 32) → Distinct nat_eq listed
    → CountsIn listed (after s st) (after t st)

-- the proof cell names the body of other steps, what the former proof cites is counted out, and what these cite is counted in
pub restepped : {O : Type 0} → (s0 s1 s2 s3 s4 : Sight O) (i : ℕ) (label : List ℕ) (former kept : List StoredStep)
    (dropped gained words : List ℕ) → Looks s0 s1
    → Onward s1 s2 → Onward s2 s3 → Onward s3 s4
    → ForEachHeld s1 i (λ st lib e. AreStoredAs s1.setting.slots st e.assertion.proof former)
    → AreExchanged former kept dropped gained → words ≡ proof_body kept
    → ((st : State) → Matches s2 st → HasBody (after s2 st) (proof_cell i) words)
    → ((st : State) (c : ℕ) → c ≢ proof_cell i → (after s2 st).value c ≡ (after s1 st).value c)
    → CountsOutOf s2 s3 dropped → CountsInOf s3 s4 gained → ReprovesAt s0 s4 i label kept
restepped s0 s1 s2 s3 s4 i label former kept dropped gained words looks on2 on3 on4 read exchange words_are names others counts
    adds st lib m seen here steps theorem stored_as =
    let slots = s1.setting.slots in
    let m3 = matches_back s3 s4 st on4 m in
    let m2 = matches_back s2 s3 st on3 m3 in
    let m1 = matches_back s1 s2 st on2 m2 in
    let v = views_later s0 s1 st lib looks m1 seen in
    let at = found_later s0 s1 st lib label i looks here in
    let store = v.matches.store in
    let apart = v.verifies.library.distinct in
    let setting : s4.setting ≡ s1.setting = setting_kept on4 ∙ (setting_kept on3 ∙ (setting_kept on2)) in
    let slots_are : s2.setting.slots ≡ s1.setting.slots = ap (λ (x : Setting). x.slots) (setting_kept on2) in
    let stored = read st lib v at.entry (found_in lib label at.entry at.found).0 at.holds in
    let stored_now = subst (λ (x : State). AreStoredAs slots x steps kept) (sym (after_looks s0 s1 st looks))
    (subst (λ (x : Setting). AreStoredAs x.slots (after s0 st) steps kept) (sym (setting_kept looks.onward)) stored_as) in
    let within = all_from_has (λ j. j < s2.setting.slots) dropped (λ j h.
    subst (λ (n : ℕ). j < n) (sym slots_are)
    (listed_within slots (after s1 st) lib v.shows store at.entry.assertion.proof former exchange.before stored exchange.cited_before j
    (exchange.drops.from j h).0)) in
    let body = subst (HasBody (after s2 st) (proof_cell i)) words_are (names st m2) in
    let out = counts st m3 within exchange.drops.apart in
    let small : (j : ℕ) → Has j gained → (after s3 st).value (citers_cell j) < 2 ^ 32 = λ j h.
    let named = stored_named slots (after s1 st) lib v.shows store steps kept j stored_now
    (exchange.cited_now.cited j (exchange.gains.from j h).0) in
    let p = named_held slots (after s1 st) lib v.shows store j named.0 named.1 in
    let few = less_few slots (after s1 st) (after s2 st) (after s3 st) (after s4 st) lib v.shows store apart label i at theorem steps
    former kept exchange.before exchange.now stored stored_now exchange.cited_before exchange.cited_now dropped gained
    exchange.drops exchange.gains refl refl body (others st) out
    p.0 p.1 in
    let room = v.verifies.library.room in
    let most = v.verifies.setting.few in
    subst (λ (n : ℕ). (after s3 st).value (citers_cell n) < 2 ^ 32) p.2 (omega (arith, few, room, most)) in
    let more = adds st m small exchange.gains.apart in
    subst (λ (x : Setting). Shows x.slots (after s4 st) (changed label (with_proof steps) lib)) (sym setting)
    (reproved_shows slots (after s1 st) (after s2 st) (after s3 st) (after s4 st) lib v.shows store apart label i at theorem steps
    former kept exchange.before exchange.now stored stored_now exchange.cited_before exchange.cited_now dropped gained
    exchange.drops exchange.gains refl refl body (others st) out
    more)
