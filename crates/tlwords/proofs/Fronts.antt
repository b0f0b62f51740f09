-- The values of the front's range cells: what a held cell is to get names a range, and a step that sets one cell keeps that each does.
use Rattle.std.proofs.Common.{◌≡◌, ◌≢◌, ℕ, zero, suc, ◌⊎◌, inl, inr, ⊎_elim, true, false, ◌==◌, Some, None, List, [], ◌∷◌, Option, length}
use Rattle.std.proofs.Common.{slice_get, slice_set, slice_index, sym, refl, ap, ◌∙◌, subst, arith}
use mathlib.Core.Option.{some}
use lib.ListN.{get_elem?}
use Rattle.tlcore.specs.History.{WordsEntry, Deed, Nothing, Will, Did, wv, value_over, version_over, value_after, version_after, deed}
use Rattle.ranges.specs.Pairs.{written}
use Rattle.tlcore.specs.History.{deed_of, version, value}
use Rattle.tlcore.specs.Seats.{Seat, number_at, find_held}
use Rattle.tlcore.specs.Invariant.{PhaseOk, HeldOk, HeldShows, CheckingOk, done_at}
use Rattle.tlcore.proofs.Lists.{get-set_cases, equal_numbers, known}
use Rattle.tlcore.proofs.SeatParts.{written-held}
use Rattle.tlcore.proofs.Settling.{deed_now}
use Rattle.tlcore.specs.declared.entries.Status.TheVariants.{Done}
use Rattle.tlcore.specs.declared.cells.Cell.{Cell}
use Rattle.tlcore.specs.declared.seats.Held.{Held}
use Rattle.tlcore.specs.declared.seats.Phase.{Phase}
use Rattle.tlcore.specs.declared.seats.Phase.TheVariants.{Checking, Storing}
use Rattle.ranges.specs.Ranges.{Range, Has, Names}
use Rattle.ranges.specs.Pairs.{Pairs}
use Rattle.tlwords.specs.Terms.{Terms, Permits}
use Rattle.tlwords.specs.Views.{View}
use Rattle.tlwords.specs.Rule.{Suits}
use Rattle.tlwords.proofs.Keeps.{Rule, now, seat_at}

-- ---- what was written to a cell

-- the value that is written to a cell is one of the writes
pub written_has : (c v : ℕ) (ps : Pairs) → written c ps ≡ Some v → Has (c, v) ps
written_has c v [] e = cc
written_has c v (p ∷ ps) e = go (known (p.0 == c)) (written_has c v ps)
  where
    go : ((p.0 == c) ≡ true) ⊎ ((p.0 == c) ≡ false) → (written c ps ≡ Some v → Has (c, v) ps) → Has (c, v) (p ∷ ps)
    go (inl t) ih =
        let q : Some p.1 ≡ Some v = rw t at e in
        let same : p.1 ≡ v = cc in
        let cell : p.0 ≡ c = equal_numbers p.0 c t in
        inl (λ j. (sym cell j, sym same j))
    go (inr t) ih = inr (ih (rw t at e))

-- where the last writer is the entry i, it wrote the value
newest_did : (d : ℕ → Deed) (o n i : ℕ) → version_after d n ≡ suc i → d i ≡ Did (value_after d o n)
newest_did d o zero i e = absurd (omega arith)
newest_did d o (suc n) i e = go (d n) refl (newest_did d o n i)
  where
    go : (y : Deed) → d n ≡ y → (version_after d n ≡ suc i → d i ≡ Did (value_after d o n)) → d i ≡ Did (value_after d o (suc n))
    go Nothing p ih =
        let q : version_after d (suc n) ≡ version_after d n = ap (λ (y : Deed). version_over y (suc n) (version_after d n)) p in
        let s : value_after d o (suc n) ≡ value_after d o n = ap (λ (y : Deed). value_over y (value_after d o n)) p in
        ih (sym q ∙ e) ∙ ap (λ (z : ℕ). Did z) (sym s)
    go (Will a) p ih =
        let q : version_after d (suc n) ≡ version_after d n = ap (λ (y : Deed). version_over y (suc n) (version_after d n)) p in
        let s : value_after d o (suc n) ≡ value_after d o n = ap (λ (y : Deed). value_over y (value_after d o n)) p in
        ih (sym q ∙ e) ∙ ap (λ (z : ℕ). Did z) (sym s)
    go (Did a) p ih =
        let q : version_after d (suc n) ≡ suc n = ap (λ (y : Deed). version_over y (suc n) (version_after d n)) p in
        let s : value_after d o (suc n) ≡ a = ap (λ (y : Deed). value_over y (value_after d o n)) p in
        let k : suc n ≡ suc i = sym q ∙ e in
        let m : i ≡ n = omega (arith, k) in
        ap d m ∙ (p ∙ ap (λ (z : ℕ). Did z) (sym s))

-- the value that a Done entry wrote is that of its writes
done_written : (w : Option ℕ) (v : ℕ) → deed_of Done w ≡ Did v → w ≡ Some v
done_written (Some x) v e = let q : x ≡ v = cc in ap (λ (z : ℕ). Some z) q
done_written None v e = cc

module _ {S N : Type 0} (terms : Terms S N) (setting : S) (base : List ℕ) (room : ℕ) where
  module _ (ranges : List Range) (ws : List ℕ) (vs : List (View S N)) (r : Rule terms setting base room ranges ws vs) where
    -- a cell gets new words, and its value names a range where the cell is a range cell: so does each
    pub named_after : (c : ℕ) (y : Cell) → (terms.ranged setting c ≡ true → Names ranges y.value)
        → (d : ℕ) (x : Cell) → slice_get (slice_set (r.world).cells c y) d ≡ Some x → terms.ranged setting d ≡ true → Names ranges x.value
    named_after c y new d x e ranged = ⊎_elim
        (λ (p : (d ≡ c) × (x ≡ y)).
        subst (λ (z : Cell). Names ranges z.value) (sym p.1) (new (subst (λ (e : ℕ). terms.ranged setting e ≡ true) p.0 ranged)))
        (λ (p : (d ≢ c) × (slice_get (r.world).cells d ≡ Some x)). r.named d x p.1 ranged)
        (get-set_cases (r.world).cells c d y x e)

    -- only the lock word of the cell is new
    pub named_locked : (c word : ℕ) (x : Cell) → slice_get (r.world).cells c ≡ Some x
        → (d : ℕ) (y : Cell) → slice_get (slice_set (r.world).cells c (record x { lock = word })) d ≡ Some y
        → terms.ranged setting d ≡ true → Names ranges y.value
    named_locked c word x f = named_after c (record x { lock = word }) (r.named c x f)

    -- what an entry writes to a range cell names a range
    written_named : (i c v : ℕ) (e : WordsEntry) (n : N) → slice_get (r.world).history i ≡ Some e → slice_get r.notes i ≡ Some n
        → written c e.writes ≡ Some v → terms.ranged setting c ≡ true → Names ranges v
    written_named i c v e n here note wrote ranged =
        let p : Permits terms setting ranges e.reads e.writes n × (e.writes ≢ []) = r.entries i e n here note in
        (p.0).named c v (written_has c v e.writes wrote) ranged

    -- what a seat that has drawn is to store in a range cell names a range
    pub held_named : (id : ℕ) (v : View S N) → get_elem? vs id ≡ some v → (c i : ℕ) (k : Held)
        → ((upto : ℕ) × (v.seat.phase ≡ Checking i upto)) ⊎ (v.seat.phase ≡ Storing i) → find_held c v.seat.held ≡ Some k
        → terms.ranged setting c ≡ true → Names ranges k.value
    held_named id v at c i k (inl p) holds =
        let t : Seat = v.seat in
        let e : slice_get (r.world).seats id ≡ Some t = seat_at terms setting base room ranges ws vs r id v at in
        let f : Suits terms setting base room (now terms setting base room ranges ws vs r) r.owner v = r.suits id v at in
        let noted : (n : N) × (v.note ≡ Some n) × (slice_get r.notes i ≡ Some n) = f.noted i (ap number_at p.1) in
        let ok : CheckingOk base (r.world).history t i p.0 =
        subst (λ (z : Phase). PhaseOk base (r.world).cells (r.world).history t z) p.1 ((r.invariant).consistent.seats id t e).phase in
        let wrote : written c (ok.entry).writes ≡ Some k.value =
        ap (λ (ps : Pairs). written c ps) ok.writes ∙ written-held c t.held k holds in
        written_named i c k.value ok.entry noted.0 ok.here noted.2 wrote
    held_named id v at c i k (inr p) holds =
        let t : Seat = v.seat in
        let h : List WordsEntry = (r.world).history in
        let e : slice_get (r.world).seats id ≡ Some t = seat_at terms setting base room ranges ws vs r id v at in
        let f : Suits terms setting base room (now terms setting base room ranges ws vs r) r.owner v = r.suits id v at in
        let noted : (n : N) × (v.note ≡ Some n) × (slice_get r.notes i ≡ Some n) = f.noted i (ap number_at p) in
        let ok : (e : WordsEntry) × (slice_get h i ≡ Some e) × (e.status ≡ Done) =
        subst (λ (z : Phase). PhaseOk base (r.world).cells h t z) p ((r.invariant).consistent.seats id t e).phase in
        let b : (x : Cell) × (slice_get (r.world).cells c ≡ Some x) × HeldOk base h t.rv t.phase c k x =
        ((r.invariant).consistent.seats id t e).held c k holds in
        let shows : (version h c ≡ wv i) × (value base h c ≡ k.value) × (k.stored ≡ true → (b.0).value ≡ k.value) =
        subst (λ (z : Phase). HeldShows base h (done_at z) c k b.0) p b.2.shows in
        let did : deed h c i ≡ Did k.value =
        newest_did (deed h c) (slice_index base c) (length h) i shows.0 ∙ ap (λ (z : ℕ). Did z) shows.1 in
        let is : deed_of Done (written c (ok.0).writes) ≡ Did k.value =
        ap (λ (s : _). deed_of s (written c (ok.0).writes)) (sym ok.2) ∙ (sym (deed_now h i c ok.0 ok.1) ∙ did) in
        written_named i c k.value ok.0 noted.0 ok.1 noted.2 (done_written (written c (ok.0).writes) k.value is)
