-- What a pass and a run know, as their calls go.
use Rattle.std.proofs.Common.{◌≡◌, ℕ, ◌≤◌, ◌^◌, Bool, true, false, if◌then◌else◌, ◌==◌, is_some, Option, Some, None, List, [], ◌∷◌, length}
use Rattle.std.proofs.Common.{◌⊎◌, inl, inr, ⊎_elim}
use Rattle.std.proofs.Common.{sym, refl, ap, ◌∙◌, subst, arith}
use Rattle.std.proofs.lemmas.Bool.{cases_Bool}
use Rattle.std.proofs.lemmas.Bool.Decides.{Decides-eqb}
use Rattle.std.proofs.lemmas.Option.{none-some}
use Rattle.std.specs.Option.{option_map}
use Rattle.atomic_table.specs.Seated.{TableId}
use Rattle.atomic_table.specs.declared.shared.Seat.{Seat as TableSeat}
use Rattle.tlcore.specs.Seats.{Seat, find_read, is_nil, is_reading, is_resting, number_at, reads_of}
use Rattle.tlcore.specs.declared.seats.Phase.{Phase}
use Rattle.tlcore.specs.declared.seats.Read.{Read}
use Rattle.tlcore.specs.History.{One}
use Rattle.tlcore.proofs.Words.{reading_at, resting_at}
use Rattle.ranges.specs.Ranges.{Has}
use Rattle.ranges.specs.Pairs.{written}
use Rattle.tlwords.specs.declared.log.Slot.{Slot}
use Rattle.tlwords.specs.declared.mode.Mode.{Mode}
use Rattle.tlwords.specs.declared.mode.Mode.TheVariants.{Reading, Writing}
use Rattle.tlwords.specs.declared.outcome.Conflict.{Conflict}
use Rattle.tlwords.specs.declared.outcome.Outcome.{Outcome}
use Rattle.tlwords.specs.declared.outcome.Outcome.TheVariants.{Committed as EndsDone, Read as EndsRead, Conflict as EndsConflict}
use Rattle.tlwords.specs.declared.outcome.Outcome.TheVariants.{NumbersUsed}
use Rattle.tlwords.specs.Terms.{Terms}
use Rattle.tlwords.specs.Views.{Staging, Gone, View, Sound}
use Rattle.tlwords.specs.Seen.{Call}
use Rattle.tlwords.specs.Known.{Known, Going, Knows, Stands, known_of, going_of, found_of, word_told}
use Rattle.tlwords.specs.Plays.{Mine, Sees, IsSameSeat}
use Rattle.tlwords.specs.Calls.{work_done, Ends, IsCommitted, IsAnswered, IsRejected}
use Rattle.tlwords.specs.Committing.{Concludes}
use Rattle.tlwords.specs.Runs.{KnowsStore, IsPassOf, IsRunOf, IsKeptOf, Rests, Runs, IsBlank, noted, word_seen}

pub known_setting : {A : Type 0} (o : Option A) → is_some o ≡ true → (x : A) × (o ≡ Some x)
known_setting None e = absurd (cc)
known_setting (Some x) e = (x, refl)

-- the range that a pass is staging, and the passes that were given up to it
abbrev pub rest_of : {S N : Type 0} → View S N → Option Staging × List (Gone S N)
rest_of v = (v.staging, v.gone)

-- a seat that rests has drawn no number for a run
not_drawing : {A : Type 0} (p : Phase) (i : ℕ) → is_resting p ≡ true → (number_at p ≡ Some i) ⊎ A → A
not_drawing p i e (inr a) = a
not_drawing p i e (inl q) =
    absurd (none-some i (sym (⊎_elim (λ r. ap number_at r) (λ r. ap number_at r) (resting_at p e)) ∙ q))

-- the word that the slots have of a cell is the one that its newest read found
pub newest : (c : ℕ) (rs : List Read) → option_map (λ (r : Read). r.word) (find_read c rs) ≡ written c (found_of rs)
newest c [] = refl
newest c (r ∷ rs) = go (r.cell == c) (newest c rs)
  where
    go : (b : Bool) → option_map (λ (r : Read). r.word) (find_read c rs) ≡ written c (found_of rs)
        → option_map (λ (r : Read). r.word) (if b then Some r else find_read c rs) ≡ (if b then Some r.word else written c (found_of rs))
    go true e = refl
    go false e = e

pub told_of : (mode : Mode) (t : Seat) (slots : List Slot) (c : ℕ) → IsKeptOf (noted mode t) slots
    → word_seen slots c ≡ word_told mode c (found_of t.reads)
told_of Reading t slots c k = k.0 c
told_of Writing t slots c k = k.0 c ∙ newest c t.reads

-- a cell whose read has ended has a value among the reads
ended_reads : (rs : List Read) (c w : ℕ) → written c (found_of rs) ≡ Some w → (v : ℕ) × Has (c, v) (reads_of rs)
ended_reads [] c w is = absurd (none-some w is)
ended_reads (r ∷ rs) c w is =
    elim (cases_Bool (r.cell == c)) [
      | inl same ↦ (r.value, inl (λ i. (sym ((Decides-eqb r.cell c).0 same) i, r.value)))
      | inr other ↦
          let later = ended_reads rs c w (ap (λ (b : Bool). if b then Some r.word else written c (found_of rs)) (sym other) ∙ is) in
          (later.0, inr later.1)
    ]

few_by : (n count : ℕ) → n ≡ count → count ≤ 2 ^ 40 → n ≤ 2 ^ 40
few_by n count e l = omega (arith, e, l)

module _ {S N : Type 0} (terms : Terms S N) where
  pub left_fits : (m : Mine S N) (count place : ℕ) (o : Bool) → IsRunOf m count place o → IsPassOf m count
  left_fits m count place o f = (f.0, rests m.0.seat.phase o f.1, f.2, f.3, f.4)
    where
      rests : (p : Phase) (o : Bool) → (if o then is_resting p else is_reading p) ≡ true → is_resting p ≡ true
      rests p true e = e
      rests p false e = ap is_resting (reading_at p e)

  pub knows_of : (table : TableId) (r : Mine S N) (count : ℕ) → Sound terms r.0 → IsPassOf r count → Knows terms (known_of table r.0)
  knows_of table r count s f =
      record {
        legal = s.legal;
        noted = s.noted;
        mine = s.mine;
        opening = s.opening;
        ranges = s.ranges;
        few = few_by (length r.0.drawn) count f.3 f.4;
        settled = λ i has. not_drawing r.0.seat.phase i f.1 (s.settled i has);
      }

  pub stands_of : (table : TableId) (r : Mine S N) (mode : Mode) (count place : ℕ) (over : Option Conflict) (slots : List Slot)
      → Sound terms r.0
      → IsRunOf r count place (is_some over) → Stands terms (going_of table r.0 place mode over slots)
  stands_of table r mode count place over slots s f =
      record {
        knows = knows_of table r count s (left_fits r count place (is_some over) f);
        placed = subst (λ (n : ℕ). n ≤ length r.0.seen.history) f.5 s.placed;
        one = λ x e. subst (λ (n : ℕ). One r.0.base r.0.seen.history n (reads_of r.0.seat.reads)) f.5 (s.one x e);
        ended = ended_reads r.0.seat.reads;
      }

  -- what was known of the store stays so, where the range that is staged does
  pub knows_on : (v w : View S N) (o p : Bool) → Sound terms w → is_some w.setting ≡ true → rest_of w ≡ rest_of v → is_some w.full ≡ p
      → KnowsStore v o → KnowsStore w p
  knows_on v w o p s set st fl k =
      let y = known_setting w.setting set in
      record { at_rest = ap (λ r. r.0) st ∙ k.at_rest; alone = ap (λ r. r.1) st ∙ k.alone; full = fl; ranges = s.ranges y.0 y.1 }

  -- ---- a run goes on: no more of its seat has changed than this

  module _ (table : TableId) (cells words count place : ℕ) (mode : Mode) (over full : Bool) (slots : List Slot)
      (p q : TableSeat (Unit {0}) (View S N)) (i : Runs table cells words p slots mode count place over full) (same : IsSameSeat p q)
      (t : Seat) (o : Option (ℕ × ℕ)) (taken added : ℕ)
      (is : q.me.0 ≡ record p.me.0 { seen = q.me.0.seen; seat = t; full = o; taken = taken; added = added }) (s : Sound terms q.me.0) where
    pub runs_on : (after : List Slot) (stopped refused : Bool) → (if stopped then is_resting t.phase else is_reading t.phase) ≡ true
        → t.rv ≡ p.me.0.seat.rv → is_nil t.held ≡ is_nil p.me.0.seat.held → IsKeptOf (noted mode t) after → length after ≡ length slots
        → is_some o ≡ refused → Runs table cells words q after mode count place stopped refused
    runs_on after stopped refused at rv held kept size fl =
        let y = known_setting p.me.0.setting i.fits.0 in
        subst (λ (v : View S N). let z : TableSeat (Unit {0}) (View S N) = record q { me = (v, q.me.1) } in
        Runs table cells words z after mode count place stopped refused) (sym is) (record {
          table_is = (same.0 ∙ i.table_is.0, i.table_is.1);
          room_is = i.room_is;
          fits = (i.fits.0, at, i.fits.2, i.fits.3, i.fits.4, rv ∙ i.fits.5, held ∙ i.fits.6);
          kept = kept;
          room = size ∙ i.room;
          knows = record {
            at_rest = i.knows.at_rest;
            alone = i.knows.alone;
            full = fl;
            ranges = (subst (λ (v : View S N). Sound terms v) is s).ranges y.0 y.1;
          };
          bare = same.2 ∙ i.bare;
        })

  -- ---- a run is over: no more of its view has changed than this

  module _ (mode : Mode) (slots : List Slot) (x : N) (p q : TableSeat (Unit {0}) (View S N)) (same : IsSameSeat p q) (count place now : ℕ)
      (fits : IsRunOf p.me count place false) (s : Sees terms p.me.0 q.me.0) (t : Seat) (note : Option N) (ds : List ℕ) (cs : List (Call N))
      (is : q.me.0 ≡ record p.me.0 { seen = q.me.0.seen; seat = t; note = note; drawn = ds; mine = cs })
      (rests : is_resting t.phase ≡ true) (many : length ds ≡ now) (few : now ≤ 2 ^ 40) where
    pub concludes : (o : Outcome) → (Knows terms (known_of q.table_id q.me.0)
        → Ends terms x (going_of p.table_id p.me.0 place mode None slots) (known_of q.table_id q.me.0) o) → Concludes terms x mode place
        slots now p q o
    concludes o ends =
        let pass : IsPassOf q.me now =
        subst (λ (v : View S N). IsPassOf {S = S} {N = N} (v, q.me.1) now) (sym is) (fits.0, rests, fits.2, many, few) in
        record {
          seat = same;
          pass = pass;
          store = λ full k. knows_on p.me.0 q.me.0 full full s.sound pass.0 (ap (λ (v : View S N). rest_of v) is)
              (ap (λ (v : View S N). is_some v.full) is ∙ k.full) k;
          ends = ends (knows_of q.table_id q.me now s.sound pass);
        }

  ends_home : (n : N) (g : Going S N) (r : Known S N) (o : Outcome) → Ends terms n g r o → r.home ≡ g.known.home
  ends_home n g r (EndsDone number) h =
      let c : IsCommitted terms number (work_done g n) g.known r = h.1 in ap (λ (k : Known S N). k.home) c.is
  ends_home n g r (EndsRead p) h = let a : IsAnswered terms p (work_done g n) g.known r = h.2 in ap (λ (k : Known S N). k.home) a.is
  ends_home n g r (EndsConflict k None) h =
      let c : IsRejected terms k None g r = h.1 in ap (λ (x : Known S N). x.home) c.entry
  ends_home n g r (EndsConflict k (Some number)) h =
      let c : IsRejected terms k (Some number) g r = h.1 in ap (λ (x : Known S N). x.home) c.entry.4
  ends_home n g r NumbersUsed h = ap (λ (k : Known S N). k.home) h.2

  -- a commit leaves the pass at its opening
  pub concluded_home : (n : N) (mode : Mode) (place : ℕ) (slots : List Slot) (count : ℕ) (p q : TableSeat (Unit {0}) (View S N))
      (o : Outcome)
      → Concludes terms n mode place slots count p q o → (known_of q.table_id q.me.0).home ≡ (known_of p.table_id p.me.0).home
  concluded_home n mode place slots count p q o c =
      ends_home n (going_of p.table_id p.me.0 place mode None slots) (known_of q.table_id q.me.0) o c.ends

  -- what holds of a pass, of what its run left
  pub rests_as : (p q : TableSeat (Unit {0}) (View S N)) (slots : List Slot) (a b : ℕ) (full : Bool) → q ≡ p → b ≡ a → IsPassOf p.me a
      → KnowsStore p.me.0 full → p.me.1 ≡ [] → IsBlank slots → length slots ≡ length p.me.0.base → Rests q slots b full
  rests_as p q slots a b full e f fits knows bare blank room =
      subst (λ (s : TableSeat (Unit {0}) (View S N)). Rests s slots b full) (sym e)
      (subst (λ (n : ℕ). Rests p slots n full) (sym f) (record { fits = fits; knows = knows; bare = bare; blank = blank; room = room }))
