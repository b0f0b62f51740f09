-- The numbers that the sessions of a library drew, all of them together: those that are done are those of the done entries of its history.
use Rattle.std.proofs.Common.{◌≡◌, ℕ, suc, ◌+◌, ◌<◌, ◌≤◌, Bool, cond, List, [], ◌∷◌, ◌++◌, length, map, flat_map, inl, inr, refl, sym, ap, subst, ◌∙◌, arith}
use Rattle.std.specs.Prelude.{All, IsPermutation, drop, filter}
use Rattle.std.specs.List.{AllZip}
use Rattle.std.proofs.lemmas.List.{length-append, length-map}
use Rattle.std.proofs.lemmas.List.Elements.{All-head, All-tail, filter-append}
use Rattle.std.proofs.lemmas.List.Sorted.{IsPermutation-sym, IsPermutation-trans}
use Rattle.std.proofs.lemmas.Slice.Zip.{AllZip-long}
use Rattle.library.specs.declared.history.Entry.{Entry as CodeEntry}
use Rattle.library.specs.Library.{Listed}
use Rattle.library.specs.Histories.{Entry, Grows, seen_entry}
use Rattle.ranges.specs.Ranges.{Has}
use Rattle.tlwords.specs.Rule.{total_of}
use Rattle.ranges.proofs.Members.{all_has, has_flat, has_mapped, mapped_has}
use Rattle.cells.proofs.Tallies.{filter_permutation}
use Rattle.lawful.specs.History.{history_of}
use Rattle.lawful.proofs.Entries.{at_index}
use Rattle.claims.specs.Claims.{up_to}
use Rattle.lending.specs.Lent.{Pass}
use Rattle.transaction.specs.declared.outcome.Record.{Record}
use Rattle.transaction.specs.Members.{Home, Member, AreRecorded, IsRecordIn, entry_recorded}
use Rattle.workers.specs.Works.{IsHandedBack, is_done, newly_done, all_newly_done}
use Rattle.workers.proofs.Numbers.{done_at}
use Rattle.finishing.specs.Finishes.{IsFinished}
use Rattle.transaction.proofs.Recorded.{recorded_settled}
use Rattle.editing.specs.Edits.{done_numbers}
use Rattle.editing.proofs.Covers.{covers}

-- ---- lists

filter_same : (p q : ℕ → Bool) (xs : List ℕ) → ((x : ℕ) → Has x xs → p x ≡ q x) → filter p xs ≡ filter q xs
filter_same p q [] alike = refl
filter_same p q (x ∷ xs) alike =
    ap (λ b. cond b (x ∷ filter p xs) (filter p xs)) (alike x (inl refl))
    ∙ ap (λ ys. cond (q x) (x ∷ ys) ys) (filter_same p q xs (λ y has. alike y (inr has)))

abbrev drawn_by : Member → List ℕ
drawn_by m = m.known.drawn

total_drawn : (ms : List Member) → length (flat_map drawn_by ms) ≡ total_of (λ (v : Pass). length v.drawn) (map (λ m. m.known) ms)
total_drawn [] = refl
total_drawn (m ∷ ms) =
    length-append m.known.drawn (flat_map drawn_by ms) ∙ ap (λ n. length m.known.drawn + n) (total_drawn ms)

-- one drew no more than all together
drawn_within : (ms : List Member) (m : Member) → Has m ms → length m.known.drawn ≤ length (flat_map drawn_by ms)
drawn_within [] m has = absurd has
drawn_within (n ∷ ns) m (inl same) =
    let size = length-append n.known.drawn (flat_map drawn_by ns) in
    let own = ap (λ (z : Member). length z.known.drawn) same in
    omega (arith, size, own)
drawn_within (n ∷ ns) m (inr has) =
    let size = length-append n.known.drawn (flat_map drawn_by ns) in
    let others = drawn_within ns m has in
    omega (arith, size, others)

-- ---- one session

-- a number that a session drew is done in its history where it is in a later one
same_done : (m : Member) (h : List Entry) → AreRecorded m → Grows (history_of m.known.seen) h → (n : ℕ) → Has n m.known.drawn
    → is_done (history_of m.known.seen) n ≡ is_done h n
same_done m h recorded grows n has =
    let own = history_of m.known.seen in
    let r = mapped_has (λ (x : Record). x.number) m.records n (subst (Has n) (sym recorded.numbers) has) in
    let noted = all_has (IsRecordIn own) m.records r.0 recorded.entries r.1 in
    let e = entry_recorded r.0.done in
    let number : n ≡ suc noted.0 = r.2 ∙ noted.1 in
    let later = grows.kept noted.0 e noted.2 (recorded_settled r.0.done) in
    ap (is_done own) number ∙ done_at own noted.0 e noted.2 ∙ sym (ap (is_done h) number ∙ done_at h noted.0 e later)

-- ---- all of them

module _ (h : List Entry) where
  newly : (old new : Member) → old.known.drawn ≡ [] → AreRecorded new → Grows (history_of new.known.seen) h
      → newly_done old new ≡ filter (is_done h) new.known.drawn
  newly old new none recorded grows =
      ap (λ (ns : List ℕ). filter (is_done (history_of new.known.seen)) (drop (length ns) new.known.drawn)) none
      ∙ filter_same (is_done (history_of new.known.seen)) (is_done h) new.known.drawn (same_done new h recorded grows)

  all_newly : (before after : List Member) → All (λ (m : Member). m.known.drawn ≡ []) before → AllZip IsHandedBack before after
      → All (λ (m : Member). Grows (history_of m.known.seen) h) after
      → all_newly_done before after ≡ filter (is_done h) (flat_map drawn_by after)
  all_newly [] [] none back grow = refl
  all_newly [] (n ∷ ns) none back grow = absurd back
  all_newly (m ∷ ms) [] none back grow = absurd back
  all_newly (m ∷ ms) (n ∷ ns) none back grow =
      let drew = λ (x : Member). x.known.drawn ≡ [] in
      let into = λ (x : Member). Grows (history_of x.known.seen) h in
      let here = newly m n (All-head drew m ms none) back.0.0.stands.recorded (All-head into n ns grow) in
      let rest = all_newly ms ns (All-tail drew m ms none) back.1 (All-tail into n ns grow) in
      (λ i. here i ++ rest i) ∙ sym (filter-append (is_done h) n.known.drawn (flat_map drawn_by ns))

module _ (home : Home) (before after : List Member) (history : List CodeEntry) (library : Listed)
    (finished : IsFinished home after history library) (many : length before ≡ home.sessions)
    (none : All (λ (m : Member). m.known.drawn ≡ []) before) (back : AllZip IsHandedBack before after) where
  abbrev entries : List Entry
  entries = map seen_entry history

  recorded : (m : Member) → Has m after → AreRecorded m
  recorded = stands before after back
    where
      stands : (olds news : List Member) → AllZip IsHandedBack olds news → (m : Member) → Has m news → AreRecorded m
      stands [] [] zipped m has = absurd has
      stands [] (y ∷ ys) zipped m has = absurd zipped
      stands (x ∷ xs) [] zipped m has = absurd zipped
      stands (x ∷ xs) (y ∷ ys) zipped m (inl same) = subst AreRecorded (sym same) zipped.0.0.stands.recorded
      stands (x ∷ xs) (y ∷ ys) zipped m (inr has) = stands xs ys zipped.1 m has

  -- all sessions are there, so the clock is how many numbers they drew
  drawn : length (flat_map drawn_by after) ≡ length history
  drawn =
      let all = length-map after (λ (m : Member). m.known) ∙ AllZip-long IsHandedBack before after back ∙ many in
      total_drawn after ∙ sym (finished.its.still all).clock ∙ sym finished.long

  -- and none of them drew more than the history has entries
  pub few_drawn : (m : Member) → Has m after → length m.known.drawn ≤ length entries
  few_drawn m has =
      let one = drawn_within after m has in
      let size = length-map history seen_entry in
      let all = drawn in
      omega (arith, one, size, all)

  each : (i : ℕ) → i < length history → Has (suc i) (flat_map drawn_by after)
  each i less =
      let e = at_index history i less in
      let by = finished.recorded i e.0 e.1 in
      let own = has_mapped (λ (r : Record). r.number) by.0.records by.1 by.3 in
      let numbers = subst (Has by.1.number) (recorded by.0 by.2).numbers own in
      has_flat drawn_by after by.0 (suc i) by.2 (subst (λ n. Has n by.0.known.drawn) by.4 numbers)

  pub done_are : (numbers : List ℕ) → IsPermutation numbers (all_newly_done before after) → IsPermutation numbers (done_numbers entries)
  done_are numbers same =
      let counted = map suc (up_to (length entries)) in
      let all = flat_map drawn_by after in
      let size = length-map history seen_entry in
      let cover = covers (length entries) all (drawn ∙ sym size) (λ i less. each i (omega (arith, less, size))) in
      let found = all_newly entries before after none back finished.grow in
      IsPermutation-trans numbers (filter (is_done entries) all) (filter (is_done entries) counted)
      (subst (IsPermutation numbers) found same)
      (filter_permutation (is_done entries) all counted (IsPermutation-sym counted all cover))
