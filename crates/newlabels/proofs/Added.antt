-- What adding a theorem answers: why it is refused, or the library that is shown with it.
use Rattle.std.proofs.Common.{◌≡◌, ℕ, ◌<◌, true, false, List, [], ◌∷◌, ◌++◌, None, Err, length, sym, ap, subst, ◌∙◌, inl, inr, arith, eqb, nat_eq}
use Rattle.std.specs.Prelude.{◌==◌, nat_le}
use Rattle.std.specs.List.{list_any, IsDistinct, AllByRecursion}
use Rattle.std.proofs.lemmas.Bool.{both_ways, le-leb, lt-leb}
use Rattle.std.proofs.lemmas.List.{length-map}
use Rattle.std.proofs.lemmas.Map.Steps.{length-le_from_distinct_below}
use Rattle.mmsyntax.specs.declared.statement.Assertion.{Assertion}
use Rattle.mmsyntax.specs.declared.statement.Kind.TheVariants.{Axiom, Theorem}
use Rattle.mmsyntax.specs.Assertions.{Distinct}
use Rattle.mmsyntax.proofs.Distinct.{or_false}
use Rattle.library.specs.declared.library.Ranked.{Ranked}
use Rattle.library.specs.declared.command.Command.TheVariants as command
use Rattle.library.specs.declared.command.Reply.TheVariants.{Done}
use Rattle.library.specs.declared.reason.Reason.TheVariants as reason
use Rattle.library.specs.Library.{Setting}
use Rattle.library.specs.Edits.{Tests, added, done, where_so, is_axiom, bad_label, label_taken, label_clashes}
use Rattle.library.specs.Edits.{label_tests, proof_tests, tested, edit}
use Rattle.ranges.specs.Ranges.{Has, AreOfOneStore}
use Rattle.bodystore.specs.declared.stored.StoredStep.{StoredStep}
use Rattle.cells.specs.State.{State, most_words}
use Rattle.cells.specs.Slots.{name_cell}
use Rattle.cells.specs.Shows.{Held, slots_of, IsEmpty, AreStoredAs, Shows}
use Rattle.cells.specs.Sight.{Sight, WasWritten, Matches, Views, Looks, Onward, after}
use Rattle.cells.specs.Lookups.{FindsFree, IsFirstEmpty}
use Rattle.chains.specs.Filling.{MayFill, Fills}
use Rattle.ranges.proofs.Members.{mapped_has, cases_has, none_absent}
use Rattle.cells.proofs.Holding.{held_name, empty_free}
use Rattle.cells.proofs.Found.{length_held}
use Rattle.cells.proofs.Sights.{views_back, matches_back, looks_trans, setting_kept}
use Rattle.cells.specs.Answers.{Does, IsRefused, CommandAnswers}
use Rattle.cells.specs.declared.ending.CommandError.{CommandError}
use Rattle.cells.specs.declared.ending.CommandError.TheVariants.{Halted, Refused}
use Rattle.groundwork.specs.Citing.{Passes, TellsRefusal}
use Rattle.newlabels.specs.Naming.{PassesAsNew, TellsNotNew}
use Rattle.groundwork.proofs.Seeing.{views_later}
use Rattle.groundwork.proofs.Refusing.{first_refuses, first_passes, refused}
use Rattle.groundwork.proofs.ProofTests.{stored_on}
use Rattle.newlabels.proofs.NewLabels.{tests_of_new}

-- ---- room

none_each : (x : ℕ) (xs : List ℕ) → list_any (nat_eq x) xs ≡ false → AllByRecursion (λ y. eqb x y ≡ false) xs
none_each x [] h = tt
none_each x (y ∷ ys) h = let both = or_false (nat_eq x y) (list_any (nat_eq x) ys) h in (both.0, none_each x ys both.1)

distinct_is : (xs : List ℕ) → Distinct nat_eq xs → IsDistinct eqb xs
unfolding IsDistinct
distinct_is [] h = tt
distinct_is (x ∷ xs) h = (none_each x xs h.0, distinct_is xs h.1)

-- where a slot is empty, there are fewer assertions than slots
pub room_left : (slots : ℕ) (st : State) (lib : List Ranked) (shows : Shows slots st lib) → AreOfOneStore most_words st.ranges
    → (i : ℕ) → i < slots → IsEmpty slots st i → length lib < slots
room_left slots st lib shows store i lt empty =
    let apart : Distinct nat_eq (i ∷ slots_of shows.held) =
    (none_absent (slots_of shows.held) i (empty_free slots st lib shows store i empty), shows.apart) in
    let n = length-le_from_distinct_below (i ∷ slots_of shows.held) slots (distinct_is (i ∷ slots_of shows.held) apart) below in
    omega (arith, n, length-map shows.held (λ (p : Held). p.slot), length_held slots st lib shows)
  where
    within : (q : ℕ) → Has q (i ∷ slots_of shows.held) → q < slots
    within q (inl is) = subst (λ n. n < slots) (sym is) lt
    within q (inr h) =
        let m = mapped_has (λ (p : Held). p.slot) shows.held q h in
        let name = held_name slots st lib shows store m.0 m.1 in
        subst (λ n. n < slots) (sym m.2) name.within

    below : (q : ℕ) → list_any (eqb q) (i ∷ slots_of shows.held) ≡ true → q < slots
    below q found =
        elim (cases_has (i ∷ slots_of shows.held) q) [
          | inl h ↦ within q h
          | inr free ↦
              absurd (both_ways (list_any (nat_eq q) (i ∷ slots_of shows.held)) (none_absent (i ∷ slots_of shows.held) q free) found)
        ]

-- ---- the tests

-- whether there is room
abbrev pub of_room : Setting → List Ranked → Tests
of_room s lib = where_so (nat_le s.slots (length lib)) reason.LibraryFull ∷ []

-- those from that of the proof on
abbrev pub of_proof : Setting → List Ranked → ℕ → Assertion → Tests
of_proof s lib rank a = proof_tests s lib rank a ++ of_room s lib

-- those from that of the kind on
abbrev pub of_kind : Setting → List Ranked → ℕ → Assertion → Tests
of_kind s lib rank a = where_so (is_axiom a.kind) reason.AxiomNotAllowed ∷ of_proof s lib rank a

-- behind that of the rank stand those of the label
to_label : (s : Setting) (lib : List Ranked) (rank : ℕ) (a : Assertion) → (rank == 0) ≡ false
    → edit s lib (command.Add rank a)
    ≡ tested (label_tests s lib a.label a.label ++ of_kind s lib rank a) (done (added lib rank a))
to_label s lib rank a ranked =
    let then = done (added lib rank a) in
    first_passes (rank == 0) reason.BadRank
    (bad_label s a.label ∷ label_taken lib a.label ∷ label_clashes lib a.label ∷ of_kind s lib rank a) then ranked
    ∙ sym (tests_of_new s lib a.label (of_kind s lib rank a) then)

module _ {O : Type 0} (s t : Sight O) (rank : ℕ) (a : Assertion) (ranked : (rank == 0) ≡ false) (looks : Looks s t) where
  by_label : (lib : List Ranked) → edit s.setting lib (command.Add rank a)
      ≡ tested (label_tests t.setting lib a.label a.label ++ of_kind t.setting lib rank a) (done (added lib rank a))
  by_label lib =
      subst (λ (x : Setting). edit x lib (command.Add rank a)
      ≡ tested (label_tests t.setting lib a.label a.label ++ of_kind t.setting lib rank a) (done (added lib rank a)))
      (setting_kept looks.onward)
      (to_label t.setting lib rank a ranked)

  -- a label that is refused is why it is not added
  pub add_unlabelled : (error : CommandError) → TellsNotNew t a.label a.label error
      → CommandAnswers s t (command.Add rank a) (Err error)
  add_unlabelled (Halted halt) caused = caused
  add_unlabelled (Refused r) fails =
      refused s t (command.Add rank a) r looks (λ st lib v.
      by_label lib ∙ fails st lib v (of_kind t.setting lib rank a) (done (added lib rank a)))

  module _ (new : PassesAsNew t a.label a.label) where
    to_kind : (st : State) (lib : List Ranked) → Views t st lib
        → edit s.setting lib (command.Add rank a) ≡ tested (of_kind t.setting lib rank a) (done (added lib rank a))
    to_kind st lib v = by_label lib ∙ new.passes st lib v (of_kind t.setting lib rank a) (done (added lib rank a))

    pub add_axiom : a.kind ≡ Axiom → IsRefused s t (command.Add rank a) reason.AxiomNotAllowed
    add_axiom is =
        refused s t (command.Add rank a) reason.AxiomNotAllowed looks (λ st lib v.
        to_kind st lib v
        ∙ first_refuses (is_axiom a.kind) reason.AxiomNotAllowed (of_proof t.setting lib rank a) (done (added lib rank a)) (ap is_axiom is))

    add_theorem : a.kind ≡ Theorem → (st : State) (lib : List Ranked) → Views t st lib
        → edit s.setting lib (command.Add rank a) ≡ tested (of_proof t.setting lib rank a) (done (added lib rank a))
    add_theorem is st lib v =
        to_kind st lib v
        ∙ first_passes (is_axiom a.kind) reason.AxiomNotAllowed (of_proof t.setting lib rank a) (done (added lib rank a)) (ap is_axiom is)

-- ---- behind the tests of the label and the kind

-- what is known once these have passed
pub record MayTest {O : Type 0} (s t : Sight O) (rank : ℕ) (a : Assertion) : Type 0 where
  pub ranked : (rank == 0) ≡ false
  pub new : PassesAsNew t a.label a.label
  pub theorem : a.kind ≡ Theorem
  pub looks : Looks s t

-- the tests of the proof are those of the setting at the start
module _ {O : Type 0} (s t u : Sight O) (rank : ℕ) (a : Assertion) (may : MayTest s t rank a) (later : Looks t u) where
  abbrev all_looks : Looks s u
  all_looks = looks_trans s t u may.looks later

  to_proof : (st : State) (lib : List Ranked) → Views u st lib
      → edit s.setting lib (command.Add rank a) ≡ tested (of_proof u.setting lib rank a) (done (added lib rank a))
  to_proof st lib v =
      add_theorem s t rank a may.ranked may.looks may.new may.theorem st lib (views_back t u st lib later v)
      ∙ ap (λ (x : Setting). tested (of_proof x lib rank a) (done (added lib rank a))) (sym (setting_kept later.onward))

  -- a proof that is refused is why it is not added
  pub add_refused : (error : CommandError) → TellsRefusal u rank a error
      → CommandAnswers s u (command.Add rank a) (Err error)
  add_refused (Halted halt) caused = caused
  add_refused (Refused r) tells =
      refused s u (command.Add rank a) r all_looks (λ st lib v.
      to_proof st lib v ∙ tells st lib v (of_room u.setting lib) (done (added lib rank a)))

  module _ (kept : List StoredStep) (passes : Passes u rank a kept) (w : Sight O) (on : Looks u w) where
    -- behind a proof that passes only room is left to be tested
    to_room : (st : State) (lib : List Ranked) → Views w st lib
        → edit s.setting lib (command.Add rank a) ≡ tested (of_room w.setting lib) (done (added lib rank a))
    to_room st lib v =
        let before = views_back u w st lib on v in
        to_proof st lib before ∙ passes.passes st lib before (of_room u.setting lib) (done (added lib rank a))
        ∙ ap (λ (x : Setting). tested (of_room x lib) (done (added lib rank a))) (sym (setting_kept on.onward))

    pub add_full : (from : ℕ) → FindsFree w from None → IsRefused s w (command.Add rank a) reason.LibraryFull
    add_full from full =
        refused s w (command.Add rank a) reason.LibraryFull (looks_trans s u w all_looks on) (λ st lib v.
        to_room st lib v
        ∙ first_refuses (nat_le w.setting.slots (length lib)) reason.LibraryFull [] (done (added lib rank a))
        (le-leb w.setting.slots (length lib) (full st lib v)))

    -- in an empty slot it is added
    pub add_done : (x : Sight O) (from slot : ℕ) (steps : List StoredStep) → IsFirstEmpty w from slot → Onward w x → steps ≡ kept
        → ((st : State) (lib : List Ranked) → Matches x st → (shown : Views w st lib)
        → MayFill w.setting.slots (after w st) lib slot a steps
        → Fills w.setting.slots (after x st) lib shown.shows.held slot rank a)
        → WasWritten x (name_cell slot) → Does s x (command.Add rank a) Done
    add_done x from slot steps first onward same fills written =
        record {
          edits = λ st lib m v0.
              let looks = looks_trans s u w all_looks on in
              let v = views_later s w st lib looks (matches_back w x st onward m) v0 in
              let slots = w.setting.slots in
              let lt = room_left slots (after w st) lib v.shows v.matches.store slot first.within (first.empty st lib v) in
              let before = views_back t u st lib later (views_back u w st lib on v) in
              let stored = stored_on u w a.proof kept on passes.stored st lib v in
              let may_fill : MayFill w.setting.slots (after w st) lib slot a steps =
              record {
                empty = first.empty st lib v;
                new = may.new.free st lib before;
                stored = subst (λ (ks : List StoredStep). AreStoredAs w.setting.slots (after w st) a.proof ks) (sym same) stored;
              } in (
                added lib rank a,
                to_room st lib v ∙ first_passes (nat_le w.setting.slots (length lib)) reason.LibraryFull [] (done (added lib rank a))
                    (lt-leb w.setting.slots (length lib) lt),
                subst (λ (z : Setting). Shows z.slots (after x st) (added lib rank a)) (sym (setting_kept onward))
                    (fills st lib m v may_fill).0,
              );
          writes = (name_cell slot, written);
        }
