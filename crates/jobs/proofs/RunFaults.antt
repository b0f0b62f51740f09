-- The faults of a run: that of its database, that of a script, and bodies that its room has no place for; and which is answered.
use Rattle.std.proofs.Common.{◌≡◌, ◌≢◌, ◌∙◌, ◌+◌, ◌<◌, ◌⊎◌, inl, inr, Bool, true, false, ℕ, zero, suc, List, Result, Ok, Err, subst, sym, ap, refl, arith}
use Rattle.std.specs.Prelude.{IfOk, IfErr}
use Rattle.mmtext.specs.declared.fault.TextFault.{TextFault}
use Rattle.mmsyntax.specs.Tables.{Tables, Contents}
use Rattle.plaincells.specs.Measures.{all_bodies_length}
use Rattle.checking.specs.declared.fault.Fault.{Fault}
use Rattle.checking.specs.declared.fault.Fault.TheVariants.{Text, Proof, StoreFull, NoMemory}
use Rattle.jobs.specs.declared.job.Job.{Job}
use Rattle.jobs.specs.declared.job.Printed.{Printed}
use Rattle.jobs.specs.declared.job.RunOptions.{RunOptions}
use Rattle.checking.specs.Checks.{Bytes, Orders, IsChecked, AreScripts, IsFirstFaultyScript, IsDatabaseFault, IsOrLacksMemory, RefusesWith}
use Rattle.jobs.specs.Jobs.{Room, room_of, PrintsRun, IsRun}
use Rattle.jobs.specs.Jobs.{IsRunFault, IsRunLack, IsFaultOf, IsLackOf}
use Rattle.checking.specs.Parts.{IsScriptFault, IsRefusedBy}
use Rattle.jobs.specs.Parts.{IsWorkFault}
use Rattle.checking.proofs.ReplayFaults.{same_prelude}
use Rattle.checking.proofs.ScriptFaults.{no_first}

-- ---- what is answered

-- the fault of the database is one of the run
pub database_of_run : (db : Bytes) (texts : List Bytes) (room : Room) (f : Fault) → IsDatabaseFault db f → IsRunFault db texts room f
database_of_run db texts room (Text zero g) h = h
database_of_run db texts room (Proof label g) h = h
database_of_run db texts room _ h = absurd h

-- so is that of a script
pub script_of_run : (db : Bytes) (texts : List Bytes) (room : Room) (contents : Contents) (p : Tables) (f : Fault)
    → p ≡ contents.prelude → IsChecked db contents → IsScriptFault p texts f → f ≢ NoMemory → IsRunFault db texts room f
script_of_run db texts room contents p NoMemory over checked h ne = absurd (ne refl)
script_of_run db texts room contents p (Text (suc k) g) over checked h ne =
    ((contents, checked, subst (λ t. IsFirstFaultyScript t texts k g) over h.0), h.1)
script_of_run db texts room contents p _ over checked h ne = absurd h

module _ (db : Bytes) (texts : List Bytes) (workers : ℕ) (room : Room) (contents : Contents) (scripts : List Orders)
    (checked : IsChecked db contents)
    (ordered : AreScripts contents.prelude texts scripts) where
  -- and too small a room, where all scripts are read. Else the run came to no end
  work_of_run : (f : Fault) → IsWorkFault contents workers (room_of room contents scripts) f → f ≢ NoMemory
      → IsRunFault db texts room f ⊎ IsRunLack workers f
  work_of_run StoreFull h ne = inl (contents, scripts, checked, ordered, h)
  work_of_run NoMemory h ne = absurd (ne refl)
  work_of_run _ h ne = inr h

  pub run_faulted : (r : Result Printed Fault) → IfErr r (IsWorkFault contents workers (room_of room contents scripts))
      → IfErr r (λ f. f ≢ NoMemory → IsRunFault db texts room f ⊎ IsRunLack workers f)
  run_faulted (Ok printed) h = h
  run_faulted (Err f) h = λ ne. work_of_run f h ne

  pub run_done : (asked : Bool) (r : Result Printed Fault)
      → IfOk r (λ p. PrintsRun contents workers room asked scripts p.out.items p.history.items)
      → IfOk r (λ p. IsRun db texts workers room asked p.out.items p.history.items)
  run_done asked (Ok printed) h = record { contents = contents; checked = checked; scripts = scripts; ordered = ordered; printed = h }
  run_done asked (Err f) h = h

-- ---- which is answered

-- a room is too small for the bodies of a database whatever the scripts are: one that may grow only where none is larger
small_for_all : (grows : Bool) (words : ℕ) (db : Contents) (scripts others : List Orders)
    → room_of (record { words = words; may_grow = grows }) db scripts < all_bodies_length db.assertions
    → room_of (record { words = words; may_grow = grows }) db others < all_bodies_length db.assertions
small_for_all true words db scripts others h = omega (arith, h)
small_for_all false words db scripts others h = h

too_small : (room : Room) (db : Contents) (scripts others : List Orders) → room_of room db scripts < all_bodies_length db.assertions
    → room_of room db others < all_bodies_length db.assertions
too_small room = small_for_all room.may_grow room.words

-- a run whose database is refused is refused with it
pub run_refused_by_database : (text : Bytes) (texts : List Bytes) (room : Room) (answer f : Fault)
    → ((g : Fault) → IsDatabaseFault text g → IsOrLacksMemory g answer)
    → ((contents : Contents) → IsChecked text contents → answer ≡ NoMemory) → IsRunFault text texts room f → IsOrLacksMemory f answer
run_refused_by_database text texts room answer (Text zero g) database only h = database (Text zero g) h
run_refused_by_database text texts room answer (Text (suc k) g) database only h = inr (only h.0.0 h.0.1)
run_refused_by_database text texts room answer (Proof label g) database only h = database (Proof label g) h
run_refused_by_database text texts room answer StoreFull database only h = inr (only h.0 h.2)
run_refused_by_database text texts room answer _ database only h = absurd h

module _ (text : Bytes) (texts : List Bytes) (room : Room) (db : Contents) (p : Tables) (over : p ≡ db.prelude)
    (none : (g : Fault) → IsDatabaseFault text g → ⊥)
    (same : (contents : Contents) → IsChecked text contents → db ≡ contents) where
  -- the first fault of the scripts over the one database that is read
  over_it : (k : ℕ) (g : TextFault) (contents : Contents) → IsChecked text contents → IsFirstFaultyScript contents.prelude texts k g
      → IsFirstFaultyScript p texts k g
  over_it k g contents checked = subst (λ (t : Tables). IsFirstFaultyScript t texts k g)
      (sym (same_prelude text db p over same contents checked))

  refused_by_text : (k : ℕ) (g : TextFault) (answer : Fault) → IsRefusedBy (k + 1) g answer → IsOrLacksMemory (Text (suc k) g) answer
  refused_by_text k g NoMemory h = inr refl
  refused_by_text k g (Text n q) h =
      let next : n ≡ suc k = h.0 ∙ (omega arith) in
      inl (ap (λ (m : ℕ). Text m q) next ∙ ap (λ (x : TextFault). Text (suc k) x) h.1)
  refused_by_text k g _ h = absurd h

  -- where all scripts are read, no script is refused
  memory_alone : (scripts : List Orders) (answer : Fault) → AreScripts p texts scripts → IsScriptFault p texts answer → answer ≡ NoMemory
  memory_alone scripts (Text (suc k) g) read h = absurd (no_first p texts scripts k g read h.0)
  memory_alone scripts NoMemory read h = refl
  memory_alone scripts _ read h = absurd h

  -- a run is refused with the fault of a script
  pub run_refused_by_script : (answer f : Fault)
      → ((k : ℕ) (g : TextFault) → IsFirstFaultyScript p texts k g → IsRefusedBy (k + 1) g answer)
      → IsScriptFault p texts answer → IsRunFault text texts room f → IsOrLacksMemory f answer
  run_refused_by_script answer (Text zero g) refuses is h = absurd (none (Text zero g) h)
  run_refused_by_script answer (Text (suc k) g) refuses is h = refused_by_text k g answer (refuses k g (over_it k g h.0.0 h.0.1 h.0.2))
  run_refused_by_script answer (Proof label g) refuses is h = absurd (none (Proof label g) h)
  run_refused_by_script answer StoreFull refuses is h =
      inr (memory_alone h.1 answer (subst (λ (t : Tables). AreScripts t texts h.1) (sym (same_prelude text db p over same h.0 h.2)) h.3) is)
  run_refused_by_script answer _ refuses is h = absurd h

  -- one of scripts without a fault with too small a room
  pub run_refused_by_room : {A : Type 0} (scripts : List Orders) (r : Result A Fault) (f : Fault)
      → ((k : ℕ) (g : TextFault) → IsFirstFaultyScript p texts k g → ⊥)
      → (room_of room db scripts < all_bodies_length db.assertions → RefusesWith StoreFull r) → IsRunFault text texts room f
      → RefusesWith f r
  run_refused_by_room scripts r (Text zero g) first full h = absurd (none (Text zero g) h)
  run_refused_by_room scripts r (Text (suc k) g) first full h = absurd (first k g (over_it k g h.0.0 h.0.1 h.0.2))
  run_refused_by_room scripts r (Proof label g) first full h = absurd (none (Proof label g) h)
  run_refused_by_room scripts r StoreFull first full h =
      full (subst (λ (c : Contents). room_of room c scripts < all_bodies_length c.assertions) (sym (same h.0 h.2))
      (too_small room h.0 h.1 scripts h.4))
  run_refused_by_room scripts r _ first full h = absurd h

-- ---- jobs that come to an end

-- a fault is one of the job's, or why it came to no end
pub has_fault : {A : Type 0} (options : RunOptions) (j : Job) (r : Result A Fault) → IfErr r (λ f. f ≢ NoMemory → IsFaultOf options j f)
    → IfErr r (λ f. f ≢ NoMemory → IsFaultOf options j f ⊎ IsLackOf j f)
has_fault options j (Ok a) h = h
has_fault options j (Err f) h = λ ne. inl (h ne)
