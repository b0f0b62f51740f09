-- The faults of a replay: that of its history's text, and the first entry that differs; and which is answered.
use Rattle.std.proofs.Common.{◌≡◌, ◌≢◌, ◌∙◌, ◌≤◌, inl, inr, ℕ, zero, suc, List, length, map, subst, sym, ap, refl, arith, ltb}
use Rattle.std.proofs.lemmas.Bool.{cases_Bool, ltb-true, ltb-false}
use Rattle.mmtext.specs.declared.fault.TextFault.{TextFault}
use Rattle.mmtext.specs.declared.fault.FaultKind.TheVariants.{NoMemory as OutOfMemory}
use Rattle.mmtext.specs.Languages.{too_long}
use Rattle.mmsyntax.specs.Tables.{Tables, Contents}
use Rattle.library.specs.Library.{opening}
use Rattle.library.specs.declared.history.Entry.{Entry}
use Rattle.library.specs.Histories.{seen_entry, IsLegal}
use Rattle.history.proofs.Differing.{no_first_differing, one_first_differing}
use Rattle.historytext.specs.Places.{FaultyHistory}
use Rattle.checking.specs.declared.fault.Fault.{Fault}
use Rattle.checking.specs.declared.fault.Fault.TheVariants.{Text, Proof, Differs, NoMemory}
use Rattle.checking.specs.Outcomes.{program_setting}
use Rattle.checking.specs.Checks.{Bytes, IsChecked, IsHistory, IsDatabaseFault, IsDifference, IsReplayFault, IsOrLacksMemory}
use Rattle.checking.specs.Parts.{IsHistoryFault, IsTextFaultOf, IsRefusedBy}

-- ---- the text of the history

-- a history without a fault isn't too long
pub short_history : (p : Tables) (text : Bytes) → ((f : TextFault) → FaultyHistory p text f → ⊥) → length text ≤ 16777216
short_history p text none = elim (cases_Bool (ltb 16777216 (length text))) [
  | inl y ↦ absurd (none _ (too_long (ltb-true _ _ y) refl))
  | inr n ↦ ltb-false _ _ n
]

pub history_faulted : (p : Tables) (text : Bytes) (g : TextFault) (f : Fault) → IsTextFaultOf 1 g f
    → (g.kind ≢ OutOfMemory → FaultyHistory p text g) → f ≢ NoMemory → IsHistoryFault p text f
history_faulted p text g NoMemory is faulty ne = absurd (ne refl)
history_faulted p text g (Text zero q) is faulty ne = absurd (let z : 0 ≡ 1 = is.0 in omega arith)
history_faulted p text g (Text (suc (suc k)) q) is faulty ne = absurd (let z : suc (suc k) ≡ 1 = is.0 in omega arith)
history_faulted p text g (Text (suc zero) q) is faulty ne = (
  subst (λ (x : TextFault). FaultyHistory p text x) (sym is.1) (faulty is.2),
  subst (λ (x : TextFault). x.kind ≢ OutOfMemory) (sym is.1) is.2,
)
history_faulted p text g _ is faulty ne = absurd is

-- ---- its entries

-- the first that differs is the only one
pub one_difference : (contents : Contents) (history : List Entry) (n : ℕ) (f : Fault) → IsDifference contents history (Differs n)
    → IsDifference contents history f → f ≡ Differs n
one_difference contents history n (Differs m) first h =
    ap (λ k. Differs k) (one_first_differing (program_setting contents) (opening contents) (map seen_entry history) m n h first)
one_difference contents history n _ first h = absurd h

-- a legal history has none
pub no_difference : (contents : Contents) (history : List Entry) (f : Fault)
    → IsLegal (program_setting contents) (opening contents) (map seen_entry history) → IsDifference contents history f → ⊥
no_difference contents history (Differs n) legal h =
    no_first_differing (program_setting contents) (opening contents) (map seen_entry history) n legal h
no_difference contents history _ legal h = h

-- ---- replays

-- the fault of the history's text is one of the replay
pub replay_faulted_by_text : (db text : Bytes) (contents : Contents) (p : Tables) (f : Fault) → p ≡ contents.prelude → IsChecked db contents
    → IsHistoryFault p text f → f ≢ NoMemory → IsReplayFault db text f
replay_faulted_by_text db text contents p NoMemory over checked h ne = absurd (ne refl)
replay_faulted_by_text db text contents p (Text (suc zero) g) over checked h ne =
    ((contents, checked, subst (λ t. FaultyHistory t text g) over h.0), h.1)
replay_faulted_by_text db text contents p _ over checked h ne = absurd h

-- so is the first entry that differs
pub replay_faulted_by_entry : (db text : Bytes) (contents : Contents) (history : List Entry) (f : Fault) → IsChecked db contents
    → IsHistory contents.prelude text history → IsDifference contents history f → IsReplayFault db text f
replay_faulted_by_entry db text contents history (Differs n) checked read h = (contents, history, checked, read, h)
replay_faulted_by_entry db text contents history _ checked read h = absurd h

-- a replay whose database is refused is refused with it
pub replay_refused_by_database : (db text : Bytes) (answer f : Fault) → ((g : Fault) → IsDatabaseFault db g → IsOrLacksMemory g answer)
    → ((contents : Contents) → IsChecked db contents → answer ≡ NoMemory) → IsReplayFault db text f → IsOrLacksMemory f answer
replay_refused_by_database db text answer (Text zero g) database only h = database (Text zero g) h
replay_refused_by_database db text answer (Text (suc zero) g) database only h = inr (only h.0.0 h.0.1)
replay_refused_by_database db text answer (Proof label g) database only h = database (Proof label g) h
replay_refused_by_database db text answer (Differs n) database only h = inr (only h.0 h.2)
replay_refused_by_database db text answer _ database only h = absurd h

-- the one prelude over which scripts and histories stand, where the text has one content
pub same_prelude : (text : Bytes) (db : Contents) (p : Tables) → p ≡ db.prelude
    → ((contents : Contents) → IsChecked text contents → db ≡ contents)
    → (contents : Contents) → IsChecked text contents → p ≡ contents.prelude
same_prelude text db p over same contents checked = over ∙ ap (λ (c : Contents). c.prelude) (same contents checked)

module _ (text : Bytes) (bytes : Bytes) (db : Contents) (p : Tables) (over : p ≡ db.prelude)
    (none : (g : Fault) → IsDatabaseFault text g → ⊥) (same : (contents : Contents) → IsChecked text contents → db ≡ contents) where
  refused_by_text : (g : TextFault) (answer : Fault) → IsRefusedBy 1 g answer → IsOrLacksMemory (Text 1 g) answer
  refused_by_text g NoMemory h = inr refl
  refused_by_text g (Text n q) h = inl (ap (λ (m : ℕ). Text m q) h.0 ∙ ap (λ (x : TextFault). Text 1 x) h.1)
  refused_by_text g _ h = absurd h

  -- a replay is refused with the fault of its history's text
  pub replay_refused_by_text : (answer f : Fault) → ((g : TextFault) → FaultyHistory p bytes g → IsRefusedBy 1 g answer)
      → ((history : List Entry) → IsHistory p bytes history → answer ≡ NoMemory) → IsReplayFault text bytes f → IsOrLacksMemory f answer
  replay_refused_by_text answer (Text zero g) refuses only h = absurd (none (Text zero g) h)
  replay_refused_by_text answer (Text (suc zero) g) refuses only h =
      refused_by_text g answer
      (refuses g (subst (λ t. FaultyHistory t bytes g) (sym (same_prelude text db p over same h.0.0 h.0.1)) h.0.2))
  replay_refused_by_text answer (Proof label g) refuses only h = absurd (none (Proof label g) h)
  replay_refused_by_text answer (Differs n) refuses only h =
      inr (only h.1 (subst (λ t. IsHistory t bytes h.1) (sym (same_prelude text db p over same h.0 h.2)) h.3))
  replay_refused_by_text answer _ refuses only h = absurd h

  -- ---- a history that is read

  module _ (entries : List Entry) (faultless : (g : TextFault) → FaultyHistory p bytes g → ⊥)
      (one : (history : List Entry) → IsHistory p bytes history → entries ≡ history) where
    -- the first entry that differs, of the one history over the one database
    difference_of : (n : ℕ) (h : IsReplayFault text bytes (Differs n)) → IsDifference db entries (Differs n)
    difference_of n h =
        let history = one h.1 (subst (λ t. IsHistory t bytes h.1) (sym (same_prelude text db p over same h.0 h.2)) h.3) in
        subst (λ es. IsDifference db es (Differs n)) (sym history)
        (subst (λ c. IsDifference c h.1 (Differs n)) (sym (same h.0 h.2)) h.4)

    -- a replay is answered with it, if there is one
    pub replay_refused_by_entry : (Answers : Fault → Type 0) (f : Fault) → ((g : Fault) → IsDifference db entries g → Answers g)
        → IsReplayFault text bytes f → Answers f
    replay_refused_by_entry Answers (Text zero g) differs h = absurd (none (Text zero g) h)
    replay_refused_by_entry Answers (Text (suc zero) g) differs h =
        absurd (faultless g (subst (λ t. FaultyHistory t bytes g) (sym (same_prelude text db p over same h.0.0 h.0.1)) h.0.2))
    replay_refused_by_entry Answers (Proof label g) differs h = absurd (none (Proof label g) h)
    replay_refused_by_entry Answers (Differs n) differs h = differs (Differs n) (difference_of n h)
    replay_refused_by_entry Answers _ differs h = absurd h
