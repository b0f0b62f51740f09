-- Plain cells over the states that they leave possible, and what one more assertion makes of them.
use Rattle.std.proofs.Common.{◌≡◌, ◌≢◌, ℕ, ◌+◌, ◌*◌, ◌<◌, ◌≤◌, List, [], ◌∷◌, ◌++◌, length, get_or, inl, inr, false, refl, sym, ap, subst, ◌∙◌, arith}
use Rattle.std.specs.Prelude.{◌⊎◌, Some, None, take}
use Rattle.mmsyntax.specs.declared.statement.Assertion.{Assertion}
use Rattle.mmsyntax.specs.declared.statement.Step.{Step}
use Rattle.mmsyntax.specs.declared.statement.Step.TheVariants.{Float, Hyp, Cite}
use Rattle.mmsyntax.specs.Tables.{Contents}
use Rattle.mmsyntax.specs.Layout.{HasSpelling}
use Rattle.mmsyntax.specs.Assertions.{IsDeclarable}
use Rattle.mmsyntax.proofs.Declarable.{declarable}
use Rattle.derivation.specs.Databases.{AllCheck}
use Rattle.bodystore.specs.declared.stored.StoredStep.{StoredStep}
use Rattle.bodystore.specs.declared.stored.StoredStep.TheVariants as stored
use Rattle.library.specs.declared.library.Ranked.{Ranked}
use Rattle.library.specs.Library.{Setting, Verifies, opening}
use Rattle.library.specs.Edits.{has, added}
use Rattle.ranges.specs.Ranges.{Has, Within}
use Rattle.ranges.proofs.Grown.{within_trans}
use Rattle.plaincells.specs.declared.plain.PlainCells.{PlainCells}
use Rattle.cells.specs.State.{State, with_writes}
use Rattle.cells.specs.Shows.{Held, slots_of, IsNamed, IsStoredAs, AreStoredAs, IsEmpty, Shows, ShowsHeld}
use Rattle.cells.specs.Sight.{Sight, Matches, Views, Onward, Looks, after}
use Rattle.cells.specs.Lookups.{Resolves}
use Rattle.chains.specs.Filling.{MayFill, Fills, IsFillable}
use Rattle.plaincells.specs.Plain.{undone, ShowsSome}
pub use Rattle.plaincells.specs.PlainViews.{cells_setting, cells_sight, now_state, first_state}
use Rattle.plaincells.specs.Opening.{CellsOpen, front, held_from}
use Rattle.std.proofs.Math.Seq.{take-length}
use Rattle.plaincells.proofs.Empty.{shows_none}
use Rattle.plaincells.proofs.Logs.{length-undone}
use Rattle.plaincells.proofs.Numbered.{over_all}
use Rattle.plaincells.proofs.Widened.{shows_widened}
use Rattle.plaincells.proofs.PlainSights.{plain_matches}
use Rattle.plaincells.proofs.Fronts.{front_verifies, slots_from, opening_next, length_opening, held_next, label_new, label_some, unit_of, all_known}
use Rattle.cells.proofs.Sights.{onward_refl, matches_back, setting_kept}

-- ---- plain cells

pub first_matches : (c : PlainCells) → Matches (cells_sight c) (first_state c)
first_matches c = plain_matches (cells_setting c) c.room c.values.items c.log.items c.store.items c.ranges.items c.full
    (omega (arith, c.stored, c.roomy))

-- with what is kept aside, the state with which the run began is that of the values
pub after_first : (c : PlainCells) → after (cells_sight c) (first_state c) ≡ now_state c
after_first c = over_all c.values.items (undone c.values.items c.log.items) _ (length-undone c.values.items c.log.items)

-- what cells showed, a later sight of them shows over a state with as many values, where nothing was written since
pub later_held : (c d : PlainCells) (t : Sight (Unit {0})) (lib : List Ranked) (held : List Held) → d.slots ≡ c.slots
    → t.writes ≡ (cells_sight c).writes → Within (cells_sight c).ranges (cells_sight d).ranges
    → ShowsHeld c.slots (now_state c) lib held → ShowsHeld c.slots (after t (first_state d)) lib held
later_held c d t lib held slots writes within h =
    let long : length (undone d.values.items d.log.items) ≡ length c.values.items =
    length-undone d.values.items d.log.items ∙ d.long ∙ ap (λ n. 7 * n) slots ∙ sym c.long in
    subst (λ (st : State). ShowsHeld c.slots st lib held)
    (sym (ap (with_writes (first_state d)) writes
    ∙ over_all c.values.items (undone d.values.items d.log.items) (cells_sight d).ranges long))
    (shows_widened c.slots (λ n. get_or c.values.items n 0) (cells_sight c).ranges (cells_sight d).ranges within lib held h)

-- so the state views the library
pub later_views : (c d : PlainCells) (t : Sight (Unit {0})) (lib : List Ranked) (held : List Held) → d.slots ≡ c.slots
    → t.setting ≡ cells_setting c → t.writes ≡ (cells_sight c).writes → Within (cells_sight c).ranges (cells_sight d).ranges
    → Matches t (first_state d)
    → Verifies (cells_setting c) lib → ShowsHeld c.slots (now_state c) lib held
    → (v : Views t (first_state d) lib) × (v.shows.held ≡ held)
later_views c d t lib held slots setting writes within matches verifies h =
    let shown : ShowsHeld t.setting.slots (after t (first_state d)) lib held =
    subst (λ (s : Setting). ShowsHeld s.slots (after t (first_state d)) lib held) (sym setting)
    (later_held c d t lib held slots writes within h) in (
      record { matches = matches; shows = shown.0; verifies = subst (λ (s : Setting). Verifies s lib) (sym setting) verifies },
      shown.1,
    )

-- ---- openings

pub opens_at : (db : Contents) (slots room n m : ℕ) (made : PlainCells) → slots ≡ n → room ≡ m → CellsOpen db slots room made
    → CellsOpen db n m made
opens_at db slots room n m made e f o = subst (λ x. CellsOpen db x m made) e (subst (λ x. CellsOpen db slots x made) f o)

-- empty cells open the front with no assertion
pub opens_none : (db : Contents) (slots room : ℕ) (made : PlainCells) → made.prelude ≡ db.prelude → made.slots ≡ slots → made.room ≡ room
    → made.log.items ≡ [] → made.full ≡ false → ((c : ℕ) → get_or made.values.items c 0 ≡ 0) → CellsOpen (front 0 db) slots room made
opens_none db slots room made prelude slots_are room_is kept fresh zeros =
    record {
      prelude = prelude;
      slots_are = slots_are;
      room_is = room_is;
      kept = kept;
      fresh = fresh;
      shows = shows_none slots (now_state made) zeros;
    }

-- all assertions are the front of them all
pub opens_all : (db : Contents) (slots room k : ℕ) (made : PlainCells) → length db.assertions ≡ k → CellsOpen (front k db) slots room made
    → CellsOpen db slots room made
opens_all db slots room k made whole o =
    let xs : take k db.assertions ≡ db.assertions = ap (λ n. take n db.assertions) (sym whole) ∙ take-length db.assertions in
    subst (λ (d : Contents). CellsOpen d slots room made) (λ i. record { prelude = db.prelude; assertions = xs i }) o

-- ---- stored steps

stored_within : (slots : ℕ) (st : State) (steps : List Step) (kept : List StoredStep) → AreStoredAs slots st steps kept
    → (i : ℕ) → Has (stored.Slot i) kept → i < slots
stored_within slots st steps [] h i has = absurd has
stored_within slots st [] (y ∷ kept) h i has = absurd h
stored_within slots st (x ∷ steps) (y ∷ kept) h i (inr has) = stored_within slots st steps kept h.1 i has
stored_within slots st (Float j ∷ steps) (y ∷ kept) h i (inl e) =
    let at : IsStoredAs (IsNamed slots st) (Float j) (stored.Slot i) =
    subst (IsStoredAs (IsNamed slots st) (Float j)) (sym e) h.0 in absurd at
stored_within slots st (Hyp j ∷ steps) (y ∷ kept) h i (inl e) =
    let at : IsStoredAs (IsNamed slots st) (Hyp j) (stored.Slot i) = subst (IsStoredAs (IsNamed slots st) (Hyp j)) (sym e) h.0 in absurd at
stored_within slots st (Cite label ∷ steps) (y ∷ kept) h i (inl e) =
    let at : IsStoredAs (IsNamed slots st) (Cite label) (stored.Slot i) = subst (IsStoredAs (IsNamed slots st) (Cite label)) (sym e) h.0 in
    at.within

stored_none : (slots : ℕ) (st : State) (steps : List Step) (kept : List StoredStep) → AreStoredAs slots st steps kept → steps ≡ []
    → kept ≡ []
stored_none slots st [] [] h e = refl
stored_none slots st [] (y ∷ kept) h e = absurd h
stored_none slots st (x ∷ steps) kept h e = absurd cc

stored_some : (slots : ℕ) (st : State) (steps : List Step) (kept : List StoredStep) → AreStoredAs slots st steps kept → steps ≢ []
    → kept ≢ []
stored_some slots st [] kept h ne e = ne refl
stored_some slots st (x ∷ steps) [] h ne e = absurd h
stored_some slots st (x ∷ steps) (y ∷ kept) h ne e = cc

-- ---- the next assertion of a database

module _ (db : Contents) (k : ℕ) (a : Assertion) (lt : k < length db.assertions) (is : a ≡ get_or db.assertions k a)
    (d : IsDeclarable db.prelude db.assertions) where
  pub next_fillable : (slots : ℕ) (st : State) (kept : List StoredStep) → AreStoredAs slots st a.proof kept → IsFillable slots a kept
  next_fillable slots st kept h =
      let unit = unit_of db k a lt is d in
      record {
        labelled = label_some db k a lt is d;
        some = λ theorem. stored_some slots st a.proof kept h (unit.some_steps theorem);
        none = λ kind. stored_none slots st a.proof kept h (unit.fits.no_axiom_proof kind);
        within = stored_within slots st a.proof kept h;
      }

  -- its slot is empty where the front of the database is shown in its slots
  pub next_may_fill : (slots : ℕ) (st : State) (kept : List StoredStep) (shown : Shows slots st (opening (front k db)))
      → shown.held ≡ held_from 0 (opening (front k db)) → k < slots → AreStoredAs slots st a.proof kept
      → MayFill slots st (opening (front k db)) k a kept
  next_may_fill slots st kept shown held room h =
      record { empty = go (shown.others k room); new = label_new db k a lt is d; stored = h }
    where
      go : Has k (slots_of shown.held) ⊎ IsEmpty slots st k → IsEmpty slots st k
      go (inl has) =
          let below = slots_from 0 k (opening (front k db)) (subst (λ (ps : List Held). Has k (slots_of ps)) held has) in
          absurd (omega (arith, below, length_opening db k a lt is))
      go (inr empty) = empty

-- cells in which the front of a database stands, and what becomes of them
module _ (db : Contents) (k : ℕ) (a : Assertion) (lt : k < length db.assertions) (is : a ≡ get_or db.assertions k a)
    (spelled : HasSpelling db) (all : AllCheck db) (p : PlainCells) (room : length db.assertions ≤ p.slots)
    (opened : CellsOpen (front k db) p.slots p.room p) where
  abbrev first_held : List Held
  first_held = held_from 0 (opening (front k db))

  verifies : (n : ℕ) (c : PlainCells) → cells_setting c ≡ cells_setting p → Verifies (cells_setting c) (opening (front n db))
  verifies n c same =
      subst (λ (s : Setting). Verifies s (opening (front n db)))
      (sym (same ∙ (λ i. record { prelude = opened.prelude i; slots = p.slots })))
      (front_verifies db n p.slots spelled all p.some p.few room)

  -- over each state that a later run leaves possible it views the front, in its slots
  opened_views : (q : PlainCells) (t : Sight (Unit {0})) → Looks (cells_sight p) t → Onward t (cells_sight q)
      → (v : Views t (first_state q) (opening (front k db))) × (v.shows.held ≡ first_held)
  opened_views q t looks onward =
      let setting : cells_setting q ≡ cells_setting p = setting_kept onward ∙ setting_kept looks.onward in
      later_views p q t (opening (front k db)) first_held (ap (λ (s : Setting). s.slots) setting) (setting_kept looks.onward) looks.writes
      (within_trans (cells_sight p).ranges t.ranges (cells_sight q).ranges looks.onward.ranges onward.ranges)
      (matches_back t (cells_sight q) (first_state q) onward (first_matches q)) (verifies k p refl) opened.shows

  pub none_unknown : (q : PlainCells) → Looks (cells_sight p) (cells_sight q) → Resolves (cells_sight q) a.proof None → ⊥
  none_unknown q looks unknown =
      let v = opened_views q (cells_sight q) looks (onward_refl (cells_sight q)) in
      let yes = unknown (first_state q) (opening (front k db)) v.0 in
      let no = all_known db k a lt is (declarable db spelled) all in
      absurd cc

  pub resolved_fillable : (q : PlainCells) (kept : List StoredStep) → Looks (cells_sight p) (cells_sight q)
      → Resolves (cells_sight q) a.proof (Some kept) → IsFillable q.slots a kept
  resolved_fillable q kept looks resolved =
      let v = opened_views q (cells_sight q) looks (onward_refl (cells_sight q)) in
      next_fillable db k a lt is (declarable db spelled) q.slots (after (cells_sight q) (first_state q)) kept
      (resolved.2 (first_state q) (opening (front k db)) v.0)

  -- filled with the next assertion, they show one more
  pub filled_held : (q r : PlainCells) (kept : List StoredStep) → Looks (cells_sight p) (cells_sight q)
      → Onward (cells_sight q) (cells_sight r)
      → Resolves (cells_sight q) a.proof (Some kept)
      → ((st : State) (lib : List Ranked) → Matches (cells_sight r) st → (shown : Views (cells_sight q) st lib)
      → MayFill q.slots (after (cells_sight q) st) lib k a kept
      → Fills q.slots (after (cells_sight r) st) lib shown.shows.held k (100 * (k + 1)) a)
      → ShowsHeld p.slots (now_state r) (opening (front (k + 1) db)) (held_from 0 (opening (front (k + 1) db)))
  filled_held q r kept looks onward resolved fills =
      let v = opened_views r (cells_sight q) looks onward in
      let slots : q.slots ≡ p.slots = ap (λ (s : Setting). s.slots) (setting_kept looks.onward) in
      let st = first_state r in
      let may = next_may_fill db k a lt is (declarable db spelled) q.slots (after (cells_sight q) st) kept v.0.shows v.1
      (omega (arith, slots, lt, room))
      (resolved.2 st (opening (front k db)) v.0) in
      let made = fills st (opening (front k db)) (first_matches r) v.0 may in
      let entry : Held = record { slot = k; entry = record { rank = 100 * (k + 1); assertion = a } } in
      let one : ShowsHeld q.slots (after (cells_sight r) st) (added (opening (front k db)) (100 * (k + 1)) a) (first_held ++ entry ∷ []) =
      (made.0, made.1 ∙ ap (λ (ps : List Held). ps ++ entry ∷ []) v.1) in
      let two : ShowsHeld p.slots (now_state r) (added (opening (front k db)) (100 * (k + 1)) a) (first_held ++ entry ∷ []) =
      subst (λ n. ShowsHeld n (now_state r) (added (opening (front k db)) (100 * (k + 1)) a) (first_held ++ entry ∷ [])) slots
      (subst (λ (x : State). ShowsHeld q.slots x (added (opening (front k db)) (100 * (k + 1)) a) (first_held ++ entry ∷ []))
      (after_first r) one) in
      subst (λ (ps : List Held). ShowsHeld p.slots (now_state r) (opening (front (k + 1) db)) ps) (sym (held_next db k a lt is))
      (subst (λ (lib : List Ranked). ShowsHeld p.slots (now_state r) lib (first_held ++ entry ∷ [])) (sym (opening_next db k a lt is)) two)

  pub shows_some : (r : PlainCells) → cells_setting r ≡ cells_setting p
      → ShowsHeld p.slots (now_state r) (opening (front (k + 1) db)) (held_from 0 (opening (front (k + 1) db)))
      → ShowsSome (cells_setting r) r.values.items r.store.items r.ranges.items
  shows_some r same h = (
    opening (front (k + 1) db),
    subst (λ (s : Setting). Shows s.slots (now_state r) (opening (front (k + 1) db))) (sym same) h.0,
    verifies (k + 1) r same,
  )
