-- Which cells `move` reads, and for which it keeps values aside, from what its parts do.
use Rattle.std.proofs.Common.{◌≡◌, ◌≢◌, ◌<◌, ◌≤◌, ◌⊎◌, ℕ, List, Some, sym, ap, subst, ◌∙◌, inl, inr, ⊎_elim}
use Rattle.library.specs.declared.library.Ranked.{Ranked}
use Rattle.library.specs.declared.command.Command.TheVariants.{Move}
use Rattle.library.specs.Library.{Setting, label_of}
use Rattle.library.specs.Edits.{citers}
use Rattle.library.proofs.Places.{found_in}
use Rattle.bodystore.specs.declared.stored.StoredStep.{StoredStep}
use Rattle.cells.specs.State.{State}
use Rattle.cells.specs.Slots.{proof_cell, rank_cell, citers_cell}
use Rattle.cells.specs.Shows.{AreStoredAs, Holds}
use Rattle.cells.specs.Sight.{Sight, Matches, Onward, Looks, ReadsWithin, after}
use Rattle.cells.specs.Footprints.{ReadsWhere, IsOfLook}
use Rattle.cells.specs.Lookups.{ForEach, ForEachHeld, Finds, IsFoundAt}
use Rattle.cells.specs.Aside.{KeepsAside}
use Rattle.cells.proofs.Asking.{asks_wider, asks_more}
use Rattle.cells.proofs.Along.{where_more, where_trans}
use Rattle.cells.proofs.AskingSteps.{cited_slot}
use Rattle.cells.proofs.ReadBack.{held_later}
use Rattle.cells.proofs.Sights.{matches_back, after_looks, for_each_later, setting_kept}
use Rattle.groundwork.specs.Footprints.{IsOfRanks, IsOfRise, IsOfMoving, IsReadByMove, IsRankOfCited, IsRankOfSteps, ReadsFor}
use Rattle.groundwork.specs.Touches.{KeepsTo}
use Rattle.cells.proofs.Resolving.{finds_after}
use Rattle.groundwork.proofs.Seeing.{views_later}

-- ---- whether a citer stands in the way

-- the rank of a slot is read
pub rank_read : {O : Type 0} → {cell : ℕ} → (slots low high j : ℕ) (r s t : Sight O) → ReadsWhere (IsOfRanks slots low high) r s
    → Onward s t
    → j < slots → cell ≡ rank_cell j → ReadsWithin (λ c. c ≡ cell) s t → ReadsWhere (IsOfRanks slots low high) r t
rank_read slots low high j r s t before on lt at read = where_more before on read (λ st m c is. (j, lt, inl (is ∙ at)))

-- and its proof, where the rank is between
pub proof_read : {O : Type 0} → (slots low high j rank : ℕ) (r s t : Sight O) → ReadsWhere (IsOfRanks slots low high) r s → Looks r s
    → Onward s t
    → j < slots → ((st : State) → Matches s st → rank ≡ (after s st).value (rank_cell j)) → low < rank → rank ≤ high
    → ReadsWithin (λ c. c ≡ proof_cell j) s t → ReadsWhere (IsOfRanks slots low high) r t
proof_read slots low high j rank r s t before looks on lt value above below read =
    where_more before on read (λ st m c is.
    let there : rank ≡ (after r st).value (rank_cell j) =
    value st m ∙ ap (λ (x : State). x.value (rank_cell j)) (after_looks r s st looks) in
    (j, lt, inr (subst (λ (n : ℕ). low < n) there above, subst (λ (n : ℕ). n ≤ high) there below, is)))

-- and so of another slot
pub ranks_more : {O : Type 0} → (slots low high : ℕ) (r s t : Sight O) → ReadsWhere (IsOfRanks slots low high) r s → Looks r s
    → Onward s t → s.setting.slots ≡ slots → ReadsWhere (IsOfRanks s.setting.slots low high) s t → ReadsWhere (IsOfRanks slots low high) r t
ranks_more slots low high r s t before looks on same reads =
    where_trans before looks on (subst (λ n. ReadsWhere (IsOfRanks n low high) s t) same reads) (λ st c is. is)

-- the rank goes up, and something cites the assertion: ranks are read, and proofs
pub rise_within : {O : Type 0} → (r s t : Sight O) (i limit current n : ℕ) → Looks r s → Looks s t
    → ReadsWithin (λ c. (c ≡ rank_cell i) ⊎ (c ≡ citers_cell i)) r s → ForEachHeld s i (λ st lib e. current ≡ e.rank)
    → ForEachHeld s i (λ st lib e. n ≡ citers lib (label_of e)) → current < limit → n ≢ 0
    → ReadsWhere (IsOfRanks r.setting.slots current limit) s t
    → ForEachHeld t i (λ st lib e. ReadsWithin (IsOfRise r.setting.slots st lib i e limit) r t)
rise_within r s t i limit current n first looks own ranked counted up some ranks st lib v e at h =
    let is = held_later s t i (λ x l f. current ≡ f.rank) looks ranked st lib v e at h in
    let count = held_later s t i (λ x l f. n ≡ citers l (label_of f)) looks counted st lib v e at h in
    asks_more (asks_wider (λ c k. ⊎_elim (λ rank. inl rank) (λ cited. inr (inl cited)) k) own)
    (λ c k. inr (inr (
      subst (λ m. m < limit) is up,
      (λ none. some (count ∙ none)),
      subst (λ m. IsOfRanks r.setting.slots m limit (after t st) c) is
          (subst (λ (x : State). IsOfRanks r.setting.slots current limit x c) (sym (after_looks s t st looks)) k),
    )))
    (ranks.each st v.matches)

-- ---- one part after another

-- what was read by looks since the command began
abbrev pub MovesSo : {O : Type 0} → List ℕ → ℕ → Sight O → Sight O → Type 0
MovesSo label rank old s = ForEach s (λ st lib. ReadsWithin (IsReadByMove old.setting.slots st lib label rank) old s)

module _ {O : Type 0} (old : Sight O) (label : List ℕ) (rank : ℕ) where
  pub move_looks : (s : Sight O) → Looks old s → ReadsWhere (IsOfLook old.setting.slots label) old s → MovesSo label rank old s
  move_looks s looks reads st lib v =
      asks_wider (λ c is. inl (subst (λ (x : State). IsOfLook old.setting.slots label x c) (sym (after_looks old s st looks)) is))
      (reads.each st v.matches)

  -- cells are read that are of the assertion in the slot
  pub move_more : (s t : Sight O) (i : ℕ) (such : State → List Ranked → Ranked → ℕ → Type 0) → Looks old s → Looks s t
      → Finds s label (Some i)
      → MovesSo label rank old s → ForEachHeld t i (λ st lib e. ReadsWithin (such st lib e) s t)
      → ((st : State) (lib : List Ranked) (e : Ranked) (c : ℕ) → such st lib e c → IsOfMoving old.setting.slots st lib i e rank c)
      → MovesSo label rank old t
  move_more s t i such first looks finds before reads wider st lib v =
      let here = (finds_after s t label i looks finds).1 st lib v in
      let same = setting_kept looks.onward ∙ setting_kept first.onward in
      let at : IsFoundAt old.setting.slots (after t st) lib label i =
      subst (λ (x : Setting). IsFoundAt x.slots (after t st) lib label i) same here in
      asks_more (for_each_later s t (λ x l. ReadsWithin (IsReadByMove old.setting.slots x l label rank) old s) looks before st lib v)
      (λ c is. inr (i, at, wider (after t st) lib at.entry c is))
      (reads st lib v at.entry (found_in lib label at.entry at.found).0
      (subst (λ (x : Setting). Holds x.slots (after t st) lib i at.entry) (sym same) at.holds))

  -- where it ends with looks
  pub move_now : (t : Sight O) → Looks old t → MovesSo label rank old t → ReadsFor old t (Move label rank)
  move_now t looks before st lib m v =
      subst (λ (x : State). ReadsWithin (IsReadByMove old.setting.slots x lib label rank) old t) (after_looks old t st looks)
      (before st lib (views_later old t st lib looks m v))

  -- and then one that is put
  pub move_put : (t u : Sight O) (i : ℕ) → Looks old t → Onward t u → Finds t label (Some i) → MovesSo label rank old t
      → ReadsWithin (λ c. c ≡ rank_cell i) t u → ReadsFor old u (Move label rank)
  move_put t u i looks on finds before put st lib m v =
      let back = matches_back t u st on m in
      let now = views_later old t st lib looks back v in
      let at : IsFoundAt old.setting.slots (after old st) lib label i =
      subst (λ (x : State). IsFoundAt old.setting.slots x lib label i) (after_looks old t st looks)
      (subst (λ (x : Setting). IsFoundAt x.slots (after t st) lib label i) (setting_kept looks.onward) (finds.1 st lib now)) in
      asks_more (move_now t looks before st lib back v) (λ c is. inr (i, at, inr (inr (inl is)))) put

  -- the ranks of what its proof cites are read
  pub ranks_within : (s t : Sight O) (i : ℕ) (kept : List StoredStep)
      → ForEachHeld t i (λ st lib e. AreStoredAs t.setting.slots st e.assertion.proof kept)
      → t.setting ≡ old.setting → ReadsWithin (IsRankOfSteps kept) s t
      → ForEachHeld t i (λ st lib e. ReadsWithin (IsRankOfCited old.setting.slots st lib e.assertion.proof) s t)
  ranks_within s t i kept stored same reads st lib v e at h =
      let are : AreStoredAs old.setting.slots (after t st) e.assertion.proof kept =
      subst (λ (x : Setting). AreStoredAs x.slots (after t st) e.assertion.proof kept) same (stored st lib v e at h) in
      asks_wider (λ c k. let n = cited_slot old.setting.slots e.assertion.proof kept (after t st) k.0 are k.1 in (
        n.0,
        k.0,
        n.1,
        n.2,
        k.2,
      )) reads

-- ---- what is kept aside

pub move_keeps : {O : Type 0} → (s new : Sight O) (i : ℕ) (label : List ℕ) (rank : ℕ)
    → ForEach s (λ st lib. IsFoundAt s.setting.slots st lib label i) → KeepsAside (λ c. c ≡ rank_cell i) s new
    → KeepsTo s new (Move label rank)
move_keeps s new i label rank here within st lib m v c was =
    ⊎_elim (λ before. inl before) (λ is. inr (i, here st lib v, is)) (within c was)
