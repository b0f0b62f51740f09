-- The frames that are noted along the steps of a proof, by the labels that the steps cite.
use Rattle.std.proofs.Common.{◌≡◌, ◌≢◌, ◌⊎◌, ℕ, ◌+◌, ◌<◌, true, false, List, [], ◌∷◌, Option, Some, None, length, get_or, take}
use Rattle.std.proofs.Common.{Bor, refl, sym, ap, subst, ◌∙◌, inl, inr, arith}
use Rattle.std.specs.Prelude.{min}
use Rattle.std.specs.Option.{option_map, is_some}
use Rattle.std.specs.Str.{bytes_eq}
use Rattle.std.proofs.lemmas.Bool.{cases_Bool, both_ways}
use Rattle.std.proofs.lemmas.List.{take_more, take_all}
use Rattle.std.proofs.lemmas.Slice.Zip.{AllZip-long}
use Rattle.mmsyntax.specs.declared.statement.Frame.{Frame}
use Rattle.mmsyntax.specs.declared.statement.Step.{Step}
use Rattle.mmsyntax.specs.declared.statement.Step.TheVariants.{Cite}
use Rattle.mmsyntax.specs.declared.step_ref.StepRef.{StepRef}
use Rattle.mmsyntax.specs.declared.step_ref.StepRef.TheVariants as lent
use Rattle.mmsyntax.specs.ProofWords.{seen_step}
use Rattle.mmsyntax.specs.Tables.{Tables}
use Rattle.mmsyntax.proofs.Names.{same_bytes, bytes_eq-same}
use Rattle.mmframes.specs.Frames.{frame}
use Rattle.derivation.specs.Derivation.{Citable}
use Rattle.library.specs.declared.library.Ranked.{Ranked}
use Rattle.library.specs.Edits.{found}
use Rattle.library.proofs.Places.{found_in}
use Rattle.ranges.specs.Ranges.{Has}
use Rattle.bodystore.specs.declared.stored.StoredStep.{StoredStep}
use Rattle.bodystore.specs.declared.stored.StoredStep.TheVariants as stored
use Rattle.cells.specs.Shows.{IsNamed, IsStoredAs}
use Rattle.cells.specs.Sight.{Sight, Looks, after}
use Rattle.cells.specs.Lookups.{ForEachHeld}
use Rattle.ranges.proofs.Members.{has_append_cases}
use Rattle.cells.proofs.Holders.{found_at}
use Rattle.cells.proofs.ReadBack.{zip_at}
use Rattle.groundwork.specs.Citing.{ForEachStored, NotesFrame, TellsFrames}
use Rattle.groundwork.proofs.CitedRanks.{stored_later}

-- ---- one frame

-- a label that has a frame keeps it
pub notes_none : {O : Type 0} → (s : Sight O) (t : Tables) (i : ℕ) (label : List ℕ) (frames : Citable) → is_some (frames label) ≡ true
    → NotesFrame s t i label frames frames
notes_none s t i label frames there =
    record {
      kept = λ f e. e;
      noted = λ e. absurd (both_ways (is_some (frames label)) (ap is_some e) there);
      others = λ other ne. refl;
    }

-- a label that has none gets one
pub notes_one : {O : Type 0} → (s : Sight O) (t : Tables) (i : ℕ) (label : List ℕ) (old new : Citable) (f : Frame)
    → is_some (old label) ≡ false
    → new label ≡ Some f → ((other : List ℕ) → other ≢ label → new other ≡ old other)
    → ForEachHeld s i (λ st lib e. f ≡ frame t e.assertion) → NotesFrame s t i label old new
notes_one s t i label old new f free is others held =
    record {
      kept = λ g e. absurd (both_ways (is_some (old label)) free (ap is_some e));
      noted = λ e. (f, is, held);
      others = others;
    }

-- ---- the frames of the first steps

-- a label has a frame
abbrev pub HasFrame : Citable → List ℕ → Type 0
HasFrame frames label = (f : Frame) × (frames label ≡ Some f)

-- each frame that is noted is that of the assertion with the label, and each label that the steps cite has one
pub record AreNoted (t : Tables) (lib : List Ranked) (steps : List Step) (frames : Citable) : Type 0 where
  pub right : (label : List ℕ) (f : Frame) → frames label ≡ Some f → (e : Ranked) × (found lib label ≡ Some e) × (f ≡ frame t e.assertion)
  pub all : (label : List ℕ) → Has (Cite label) steps → HasFrame frames label

-- so of the first of the steps, where they are stored as these
abbrev pub FirstAreNoted : {O : Type 0} → Sight O → Tables → List Step → List StoredStep → ℕ → Citable → Type 0
FirstAreNoted s t steps kept i frames = ForEachStored s kept (λ lib xs. xs ≡ steps → AreNoted t lib (take i xs) frames)

pub none_noted : {O : Type 0} → (s : Sight O) (t : Tables) (steps : List Step) (kept : List StoredStep) (frames : Citable)
    → ((label : List ℕ) → frames label ≡ None)
    → FirstAreNoted s t steps kept 0 frames
none_noted s t steps kept frames empty = λ st lib v xs stored is.
    record {
      right = λ label f e. absurd (let z : None ≡ Some f = sym (empty label) ∙ e in cc);
      all = λ label h. absurd h;
    }

frame_or_none : (frames : Citable) (label : List ℕ) → HasFrame frames label ⊎ (frames label ≡ None)
frame_or_none frames label = go (frames label) refl
  where
    go : (o : Option Frame) → frames label ≡ o → HasFrame frames label ⊎ (frames label ≡ None)
    go None e = inr e
    go (Some f) e = inl (f, e)

cases_label : (a b : List ℕ) → (a ≡ b) ⊎ (a ≢ b)
cases_label a b = elim (cases_Bool (bytes_eq a b)) [
  | inl y ↦ inl (same_bytes a b y)
  | inr n ↦ inr (λ e. both_ways (bytes_eq a b) n (subst (λ c. bytes_eq a c ≡ true) e (bytes_eq-same a)))
]

-- a citation further, with the frame noted of the slot that it is stored as
pub noted_more : {O : Type 0} → (s s' : Sight O) (t : Tables) (steps : List Step) (kept : List StoredStep) (i : ℕ) (label : List ℕ)
    (slot : ℕ)
    (old new : Citable)
    (d : Step) (e : StoredStep) → Looks s s' → FirstAreNoted s t steps kept i old → i < length kept → get_or steps i d ≡ Cite label
    → get_or kept i e ≡ stored.Slot slot → NotesFrame s' t slot label old new → FirstAreNoted s' t steps kept (i + 1) new
noted_more s s' t steps kept i label slot old new d e looks each lt cite slot_is notes = λ st lib v xs are_stored is.
    let slots = s'.setting.slots in
    let now = after s' st in
    let named = IsNamed s'.setting.slots (after s' st) in
    let before : AreNoted t lib (take i xs) old =
    stored_later s s' kept (λ l ys. ys ≡ steps → AreNoted t l (take i ys) old) looks each st lib v xs are_stored is in
    let at = zip_at (IsStoredAs named) xs kept i d e are_stored lt in
    let cited : get_or xs i d ≡ Cite label = ap (λ (ys : List Step). get_or ys i d) is ∙ cite in
    let name : IsNamed slots now slot label =
    subst (λ (y : StoredStep). IsStoredAs named (Cite label) y) slot_is
    (subst (λ (x : Step). IsStoredAs named x (get_or kept i e)) cited at.0) in
    let here = found_at slots now lib v.shows v.matches.store slot label v.verifies.library.distinct name in
    let listed = (found_in lib label here.entry here.found).0 in
    let own : HasFrame new label =
    elim (frame_or_none old label) [
      | inl o ↦ (o.0, notes.kept o.0 o.1)
      | inr n ↦ ((notes.noted n).0, (notes.noted n).1)
    ] in
    let own_right : (f : Frame) → new label ≡ Some f → (x : Ranked) × (found lib label ≡ Some x) × (f ≡ frame t x.assertion) =
    λ f is_f.
    elim (frame_or_none old label) [
      | inl o ↦ let same : o.0 ≡ f = let z = notes.kept o.0 o.1 in cc in before.right label f (o.1 ∙ ap (λ (g : Frame). Some g) same)
      | inr n ↦
          let made = notes.noted n in
          let same : f ≡ made.0 = let z = made.1 in cc in
          (here.entry, here.found, same ∙ made.2 st lib v here.entry listed here.holds)
    ] in
    record {
      right = λ l f is_f. elim (cases_label l label) [
        | inl y ↦ subst (λ (m : List ℕ). (x : Ranked) × (found lib m ≡ Some x) × (f ≡ frame t x.assertion)) (sym y)
            (own_right f (ap new (sym y) ∙ is_f))
        | inr ne ↦ before.right l f (sym (notes.others l ne) ∙ is_f)
      ];
      all = λ l h. elim (has_append_cases (take i xs) (get_or xs i d ∷ []) (Cite l) (subst (Has (Cite l)) (take_more xs i d at.1) h)) [
        | inl earlier ↦ elim (cases_label l label) [
          | inl y ↦ subst (HasFrame new) (sym y) own
          | inr ne ↦ ((before.all l earlier).0, notes.others l ne ∙ (before.all l earlier).1)
        ]
        | inr last ↦ elim last [
          | inl y ↦ let same : l ≡ label = let z : Cite l ≡ Cite label = y ∙ cited in cc in subst (HasFrame new) (sym same) own
          | inr none ↦ absurd none
        ]
      ];
    }

-- a step that is lent and that is no citation
pub no_citation : (step : StepRef) (label : List ℕ) → ((l : Bor (List ℕ)) → step ≡ lent.Cite l → ⊥) → seen_step step ≡ Cite label → ⊥
no_citation (lent.Float i) label other is = absurd cc
no_citation (lent.Hyp k) label other is = absurd cc
no_citation (lent.Cite l) label other is = other l refl

-- a step further that is no citation which is stored as a slot
pub noted_past : {O : Type 0} → (s : Sight O) (t : Tables) (steps : List Step) (kept : List StoredStep) (i : ℕ) (frames : Citable)
    (d : Step) (e : StoredStep) → FirstAreNoted s t steps kept i frames → i < length kept
    → ((label : List ℕ) (slot : ℕ) → get_or steps i d ≡ Cite label → get_or kept i e ≡ stored.Slot slot → ⊥)
    → FirstAreNoted s t steps kept (i + 1) frames
noted_past s t steps kept i frames d e each lt other = λ st lib v xs are_stored is.
    let named = IsNamed s.setting.slots (after s st) in
    let before : AreNoted t lib (take i xs) frames = each st lib v xs are_stored is in
    let at = zip_at (IsStoredAs named) xs kept i d e are_stored lt in
    let none : (l : List ℕ) → Cite l ≡ get_or xs i d → ⊥ =
    λ l y. uncited named l (get_or kept i e) (subst (λ (x : Step). IsStoredAs named x (get_or kept i e)) (sym y) at.0)
    (λ slot z. other l slot (sym (y ∙ ap (λ (ys : List Step). get_or ys i d) is)) z) in
    record {
      right = before.right;
      all = λ l h. elim (has_append_cases (take i xs) (get_or xs i d ∷ []) (Cite l) (subst (Has (Cite l)) (take_more xs i d at.1) h)) [
        | inl earlier ↦ before.all l earlier
        | inr last ↦ elim last [ inl y ↦ absurd (none l y) | inr nothing ↦ absurd nothing ]
      ];
    }
  where
    uncited : (named : ℕ → List ℕ → Type 0) (l : List ℕ) (x : StoredStep) → IsStoredAs named (Cite l) x
        → ((slot : ℕ) → x ≡ stored.Slot slot → ⊥) → ⊥
    uncited named l (stored.Float j) h free = h
    uncited named l (stored.Hyp j) h free = h
    uncited named l (stored.Slot j) h free = free j refl

-- at the end
pub all_noted : {O : Type 0} → (s : Sight O) (t : Tables) (steps : List Step) (kept : List StoredStep) (i : ℕ) (frames : Citable)
    → i ≡ min (length steps) (length kept) → FirstAreNoted s t steps kept i frames
    → TellsFrames s t steps kept frames
all_noted s t steps kept i frames n each = λ st lib v are_stored label h.
    let long = AllZip-long (IsStoredAs (IsNamed s.setting.slots (after s st))) steps kept are_stored in
    let all : take i steps ≡ steps = take_all i steps (omega (arith, long, n)) in
    let noted = each st lib v steps are_stored refl in
    let own = noted.all label (subst (Has (Cite label)) (sym all) h) in
    let right = noted.right label own.0 own.1 in
    own.1 ∙ ap (λ (f : Frame). Some f) right.2 ∙ ap (option_map (λ (x : Ranked). frame t x.assertion)) (sym right.1)
