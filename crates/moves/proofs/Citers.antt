-- Which assertions cite the one in a slot: their ranks are higher, stored steps tell them, and they are looked for slot by slot.
use Rattle.std.proofs.Common.{◌≡◌, ◌<◌, ◌≤◌, ◌+◌, ℕ, Bool, true, false, List, [], ◌∷◌, Some, refl, sym, ap}
use Rattle.std.proofs.Common.{subst, ◌∙◌, inl, inr, arith, below_more}
use Rattle.std.specs.Prelude.{◌↔◌, ◌&&◌, IsTrue, nat_le, All, Contains}
use Rattle.std.specs.List.{list_any}
use Rattle.std.proofs.lemmas.Bool.{cases_Bool, both_ways, and_from, or_cases, false_from_ne_true, le-leb, lt-leb}
use Rattle.std.proofs.lemmas.List.Elements.{All-head, All-tail, All-contains}
use Rattle.std.proofs.lemmas.List.Folds.{list_any_none}
use Rattle.mmsyntax.specs.declared.statement.Assertion.{Assertion}
use Rattle.mmsyntax.specs.declared.statement.Frame.{Frame}
use Rattle.mmsyntax.specs.declared.statement.Kind.{Kind}
use Rattle.mmsyntax.specs.declared.statement.Kind.TheVariants.{Axiom, Theorem}
use Rattle.mmsyntax.specs.declared.statement.Step.{Step}
use Rattle.mmsyntax.specs.declared.statement.Step.TheVariants.{Float, Hyp, Cite}
use Rattle.mmsyntax.specs.Tables.{Tables}
use Rattle.mmsyntax.specs.Assertions.{Fits}
use Rattle.mmsyntax.proofs.Names.{same_bytes}
use Rattle.derivation.specs.Derivation.{Citable, Proves}
use Rattle.library.specs.declared.library.Ranked.{Ranked}
use Rattle.library.specs.Library.{Setting, Verifies, label_of, lower, citable}
use Rattle.library.specs.Edits.{cites, citers, is_citation}
use Rattle.library.proofs.Citations.{none_contained}
use Rattle.library.proofs.Counts.{none_from_count}
use Rattle.library.proofs.Derivations.{NamesOne, steps_named}
use Rattle.library.proofs.Frames.{frame_found}
use Rattle.library.proofs.Lower.{lower_all}
use Rattle.library.proofs.Places.{is_labelled-own, found_own, found_one}
use Rattle.library.proofs.Showing.{ChecksIn}
use Rattle.bodystore.specs.declared.stored.StoredStep.{StoredStep}
use Rattle.bodystore.specs.declared.stored.StoredStep.TheVariants as stored
use Rattle.ranges.specs.Ranges.{Has}
use Rattle.cells.specs.Shows.{AreStoredAs, Holds}
use Rattle.cells.specs.Slots.{rank_cell}
use Rattle.cells.specs.State.{State}
use Rattle.cells.specs.Sight.{Sight, Matches, Looks, after}
use Rattle.cells.specs.Lookups.{ForEach, ForEachHeld}
use Rattle.cells.proofs.Found.{held_holds, entry_slot}
use Rattle.cells.proofs.Holders.{held_or_empty, holds_it, listed}
use Rattle.ranges.proofs.Members.{has_from_contains, contains_from_has, all_from_has, any_has}
use Rattle.cells.proofs.Sights.{for_each_later}
use Rattle.cells.proofs.Holding.{stored_cites, cites_stored}
use Rattle.moves.specs.Citers.{TellsCitedUpTo, TellsCitesUpTo, IsUncited}
use Rattle.groundwork.proofs.Holders.{held_here}

-- ---- ranks

-- steps that name something, and cite the label, have a frame for it
frame_cited : (lib : Citable) (p : Tables) (a : Assertion) (label : List ℕ) (steps : List Step) → All (NamesOne lib p a) steps
    → list_any (is_citation label) steps ≡ true → (f : Frame) × (lib label ≡ Some f)
frame_cited lib p a label [] named cited = absurd (both_ways false refl cited)
frame_cited lib p a label (x ∷ steps) named cited =
    elim (or_cases (is_citation label x) (list_any (is_citation label) steps) cited) [
      | inl here ↦ one x (All-head (NamesOne lib p a) x steps named) here
      | inr later ↦ frame_cited lib p a label steps (All-tail (NamesOne lib p a) x steps named) later
    ]
  where
    one : (x : Step) → NamesOne lib p a x → is_citation label x ≡ true → (f : Frame) × (lib label ≡ Some f)
    one (Float i) names here = absurd (both_ways false refl here)
    one (Hyp k) names here = absurd (both_ways false refl here)
    one (Cite l) names here = (names.0, ap lib (same_bytes label l here) ∙ names.1)

-- an assertion that cites another is above it
pub citer_above : (s : Setting) (lib : List Ranked) (e f : Ranked) → Verifies s lib → Contains lib e → Contains lib f
    → cites (label_of e) f ≡ true
    → e.rank < f.rank
citer_above s lib e f v e_in f_in cited = by_kind f.assertion.kind refl
  where
    above : Proves (citable s lib f.rank) s.prelude f.assertion f.assertion.proof f.assertion.statement → e.rank < f.rank
    above proves =
        let named = steps_named (citable s lib f.rank) s.prelude f.assertion f.assertion.proof f.assertion.statement proves in
        let framed = frame_cited (citable s lib f.rank) s.prelude f.assertion (label_of e) f.assertion.proof named cited in
        let found = frame_found s.prelude (lower lib f.rank) (label_of e) framed.0 framed.1 in
        let Below = λ (a : Assertion). a.label ≡ label_of e → e.rank < f.rank in
        let all = lower_all Below lib f.rank (λ g g_in lt own.
        let same =
        found_one lib (label_of e) e g v.library.distinct (found_own lib e v.library.distinct e_in) g_in
        (is_labelled-own (label_of e) g own) in
        subst (λ (x : Ranked). x.rank < f.rank) same lt) in
        All-contains Below (lower lib f.rank) found.0 all found.1 found.2

    by_kind : (kind : Kind) → f.assertion.kind ≡ kind → e.rank < f.rank
    by_kind Axiom is =
        let fits = All-contains (λ (g : Ranked). Fits s.prelude g.assertion) lib f v.fit f_in in
        absurd (both_ways false refl (sym (ap (list_any (is_citation (label_of e))) (fits.no_axiom_proof is)) ∙ cited))
    by_kind Theorem is = above (All-contains (ChecksIn s lib) lib f v.checks f_in is)

-- whether an assertion cites the label and isn't above the rank
abbrev pub cites_up_to : List ℕ → ℕ → Ranked → Bool
cites_up_to label rank f = cites label f && nat_le f.rank rank

pub not_up_to : (label : List ℕ) (rank : ℕ) (f : Ranked) → (cites label f ≡ true → rank < f.rank) → cites_up_to label rank f ≡ false
not_up_to label rank f above =
    elim (cases_Bool (cites label f)) [
      | inl so ↦
          let over = lt-leb f.rank rank (above so) in
          λ j. so j && over j
      | inr other ↦ ap (λ b. b && nat_le f.rank rank) other
    ]

pub none_up_to : (lib : List Ranked) (label : List ℕ) (rank : ℕ) → ((f : Ranked) → Contains lib f → cites_up_to label rank f ≡ false)
    → list_any (cites_up_to label rank) lib ≡ false
none_up_to lib label rank each =
    list_any_none (cites_up_to label rank) lib
    (all_from_has (λ (f : Ranked). cites_up_to label rank f ≡ false) lib (λ f h. each f (contains_from_has lib f h)))

-- ---- stored steps

-- whether the proof of the assertion in the one slot cites that of the other
abbrev pub TellsCites : {O : Type 0} → Sight O → ℕ → ℕ → Bool → Type 0
TellsCites s citing cited b =
    ForEachHeld s citing (λ st lib f. (e : Ranked) → Contains lib e → Holds s.setting.slots st lib cited e → b ≡ cites (label_of e) f)

-- steps that are stored cite the assertion in a slot exactly where the stored ones have the slot
pub cites_told : {O : Type 0} → (s : Sight O) (citing cited : ℕ) (kept : List StoredStep) (b : Bool)
    → ForEachHeld s citing (λ st lib f. AreStoredAs s.setting.slots st f.assertion.proof kept)
    → (IsTrue b ↔ Contains kept (stored.Slot cited)) → TellsCites s citing cited b
cites_told s citing cited kept b each iff st lib v f f_in f_held e e_in e_held =
    let slots = s.setting.slots in
    let now = after s st in
    let store = v.matches.store in
    let apart = v.verifies.library.distinct in
    let p = held_here slots now lib v.shows store apart cited e e_in e_held in
    let steps = f.assertion.proof in
    let kept_as = each st lib v f f_in f_held in
    subst (λ (x : Ranked). b ≡ list_any (is_citation (label_of x)) steps) p.3
    (elim (cases_Bool b) [
      | inl so ↦
          let has = subst (λ n. Has (stored.Slot n) kept) (sym p.2) (has_from_contains kept (stored.Slot cited) (iff.0 so)) in
          so ∙ sym (stored_cites slots now lib v.shows store p.0 p.1 steps kept kept_as has)
      | inr other ↦
          other ∙ sym (false_from_ne_true (list_any (is_citation (label_of p.0.entry)) steps) (λ z.
          let has = cites_stored slots now lib v.shows store apart p.0 p.1 steps kept kept_as z in
          both_ways b other (iff.1 (contains_from_has kept (stored.Slot cited) (subst (λ n. Has (stored.Slot n) kept) p.2 has)))))
    ])

-- ---- slot by slot

module _ (slots i limit : ℕ) where
  -- what the slots below k hold doesn't cite what the slot i holds, or is above the limit
  abbrev pub AreUncited : ℕ → State → List Ranked → Type 0
  AreUncited k st lib = (j : ℕ) → j < k → IsUncited slots i limit j st lib

module _ {O : Type 0} (s : Sight O) (i limit : ℕ) where
  pub all_uncited : (slots k : ℕ) → slots ≡ s.setting.slots → slots ≤ k → ForEach s (AreUncited slots i limit k)
      → TellsCitedUpTo s i limit false
  all_uncited slots k is past each st lib v e e_in e_held =
      sym (none_up_to lib (label_of e) limit (λ f f_in.
      let p = entry_slot s.setting.slots (after s st) lib v.shows f (has_from_contains lib f f_in) in
      let held = held_holds s.setting.slots (after s st) lib v.shows p.0 p.1 in
      let holds = subst (Holds s.setting.slots (after s st) lib p.0.slot) p.2 held in
      let within = holds.name.within in
      let uncited = subst (λ n. AreUncited n i limit k (after s st) lib) is (each st lib v) in
      uncited p.0.slot (omega (arith, within, past, is)) e f e_in e_held f_in holds))

  -- nothing that isn't above what the slot holds cites it
  pub low_uncited : (current : ℕ) → ForEachHeld s i (λ st lib e. current ≡ e.rank) → limit ≤ current → TellsCitedUpTo s i limit false
  low_uncited current ranked low st lib v e e_in e_held =
      let own = ranked st lib v e e_in e_held in
      sym (none_up_to lib (label_of e) limit (λ f f_in.
      not_up_to (label_of e) limit f (λ cited.
      let above = citer_above s.setting lib e f v.verifies e_in f_in cited in omega (arith, above, own, low))))

  -- nor anything at all, where it has no citer
  pub count_uncited : (n : ℕ) → n ≡ 0 → ForEachHeld s i (λ st lib e. n ≡ citers lib (label_of e)) → TellsCitedUpTo s i limit false
  count_uncited n none counted st lib v e e_in e_held =
      let free = none_from_count (cites (label_of e)) lib (sym (counted st lib v e e_in e_held) ∙ none) in
      sym (none_up_to lib (label_of e) limit (λ f f_in.
      not_up_to (label_of e) limit f (λ cited.
      absurd (both_ways (cites (label_of e) f) (none_contained (cites (label_of e)) lib f free f_in) cited))))

  -- one whose proof doesn't cite it
  pub one_other : (j : ℕ) → TellsCites s j i false → ForEach s (IsUncited s.setting.slots i limit j)
  one_other j told st lib v e f e_in e_held f_in f_held =
      not_up_to (label_of e) limit f (λ cited.
      absurd (both_ways (cites (label_of e) f) (sym (told st lib v f f_in f_held e e_in e_held)) cited))

  -- the value of the rank cell of a slot
  module _ (j rank : ℕ) (ranked : (st : State) → Matches s st → rank ≡ (after s st).value (rank_cell j)) where
    pub one_low : (current : ℕ) → ForEachHeld s i (λ st lib e. current ≡ e.rank) → rank ≤ current
        → ForEach s (IsUncited s.setting.slots i limit j)
    one_low current own low st lib v e f e_in e_held f_in f_held =
        let current_is = own st lib v e e_in e_held in
        let rank_is = ranked st v.matches ∙ f_held.rank in
        not_up_to (label_of e) limit f (λ cited.
        let above = citer_above s.setting lib e f v.verifies e_in f_in cited in omega (arith, above, current_is, rank_is, low))

    pub one_high : limit < rank → ForEach s (IsUncited s.setting.slots i limit j)
    one_high high st lib v e f e_in e_held f_in f_held =
        let rank_is = ranked st v.matches ∙ f_held.rank in
        not_up_to (label_of e) limit f (λ cited. omega (arith, rank_is, high))

    -- one that cites it is a citer that isn't above the limit; its slot isn't empty, since its rank isn't 0
    pub one_cites : 0 < rank → rank ≤ limit → j < s.setting.slots → TellsCites s j i true → TellsCitedUpTo s i limit true
    one_cites some low within told st lib v e e_in e_held =
        let slots = s.setting.slots in
        let value = ranked st v.matches in
        elim (held_or_empty s.setting.slots (after s st) lib v.shows j within) [
          | inl h ↦
              let f = h.0.entry in
              let f_in = listed s.setting.slots (after s st) lib v.shows h.0 h.1.0 in
              let there = holds_it s.setting.slots (after s st) lib v.shows h.0 h.1.0 in
              let f_held = subst (λ n. Holds s.setting.slots (after s st) lib n h.0.entry) h.1.1 there in
              let cited = told st lib v f f_in f_held e e_in e_held in
              let up = le-leb f.rank limit (let is = f_held.rank in omega (arith, is, value, low)) in
              sym (any_has (cites_up_to (label_of e) limit) lib f (has_from_contains lib f f_in)
              (and_from (cites (label_of e) f) (nat_le f.rank limit) (sym cited) up))
          | inr h ↦ let none = h.rank in absurd (omega (arith, none, value, some))
        ]

    -- whether one whose proof was looked at is such a citer
    pub cites_within : 0 < rank → rank ≤ limit → j < s.setting.slots → (b : Bool) → TellsCites s j i b → TellsCitesUpTo s j i limit b
    cites_within some low within true told = one_cites some low within told
    cites_within some low within false told = one_other j told

  -- one slot more
  pub more_uncited : (r : Sight O) (slots k : ℕ) → slots ≡ s.setting.slots → Looks r s → ForEach r (AreUncited slots i limit k)
      → ForEach s (IsUncited s.setting.slots i limit k) → ForEach s (AreUncited slots i limit (k + 1))
  more_uncited r slots k is looks each one st lib v =
      below_more (λ j. IsUncited slots i limit j (after s st) lib) k (for_each_later r s (AreUncited slots i limit k) looks each st lib v)
      (subst (λ n. IsUncited n i limit k (after s st) lib) (sym is) (one st lib v))
